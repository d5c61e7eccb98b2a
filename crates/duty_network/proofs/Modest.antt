-- Duties are worth little: a lawful duty lasts at most 15 hours, so its fixed cost and its seconds at its rate are low.
use Rattle.std.proofs.Common.{◌≡◌, ℕ, ℤ, ◌≤◌, ◌-ℤ◌, Bool, true, false, cond, ◌&&◌, nat_le, zero, suc, List, [], ◌∷◌, All, Option, Some, None, refl, ap, subst, ◌∙◌, arith, slice_get, mul-le-mul}
use Rattle.std.specs.Prelude.{option_and_then, IfSome}
use Rattle.std.proofs.lemmas.List.Elements.{All-head, All-map, All-tail, All-weaker}
use Rattle.std.proofs.lemmas.Bool.{and_parts}
use Rattle.cover_core.specs.Ranges.{HasFewPlaces, HasModestWorths}
use Rattle.plan_core.specs.declared.types.Piece.{Piece}
use Rattle.plan_params.specs.declared.rows.group.Group.{Group}
use Rattle.plan_params.specs.Limits.{IsGroup}
use Rattle.eu561_rules.specs.declared.rules.Drive.{Drive}
use Rattle.eu561_rules.specs.declared.rules.Limits.{Limits}
use Rattle.eu561_rules.specs.Duty.{driving_of, has_long_pause, spread_limit}
use Rattle.eu561_rules.specs.Lawful.{is_lawful, keeps_article7}
use Rattle.eu561_rules.proofs.Runs.{true-le}
use Rattle.duty_network.specs.Times.{seconds}
use Rattle.duty_network.specs.Duties.{Duty, DutyFacts, begins, cost_of, drives_of, duties, duty_of, duty_worth, ends, limits_of, pieces_at}
use Rattle.duty_network.specs.Ranges.{NetFits}
use Rattle.duty_network.proofs.Better.{Some-same, and_then-Some, given-Some}

group-at : (gs : List Group) (i : ℕ) (g : Group) → All IsGroup gs → slice_get gs i ≡ Some g → IsGroup g
group-at [] i g all is = absurd (cc)
group-at (x ∷ xs) zero g all is = let P : Group → Type 0 = IsGroup in subst P (Some-same x g is) (All-head IsGroup x xs all)
group-at (x ∷ xs) (suc i) g all is = group-at xs i g (All-tail IsGroup x xs all) is

timed-group : (d : DutyFacts) (g : Group) (ps : List Piece) (drives : List Drive) (duty : Duty) →
    option_and_then (λ (on : ℤ). option_and_then
    (λ (off : ℤ). option_and_then (λ (spread : ℕ). Some (record { group = g; drives = drives; on = on; off = off; spread = spread }))
    (seconds (off -ℤ on))) (ends d g ps)) (begins d g ps) ≡ Some duty → g ≡ duty.group
timed-group d g ps drives duty e =
    let (on, is_on, e1) = and_then-Some _ (begins d g ps) duty e in
    let (off, is_off, e2) = and_then-Some _ (ends d g ps) duty e1 in
    let (spread, is_spread, e3) = and_then-Some _ (seconds (off -ℤ on)) duty e2 in
    ap (λ (x : Duty). x.group) (Some-same _ duty e3)

duty-group : (d : DutyFacts) (class : ℕ) (list : List ℕ) (duty : Duty) → duty_of d class list ≡ Some duty →
    slice_get d.params.groups class ≡ Some duty.group
duty-group d class list duty e =
    let (up, e1) = given-Some _ _ duty e in
    let (g, is_g, e2) = and_then-Some _ (slice_get d.params.groups class) duty e1 in
    let (ps, is_ps, e3) = and_then-Some _ (pieces_at d.pieces list) duty e2 in
    let (drives, is_drives, e4) = and_then-Some _ (drives_of d ps) duty e3 in
    is_g ∙ ap Some (timed-group d g ps drives duty e4)

spread-low : (g : Group) (drives : List Drive) → spread_limit (limits_of g) drives ≤ 54000
spread-low g drives =
    elim (has_long_pause (limits_of g) drives) as (λ b. cond b 54000 (cond g.reduced 54000 46800) ≤ 54000) [
      | true ↦ omega arith
      | false ↦ elim g.reduced as (λ b. cond b 54000 46800 ≤ 54000) [ true ↦ omega arith | false ↦ omega arith ]
    ]

cost-low : (counts : Bool) (duty : Duty) → IsGroup duty.group → duty.spread ≤ 54000 → cost_of counts duty ≤ 4000000000
cost-low true duty is low = omega arith
cost-low false duty is low = let most = mul-le-mul is.rate low in let fixed = is.fixed in omega (arith, most, fixed)

pub duty-low : (d : DutyFacts) (class : ℕ) (list : List ℕ) → NetFits d → IfSome (duty_worth d class list) (λ worth. worth ≤ 4000000000)
duty-low d class list fits = low (duty_worth d class list) refl
  where
    low : (o : Option ℕ) → duty_worth d class list ≡ o → IfSome o (λ worth. worth ≤ 4000000000)
    low None e = tt
    low (Some worth) e =
        let (duty, is_duty, e1) = and_then-Some _ (duty_of d class list) worth e in
        let limits : Limits = limits_of duty.group in
        let (lawful, same) = given-Some (is_lawful limits duty.drives duty.spread) (Some (cost_of d.counts duty)) worth e1 in
        let (rest, spread) = and_parts (nat_le (driving_of duty.drives) limits.day && keeps_article7 limits duty.drives)
        (nat_le duty.spread (spread_limit limits duty.drives)) lawful in
        let short : duty.spread ≤ spread_limit limits duty.drives = true-le duty.spread (spread_limit limits duty.drives) spread in
        let most = spread-low duty.group duty.drives in
        let cheap = cost-low d.counts duty
        (group-at d.params.groups class duty.group fits.params.groups (duty-group d class list duty is_duty))
        (omega (arith, short, most)) in
        let is : cost_of d.counts duty ≡ worth = Some-same _ worth same in
        omega (arith, cheap, is)

-- the worths of the duties of a net
pub modest_duties : (d : DutyFacts) → NetFits d → HasModestWorths (duties d)
modest_duties d fits class list there = duty-low d class list fits

-- no group has more than 10,000 drivers
pub few_drivers : (d : DutyFacts) → NetFits d → HasFewPlaces (duties d)
few_drivers d fits =
    let groups = d.params.groups in
    All-map (λ cap. cap ≤ 10000) (λ (g : Group). g.cap) groups
    (All-weaker IsGroup (λ (g : Group). g.cap ≤ 10000) (λ g is. is.cap) groups fits.params.groups)
