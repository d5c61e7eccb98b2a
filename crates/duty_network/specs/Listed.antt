-- Promise: a list of pieces that is a duty is not empty, rises, and has pieces of the net alone.
use Rattle.std.proofs.Common.{◌≡◌, ◌≢◌, ℕ, ℤ, ◌<◌, ◌-ℤ◌, true, nat_lt, List, [], ◌∷◌, length, Option, Some, None, sym, subst, arith, slice_get}
use Rattle.std.specs.Prelude.{option_and_then}
use Rattle.std.proofs.lemmas.Bool.Decides.{nat_tests}
use Rattle.std.proofs.lemmas.Option.{slice_get_within, same_Some}
use Rattle.std.proofs.lemmas.Bool.{and_parts}
use Rattle.plan_core.specs.declared.types.Piece.{Piece}
use Rattle.plan_core.proofs.Options.{and_then_some, given_some}
use Rattle.cover_core.specs.Cover.{AllBelow, Rises}
use Rattle.cover_core.specs.Plans.{HasListedColumns}
use Rattle.plan_params.specs.declared.rows.group.Group.{Group}
use Rattle.eu561_rules.specs.declared.rules.Drive.{Drive}
use Rattle.eu561_rules.specs.Lawful.{is_lawful}
use Rattle.duty_network.specs.Times.{given, rises, seconds}
use Rattle.duty_network.specs.Duties.{Duty, DutyFacts, begins, cost_of, drives_of, duties, duty_of, ends, limits_of, pieces_at}

rises_rise : (list : List ℕ) → rises list ≡ true → Rises list
rises_rise [] e = tt
rises_rise (x ∷ []) e = tt
rises_rise (x ∷ y ∷ rest) e =
    let parts = and_parts (nat_lt x y) (rises (y ∷ rest)) e in
    let test : nat_lt x y ≡ true = parts.0 in
    let below : x < y = grind (arith, nat_tests) in
    (below, rises_rise (y ∷ rest) parts.1)

pieces_below : (pieces : List Piece) (list : List ℕ) (found : List Piece) → pieces_at pieces list ≡ Some found →
    AllBelow (length pieces) list
pieces_below pieces [] found e = tt
pieces_below pieces (k ∷ ks) found e =
    let first = and_then_some (λ (p : Piece). option_and_then (λ (ps : List Piece). Some (p ∷ ps)) (pieces_at pieces ks))
    (slice_get pieces k) found e in
    let rest = and_then_some (λ (ps : List Piece). Some (first.0 ∷ ps)) (pieces_at pieces ks) found first.2 in
    (slice_get_within pieces k first.0 first.1, pieces_below pieces ks rest.0 rest.1)

none_of_none : (d : DutyFacts) (list : List ℕ) (found : List Piece) (drives : List Drive) → pieces_at d.pieces list ≡ Some found →
    drives_of d found ≡ Some drives → list ≢ []
none_of_none d list found drives at is = λ e.
    let P : List ℕ → Type 0 = λ ks. pieces_at d.pieces ks ≡ Some found in
    let none : found ≡ [] = sym (same_Some [] found (subst P e at)) in
    let Q : List Piece → Type 0 = λ ps. drives_of d ps ≡ Some drives in
    let bad : None ≡ Some drives = subst Q none is in
    cc

abbrev timed : DutyFacts → Group → List Piece → List Drive → Option Duty
timed d g ps drives =
    option_and_then (λ (on : ℤ). option_and_then
    (λ (off : ℤ). option_and_then (λ (spread : ℕ). Some (record { group = g; drives = drives; on = on; off = off; spread = spread }))
    (seconds (off -ℤ on))) (ends d g ps)) (begins d g ps)

-- the law of columns
pub duties_listed : (d : DutyFacts) → HasListedColumns (duties d)
duties_listed d class list worth e =
    let (duty, is_duty, worth_is) =
    and_then_some (λ (duty : Duty). given (is_lawful (limits_of duty.group) duty.drives duty.spread) (Some (cost_of d.counts duty)))
    (duty_of d class list) worth e in
    let (up, e1) = given_some (rises list)
    (option_and_then (λ (g : Group). option_and_then (λ (ps : List Piece). option_and_then (timed d g ps) (drives_of d ps))
    (pieces_at d.pieces list)) (slice_get d.params.groups class)) duty is_duty in
    let (g, is_g, e2) = and_then_some
    (λ (g : Group). option_and_then (λ (ps : List Piece). option_and_then (timed d g ps) (drives_of d ps)) (pieces_at d.pieces list))
    (slice_get d.params.groups class) duty e1 in
    let (ps, is_ps, e3) = and_then_some (λ (ps : List Piece). option_and_then (timed d g ps) (drives_of d ps))
    (pieces_at d.pieces list) duty e2 in
    let (drives, is_drives, e4) = and_then_some (timed d g ps) (drives_of d ps) duty e3 in
    (none_of_none d list ps drives is_ps is_drives, rises_rise list up, pieces_below d.pieces list ps is_ps)
