-- Tables have one roster or one fault. The first day of duties is a day of theirs that is not after any, so two first days have one
-- number and are one day; and days that lie far apart are no roster's, since any two of a roster's days are near.
use Rattle.std.proofs.Common.{◌≡◌, ◌≢◌, ℕ, ◌<◌, ◌^◌, ◌⊎◌, inl, inr, All, Bool, true, false, if◌then◌else◌, List, [], ◌∷◌, length, get_or, Option, Some, None, Result, Ok, Err, ℤ, pos, ◌+ℤ◌, ◌≤ℤ◌, refl, sym, ap, subst, ◌∙◌, arith}
use Rattle.std.specs.Prelude.{◌==◌, AllPairs}
use Rattle.std.specs.List.{find, list_any}
use Rattle.std.proofs.lemmas.List.{length-map}
use Rattle.std.proofs.lemmas.List.Elements.{All-head, All-tail}
use Rattle.std.proofs.lemmas.Bool.{cases_order, eqb-true}
use Rattle.std.proofs.lemmas.List.Folds.{Any-from_list_any}
use Rattle.jiff_core.proofs.SignedLemmas.{signed_arith}
use Rattle.vdv451_text.specs.declared.table.Table.{Table}
use Rattle.vdv452_rows.specs.declared.fault.TableFault.{TableFault}
use Rattle.vdv452_rows.specs.Rows.{first, has_name}
use Rattle.week_check.specs.declared.fault.RosterFault.{RosterFault}
use Rattle.week_check.specs.declared.fault.RosterFault.TheVariants.{Table as Wrong, Days, Memory}
use Rattle.week_check.specs.declared.turn.Turn.{Turn}
use Rattle.week_check.specs.Days.{IsDay, number_of}
use Rattle.week_check.specs.Duties.{AreNear, IsRoster, IsTurn}
use Rattle.week_check.specs.Roster.{AreFar, IsFirstDay, IsLastDay, faults_in, fields_in, roster_faults, roster_name, roster_of, row_faults, row_turn, rows_in, turns_in, turns_of}
use Rattle.week_check.specs.RosterAnswers.{IsAnswer}
use Rattle.week_check.proofs.Adding.{at_place}
use Rattle.week_check.proofs.Apart.{AreRows, are_rows, both_none}
use Rattle.week_check.proofs.OneList.{one_day}

-- a duty of the day
record Found (turns : List Turn) (day : ℕ) : Type 0 where
  at : ℕ
  turn : Turn
  within : at < length turns
  is : get_or turns at turn ≡ turn
  on : turn.day ≡ day

found : (turns : List Turn) (day : ℕ) → list_any (λ (t : Turn). t.day == day) turns ≡ true → Found turns day
found turns day there =
    let any = Any-from_list_any (λ (t : Turn). t.day == day) turns there in
    record { at = any.0; turn = any.1; within = any.2; is = any.3; on = eqb-true any.1.day day any.4 }

-- what holds of the day of each duty holds of a day that is found
of_found : (P : ℕ → Type 0) (turns : List Turn) (day : ℕ) → All (λ (t : Turn). P t.day) turns → Found turns day → P day
of_found P turns day all f = subst P f.on (subst (λ (t : Turn). P t.day) f.is (all f.at f.turn f.within))

civil_days : (turns : List Turn) → All IsTurn turns → All (λ (t : Turn). IsDay t.day) turns
civil_days turns each = λ k d within. (each k d within).day.civil

one_by : (a b : ℕ) → IsDay a → IsDay b → number_of a ≤ℤ number_of b → number_of b ≤ℤ number_of a → a ≡ b
one_by a b first second low high = one_day a b first second (omega (arith, signed_arith, low, high))

-- Duties have one first day. Each of two first days is a duty's, and no duty's day is before the other; so neither is before the
-- other, and they have one number. The last day goes the same way below.
first_one : (turns : List Turn) (a b : ℕ) → All IsTurn turns → IsFirstDay turns a → IsFirstDay turns b → a ≡ b
first_one turns a b each x y =
    let f = found turns a x.there in
    let g = found turns b y.there in
    one_by a b (of_found IsDay turns a (civil_days turns each) f) (of_found IsDay turns b (civil_days turns each) g)
    (of_found (λ n. number_of a ≤ℤ number_of n) turns b x.least g) (of_found (λ n. number_of b ≤ℤ number_of n) turns a y.least f)

last_one : (turns : List Turn) (a b : ℕ) → All IsTurn turns → IsLastDay turns a → IsLastDay turns b → a ≡ b
last_one turns a b each x y =
    let f = found turns a x.there in
    let g = found turns b y.there in
    one_by a b (of_found IsDay turns a (civil_days turns each) f) (of_found IsDay turns b (civil_days turns each) g)
    (of_found (λ n. number_of n ≤ℤ number_of b) turns a y.greatest f) (of_found (λ n. number_of n ≤ℤ number_of a) turns b x.greatest g)

too_far : (a b : ℤ) → (a +ℤ pos 14) ≤ℤ b → b ≤ℤ (a +ℤ pos 13) → ⊥
too_far a b far near = omega (arith, signed_arith, far, near)

same_day : (turns : List Turn) (a b : ℕ) (f : Found turns a) (g : Found turns b) → f.at ≡ g.at → a ≡ b
same_day turns a b f g e =
    let there : f.turn ≡ g.turn = sym f.is ∙ at_place turns f.at f.turn g.turn f.within ∙ ap (λ k. get_or turns k g.turn) e ∙ g.is in
    sym f.on ∙ ap (λ (t : Turn). t.day) there ∙ g.on

number_at : (turns : List Turn) (a : ℕ) (f : Found turns a) (d : Turn) → number_of (get_or turns f.at d).day ≡ number_of a
number_at turns a f d = ap (λ (t : Turn). number_of t.day) (at_place turns f.at d f.turn f.within) ∙ ap (λ (t : Turn). number_of t.day) f.is
    ∙ ap (λ (n : ℕ). number_of n) f.on

within_by : (a b x y : ℤ) → x ≡ a → y ≡ b → y ≤ℤ (x +ℤ pos 13) → b ≤ℤ (a +ℤ pos 13)
within_by a b x y e f near = omega (arith, signed_arith, e, f, near)

-- No days of a roster lie far apart. The first and the last day are those of two duties, or of one. Any two duties of a roster are at
-- most 13 days apart, whichever stands first, and days that are far apart are at least 14.
not_far : (turns : List Turn) (a b : ℕ) → AllPairs AreNear turns → AreFar turns a b → ⊥
not_far turns a b near far = by_order (cases_order f.at g.at)
  where
    f : Found turns a
    f = found turns a far.begins.there

    g : Found turns b
    g = found turns b far.ends.there

    by_order : (f.at ≡ g.at) ⊎ ((f.at < g.at) ⊎ (g.at < f.at)) → ⊥
    by_order (inl e) =
        let same : number_of a ≡ number_of b = ap (λ (n : ℕ). number_of n) (same_day turns a b f g e) in
        too_far (number_of a) (number_of b) far.far (omega (arith, signed_arith, same))
    by_order (inr (inl h)) =
        too_far (number_of a) (number_of b) far.far
        (within_by (number_of a) (number_of b) _ _ (number_at turns a f f.turn) (number_at turns b g f.turn)
        (near f.at g.at f.turn h g.within).1)
    by_order (inr (inr h)) =
        too_far (number_of a) (number_of b) far.far
        (within_by (number_of a) (number_of b) _ _ (number_at turns a f f.turn) (number_at turns b g f.turn)
        (near g.at f.at f.turn h f.within).0)

-- the duties of tables without a fault
pub turns_are : (tables : List Table) → roster_faults tables ≡ [] → AreRows [] (turns_of tables)
turns_are tables none = by (roster_of tables) (both_none _ (faults_in (roster_of tables)) none).1
  where
    by : (table : Option Table) → faults_in table ≡ [] → AreRows [] (turns_in table)
    by None e = absurd cc
    by (Some table) e = are_rows 1 [] (rows_in table) (both_none _ (row_faults 1 [] (rows_in table)) e).1

pub roster_is : (tables : List Table) (turns slice : List Turn) → turns ≡ turns_of tables → slice ≡ turns → roster_faults tables ≡ [] →
    AllPairs AreNear slice → IsRoster turns
roster_is tables turns slice is same none near =
    let rows = turns_are tables none in
    subst IsRoster (sym is) (record { each = rows.each; key = rows.apart; near = subst (λ ts. AllPairs AreNear ts) (same ∙ is) near })

found_has : {X : Type 0} (P : X → Type 0) (p : X → Bool) (xs : List X) (x : X) → find p xs ≡ Some x → All P xs → P x
found_has P p [] x e all = absurd cc
found_has P p (y ∷ ys) x e all = by (p y) e (λ later. found_has P p ys x later (All-tail P y ys all))
  where
    by : (b : Bool) → (if b then Some y else find p ys) ≡ Some x → (find p ys ≡ Some x → P x) → P x
    by true found later = let same : y ≡ x = cc in subst P same (All-head P y ys all)
    by false found later = later found

pub turns_few : (tables : List Table) → All (λ (table : Table). length table.rows < 2 ^ 32) tables → length (turns_of tables) < 2 ^ 32
turns_few tables few = by (roster_of tables) refl
  where
    by : (table : Option Table) → roster_of tables ≡ table → length (turns_in table) < 2 ^ 32
    by None e = omega arith
    by (Some table) e =
        let small = found_has (λ (table : Table). length table.rows < 2 ^ 32) (has_name roster_name) tables table e few in
        omega (arith, small, length-map (rows_in table) row_turn, length-map table.rows (fields_in table.columns))

no_first : (tables : List Table) (fault : TableFault) → roster_faults tables ≡ [] → first (roster_faults tables) ≡ Some fault → ⊥
no_first tables fault none some = cc

-- The answers are taken in pairs. A roster says that there is no fault, and a fault in the tables that there is one; days that lie far
-- apart presuppose tables without a fault and deny that the duties are near. Two of one kind name the same: the duties that the tables
-- tell, the first fault, or the first and the last day.
pub one_answer : (tables : List Table) (a b : Result (List Turn) RosterFault) → IsAnswer tables a → IsAnswer tables b →
    a ≢ Err Memory → b ≢ Err Memory → a ≡ b
one_answer tables (Ok turns) (Ok others) x y m n = ap Ok (x.1 ∙ sym y.1)
one_answer tables (Ok turns) (Err (Wrong fault)) x y m n = absurd (no_first tables fault x.0 y)
one_answer tables (Ok turns) (Err (Days c d)) x y m n = absurd (not_far turns c d x.2.near (subst (λ ts. AreFar ts c d) (sym x.1) y.1))
one_answer tables a (Err Memory) x y m n = absurd (n refl)
one_answer tables (Err Memory) b x y m n = absurd (m refl)
one_answer tables (Err (Wrong fault)) (Ok others) x y m n = absurd (no_first tables fault y.0 x)
one_answer tables (Err (Wrong fault)) (Err (Wrong other)) x y m n = let e : fault ≡ other = cc in ap (λ f. Err (Wrong f)) e
one_answer tables (Err (Wrong fault)) (Err (Days c d)) x y m n = absurd (no_first tables fault y.0 x)
one_answer tables (Err (Days a b)) (Ok others) x y m n = absurd (not_far others a b y.2.near (subst (λ ts. AreFar ts a b) (sym y.1) x.1))
one_answer tables (Err (Days a b)) (Err (Wrong fault)) x y m n = absurd (no_first tables fault x.0 y)
one_answer tables (Err (Days a b)) (Err (Days c d)) x y m n =
    let each = (turns_are tables x.0).each in
    ap (λ k. Err (Days k b)) (first_one (turns_of tables) a c each x.1.begins y.1.begins)
    ∙ ap (λ k. Err (Days c k)) (last_one (turns_of tables) b d each x.1.ends y.1.ends)
