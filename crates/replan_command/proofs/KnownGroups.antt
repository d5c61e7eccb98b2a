-- The group of each duty that tables say is one of the day's: a row of a duty says nothing where its group is not among their numbers.
use Rattle.std.proofs.Common.{◌≡◌, ℕ, ℤ, pos, negsuc, ◌+◌, Bool, true, false, cond, suc, List, [], ◌∷◌, map, refl, subst, Option, Some, None, nat_eq, nat_le}
use Rattle.std.specs.Option.{option_map, option_map_or}
use Rattle.std.specs.Prelude.{Ok, option_and_then}
use Rattle.vdv451_text.specs.declared.table.Table.{Table}
use Rattle.vdv452_rows.specs.Rows.{first}
use Rattle.number_tables.specs.Outlines.{Place, given_of, place_in, rows_of}
use Rattle.plan_params.specs.declared.rows.group.Group.{Group}
use Rattle.day_model.specs.Facts.{DayFacts}
use Rattle.umlauf_write.specs.declared.text.DutyRow.{DutyRow}
use Rattle.umlauf_write.specs.declared.text.PlanText.{PlanText}
use Rattle.umlauf_write.specs.Reading.{Part, duties, duty_entry, duty_said, entries_from, number_among, numbers_of, own_number, part_entries, places_of, read_of, read_or, said}
use Rattle.duty_rest.specs.Heads.{class_of}

-- whether a group of this number is there
abbrev pub is_known : List Group → ℕ → Bool
is_known groups number = option_map_or (λ (class : ℕ). true) (class_of groups number 0) false

-- the groups of all duties are there
abbrev pub AreKnown : List Group → List DutyRow → Type 0
AreKnown groups [] = Unit {0}
AreKnown groups (row ∷ rows) = (is_known groups row.group ≡ true) × AreKnown groups rows

abbrev number_of : Group → ℕ
number_of group = group.number

-- a group among whose numbers there is one has a class
place-known : (groups : List Group) (n class k : ℕ) → place_in (map number_of groups) n ≡ Some k →
    option_map_or (λ (c : ℕ). true) (class_of groups n class) false ≡ true
place-known [] n class k is = absurd (cc)
place-known (g ∷ gs) n class k is =
    elim (nat_eq g.number n) as (λ t. cond t (Some 0) (option_map (λ k. k + 1) (place_in (map number_of gs) n)) ≡ Some k →
    option_map_or (λ (c : ℕ). true) (cond t (Some class) (class_of gs n (suc class))) false ≡ true) [
      | true ↦ λ e. refl
      | false ↦ λ e.
          let (j, found) = later (place_in (map number_of gs) n) e in
          place-known gs n (suc class) j found
    ] is
  where
    later : (o : Option ℕ) → option_map (λ k. k + 1) o ≡ Some k → (j : ℕ) × (o ≡ Some j)
    later None e = absurd (cc)
    later (Some j) e = (j, refl)

among-known : (groups : List Group) (z : Option ℤ) (g : ℕ) → number_among (map number_of groups) z ≡ Some g → is_known groups g ≡ true
among-known groups None g is = absurd (cc)
among-known groups (Some (negsuc n)) g is = absurd (cc)
among-known groups (Some (pos n)) g is =
    elim (place_in (map number_of groups) n) as (λ o. place_in (map number_of groups) n ≡ o →
    option_and_then (λ (place : ℕ). cond (nat_le n 4294967295) (Some n) None) o ≡ Some g →
    is_known groups g ≡ true) [
      | None ↦ λ found e. absurd (cc)
      | Some k ↦ λ found e.
          let P : ℕ → Type 0 = λ m. is_known groups m ≡ true in
          subst P (kept (nat_le n 4294967295) e) (place-known groups n 0 k found)
    ] refl is
  where
    kept : (t : Bool) → cond t (Some n) None ≡ Some g → n ≡ g
    kept true e = cc
    kept false e = absurd (cc)

-- the number that a row says is one of a group
entry-known : (day : DayFacts) (tables : List Table) (row : ℕ) (zs : List (Option ℤ)) (g : ℕ) →
    duty_entry (numbers_of day tables) row zs ≡ Some g →
    is_known day.params.groups g ≡ true
entry-known day tables row [] g is = absurd (cc)
entry-known day tables row (duty ∷ []) g is = absurd (cc)
entry-known day tables row (duty ∷ group ∷ z ∷ zs) g is = absurd (cc)
entry-known day tables row (duty ∷ group ∷ []) g is = own (own_number row duty) is
  where
    own : (o : Option ℕ) → option_and_then (λ (own : ℕ). number_among (map number_of day.params.groups) group) o ≡ Some g →
        is_known day.params.groups g ≡ true
    own None e = absurd (cc)
    own (Some m) e = among-known day.params.groups group g e

entries-known : (day : DayFacts) (tables : List Table) (parts : List Part) (rows : List (List (Option ℤ))) (row from : ℕ) →
    AreKnown day.params.groups (entries_from (duty_said parts) from (given_of (entries_from (duty_entry (numbers_of day tables)) row rows)))
entries-known day tables parts [] row from = tt
entries-known day tables parts (zs ∷ rest) row from =
    let after : List (Option ℕ) = entries_from (duty_entry (numbers_of day tables)) (row + 1) rest in
    elim (duty_entry (numbers_of day tables) row zs) as (λ o. duty_entry (numbers_of day tables) row zs ≡ o →
    AreKnown day.params.groups (entries_from (duty_said parts) from (given_of (o ∷ after)))) [
      | None ↦ λ is. entries-known day tables parts rest (row + 1) from
      | Some g ↦ λ is. (entry-known day tables row zs g is, entries-known day tables parts rest (row + 1) (from + 1))
    ] refl

-- The groups of the duties that tables say are there. Tables that say a plan are read row by row of X_DIENST, and what a row gives is
-- a number that was found among those of the groups (`among-known`). So no duty of an earlier plan is without its group, and each
-- begun piece of it has a head.
pub groups-known : (day : DayFacts) (old : List Table) (earlier : PlanText) → read_of day old ≡ Ok earlier →
    AreKnown day.params.groups earlier.duties
groups-known day old earlier is =
    let P : PlanText → Type 0 = λ text. AreKnown day.params.groups text.duties in
    subst P (is-said (first (places_of day old)) is)
    (entries-known day old (given_of (part_entries (numbers_of day old) old)) (rows_of duties old) 0 0)
  where
    is-said : (o : Option Place) → read_or (said day old) o ≡ Ok earlier → said day old ≡ earlier
    is-said None e = cc
    is-said (Some p) e = absurd (cc)
