-- An item that is put in: what its columns hold then, and that they stay part of a plan.
use Rattle.std.proofs.Common.{◌≡◌, ◌==◌, ℕ, ℤ, pos, ◌-ℤ◌, ◌+◌, ◌<◌, ◌≤◌, true, false, cond, zero, suc, List, [], ◌∷◌, ◌++◌, length, get_or, Option, Some, None, refl, sym, ap, ◌∙◌, inl, inr, arith}
use Rattle.std.specs.Prelude.{nat_lt, slice_index, int_lt}
use Rattle.std.proofs.Math.ListN.{set}
use Rattle.std.proofs.lemmas.Int.{ints}
use Rattle.std.proofs.lemmas.Bool.{cases_eq}
use Rattle.std.proofs.lemmas.Bool.Decides.{nat_tests}
use Rattle.cover_core.specs.declared.Column.{Column}
use Rattle.cover_core.specs.Cover.{Problem}
use Rattle.cover_core.specs.Plans.{times, all_items, all_classes, cost}
use Rattle.cover_core.specs.Parts.{IsPart, has_place, no_column, column_at}
use Rattle.cover_core.proofs.Parts.{held-push, placed-push, AreColumns-push, AreColumns-get, AreColumns-set, held-set, placed-set, cost-push, cost-set, once-more}
use Rattle.plan_round.specs.declared.choice.Choice.{Choice}
use Rattle.plan_round.specs.declared.choice.Spot.{Spot}
use Rattle.plan_round.specs.declared.choice.Spot.TheVariants.{Into, New}
use Rattle.plan_round.specs.Rounding.{put_in, choice_for, into_columns, into_classes, first_cheapest, choices, put_at}

pub times-put_in : (j item : ℕ) (xs : List ℕ) → times j (put_in item xs) ≡ cond (j == item) 1 0 + times j xs
times-put_in j item [] = refl
times-put_in j item (x ∷ xs) =
    let r : times j (put_in item xs) ≡ cond (j == item) 1 0 + times j xs = times-put_in j item xs in
    elim (nat_lt x item) as
    (λ b. times j (cond b (x ∷ put_in item xs) (item ∷ x ∷ xs)) ≡ cond (j == item) 1 0 + (cond (j == x) 1 0 + times j xs)) [
      | true ↦
          omega arith
      | false ↦ refl
    ]

-- a choice that a problem allows
abbrev pub IsAllowedAt : Problem → ℕ → List Column → ℤ → ℕ → Spot → Type 0
IsAllowedAt p item columns rise worth (Into place) =
    (place < length columns) × (p.worth (column_at columns place).class (put_in item (column_at columns place).items) ≡ Some worth)
    × (rise ≡ pos worth -ℤ pos (column_at columns place).worth)
IsAllowedAt p item columns rise worth (New class) =
    (class < length p.caps) × (has_place p columns class ≡ true) × (p.worth class (item ∷ []) ≡ Some worth) × (rise ≡ pos worth -ℤ pos 0)

abbrev pub IsAllowed : Problem → ℕ → List Column → Choice → Type 0
IsAllowed p item columns c = IsAllowedAt p item columns c.rise c.worth c.spot

-- by recursion over choices
abbrev pub Each : (Choice → Type 0) → List Choice → Type 0
Each P [] = Unit {0}
Each P (c ∷ cs) = P c × Each P cs

pub Each-append : (P : Choice → Type 0) (xs ys : List Choice) → Each P xs → Each P ys → Each P (xs ++ ys)
Each-append P [] ys h k = k
Each-append P (x ∷ xs) ys h k = (h.0, Each-append P xs ys h.1 k)

pub Each-for : (P : Choice → Type 0) (before : ℕ) (spot : Spot) (o : Option ℕ) →
    ((worth : ℕ) → o ≡ Some worth → P (record { rise = pos worth -ℤ pos before; worth = worth; spot = spot })) →
    Each P (choice_for before spot o)
Each-for P before spot None h = tt
Each-for P before spot (Some worth) h = (h worth refl, tt)

pub into_columns-allowed : (p : Problem) (item : ℕ) (columns : List Column) (place : ℕ) (cs : List Column) →
    place + length cs ≡ length columns →
    ((k : ℕ) → k < length cs → get_or columns (place + k) no_column ≡ get_or cs k no_column) →
    Each (IsAllowed p item columns) (into_columns p item place cs)
into_columns-allowed p item columns place [] e at = tt
into_columns-allowed p item columns place (c ∷ cs) e at =
    let zero_there : place + 0 ≡ place = omega arith in
    let here : get_or columns place no_column ≡ c = ap (λ n. get_or columns n no_column) (sym zero_there) ∙ at 0 (omega arith) in
    let below : place < length columns = omega arith in
    Each-append (IsAllowed p item columns) (choice_for c.worth (Into place) (p.worth c.class (put_in item c.items)))
    (into_columns p item (suc place) cs)
    (Each-for (IsAllowed p item columns) c.worth (Into place) (p.worth c.class (put_in item c.items))
    (λ worth has. (
      below,
      ap (λ (d : Column). p.worth d.class (put_in item d.items)) here
          ∙ has,
      ap (λ (d : Column). pos worth -ℤ pos d.worth) (sym here),
    )))
    (into_columns-allowed p item columns (suc place) cs (omega arith)
    (λ k h. let next : suc place + k ≡ place + suc k = omega arith in ap (λ n. get_or columns n no_column) next ∙ at (suc k) (omega arith)))

pub into_classes-allowed : (p : Problem) (item : ℕ) (columns : List Column) (k : ℕ) → k ≤ length p.caps →
    Each (IsAllowed p item columns) (into_classes p item columns k)
into_classes-allowed p item columns zero h = tt
into_classes-allowed p item columns (suc k) h =
    Each-append (IsAllowed p item columns) (into_classes p item columns k)
    (cond (has_place p columns k) (choice_for 0 (New k) (p.worth k (item ∷ []))) [])
    (into_classes-allowed p item columns k (omega arith))
    (elim (has_place p columns k) as (λ b. has_place p columns k ≡ b →
    Each (IsAllowed p item columns) (cond b (choice_for 0 (New k) (p.worth k (item ∷ []))) [])) [
      | true ↦ λ room. Each-for (IsAllowed p item columns) 0 (New k) (p.worth k (item ∷ [])) (λ worth has. let below : k < length p.caps =
          omega arith in (below, room, has, refl))
      | false ↦ λ full. tt
    ] refl)

pub choices-allowed : (p : Problem) (item : ℕ) (columns : List Column) → Each (IsAllowed p item columns) (choices p item columns)
choices-allowed p item columns =
    Each-append (IsAllowed p item columns) (into_columns p item 0 columns) (into_classes p item columns (length p.caps))
    (into_columns-allowed p item columns 0 columns (omega arith) (λ k h. let same : 0 + k ≡ k =
    omega arith in ap (λ n. get_or columns n no_column) same))
    (into_classes-allowed p item columns (length p.caps) (omega arith))

-- one of the choices is found, or there is none
abbrev pub IfChosen : (Choice → Type 0) → Option Choice → Type 0
IfChosen P None = Unit {0}
IfChosen P (Some c) = P c

pub first_cheapest-each : (P : Choice → Type 0) (best : Option Choice) (cs : List Choice) → IfChosen P best → Each P cs →
    IfChosen P (first_cheapest best cs)
first_cheapest-each P best [] h k = h
first_cheapest-each P None (c ∷ cs) h k = first_cheapest-each P (Some c) cs k.0 k.1
first_cheapest-each P (Some b) (c ∷ cs) h k =
    first_cheapest-each P (Some (cond (int_lt c.rise b.rise) c b)) cs
    (elim (int_lt c.rise b.rise) as (λ t. P (cond t c b)) [ true ↦ k.0 | false ↦ h ]) k.1

pub first_cheapest-some : (b : Choice) (cs : List Choice) → first_cheapest (Some b) cs ≡ None → ⊥
first_cheapest-some b [] e = cc
first_cheapest-some b (c ∷ cs) e = first_cheapest-some (cond (int_lt c.rise b.rise) c b) cs e

pub first_cheapest-none : (cs : List Choice) → first_cheapest None cs ≡ None → cs ≡ []
first_cheapest-none [] e = refl
first_cheapest-none (c ∷ cs) e = absurd (first_cheapest-some c cs e)

-- what the columns hold and cost after the item is put in
pub record IsPut (item : ℕ) (old : List Column) (rise : ℤ) (new : List Column) : Type 0 where
  pub holds : (j : ℕ) → times j (all_items new) ≡ cond (j == item) 1 0 + times j (all_items old)
  pub costs : pos (cost new) -ℤ pos (cost old) ≡ rise

pub put_at-puts : (p : Problem) (item : ℕ) (columns : List Column) (rise : ℤ) (worth : ℕ) (spot : Spot) →
    IsAllowedAt p item columns rise worth spot → IsPut item columns rise (put_at item columns worth spot)
put_at-puts p item columns rise worth (Into place) allowed =
    let old = column_at columns place in
    let new : Column = record { class = old.class; worth = worth; items = put_in item old.items } in
    let costs = cost-set columns place new no_column allowed.0 in
    let is = allowed.2 in
    record {
      holds = λ j. omega (arith, held-set j columns place new no_column allowed.0, times-put_in j item old.items);
      costs =
          omega (arith, ints);
    }
put_at-puts p item columns rise worth (New class) allowed =
    let new : Column = record { class = class; worth = worth; items = item ∷ [] } in
    let costs = cost-push columns new in
    let is = allowed.3 in
    record { holds = λ j. omega (arith, held-push j columns new); costs = omega (arith, ints) }

-- With a free item put in, a part of a plan stays one. Whether it goes into a column or alone into a new one, the columns hold what
-- they held and this item once more, which none of them had; a column keeps its class, and a new one is of a class with a place
-- left. That the new list has a worth is what made it a choice.
pub put_at-part : (p : Problem) (item : ℕ) (columns : List Column) (rise : ℤ) (worth : ℕ) (spot : Spot) →
    IsAllowedAt p item columns rise worth spot → IsPart p columns → times item (all_items columns) ≡ 0 →
    IsPart p (put_at item columns worth spot)
put_at-part p item columns rise worth (Into place) allowed part free =
    let old = column_at columns place in
    let new : Column = record { class = old.class; worth = worth; items = put_in item old.items } in
    let puts = put_at-puts p item columns rise worth (Into place) allowed in
    record {
      worths = AreColumns-set p columns place new part.worths
          ((AreColumns-get p columns place no_column allowed.0 part.worths).0, allowed.1);
      once = λ j. once-more j item (times j (all_items columns)) (times j (all_items (set columns place new))) (puts.holds j)
          (λ e. ap (λ n. times n (all_items columns)) e ∙ free) (part.once j);
      caps = λ class below. rw (placed-set class columns place new no_column allowed.0 refl) (part.caps class below);
    }
put_at-part p item columns rise worth (New class) allowed part free =
    let new : Column = record { class = class; worth = worth; items = item ∷ [] } in
    let puts = put_at-puts p item columns rise worth (New class) allowed in
    record {
      worths = AreColumns-push p columns new part.worths (allowed.0, allowed.2);
      once = λ j. once-more j item (times j (all_items columns)) (times j (all_items (columns ++ new ∷ []))) (puts.holds j)
          (λ e. ap (λ n. times n (all_items columns)) e ∙ free) (part.once j);
      caps = λ other below.
          let at_most : times other (all_classes columns) ≤ slice_index p.caps other = part.caps other below in
          let more = placed-push other columns new in
          elim (cases_eq other class) [
            | inl same ↦
                let room : times other (all_classes columns) < slice_index p.caps other =
                (let test : nat_lt (times other (all_classes columns)) (slice_index p.caps other) ≡ true =
                ap (λ n. has_place p columns n) same ∙ allowed.1 in grind (arith, nat_tests)) in
                let test : (other == class) ≡ true = grind (arith, nat_tests) in
                let sum = rw test at more in
                omega arith
            | inr apart ↦
                let test : (other == class) ≡ false = grind (arith, nat_tests) in
                let sum = rw test at more in
                omega arith
          ];
    }
