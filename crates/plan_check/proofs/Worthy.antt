-- Lists with an item that is not there have no worth.
use Rattle.std.proofs.Common.{◌≡◌, ℕ, true, false, nat_lt, cond, List, [], ◌∷◌, length, refl, arith}
use Rattle.std.proofs.lemmas.Bool.Decides.{nat_tests}
use Rattle.std.proofs.lemmas.Bool.{and_from, and_parts}
use Rattle.std.specs.List.{list_all}
use Rattle.std.specs.Prelude.{Some, None}
use Rattle.cover_core.specs.declared.Column.{Column}
use Rattle.cover_core.specs.Cover.{Problem, AllBelow}
use Rattle.cover_core.specs.Plans.{HasListedColumns}
use Rattle.plan_check.specs.Judged.{worth_in}

pub below-from : (n : ℕ) (xs : List ℕ) → list_all (λ item. nat_lt item n) xs ≡ true → AllBelow n xs
below-from n [] all = tt
below-from n (x ∷ xs) all =
    let parts = and_parts (nat_lt x n) (list_all (λ item. nat_lt item n) xs) all in
    let head = parts.0 in
    (grind (arith, nat_tests), below-from n xs parts.1)

below-to : (n : ℕ) (xs : List ℕ) → AllBelow n xs → list_all (λ item. nat_lt item n) xs ≡ true
below-to n [] all = refl
below-to n (x ∷ xs) all =
    let below = all.0 in
    and_from (nat_lt x n) (list_all (λ item. nat_lt item n) xs) (grind (arith, nat_tests)) (below-to n xs all.1)

pub no-worth : (p : Problem) (c : Column) → HasListedColumns p → list_all (λ item. nat_lt item p.items) c.items ≡ false →
    worth_in p c ≡ None
no-worth p c listed off =
    elim (nat_lt c.class (length p.caps)) as (λ t. cond t (p.worth c.class c.items) None ≡ None) [
      | true ↦ elim (p.worth c.class c.items) as (λ o. p.worth c.class c.items ≡ o → o ≡ None) [
        | None ↦ λ e. refl
        | Some worth ↦ λ e. let on = below-to p.items c.items (listed c.class c.items worth e).2 in absurd (cc)
      ] refl
      | false ↦ refl
    ]
