-- The rows of bounds.
use Rattle.std.proofs.Common.{◌≡◌, ℕ, ◌+◌, ◌*◌, ◌<◌, ◌≤◌, List, [], ◌∷◌, ◌++◌, length, drop, Option, get_or, refl, sym, ◌∙◌, ap, arith, append_assoc, add-one, drop-cons}
use Rattle.std.proofs.lemmas.List.{drop_all}
use Rattle.std.proofs.lemmas.List.Elements.{All-cons, All-nil}
use Rattle.vdv451_text.specs.declared.table.Field.{Field}
use Rattle.cover_core.specs.declared.Column.{Column}
use Rattle.cover_core.specs.FirstLeast.{AreCheap}
use Rattle.cover_core.specs.Plans.{cost}
use Rattle.number_tables.specs.Numbers.{AreFull, number_row, number_rows}
use Rattle.umlauf_write.specs.Answers.{bound_columns, bound_row, bound_rows}

-- a cost is small
pub cost_small : (cs : List Column) → AreCheap cs → cost cs ≤ 4000000000 * length cs
cost_small [] cheap = omega arith
cost_small (c ∷ cs) cheap = omega (arith, cheap.0, cost_small cs cheap.1)

-- one bound more
pub bound_more : (i : ℕ) (values bounds : List ℕ) (all done now : List (List Field)) → i < length values → i < length bounds →
    now ≡ done ++ number_row (bound_row (i + 1) (get_or values i 0) (get_or bounds i 0)) ∷ [] →
    all ≡ done ++ number_rows (bound_rows (1 + i) (drop i values) (drop i bounds)) →
    all ≡ now ++ number_rows (bound_rows (1 + (i + 1)) (drop (i + 1) values) (drop (i + 1) bounds))
bound_more i values bounds all done now within within' pushed so_far =
    let at : drop i values ≡ get_or values i 0 ∷ drop (i + 1) values = rw add-one (drop-cons values i 0 within) in
    let at' : drop i bounds ≡ get_or bounds i 0 ∷ drop (i + 1) bounds = rw add-one (drop-cons bounds i 0 within') in
    let later : List (List Field) = number_rows (bound_rows (1 + (i + 1)) (drop (i + 1) values) (drop (i + 1) bounds)) in
    let row : ℕ → List Field = λ k. number_row (bound_row k (get_or values i 0) (get_or bounds i 0)) in
    let n : 1 + i ≡ i + 1 = omega arith in
    let m : 1 + i + 1 ≡ 1 + (i + 1) = omega arith in
    let first : done ++ number_rows (bound_rows (1 + i) (drop i values) (drop i bounds))
    ≡ done ++ number_rows (bound_rows (1 + i) (get_or values i 0 ∷ drop (i + 1) values) (drop i bounds)) =
    ap (λ (vs : List ℕ). done ++ number_rows (bound_rows (1 + i) vs (drop i bounds))) at in
    let second : done ++ number_rows (bound_rows (1 + i) (get_or values i 0 ∷ drop (i + 1) values) (drop i bounds))
    ≡ done ++ row (1 + i) ∷ number_rows (bound_rows (1 + i + 1) (drop (i + 1) values) (drop (i + 1) bounds)) =
    ap (λ (bs : List ℕ). done ++ number_rows (bound_rows (1 + i) (get_or values i 0 ∷ drop (i + 1) values) bs)) at' in
    let third : done ++ row (1 + i) ∷ number_rows (bound_rows (1 + i + 1) (drop (i + 1) values) (drop (i + 1) bounds))
    ≡ done ++ row (i + 1) ∷ number_rows (bound_rows (1 + i + 1) (drop (i + 1) values) (drop (i + 1) bounds)) =
    ap (λ (k : ℕ). done ++ row k ∷ number_rows (bound_rows (1 + i + 1) (drop (i + 1) values) (drop (i + 1) bounds))) n in
    let fourth : done ++ row (i + 1) ∷ number_rows (bound_rows (1 + i + 1) (drop (i + 1) values) (drop (i + 1) bounds))
    ≡ done ++ row (i + 1) ∷ later =
    ap (λ (k : ℕ). done ++ row (i + 1) ∷ number_rows (bound_rows k (drop (i + 1) values) (drop (i + 1) bounds))) m in
    let fifth : done ++ row (i + 1) ∷ later ≡ now ++ later =
    sym (append_assoc done (row (i + 1) ∷ []) later) ∙ ap (λ (rs : List (List Field)). rs ++ later) (sym pushed) in
    so_far ∙ first ∙ second ∙ third ∙ fourth ∙ fifth

pub bounds_done : (i : ℕ) (values bounds : List ℕ) → length bounds ≤ i → bound_rows (1 + i) (drop i values) (drop i bounds) ≡ []
bounds_done i values bounds past = by (drop i values) (drop i bounds) (drop_all i bounds past)
  where
    by : (vs bs : List ℕ) → bs ≡ [] → bound_rows (1 + i) vs bs ≡ []
    by [] bs e = refl
    by (v ∷ vs) [] e = refl
    by (v ∷ vs) (b ∷ bs) e = absurd (cc)

pub bounds_full : (pass : ℕ) (values bounds : List ℕ) → AreFull bound_columns (bound_rows pass values bounds)
bounds_full pass [] bounds = All-nil (λ (row : List (Option ℕ)). length row ≡ length bound_columns)
bounds_full pass (value ∷ values) [] = All-nil (λ (row : List (Option ℕ)). length row ≡ length bound_columns)
bounds_full pass (value ∷ values) (bound ∷ bounds) =
    All-cons (λ (row : List (Option ℕ)). length row ≡ length bound_columns) (bound_row pass value bound)
    (bound_rows (pass + 1) values bounds) refl (bounds_full (pass + 1) values bounds)
