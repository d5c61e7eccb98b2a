-- A cell more, and a row more.
use Rattle.std.proofs.Common.{◌≡◌, ℕ, ◌+◌, ◌*◌, ◌<◌, ◌≤◌, true, Option, Some, None, List, [], ◌∷◌, ◌++◌, length, get_or, zero, suc, inl, inr, refl, sym, subst, ◌∙◌, arith, nat_le}
use Rattle.std.specs.Prelude.{IfSome}
use Rattle.std.proofs.lemmas.Bool.{cases_lt}
use Rattle.std.proofs.lemmas.Bool.Decides.{nat_tests}
use Rattle.plan_params.specs.declared.rows.pool.Pool.{Pool}
use Rattle.day_model.specs.Facts.{DayFacts}
use Rattle.depot_network.specs.Walk.{dear_of}
use Rattle.one_pool_flow.specs.DayNets.{IsLaid, IsLaidRow, arc_of}
use Rattle.one_pool_flow.specs.Paths.{is_flow_day, is_flow_of}

front : {A : Type 0} → (xs : List A) (y d : A) (k : ℕ) → k < length xs → get_or (xs ++ y ∷ []) k d ≡ get_or xs k d
front [] y d k within = absurd (omega arith)
front (x ∷ xs) y d zero within = refl
front (x ∷ xs) y d (suc k) within = front xs y d k (omega arith)

last : {A : Type 0} → (xs : List A) (y d : A) → get_or (xs ++ y ∷ []) (length xs) d ≡ y
last [] y d = refl
last (x ∷ xs) y d = last xs y d

one_more : {A : Type 0} → (xs : List A) (y : A) → length (xs ++ y ∷ []) ≡ length xs + 1
one_more [] y = refl
one_more (x ∷ xs) y = let rest = one_more xs y in omega arith

-- within a list the value past its end does not matter
pub other_default : {A : Type 0} → (xs : List A) (k : ℕ) (d e : A) → k < length xs → get_or xs k d ≡ get_or xs k e
other_default [] k d e within = absurd (omega arith)
other_default (x ∷ xs) zero d e within = refl
other_default (x ∷ xs) (suc k) d e within = other_default xs k d e (omega arith)

pub start_row : (day : DayFacts) (pool : Pool) (n x : ℕ) → IsLaidRow day pool n x 0 []
start_row day pool n x = record { count = refl; cells = λ v below. absurd (omega arith); dear = λ v c below. absurd (omega arith) }

pub more_cells : (day : DayFacts) (pool : Pool) (n x v : ℕ) (row new : List (Option ℕ)) (cell : Option ℕ) → IsLaidRow day pool n x v row →
    cell ≡ arc_of day pool x v → IfSome cell (λ (c : ℕ). c ≤ dear_of pool) →
    new ≡ row ++ cell ∷ [] → IsLaidRow day pool n x (v + 1) new
more_cells day pool n x v row new cell is cell_is small new_is = subst (IsLaidRow day pool n x (v + 1)) (sym new_is) (record {
  count = (let count = is.count in let more = one_more row cell in omega arith);
  cells = λ w below. elim (cases_lt w v) [
    | inl before ↦ (let count = is.count in front row cell None w (omega arith) ∙ is.cells w before)
    | inr now ↦ (let same : w ≡ v =
        omega arith in subst (λ (k : ℕ). get_or (row ++ cell ∷ []) k None ≡ arc_of day pool x k) (sym same) (at ∙ cell_is))
  ];
  dear = λ w c below e. elim (cases_lt w v) [
    | inl before ↦ (let count = is.count in is.dear w c before (sym (front row cell None w (omega arith)) ∙ e))
    | inr now ↦ (let same : w ≡ v =
        omega arith in low cell c small (sym (subst (λ (k : ℕ). get_or (row ++ cell ∷ []) k None ≡ cell) (sym same) at) ∙ e))
  ];
})
  where
    at : get_or (row ++ cell ∷ []) v None ≡ cell
    at = subst (λ (k : ℕ). get_or (row ++ cell ∷ []) k None ≡ cell) is.count (last row cell None)

    low : (cell : Option ℕ) (c : ℕ) → IfSome cell (λ (d : ℕ). d ≤ dear_of pool) → cell ≡ Some c → c ≤ dear_of pool
    low None c small e = absurd (cc)
    low (Some d) c small e = let same : d ≡ c = cc in omega arith

pub more_rows : (day : DayFacts) (pool : Pool) (n x : ℕ) (rows new : List (List (Option ℕ))) (row : List (Option ℕ)) →
    IsLaid day pool n x rows → IsLaidRow day pool n x (n + 1) row →
    new ≡ rows ++ row ∷ [] → IsLaid day pool n (x + 1) new
more_rows day pool n x rows new row is row_is new_is = subst (IsLaid day pool n (x + 1)) (sym new_is) (record {
  count = (let count = is.count in let more = one_more rows row in omega arith);
  each = λ y below. elim (cases_lt y x) [
    | inl before ↦ (let count =
        is.count in subst (IsLaidRow day pool n y (n + 1)) (sym (front rows row [] y (omega arith))) (is.each y before))
    | inr now ↦ (let same : y ≡ x = omega arith in
        subst (λ (k : ℕ). IsLaidRow day pool n k (n + 1) (get_or (rows ++ row ∷ []) k [])) (sym same)
        (subst (IsLaidRow day pool n x (n + 1)) (sym at) row_is))
  ];
})
  where
    at : get_or (rows ++ row ∷ []) x [] ≡ row
    at = subst (λ (k : ℕ). get_or (rows ++ row ∷ []) k [] ≡ row) is.count (last rows row [])

few_of : (n d : ℕ) → nat_le (4000 * (n + 2) * d) 3000000000000000 ≡ true → (n + 2) * d ≤ 750000000000
few_of n d test = let low : 4000 * (n + 2) * d ≤ 3000000000000000 = grind (arith, nat_tests) in omega arith

pub flow_cheap : (day : DayFacts) (pool : Pool) → day.params.pools ≡ pool ∷ [] → is_flow_day day ≡ true →
    (length day.trips + 2) * dear_of pool ≤ 750000000000
flow_cheap day pool one flow =
    few_of (length day.trips) (dear_of pool) (subst (λ (pools : List Pool). is_flow_of (length day.trips) pools ≡ true) one flow)
