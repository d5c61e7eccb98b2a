-- How often items stand in lists, one more at a time.
use Rattle.std.proofs.Common.{◌≡◌, ◌==◌, ℕ, ◌+◌, ◌<◌, ◌≤◌, true, false, cond, suc, List, [], ◌∷◌, ◌++◌, length, get_or, take, sym, ap, ◌∙◌, inl, inr, arith, get_or-set_same, get_or-set_other}
use Rattle.std.proofs.Math.ListN.{set}
use Rattle.std.proofs.lemmas.List.{take_more, length-take-le}
use Rattle.std.proofs.lemmas.Bool.{cases_eq}
use Rattle.std.proofs.lemmas.Bool.Decides.{nat_tests}
use Rattle.cover_core.specs.Plans.{times}
use Rattle.cover_core.proofs.Parts.{times-append}

-- an item stands in a list at most as often as the list is long
pub times-length : (i : ℕ) (xs : List ℕ) → times i xs ≤ length xs
times-length i [] = omega arith
times-length i (x ∷ xs) =
    let rest : times i xs ≤ length xs = times-length i xs in
    elim (i == x) as (λ b. cond {A = ℕ} b 1 0 + times i xs ≤ suc (length xs)) [ true ↦ omega arith | false ↦ omega arith ]

pub times-take : (i k : ℕ) (xs : List ℕ) → k < length xs → times i (take (k + 1) xs) ≡ times i (take k xs) + cond (i == get_or xs k 0) 1 0
times-take i k xs h =
    let more : times i (take (k + 1) xs) ≡ times i (take k xs ++ get_or xs k 0 ∷ []) = ap (times i) (take_more xs k 0 h) in
    let sum = times-append i (take k xs) (get_or xs k 0 ∷ []) in
    omega arith

pub times-front : (i k : ℕ) (xs : List ℕ) → k ≤ length xs → times i (take k xs) ≤ k
times-front i k xs h = let some = times-length i (take k xs) in let long = length-take-le k xs h in omega arith

-- one more item is counted
pub added-more : (old now list : List ℕ) (k v i : ℕ) → k < length list → get_or list k 0 < length now → v ≡ get_or now (get_or list k 0) 0 →
    get_or now i 0 ≡ get_or old i 0 + times i (take k list) →
    get_or (set now (get_or list k 0) (v + 1)) i 0 ≡ get_or old i 0 + times i (take (k + 1) list)
added-more old now list k v i inside there is so_far =
    let item = get_or list k 0 in
    let more = times-take i k list inside in
    elim (cases_eq i item) [
      | inl same ↦
          let here : get_or (set now item (v + 1)) item 0 ≡ v + 1 = get_or-set_same now item (v + 1) 0 there in
          let at_i : get_or (set now item (v + 1)) i 0 ≡ v + 1 = ap (λ n. get_or (set now item (v + 1)) n 0) same ∙ here in
          let was : get_or now i 0 ≡ v = ap (λ n. get_or now n 0) same ∙ sym is in
          let test : (i == item) ≡ true = grind (arith, nat_tests) in
          let sum = rw test at more in
          omega arith
      | inr apart ↦
          let other : get_or (set now item (v + 1)) i 0 ≡ get_or now i 0 = get_or-set_other now item i (v + 1) 0 apart in
          let test : (i == item) ≡ false = grind (arith, nat_tests) in
          let sum = rw test at more in
          omega arith
    ]
