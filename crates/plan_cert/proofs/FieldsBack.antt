-- Numbers that are written are read back.
use Rattle.std.proofs.Common.{◌≡◌, ℕ, pos, neg_ℤ, zero, suc, ◌+◌, ◌-◌, ◌<◌, ◌≤◌, ◌&&◌, ◌==◌, Bool, true, false, nat_eq, nat_le, List, [], ◌∷◌, length, get_or, refl, sym, ap, ◌∙◌, arith}
use Rattle.std.proofs.lemmas.Bool.Decides.{nat_tests}
use Rattle.std.proofs.lemmas.Int.{ints}
use Rattle.std.proofs.lemmas.Iterator.Adapters.{position_from-zero}
use Rattle.std.specs.List.{position_from}
use Rattle.std.specs.Prelude.{Option, Some, None, AllPairs, int_le, slice_index, if◌then◌else◌}
use Rattle.plan_core.specs.declared.types.Price.{Price}
use Rattle.vdv452_rows.specs.Cells.{whole_number}
use Rattle.number_tables.specs.Outlines.{up_to, word}
use Rattle.number_tables.specs.Signed.{signed_field}
use Rattle.plan_cert.specs.declared.cert.Pass.{Pass}
use Rattle.plan_cert.specs.declared.cert.Pass.TheVariants.{BlockNumber, BlockCost, DutyNumber, DutyCost}
use Rattle.plan_cert.specs.Laws.{IsModerate}
use Rattle.plan_cert.specs.Numbers.{◌>>=◌, any_pass, class_among, counted, from_one, moderate, truth}
use Rattle.plan_cert.specs.Writing.{bit, pass_field, whole}

pub pass-back : (pass : Pass) → any_pass (pass_field pass) ≡ Some pass
pass-back BlockNumber = refl
pass-back BlockCost = refl
pass-back DutyNumber = refl
pass-back DutyCost = refl

-- a truth value in its field
pub truth-back : (t : Bool) → truth (whole_number (signed_field (bit t))) ≡ Some t
truth-back true = refl
truth-back false = refl

pub word-back : (n : ℕ) → n ≤ 4294967295 → word (whole n) ≡ Some n
word-back n small = let low : nat_le n 4294967295 ≡ true = grind (arith, nat_tests) in ap (λ (t : Bool). if t then Some n else None) low

-- a number counted from 1
pub counted-back : (most place : ℕ) → place < most → counted most (whole (place + 1)) ≡ Some place
counted-back most place below =
    let low : nat_le (place + 1) most ≡ true = grind (arith, nat_tests) in
    let first : up_to most (whole (place + 1)) ≡ Some (place + 1) = ap (λ (t : Bool). if t then Some (place + 1) else None) low in
    let next : Option ℕ → Option ℕ = λ o. o >>= λ n. from_one n in
    let back : place + 1 - 1 ≡ place = omega arith in
    let some : nat_eq (place + 1) 0 ≡ false = grind (arith, nat_tests) in
    ap next first ∙ (ap (λ (t : Bool). if t then None else Some (place + 1 - 1)) some ∙ ap (λ (n : ℕ). Some n) back)

-- a test that holds at a place and at none before finds it
pub first-at : {A : Type 0} (test : A → Bool) (xs : List A) (from k : ℕ) (d : A) → k < length xs → test (get_or xs k d) ≡ true →
    ((j : ℕ) → j < k → test (get_or xs j d) ≡ false) →
    position_from test from xs ≡ Some (from + k)
first-at test [] from k d below passes others = absurd (omega arith)
first-at test (x ∷ xs) from zero d below passes others =
    let same : from + 0 ≡ from = omega arith in
    ap (λ (t : Bool). if t then Some from else position_from test (from + 1) xs) passes ∙ ap (λ (n : ℕ). Some n) (sym same)
first-at test (x ∷ xs) from (suc k) d below passes others =
    let off : test x ≡ false = others 0 (omega arith) in
    let same : from + 1 + k ≡ from + suc k = omega arith in
    ap (λ (t : Bool). if t then Some from else position_from test (from + 1) xs) off
    ∙ (first-at test xs (from + 1) k d (omega arith) passes (λ j low. others (suc j) (omega arith)) ∙ ap (λ (n : ℕ). Some n) same)

-- the class of the number of a class, where numbers rise
pub class-back : (numbers : List ℕ) (class : ℕ) → AllPairs (λ (earlier later : ℕ). earlier < later) numbers → class < length numbers →
    class_among numbers (whole (slice_index numbers class)) ≡ Some class
class-back numbers class rise below =
    let n = slice_index numbers class in
    let zero' : 0 + class ≡ class = omega arith in
    position_from-zero (λ m. m == n) numbers
    ∙ (first-at (λ m. m == n) numbers 0 class 0 below (equal n) (λ j low. let less =
    rise j class 0 low below in other (slice_index numbers j) n less) ∙ ap (λ (k : ℕ). Some k) zero')
  where
    equal : (n : ℕ) → n == n ≡ true
    equal n = grind (arith, nat_tests)

    other : (m n : ℕ) → m < n → m == n ≡ false
    other m n less = grind (arith, nat_tests)

-- a moderate price is read as it is
pub moderate-back : (p : Price) → IsModerate p → moderate (Some p.0) ≡ Some p.0
moderate-back p is =
    let least = is.0 in
    let most = is.1 in
    let low : int_le (neg_ℤ (pos 3000000000000000)) p.0 ≡ true = grind (arith, ints) in
    let high : int_le p.0 (pos 3000000000000000) ≡ true = grind (arith, ints) in
    ap (λ (t : Bool). if t && int_le p.0 (pos 3000000000000000) then Some p.0 else None) low
    ∙ ap (λ (t : Bool). if true && t then Some p.0 else None) high
