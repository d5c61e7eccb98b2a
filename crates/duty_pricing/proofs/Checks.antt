-- Facts of options and tests.
use Rattle.std.proofs.Common.{◌≡◌, ℕ, ℤ, ◌+ℤ◌, ◌-ℤ◌, ◌∙◌, w64, to_z, of_z, ◌<ℤ◌, ◌<◌, ◌≤◌, Bool, true, refl, sym, arith}
use Rattle.std.proofs.lemmas.Int.{ints, to_z-of_z}
use Rattle.std.proofs.lemmas.Bool.Decides.{nat_tests}
use Rattle.std.specs.Prelude.{Option, Some, None, FitsSigned, IfSome, int_lt}
use Rattle.label_search.specs.Pricing.{is_between}

pub if-some : {A : Type 0} (P : A → Type 0) (o : Option A) → ((a : A) → o ≡ Some a → P a) → IfSome o P
if-some P None h = tt
if-some P (Some a) h = h a refl

pub lower-is : (a b : ℤ) → int_lt a b ≡ true → a <ℤ b
lower-is a b h = grind (arith, ints)

-- a test over numbers of 64 bits
pub too-high : (b : Bool) (limit least p r : ℤ) → FitsSigned w64 limit → FitsSigned w64 least →
    b ≡ int_lt (to_z w64 (of_z w64 limit)) ((to_z w64 (of_z w64 least) -ℤ p) +ℤ r) → b ≡ true → limit <ℤ ((least -ℤ p) +ℤ r)
too-high b limit least p r f g e h =
    let test : int_lt limit ((least -ℤ p) +ℤ r) ≡ true = (rw (to_z-of_z w64 limit f, to_z-of_z w64 least g) at (sym e)) ∙ h in
    lower-is limit ((least -ℤ p) +ℤ r) test

pub between-test : (first end x : ℕ) → first ≤ x → x < end → is_between first end x ≡ true
between-test first end x from before = grind (arith, nat_tests)
