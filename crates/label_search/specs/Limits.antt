-- Promise: labels that may still close within a limit.
use Rattle.std.specs.Prelude.{ℤ, int_le, Bool, cond, Option, Some, None}
use Rattle.cover_core.specs.Labels.{Labelling}

-- a label that passes a test
abbrev pub passed : {L : Type 0} → (L → Bool) → Option L → Option L
passed test None = None
passed test (Some a) = cond (test a) (Some a) None

-- a labelling without the labels that do not pass
abbrev pub limited : {L : Type 0} → Labelling L → (L → Bool) → Labelling L
limited w test = record {
  start = λ item. passed test (w.start item);
  extend = λ a item. passed test (w.extend a item);
}

-- the test by a completion bound: it is at most the limit
abbrev pub is_low : {L : Type 0} → (L → ℤ) → ℤ → L → Bool
is_low floor limit a = int_le (floor a) limit
