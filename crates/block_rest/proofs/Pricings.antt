-- What a list of the rest may begin with.
use Rattle.std.proofs.Common.{◌≡◌, ◌≢◌, ℕ, List, [], ◌∷◌, ◌++◌, refl}
use Rattle.day_model.specs.Facts.{DayFacts}
use Rattle.block_rest.specs.Rest.{may_begin}

-- whether a block may be begun now is seen in its first trip
pub first-alone : (day : DayFacts) (moment class : ℕ) (body more : List ℕ) → body ≢ [] →
    may_begin day moment class (body ++ more) ≡ may_begin day moment class body
first-alone day moment class [] more some = absurd (some refl)
first-alone day moment class (t ∷ ts) more some = refl
