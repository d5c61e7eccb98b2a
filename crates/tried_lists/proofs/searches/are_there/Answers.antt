use Rattle.std.proofs.Common.{ℕ, ◌<◌, List, [], ◌∷◌, All, subst}
use Rattle.std.proofs.lemmas.List.Elements.{All-head, All-tail}
use Rattle.cover_core.specs.Cover.{AllBelow}
use Rattle.tried_lists.proofs.searches.are_there.Goals as goal

below-from : (n : ℕ) (items : List ℕ) → All (λ item. item < n) items → AllBelow n items
below-from n [] each = tt
below-from n (item ∷ items) each =
    (All-head (λ m. m < n) item items each, below-from n items (All-tail (λ m. m < n) item items each))

pub returns : goal.returns
returns g c = λ yes.
    let P : ℕ → Type 0 = λ n. AllBelow n c.args.list.now in
    subst P c.items.ensures.value (below-from c.items.result c.args.list.now (c.each_is_below.ensures.0 yes))
