use Rattle.std.proofs.Common.{ℕ, ◌<◌, List, [], ◌∷◌, All}
use Rattle.std.proofs.lemmas.List.Elements.{All-head, All-tail}
use Rattle.cover_core.specs.Cover.{AllBelow}
use Rattle.plan_file_tests.proofs.written_plan.are_below.Goals as goal

AllBelow-from : (n : ℕ) (items : List ℕ) → All (λ item. item < n) items → AllBelow n items
AllBelow-from n [] each = tt
AllBelow-from n (item ∷ items) each =
    (All-head (λ m. m < n) item items each, AllBelow-from n items (All-tail (λ m. m < n) item items each))

pub returns : goal.returns
returns c = λ yes. AllBelow-from c.args.count c.args.items.now (c.each_is_below.ensures.0 yes)
