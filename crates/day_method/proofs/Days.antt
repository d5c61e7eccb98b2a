-- A day ends in one way alone.
use Rattle.std.proofs.Common.{◌≡◌, true, false, sym, ap, ◌∙◌, subst}
use Rattle.cover_plan.specs.Endings.{Numbers, Ending, planned, no_plan, not_placed}
use Rattle.cover_plan.proofs.Once.{one_ending, one_ending_by}
use Rattle.day_method.specs.Method.{DayProblems, SidePlan, DayEnding, with_duties, blocks_after, DutiesEndAs, GoesOn, DayEndsAs}

one_duties : (day : DayProblems) (numbers : Numbers) → numbers.climb ≡ false → (blocks : SidePlan) (one other : DayEnding) →
    DutiesEndAs day numbers blocks one → DutiesEndAs day numbers blocks other → one ≡ other
one_duties day numbers fixed blocks one other h k =
    h.is ∙ (ap (λ (e : Ending). with_duties day blocks e)
    (one_ending (day.duties blocks.columns true) (day.duties blocks.columns false) numbers fixed h.duties k.duties h.ends k.ends)
    ∙ sym k.is)

one_further : (day : DayProblems) (numbers : Numbers) → numbers.climb ≡ false → (blocks : Ending) (one other : DayEnding) →
    GoesOn day numbers blocks one → GoesOn day numbers blocks other → one ≡ other
one_further day numbers fixed (planned count cost columns) one other h k =
    one_duties day numbers fixed (blocks_after day count cost columns) one other h k
one_further day numbers fixed (no_plan bound places) one other h k = h ∙ sym k
one_further day numbers fixed (not_placed item partial) one other h k = h ∙ sym k

-- A day ends in one way alone: the blocks end in one way, and what is asked of the duties is a function of how the blocks end. It
-- is one step of `cover_plan` after another; the pieces to be covered are the same because the blocks are.
pub one_day : (day : DayProblems) (numbers : Numbers) → numbers.climb ≡ false → (one other : DayEnding) → DayEndsAs day numbers one →
    DayEndsAs day numbers other → one ≡ other
one_day day numbers fixed one other h k =
    let same : h.blocks ≡ k.blocks =
    one_ending_by (day.blocks true) (day.blocks false) numbers fixed day.known_blocks h.blocks k.blocks h.ends k.ends in
    let P : Ending → Type 0 = λ e. GoesOn day numbers e one in
    one_further day numbers fixed k.blocks one other (subst P same h.goes_on) k.goes_on
