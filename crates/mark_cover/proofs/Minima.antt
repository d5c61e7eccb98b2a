-- Kept marks are the minimal ones.
use Rattle.std.proofs.Common.{◌≡◌, ℕ, ◌<◌, List, true, subst}
use Rattle.std.specs.declared.cmp.Ordering.{Ordering}
use Rattle.cover_core.specs.Labels.{IsCover}
use Rattle.cover_core.proofs.Labels.{covers}
use Rattle.label_search.specs.Laws.{GoodAs}
use Rattle.mark_cover.specs.Marking.{Marking, of_class, IsOrdered}
use Rattle.mark_cover.specs.Covers.{StandsIn, IsMet}
use Rattle.mark_cover.proofs.Permuted.{kept-permuted}
use Rattle.mark_cover.specs.Minimal.{IsOpenMark, AreKept, KeptAreMinimal}

-- a mark of the list
abbrev Stands : {L : Type 0} → List L → L → Type 0
Stands marks a = StandsIn marks a

kept-cover : {L : Type 0} (m : Marking L) (marks : List L) (class : ℕ) → class < m.classes → AreKept m marks →
    IsCover (of_class m class) (GoodAs m.good) (Stands marks)
kept-cover m marks class there kept = record {
  starts = λ item b e. let (a, stands, good) = kept.starts class item b there e in (a, stands, good);
  steps = λ a b item stands e. let (c, stands2, good) = kept.steps a b item stands e in (c, stands2, good);
}

-- each open list has a kept mark at least as good as its own
pub open-met : {L : Type 0} (m : Marking L) (marks : List L) → IsOrdered m → AreKept m marks → (b : L) → IsOpenMark m b → IsMet m marks b
open-met m marks ordered kept b is_open =
    let (class, there, list, has) = is_open in
    let (a, stands, good) =
    covers (of_class m class) (GoodAs m.good) (Stands marks) (ordered.kept class) (kept-cover m marks class there kept) list b has in
    (a, stands, good)

-- Marks that meet all starts and their own extensions, none of which is at least as good as another, are exactly the minimal marks
-- of open lists. Each open list has a kept mark at least as good as its own (`open-met`, by the laws of dominance). If an open mark
-- is at least as good as a kept one, some kept mark is at least as good as it, hence as the kept one, and so is that very mark; and
-- marks as good as one another are the same. A minimal mark in turn is met by a kept one, which must be it. So the marks that are
-- made do not depend on how they were made.
pub kept-minimal : {L : Type 0} (m : Marking L) (order : L → L → Ordering) → IsOrdered m → KeptAreMinimal m order
kept-minimal {L = L} m order ordered made marks apart made_kept permuted rising =
    let kept = kept-permuted m made marks made_kept permuted in
    record {
      only = λ a stands. (
        kept.are_open a stands,
        (λ b is_open good.
            let (c, stands2, better) = open-met m marks ordered kept b is_open in
            let through = (ordered.kept 0).through c b a better good in
            let same = kept.alone c a stands2 stands through in
            let P : L → Type 0 = λ x. m.good x b ≡ true in
            apart b a good (subst P same better)),
      );
      all = λ a minimal.
          let (c, stands, good) = open-met m marks ordered kept a minimal.0 in
          let same = minimal.1 c (kept.are_open c stands) good in
          let P : L → Type 0 = λ x. StandsIn marks x in
          subst P same stands;
      rising = rising;
    }
