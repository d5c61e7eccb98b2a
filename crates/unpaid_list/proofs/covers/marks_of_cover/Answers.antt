use Rattle.std.proofs.Common.{subst}
use Rattle.cover_core.specs.Cover.{Problem}
use Rattle.mark_cover.specs.Marking.{AreMarksOf}
use Rattle.mark_cover.proofs.Paid.{cover-at-least}
use Rattle.unpaid_list.proofs.Risen.{high-cover, kept-there, paid-cover}
use Rattle.unpaid_list.proofs.covers.marks_of_cover.Goals as goal

pub closes_below-requires : goal.closes_below-requires
closes_below-requires g c =
    let m = g.M.Marks.marking c.args.m.now in
    record { there = rw c.as_slice.ensures (kept-there m c.args.marks (g.met.M.Marks.placed c.args.m.now) c.requires.kept) }

pub returns-then-not-closes_below-clause-cover : goal.returns-then-not-closes_below-clause-cover
returns-then-not-closes_below-clause-cover g c =
    let m = g.M.Marks.marking c.args.m.now in
    let high = rw c.as_slice.ensures at (c.closes_below.ensures.none c.if-not-closes_below.true) in
    high-cover m c.args.marks c.args.class_prices.now c.requires.kept high

-- Where no kept mark closes too low the marks are a cover, and no search is made. That no list of any class is unpaid, which a search
-- would have told, follows from the cover itself (`cover-at-least`).
pub returns-then-not-closes_below-clause-paid : goal.returns-then-not-closes_below-clause-paid
returns-then-not-closes_below-clause-paid g c =
    let s = c.args.m.now in
    let m = g.M.Marks.marking s in
    let prices = g.M.Marks.prices s in
    let p = g.C.Columns.problem c.args.columns.now in
    let P : Problem → Type 0 = λ q. AreMarksOf m q prices in
    let marks_of = subst P c.requires.same (g.met.M.Marks.tied s) in
    let high = rw c.as_slice.ensures at (c.closes_below.ensures.none c.if-not-closes_below.true) in
    let cover = high-cover m c.args.marks c.args.class_prices.now c.requires.kept high in
    cover-at-least m p prices c.args.marks c.args.class_prices.now (g.met.M.Marks.ordered s) (g.met.M.Marks.placed s) marks_of cover

pub returns-in-Ok-None-clause-cover : goal.returns-in-Ok-None-clause-cover
returns-in-Ok-None-clause-cover g c =
    let s = c.args.m.now in
    let m = g.M.Marks.marking s in
    let prices = g.M.Marks.prices s in
    let p = g.C.Columns.problem c.args.columns.now in
    let P : Problem → Type 0 = λ q. AreMarksOf m q prices in
    let marks_of = subst P c.requires.same (g.met.M.Marks.tied s) in
    paid-cover m p prices c.args.class_prices.now c.args.marks (g.met.M.Marks.placed s) marks_of c.requires.kept
    (rw c.in-Ok-None.field-0-is at c.in-Ok-None.ensures.none)
