use Rattle.std.proofs.Common.{◌≡◌, ◌==◌, ◌&&◌, ◌∷◌, [], ◌++◌, ◌+◌, false, List, ℕ, get_or, sym, ap, ◌∙◌, subst}
use Rattle.std.proofs.Math.ListN.{set}
use Rattle.cover_core.specs.declared.Column.{Column}
use Rattle.cover_core.specs.Plans.{times}
use Rattle.cover_core.specs.FirstLeast.{AreCheap}
use Rattle.cover_core.proofs.Values.{AreCheap-push}
use Rattle.plan_round.specs.Drafts.{IsCounted, ShowsFree}
use Rattle.plan_round.proofs.Counts.{counted-push}
use Rattle.plan_round.proofs.Takes.{shows-added}
use Rattle.plan_round.proofs.take.add.Goals as goal

pub returns-clause-cheap : goal.returns-clause-cheap
returns-clause-cheap c =
    let new : Column = record { class = c.args.column.now.class; worth = c.args.column.now.worth; items = c.in_ok-items.items } in
    subst AreCheap (sym c.in_ok-push.ensures.ok) (AreCheap-push c.args.draft.now.columns new c.requires.cheap c.requires.worth)

pub returns-clause-counted : goal.returns-clause-counted
returns-clause-counted c =
    let columns = c.args.draft.now.columns in
    let counts = c.args.draft.now.counts in
    let class = c.args.column.now.class in
    let new : Column = record { class = class; worth = c.args.column.now.worth; items = c.in_ok-items.items } in
    let n : ℕ = get_or c.as_slice-2.result.now class 0 in
    let is : n ≡ get_or counts class 0 = ap (λ (l : List ℕ). get_or l class 0) c.as_slice-2.ensures in
    let counted : IsCounted (columns ++ new ∷ []) (set counts class (n + 1)) =
    counted-push columns counts new n c.requires.class is c.requires.counted in
    let P : List Column → Type 0 = λ l. IsCounted l (set counts class (n + 1)) in
    let Q : List ℕ → Type 0 = λ l. IsCounted c.push.new.self l in
    subst Q (sym c.set.ensures) (subst P (sym c.in_ok-push.ensures.ok) counted)

pub returns-clause-free : goal.returns-clause-free
returns-clause-free c =
    let columns = c.args.draft.now.columns in
    let free = c.args.free.now in
    let new : Column = record { class = c.args.column.now.class; worth = c.args.column.now.worth; items = c.in_ok-items.items } in
    let same : c.in_ok-items.items ≡ c.args.column.now.items = c.in_ok-items.ensures ∙ c.as_slice.ensures in
    let P : List Column → Type 0 = λ l. ShowsFree l c.mark.new.free in
    subst P (sym c.in_ok-push.ensures.ok) (shows-added columns new free c.mark.new.free c.mark.ensures.len c.requires.free
    (λ i. c.mark.ensures.marked i ∙ ap (λ (l : List ℕ). (times i l == 0) && get_or free i false) (c.as_slice-3.ensures ∙ sym same)))
