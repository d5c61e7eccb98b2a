use Rattle.std.proofs.Common.{◌≡◌, ◌∷◌, [], ◌++◌, ◌+◌, List, get_or, refl, sym, ap, ◌∙◌, subst, ℕ}
use Rattle.std.proofs.Math.ListN.{set}
use Rattle.cover_core.specs.declared.Column.{Column}
use Rattle.cover_core.specs.FirstLeast.{AreCheap}
use Rattle.cover_core.proofs.Values.{AreCheap-push, AreCheap-set}
use Rattle.plan_round.specs.Drafts.{IsCounted}
use Rattle.plan_round.proofs.Counts.{counted-set, counted-push}
use Rattle.plan_round.proofs.fill.put.Goals as goal

pub returns-in_ok-items-in-Into-clause-counted : goal.returns-in_ok-items-in-Into-clause-counted
returns-in_ok-items-in-Into-clause-counted c =
    let columns = c.args.draft.now.columns in
    let counts = c.args.draft.now.counts in
    let old = c.index-as_slice-place.result in
    let is : old ≡ get_or columns c.in-Into.place old =
    c.index-as_slice-place.is ∙ ap (λ (l : List Column). get_or l c.in-Into.place old) c.as_slice.ensures in
    let new : Column = record { class = old.class; worth = c.args.choice.worth; items = c.in_ok-items-in-Into.items } in
    let spot = rw c.in-Into.is at c.requires.spot in
    let P : List Column → Type 0 = λ l. IsCounted l counts in
    subst P (sym c.set.ensures) (counted-set columns counts c.in-Into.place new old spot is refl c.requires.counted)

pub returns-in_ok-push-in-New-clause-counted : goal.returns-in_ok-push-in-New-clause-counted
returns-in_ok-push-in-New-clause-counted c =
    let columns = c.args.draft.now.columns in
    let counts = c.args.draft.now.counts in
    let new : Column = record { class = c.in-New.class; worth = c.args.choice.worth; items = c.in_ok-items-in-New.items } in
    let n : ℕ = get_or c.as_slice-in-New-2.result.now c.in-New.class 0 in
    let is : n ≡ get_or counts c.in-New.class 0 = ap (λ (l : List ℕ). get_or l c.in-New.class 0) c.as_slice-in-New-2.ensures in
    let spot = rw c.in-New.is at c.requires.spot in
    let counted : IsCounted (columns ++ new ∷ []) (set counts c.in-New.class (n + 1)) =
    counted-push columns counts new n spot.0 is c.requires.counted in
    let P : List Column → Type 0 = λ l. IsCounted l (set counts c.in-New.class (n + 1)) in
    let Q : List ℕ → Type 0 = λ l. IsCounted c.push.new.self l in
    subst Q (sym c.set-in-New.ensures) (subst P (sym c.in_ok-push-in-New.ensures.ok) counted)

pub returns-in_ok-items-in-Into-clause-cheap : goal.returns-in_ok-items-in-Into-clause-cheap
returns-in_ok-items-in-Into-clause-cheap c =
    let new : Column = record {
      class = c.index-as_slice-place.result.class;
      worth = c.args.choice.worth;
      items =
          c.in_ok-items-in-Into.items;
    } in
    subst AreCheap (sym c.set.ensures) (AreCheap-set c.args.draft.now.columns c.in-Into.place new c.requires.cheap c.requires.worth)

pub returns-in_ok-push-in-New-clause-cheap : goal.returns-in_ok-push-in-New-clause-cheap
returns-in_ok-push-in-New-clause-cheap c =
    let new : Column = record { class = c.in-New.class; worth = c.args.choice.worth; items = c.in_ok-items-in-New.items } in
    subst AreCheap (sym c.in_ok-push-in-New.ensures.ok) (AreCheap-push c.args.draft.now.columns new c.requires.cheap c.requires.worth)
