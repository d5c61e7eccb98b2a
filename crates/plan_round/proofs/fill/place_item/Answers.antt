use Rattle.std.proofs.Common.{◌≡◌, ◌∙◌, refl, sym, ap, subst, Some, None}
use Rattle.plan_round.specs.Rounding.{first_cheapest, choices, with_choice, whole}
use Rattle.plan_round.proofs.Puts.{IsAllowed, IfChosen, choices-allowed, first_cheapest-each}
use Rattle.plan_round.proofs.Inserts.{chosen-is}
use Rattle.plan_round.proofs.Counts.{allowed-spot}
use Rattle.plan_round.proofs.fill.place_item.Goals as goal

pub returns-in-None-clause-placed : goal.returns-in-None-clause-placed
returns-in-None-clause-placed g c =
    let p = g.C.Columns.problem c.args.columns.now in
    let part = c.args.draft.now.columns in
    let found : first_cheapest None (choices p c.args.item part) ≡ None =
    chosen-is p c.args.item part c.as_slice.result.now c.in_ok-column.column None c.in_ok-column.ensures.best
    c.as_slice.ensures c.in-None.ensures.best in
    (ap (with_choice c.args.item part) found, refl)

pub put-requires-clause-spot : goal.put-requires-clause-spot
put-requires-clause-spot g c =
    let p = g.C.Columns.problem c.args.columns.now in
    let part = c.args.draft.now.columns in
    let choice = c.in-Some.choice in
    let found : first_cheapest None (choices p c.args.item part) ≡ Some choice =
    chosen-is p c.args.item part c.as_slice.result.now c.in_ok-column.column (Some choice) c.in_ok-column.ensures.best
    c.as_slice.ensures c.in-Some.ensures.best in
    let allowed = subst (IfChosen (IsAllowed p c.args.item part)) found
    (first_cheapest-each (IsAllowed p c.args.item part) None (choices p c.args.item part) tt (choices-allowed p c.args.item part)) in
    allowed-spot p c.args.item part c.args.draft.now.counts choice.rise choice.worth choice.spot c.requires.sized
    c.requires.counted c.requires.places allowed

pub returns-clause-placed : goal.returns-clause-placed
returns-clause-placed g c =
    let p = g.C.Columns.problem c.args.columns.now in
    let part = c.args.draft.now.columns in
    let choice = c.in-Some.choice in
    let found : first_cheapest None (choices p c.args.item part) ≡ Some choice =
    chosen-is p c.args.item part c.as_slice.result.now c.in_ok-column.column (Some choice) c.in_ok-column.ensures.best
    c.as_slice.ensures c.in-Some.ensures.best in
    ap (with_choice c.args.item part) found ∙ ap whole (sym c.in_ok-put-in-Some.ensures.columns)
