use Rattle.std.proofs.Common.{◌≡◌, ◌∙◌, map, ap}
use Rattle.std.specs.List.{range_with_len}
use Rattle.task_board.specs.Desks.{sheet_of}
use Rattle.worker_price.specs.Work.{lowerings}
use Rattle.worker_price.specs.Gathered.{least_lowered}
use Rattle.worker_price.proofs.Choosing.{all_of, least_shown, least_length, least_is_priced, all_shown, kept_shown, columns_shown, fit_shown, desk_of_all}
use Rattle.worker_price.proofs.price.choose.Goals as goal

pub kept_slots-requires-clause-classes : goal.kept_slots-requires-clause-classes
kept_slots-requires-clause-classes g c =
    let is = all_of c.args.board.now (g.P.Columns.problem c.args.pricer.now) c.args.prices.now.items c.args.served
    c.requires.board c.requires.complete in
    let least : c.in_ok-least.least
    ≡ map (least_lowered (lowerings c.args.prices.now.items c.group_count-groups.result c.args.served.found.items))
    (range_with_len 0 c.classes-classes.result) =
    c.in_ok-least.ensures ∙ ap (λ fs. map (least_lowered (lowerings c.args.prices.now.items c.group_count-groups.result fs))
    (range_with_len 0 c.classes-classes.result)) c.as_slice.ensures.value in
    least_length (g.P.Columns.problem c.args.pricer.now) c.args.prices.now.items (sheet_of c.args.served.desk) c.args.served.found.items is
    c.classes-classes.result c.group_count-groups.result c.in_ok-least.least c.classes-classes.ensures.value
    c.group_count-groups.ensures.value least

pub kept_slots-requires-clause-all : goal.kept_slots-requires-clause-all
kept_slots-requires-clause-all g c =
    let is = all_of c.args.board.now (g.P.Columns.problem c.args.pricer.now) c.args.prices.now.items c.args.served
    c.requires.board c.requires.complete in
    let least : c.in_ok-least.least
    ≡ map (least_lowered (lowerings c.args.prices.now.items c.group_count-groups.result c.args.served.found.items))
    (range_with_len 0 c.classes-classes.result) =
    c.in_ok-least.ensures ∙ ap (λ fs. map (least_lowered (lowerings c.args.prices.now.items c.group_count-groups.result fs))
    (range_with_len 0 c.classes-classes.result)) c.as_slice.ensures.value in
    all_shown (g.P.Columns.problem c.args.pricer.now) c.args.prices.now.items (sheet_of c.args.served.desk) c.args.served.found.items is
    c.classes-classes.result c.group_count-groups.result c.in_ok-least.least c.classes-classes.ensures.value
    c.group_count-groups.ensures.value least

pub kept_slots-requires-clause-kept : goal.kept_slots-requires-clause-kept
kept_slots-requires-clause-kept g c =
    let is = all_of c.args.board.now (g.P.Columns.problem c.args.pricer.now) c.args.prices.now.items c.args.served
    c.requires.board c.requires.complete in
    let least : c.in_ok-least.least
    ≡ map (least_lowered (lowerings c.args.prices.now.items c.group_count-groups.result c.args.served.found.items))
    (range_with_len 0 c.classes-classes.result) =
    c.in_ok-least.ensures ∙ ap (λ fs. map (least_lowered (lowerings c.args.prices.now.items c.group_count-groups.result fs))
    (range_with_len 0 c.classes-classes.result)) c.as_slice.ensures.value in
    kept_shown (g.P.Columns.problem c.args.pricer.now) c.args.prices.now.items (sheet_of c.args.served.desk) c.args.served.found.items is
    c.classes-classes.result c.group_count-groups.result c.in_ok-least.least c.classes-classes.ensures.value
    c.group_count-groups.ensures.value least

pub returns-clause-columns : goal.returns-clause-columns
returns-clause-columns g c =
    let is = all_of c.args.board.now (g.P.Columns.problem c.args.pricer.now) c.args.prices.now.items c.args.served
    c.requires.board c.requires.complete in
    let least : c.in_ok-least.least
    ≡ map (least_lowered (lowerings c.args.prices.now.items c.group_count-groups.result c.args.served.found.items))
    (range_with_len 0 c.classes-classes.result) =
    c.in_ok-least.ensures ∙ ap (λ fs. map (least_lowered (lowerings c.args.prices.now.items c.group_count-groups.result fs))
    (range_with_len 0 c.classes-classes.result)) c.as_slice.ensures.value in
    columns_shown (g.P.Columns.problem c.args.pricer.now) c.args.prices.now.items (sheet_of c.args.served.desk) c.args.served.found.items is
    c.classes-classes.result c.group_count-groups.result c.in_ok-least.least c.classes-classes.ensures.value
    c.group_count-groups.ensures.value least c.in_ok-slots.slots c.in_ok-columns.columns c.in_ok-slots.ensures c.in_ok-columns.ensures

pub returns-clause-fit : goal.returns-clause-fit
returns-clause-fit g c =
    let is = all_of c.args.board.now (g.P.Columns.problem c.args.pricer.now) c.args.prices.now.items c.args.served
    c.requires.board c.requires.complete in
    let least : c.in_ok-least.least
    ≡ map (least_lowered (lowerings c.args.prices.now.items c.group_count-groups.result c.args.served.found.items))
    (range_with_len 0 c.classes-classes.result) =
    c.in_ok-least.ensures ∙ ap (λ fs. map (least_lowered (lowerings c.args.prices.now.items c.group_count-groups.result fs))
    (range_with_len 0 c.classes-classes.result)) c.as_slice.ensures.value in
    fit_shown (g.P.Columns.problem c.args.pricer.now) c.args.prices.now.items (sheet_of c.args.served.desk) c.args.served.found.items is
    c.classes-classes.result c.group_count-groups.result c.in_ok-least.least c.classes-classes.ensures.value
    c.group_count-groups.ensures.value least c.in_ok-slots.slots c.in_ok-columns.columns c.in_ok-slots.ensures c.in_ok-columns.ensures

pub returns-clause-least : goal.returns-clause-least
returns-clause-least g c =
    let is = all_of c.args.board.now (g.P.Columns.problem c.args.pricer.now) c.args.prices.now.items c.args.served
    c.requires.board c.requires.complete in
    let least : c.in_ok-least.least
    ≡ map (least_lowered (lowerings c.args.prices.now.items c.group_count-groups.result c.args.served.found.items))
    (range_with_len 0 c.classes-classes.result) =
    c.in_ok-least.ensures ∙ ap (λ fs. map (least_lowered (lowerings c.args.prices.now.items c.group_count-groups.result fs))
    (range_with_len 0 c.classes-classes.result)) c.as_slice.ensures.value in
    least_shown (g.P.Columns.problem c.args.pricer.now) c.args.prices.now.items (sheet_of c.args.served.desk) c.args.served.found.items is
    c.classes-classes.result c.group_count-groups.result c.in_ok-least.least c.classes-classes.ensures.value
    c.group_count-groups.ensures.value least
    ∙ least_is_priced (g.P.Columns.problem c.args.pricer.now) c.args.prices.now.items (sheet_of c.args.served.desk)
    c.args.served.found.items is

pub returns-clause-desk : goal.returns-clause-desk
returns-clause-desk g c =
    desk_of_all c.args.board.now (g.P.Columns.problem c.args.pricer.now) c.args.prices.now.items c.args.served
    c.requires.board c.requires.complete
