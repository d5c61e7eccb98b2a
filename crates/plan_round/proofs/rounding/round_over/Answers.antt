use Rattle.std.proofs.Common.{◌≡◌, [], sym, ap, ◌∙◌, subst, List}
use Rattle.cover_core.specs.declared.Column.{Column}
use Rattle.cover_core.specs.Parts.{IsPart}
use Rattle.plan_round.specs.Rounding.{taken, picked}
use Rattle.plan_round.proofs.Rounds.{taken-part, no_columns}
use Rattle.plan_round.proofs.Takes.{picked-columns}
use Rattle.plan_round.proofs.rounding.round_over.Goals as goal

pub fill-requires-clause-part : goal.fill-requires-clause-part
fill-requires-clause-part g c =
    let p = g.C.Columns.problem c.args.columns.now in
    let ordered : List Column = picked c.args.pool.now c.args.places.now in
    let is : c.take_all.new.draft.columns ≡ taken p [] ordered =
    c.in-Ok-take_all.ensures.taken ∙ ap (λ (l : List Column). taken p l ordered) c.new.ensures in
    subst (IsPart p) (sym is)
    (taken-part p [] ordered (g.met.C.Columns.listed c.args.columns.now)
    (picked-columns p c.args.pool.now c.args.places.now c.requires.pool c.requires.places) (no_columns p))
