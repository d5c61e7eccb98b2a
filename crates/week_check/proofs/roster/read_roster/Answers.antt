use Rattle.std.proofs.Common.{◌∙◌, ◌<◌, ◌^◌, All, List, length, subst, sym}
use Rattle.week_check.specs.declared.turn.Turn.{Turn}
use Rattle.week_check.specs.Duties.{IsTurn}
use Rattle.week_check.proofs.OneAnswer.{roster_is, turns_are, turns_few}
use Rattle.week_check.proofs.roster.read_roster.Goals as goal

pub check_days-requires : goal.check_days-requires
check_days-requires c =
    subst (λ ts. All IsTurn ts) (sym (c.as_slice.ensures.value ∙ c.in_ok-turns.ensures.value))
    (turns_are c.args.tables.now c.in_ok-turns.ensures.right).each

pub returns-clause-roster : goal.returns-clause-roster
returns-clause-roster c =
    roster_is c.args.tables.now c.from_vec.result c.as_slice.result.now (c.from_vec.ensures ∙ c.in_ok-turns.ensures.value)
    (c.as_slice.ensures.value ∙ sym c.from_vec.ensures) c.in_ok-turns.ensures.right
    c.in_ok-check_days.ensures.near

pub returns-clause-few : goal.returns-clause-few
returns-clause-few c = subst (λ (ts : List Turn). length ts < 2 ^ 32) (sym (c.from_vec.ensures ∙ c.in_ok-turns.ensures.value))
    (turns_few c.args.tables.now c.requires)
