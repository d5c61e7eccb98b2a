use Rattle.std.proofs.Common.{arith, pos, ◌+ℤ◌, ◌≤ℤ◌}
use Rattle.std.proofs.lemmas.Int.{ints}
use Rattle.week_check.specs.Days.{number_of}
use Rattle.week_check.proofs.Near.{all_near}
use Rattle.week_check.proofs.roster.check_days.Goals as goal

pub returns-clause-near : goal.returns-clause-near
returns-clause-near c =
    let near : number_of c.last_day-last.result ≤ℤ (number_of c.first_day-first.result +ℤ pos 13) =
    omega (
      arith,
      ints,
      c.if-number_of-ge14.false,
      c.number_of.ensures.value,
      c.number_of-2.ensures.value,
      c.number_of.ensures.bound,
      c.number_of-2.ensures.bound,
    ) in
    all_near c.args.turns.now c.first_day-first.result c.last_day-last.result c.first_day-first.ensures.first
    c.last_day-last.ensures.last near
