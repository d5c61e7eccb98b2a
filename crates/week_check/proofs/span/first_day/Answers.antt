use Rattle.std.proofs.Common.{arith, ◌≤ℤ◌, false, get_or, pos}
use Rattle.std.proofs.lemmas.List.Elements.{All-get_or}
use Rattle.week_check.specs.declared.turn.Turn.{Turn}
use Rattle.week_check.specs.Days.{number_of}
use Rattle.week_check.specs.Duties.{IsTurn}
use Rattle.week_check.proofs.Adding.{at_place}
use Rattle.week_check.proofs.Near.{all_taken, day_more, least_more, there_more}
use Rattle.week_check.proofs.span.first_day.Goals as goal

-- what stands for a duty past the end of a list
past_end : Turn
past_end = record { driver = 0; day = 0; begin = pos 0; end = pos 0; driving = 0; three = false }

pub loop-turn-preserved : goal.loop-turn-preserved
unfolding past_end
loop-turn-preserved c =
    let turns = c.args.turns.now in
    let i = c.loop-turn.turn-index in
    let turn : Turn = get_or c.args.turns.now c.loop-turn.turn-index past_end in
    let is = at_place c.args.turns.now c.loop-turn.turn-index past_end turn c.loop-turn-test.true in
    let own : IsTurn turn = All-get_or IsTurn c.args.turns.now c.loop-turn.turn-index past_end c.loop-turn-test.true c.requires.each in
    record {
      day = day_more c.loop-turn.first turn.day c.earlier-first.result c.earlier-first.ensures.one c.loop-turn.invariant.day own.day;
      least = least_more turns i turn c.loop-turn.first c.earlier-first.result c.loop-turn-test.true is c.earlier-first.ensures.a
          c.earlier-first.ensures.b c.loop-turn.invariant.least;
      there = there_more turns i turn c.loop-turn.first c.earlier-first.result c.loop-turn-test.true is c.earlier-first.ensures.one
          c.loop-turn.invariant.there;
    }

pub returns-clause-first : goal.returns-clause-first
returns-clause-first c = record {
  least = all_taken (λ (u : Turn). number_of c.loop-turn.first ≤ℤ number_of u.day) c.args.turns.now c.loop-turn.turn-index
      (omega (arith, c.loop-turn-test.false, c.loop-turn.auto.turn-index-end)) c.loop-turn.invariant.least;
  there = c.loop-turn.invariant.there;
}
