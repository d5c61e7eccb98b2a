use Rattle.std.proofs.Common.{◌≡◌, ◌+◌, false, take, drop, sym, ap, rules}
use Rattle.cover_core.specs.Parts.{column_at}
use Rattle.tail_exchange.specs.declared.candidate.Kind.TheVariants.{Swap}
use Rattle.tail_exchange.specs.Exchange.{worth_of, joined}
use Rattle.tail_exchange.specs.Leasts.{least_from}
use Rattle.tail_exchange.proofs.Lists.{no_worth-of}
use Rattle.tail_exchange.proofs.Folds.{step_for-left, step_for-right}
use Rattle.tail_exchange.proofs.swaps.swap_at.Goals as goal
use Rattle.tail_exchange.proofs.swaps.swap_at.Goals.{then-not-may_join-via-then-not-may_join, then-not-may_join-via-else-not-may_join+then-not-may_join-2}

pub returns-then-not-may_join : goal.returns-then-not-may_join
returns-then-not-may_join g c =
    let p = g.C.Columns.problem c.args.columns.now in
    let plan = c.args.plan.now in
    let s = c.args.swap in
    let first = column_at plan s.a in
    let second = column_at plan s.b in
    let listed = g.met.C.Columns.listed c.args.columns.now in
    let left = worth_of p first.class (joined first.items s.i second.items s.j) in
    let right = worth_of p second.class (joined second.items s.j first.items s.i) in
    elim c.then-not-may_join.branch [
      | then-not-may_join-via-then-not-may_join w ↦
          let test : c.may_join.result ≡ false = search rules in
          let none = no_worth-of p first.class c.split_of.result.0.now c.split_of-2.result.1.now (take s.i first.items)
          (drop s.j second.items) c.may_join.result listed test c.may_join.ensures.apart c.split_of.ensures.front
          c.split_of-2.ensures.tail in
          sym (ap (least_from c.args.best) (step_for-left (first.worth + second.worth) Swap s.a s.b s.i s.j left right none))
      | then-not-may_join-via-else-not-may_join+then-not-may_join-2 w ↦
          let test : w.may_join-else-not-may_join.result ≡ false = search rules in
          let none = no_worth-of p second.class c.split_of-2.result.0.now c.split_of.result.1.now (take s.j second.items)
          (drop s.i first.items) w.may_join-else-not-may_join.result listed test w.may_join-else-not-may_join.ensures.apart
          c.split_of-2.ensures.front c.split_of.ensures.tail in
          sym (ap (least_from c.args.best) (step_for-right (first.worth + second.worth) Swap s.a s.b s.i s.j left right none))
    ]
