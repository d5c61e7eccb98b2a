use Rattle.std.proofs.Common.{arith, refl, rules, w64, FitsSigned}
use Rattle.std.proofs.lemmas.Int.{to_z-of_z}
use Rattle.task_board.proofs.Steps.{looks, seen_below}
use Rattle.task_board.proofs.desk.Desk.look.Goals as goal

pub load-word-requires : goal.load-word-requires
load-word-requires c =
    let d = c.args.self.now in let b = c.args.board.now in
    (c.requires.board.0, omega (arith, b.sized, c.requires.class), looks _ _ _ _ d.some_share _ c.args.class refl c.requires.class)

pub returns-clause-seen : goal.returns-clause-seen
returns-clause-seen c =
    let e = c.load-word.ensures.2.1 in
    let fits : FitsSigned w64 c.value_of.result = search rules in
    λ x s. simp to_z-of_z (seen_below c.args.self.now.seat.me.0 c.args.class _ _ e.0 c.value_of.result refl e.1 c.value_of.ensures e.4 x s)
