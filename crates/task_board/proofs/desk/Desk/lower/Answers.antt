use Rattle.std.proofs.Common.{rules, arith, refl, w64, FitsSigned}
use Rattle.std.proofs.lemmas.Int.{to_z-of_z}
use Rattle.task_board.proofs.Steps.{lowers, seen_below, own_same}
use Rattle.task_board.proofs.desk.Desk.lower.Goals as goal

pub fetch_min-before-requires : goal.fetch_min-before-requires
fetch_min-before-requires c =
    let d = c.args.self.now in let b = c.args.board.now in
    let fits : FitsSigned w64 c.args.value = search rules in (
      c.requires.board.0,
      omega (arith, b.sized, c.requires.class),
      lowers _ _ _ d.seat.me d.some_share _ c.args.class _ c.args.value refl
          c.requires.class (simp to_z-of_z at c.word_of-word.ensures),
    )

pub returns-clause-seen : goal.returns-clause-seen
returns-clause-seen c =
    let e = c.fetch_min-before.ensures.2.2 in
    let fits : FitsSigned w64 c.value_of.result = search rules in
    λ x s. simp to_z-of_z (seen_below c.args.self.now.seat.me.0 c.args.class _ _ e.0 c.value_of.result refl e.1 c.value_of.ensures e.3 x s)

pub returns-clause-old : goal.returns-clause-old
returns-clause-old c =
    let e = c.fetch_min-before.ensures.2.2 in
    let fits : FitsSigned w64 c.value_of.result = search rules in
    λ all. simp to_z-of_z (own_same c.args.self.now.seat.me.0 c.args.class _ _ e.0 c.value_of.result refl e.1 c.value_of.ensures e.4 all)
