use Rattle.std.proofs.Common.{◌<◌, ◌≤ℤ◌, ◌∙◌, ℕ, ℤ, pos, ap, arith, subst, sym}
use Rattle.std.proofs.lemmas.Int.{ints}
use Rattle.std.specs.Prelude.{◌-ℤ◌, IfSome, Option}
use Rattle.duty_network.specs.Times.{seconds}
use Rattle.duty_network.proofs.Pausing.{few-seconds}
use Rattle.duty_network.proofs.net.between_pieces.Goals as goal

pub returns-clause-range : goal.returns-clause-range
returns-clause-range c =
    let left : ℤ = c.args.next.now.begin.0 -ℤ c.args.piece.now.end.0 in
    let begun = c.requires.piece.begins in
    let order = c.requires.piece.order in
    let before = c.requires.next.order in
    let ends = c.requires.next.ends in
    let few : left ≤ℤ pos 345600 = omega (arith, ints) in
    let P : Option ℕ → Type 0 = λ o. IfSome o (λ time. time < 4294967295) in
    subst P (sym (c.to_seconds.ensures ∙ ap seconds (omega (arith, ints)))) (few-seconds left few)
