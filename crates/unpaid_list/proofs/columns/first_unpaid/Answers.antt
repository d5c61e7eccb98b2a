use Rattle.std.proofs.Common.{rules, w64}
use Rattle.std.proofs.lemmas.Int.{to_z-of_z}
use Rattle.std.specs.Prelude.{FitsSigned}
use Rattle.unpaid_list.proofs.Firsts.{first-answer, unpaid-refutes}
use Rattle.unpaid_list.proofs.columns.first_unpaid.Goals as goal

pub returns-in-Some-clause-first : goal.returns-in-Some-clause-first
returns-in-Some-clause-first g c =
    let p = g.C.Columns.problem c.args.columns.now in
    let prices = g.M.Marks.prices c.args.m.now in
    let least = rw c.in-Some.is at c.in_ok-class_unpaid.ensures.least in
    let fits : FitsSigned w64 c.price_of.result = search rules in
    let unpaid = rw c.price_of.ensures at (rw (to_z-of_z w64 c.price_of.result
    fits) at (rw c.in-Some.is at c.in_ok-class_unpaid.ensures.unpaid)) in
    first-answer p prices c.args.class_prices.now c.loop-class.class c.in-Some.column least unpaid c.loop-class.invariant

pub returns-in-Some-clause-onto : goal.returns-in-Some-clause-onto
returns-in-Some-clause-onto g c = λ paid.
    let p = g.C.Columns.problem c.args.columns.now in
    let prices = g.M.Marks.prices c.args.m.now in
    let least = rw c.in-Some.is at c.in_ok-class_unpaid.ensures.least in
    let fits : FitsSigned w64 c.price_of.result = search rules in
    let unpaid = rw c.price_of.ensures at (rw (to_z-of_z w64 c.price_of.result
    fits) at (rw c.in-Some.is at c.in_ok-class_unpaid.ensures.unpaid)) in
    absurd (unpaid-refutes p prices c.args.class_prices.now c.in-Some.column
    (first-answer p prices c.args.class_prices.now c.loop-class.class c.in-Some.column least unpaid c.loop-class.invariant) paid)
