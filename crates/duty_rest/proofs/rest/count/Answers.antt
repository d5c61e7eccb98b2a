use Rattle.std.proofs.Common.{◌≤◌, length, arith, rules}
use Rattle.duty_rest.proofs.rest.count.Goals as goal

pub overflow_cast-result : goal.overflow_cast-result
overflow_cast-result c =
    let few : length c.args.net.now.pieces ≤ 3000 = search rules in
    let less = c.requires.few in
    omega (arith, few, less)

pub returns-clause-bound : goal.returns-clause-bound
returns-clause-bound c =
    let few : length c.args.net.now.pieces ≤ 3000 = search rules in
    let less = c.requires.few in
    omega (arith, few, less)
