use Rattle.std.proofs.Common.{List, ℕ, ap, ◌∙◌}
use Rattle.plan_cert.specs.declared.shape.ClassNumbers.{ClassNumbers}
use Rattle.plan_cert.specs.Shapes.{pool_numbers_of}
use Rattle.plan_cert.proofs.shape.class_numbers.Goals as goal

pub returns-clause-numbers : goal.returns-clause-numbers
returns-clause-numbers c =
    let make : List ℕ → List ℕ → ClassNumbers = λ pools groups. record { pools = pools; groups = groups } in
    ap (λ (pools : List ℕ). make pools c.in_ok-groups.groups) c.in_ok-pools.ensures.numbers
    ∙ ap (λ (groups : List ℕ). make (pool_numbers_of c.args.day.now) groups) c.in_ok-groups.ensures.numbers
