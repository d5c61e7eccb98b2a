use Rattle.std.proofs.Common.{Some, cond, Option, ℕ, ap, sym, ◌∙◌}
use Rattle.std.specs.Prelude.{option_and_then}
use Rattle.depot_network.specs.Network.{is_count}
use Rattle.depot_network.proofs.Walks.{worth_walked}
use Rattle.depot_network.proofs.cost.block_worth.Goals as goal

pub returns-clause-value : goal.returns-clause-value
returns-clause-value c =
    c.worth_of.ensures.value
    ∙ ap (λ (o : Option ℕ). option_and_then (λ (n : ℕ). Some (cond (is_count c.args.worth) 1 n)) o) c.block_cost.ensures.value
    ∙ sym (worth_walked c.args.day.now (is_count c.args.worth) c.args.class c.args.list.now)
