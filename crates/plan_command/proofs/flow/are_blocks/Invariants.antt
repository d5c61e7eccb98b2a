use Rattle.std.proofs.Common.{◌≡◌, drop}
use Rattle.one_pool_flow.specs.Flows.{all_blocks}
use Rattle.plan_command.proofs.flow.are_blocks.Given as goal

-- all are blocks where those that were not looked at yet are
abbrev pub invariant-loop-path : goal.invariant-loop-path
invariant-loop-path l = all_blocks l.net.day l.paths ≡ all_blocks l.net.day (drop l.path-index l.paths)
