use Rattle.std.proofs.Common.{◌≡◌, All}
use Rattle.plan_core.specs.declared.mem_files.MemFile.{MemFile}
use Rattle.planning_tests.proofs.export_tests.export.Given as goal

-- no read of a file failed so far
abbrev pub invariant-loop-place : goal.invariant-loop-place
invariant-loop-place l = All (λ (file : MemFile). file.faults ≡ 0) l.files
