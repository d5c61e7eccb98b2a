use Rattle.std.proofs.Common.{◌≡◌, ℕ, List, Some, IsTrue, All, length, take, ◌<◌, ◌^◌}
use Rattle.vdv451_text.specs.Plain.{are_plain}
use Rattle.input_files.specs.Inputs.{held_under}
use Rattle.input_files.specs.Stages.{IsStage}
use Rattle.input_files.proofs.InputLemmas.{IsReadTo}
use Rattle.input_files.proofs.inputs.read_files.Given as goal

-- What the loop knows after so many files: `to`, for each initial part of the names whose bytes are told, that what was read is the
-- reading of as many of them as were passed, or that the whole part is right; `quiet` and `same`, that until now no count moved and
-- nothing held changed, so that a fault of the next read is one of this call. The other fields are facts of the parts by themselves.
abbrev pub invariant-loop-place : goal.invariant-loop-place
invariant-loop-place g l = record {
  sound : IsStage l.next;
  plain : All (λ tables. IsTrue (are_plain tables)) l.parts;
  sized : All (λ tables. All (λ table. length table.rows < 2 ^ 32) tables) l.parts;
  number : length l.parts ≡ l.place;
  quiet : (other : List ℕ) → g.F.Files.faults l.files other ≡ g.F.Files.faults l.fn.files other;
  same : (other : List ℕ) → g.F.Files.held l.files other ≡ g.F.Files.held l.fn.files other;
  to :
      (count : ℕ) (contents : List (List ℕ)) → held_under (g.F.Files.held l.fn.files) (take count l.names) ≡ Some contents →
      IsReadTo l.fn.stage contents count l.place l.next l.parts;
}
