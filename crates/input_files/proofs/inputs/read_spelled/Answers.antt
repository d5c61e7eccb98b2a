use Rattle.std.proofs.Common.{inl, inr, IfSome, Err, ap, refl, ◌∙◌}
use Rattle.input_files.specs.Inputs.{read_fault}
use Rattle.vdv451_text.specs.Faults.{Gives, HasFault}
use Rattle.input_files.proofs.FileLemmas.{err_same, memory_unread, real_fault, told, unread_cause, unread_exact, unread_only, unspelled_cause, unspelled_exact}
use Rattle.input_files.proofs.inputs.read_spelled.Goals as goal

pub returns-in-Err-clause-only : goal.returns-in-Err-clause-only
returns-in-Err-clause-only g c = λ tables.
    rw c.fault_of_read.ensures (unread_only c.args.number c.args.most (g.F.Files.held c.args.files.now c.args.name.now) c.in-Err.refusal
    (λ e. c.in-Err.ensures.large (ap (λ r. Err r) e)) tables)

pub returns-in-Err-clause-cause : goal.returns-in-Err-clause-cause
returns-in-Err-clause-cause g c =
    rw c.fault_of_read.ensures (unread_cause c.args.number c.args.most (g.F.Files.held c.args.files.now c.args.name.now) _ c.in-Err.refusal
    (λ e. c.in-Err.ensures.large (ap (λ r. Err r) e)) (λ e. (refl, c.in-Err.ensures.fault (ap (λ r. Err r) e))))

pub returns-in-Err-clause-exact : goal.returns-in-Err-clause-exact
returns-in-Err-clause-exact g c = λ line kind.
    rw c.fault_of_read.ensures (unread_exact c.args.number c.args.most (g.F.Files.held c.args.files.now c.args.name.now) c.in-Err.refusal
    (λ e. c.in-Err.ensures.large (ap (λ r. Err r) e)) line kind)

pub returns-clause-only : goal.returns-clause-only
returns-clause-only g c = λ tables.
    rw c.fault_of_text.ensures (told (λ h. Gives c.args.most h tables → _) _ c.in-Ok.bytes.items c.in-Ok.ensures.bytes
    (λ gives. memory_unread c.args.number _ _ (c.in-Err-read_file.ensures.only tables (rw c.as_slice.ensures.value gives))))

pub returns-clause-cause : goal.returns-clause-cause
returns-clause-cause g c =
    rw c.fault_of_text.ensures (unspelled_cause c.args.number _
    (λ line kind. IfSome (g.F.Files.held c.args.files.now c.args.name.now) (λ h. HasFault c.args.most h line kind)) _ _
    (λ real. told (λ h. HasFault c.args.most h _ _) _ c.in-Ok.bytes.items c.in-Ok.ensures.bytes
    (rw c.as_slice.ensures.value at (c.in-Err-read_file.ensures.fault real))))

pub returns-clause-exact : goal.returns-clause-exact
returns-clause-exact g c = λ line kind.
    rw c.fault_of_text.ensures (told (λ h. HasFault c.args.most h line kind → _) _ c.in-Ok.bytes.items c.in-Ok.ensures.bytes
    (λ fault. unspelled_exact c.args.number _ line _ kind (c.in-Err-read_file.ensures.exact line kind (rw c.as_slice.ensures.value fault))
    (real_fault c.args.most line kind _ fault)))

pub returns-in-Err-clause-still : goal.returns-in-Err-clause-still
returns-in-Err-clause-still g c = λ none other. elim (c.in-Err.ensures.ended other) [
  | inl fault ↦ absurd (none c.args.number
      (ap (λ s. Err s) (c.fault_of_read.ensures ∙ ap (read_fault c.args.number) (err_same _ _ _ refl fault))))
  | inr same ↦ same
]
