-- Where no count rises an answer that is unread is running out of memory.
use Rattle.std.proofs.Common.{◌≡◌, ℕ, zero, suc, ◌+◌, ◌-◌, ◌<◌, ◌⊎◌, inl, inr, List, [], ◌∷◌, length, take, Option, Some, None, IfSome, IsSomeAnd, refl, sym, ◌∙◌, subst, arith, slice_index_or}
use Rattle.std.proofs.lemmas.Bool.{cases_lt}
use Rattle.vdv451_text.specs.declared.table.Table.{Table}
use Rattle.vdv451_text.specs.declared.fault.TextKind.{TextKind}
use Rattle.plan_core.specs.Outside.{Rose}
use Rattle.planner_run.specs.declared.status.Status.{Status}
use Rattle.planner_run.specs.declared.status.Status.TheVariants as statuses
use Rattle.planner_run.specs.declared.status.InputFault.TheVariants as inputs
use Rattle.input_files.specs.declared.stage.Stage.{Stage}
use Rattle.input_files.specs.Inputs.{HasTextFault, IsReadFault, NoneRose, SpellTables, held_under}
use Rattle.planner_run.specs.Run.{IsAnswer, IsAnswerCause, IsRefusal, IsUnread, names_for, stage_of, told_for}
use Rattle.planner_run.specs.Tasks.{Task}
use Rattle.planner_run.proofs.AnswerLemmas.{parts_of}
use Rattle.vdv451_text.specs.Faults.{Gives, HasFault}
use Rattle.vdv451_text.proofs.Readings.{reads_fault, reads_given}
use Rattle.input_files.specs.Stages.{next_stage, room}
use Rattle.input_files.proofs.InputLemmas.{of_told}

-- texts that spell tables have no fault
right_text : (most : ℕ) (bytes : List ℕ) (tables : List Table) (line : ℕ) (kind : TextKind) → Gives most bytes tables →
    HasFault most bytes line kind → ⊥
right_text most bytes tables line kind gives fault =
    let both = sym (reads_given most bytes tables gives) ∙ reads_fault most bytes line kind fault in
    cc

-- Files that spell tables have no first fault of text, whatever stage they begin with: a text has one reading (`reads_given`,
-- `reads_fault`), and the files before a fault give tables while the file with it would have to do both.
right_texts : (stage : Stage) (number : ℕ) (contents : List (List ℕ)) (parts : List (List Table)) (file line : ℕ) (kind : TextKind) →
    SpellTables stage contents parts
    → HasTextFault stage number contents file line kind → ⊥
right_texts stage number [] parts file line kind spelled fault = fault
right_texts stage number (bytes ∷ files) parts file line kind spelled (inl here) =
    right_text (room stage) bytes spelled.0 line kind spelled.2 here.1
right_texts stage number (bytes ∷ files) parts file line kind spelled (inr later) =
    right_texts (next_stage stage (length bytes)) (number + 1) files spelled.1 file line kind spelled.3 later.2

-- one of the first names is the same among all
place_of_first : (names : List (List ℕ)) (count i : ℕ) (d : List ℕ) → i < count → i < length names →
    (slice_index_or (take count names) i d ≡ slice_index_or names i d) × (i < length (take count names))
place_of_first [] count i d before within = absurd (omega (arith, within))
place_of_first (name ∷ names) zero i d before within = absurd (omega (arith, before))
place_of_first (name ∷ names) (suc count) zero d before within = (refl, omega arith)
place_of_first (name ∷ names) (suc count) (suc i) d before within =
    let rest = place_of_first names count i d (omega (arith, before)) (omega (arith, within)) in
    let less = rest.1 in
    (rest.0, omega (arith, less))

none_rose_at : (names : List (List ℕ)) (before now : List ℕ → ℕ) (i : ℕ) → NoneRose names before now → i < length names →
    ¬ Rose (before (slice_index_or names i [])) (now (slice_index_or names i []))
none_rose_at [] before now i none within = absurd (omega (arith, within))
none_rose_at (name ∷ names) before now zero none within = none.0
none_rose_at (name ∷ names) before now (suc i) none within = none_rose_at names before now i none.1 (omega (arith, within))

no_read_fault : (stage : Stage) (held : List ℕ → Option (List ℕ)) (names : List (List ℕ)) (before now : List ℕ → ℕ) (file : ℕ) →
    NoneRose names before now → IsReadFault stage held names before now file → ⊥
no_read_fault stage held names before now file none fault =
    let first = fault.first in
    let last = fault.last in
    none_rose_at names before now (file - 1) none (omega (arith, first, last)) fault.rose

-- A failed read of a file behind a wrong text cannot be the answer: it says that the files before it spell tables (`order`), and the
-- wrong one is among these. One of a file up to the wrong text cannot be either, where no count rose under those names. So a wrong
-- text is answered even if later files cannot be read, and `refused` of `run` asks quiet only of the files up to it.
no_later_fault : (stage : Stage) (held : List ℕ → Option (List ℕ)) (names contents : List (List ℕ)) (before now : List ℕ → ℕ)
    (wrong line file : ℕ) (kind : TextKind) → held_under held (take wrong names) ≡ Some contents →
    HasTextFault stage 1 contents wrong line kind → NoneRose (take wrong names) before now →
    IsReadFault stage held names before now file → ⊥
no_later_fault stage held names contents before now wrong line file kind told text none fault =
    let first = fault.first in
    let last = fault.last in
    elim (cases_lt wrong file) [
      | inl later ↦
          let spelled = of_told (held_under held (take wrong names))
          (λ contents. (all : List (List Table)) × SpellTables stage contents all) contents told (fault.order wrong later) in
          right_texts stage 1 contents spelled.0 wrong line kind spelled.1 text
      | inr sooner ↦
          let at = place_of_first names wrong (file - 1) [] (omega (arith, first, sooner)) (omega (arith, first, last)) in
          let P : List ℕ → Type 0 = λ name. Rose (before name) (now name) in
          none_rose_at (take wrong names) before now (file - 1) none at.1 (subst P (sym at.0) fault.rose)
    ]

unread_memory : (refusal : Status → Type 0) (read : ℕ → Type 0) (s : Status) → IsAnswerCause refusal read s → ((file : ℕ) → ¬ read file) →
    IsUnread s → s ≡ statuses.Memory
unread_memory refusal read statuses.Memory cause none unread = refl
unread_memory refusal read (statuses.ReadFault file) cause none unread = absurd (none file cause)
unread_memory refusal read _ cause none unread = absurd unread

-- what a told content calls for
record IsToldSo {A : Type 0} (o : Option A) (P : A → Type 0) : Type 0 where
  pub content : A
  pub is : o ≡ Some content
  pub holds : P content

some_told : {A : Type 0} (o : Option A) (P : A → Type 0) → IsSomeAnd o P → IsToldSo o P
some_told None P some = absurd some
some_told (Some x) P some = record { content = x; is = refl; holds = some }

pub called_for : {A : Type 0} (told : Option A) (P : A → Type 0) (Q : Type 0) → IsSomeAnd told P → IfSome told (λ x. P x → Q) → Q
called_for None P Q some all = absurd some
called_for (Some x) P Q some all = all some

-- no read fault is answered where a refusal is called for, and no count rose under the names that it speaks of
none_read : (task : Task) (held : List ℕ → Option (List ℕ)) (names : List (List ℕ)) (day : ℕ) (before now : List ℕ → ℕ) (status : Status) →
    IsSomeAnd (told_for held names status) (λ contents. IsRefusal task contents day status) → NoneRose (names_for names status) before now →
    (file : ℕ) → ¬ IsReadFault (stage_of task) held names before now file
none_read task held names day before now status some none = elim (parts_of status) [
  | inl t ↦
      let Goal : Status → Type 0 = λ status. IsSomeAnd (told_for held names status) (λ contents. IsRefusal task contents day status) →
      NoneRose (names_for names status) before now → (file : ℕ) → ¬ IsReadFault (stage_of task) held names before now file in
      let at : Goal (statuses.Input (inputs.Text t.file t.fault)) = λ some none file fault.
      let told = some_told (held_under held (take t.file names))
      (λ contents. HasTextFault (stage_of task) 1 contents t.file t.fault.line t.fault.kind) some in
      no_later_fault (stage_of task) held names told.content before now t.file t.fault.line file t.fault.kind
      told.is told.holds none fault in
      subst Goal (sym t.is) at some none
  | inr other ↦
      let P : List (List ℕ) → Type 0 = λ ns. NoneRose ns before now in
      λ file fault. no_read_fault (stage_of task) held names before now file (subst P (other.names names) none) fault
]

-- Where a refusal is called for and no count rose under the names that it speaks of, the answer is that refusal, or memory ran out.
-- For what is called for is answered, or the answer is unread; that is running out of memory or a failed read; and a failed read would
-- have its cause in a count (`none_read`). It is the clause `refused` of `run`.
pub refused_run : (task : Task) (held : List ℕ → Option (List ℕ)) (names : List (List ℕ)) (day : ℕ) (before now : List ℕ → ℕ)
    (s status : Status) → IfSome (told_for held names status) (λ contents. IsRefusal task contents day status → IsUnread s ⊎ (s ≡ status))
    → IsAnswerCause (λ s. IfSome (told_for held names s) (λ contents. IsRefusal task contents day s))
    (IsReadFault (stage_of task) held names before now) s →
    IsSomeAnd (told_for held names status) (λ contents. IsRefusal task contents day status) → NoneRose (names_for names status) before now →
    (s ≡ status) ⊎ (s ≡ statuses.Memory)
refused_run task held names day before now s status all cause some none =
    elim (called_for (told_for held names status) (λ contents. IsRefusal task contents day status) (IsUnread s ⊎ (s ≡ status)) some all) [
      | inl unread ↦ inr (unread_memory (λ s. IfSome (told_for held names s) (λ contents. IsRefusal task contents day s))
          (IsReadFault (stage_of task) held names before now) s cause (none_read task held names day before now status some none) unread)
      | inr same ↦ inl same
    ]

-- Where a text is called for and no count rose, a call that has no text ran out of memory: it is unread, and a failed read would have
-- its cause in a count. It is what the clause `complete` of `run` needs before the text is written.
pub complete_run : (task : Task) (held : List ℕ → Option (List ℕ)) (names : List (List ℕ)) (day : ℕ) (before now : List ℕ → ℕ)
    (s : Status) → ((end : Status) (bytes : List ℕ) →
    IfSome (held_under held names) (λ contents. IsAnswer task contents day end bytes → IsUnread s))
    → IsAnswerCause (λ s. IfSome (told_for held names s) (λ contents. IsRefusal task contents day s))
    (IsReadFault (stage_of task) held names before now) s →
    IsSomeAnd (held_under held names) (λ contents. (end : Status) × (bytes : List ℕ) × IsAnswer task contents day end bytes) →
    NoneRose names before now → s ≡ statuses.Memory
complete_run task held names day before now s all cause some none =
    let told = some_told (held_under held names)
    (λ contents. (end : Status) × (bytes : List ℕ) × IsAnswer task contents day end bytes) some in
    let text = told.holds in
    let unread = of_told (held_under held names) (λ contents. IsAnswer task contents day text.0 text.1 → IsUnread s) told.content told.is
    (all text.0 text.1) text.2 in
    unread_memory (λ s. IfSome (told_for held names s) (λ contents. IsRefusal task contents day s))
    (IsReadFault (stage_of task) held names before now) s cause
    (λ file fault. no_read_fault (stage_of task) held names before now file none fault) unread
