-- What the answers of reading one file say of its fault.
use Rattle.std.proofs.Common.{◌≡◌, ◌≢◌, ℕ, ◌<◌, ◌⊎◌, List, length, Option, Some, None, Result, Ok, Err, IfSome, refl, sym, ◌∙◌, ap, subst, inl, inr, arith}
use Rattle.vdv451_text.specs.declared.table.Table.{Table}
use Rattle.vdv451_text.specs.declared.fault.TextKind.{TextKind}
use Rattle.vdv451_text.specs.declared.fault.TextKind.TheVariants as kinds
use Rattle.vdv451_text.specs.Faults.{Gives, HasFault}
use Rattle.input_files.specs.declared.transfer.ReadRefusal.{ReadRefusal}
use Rattle.input_files.specs.declared.transfer.ReadRefusal.TheVariants as refusals
use Rattle.input_files.specs.Inputs.{IsFileCause, IsUnread, read_fault, refused_text, text_fault}

-- a fact of the bytes read is one of the bytes held, where these are told
pub told : (P : List ℕ → Type 0) (held : Option (List ℕ)) (bytes : List ℕ) → IfSome held (λ h. bytes ≡ h) → P bytes → IfSome held P
told P None bytes same p = tt
told P (Some h) bytes same p = subst P same p

-- and back
pub read_so :
    (P : List ℕ → Type 0) (held : Option (List ℕ)) (bytes : List ℕ) → IfSome held (λ h. bytes ≡ h) → IfSome held (λ h. (bytes ≡ h) → P h) →
    IfSome held P
read_so P None bytes same p = tt
read_so P (Some h) bytes same p = p same

-- A file with too many bytes spells no tables, since what spells tables has few enough, and it has that one fault, since each other one
-- is of a file with few enough bytes. So where its size is told, the answer `TooLarge` is exact.
too_large_only : (most : ℕ) (h : List ℕ) (tables : List Table) (A : Type 0) → most < length h → Gives most h tables → A
too_large_only most h tables A large gives = absurd (omega (arith, large, gives.0))

too_large_exact :
    (number most line : ℕ) (kind : TextKind) (h : List ℕ) → most < length h → HasFault most h line kind →
    refused_text number 0 kinds.TooLarge ≡ refused_text number line kind
too_large_exact number most line kinds.TooLarge h large fault = cc
too_large_exact number most line kinds.Unended h large fault = absurd (omega (arith, large, fault.0))
too_large_exact number most line kinds.Memory h large fault = absurd fault
too_large_exact number most line kinds.Keyword h large fault = absurd (omega (arith, large, fault.0))
too_large_exact number most line kinds.Order h large fault = absurd (omega (arith, large, fault.0))
too_large_exact number most line kinds.Field h large fault = absurd (omega (arith, large, fault.0))
too_large_exact number most line kinds.Count h large fault = absurd (omega (arith, large, fault.0))
too_large_exact number most line kinds.EndCount h large fault = absurd (omega (arith, large, fault.0))
too_large_exact number most line kinds.EofCount h large fault = absurd (omega (arith, large, fault.0))

pub unread_only :
    (number most : ℕ) (held : Option (List ℕ)) (refusal : ReadRefusal) →
    (refusal ≡ refusals.TooLarge → IfSome held (λ h. most < length h)) → (tables : List Table) →
    IfSome held (λ h. Gives most h tables → IsUnread (read_fault number refusal))
unread_only number most None refusal large tables = tt
unread_only number most (Some h) refusals.Fault large tables = λ _. tt
unread_only number most (Some h) refusals.Memory large tables = λ _. tt
unread_only number most (Some h) refusals.TooLarge large tables = λ gives. too_large_only most h tables _ (large refl) gives

pub unread_exact :
    (number most : ℕ) (held : Option (List ℕ)) (refusal : ReadRefusal) →
    (refusal ≡ refusals.TooLarge → IfSome held (λ h. most < length h)) → (line : ℕ) (kind : TextKind) →
    IfSome held (λ h. HasFault most h line kind →
    IsUnread (read_fault number refusal) ⊎ (read_fault number refusal ≡ refused_text number line kind))
unread_exact number most None refusal large line kind = tt
unread_exact number most (Some h) refusals.Fault large line kind = λ _. inl tt
unread_exact number most (Some h) refusals.Memory large line kind = λ _. inl tt
unread_exact number most (Some h) refusals.TooLarge large line kind = λ fault.
    inr (too_large_exact number most line kind h (large refl) fault)

large_fault : (most : ℕ) (held : Option (List ℕ)) → IfSome held (λ h. most < length h) → IfSome held (λ h. HasFault most h 0 kinds.TooLarge)
large_fault most None large = tt
large_fault most (Some h) large = (large, refl)

pub unread_cause :
    (number most : ℕ) (held : Option (List ℕ)) (R : ℕ → Type 0) (refusal : ReadRefusal) →
    (refusal ≡ refusals.TooLarge → IfSome held (λ h. most < length h)) → (refusal ≡ refusals.Fault → R number) →
    IsFileCause (λ file line kind. (file ≡ number) × IfSome held (λ h. HasFault most h line kind)) R (read_fault number refusal)
unread_cause number most held R refusals.Fault large fault = fault refl
unread_cause number most held R refusals.Memory large fault = tt
unread_cause number most held R refusals.TooLarge large fault = (refl, large_fault most held (large refl))

-- the fault of the text is the cause
pub unspelled_cause :
    (number line : ℕ) (T : ℕ → TextKind → Type 0) (R : ℕ → Type 0) (kind : TextKind) → (kind ≢ kinds.Memory → T line kind) →
    IsFileCause (λ file l k. (file ≡ number) × T l k) R (text_fault number line kind)
unspelled_cause number line T R kinds.Memory fault = tt
unspelled_cause number line T R kinds.Keyword fault = (refl, fault (λ e. cc))
unspelled_cause number line T R kinds.Order fault = (refl, fault (λ e. cc))
unspelled_cause number line T R kinds.Field fault = (refl, fault (λ e. cc))
unspelled_cause number line T R kinds.Count fault = (refl, fault (λ e. cc))
unspelled_cause number line T R kinds.EndCount fault = (refl, fault (λ e. cc))
unspelled_cause number line T R kinds.EofCount fault = (refl, fault (λ e. cc))
unspelled_cause number line T R kinds.Unended fault = (refl, fault (λ e. cc))
unspelled_cause number line T R kinds.TooLarge fault = (refl, fault (λ e. cc))

-- a text that is refused for running out of memory alone is unread
pub memory_unread : (number line : ℕ) (kind : TextKind) → kind ≡ kinds.Memory → IsUnread (text_fault number line kind)
memory_unread number line kind e = rw e tt

-- The answer of the text is the one fault, or running out of memory, and a fault that is there is no running out of memory. So the answer
-- for the file is that fault with the file's number, or the file counts as unread.
pub unspelled_exact :
    (number line line_there : ℕ) (kind kind_there : TextKind) → (kind ≡ kinds.Memory) ⊎ ((line ≡ line_there) × (kind ≡ kind_there)) →
    kind_there ≢ kinds.Memory →
    IsUnread (text_fault number line kind) ⊎ (text_fault number line kind ≡ refused_text number line_there kind_there)
unspelled_exact number line line_there kind kind_there (inl e) real = inl (memory_unread number line kind e)
unspelled_exact number line line_there kind kind_there (inr same) real =
    inr (rw (same.0, same.1) (fault_is number line_there kind_there real))
  where
    fault_is : (number line : ℕ) (kind : TextKind) → kind ≢ kinds.Memory → text_fault number line kind ≡ refused_text number line kind
    fault_is number line kinds.Memory real = absurd (real refl)
    fault_is number line kinds.Keyword real = refl
    fault_is number line kinds.Order real = refl
    fault_is number line kinds.Field real = refl
    fault_is number line kinds.Count real = refl
    fault_is number line kinds.EndCount real = refl
    fault_is number line kinds.EofCount real = refl
    fault_is number line kinds.Unended real = refl
    fault_is number line kinds.TooLarge real = refl

-- a fault that is there is no running out of memory
pub real_fault : (most line : ℕ) (kind : TextKind) (h : List ℕ) → HasFault most h line kind → kind ≢ kinds.Memory
real_fault most line kinds.Memory h fault = λ e. absurd fault
real_fault most line kinds.Keyword h fault = λ e. cc
real_fault most line kinds.Order h fault = λ e. cc
real_fault most line kinds.Field h fault = λ e. cc
real_fault most line kinds.Count h fault = λ e. cc
real_fault most line kinds.EndCount h fault = λ e. cc
real_fault most line kinds.EofCount h fault = λ e. cc
real_fault most line kinds.Unended h fault = λ e. cc
real_fault most line kinds.TooLarge h fault = λ e. cc

-- one error
abbrev error_or : {A E : Type 0} → E → Result A E → E
error_or d (Ok x) = d
error_or d (Err e) = e

pub err_same : {A E : Type 0} (r : Result A E) (d e : E) → r ≡ Err d → r ≡ Err e → d ≡ e
err_same {A} {E} r d e p q = let f : Result A E → E = λ r. error_or d r in ap f (sym p ∙ q)
