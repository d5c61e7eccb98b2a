-- What a run answers.
use Rattle.std.proofs.Common.{◌≡◌, ◌≢◌, ℕ, ◌⊎◌, List, Option, Some, None, Result, Ok, Err, IfErr, IfSome, subst, inl, inr}
use Rattle.vdv451_text.specs.declared.fault.TextFault.{TextFault}
use Rattle.plan_rows.specs.declared.fault.Place.{Place}
use Rattle.plan_chart.specs.declared.status.Status.{Status}
use Rattle.plan_chart.specs.declared.status.Status.TheVariants as statuses
use Rattle.plan_chart.specs.Run.{IsCause, IsRefusal, IsRefused}

-- a fact of the bytes read is one of the bytes held, where these are told
pub told : (P : List ℕ → Type 0) (held : Option (List ℕ)) (bytes : List ℕ) → IfSome held (λ h. bytes ≡ h) → P bytes → IfSome held P
told P None bytes same p = tt
told P (Some h) bytes same p = subst P same p

text_of : (bytes : List ℕ) (fault : TextFault) → IsRefused bytes (statuses.Text fault) → IsRefusal bytes (statuses.Text fault)
text_of bytes fault (inl e) = cc
text_of bytes fault (inr p) = p

form_of : (bytes : List ℕ) (place : Place) → IsRefused bytes (statuses.Form place) → IsRefusal bytes (statuses.Form place)
form_of bytes place (inl e) = cc
form_of bytes place (inr p) = p

never : (status : Status) → status ≢ statuses.Memory → (status ≡ statuses.Memory) ⊎ ⊥ → ⊥
never status other (inl e) = other e
never status other (inr p) = p

-- the cause of a refusal of the bytes is one of what is held
pub page_cause : (held : Option (List ℕ)) (before now : ℕ) (bytes : List ℕ) (status : Status) → IfSome held (λ h. bytes ≡ h) →
    IsRefused bytes status → IsCause held before now status
page_cause held before now bytes statuses.Memory same refused = tt
page_cause held before now bytes statuses.ReadFault same refused = absurd (never statuses.ReadFault (λ e. cc) refused)
page_cause held before now bytes (statuses.Text fault) same refused =
    told (λ h. IsRefusal h (statuses.Text fault)) held bytes same (text_of bytes fault refused)
page_cause held before now bytes (statuses.Form place) same refused =
    told (λ h. IsRefusal h (statuses.Form place)) held bytes same (form_of bytes place refused)
page_cause held before now bytes statuses.Ok same refused = never statuses.Ok (λ e. cc) refused
page_cause held before now bytes statuses.Usage same refused = never statuses.Usage (λ e. cc) refused
page_cause held before now bytes statuses.WriteFault same refused = never statuses.WriteFault (λ e. cc) refused

-- the same of an answer
pub held_cause : (r : Result (List ℕ) Status) (held : Option (List ℕ)) (before now : ℕ) (bytes slice : List ℕ) →
    IfSome held (λ h. bytes ≡ h) → slice ≡ bytes → IfErr r (λ status. IsRefused slice status) →
    IfErr r (λ status. IsCause held before now status)
held_cause (Ok page) held before now bytes slice same is p = tt
held_cause (Err e) held before now bytes slice same is p =
    page_cause held before now bytes e same (let P : List ℕ → Type 0 = λ b. IsRefused b e in subst P is p)
