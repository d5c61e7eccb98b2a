-- Why there is no day.
use Rattle.std.proofs.Common.{◌≡◌, ℕ, ◌⊎◌, inl, inr, false, List, length, Option, Some, None, Result, Ok, Err, IfOk, IfErr, nat_lt, refl, sym, ap, subst, ◌∙◌, arith}
use Rattle.std.proofs.lemmas.Bool.Decides.{nat_tests}
use Rattle.std.specs.Prelude.{IsErrAnd, unwrap_or}
use Rattle.plan_core.specs.Limits.{most_items}
use Rattle.vdv452_tables.specs.declared.net.Net.{Net}
use Rattle.day_calendar.specs.declared.day.DayKind.{DayKind}
use Rattle.day_calendar.specs.DayTrips.{AreDayRows}
use Rattle.day_model.specs.declared.fault.DayModelFault.{DayModelFault}
use Rattle.day_model.specs.declared.fault.DayModelFault.TheVariants as faults
use Rattle.day_model.specs.Facts.{DayFacts}
use Rattle.day_model.specs.Building.{HasDayCause, IsDayOf, day_fault}

-- A fault other than running out of memory is the first one against the day, for the trips that the calendar gives, and so a cause;
-- out of memory needs none. That it is the first of the order of faults was shown where it was found; here it is told of the
-- network and the kind alone.
pub cause_of : (net : Net) (kind : DayKind) (rows : List ℕ) (fault : DayModelFault) → AreDayRows net.trips kind.version kind.kind rows →
    (fault ≡ faults.Memory) ⊎ (day_fault net kind rows ≡ Some fault) → HasDayCause net kind fault
cause_of net kind rows faults.Memory are h = tt
cause_of net kind rows (faults.TooManyTrips count) are (inl e) = absurd (cc)
cause_of net kind rows (faults.TooManyTrips count) are (inr e) = record { places = rows; rows = are; is = e }
cause_of net kind rows (faults.Params fault) are (inl e) = absurd (cc)
cause_of net kind rows (faults.Params fault) are (inr e) = record { places = rows; rows = are; is = e }
cause_of net kind rows (faults.Trip fid fault) are (inl e) = absurd (cc)
cause_of net kind rows (faults.Trip fid fault) are (inr e) = record { places = rows; rows = are; is = e }

pub answer_cause : {A : Type 0} (net : Net) (kind : DayKind) (rows : List ℕ) (answer : Result A DayModelFault) →
    AreDayRows net.trips kind.version kind.kind rows →
    IfErr answer (λ fault. (fault ≡ faults.Memory) ⊎ (day_fault net kind rows ≡ Some fault)) → IfErr answer (HasDayCause net kind)
answer_cause net kind rows (Ok x) are h = tt
answer_cause net kind rows (Err fault) are h = cause_of net kind rows fault are h

-- a day has no fault
pub faultless : (net : Net) (kind : DayKind) (day : DayFacts) → IsDayOf net kind day → day_fault net kind day.rows ≡ None
faultless net kind day is =
    let few : nat_lt most_items (length day.rows) ≡ false = grind (arith, nat_tests, is.few) in
    rw (few, is.faultless, is.trips) refl

same_fault : (a b : DayModelFault) → Some a ≡ Some b → a ≡ b
same_fault a b e = let f : Option DayModelFault → DayModelFault = λ o. unwrap_or o a in ap f e

-- Where there is a first fault it is answered, or running out of memory: a day that was built has none against it, as its trips are
-- few, its settings without a fault and its trips timed (`faultless`); and the day's trips are one list, so the fault meant is of
-- the same trips. With `cause_of` a day is refused exactly where the definition has a fault.
pub exact_of : (net : Net) (kind : DayKind) (rows : List ℕ) (answer : Result DayFacts DayModelFault) →
    IfOk answer (IsDayOf net kind) → IfOk answer (λ day. day.rows ≡ rows) →
    IfErr answer (λ fault. (fault ≡ faults.Memory) ⊎ (day_fault net kind rows ≡ Some fault)) →
    (fault : DayModelFault) → day_fault net kind rows ≡ Some fault → IsErrAnd answer (λ given. (given ≡ faults.Memory) ⊎ (given ≡ fault))
exact_of net kind rows (Ok day) ok same err fault is =
    let P : List ℕ → Type 0 = λ places. day_fault net kind places ≡ None in
    let none : day_fault net kind rows ≡ None = subst P same (faultless net kind day ok) in
    absurd (cc)
exact_of net kind rows (Err given) ok same (inl e) fault is = inl e
exact_of net kind rows (Err given) ok same (inr e) fault is = inr (same_fault given fault (sym e ∙ is))
