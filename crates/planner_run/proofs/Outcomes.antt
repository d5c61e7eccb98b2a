-- A day has one answer: its text, or one refusal.
use Rattle.std.proofs.Common.{◌≡◌, ℕ, List, length, Option, Some, None, IsSomeAnd, refl, sym, ◌∙◌, ap, subst, arith}
use Rattle.std.proofs.lemmas.List.{length-map}
use Rattle.std.proofs.lemmas.List.Sorted.{length_permutation}
use Rattle.vdv451_text.specs.declared.table.Table.{Table}
use Rattle.vdv452_rows.specs.declared.fault.TableFault.{TableFault}
use Rattle.vdv452_rows.specs.declared.rows.TripRow.{TripRow}
use Rattle.vdv452_tables.specs.declared.reading.Needs.TheVariants as needs
use Rattle.vdv452_tables.specs.declared.net.Net.{Net}
use Rattle.vdv452_tables.specs.Calendar.{kind_on, net_of, schemas_of, version_on}
use Rattle.vdv452_rows.specs.Rows.{first_fault}
use Rattle.day_calendar.specs.declared.day.DayKind.{DayKind}
use Rattle.day_calendar.specs.declared.day.DayFault.{DayFault}
use Rattle.day_calendar.specs.declared.day.DayFault.TheVariants as days
use Rattle.day_calendar.specs.declared.trips.DayTrip.{DayTrip}
use Rattle.day_calendar.specs.Kinds.{IsKindOf}
use Rattle.day_calendar.specs.DayTrips.{AreDayRows, day_trips}
use Rattle.planner_run.specs.declared.status.Status.{Status}
use Rattle.planner_run.specs.declared.status.Status.TheVariants as statuses
use Rattle.planner_run.specs.declared.status.InputFault.TheVariants as inputs
use Rattle.planner_run.specs.Trips.{HasTooMany, IsDayCause, IsDayFault, IsDayOf, IsTripsText}

pub some_same : {A : Type 0} (o : Option A) (x y : A) → o ≡ Some x → o ≡ Some y → x ≡ y
some_same o x y p q = let both : Some x ≡ Some y = sym p ∙ q in cc

pub none_some : {A B : Type 0} (o : Option A) (x : A) → o ≡ None → o ≡ Some x → B
none_some o x p q = let both : None ≡ Some x = sym p ∙ q in cc

-- the number of the day's trips
rows_count : (trips : List TripRow) (version kind : ℕ) (places : List ℕ) → AreDayRows trips version kind places →
    length places ≡ length (day_trips trips version kind)
rows_count trips version kind places rows =
    ap (λ (ps : List ℕ). length ps) rows.are ∙ length-map rows.ordered (λ (t : DayTrip). t.place)
    ∙ length_permutation (day_trips trips version kind) rows.ordered rows.same

pub kinds_same : (net : Net) (day : ℕ) (a b : DayKind) → IsKindOf net day a → IsKindOf net day b →
    (a.version ≡ b.version) × (a.kind ≡ b.kind)
kinds_same net day a b p q =
    let versions : a.version ≡ b.version = some_same (version_on net day) a.version b.version p.version q.version in
    let there : kind_on net b.version day ≡ Some a.kind = ap (λ v. kind_on net v day) (sym versions) ∙ p.kind_is in
    (versions, some_same (kind_on net b.version day) a.kind b.kind there q.kind_is)

day_count : (tables : List Table) (day : ℕ) (a b : DayKind) (xs ys : List ℕ) → IsDayOf tables day a xs →
    IsDayOf tables day b ys → length xs ≡ length ys
day_count tables day a b xs ys p q =
    let same = kinds_same (net_of needs.Calendar tables) day a b p.kind_is q.kind_is in
    let trips = (net_of needs.Calendar tables).trips in
    rows_count trips a.version a.kind xs p.rows
    ∙ ap (λ v. length (day_trips trips v a.kind)) same.0 ∙ ap (λ k. length (day_trips trips b.version k)) same.1
    ∙ sym (rows_count trips b.version b.kind ys q.rows)

-- a day with a kind has no fault
pub kind_no_fault : (net : Net) (day : ℕ) (kind : DayKind) (fault : DayFault) → IsKindOf net day kind → IsDayFault net day fault → ⊥
kind_no_fault net day kind days.NoDate is wrong = wrong is.civil
kind_no_fault net day kind days.NoVersion is wrong = none_some (version_on net day) kind.version wrong.1 is.version
kind_no_fault net day kind days.NoDay is wrong =
    let P : Option ℕ → Type 0 = λ o. IsSomeAnd o (λ version. kind_on net version day ≡ None) in
    let none : kind_on net kind.version day ≡ None = subst P is.version wrong.1 in
    none_some (kind_on net kind.version day) kind.kind none is.kind_is

pub one_day_fault : (net : Net) (day : ℕ) (a b : DayFault) → IsDayFault net day a → IsDayFault net day b → a ≡ b
one_day_fault net day days.NoDate days.NoDate p q = refl
one_day_fault net day days.NoDate days.NoVersion p q = absurd (p q.0)
one_day_fault net day days.NoDate days.NoDay p q = absurd (p q.0)
one_day_fault net day days.NoVersion days.NoDate p q = absurd (q p.0)
one_day_fault net day days.NoVersion days.NoVersion p q = refl
one_day_fault net day days.NoVersion days.NoDay p q =
    let P : Option ℕ → Type 0 = λ o. IsSomeAnd o (λ version. kind_on net version day ≡ None) in absurd (subst P p.1 q.1)
one_day_fault net day days.NoDay days.NoDate p q = absurd (q p.0)
one_day_fault net day days.NoDay days.NoVersion p q =
    let P : Option ℕ → Type 0 = λ o. IsSomeAnd o (λ version. kind_on net version day ≡ None) in absurd (subst P q.1 p.1)
one_day_fault net day days.NoDay days.NoDay p q = refl

-- two causes are of one status
one_cause_from_table : (tables : List Table) (day : ℕ) (fault : TableFault) (t : Status) →
    first_fault (schemas_of needs.Calendar) tables ≡ Some fault → IsDayCause tables day t → statuses.Input (inputs.Table fault) ≡ t
one_cause_from_table tables day fault (statuses.Input (inputs.Table other)) p q =
    ap (λ f. statuses.Input (inputs.Table f)) (some_same _ fault other p q)
one_cause_from_table tables day fault (statuses.Input (inputs.Trips count)) p q = none_some _ fault q.day_is.faultless p
one_cause_from_table tables day fault (statuses.Day other) p q = none_some _ fault q.0 p
one_cause_from_table tables day fault _ p q = absurd q

one_cause_from_day : (tables : List Table) (day : ℕ) (fault : DayFault) (t : Status) → IsDayCause tables day (statuses.Day fault) →
    IsDayCause tables day t → statuses.Day fault ≡ t
one_cause_from_day tables day fault (statuses.Input (inputs.Table other)) p q = none_some _ other p.0 q
one_cause_from_day tables day fault (statuses.Input (inputs.Trips count)) p q =
    absurd (kind_no_fault (net_of needs.Calendar tables) day q.kind fault q.day_is.kind_is p.1)
one_cause_from_day tables day fault (statuses.Day other) p q =
    ap (λ f. statuses.Day f) (one_day_fault (net_of needs.Calendar tables) day fault other p.1 q.1)
one_cause_from_day tables day fault _ p q = absurd q

one_cause_from_crowd : (tables : List Table) (day count : ℕ) (t : Status) → HasTooMany tables day count → IsDayCause tables day t →
    statuses.Input (inputs.Trips count) ≡ t
one_cause_from_crowd tables day count (statuses.Input (inputs.Table other)) p q = none_some _ other p.day_is.faultless q
one_cause_from_crowd tables day count (statuses.Input (inputs.Trips other)) p q =
    ap (λ n. statuses.Input (inputs.Trips n))
    (p.count_is ∙ day_count tables day p.kind q.kind p.places q.places p.day_is q.day_is ∙ sym q.count_is)
one_cause_from_crowd tables day count (statuses.Day other) p q =
    absurd (kind_no_fault (net_of needs.Calendar tables) day p.kind other p.day_is.kind_is q.1)
one_cause_from_crowd tables day count _ p q = absurd q

-- A day of `trips` has one cause: a fault of the tables shuts out a day without kind, and both shut out too many trips, since each
-- later cause asks that the earlier ones are absent. The number of trips is one, since version and day type alone pick them
-- (`day_count`).
pub one_cause : (tables : List Table) (day : ℕ) (s t : Status) → IsDayCause tables day s → IsDayCause tables day t → s ≡ t
one_cause tables day (statuses.Input (inputs.Table fault)) t p q = one_cause_from_table tables day fault t p q
one_cause tables day (statuses.Input (inputs.Trips count)) t p q = one_cause_from_crowd tables day count t p q
one_cause tables day (statuses.Day fault) t p q = one_cause_from_day tables day fault t p q
one_cause tables day _ t p q = absurd p

-- a day with a text is not refused
pub text_no_cause : (tables : List Table) (day : ℕ) (bytes : List ℕ) (s : Status) → IsTripsText tables day bytes →
    IsDayCause tables day s → ⊥
text_no_cause tables day bytes (statuses.Input (inputs.Table fault)) p q = none_some _ fault p.day_is.faultless q
text_no_cause tables day bytes (statuses.Input (inputs.Trips count)) p q =
    let same = day_count tables day p.kind q.kind p.places q.places p.day_is q.day_is in
    let few = p.few in
    let many = q.many in
    absurd (omega (arith, same, few, many))
text_no_cause tables day bytes (statuses.Day fault) p q = kind_no_fault (net_of needs.Calendar tables) day p.kind fault p.day_is.kind_is q.1
text_no_cause tables day bytes _ p q = absurd q
