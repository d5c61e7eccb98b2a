-- A day has one answer: its text or its plan, or one refusal.
use Rattle.std.proofs.Common.{◌≡◌, ℕ, ◌⊎◌, inl, inr, List, Some, None, Result, Ok, Err, refl, sym, ◌∙◌, ap, subst, if◌then◌else◌}
use Rattle.plan_core.specs.declared.types.Point.{Point}
use Rattle.vdv451_text.specs.declared.table.Table.{Table}
use Rattle.vdv452_rows.specs.declared.fault.TableFault.{TableFault}
use Rattle.vdv452_tables.specs.declared.reading.Needs.TheVariants as needs
use Rattle.vdv452_tables.specs.declared.net.Net.{Net}
use Rattle.vdv452_tables.specs.Calendar.{net_of, schemas_of}
use Rattle.vdv452_rows.specs.Rows.{first_fault}
use Rattle.day_calendar.specs.declared.day.DayKind.{DayKind}
use Rattle.day_calendar.specs.declared.day.DayFault.{DayFault}
use Rattle.day_calendar.specs.Kinds.{IsKindOf}
use Rattle.day_calendar.specs.DayTrips.{AreDayRows}
use Rattle.day_calendar.proofs.OneOrder.{one_list}
use Rattle.day_model.specs.declared.fault.DayModelFault.{DayModelFault}
use Rattle.day_model.specs.declared.fault.DayModelFault.TheVariants as models
use Rattle.day_model.specs.Building.{day_fault, rows_at, timed_rows}
use Rattle.day_model.specs.Facts.{DayFacts, dead}
use Rattle.day_model.proofs.Outcomes.{faultless}
use Rattle.plan_params.specs.declared.rows.ParamRows.{ParamRows}
use Rattle.vdv452_tables.specs.Keys.{point_eq}
use Rattle.vdv452_tables.specs.LookUps.{dead_time_on}
use Rattle.plan_command.specs.Alike.{AreAlike}
use Rattle.planner_run.specs.declared.status.Status.{Status}
use Rattle.planner_run.specs.declared.status.Status.TheVariants as statuses
use Rattle.planner_run.specs.declared.status.InputFault.TheVariants as inputs
use Rattle.planner_run.specs.DayText.{IsDayText}
use Rattle.planner_run.specs.Model.{HasModelFault, HasModelFaultIn, IsModelCause, IsModelIn, IsModelOf, model_status}
use Rattle.planner_run.specs.Trips.{IsDayFault}
use Rattle.planner_run.proofs.Outcomes.{kind_no_fault, kinds_same, none_some, one_day_fault, some_same}

-- Two calendars of one day agree in version and day type (`kinds_same`), the only things by which trips are picked; and picked trips
-- have one order (`one_list`). The weekday, which the day type's record has besides, decides nothing. So the first reason against the
-- day is one, whichever kind it was found with.
pub rows_same : (net : Net) (day : ℕ) (a b : DayKind) (xs ys : List ℕ) → IsKindOf net day a → IsKindOf net day b →
    AreDayRows net.trips a.version a.kind xs → AreDayRows net.trips b.version b.kind ys → xs ≡ ys
rows_same net day a b xs ys p q rows rows' =
    let same = kinds_same net day a b p q in
    let P : ℕ → Type 0 = λ v. AreDayRows net.trips v a.kind xs in
    let Q : ℕ → Type 0 = λ k. AreDayRows net.trips b.version k xs in
    one_list net.trips b.version b.kind xs ys (subst Q same.1 (subst P same.0 rows)) rows'

fault_same : (net : Net) (day : ℕ) (a b : DayKind) (xs ys : List ℕ) → IsKindOf net day a → IsKindOf net day b →
    AreDayRows net.trips a.version a.kind xs → AreDayRows net.trips b.version b.kind ys → day_fault net a xs ≡ day_fault net b ys
fault_same net day a b xs ys p q rows rows' =
    let same = kinds_same net day a b p q in
    let list : xs ≡ ys = rows_same net day a b xs ys p q rows rows' in
    ap (λ places. day_fault net a places) list ∙ ap (λ v. day_fault net (record a { version = v }) ys) same.0

one_fault : (net : Net) (day : ℕ) (f g : DayModelFault) → HasModelFaultIn net day f → HasModelFaultIn net day g → f ≡ g
one_fault net day f g p q =
    let same = fault_same net day p.kind q.kind p.wrong.places q.wrong.places p.kind_is q.kind_is p.wrong.rows q.wrong.rows in
    some_same (day_fault net p.kind p.wrong.places) f g p.wrong.is (same ∙ q.wrong.is)

-- a day that is there has none
no_fault : {A : Type 0} (net : Net) (day : ℕ) (facts : DayFacts) (f : DayModelFault) → IsModelIn net day facts →
    HasModelFaultIn net day f → A
no_fault net day facts f p q =
    let same = fault_same net day facts.kind q.kind facts.rows q.wrong.places p.kind_is q.kind_is p.day_is.rows q.wrong.rows in
    none_some (day_fault net facts.kind facts.rows) f (faultless net facts.kind facts p.day_is) (same ∙ q.wrong.is)

-- the causes of a refusal, in three kinds
abbrev Kinds : List Table → ℕ → Status → Type 0
Kinds tables day status =
    ((fault : TableFault) × (status ≡ statuses.Input (inputs.Table fault)) × (first_fault (schemas_of needs.All) tables ≡ Some fault))
    ⊎ (((fault : DayFault) × (status ≡ statuses.Day fault) × (first_fault (schemas_of needs.All) tables ≡ None)
    × IsDayFault (net_of needs.All tables) day fault)
    ⊎ ((fault : DayModelFault) × (status ≡ model_status fault) × HasModelFault tables day fault))

kinds_of : (tables : List Table) (day : ℕ) (status : Status) → IsModelCause tables day status → Kinds tables day status
kinds_of tables day (statuses.Input (inputs.Table fault)) c = inl (fault, refl, c)
kinds_of tables day (statuses.Input (inputs.Trips count)) c = inr (inr (models.TooManyTrips count, refl, c))
kinds_of tables day (statuses.Input (inputs.Params fault)) c = inr (inr (models.Params fault, refl, c))
kinds_of tables day (statuses.Input (inputs.Trip fid fault)) c = inr (inr (models.Trip fid fault, refl, c))
kinds_of tables day (statuses.Day fault) c = inr (inl (fault, refl, c.0, c.1))
kinds_of tables day _ c = absurd c

-- The causes come one after another: a fault of the tables, else no day type, else a reason against the trips or the settings.
-- Each asks that those before it are absent, so two causes are of one place in this order, and at each place there is one
-- (`some_same`, `one_day_fault`, `one_fault`).
same_kinds : (tables : List Table) (day : ℕ) (s t : Status) → Kinds tables day s → Kinds tables day t → s ≡ t
same_kinds tables day s t (inl p) (inl q) = p.1 ∙ ap (λ f. statuses.Input (inputs.Table f)) (some_same _ p.0 q.0 p.2 q.2) ∙ sym q.1
same_kinds tables day s t (inl p) (inr (inl q)) = none_some _ p.0 q.2 p.2
same_kinds tables day s t (inl p) (inr (inr q)) = none_some _ p.0 q.2.faultless p.2
same_kinds tables day s t (inr (inl p)) (inl q) = none_some _ q.0 p.2 q.2
same_kinds tables day s t (inr (inl p)) (inr (inl q)) =
    p.1 ∙ ap (λ f. statuses.Day f) (one_day_fault (net_of needs.All tables) day p.0 q.0 p.3 q.3) ∙ sym q.1
same_kinds tables day s t (inr (inl p)) (inr (inr q)) =
    absurd (kind_no_fault (net_of needs.All tables) day q.2.fault_in.kind p.0 q.2.fault_in.kind_is p.3)
same_kinds tables day s t (inr (inr p)) (inl q) = none_some _ q.0 p.2.faultless q.2
same_kinds tables day s t (inr (inr p)) (inr (inl q)) =
    absurd (kind_no_fault (net_of needs.All tables) day p.2.fault_in.kind q.0 p.2.fault_in.kind_is q.3)
same_kinds tables day s t (inr (inr p)) (inr (inr q)) =
    p.1 ∙ ap model_status (one_fault (net_of needs.All tables) day p.0 q.0 p.2.fault_in q.2.fault_in) ∙ sym q.1

pub one_model_cause : (tables : List Table) (day : ℕ) (s t : Status) → IsModelCause tables day s → IsModelCause tables day t → s ≡ t
one_model_cause tables day s t p q = same_kinds tables day s t (kinds_of tables day s p) (kinds_of tables day t q)

no_kinds : {A : Type 0} (tables : List Table) (day : ℕ) (facts : DayFacts) (s : Status) →
    IsModelOf tables day facts → Kinds tables day s → A
no_kinds tables day facts s model (inl q) = none_some _ q.0 model.faultless q.2
no_kinds tables day facts s model (inr (inl q)) =
    absurd (kind_no_fault (net_of needs.All tables) day facts.kind q.0 model.model.kind_is q.3)
no_kinds tables day facts s model (inr (inr q)) = no_fault (net_of needs.All tables) day facts q.0 model.model q.2.fault_in

-- a day that is there is not refused
pub model_no_cause : {A : Type 0} (tables : List Table) (day : ℕ) (facts : DayFacts) (s : Status) → IsModelOf tables day facts →
    IsModelCause tables day s → A
model_no_cause tables day facts s model c = no_kinds tables day facts s model (kinds_of tables day s c)

pub day_text_no_cause : (tables : List Table) (day : ℕ) (bytes : List ℕ) (s : Status) → IsDayText tables day bytes →
    IsModelCause tables day s → ⊥
day_text_no_cause tables day bytes s p q = model_no_cause tables day p.facts s p.model q

abbrev result_or : {A E : Type 0} → A → Result A E → A
result_or d (Ok x) = x
result_or d (Err e) = d

ok_same : {A E : Type 0} (x y : A) (r s : Result A E) → r ≡ Ok x → s ≡ Ok y → r ≡ s → x ≡ y
ok_same {A = A} {E = E} x y r s p q same = let f : Result A E → A = λ r. result_or x r in ap f (sym p ∙ same ∙ q)

-- Whatever planning reads of a day is fixed by the tables: version and day type, rows, times, settings and the deadheads between any
-- two points. The deadheads are told by a list, of which the order is not fixed, so they are compared by their times. So a text or a
-- cause of one of the two days is one of the other (`same_texts`, `same_causes`), and uniqueness over one day is enough for uniqueness
-- over tables.
pub days_alike : (tables : List Table) (day : ℕ) (a b : DayFacts) → IsModelOf tables day a → IsModelOf tables day b → AreAlike a b
days_alike tables day a b p q =
    let net : Net = net_of needs.All tables in
    let kinds = kinds_same net day a.kind b.kind p.model.kind_is q.model.kind_is in
    let rows : a.rows ≡ b.rows =
    rows_same net day a.kind b.kind a.rows b.rows p.model.kind_is q.model.kind_is p.model.day_is.rows q.model.day_is.rows in
    let timed : timed_rows net a.kind.version (rows_at net.trips a.rows) ≡ timed_rows net b.kind.version (rows_at net.trips b.rows) =
    ap (λ v. timed_rows net v (rows_at net.trips a.rows)) kinds.0 ∙ ap (λ ps. timed_rows net b.kind.version (rows_at net.trips ps)) rows in
    let trips : a.trips ≡ b.trips = ok_same a.trips b.trips _ _ p.model.day_is.trips q.model.day_is.trips timed in
    let params : a.params ≡ b.params = p.model.day_is.params ∙ sym q.model.day_is.params in
    let deads : (x y : Point) → dead a x y ≡ dead b x y = λ x y.
    p.model.day_is.deads x y
    ∙ ap (λ v. if point_eq x y then Some 0 else dead_time_on net v a.params.settings.area a.params.settings.group x y) kinds.0
    ∙ ap (λ (ps : ParamRows). if point_eq x y then Some 0 else dead_time_on net b.kind.version ps.settings.area ps.settings.group x y)
    params
    ∙ sym (q.model.day_is.deads x y) in
    record { versions = kinds.0; kinds = kinds.1; trips = trips; params = params; deads = deads }
