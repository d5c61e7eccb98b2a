-- What is known of the lists of an earlier plan. Each block has a worth, so it is not empty and its class and trips are there; each trip
-- stands once, so there are no more blocks, and no more trips in all of them, than trips of the day. The number of places does not enter:
-- were there as many places in each class as there are blocks, the blocks with their worths would be a plan, and a plan is known to be
-- short.
use Rattle.std.proofs.Common.{◌≡◌, ℕ, ◌<◌, ◌≤◌, suc, zero, false, IsTrue, All, List, [], ◌∷◌, length, map, refl, sym, ap, ◌∙◌, subst, arith}
use Rattle.std.proofs.lemmas.List.{length-map}
use Rattle.std.proofs.lemmas.List.Elements.{All-cons, All-nil}
use Rattle.std.specs.Prelude.{Option, Some, None, Result, Ok, Err, IfOk, is_some, slice_index}
use Rattle.vdv451_text.specs.declared.table.Table.{Table}
use Rattle.cover_core.specs.declared.Column.{Column}
use Rattle.cover_core.specs.Cover.{Problem}
use Rattle.cover_core.specs.Plans.{AreColumns, HasListedColumns, IsPlan, all_classes, all_items, times}
use Rattle.cover_core.proofs.Counts.{has_few_columns}
use Rattle.plan_params.specs.declared.rows.pool.Pool.{Pool}
use Rattle.day_model.specs.Blocks.{block_worth}
use Rattle.day_model.specs.Facts.{DayFacts}
use Rattle.depot_network.specs.Listed.{blocks_listed}
use Rattle.depot_network.specs.Network.{blocks_of}
use Rattle.block_cut.specs.Legs.{HasWorth}
use Rattle.block_cut.proofs.Few.{plan_items}
use Rattle.plan_check.specs.Verdicts.{HaveSameLists, HaveWorths, StandOnce}
use Rattle.plan_check.proofs.Counted.{times-few}
use Rattle.plan_check.proofs.Lists.{same-items}
use Rattle.umlauf_write.specs.declared.text.PlanText.{PlanText}
use Rattle.umlauf_write.specs.Reading.{read_of}
use Rattle.cert_check.specs.declared.old.OldPlan.{OldPlan}
use Rattle.cert_check.specs.declared.old.OldPlan.TheVariants.{Good, Bad}
use Rattle.cert_check.specs.declared.reason.Reason.{Reason}
use Rattle.cert_check.specs.declared.reason.Reason.TheVariants as reasons
use Rattle.cert_check.specs.Old.{AreOfDay, IsOldAnswer, IsOldPlan, IsStepOf, IsTextAnswer}

some-worth : (o : Option ℕ) (worth : ℕ) → o ≡ Some worth → IsTrue (is_some o)
some-worth None worth h = absurd (cc)
some-worth (Some w) worth h = refl

-- blocks of their pools have worths
pub old-worths : (day : DayFacts) (columns : List Column) → HaveWorths (blocks_of day false) columns (length columns) →
    All (HasWorth day) columns
old-worths day [] h = All-nil (HasWorth day)
old-worths day (c ∷ cs) h =
    let has = h 0 c (omega arith) refl in
    let rest = old-worths day cs (λ place list below at. h (suc place) list (omega arith) at) in
    All-cons (HasWorth day) c cs (some-worth (block_worth day false c.class c.items) has.1 has.2) rest

-- and are lists of trips and pools of the day
pub old-lists : (day : DayFacts) (columns : List Column) → HaveWorths (blocks_of day false) columns (length columns) → AreOfDay day columns
old-lists day [] h = tt
old-lists day (c ∷ cs) h =
    let has = h 0 c (omega arith) refl in
    let pools = day.params.pools in
    let long : length (map (λ (pool : Pool). pool.cap) pools) ≡ length pools = length-map pools (λ (pool : Pool). pool.cap) in
    let below : c.class < length (map (λ (pool : Pool). pool.cap) pools) = has.0 in
    let there : c.class < length pools = omega (arith, long, below) in
    let trips = (blocks_listed (record { day = day; counts = false }) c.class c.items has.1 has.2).2 in
    ((there, trips), old-lists day cs (λ place list below at. h (suc place) list (omega arith) at))

-- the problem with as many places in each class
abbrev with_places : Problem → ℕ → Problem
with_places p most = record { items = p.items; caps = map (λ (cap : ℕ). most) p.caps; worth = p.worth }

places-at : (most : ℕ) (caps : List ℕ) (class : ℕ) → class < length (map (λ (cap : ℕ). most) caps) →
    slice_index (map (λ (cap : ℕ). most) caps) class ≡ most
places-at most [] class below = absurd (omega arith)
places-at most (cap ∷ caps) zero below = refl
places-at most (cap ∷ caps) (suc class) below = places-at most caps class (omega arith)

-- lists that are columns, with their worths
found : (p : Problem) (most : ℕ) (lists : List Column) → HaveWorths p lists (length lists) →
    (columns : List Column) × HaveSameLists lists columns × AreColumns (with_places p most) columns
found p most [] h = ([], tt, tt)
found p most (c ∷ cs) h =
    let has = h 0 c (omega arith) refl in
    let rest = found p most cs (λ place list below at. h (suc place) list (omega arith) at) in
    let long = length-map p.caps (λ (cap : ℕ). most) in
    let below = has.0 in
    let there : c.class < length (map (λ (cap : ℕ). most) p.caps) = omega arith in
    (record { class = c.class; worth = has.1; items = c.items } ∷ rest.0, (refl, refl, rest.1), ((there, has.2), rest.2))

same-long : (as' bs : List Column) → HaveSameLists as' bs → length as' ≡ length bs
same-long [] [] h = refl
same-long [] (b ∷ bs) h = absurd h
same-long (a ∷ as') [] h = absurd h
same-long (a ∷ as') (b ∷ bs) h = ap suc (same-long as' bs h.2)

classes-long : (columns : List Column) → length (all_classes columns) ≡ length columns
classes-long [] = refl
classes-long (c ∷ cs) = ap suc (classes-long cs)

-- there are no more lists, and no more items in all of them, than items
pub record AreFew (p : Problem) (lists : List Column) : Type 0 where
  pub few_lists : length lists ≤ p.items
  pub few_items : length (all_items lists) ≤ p.items

-- Lists of which each has a worth, and in which each item stands once, are short, whatever the caps are. With their worths (`found`)
-- they are a plan of the problem whose classes have each as many places as there are lists, since no class can have more lists than
-- all together; and a plan has no more columns and items than there are items. So an earlier plan may use more vehicles than the day
-- has, and counts still fit.
pub are-few : (p : Problem) (lists : List Column) → HasListedColumns p → StandOnce p lists →
    HaveWorths p lists (length lists) → AreFew p lists
are-few p lists listed once worths =
    let most = length lists in
    let q = with_places p most in
    let (columns, same, are) = found p most lists worths in
    let items = same-items lists columns same in
    let long = same-long lists columns same in
    let listed' : HasListedColumns q = listed in
    let plan : IsPlan q columns = record {
      worths = are;
      once = λ item below. ap (times item) (sym items) ∙ once item below;
      caps = λ class below.
          let few = times-few class (all_classes columns) in
          let classes = classes-long columns in
          let places = places-at most p.caps class below in
          omega arith;
    } in
    let few = has_few_columns q listed' columns plan in
    let all : length (all_items columns) ≤ p.items = plan_items q columns listed' plan in
    record { few_lists = omega arith; few_items = subst (λ (l : List ℕ). length l ≤ p.items) (sym items) all }

pub old-few : (day : DayFacts) (columns : List Column) → length day.trips ≤ 3000 → StandOnce (blocks_of day false) columns →
    HaveWorths (blocks_of day false) columns (length columns) → (length columns ≤ 3000) × (length (all_items columns) ≤ 3000)
old-few day columns few once worths =
    let short = are-few (blocks_of day false) columns (blocks_listed (record { day = day; counts = false })) once worths in
    let lists = short.few_lists in
    let items = short.few_items in
    (omega arith, omega arith)

-- what a step asks for holds where it finds no reason
pub step-passed : (day : DayFacts) (text : PlanText) (passed : Type 0) (found : Option Reason) →
    IsStepOf day text passed found → found ≡ None → passed
step-passed day text passed None step none = step
step-passed day text passed (Some reason) step none = absurd (cc)

-- what is answered of what the tables say is answered of the tables
of-text : (day : DayFacts) (plan : List Table) (text : PlanText) (answer : OldPlan) → read_of day plan ≡ Ok text →
    IsTextAnswer day text answer →
    IsOldAnswer day plan answer
of-text day plan text (Good said) is (same, good) =
    (is ∙ ap (λ (t : PlanText). Ok t) same, subst (λ (t : PlanText). IsOldPlan day t) same good)
of-text day plan text (Bad (reasons.TripTimes fid times)) is against = (text, is, against)
of-text day plan text (Bad (reasons.BlockUnlawful block)) is against = (text, is, against)
of-text day plan text (Bad (reasons.PieceTimes block index times)) is against = (text, is, against)
of-text day plan text (Bad (reasons.PlanForm table row)) is against = absurd against
of-text day plan text (Bad (reasons.PoolOver pool used cap)) is against = absurd against
of-text day plan text (Bad (reasons.DutyUnlawful duty)) is against = absurd against
of-text day plan text (Bad (reasons.GroupOver group used cap)) is against = absurd against
of-text day plan text (Bad (reasons.PlanDiffers table row)) is against = absurd against
of-text day plan text (Bad (reasons.CertForm at)) is against = absurd against
of-text day plan text (Bad (reasons.NegativeClassPrice pass class)) is against = absurd against
of-text day plan text (Bad (reasons.Uncovered pass gap)) is against = absurd against
of-text day plan text (Bad (reasons.BoundTooHigh pass print show)) is against = absurd against

pub answered : {E : Type 0} (day : DayFacts) (plan : List Table) (text : PlanText) (r : Result OldPlan E) → read_of day plan ≡ Ok text →
    IfOk r (IsTextAnswer day text) → IfOk r (IsOldAnswer day plan)
answered day plan text (Ok answer) is h = of-text day plan text answer is h
answered day plan text (Err fault) is h = tt
