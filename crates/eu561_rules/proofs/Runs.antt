-- A tally over all drives of a duty, and lawfulness as a test.
use Rattle.std.proofs.Common.{◌≡◌, ℕ, ◌+◌, ◌-◌, ◌<◌, ◌≤◌, inl, inr, Bool, true, false, cond, ◌||◌, ◌&&◌, zero, suc, List, [], ◌∷◌, ◌++◌, length, drop, refl, sym, ap, subst, ◌∙◌, arith, append_assoc, append-nil}
use Rattle.std.proofs.lemmas.Bool.{cases_lt, and_from, and_parts, not_from_false, not-true}
pub use Rattle.std.proofs.lemmas.Bool.{and_from as and_true, and_parts as both_true}
use Rattle.std.proofs.lemmas.Bool.Decides.{nat_tests}
use Rattle.std.specs.Prelude.{nat_le, nat_lt, is_none, not, Option, Some, None}
use Rattle.eu561_rules.specs.declared.rules.Drive.{Drive}
use Rattle.eu561_rules.specs.declared.rules.Limits.{Limits}
use Rattle.eu561_rules.specs.declared.counting.Excess.{Excess}
use Rattle.eu561_rules.specs.Duty.{completes_break, is_full_break, driving_of, BreakFree, KeepsArticle7, IsFirstExcess, spread_limit, IsLawful}
use Rattle.eu561_rules.specs.Summary.{Summary, ClosedExcess, StandsFor, tally_after}
use Rattle.eu561_rules.specs.Lawful.{all_below, is_break_free, keeps_article7, is_lawful, run, no_drives, IsFine, AreBounded}
use Rattle.eu561_rules.proofs.Tallies.{either, StandsFor-after, keeps-all, spread_limit-is}
use Rattle.eu561_rules.proofs.Breaks.{last-exceeds}

all_below-true : (n : ℕ) (p : ℕ → Bool) → all_below n p ≡ true → (k : ℕ) → k < n → p k ≡ true
all_below-true zero p e k h = absurd (omega arith)
all_below-true (suc n) p e k h =
    let (low, last) = and_parts (all_below n p) (p n) e in
    elim (cases_lt k n) [
      | inl below ↦ all_below-true n p low k below
      | inr above ↦ let same : n ≡ k = omega arith in ap p (sym same) ∙ last
    ]

all_below-onto : (n : ℕ) (p : ℕ → Bool) → ((k : ℕ) → k < n → p k ≡ true) → all_below n p ≡ true
all_below-onto zero p h = refl
all_below-onto (suc n) p h = and_from (all_below n p) (p n) (all_below-onto n p (λ k below. h k (omega arith))) (h n (omega arith))

either_true : (a b : Bool) → (a ≡ true → b ≡ true) → (not a || b) ≡ true
either_true true b h = h refl
either_true false b h = refl

from-either : (a b : Bool) → (not a || b) ≡ true → a ≡ true → b ≡ true
from-either true b e h = e
from-either false b e h = absurd (cc)

pub le-true : (a b : ℕ) → a ≤ b → nat_le a b ≡ true
le-true a b h = grind (arith, nat_tests)

pub true-le : (a b : ℕ) → nat_le a b ≡ true → a ≤ b
true-le a b h = grind (arith, nat_tests)

free-test : (drives : List Drive) (i j : ℕ) → BreakFree drives i j → is_break_free drives i j ≡ true
free-test drives i j free = all_below-onto j _ (λ k below. either_true (nat_le i k) (not (is_full_break drives (k + 1))) (λ from.
    let order : i ≤ k = true-le i k from in not_from_false _ (free (k + 1) (omega arith) (omega arith))))

test-free : (drives : List Drive) (i j : ℕ) → is_break_free drives i j ≡ true → BreakFree drives i j
test-free drives i j e zero above below = absurd (omega arith)
test-free drives i j e (suc k) above below =
    let inside : k < j = omega arith in
    let from : nat_le i k ≡ true = le-true i k (omega arith) in
    let one : not (is_full_break drives (k + 1)) ≡ true = from-either (nat_le i k) _ (all_below-true j _ e k inside) from in
    let next : k + 1 ≡ suc k = omega arith in
    let P : ℕ → Type 0 = λ n. is_full_break drives n ≡ false in
    subst P next (not-true _ one)

-- Article 7 as a test over all pairs of drives says what the article's definition says: for each two drives with no full break
-- between them the driving within keeps the limit. The test for "no full break between" is the definition, too (`free-test`,
-- `test-free`), so both directions are a passage from "all below" to "for each".
pub keeps-from : (limits : Limits) (drives : List Drive) → keeps_article7 limits drives ≡ true → KeepsArticle7 limits drives (length drives)
keeps-from limits drives e i j order below free =
    let at_j = all_below-true (length drives) _ e j below in
    let at_i = all_below-true (j + 1) _ at_j i (omega arith) in
    true-le _ _ (from-either (is_break_free drives i j) _ at_i (free-test drives i j free))

pub keeps-onto : (limits : Limits) (drives : List Drive) → KeepsArticle7 limits drives (length drives) → keeps_article7 limits drives ≡ true
keeps-onto limits drives keeps =
    all_below-onto (length drives) _ (λ j below. all_below-onto (j + 1) _ (λ i inside.
    either_true (is_break_free drives i j) _ (λ free. le-true _ _ (keeps i j (omega arith) below (test-free drives i j free)))))

-- limits stay
pub after-limits : (t : Summary) (d : Drive) → (tally_after t d).limits ≡ t.limits
after-limits t d = either (λ (t' : Summary). t'.limits ≡ t.limits) (completes_break t.quarter d.pause) _ _ (λ h. refl) (λ h. refl)

pub run-limits : (t : Summary) (ds : List Drive) → (run t ds).limits ≡ t.limits
run-limits t [] = refl
run-limits t (d ∷ ds) = run-limits (tally_after t d) ds ∙ after-limits t d

no_drives-stands : (limits : Limits) → StandsFor (no_drives limits) []
no_drives-stands limits = record {
  count = refl;
  quarter = refl;
  long = refl;
  total = refl;
  small = omega arith;
  first = record { there = omega arith; inside = inl refl; begins = inl refl; free = λ k above below. absurd (omega arith) };
  driving = refl;
  over = λ i j order below. absurd (omega arith);
}

longer : (xs : List Drive) (d : Drive) → 0 < length (xs ++ d ∷ [])
longer [] d = omega arith
longer (x ∷ xs) d = omega arith

none-longer : (xs : List Drive) → 0 < length xs → xs ≡ [] → ⊥
none-longer xs h e = let none : length xs ≡ 0 = ap length e in omega arith

-- A tally to which drives are added one by one stands for the list of all of them. The induction is over the drives to come, with
-- any drives before, of which there is at least one: only the first drive of a duty must have no pause, and this is known from the
-- start on.
run-more : (t : Summary) (xs ds : List Drive) → 0 < length xs → AreBounded ds → StandsFor t xs → StandsFor (run t ds) (xs ++ ds)
run-more t xs [] some b s = rw append-nil s
run-more t xs (d ∷ ds) some b s =
    let next : StandsFor (tally_after t d) (xs ++ d ∷ []) = StandsFor-after t d xs b.0 (λ none. absurd (none-longer xs some none)) s in
    let all = run-more (tally_after t d) (xs ++ d ∷ []) ds (longer xs d) b.1 next in
    rw append_assoc at all

-- a tally stands for the drives that were added
pub run-stands : (limits : Limits) (d : Drive) (ds : List Drive) → d.pause ≡ 0 → AreBounded (d ∷ ds) →
    StandsFor (run (no_drives limits) (d ∷ ds)) (d ∷ ds)
run-stands limits d ds first b =
    run-more (tally_after (no_drives limits) d) (d ∷ []) ds (omega arith) b.1
    (StandsFor-after (no_drives limits) d [] b.0 (λ e. first) (no_drives-stands limits))

closed-none : (over : Option Excess) (e : Excess) (block driving : ℕ) →
    cond (is_none over && nat_lt block driving) (Some e) over ≡ None → (over ≡ None) × (driving ≤ block)
closed-none (Some x) e block driving h = absurd (cc)
closed-none None e block driving h =
    let none : Option Excess = None in
    elim (nat_lt block driving) as (λ b. nat_lt block driving ≡ b → cond b (Some e) none ≡ none → (none ≡ none) × (driving ≤ block)) [
      | true ↦ λ is h'. absurd (cc)
      | false ↦ λ is h'. (refl, grind (arith, nat_tests))
    ] refl h

none-closed : (over : Option Excess) (e : Excess) (block driving : ℕ) → over ≡ None → driving ≤ block →
    cond (is_none over && nat_lt block driving) (Some e) over ≡ None
none-closed over e block driving none small = let test : nat_lt block driving ≡ false = grind (arith, nat_tests) in rw (none, test) refl

-- A tally that is fine (articles 6 and 7 kept so far) was fine before its last drive: sums only grow, a driving period that had too
-- much when it closed stays noted, and one that is still open has no less with the drive. So a duty that is lawful at its end was
-- fine after each piece, and a search may drop an open duty as soon as its tally is not.
pub fine-back : (t : Summary) (d : Drive) → IsFine (tally_after t d) → IsFine t
fine-back t d = either (λ (t' : Summary). IsFine t' → IsFine t) (completes_break t.quarter d.pause) _ _
    (λ full f. let (none, small) =
    closed-none t.over (record { first = t.first; last = t.count - 1; driving = t.driving }) t.limits.block t.driving f.none in
    record { none = none; driving = small; total = omega (arith, f.total) })
    (λ part f. record { none = f.none; driving = omega (arith, f.driving); total = omega (arith, f.total) })

pub run-fine-back : (t : Summary) (ds : List Drive) → IsFine (run t ds) → IsFine t
run-fine-back t [] f = f
run-fine-back t (d ∷ ds) f = fine-back t d (run-fine-back (tally_after t d) ds f)

-- A fine tally stays fine with one drive more if two numbers that it has then keep their limits: the driving of the last period and
-- the driving in all. If the pause before the drive is a full break, the period that it closes kept the limit already, as the tally
-- was fine. So a label need keep no note of earlier periods.
pub fine-next : (t : Summary) (d : Drive) → IsFine t → (tally_after t d).driving ≤ t.limits.block → (tally_after t d).total ≤ t.limits.day →
    IsFine (tally_after t d)
fine-next t d f = either (λ (t' : Summary). t'.driving ≤ t.limits.block → t'.total ≤ t.limits.day → IsFine t')
    (completes_break t.quarter d.pause) _ _
    (λ full driving total. record {
      none = none-closed t.over (record { first = t.first; last = t.count - 1; driving = t.driving })
          t.limits.block t.driving f.none f.driving;
      driving = driving;
      total = total;
    })
    (λ part driving total. record { none = f.none; driving = driving; total = total })

pub no-excess : (limits : Limits) (drives : List Drive) (i j driving : ℕ) → KeepsArticle7 limits drives (length drives) →
    IsFirstExcess limits drives i j driving → ⊥
no-excess limits drives i j driving keeps e =
    let within = keeps i j e.period.order e.period.there e.period.free in
    omega (arith, e.exceeds, e.driving_is)

over-none : (limits : Limits) (drives : List Drive) (first : ℕ) (over : Option Excess) → KeepsArticle7 limits drives (length drives) →
    ClosedExcess limits drives first over → over ≡ None
over-none limits drives first None keeps c = refl
over-none limits drives first (Some e) keeps c = absurd (no-excess limits drives e.first e.last e.driving keeps c.0)

-- A duty that is lawful by the definition, which speaks of all intervals of its drives, has a fine tally whose spread keeps the
-- tally's limit: no period can be noted as having too much, and the last period is an interval without a full break, so it keeps the
-- limit, too.
pub lawful-from : (t : Summary) (drives : List Drive) (time : ℕ) → StandsFor t drives → is_lawful t.limits drives time ≡ true →
    IsFine t × (time ≤ cond t.long t.limits.long_spread t.limits.spread)
lawful-from t drives time s e =
    let (low, last) = and_parts _ _ e in
    let (day, seven) = and_parts _ _ low in
    let keeps = keeps-from t.limits drives seven in
    let inside = s.first.there in
    let total : driving_of drives ≤ t.limits.day = true-le _ _ day in
    let front : KeepsArticle7 t.limits drives t.first = λ i j order below free. keeps i j order (omega arith) free in (
      record {
        none = over-none t.limits drives t.first t.over keeps s.over;
        driving = elim (cases_lt t.limits.block (driving_of (drop t.first drives))) [
          | inl more ↦ absurd (no-excess t.limits drives _ _ _ keeps (last-exceeds t.limits drives t.first s.first front more))
          | inr less ↦ omega (arith, s.driving)
        ];
        total = omega (arith, s.total);
      },
      (let limit = spread_limit-is t drives s in rw limit at (true-le _ _ last)),
    )

-- A fine tally with a spread within its limit makes the duty lawful: all closed periods and the last one keep the limit, and each
-- interval with no full break inside lies in one period (`keeps-all`). With `lawful-from` a few numbers decide what the articles say
-- of all intervals; labels and marks of open duties, which keep only these numbers, rest on it.
pub lawful-onto : (t : Summary) (drives : List Drive) (time : ℕ) → StandsFor t drives → IsFine t →
    time ≤ cond t.long t.limits.long_spread t.limits.spread →
    is_lawful t.limits drives time ≡ true
lawful-onto t drives time s f h =
    let day : nat_le (driving_of drives) t.limits.day ≡ true = le-true _ _ (omega (arith, s.total, f.total)) in
    let seven = keeps-onto t.limits drives (keeps-all t drives s f.none f.driving) in
    let spread : nat_le time (spread_limit t.limits drives) ≡ true = le-true _ _ (let limit = spread_limit-is t drives s in rw limit h) in
    and_from _ _ (and_from _ _ day seven) spread

-- the test is the definition
pub lawful-test : (limits : Limits) (drives : List Drive) (spread : ℕ) → IsLawful limits drives spread →
    is_lawful limits drives spread ≡ true
lawful-test limits drives spread l =
    and_from _ _ (and_from _ _ (le-true _ _ l.article6) (keeps-onto limits drives l.article7)) (le-true _ _ l.article8)

pub test-lawful : (limits : Limits) (drives : List Drive) (spread : ℕ) → is_lawful limits drives spread ≡ true →
    IsLawful limits drives spread
test-lawful limits drives spread e =
    let (low, last) = and_parts _ _ e in
    let (day, seven) = and_parts _ _ low in
    record { article6 = true-le _ _ day; article7 = keeps-from limits drives seven; article8 = true-le _ _ last }
