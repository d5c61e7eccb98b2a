-- The first and the last day of duties, one duty more. Duties whose last day is at most 13 days after the first have days that are at
-- most 13 days apart.
use Rattle.std.proofs.Common.{◌≡◌, ℕ, ◌+◌, ◌<◌, ◌⊎◌, inl, inr, All, true, List, length, get_or, take, ℤ, pos, ◌+ℤ◌, ◌≤ℤ◌, sym, ap, subst, ◌∙◌, arith}
use Rattle.std.specs.Prelude.{◌==◌, AllPairs}
use Rattle.std.specs.List.{list_any}
use Rattle.std.proofs.lemmas.Bool.{eq-eqb}
use Rattle.std.proofs.lemmas.List.{take_all}
use Rattle.std.proofs.lemmas.List.Elements.{All-more, All-weaker}
use Rattle.std.proofs.lemmas.List.Folds.{list_any_at}
use Rattle.jiff_core.proofs.SignedLemmas.{signed_arith}
use Rattle.week_check.specs.declared.turn.Turn.{Turn}
use Rattle.week_check.specs.Days.{IsDutyDay, number_of}
use Rattle.week_check.specs.Duties.{AreNear}
use Rattle.week_check.specs.Roster.{IsFirstDay, IsLastDay}

below : (a b c : ℤ) → a ≤ℤ b → b ≤ℤ c → a ≤ℤ c
below a b c low high = omega (arith, signed_arith, low, high)

pub day_more : (old own new : ℕ) → (new ≡ old) ⊎ (new ≡ own) → IsDutyDay old → IsDutyDay own → IsDutyDay new
day_more old own new (inl e) first second = subst IsDutyDay (sym e) first
day_more old own new (inr e) first second = subst IsDutyDay (sym e) second

pub there_more : (turns : List Turn) (i : ℕ) (t : Turn) (old new : ℕ) → i < length turns → t ≡ get_or turns i t →
    (new ≡ old) ⊎ (new ≡ t.day) → list_any (λ (u : Turn). u.day == old) turns ≡ true
    → list_any (λ (u : Turn). u.day == new) turns ≡ true
there_more turns i t old new within is (inl e) there = subst (λ n. list_any (λ (u : Turn). u.day == n) turns ≡ true) (sym e) there
there_more turns i t old new within is (inr e) there =
    list_any_at (λ (u : Turn). u.day == new) turns i t within
    (eq-eqb (get_or turns i t).day new (ap (λ (u : Turn). u.day) (sym is) ∙ sym e))

pub least_more : (turns : List Turn) (i : ℕ) (t : Turn) (old new : ℕ) → i < length turns → t ≡ get_or turns i t →
    number_of new ≤ℤ number_of old → number_of new ≤ℤ number_of t.day
    → All (λ (u : Turn). number_of old ≤ℤ number_of u.day) (take i turns) →
    All (λ (u : Turn). number_of new ≤ℤ number_of u.day) (take (i + 1) turns)
least_more turns i t old new within is low own so_far =
    All-more (λ (u : Turn). number_of new ≤ℤ number_of u.day) turns i t within
    (All-weaker (λ (u : Turn). number_of old ≤ℤ number_of u.day) (λ (u : Turn). number_of new ≤ℤ number_of u.day)
    (λ u h. below (number_of new) (number_of old) (number_of u.day) low h) (take i turns) so_far)
    (subst (λ (u : Turn). number_of new ≤ℤ number_of u.day) is own)

pub greatest_more : (turns : List Turn) (i : ℕ) (t : Turn) (old new : ℕ) → i < length turns → t ≡ get_or turns i t →
    number_of old ≤ℤ number_of new → number_of t.day ≤ℤ number_of new
    → All (λ (u : Turn). number_of u.day ≤ℤ number_of old) (take i turns) →
    All (λ (u : Turn). number_of u.day ≤ℤ number_of new) (take (i + 1) turns)
greatest_more turns i t old new within is high own so_far =
    All-more (λ (u : Turn). number_of u.day ≤ℤ number_of new) turns i t within
    (All-weaker (λ (u : Turn). number_of u.day ≤ℤ number_of old) (λ (u : Turn). number_of u.day ≤ℤ number_of new)
    (λ u h. below (number_of u.day) (number_of old) (number_of new) h high) (take i turns) so_far)
    (subst (λ (u : Turn). number_of u.day ≤ℤ number_of new) is own)

pub all_taken : (P : Turn → Type 0) (turns : List Turn) (i : ℕ) → i ≡ length turns → All P (take i turns) → All P turns
all_taken P turns i e all = subst (λ ts. All P ts) (take_all i turns (omega (arith, e))) all

apart_by : (a b first last : ℤ) → first ≤ℤ b → a ≤ℤ last → last ≤ℤ (first +ℤ pos 13) → a ≤ℤ (b +ℤ pos 13)
apart_by a b first last low high near = omega (arith, signed_arith, low, high, near)

-- No day is before the first or after the last, so of two days neither is more than the span after the other. So the first and the
-- last day, found in one pass, decide for all pairs of duties.
pub all_near : (turns : List Turn) (first last : ℕ) → IsFirstDay turns first → IsLastDay turns last →
    number_of last ≤ℤ (number_of first +ℤ pos 13) → AllPairs AreNear turns
all_near turns first last begins ends near = λ i j d order within.
    let before : i < length turns = omega (arith, order, within) in (
      apart_by (number_of (get_or turns i d).day) (number_of (get_or turns j d).day) (number_of first) (number_of last)
          (begins.least j d within) (ends.greatest i d before) near,
      apart_by (number_of (get_or turns j d).day) (number_of (get_or turns i d).day) (number_of first) (number_of last)
          (begins.least i d before) (ends.greatest j d within) near,
    )
