-- Counts of items and classes, and the first of them that is off.
use Rattle.std.proofs.Common.{◌≡◌, ℕ, ◌+◌, ◌<◌, ◌^◌, Bool, not, nat_eq, nat_lt, List, [], ◌∷◌, ◌++◌, length, map, drop, get_or, refl, sym, ap, ◌∙◌, arith, add-one, drop-cons}
use Rattle.std.specs.Prelude.{Option, Some, None, slice_index}
use Rattle.cover_core.specs.declared.Column.{Column}
use Rattle.cover_core.specs.Cover.{Problem}
use Rattle.cover_core.specs.Plans.{times, all_items, all_classes}
use Rattle.cover_core.proofs.Times.{times-length}
pub use Rattle.cover_core.proofs.Times.{times-length as times-few}
use Rattle.plan_check.specs.Counts.{AreCounts, HaveRisen, HaveRoom, IsFirstOf}
use Rattle.plan_check.specs.Judged.{first_of, is_off, is_over}
use Rattle.plan_check.proofs.Decided.{first-is}

pub classes-map : (lists : List Column) → all_classes lists ≡ map (λ (list : Column). list.class) lists
classes-map [] = refl
classes-map (c ∷ cs) = ap (λ (l : List ℕ). c.class ∷ l) (classes-map cs)

-- the items of the lists from a place on are those of the list there and of the others
pub items-step : (lists : List Column) (i : ℕ) (list : Column) → i < length lists → list ≡ get_or lists i list →
    all_items (drop i lists) ≡ list.items ++ all_items (drop (i + 1) lists)
items-step lists i list below is =
    let at : drop i lists ≡ get_or lists i list ∷ drop (i + 1) lists = rw add-one (drop-cons lists i list below) in
    ap all_items at ∙ ap (λ (c : Column). c.items ++ all_items (drop (i + 1) lists)) (sym is)

-- counts of 0 have room for a list of fewer than 2^32 numbers
pub room : (counts numbers : List ℕ) → ((n : ℕ) → n < length counts → slice_index counts n ≡ 0) →
    length numbers < 2 ^ 32 → HaveRoom counts numbers
room counts numbers zeros few = λ n below. let zero = zeros n below in let times = times-length n numbers in omega arith

-- counts that have risen from 0 are those of the numbers
pub counted : (before now numbers : List ℕ) → length now ≡ length before → ((n : ℕ) → n < length before → slice_index before n ≡ 0) →
    HaveRisen before now numbers → AreCounts now numbers
counted before now numbers long zeros risen = λ n below.
    let below' : n < length before = omega arith in
    let zero = zeros n below' in
    let rise = risen n below' in
    omega arith

-- a first number by a test is the first by a test that is the same below the bound
pub first-same : (count : ℕ) (test other : ℕ → Bool) (o : Option ℕ) → ((n : ℕ) → n < count → test n ≡ other n) →
    IsFirstOf count test o → IsFirstOf count other o
first-same count test other None same h = λ j below. sym (same j below) ∙ h j below
first-same count test other (Some k) same h =
    let there = h.0 in
    (there, sym (same k there) ∙ h.1, λ j below. let below' : j < count = omega arith in sym (same j below') ∙ h.2 j below)

-- the first count that is not 1 is of the first item that does not stand once
pub first-off : (lists : List Column) (counts : List ℕ) (o : Option ℕ) → AreCounts counts (all_items lists) →
    IsFirstOf (length counts) (λ n. not (nat_eq (slice_index counts n) 1)) o →
    first_of (length counts) 0 (is_off lists) ≡ o
first-off lists counts o are h =
    first-is (length counts) (is_off lists) o
    (first-same (length counts) (λ n. not (nat_eq (slice_index counts n) 1)) (is_off lists) o
    (λ n below. ap (λ (m : ℕ). not (nat_eq m 1)) (are n below)) h)

-- the first count above its cap is of the first class that has too many lists
pub first-over : (p : Problem) (lists : List Column) (counts : List ℕ) (o : Option ℕ) → length counts ≡ length p.caps →
    AreCounts counts (all_classes lists) →
    IsFirstOf (length p.caps) (λ class. nat_lt (slice_index p.caps class) (slice_index counts class)) o →
    first_of (length p.caps) 0 (is_over p lists) ≡ o
first-over p lists counts o long are h =
    first-is (length p.caps) (is_over p lists) o
    (first-same (length p.caps) (λ class. nat_lt (slice_index p.caps class) (slice_index counts class)) (is_over p lists) o
    (λ n below. let below' : n < length counts = omega arith in ap (λ (m : ℕ). nat_lt (slice_index p.caps n) m) (are n below')) h)
