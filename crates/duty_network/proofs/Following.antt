-- The first pieces of each number behind a piece, put in from the last piece back.
use Rattle.std.proofs.Common.{◌≡◌, ◌≢◌, ℕ, zero, suc, ◌+◌, ◌<◌, ◌≤◌, Bool, true, false, cond, List, [], ◌∷◌, ◌++◌, length, replicate, set, refl, sym, ap, subst, arith}
use Rattle.std.specs.Prelude.{Some, slice_get}
use Rattle.duty_network.specs.Duties.{DutyFacts, pause_at}
use Rattle.duty_network.specs.Followers.{AreFirstBehind, entry_at}
use Rattle.duty_network.proofs.Better.{Some-same}
use Rattle.duty_network.proofs.Entries.{count-replicate, entry-count, entry-here, entry-others, entry-replicate, split}

-- behind the last piece there is none
pub none-behind : (d : DutyFacts) (numbers firsts : List ℕ) (item direct long kinds count : ℕ) → firsts ≡ replicate kinds count →
    count ≡ length d.pieces → item < count →
    AreFirstBehind d numbers item direct long count firsts
none-behind d numbers firsts item direct long kinds count is all there = record {
  own = λ m less small.
      let P : List ℕ → Type 0 = λ l. m < length l → entry_at l m < count → ⊥ in
      absurd (subst P (sym is) (λ few at. let size = count-replicate kinds count in let own = entry-replicate kinds count m (omega arith) in
      omega arith) less (omega arith));
  behind = λ m less.
      let P : List ℕ → Type 0 = λ l. m < length l → item < entry_at l m in
      subst P (sym is) (λ small. let size = count-replicate kinds count in let own =
      entry-replicate kinds count m (omega arith) in omega arith) less;
  first = λ next time from to apart is_time enough. absurd (omega arith);
}

-- The first pieces of each number behind a piece, found from the last piece back: a piece with a pause that is long enough
-- overwrites the one noted for its number, which comes later. So at the end each number has its first such piece; the loop may note
-- a piece too many, but none with such a pause that comes before the one noted is left out, the one that follows directly aside.
pub more-behind : (test : Bool) (d : DutyFacts) (numbers old : List ℕ) (item direct long next : ℕ) → item < next →
    entry_at numbers next < length old →
    ((time : ℕ) → next ≢ direct → pause_at d item next ≡ Some time → long ≤ time → test ≡ true) →
    AreFirstBehind d numbers item direct long (next + 1) old →
    AreFirstBehind d numbers item direct long next (cond test (set old (entry_at numbers next) next) old)
more-behind true d numbers old item direct long next order there noted f =
    let number = entry_at numbers next in
    let size = entry-count old number next in
    record {
      own = λ m less small. split (entry_at numbers (entry_at (set old number next) m) ≡ m) m number
          (λ e. let P : ℕ → Type 0 = λ n. entry_at numbers (entry_at (set old number next) n) ≡ n in
          let Q : ℕ → Type 0 = λ n. entry_at numbers n ≡ number in subst P (sym e) (subst Q (sym (entry-here old number next there)) refl))
          (λ n. let same = entry-others old number m next n in
          let Q : ℕ → Type 0 = λ k. entry_at numbers k ≡ m in subst Q (sym same) (f.own m (omega arith) (omega arith)));
      behind = λ m less. split (item < entry_at (set old number next) m) m number
          (λ e. let P : ℕ → Type 0 = λ n. item < entry_at (set old number next) n in
          subst P (sym e) (let here = entry-here old number next there in omega arith))
          (λ n. let same = entry-others old number m next n in let own = f.behind m (omega arith) in omega arith);
      first = λ later time from to apart is_time enough. split (entry_at (set old number next) (entry_at numbers later) ≤ later)
          (entry_at numbers later) number
          (λ e. let P : ℕ → Type 0 = λ n. entry_at (set old number next) n ≤ later in
          subst P (sym e) (let here = entry-here old number next there in omega arith))
          (λ n. let same = entry-others old number (entry_at numbers later) next n in
          let after : next + 1 ≤ later =
          split (next + 1 ≤ later) later next (λ e. absurd (n (ap (entry_at numbers) e))) (λ k. omega arith) in
          let own = f.first later time after to apart is_time enough in omega arith);
    }
more-behind false d numbers old item direct long next order there noted f = record {
  own = f.own;
  behind = f.behind;
  first = λ later time from to apart is_time enough. split (entry_at old (entry_at numbers later) ≤ later) later next
      (λ e. let bad = noted-at later time e apart is_time enough in absurd (cc))
      (λ n. f.first later time (omega arith) to apart is_time enough);
}
  where
    noted-at : (later time : ℕ) → later ≡ next → later ≢ direct → pause_at d item later ≡ Some time → long ≤ time → false ≡ true
    noted-at later time e = let P : ℕ → Type 0 = λ n. n ≢ direct → pause_at d item n ≡ Some time → long ≤ time → false ≡ true in
        subst P (sym e) (noted time)

-- as many numbers as before
pub noted-count : (test : Bool) (old : List ℕ) (place number : ℕ) → length (cond test (set old place number) old) ≡ length old
noted-count true old place number = entry-count old place number
noted-count false old place number = refl

-- what holds of each item of a list, by its place, and of one that is put last
pub put-last : {A : Type 0} (P : ℕ → A → Type 0) (xs : List A) (x : A) → ((k : ℕ) (y : A) → slice_get xs k ≡ Some y → P k y) →
    P (length xs) x → (k : ℕ) (y : A) →
    slice_get (xs ++ x ∷ []) k ≡ Some y → P k y
put-last P [] x f g zero y e = subst (P 0) (Some-same x y e) g
put-last P [] x f g (suc k) y e = absurd (cc)
put-last P (z ∷ zs) x f g zero y e = f zero y e
put-last P (z ∷ zs) x f g (suc k) y e = put-last (λ n. P (suc n)) zs x (λ n w h. f (suc n) w h) g k y e

pub longer : {A : Type 0} (xs : List A) (x : A) → length (xs ++ x ∷ []) ≡ length xs + 1
longer [] x = refl
longer (z ∷ zs) x = omega (arith, longer zs x)
