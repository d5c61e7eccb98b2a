-- The next places with one number, found from the last place on: what is kept for each number is the first place that has it of those that
-- are passed, so the place that is passed next has it as its next one, and takes its room.
use Rattle.std.proofs.Common.{◌≡◌, ◌≢◌, ℕ, ℤ, pos, ◌+◌, ◌*◌, ◌<◌, ◌≤◌, ◌≤ℤ◌, inl, inr, List, [], ◌∷◌, length, refl, sym, ap, subst, ◌∙◌, arith, slice_index_or, slice_set, zero, suc}
use Rattle.std.specs.Prelude.{slice_index, replicate}
use Rattle.std.proofs.Math.Nat.{eq-or-lt_of_le}
use Rattle.std.proofs.lemmas.Bool.{cases_eq}
use Rattle.std.proofs.lemmas.Int.{ints}
use Rattle.trip_times.specs.declared.trip.Trip.{Trip}
use Rattle.day_model.specs.Begins.{AreHeads, AreMinutes, AreNexts, IsFirstFrom}

pub entry_read : (xs : List ℕ) (i v : ℕ) → i < length xs → slice_index_or xs i v ≡ slice_index xs i
entry_read [] i v h = absurd (omega arith)
entry_read (x ∷ xs) zero v h = refl
entry_read (x ∷ xs) (suc i) v h = entry_read xs i v (omega arith)

pub entry_set : (xs : List ℕ) (k v : ℕ) → k < length xs → slice_index (slice_set xs k v) k ≡ v
entry_set [] k v h = absurd (omega arith)
entry_set (x ∷ xs) zero v h = refl
entry_set (x ∷ xs) (suc k) v h = entry_set xs k v (omega arith)

pub entry_other : (xs : List ℕ) (k j v : ℕ) → k ≢ j → slice_index (slice_set xs k v) j ≡ slice_index xs j
entry_other [] k j v h = refl
entry_other (x ∷ xs) zero zero v h = absurd (h refl)
entry_other (x ∷ xs) zero (suc j) v h = refl
entry_other (x ∷ xs) (suc k) zero v h = refl
entry_other (x ∷ xs) (suc k) (suc j) v h = entry_other xs k j v (λ e. h (ap suc e))

pub entry_count : (xs : List ℕ) (k v : ℕ) → length (slice_set xs k v) ≡ length xs
entry_count [] k v = refl
entry_count (x ∷ xs) zero v = refl
entry_count (x ∷ xs) (suc k) v = omega (arith, entry_count xs k v)

pub equal_entries : (n v i : ℕ) → i < n → slice_index (replicate n v) i ≡ v
equal_entries zero v i h = absurd (omega (arith, h))
equal_entries (suc n) v zero h = refl
equal_entries (suc n) v (suc i) h = equal_entries n v i (omega (arith, h))

-- before any place is passed
pub heads_none : (numbers heads : List ℕ) → ((n : ℕ) → n < length heads → slice_index heads n ≡ length numbers) →
    AreHeads numbers heads (length numbers)
heads_none numbers heads all = record {
  within = λ n less. (let is = all n less in omega (arith, is));
  own = λ n less there. absurd (let is = all n less in omega (arith, is, there));
  first = λ u from within. absurd (omega (arith, from, within));
}

-- One place more is passed. Places are passed from the last one on, so this one is before all of them and becomes the first one
-- with its number, while the rooms of other numbers stay as they are. By cases on whether a number is that of the place: if so, its
-- room holds the place itself; if not, what held of its room from the next place on holds from this one on.
pub heads_more : (numbers heads : List ℕ) (k : ℕ) → k < length numbers → slice_index numbers k < length heads →
    AreHeads numbers heads (k + 1) → AreHeads numbers (slice_set heads (slice_index numbers k) k) k
heads_more numbers heads k there room old =
    let number : ℕ = slice_index numbers k in
    let new : List ℕ = slice_set heads number k in
    let here = entry_set heads number k room in
    let long = entry_count heads number k in
    record {
      within = λ n less. elim (cases_eq number n) [
        | inl same ↦ let P : ℕ → Type 0 = λ m. slice_index new m ≤ length numbers in subst P same (omega (arith, here, there))
        | inr other ↦ let is = entry_other heads number n k other in let was = old.within n (omega (arith, less, long)) in
            omega (arith, is, was)
      ];
      own = λ n less inside. elim (cases_eq number n) [
        | inl same ↦
            let P : ℕ → Type 0 = λ m. (k ≤ slice_index new m) × (slice_index numbers (slice_index new m) ≡ m) in
            subst P same (omega (arith, here), ap (slice_index numbers) here)
        | inr other ↦
            let is = entry_other heads number n k other in
            let (later, own) = old.own n (omega (arith, less, long)) (omega (arith, inside, is)) in
            (omega (arith, is, later), ap (slice_index numbers) is ∙ own)
      ];
      first = λ u from inside. elim (cases_eq number (slice_index numbers u)) [
        | inl same ↦ let P : ℕ → Type 0 = λ m. slice_index new m ≤ u in subst P same (omega (arith, here, from))
        | inr other ↦
            let is = entry_other heads number (slice_index numbers u) k other in
            let apart : k + 1 ≤ u =
            elim (eq-or-lt_of_le {n = k} {m = u} from) [
              | inl same ↦ absurd (other (ap (slice_index numbers) same))
              | inr more ↦
                  omega (arith, more)
            ] in
            let was = old.first u apart inside in
            omega (arith, is, was)
      ];
    }

pub nexts_none : (numbers nexts : List ℕ) → length nexts ≡ length numbers → AreNexts numbers nexts (length numbers)
nexts_none numbers nexts long = record {
  count = long;
  within = λ t from inside. absurd (omega (arith, from, inside));
  later = λ t from inside. absurd (omega (arith, from, inside));
  same = λ t from inside. absurd (omega (arith, from, inside));
  first = λ t u from later inside. absurd (omega (arith, from, later, inside));
}

-- The next place of the one that is passed is what its number's room held before: the first place behind it with its number, or the
-- number of places where there is none. All four claims follow from those of the room: it is behind, has the number, and no place
-- between has it. The next ones of the places passed before do not change. At place 0 the lists are those of all trips.
pub nexts_more : (numbers nexts heads : List ℕ) (k next : ℕ) → k < length numbers → slice_index numbers k < length heads →
    next ≡ slice_index heads (slice_index numbers k) →
    AreHeads numbers heads (k + 1) → AreNexts numbers nexts (k + 1) → AreNexts numbers (slice_set nexts k next) k
nexts_more numbers nexts heads k next there room is heads_are old =
    let new : List ℕ = slice_set nexts k next in
    let count = old.count in
    let here = entry_set nexts k next (omega (arith, count, there)) in
    let within = heads_are.within (slice_index numbers k) room in
    let other : (t : ℕ) → k < t → slice_index new t ≡ slice_index nexts t =
    λ t less. entry_other nexts k t next (λ same. absurd (omega (arith, less, same))) in
    record {
      count = entry_count nexts k next ∙ count;
      within = λ t from inside. elim (eq-or-lt_of_le {n = k} {m = t} from) [
        | inl same ↦ let P : ℕ → Type 0 = λ m. slice_index new m ≤ length numbers in subst P same (omega (arith, here, is, within))
        | inr less ↦ let e = other t less in let was = old.within t (omega (arith, less)) inside in omega (arith, e, was)
      ];
      later = λ t from inside. elim (eq-or-lt_of_le {n = k} {m = t} from) [
        | inl same ↦ let P : ℕ → Type 0 = λ m. m < slice_index new m in
            subst P same (elim (eq-or-lt_of_le {n = next} {m = length numbers} (omega (arith, is, within))) [
              | inl end ↦ omega (arith, here, end, there)
              | inr less ↦ let (later, own) = heads_are.own (slice_index numbers k) room (omega (arith, less, is)) in
                  omega (arith, here, is, later)
            ])
        | inr less ↦ let e = other t less in let was = old.later t (omega (arith, less)) inside in omega (arith, e, was)
      ];
      same = λ t from inside found. elim (eq-or-lt_of_le {n = k} {m = t} from) [
        | inl same ↦
            let found' : slice_index new k < length numbers =
            let Q : ℕ → Type 0 = λ m. slice_index new m < length numbers in subst Q (sym same) found in
            let (later, own) = heads_are.own (slice_index numbers k) room (omega (arith, here, is, found')) in
            let P : ℕ → Type 0 = λ m. slice_index numbers (slice_index new m) ≡ slice_index numbers m in
            subst P same (ap (slice_index numbers) (here ∙ is) ∙ own)
        | inr less ↦
            let e = other t less in
            ap (slice_index numbers) e ∙ old.same t (omega (arith, less)) inside (omega (arith, e, found))
      ];
      first = λ t u from later inside one. elim (eq-or-lt_of_le {n = k} {m = t} from) [
        | inl same ↦
            let one' : slice_index numbers u ≡ slice_index numbers k = one ∙ ap (slice_index numbers) (sym same) in
            let P : ℕ → Type 0 = λ m. slice_index heads m ≤ u in
            let low : slice_index heads (slice_index numbers k) ≤ u =
            subst P one' (heads_are.first u (omega (arith, same, later)) inside) in
            let Q : ℕ → Type 0 = λ m. slice_index new m ≤ u in
            subst Q same (omega (arith, here, is, low))
        | inr less ↦ let e = other t less in let was = old.first t u (omega (arith, less)) later inside one in omega (arith, e, was)
      ];
    }

-- Places from where on trips begin late enough.
pub first_later : (trips : List Trip) (time other : ℤ) (k : ℕ) → time ≤ℤ other → IsFirstFrom trips time k → IsFirstFrom trips other k
first_later trips time other k less first u trip at late = first u trip at (omega (arith, ints, less, late))

-- One minute more: the trips passed begin before it, so no trip before the place begins at it or later. Nothing is asked of the
-- order of trips; as the place only moves on from minute to minute (`first_later`), one pass over the trips serves all minutes. It
-- suffices that a search for trips from a minute on may begin at the place: it passes none over.
pub minutes_more : (trips : List Trip) (minutes : List ℕ) (m k : ℕ) → m < 2881 → k ≤ length trips → IsFirstFrom trips (pos (60 * m)) k →
    AreMinutes trips m minutes → AreMinutes trips (m + 1) (slice_set minutes m k)
minutes_more trips minutes m k few within first are =
    let long = are.count in
    let own = entry_set minutes m k (omega (arith, few, long)) in
    record {
      count = entry_count minutes m k ∙ long;
      within = λ j less. elim (eq-or-lt_of_le {n = j} {m = m} (omega (arith, less))) [
        | inl same ↦ let P : ℕ → Type 0 = λ i. slice_index (slice_set minutes m k) i ≤ length trips in
            subst P (sym same) (omega (arith, own, within))
        | inr other ↦ let is = entry_other minutes m j k (λ same. absurd (omega (arith, same, other))) in
            let old = are.within j other in omega (arith, is, old)
      ];
      first = λ j less. elim (eq-or-lt_of_le {n = j} {m = m} (omega (arith, less))) [
        | inl same ↦
            let P : ℕ → Type 0 = λ i. IsFirstFrom trips (pos (60 * i)) (slice_index (slice_set minutes m k) i) in
            let Q : ℕ → Type 0 = λ n. IsFirstFrom trips (pos (60 * m)) n in
            subst P (sym same) (subst Q (sym own) first)
        | inr other ↦
            let Q : ℕ → Type 0 = λ n. IsFirstFrom trips (pos (60 * j)) n in
            subst Q (sym (entry_other minutes m j k (λ same. absurd (omega (arith, same, other))))) (are.first j other)
      ];
    }
