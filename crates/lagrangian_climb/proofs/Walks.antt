-- A walk through keys in order, one key at a time.
use Rattle.std.proofs.Common.{◌≡◌, ℕ, ℤ, pos, neg_ℤ, ◌+ℤ◌, ◌≤ℤ◌, ◌+◌, ◌<◌, ◌≤◌, Bool, true, false, cond, zero, suc, List, [], ◌∷◌, ◌++◌, length, get_or, drop, refl, sym, ap, ◌∙◌, arith, All, append_assoc, add-one, drop-cons, subst, length-append}
use Rattle.std.specs.Prelude.{slice_set}
use Rattle.std.proofs.lemmas.Int.{ints}
use Rattle.std.specs.Prelude.{slice_index}
use Rattle.std.proofs.lemmas.List.{drop_all}
use Rattle.std.proofs.lemmas.List.Elements.{All-get_or, All-tail}
use Rattle.cover_core.specs.Cover.{AllBelow}
use Rattle.cover_core.specs.Plans.{number_at}
use Rattle.cover_core.specs.declared.column_keys.ColumnKey.{ColumnKey}
use Rattle.lagrangian_climb.specs.Choices.{has_room, is_next, seen, chosen_places, chosen_sum, priced_classes, IsGain, AreAsked, AreZeroNumbers}

abbrev pub no_key : ColumnKey
no_key = record { class = 0; value = pos 0; place = 0 }

-- chosen places are places of columns, and no more than keys
pub places-below : (k m : ℕ) (caps counts : List ℕ) (keys : List ColumnKey) → All (IsGain k m) keys → AllBelow m (chosen_places caps counts keys)
places-below k m caps counts [] all = tt
places-below k m caps counts (x ∷ xs) all =
    let here : IsGain k m x = All-get_or (IsGain k m) (x ∷ xs) 0 x (omega arith) all in
    let rest : AllBelow m (chosen_places caps (seen counts x) xs) =
    places-below k m caps (seen counts x) xs (All-tail (IsGain k m) x xs all) in
    elim (has_room caps counts x) as
    (λ b. AllBelow m (cond b (x.place ∷ chosen_places caps (seen counts x) xs) (chosen_places caps (seen counts x) xs))) [
      | true ↦ (here.place, rest)
      | false ↦ rest
    ]

pub places-few : (caps counts : List ℕ) (keys : List ColumnKey) → length (chosen_places caps counts keys) ≤ length keys
places-few caps counts [] = omega arith
places-few caps counts (x ∷ xs) =
    let rest : length (chosen_places caps (seen counts x) xs) ≤ length xs = places-few caps (seen counts x) xs in
    elim (has_room caps counts x) as
    (λ b. length (cond b (x.place ∷ chosen_places caps (seen counts x) xs) (chosen_places caps (seen counts x) xs))
    ≤ suc (length xs)) [ true ↦ omega arith | false ↦ omega arith ]

asked-set : (zs : List ℤ) (i : ℕ) (z : ℤ) → AreAsked zs → pos 0 ≤ℤ z → z ≤ℤ pos 30000000000000000 → AreAsked (slice_set zs i z)
asked-set [] i z are low high = tt
asked-set (x ∷ xs) zero z are low high = (low, high, are.2)
asked-set (x ∷ xs) (suc i) z are low high = (are.0, are.1, asked-set xs i z are.2 low high)

asked-length : (zs : List ℤ) (i : ℕ) (z : ℤ) → length (slice_set zs i z) ≡ length zs
asked-length [] i z = refl
asked-length (x ∷ xs) zero z = refl
asked-length (x ∷ xs) (suc i) z = ap (λ (n : ℕ). suc n) (asked-length xs i z)

-- What classes ask stays in range. What a class asks is minus the value of a column of value below 0, so it is above 0, and in the
-- range of values. It is 0 where no column was left without a place. So what `choose` gives may be added to the values of columns
-- within 64 bits.
pub priced-asked : (k m : ℕ) (caps counts : List ℕ) (keys : List ColumnKey) (prices : List ℤ) → All (IsGain k m) keys → AreAsked prices →
    AreAsked (priced_classes caps counts keys prices)
priced-asked k m caps counts [] prices all are = are
priced-asked k m caps counts (x ∷ xs) prices all are =
    let here : IsGain k m x = All-get_or (IsGain k m) (x ∷ xs) 0 x (omega arith) all in
    let low : pos 0 ≤ℤ neg_ℤ x.value = omega (arith, ints, here.below) in
    let high : neg_ℤ x.value ≤ℤ pos 30000000000000000 = omega (arith, ints, here.low) in
    let set : AreAsked (slice_set prices x.class (neg_ℤ x.value)) = asked-set prices x.class (neg_ℤ x.value) are low high in
    let next : AreAsked (cond (is_next caps counts x) (slice_set prices x.class (neg_ℤ x.value)) prices) =
    elim (is_next caps counts x) as (λ b. AreAsked (cond b (slice_set prices x.class (neg_ℤ x.value)) prices)) [
      | true ↦
          set
      | false ↦ are
    ] in
    priced-asked k m caps (seen counts x) xs (cond (is_next caps counts x) (slice_set prices x.class (neg_ℤ x.value)) prices)
    (All-tail (IsGain k m) x xs all) next

pub next-length : (b : Bool) (prices : List ℤ) (i : ℕ) (z : ℤ) → length (cond b (slice_set prices i z) prices) ≡ length prices
next-length true prices i z = asked-length prices i z
next-length false prices i z = refl

pub priced-length : (caps counts : List ℕ) (keys : List ColumnKey) (prices : List ℤ) →
    length (priced_classes caps counts keys prices) ≡ length prices
priced-length caps counts [] prices = refl
priced-length caps counts (x ∷ xs) prices =
    priced-length caps (seen counts x) xs (cond (is_next caps counts x) (slice_set prices x.class (neg_ℤ x.value)) prices)
    ∙ next-length (is_next caps counts x) prices x.class (neg_ℤ x.value)

pub zero-asked : (zs : List ℤ) → ((i : ℕ) → number_at zs i ≡ pos 0) → AreAsked zs
zero-asked [] h = tt
zero-asked (z ∷ zs) h = let here : z ≡ pos 0 = h 0 in (omega (arith, ints), omega (arith, ints), zero-asked zs (λ i. h (suc i)))

-- One key more. The invariant of the walk says what is chosen so far, followed by what the keys left will choose from the counts
-- reached, is the whole choice; so one step of the loop is one step of the definition, and at the end nothing is left. The two
-- lemmas below are the same for the sum of values and for what classes ask.
pub places-more : (caps counts new : List ℕ) (keys : List ColumnKey) (i : ℕ) (places more : List ℕ) → i < length keys →
    new ≡ seen counts (get_or keys i no_key) →
    more ≡ cond (has_room caps counts (get_or keys i no_key)) (places ++ (get_or keys i no_key).place ∷ []) places →
    places ++ chosen_places caps counts (drop i keys) ≡ more ++ chosen_places caps new (drop (i + 1) keys)
places-more caps counts new keys i places more h e is =
    let key : ColumnKey = get_or keys i no_key in
    let front : drop i keys ≡ key ∷ drop (i + 1) keys = rw add-one (drop-cons keys i no_key h) in
    let rest : List ℕ = chosen_places caps (seen counts key) (drop (i + 1) keys) in
    let step : (b : Bool) → places ++ cond b (key.place ∷ rest) rest ≡ cond b (places ++ key.place ∷ []) places ++ rest =
    λ b. elim b as (λ b. places ++ cond b (key.place ∷ rest) rest ≡ cond b (places ++ key.place ∷ []) places ++ rest) [
      | true ↦
          simp append_assoc
      | false ↦ refl
    ] in
    ap (λ (l : List ColumnKey). places ++ chosen_places caps counts l) front
    ∙ (step (has_room caps counts key)
    ∙ (ap (λ (l : List ℕ). l ++ rest) (sym is) ∙ ap (λ (l : List ℕ). more ++ chosen_places caps l (drop (i + 1) keys)) (sym e)))

pub sum-more : (caps counts new : List ℕ) (keys : List ColumnKey) (i : ℕ) (sum more : ℤ) → i < length keys →
    new ≡ seen counts (get_or keys i no_key) →
    more ≡ sum +ℤ cond (has_room caps counts (get_or keys i no_key)) (get_or keys i no_key).value (pos 0) →
    sum +ℤ chosen_sum caps counts (drop i keys) ≡ more +ℤ chosen_sum caps new (drop (i + 1) keys)
sum-more caps counts new keys i sum more h e is =
    let key : ColumnKey = get_or keys i no_key in
    let front : drop i keys ≡ key ∷ drop (i + 1) keys = rw add-one (drop-cons keys i no_key h) in
    let rest : ℤ = chosen_sum caps (seen counts key) (drop (i + 1) keys) in
    let here : ℤ = cond (has_room caps counts key) key.value (pos 0) in
    let step : sum +ℤ (here +ℤ rest) ≡ (sum +ℤ here) +ℤ rest = omega (arith, ints) in
    ap (λ (l : List ColumnKey). sum +ℤ chosen_sum caps counts l) front
    ∙ (step ∙ (ap (λ (z : ℤ). z +ℤ rest) (sym is) ∙ ap (λ (l : List ℕ). more +ℤ chosen_sum caps l (drop (i + 1) keys)) (sym e)))

pub prices-more : (caps counts new : List ℕ) (keys : List ColumnKey) (i : ℕ) (prices more : List ℤ) → i < length keys →
    new ≡ seen counts (get_or keys i no_key) →
    more ≡ cond (is_next caps counts (get_or keys i no_key))
    (slice_set prices (get_or keys i no_key).class (neg_ℤ (get_or keys i no_key).value)) prices →
    priced_classes caps counts (drop i keys) prices ≡ priced_classes caps new (drop (i + 1) keys) more
prices-more caps counts new keys i prices more h e is =
    let key : ColumnKey = get_or keys i no_key in
    let front : drop i keys ≡ key ∷ drop (i + 1) keys = rw add-one (drop-cons keys i no_key h) in
    ap (λ (l : List ColumnKey). priced_classes caps counts l prices) front
    ∙ (ap (λ (l : List ℤ). priced_classes caps (seen counts key) (drop (i + 1) keys) l) (sym is)
    ∙ ap (λ (l : List ℕ). priced_classes caps l (drop (i + 1) keys) more) (sym e))

set-few : (counts : List ℕ) (at v t : ℕ) → v ≤ t → ((i : ℕ) → slice_index counts i ≤ t) → (i : ℕ) →
    slice_index (slice_set counts at v) i ≤ t
set-few [] at v t h all i = all i
set-few (x ∷ xs) zero v t h all zero = h
set-few (x ∷ xs) zero v t h all (suc i) = all (suc i)
set-few (x ∷ xs) (suc at) v t h all zero = all zero
set-few (x ∷ xs) (suc at) v t h all (suc i) = set-few xs at v t h (λ j. all (suc j)) i

pub seen-few : (counts new : List ℕ) (key : ColumnKey) (t : ℕ) → new ≡ seen counts key → ((i : ℕ) → slice_index counts i ≤ t) →
    (i : ℕ) → slice_index new i ≤ t + 1
seen-few counts new key t e all i =
    let here = all key.class in
    let top : slice_index counts key.class + 1 ≤ t + 1 = omega arith in
    let wider : (j : ℕ) → slice_index counts j ≤ t + 1 = λ j. (let h = all j in omega arith) in
    let set : slice_index (seen counts key) i ≤ t + 1 = set-few counts key.class (slice_index counts key.class + 1) (t + 1) top wider i in
    let same : slice_index new i ≡ slice_index (seen counts key) i = ap (λ (l : List ℕ). slice_index l i) e in
    omega arith

set-length : (counts : List ℕ) (at v : ℕ) → length (slice_set counts at v) ≡ length counts
set-length [] at v = refl
set-length (x ∷ xs) zero v = refl
set-length (x ∷ xs) (suc at) v = ap (λ (n : ℕ). suc n) (set-length xs at v)

pub seen-length : (counts new : List ℕ) (key : ColumnKey) → new ≡ seen counts key → length new ≡ length counts
seen-length counts new key e = ap (λ (l : List ℕ). length l) e ∙ set-length counts key.class (slice_index counts key.class + 1)

-- at the end
nothing-more : (xs : List ℕ) → xs ++ [] ≡ xs
nothing-more [] = refl
nothing-more (x ∷ xs) = ap (λ (l : List ℕ). x ∷ l) (nothing-more xs)

pub places-end : (caps start counts : List ℕ) (keys : List ColumnKey) (i : ℕ) (places : List ℕ) → length keys ≤ i →
    chosen_places caps start keys ≡ places ++ chosen_places caps counts (drop i keys) → places ≡ chosen_places caps start keys
places-end caps start counts keys i places h e =
    sym (e ∙ (ap (λ (l : List ColumnKey). places ++ chosen_places caps counts l) (drop_all i keys h) ∙ nothing-more places))

pub sum-end : (caps start counts : List ℕ) (keys : List ColumnKey) (i : ℕ) (sum : ℤ) → length keys ≤ i →
    chosen_sum caps start keys ≡ sum +ℤ chosen_sum caps counts (drop i keys) → sum ≡ chosen_sum caps start keys
sum-end caps start counts keys i sum h e =
    let none : sum +ℤ pos 0 ≡ sum = omega (arith, ints) in
    sym (e ∙ (ap (λ (l : List ColumnKey). sum +ℤ chosen_sum caps counts l) (drop_all i keys h) ∙ none))

pub prices-end : (caps start counts : List ℕ) (keys : List ColumnKey) (i : ℕ) (first prices : List ℤ) → length keys ≤ i →
    priced_classes caps start keys first ≡ priced_classes caps counts (drop i keys) prices → prices ≡ priced_classes caps start keys first
prices-end caps start counts keys i first prices h e =
    sym (e ∙ ap (λ (l : List ColumnKey). priced_classes caps counts l prices) (drop_all i keys h))

-- one number 0 more
zero-more : (zs : List ℤ) (z : ℤ) → z ≡ pos 0 → ((i : ℕ) → number_at zs i ≡ pos 0) → (i : ℕ) → number_at (zs ++ z ∷ []) i ≡ pos 0
zero-more [] z e all zero = e
zero-more [] z e all (suc i) = refl
zero-more (x ∷ xs) z e all zero = all zero
zero-more (x ∷ xs) z e all (suc i) = zero-more xs z e (λ j. all (suc j)) i

pub zero-asked-more : (n : ℕ) (zs new : List ℤ) (z : ℤ) → AreZeroNumbers n zs → new ≡ zs ++ z ∷ [] → z ≡ pos 0 → AreZeroNumbers (n + 1) new
zero-asked-more n zs new z h e is =
    let P : List ℤ → Type 0 = λ l. AreZeroNumbers (n + 1) l in
    let len = h.0 in
    let long : length (zs ++ z ∷ []) ≡ n + 1 = omega (arith, length-append zs (z ∷ [])) in
    subst P (sym e) (long, zero-more zs z is h.1)
