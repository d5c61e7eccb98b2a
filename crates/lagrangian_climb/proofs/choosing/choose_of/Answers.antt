use Rattle.std.proofs.Common.{◌≡◌, ℕ, ℤ, pos, neg_ℤ, ◌≤ℤ◌, ◌≤◌, cond, true, false, List, length, get_or, sym, ap, ◌∙◌, subst, arith, All, IsPermutation, IsSortedBy}
use Rattle.std.proofs.lemmas.Int.{ints}
use Rattle.std.proofs.lemmas.List.Elements.{All-get_or}
use Rattle.cover_core.specs.Cover.{AllBelow}
use Rattle.cover_core.proofs.Fits.{AreFit-wider}
use Rattle.cover_core.specs.declared.column_keys.ColumnKey.{ColumnKey}
use Rattle.cover_core.specs.ColumnKeys.{is_before}
use Rattle.lagrangian_climb.specs.Choices.{IsGain, gains_at, chosen_places, chosen_sum, priced_classes, AreAsked, has_room, is_next}
use Rattle.lagrangian_climb.proofs.Gains.{sorted-are, sorted-few}
use Rattle.lagrangian_climb.proofs.Walks.{no_key, places-more, sum-more, prices-more, places-below, places-few, priced-asked, zero-asked, seen-length, seen-few, next-length, places-end, sum-end, prices-end}
use Rattle.lagrangian_climb.proofs.choosing.choose_of.Goals as goal

pub gains-requires-clause-fit : goal.gains-requires-clause-fit
gains-requires-clause-fit c =
    AreFit-wider (length c.args.prices.now.items) (length c.args.caps.now) 32 c.args.pool.now c.requires.classes c.requires.fit

pub walk-requires-clause-class : goal.walk-requires-clause-class
walk-requires-clause-class c =
    let k = length c.args.caps.now in
    let m = length c.args.pool.now in
    let keys : List ColumnKey = c.as_slice-key-items.result.now in
    let P : List ColumnKey → Type 0 = λ l. All (IsGain k m) l in
    let all : All (IsGain k m) keys =
    subst P (sym c.as_slice-key-items.ensures.value)
    (sorted-are (length c.args.prices.now.items) k c.args.prices.now.items c.args.pool.now c.args.places.now _ _ c.requires.few
    c.requires.moderate c.requires.fit c.requires.places c.in_ok-keys.ensures c.in_ok-sort_keys.ensures.permutation) in
    let here : IsGain k m (get_or keys c.loop-key.key-index no_key) =
    All-get_or (IsGain k m) keys c.loop-key.key-index no_key c.loop-key-test.true all in
    here.class

pub walk-requires-clause-low : goal.walk-requires-clause-low
walk-requires-clause-low c =
    let k = length c.args.caps.now in
    let m = length c.args.pool.now in
    let keys : List ColumnKey = c.as_slice-key-items.result.now in
    let P : List ColumnKey → Type 0 = λ l. All (IsGain k m) l in
    let all : All (IsGain k m) keys =
    subst P (sym c.as_slice-key-items.ensures.value)
    (sorted-are (length c.args.prices.now.items) k c.args.prices.now.items c.args.pool.now c.args.places.now _ _ c.requires.few
    c.requires.moderate c.requires.fit c.requires.places c.in_ok-keys.ensures c.in_ok-sort_keys.ensures.permutation) in
    let here : IsGain k m (get_or keys c.loop-key.key-index no_key) =
    All-get_or (IsGain k m) keys c.loop-key.key-index no_key c.loop-key-test.true all in
    omega (arith, ints, here.low, here.below)

pub walk-requires-clause-below : goal.walk-requires-clause-below
walk-requires-clause-below c =
    let k = length c.args.caps.now in
    let m = length c.args.pool.now in
    let keys : List ColumnKey = c.as_slice-key-items.result.now in
    let P : List ColumnKey → Type 0 = λ l. All (IsGain k m) l in
    let all : All (IsGain k m) keys =
    subst P (sym c.as_slice-key-items.ensures.value)
    (sorted-are (length c.args.prices.now.items) k c.args.prices.now.items c.args.pool.now c.args.places.now _ _ c.requires.few
    c.requires.moderate c.requires.fit c.requires.places c.in_ok-keys.ensures c.in_ok-sort_keys.ensures.permutation) in
    let here : IsGain k m (get_or keys c.loop-key.key-index no_key) =
    All-get_or (IsGain k m) keys c.loop-key.key-index no_key c.loop-key-test.true all in
    omega (arith, ints, here.low, here.below)

pub walk-requires-clause-few : goal.walk-requires-clause-few
walk-requires-clause-few c =
    let few = sorted-few c.args.prices.now.items c.args.pool.now c.args.places.now _ _ c.in_ok-keys.ensures
    c.in_ok-sort_keys.ensures.permutation in
    let long = ap (λ (l : List ColumnKey). length l) c.as_slice-key-items.ensures.value in
    let pool = c.requires.pool in
    let count = c.requires.count in
    let key : ColumnKey = get_or c.as_slice-key-items.result.now c.loop-key.key-index no_key in
    omega (arith, c.loop-key.invariant.few key.class)

pub walk-requires-clause-sum_low : goal.walk-requires-clause-sum_low
walk-requires-clause-sum_low c =
    let few = sorted-few c.args.prices.now.items c.args.pool.now c.args.places.now _ _ c.in_ok-keys.ensures
    c.in_ok-sort_keys.ensures.permutation in
    let long = ap (λ (l : List ColumnKey). length l) c.as_slice-key-items.ensures.value in
    let pool = c.requires.pool in
    let count = c.requires.count in
    let low = c.loop-key.invariant.low in
    let high = c.loop-key.invariant.high in
    let test = c.loop-key-test.true in
    omega (arith, ints)

pub loop-key-preserved : goal.loop-key-preserved
loop-key-preserved c =
    let caps = c.args.caps.now in
    let k = length c.args.caps.now in
    let m = length c.args.pool.now in
    let keys : List ColumnKey = c.as_slice-key-items.result.now in
    let i = c.loop-key.key-index in
    let key : ColumnKey = get_or keys i no_key in
    let P : List ColumnKey → Type 0 = λ l. All (IsGain k m) l in
    let all : All (IsGain k m) keys =
    subst P (sym c.as_slice-key-items.ensures.value)
    (sorted-are (length c.args.prices.now.items) k c.args.prices.now.items c.args.pool.now c.args.places.now _ _ c.requires.few
    c.requires.moderate c.requires.fit c.requires.places c.in_ok-keys.ensures c.in_ok-sort_keys.ensures.permutation) in
    let here : IsGain k m key = All-get_or (IsGain k m) keys i no_key c.loop-key-test.true all in
    let below = here.below in
    let least = here.low in
    let low = c.loop-key.invariant.low in
    let high = c.loop-key.invariant.high in
    let sum = c.in_ok-walk.ensures.sum in
    let room = has_room caps c.loop-key.counts key in
    let part_low : neg_ℤ (pos 30000000000000000) ≤ℤ cond room key.value (pos 0) =
    elim room as (λ b. neg_ℤ (pos 30000000000000000) ≤ℤ cond b key.value (pos 0)) [ true ↦ least | false ↦ omega (arith, ints) ] in
    let part_high : cond room key.value (pos 0) ≤ℤ pos 0 =
    elim room as (λ b. cond b key.value (pos 0) ≤ℤ pos 0) [ true ↦ omega (arith, ints) | false ↦ omega (arith, ints) ] in
    record {
      order = omega arith;
      counts = seen-length c.loop-key.counts c.walk.new.counts key c.in_ok-walk.ensures.counts ∙ c.loop-key.invariant.counts;
      few = seen-few c.loop-key.counts c.walk.new.counts key i c.in_ok-walk.ensures.counts c.loop-key.invariant.few;
      asked = ap (λ (l : List ℤ). length l) c.in_ok-walk.ensures.class_prices
          ∙ (next-length (is_next caps c.loop-key.counts key) c.loop-key.choice.class_prices key.class (neg_ℤ key.value)
          ∙ c.loop-key.invariant.asked);
      places = c.loop-key.invariant.places ∙ places-more caps c.loop-key.counts c.walk.new.counts keys i c.loop-key.choice.places
          c.walk.new.choice.places c.loop-key-test.true c.in_ok-walk.ensures.counts c.in_ok-walk.ensures.places;
      sum = c.loop-key.invariant.sum ∙ sum-more caps c.loop-key.counts c.walk.new.counts keys i c.loop-key.choice.sum c.walk.new.choice.sum
          c.loop-key-test.true c.in_ok-walk.ensures.counts c.in_ok-walk.ensures.sum;
      class_prices = c.loop-key.invariant.class_prices
          ∙ prices-more caps c.loop-key.counts c.walk.new.counts keys i c.loop-key.choice.class_prices c.walk.new.choice.class_prices
          c.loop-key-test.true c.in_ok-walk.ensures.counts c.in_ok-walk.ensures.class_prices;
      low = omega (arith, ints);
      high = omega (arith, ints);
    }

pub returns : goal.returns
returns c =
    let caps = c.args.caps.now in
    let prices = c.args.prices.now.items in
    let pool = c.args.pool.now in
    let k = length c.args.caps.now in
    let m = length c.args.pool.now in
    let keys : List ColumnKey = c.as_slice-key-items.result.now in
    let i = c.loop-key.key-index in
    let start : List ℕ = c.in_ok-counts.counts in
    let first : List ℤ = c.in_ok-zero_numbers.field-0 in
    let same : keys ≡ c.sort_keys.new.keys.items = c.as_slice-key-items.ensures.value in
    let P : List ColumnKey → Type 0 = λ l. All (IsGain k m) l in
    let all : All (IsGain k m) keys =
    subst P (sym same) (sorted-are (length prices) k prices pool c.args.places.now _ _ c.requires.few c.requires.moderate c.requires.fit
    c.requires.places c.in_ok-keys.ensures c.in_ok-sort_keys.ensures.permutation) in
    let few = sorted-few prices pool c.args.places.now _ _ c.in_ok-keys.ensures c.in_ok-sort_keys.ensures.permutation in
    let long = ap (λ (l : List ColumnKey). length l) same in
    let end : length keys ≤ i = omega arith in
    let order = c.loop-key.invariant.order in
    let low = c.loop-key.invariant.low in
    let places : c.loop-key.choice.places ≡ chosen_places caps start keys =
    places-end caps start c.loop-key.counts keys i c.loop-key.choice.places end c.loop-key.invariant.places in
    let sum : c.loop-key.choice.sum ≡ chosen_sum caps start keys =
    sum-end caps start c.loop-key.counts keys i c.loop-key.choice.sum end c.loop-key.invariant.sum in
    let asked : c.loop-key.choice.class_prices ≡ priced_classes caps start keys first =
    prices-end caps start c.loop-key.counts keys i first c.loop-key.choice.class_prices end c.loop-key.invariant.class_prices in
    let Q : List ColumnKey → Type 0 = λ l. IsPermutation l c.sort_keys.new.keys.items in
    let R : List ColumnKey → Type 0 = λ l. IsPermutation (gains_at prices pool c.args.places.now) l in
    let S : List ColumnKey → Type 0 = λ l. IsSortedBy is_before l in
    let T : List ℕ → Type 0 = λ l. AllBelow m l in
    let U : List ℤ → Type 0 = λ l. AreAsked l in
    let long_places = ap (λ (l : List ℕ). length l) places in
    let count = c.requires.count in
    let most = places-few caps start keys in
    record {
      choice = record {
        keys = keys;
        all = subst R (sym same) (subst Q c.in_ok-keys.ensures c.in_ok-sort_keys.ensures.permutation);
        sorted = subst S (sym same) c.in_ok-sort_keys.ensures.sorted;
        counts = start;
        zero = c.in_ok-counts.ensures;
        asked = first;
        none = c.in_ok-zero_numbers.ensures;
        places = places;
        sum = sum;
        class_prices = asked;
      };
      sound = record {
        below = subst T (sym places) (places-below k m caps start keys all);
        few = omega arith;
        len = c.loop-key.invariant.asked;
        asked = subst U (sym asked) (priced-asked k m caps start keys first all (zero-asked first c.in_ok-zero_numbers.ensures.1));
        low = omega (arith, ints);
        high = c.loop-key.invariant.high;
      };
    }
