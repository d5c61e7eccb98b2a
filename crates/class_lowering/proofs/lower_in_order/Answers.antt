use Rattle.std.proofs.Common.{◌≡◌, ◌≢◌, ◌<◌, ℕ, List, [], length, get_or, sym, ap, ◌∙◌, subst, arith, rules, FitsSigned, w64, to_z, of_z, to_z-of_z, IsPermutation}
use Rattle.plan_core.specs.declared.Price.{Price}
use Rattle.cover_core.specs.declared.Column.{Column}
use Rattle.cover_core.specs.Cover.{AllBelow}
use Rattle.cover_core.specs.Fitting.{AreFit}
use Rattle.cover_core.specs.Parts.{column_at}
use Rattle.cover_core.specs.Plans.{number_at}
use Rattle.cover_core.proofs.Fits.{IsFit, fit-at, AreFit-wider}
use Rattle.cover_core.proofs.Parts.{column-there}
use Rattle.column_pool.specs.Pools.{IsByValue, places_from}
use Rattle.class_lowering.specs.Lowering.{HaveItems, lowered_along, lowered_prices}
use Rattle.class_lowering.proofs.Ranges.{place-there, items-get}
use Rattle.class_lowering.proofs.Walks.{along-more, along-end}
use Rattle.class_lowering.proofs.lower_in_order.Goals as goal

pub sorted_by_value-requires-clause-fit : goal.sorted_by_value-requires-clause-fit
sorted_by_value-requires-clause-fit c =
    AreFit-wider (length c.args.prices.now.items) (length c.args.asked.now) 32 c.args.pool.now c.requires.classes c.requires.fit

pub bounds-columns-place : goal.bounds-columns-place
bounds-columns-place c =
    let n = length c.args.prices.now.items in
    let k = length c.args.asked.now in
    let pool = c.args.pool.now in
    let columns : List Column = c.as_slice-columns.result.now in
    let places : List ℕ = c.as_slice-place-items.result.now in
    let place = get_or places c.loop-place.place-index 0 in
    let P : List ℕ → Type 0 = λ l. IsPermutation (places_from (length pool) 0) l in
    let perm : IsPermutation (places_from (length pool) 0) places =
    subst P (sym c.as_slice-place-items.ensures) c.in_ok-places.ensures.each in
    let there : place < length pool = place-there (length pool) places c.loop-place.place-index perm c.loop-place-test.true in
    let same : columns ≡ pool = c.as_slice-columns.ensures.value in
    let long = ap (λ (l : List Column). length l) same in
    let inside : place < length columns = omega arith in
    inside

pub asked_at-requires-clause-inside : goal.asked_at-requires-clause-inside
asked_at-requires-clause-inside c =
    let n = length c.args.prices.now.items in
    let k = length c.args.asked.now in
    let pool = c.args.pool.now in
    let columns : List Column = c.as_slice-columns.result.now in
    let places : List ℕ = c.as_slice-place-items.result.now in
    let place = get_or places c.loop-place.place-index 0 in
    let P : List ℕ → Type 0 = λ l. IsPermutation (places_from (length pool) 0) l in
    let perm : IsPermutation (places_from (length pool) 0) places =
    subst P (sym c.as_slice-place-items.ensures) c.in_ok-places.ensures.each in
    let there : place < length pool = place-there (length pool) places c.loop-place.place-index perm c.loop-place-test.true in
    let same : columns ≡ pool = c.as_slice-columns.ensures.value in
    let long = ap (λ (l : List Column). length l) same in
    let inside : place < length columns = omega arith in
    let F : List Column → Type 0 = λ l. AreFit n k l in
    let fit : IsFit n k c.index-columns-place.result =
    fit-at n k columns place c.index-columns-place.result inside c.index-columns-place.is (subst F (sym same) c.requires.fit) in
    fit.class

pub lower_by-requires-clause-some : goal.lower_by-requires-clause-some
lower_by-requires-clause-some c =
    let n = length c.args.prices.now.items in
    let k = length c.args.asked.now in
    let pool = c.args.pool.now in
    let columns : List Column = c.as_slice-columns.result.now in
    let places : List ℕ = c.as_slice-place-items.result.now in
    let place = get_or places c.loop-place.place-index 0 in
    let P : List ℕ → Type 0 = λ l. IsPermutation (places_from (length pool) 0) l in
    let perm : IsPermutation (places_from (length pool) 0) places =
    subst P (sym c.as_slice-place-items.ensures) c.in_ok-places.ensures.each in
    let there : place < length pool = place-there (length pool) places c.loop-place.place-index perm c.loop-place-test.true in
    let same : columns ≡ pool = c.as_slice-columns.ensures.value in
    let long = ap (λ (l : List Column). length l) same in
    let inside : place < length columns = omega arith in
    let H : List Column → Type 0 = λ l. HaveItems l in
    let Q : Column → Type 0 = λ x. x.items ≢ [] in
    let some : HaveItems columns = subst H (sym same) c.requires.some in
    subst Q (sym c.index-columns-place.is) (items-get columns place c.index-columns-place.result inside some)

pub lower_by-requires-clause-rises : goal.lower_by-requires-clause-rises
lower_by-requires-clause-rises c =
    let n = length c.args.prices.now.items in
    let k = length c.args.asked.now in
    let pool = c.args.pool.now in
    let columns : List Column = c.as_slice-columns.result.now in
    let places : List ℕ = c.as_slice-place-items.result.now in
    let place = get_or places c.loop-place.place-index 0 in
    let P : List ℕ → Type 0 = λ l. IsPermutation (places_from (length pool) 0) l in
    let perm : IsPermutation (places_from (length pool) 0) places =
    subst P (sym c.as_slice-place-items.ensures) c.in_ok-places.ensures.each in
    let there : place < length pool = place-there (length pool) places c.loop-place.place-index perm c.loop-place-test.true in
    let same : columns ≡ pool = c.as_slice-columns.ensures.value in
    let long = ap (λ (l : List Column). length l) same in
    let inside : place < length columns = omega arith in
    let F : List Column → Type 0 = λ l. AreFit n k l in
    let fit : IsFit n k c.index-columns-place.result =
    fit-at n k columns place c.index-columns-place.result inside c.index-columns-place.is (subst F (sym same) c.requires.fit) in
    fit.rises

pub lower_by-requires-clause-items : goal.lower_by-requires-clause-items
lower_by-requires-clause-items c =
    let n = length c.args.prices.now.items in
    let k = length c.args.asked.now in
    let pool = c.args.pool.now in
    let columns : List Column = c.as_slice-columns.result.now in
    let places : List ℕ = c.as_slice-place-items.result.now in
    let place = get_or places c.loop-place.place-index 0 in
    let P : List ℕ → Type 0 = λ l. IsPermutation (places_from (length pool) 0) l in
    let perm : IsPermutation (places_from (length pool) 0) places =
    subst P (sym c.as_slice-place-items.ensures) c.in_ok-places.ensures.each in
    let there : place < length pool = place-there (length pool) places c.loop-place.place-index perm c.loop-place-test.true in
    let same : columns ≡ pool = c.as_slice-columns.ensures.value in
    let long = ap (λ (l : List Column). length l) same in
    let inside : place < length columns = omega arith in
    let F : List Column → Type 0 = λ l. AreFit n k l in
    let fit : IsFit n k c.index-columns-place.result =
    fit-at n k columns place c.index-columns-place.result inside c.index-columns-place.is (subst F (sym same) c.requires.fit) in
    let B : ℕ → Type 0 = λ m. AllBelow m c.index-columns-place.result.items in
    subst B (sym c.loop-place.invariant.len) fit.items

pub lower_by-requires-clause-cheap : goal.lower_by-requires-clause-cheap
lower_by-requires-clause-cheap c =
    let n = length c.args.prices.now.items in
    let k = length c.args.asked.now in
    let pool = c.args.pool.now in
    let columns : List Column = c.as_slice-columns.result.now in
    let places : List ℕ = c.as_slice-place-items.result.now in
    let place = get_or places c.loop-place.place-index 0 in
    let P : List ℕ → Type 0 = λ l. IsPermutation (places_from (length pool) 0) l in
    let perm : IsPermutation (places_from (length pool) 0) places =
    subst P (sym c.as_slice-place-items.ensures) c.in_ok-places.ensures.each in
    let there : place < length pool = place-there (length pool) places c.loop-place.place-index perm c.loop-place-test.true in
    let same : columns ≡ pool = c.as_slice-columns.ensures.value in
    let long = ap (λ (l : List Column). length l) same in
    let inside : place < length columns = omega arith in
    let F : List Column → Type 0 = λ l. AreFit n k l in
    let fit : IsFit n k c.index-columns-place.result =
    fit-at n k columns place c.index-columns-place.result inside c.index-columns-place.is (subst F (sym same) c.requires.fit) in
    fit.cheap

pub loop-place-preserved : goal.loop-place-preserved
loop-place-preserved c =
    let pool = c.args.pool.now in
    let asked = c.args.asked.now in
    let now = c.loop-place.prices.items in
    let columns : List Column = c.as_slice-columns.result.now in
    let slice : List ℕ = c.as_slice-place-items.result.now in
    let places : List ℕ = c.in_ok-places.places in
    let i = c.loop-place.place-index in
    let same : columns ≡ pool = c.as_slice-columns.ensures.value in
    let same_places : slice ≡ places = c.as_slice-place-items.ensures in
    let P : List ℕ → Type 0 = λ l. IsPermutation (places_from (length pool) 0) l in
    let perm : IsPermutation (places_from (length pool) 0) slice = subst P (sym same_places) c.in_ok-places.ensures.each in
    let place = get_or slice i 0 in
    let there : place < length pool = place-there (length pool) slice i perm c.loop-place-test.true in
    let column : Column = c.index-columns-place.result in
    let long = ap (λ (l : List Column). length l) same in
    let inside : place < length columns = omega arith in
    let is : column ≡ column_at pool place =
    column-there columns place column inside c.index-columns-place.is ∙ ap (λ (l : List Column). column_at l place) same in
    let fits : FitsSigned w64 c.asked_at.result = search rules in
    let asks : to_z w64 (of_z w64 c.asked_at.result) ≡ number_at asked column.class = to_z-of_z fits ∙ c.asked_at.ensures.value in
    let new : c.lower_by.new.prices.items ≡ lowered_prices now (column_at pool place) (number_at asked (column_at pool place).class) =
    c.lower_by.ensures.lowered ∙ ap (λ z. lowered_prices now column z) asks
    ∙ ap (λ (x : Column). lowered_prices now x (number_at asked x.class)) is in
    let goal_prices : List Price = lowered_along pool asked slice c.args.prices.now.items in
    record {
      len = c.lower_by.ensures.len ∙ c.loop-place.invariant.len;
      moderate = c.lower_by.ensures.moderate;
      along = along-more pool asked slice i now c.lower_by.new.prices.items goal_prices c.loop-place-test.true
          new c.loop-place.invariant.along;
    }

pub returns-clause-lowered : goal.returns-clause-lowered
returns-clause-lowered c =
    let pool = c.args.pool.now in
    let slice : List ℕ = c.as_slice-place-items.result.now in
    let same_places : slice ≡ c.in_ok-places.places = c.as_slice-place-items.ensures in
    let P : List ℕ → Type 0 = λ l. IsByValue c.args.prices.now.items pool l in
    record {
      places = slice;
      by_value = subst P (sym same_places) c.in_ok-places.ensures;
      is = along-end pool c.args.asked.now slice c.loop-place.place-index c.loop-place.prices.items
          (lowered_along pool c.args.asked.now slice c.args.prices.now.items) c.loop-place-test.false c.loop-place.invariant.along;
    }
