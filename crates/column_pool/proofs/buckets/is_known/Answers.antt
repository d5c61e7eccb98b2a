use Rattle.std.proofs.Common.{◌≡◌, ◌∙◌, ◌<◌, ◌-◌, ℕ, false, suc, length, take, get_or, sym, ap, arith}
use Rattle.std.proofs.lemmas.List.{length-take-le}
use Rattle.cover_core.specs.declared.Column.{Column}
use Rattle.cover_core.specs.Parts.{column_at}
use Rattle.column_pool.specs.Pools.{is_same, is_known}
use Rattle.column_pool.specs.Buckets.{bucket_in, last_in}
use Rattle.column_pool.proofs.Chains.{last_in-le, last_in-bucket, is_known-last, is_known-step, column_at-any, column_at-take}
use Rattle.column_pool.proofs.buckets.is_known.Goals as goal

pub loop-place-init : goal.loop-place-init
loop-place-init c =
    let column = c.args.column.now in
    let cs = c.args.columns.now in
    let low = last_in-le (bucket_in column) cs in
    let head = c.requires.head in
    record {
      bound = omega arith;
      here = λ k e. last_in-bucket (bucket_in column) cs k (sym head ∙ e);
      rest = is_known-last column cs ∙ ap (λ n. is_known (take n cs) column) (sym head);
    }

pub loop-place-smaller : goal.loop-place-smaller
loop-place-smaller c =
    let cs = c.args.columns.now in
    let at = c.loop-place.place - 1 in
    let inside : at < length cs = (let some = c.loop-place-test.true in omega (arith, c.loop-place.invariant.bound)) in
    let next = c.requires.chained at inside in
    let low = last_in-le (bucket_in (column_at cs at)) (take at cs) in
    let long = length-take-le at cs (omega arith) in
    let some = c.loop-place-test.true in
    omega arith

pub loop-place-preserved : goal.loop-place-preserved
loop-place-preserved c =
    let column = c.args.column.now in
    let cs = c.args.columns.now in
    let at = c.loop-place.place - 1 in
    let next : ℕ = get_or c.args.earlier.now at 0 in
    let some = c.loop-place-test.true in
    let inside : at < length cs = omega (arith, c.loop-place.invariant.bound) in
    let whole : c.loop-place.place ≡ suc at = omega arith in
    let here : bucket_in (column_at cs at) ≡ bucket_in column = c.loop-place.invariant.here at whole in
    let is : next ≡ last_in (bucket_in (column_at cs at)) (take at cs) = c.requires.chained at inside in
    let in_bucket : next ≡ last_in (bucket_in column) (take at cs) = is ∙ ap (λ b. last_in b (take at cs)) here in
    let low = last_in-le (bucket_in (column_at cs at)) (take at cs) in
    let long = length-take-le at cs (omega arith) in
    let shown : c.index-columns-at.result ≡ column_at cs at =
    c.index-columns-at.is ∙ column_at-any cs at c.index-columns-at.result inside in
    let other : is_same column (column_at cs at) ≡ false =
    ap (λ (d : Column). is_same column d) (sym shown) ∙ sym c.is_same.ensures ∙ c.if-is_same.false in
    record {
      bound = omega arith;
      here = λ k e.
          let below : k < at = omega arith in
          ap bucket_in (sym (column_at-take cs at k below)) ∙ last_in-bucket (bucket_in column) (take at cs) k (sym in_bucket ∙ e);
      rest = c.loop-place.invariant.rest ∙ ap (λ n. is_known (take n cs) column) whole
          ∙ is_known-step column cs at next inside here other is;
    }
