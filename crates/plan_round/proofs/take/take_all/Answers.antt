use Rattle.std.proofs.Common.{◌≡◌, ◌<◌, ◌+◌, List, length, get_or, drop, sym, ap, ◌∙◌, subst, arith}
use Rattle.cover_core.specs.declared.Column.{Column}
use Rattle.cover_core.specs.Plans.{IsColumn}
use Rattle.cover_core.specs.Parts.{column_at}
use Rattle.cover_core.proofs.Parts.{AreColumns-get, column-there}
use Rattle.cover_core.proofs.Values.{AllBelow-get, AreCheap-get}
use Rattle.plan_round.specs.Rounding.{taken, with_taken, picked}
use Rattle.plan_round.proofs.Takes.{taken-more}
use Rattle.plan_round.proofs.take.take_all.Goals as goal

pub bounds-pool-place : goal.bounds-pool-place
bounds-pool-place g c = AllBelow-get _ c.args.places.now c.loop-place.place-index c.requires.places c.loop-place-test.true

pub take_column-requires-clause-column : goal.take_column-requires-clause-column
take_column-requires-clause-column g c =
    let p = g.C.Columns.problem c.args.columns.now in
    let column = c.index-pool-place.result in
    let place = get_or c.args.places.now c.loop-place.place-index 0 in
    let inside : place < length c.args.pool.now =
    AllBelow-get _ c.args.places.now c.loop-place.place-index c.requires.places c.loop-place-test.true in
    subst (IsColumn p) (sym c.index-pool-place.is) (AreColumns-get p c.args.pool.now place column inside c.requires.pool)

pub take_column-requires-clause-worth : goal.take_column-requires-clause-worth
take_column-requires-clause-worth g c =
    let column = c.index-pool-place.result in
    let place = get_or c.args.places.now c.loop-place.place-index 0 in
    let inside : place < length c.args.pool.now =
    AllBelow-get _ c.args.places.now c.loop-place.place-index c.requires.places c.loop-place-test.true in
    let same = ap (λ (x : Column). x.worth) c.index-pool-place.is in
    omega (arith, AreCheap-get c.args.pool.now place column c.requires.worths inside)

pub loop-place-preserved : goal.loop-place-preserved
loop-place-preserved g c =
    let p = g.C.Columns.problem c.args.columns.now in
    let pool = c.args.pool.now in
    let places = c.args.places.now in
    let t = c.loop-place.place-index in
    let columns = c.loop-place.draft.columns in
    let place = get_or places t 0 in
    let inside : place < length pool = AllBelow-get _ places t c.requires.places c.loop-place-test.true in
    let rest : List Column = picked pool (drop (t + 1) places) in
    let column : c.index-pool-place.result ≡ column_at pool place =
    column-there pool place c.index-pool-place.result inside c.index-pool-place.is in
    let new : c.take_column.new.draft.columns ≡ with_taken p columns (column_at pool place) =
    c.in_ok-take_column.ensures.taken ∙ ap (with_taken p columns) column in
    record {
      taken = ap (λ (l : List Column). taken p l rest) new ∙ sym (taken-more p pool columns places t c.loop-place-test.true)
          ∙ c.loop-place.invariant.taken;
      cheap = c.in_ok-take_column.ensures.cheap;
      sized = c.in_ok-take_column.ensures.sized ∙ c.loop-place.invariant.sized;
      counted = c.in_ok-take_column.ensures.counted;
      items = c.in_ok-take_column.ensures.items ∙ c.loop-place.invariant.items;
      free = c.in_ok-take_column.ensures.free;
    }
