use Rattle.std.proofs.Common.{◌≡◌, ℕ, ℤ, pos, [], ◌∷◌, ◌<ℤ◌, ◌+◌, ◌++◌, drop, get_or, length, refl, sym, subst, arith, Vec, Global, ◌∙◌, rules, w64, FitsSigned}
use Rattle.std.proofs.lemmas.Int.{ints, to_z-of_z}
use Rattle.std.proofs.lemmas.Option.{slice_get_read}
use Rattle.cover_core.proofs.Fits.{fit-at}
use Rattle.cover_core.proofs.Values.{AllBelow-get}
use Rattle.cover_core.specs.declared.Column.{Column}
use Rattle.cover_core.specs.FirstLeast.{value}
use Rattle.cover_core.specs.declared.column_keys.ColumnKey.{ColumnKey}
use Rattle.lagrangian_climb.specs.Choices.{gains_at}
use Rattle.lagrangian_climb.proofs.InPlay.{gains-left, gains-taken}
use Rattle.lagrangian_climb.proofs.choosing.gains.Goals as goal
use Rattle.lagrangian_climb.proofs.choosing.gains.Goals.{then-value-lt0+in-Ok, else-value-lt0}

abbrev Keys : Type 0
Keys = Vec ColumnKey Global

abbrev key_of : Column → ℤ → ℕ → ColumnKey
key_of c v place = record { class = c.class; value = v; place = place }

pub bounds-pool-place : goal.bounds-pool-place
bounds-pool-place c = AllBelow-get (length c.args.pool.now) c.args.places.now c.loop-place.place-index
    c.requires.places c.loop-place-test.true

pub value-value-requires-clause-rises : goal.value-value-requires-clause-rises
value-value-requires-clause-rises c =
    let there = AllBelow-get (length c.args.pool.now) c.args.places.now c.loop-place.place-index c.requires.places c.loop-place-test.true in
    (fit-at (length c.args.prices.now.items) 32 c.args.pool.now (get_or c.args.places.now c.loop-place.place-index 0)
    c.index-pool-place.result there c.index-pool-place.is c.requires.fit).rises

pub value-value-requires-clause-items : goal.value-value-requires-clause-items
value-value-requires-clause-items c =
    let there = AllBelow-get (length c.args.pool.now) c.args.places.now c.loop-place.place-index c.requires.places c.loop-place-test.true in
    (fit-at (length c.args.prices.now.items) 32 c.args.pool.now (get_or c.args.places.now c.loop-place.place-index 0)
    c.index-pool-place.result there c.index-pool-place.is c.requires.fit).items

pub value-value-requires-clause-cheap : goal.value-value-requires-clause-cheap
value-value-requires-clause-cheap c =
    let there = AllBelow-get (length c.args.pool.now) c.args.places.now c.loop-place.place-index c.requires.places c.loop-place-test.true in
    (fit-at (length c.args.prices.now.items) 32 c.args.pool.now (get_or c.args.places.now c.loop-place.place-index 0)
    c.index-pool-place.result there c.index-pool-place.is c.requires.fit).cheap

pub loop-place-preserved : goal.loop-place-preserved
loop-place-preserved c =
    let pool = c.args.pool.now in
    let places = c.args.places.now in
    let i = c.loop-place.place-index in
    let there = AllBelow-get (length pool) places i c.requires.places c.loop-place-test.true in
    let at = slice_get_read pool (length pool) (get_or places i 0) c.index-pool-place.result refl there c.index-pool-place.is in
    let prices = c.args.prices.now.items in
    let column = c.index-pool-place.result in
    elim c.if-value-lt0.branch [
      | then-value-lt0+in-Ok w ↦
          let test = w.if-value-lt0.true in
          let size = c.value-value.type_inv in
          let negative : c.value-value.result <ℤ pos 0 = omega (arith, ints) in
          let below : value prices column <ℤ pos 0 = subst (λ v. v <ℤ pos 0) c.value-value.ensures negative in
          let fits : FitsSigned w64 c.value-value.result = search rules in
          let pushed : w.push.new.self.items ≡ c.loop-place.keys.items ++ key_of column (value prices column) (get_or places i 0) ∷ [] =
          subst (λ v. w.push.new.self.items ≡ c.loop-place.keys.items ++ key_of column v (get_or places i 0) ∷ [])
          (to_z-of_z w64 c.value-value.result fits ∙ c.value-value.ensures) w.in-Ok.ensures.items in
          subst (λ (v : Keys). gains_at prices pool places ≡ v.items ++ gains_at prices pool (drop (i + 1) places)) (sym w.keys-is)
          (gains-taken prices pool places i column (gains_at prices pool places) c.loop-place.keys.items w.push.new.self.items
          c.loop-place-test.true at below pushed c.loop-place.invariant)
      | else-value-lt0 w ↦
          let test = w.if-value-lt0.false in
          let size = c.value-value.type_inv in
          let above : value prices column <ℤ pos 0 → ⊥ =
          λ b. (let negative : c.value-value.result <ℤ pos 0 = subst (λ v. v <ℤ pos 0) (sym c.value-value.ensures) b in
          absurd (omega (arith, ints))) in
          subst (λ (v : Keys). gains_at prices pool places ≡ v.items ++ gains_at prices pool (drop (i + 1) places)) (sym w.keys-is)
          (gains-left prices pool places i column (gains_at prices pool places) c.loop-place.keys.items c.loop-place-test.true at above
          c.loop-place.invariant)
    ]
