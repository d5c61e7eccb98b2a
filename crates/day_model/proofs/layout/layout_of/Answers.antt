use Rattle.std.proofs.Common.{◌≡◌, ◌∙◌, ◌<◌, ℕ, List, ap, length, map, rules, subst, sym}
use Rattle.plan_params.specs.declared.rows.pool.Pool.{Pool}
use Rattle.std.specs.Prelude.{slice_index}
use Rattle.plan_core.specs.declared.types.Point.{Point}
use Rattle.day_model.proofs.Laid.{laid_out, numbers_below}
use Rattle.day_model.proofs.layout.layout_of.Goals as goal

pub returns : goal.returns
returns c =
    let chains_room : length c.in_ok-chains.chains.firsts ≡ length c.in_ok-begins.begins.points =
    search (rules, c.in_ok-chains.ensures.room) in
    laid_out c.args.trips.now c.args.params.now c.args.deads.now c.in_ok-begins.begins c.in_ok-ends.ends c.in_ok-chains.chains.firsts
    c.in_ok-chains.chains.nexts c.in_ok-minutes.minutes c.in_ok-between.between c.in_ok-outward.outward c.in_ok-inward.inward
    c.in_ok-admitted.admitted c.in_ok-relieved.relieved
    c.as_slice.result.now c.as_slice-2.result.now c.as_slice-depots.result.now c.as_slice-from.result.now c.as_slice-to.result.now
    (c.as_slice.ensures.value ∙ c.in_ok-firsts.ensures)
    (c.as_slice-2.ensures.value ∙ c.in_ok-lasts.ensures)
    (c.as_slice-depots.ensures.value ∙ c.in_ok-places.ensures
    ∙ ap (λ (pools : List Pool). map (λ (pool : Pool). pool.depot) pools) c.pools.ensures.rows)
    c.as_slice-from.ensures c.as_slice-to.ensures
    c.in_ok-begins.ensures c.in_ok-ends.ensures c.in_ok-between.ensures c.in_ok-outward.ensures c.in_ok-inward.ensures
    c.in_ok-admitted.ensures c.in_ok-relieved.ensures
    chains_room (search (rules, c.in_ok-chains.ensures.firsts)) (search (rules, c.in_ok-chains.ensures.nexts)) c.in_ok-minutes.ensures

pub chains_of-requires-clause-below : goal.chains_of-requires-clause-below
chains_of-requires-clause-below c =
    let begins = c.in_ok-begins.begins in
    let P : List ℕ → Type 0 = λ l. (i : ℕ) → i < length l → slice_index l i < length c.as_slice-from.result.now in
    let Q : List Point → Type 0 = λ l. (i : ℕ) → i < length begins.numbers → slice_index begins.numbers i < length l in
    subst P (sym c.as_slice-3.ensures)
    (subst Q (sym c.as_slice-from.ensures) (numbers_below c.as_slice.result.now begins c.in_ok-begins.ensures))
