use Rattle.std.proofs.Common.{[], ◌+◌, None, drop, ◌≡◌, ℕ, List, Some, length, sym, subst, ◌∙◌, ap, rules, slice_index_or}
use Rattle.cover_core.specs.Cover.{AllBelow}
use Rattle.cover_core.specs.Labels.{label_after}
use Rattle.depot_network.specs.Open.{opening}
use Rattle.cover_rest.specs.Rest.{written}
use Rattle.rest_labels.proofs.Stands.{body-below}
use Rattle.rest_labels.proofs.Walking.{after-body, after-none}
use Rattle.block_rest.proofs.walk.walked_on.Goals as goal

pub block_with_trips-requires-clause-rest : goal.block_with_trips-requires-clause-rest
block_with_trips-requires-clause-rest c =
    let n : ℕ = length c.args.net.now.day.trips in
    let P : List ℕ → Type 0 = AllBelow n in
    subst P (sym c.body.ensures)
    (body-below n c.args.bodies.now (slice_index_or c.args.rest.now c.loop-item.item-index 0) c.requires.bodies.below)

pub loop-item-preserved : goal.loop-item-preserved
loop-item-preserved c =
    let net = c.args.net.now in
    let w = opening net.day net.counts [] c.args.pool.now in
    record {
      fits = c.in_ok-open.ensures.fits;
      walked = c.loop-item.invariant.walked
          ∙ after-body w c.loop-item.open (Some c.in_ok-open.open) c.args.bodies.now c.args.rest.now c.loop-item.item-index (search rules)
          (c.in_ok-open.ensures.value ∙ ap (λ (l : List ℕ). label_after w (Some c.loop-item.open) l) c.body.ensures);
    }

pub returns-in_err-open-clause-value : goal.returns-in_err-open-clause-value
returns-in_err-open-clause-value c =
    let net = c.args.net.now in
    let w = opening net.day net.counts [] c.args.pool.now in
    let bs : List (List ℕ) = c.args.bodies.now in
    let none : c.from_residual.result ≡ None = search rules in
    none ∙ sym (after-none w (written bs (drop (c.loop-item.item-index + 1) c.args.rest.now)))
    ∙ sym (after-body w c.loop-item.open None bs c.args.rest.now c.loop-item.item-index (search rules)
    (c.in_err-open.ensures.value ∙ ap (λ (l : List ℕ). label_after w (Some c.loop-item.open) l) c.body.ensures))
    ∙ sym c.loop-item.invariant.walked
