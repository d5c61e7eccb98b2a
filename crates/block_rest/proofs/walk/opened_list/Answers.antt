use Rattle.std.proofs.Common.{◌≡◌, ◌<◌, ◌≤◌, ◌-◌, take, [], ℕ, List, None, Some, length, drop, sym, subst, ap, ◌∙◌, rules, slice_index_or}
use Rattle.cover_core.specs.Cover.{AllBelow}
use Rattle.cover_core.specs.Labels.{label_after, label_of}
use Rattle.cover_core.proofs.Values.{AllBelow-get}
use Rattle.depot_network.specs.Open.{opening}
use Rattle.cover_rest.specs.Rest.{written}
use Rattle.rest_labels.proofs.Stands.{body-below}
use Rattle.rest_labels.proofs.Walking.{after-none, first-walked, take-rest}
use Rattle.block_rest.proofs.walk.opened_list.Goals as goal

pub block_of_trips-requires-clause-list : goal.block_of_trips-requires-clause-list
block_of_trips-requires-clause-list c =
    let P : List ℕ → Type 0 = AllBelow (length c.args.net.now.day.trips) in
    subst P (sym c.body.ensures)
    (body-below (length c.args.net.now.day.trips) c.args.bodies.now (slice_index_or c.args.list.now 0 0) c.requires.bodies.below)

pub returns-in_err-first-in-len1-up-clause-value : goal.returns-in_err-first-in-len1-up-clause-value
returns-in_err-first-in-len1-up-clause-value c =
    let net = c.args.net.now in
    let w = opening net.day net.counts [] c.args.pool.now in
    let bs : List (List ℕ) = c.args.bodies.now in
    let list : List ℕ = c.args.list.now in
    let x : ℕ = slice_index_or list 0 0 in
    let some : 1 ≤ length list = search rules in
    let there : x < length bs = AllBelow-get (length bs) list 0 c.requires.list (search rules) in
    let none : c.from_residual.result ≡ None = search rules in
    none ∙ sym (after-none w (written bs (drop 1 list)))
    ∙ sym (first-walked w None bs list some (c.requires.bodies.some x there)
    (c.in_err-first-in-len1-up.ensures.value ∙ ap (λ (l : List ℕ). label_of w l) c.body.ensures))

pub returns-in_ok-first-in-len1-up-clause-value : goal.returns-in_ok-first-in-len1-up-clause-value
returns-in_ok-first-in-len1-up-clause-value c =
    let net = c.args.net.now in
    let w = opening net.day net.counts [] c.args.pool.now in
    let bs : List (List ℕ) = c.args.bodies.now in
    let list : List ℕ = c.args.list.now in
    let x : ℕ = slice_index_or list 0 0 in
    let some : 1 ≤ length list = search rules in
    let there : x < length bs = AllBelow-get (length bs) list 0 c.requires.list (search rules) in
    let rest : take (length list - 1) (drop 1 list) ≡ drop 1 list = take-rest list in
    c.walked_on.ensures.value
    ∙ ap (λ (l : List ℕ). label_after w (Some c.in_ok-first-in-len1-up.first) (written bs l)) rest
    ∙ sym (first-walked w (Some c.in_ok-first-in-len1-up.first) bs list some (c.requires.bodies.some x there)
    (c.in_ok-first-in-len1-up.ensures.value ∙ ap (λ (l : List ℕ). label_of w l) c.body.ensures))
