use Rattle.std.proofs.Common.{◌≡◌, ℕ, ◌<◌, Bool, false, None, List, Option, length, cond, get_or, set, subst, ◌∙◌, arith}
use Rattle.path_cover.specs.Scans.{offer_of, takes}
use Rattle.path_cover.proofs.Scanning.{scan_more}
use Rattle.path_cover.proofs.growth.scan.Goals as goal

pub loop-v-preserved : goal.loop-v-preserved
loop-v-preserved g c =
    let net = g.A.Arcs.net c.args.arcs.now in
    let first = c.args.growth.now in
    let before = c.loop-v.growth in
    let after = c.offer.new.growth in
    let inv = c.loop-v.invariant in
    let v = c.loop-v.v in
    let x = c.args.x in
    let with_columns : List Bool → ℕ → Option ℕ =
    λ columns v. offer_of (get_or columns v false) (net.arc x v) (get_or c.args.falls.now.heads.items v 0)
    (get_or c.args.falls.now.tails.items x 0) in
    let least : after.least.items ≡ cond (takes (get_or before.least.items v None) (with_columns first.columns.items v))
    (set before.least.items v (with_columns first.columns.items v)) before.least.items =
    subst (λ (columns : List Bool). after.least.items ≡ cond (takes (get_or before.least.items v None) (with_columns columns v))
    (set before.least.items v (with_columns columns v)) before.least.items) inv.1 c.offer.ensures.least in
    let via : after.via.items ≡ cond (takes (get_or before.least.items v None) (with_columns first.columns.items v))
    (set before.via.items v x) before.via.items =
    subst (λ (columns : List Bool). after.via.items ≡ cond (takes (get_or before.least.items v None) (with_columns columns v))
    (set before.via.items v x) before.via.items) inv.1 c.offer.ensures.via in
    let o_in : v < length first.least.items = omega (arith, c.requires.least) in
    let v_in : v < length first.via.items = omega (arith, c.requires.via) in (
      c.offer.ensures.rows ∙ inv.0,
      c.offer.ensures.columns ∙ inv.1,
      c.offer.ensures.by ∙ inv.2,
      c.offer.ensures.depth ∙ inv.3,
      scan_more v x (with_columns first.columns.items) first.least.items before.least.items after.least.items first.via.items
          before.via.items after.via.items o_in v_in inv.4 least via,
    )
