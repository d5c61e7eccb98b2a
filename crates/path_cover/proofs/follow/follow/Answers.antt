use Rattle.std.proofs.Common.{◌<◌, ℕ, List, [], ◌∷◌, ◌++◌, get_or, refl, ap, ◌∙◌, slice_index, arith}
use Rattle.path_cover.proofs.Following.{comes_home, comes_on}
use Rattle.path_cover.proofs.follow.follow.Goals as goal

pub loop-last-preserved : goal.loop-last-preserved
loop-last-preserved c =
    let inv = c.loop-last.invariant.1 in
    let next = get_or c.args.to.now c.loop-last.last 0 in
    let within : next < c.args.n = c.loop-last-test.true in (
      within,
      (
        inv.0 ++ next ∷ [],
        c.in_ok-push-2.ensures.ok ∙ ap (λ (l : List ℕ). l ++ next ∷ []) inv.1,
        comes_on c.args.n (slice_index c.args.to.now) c.args.start inv.0 c.loop-last.last next inv.2 refl within,
      ),
    )

pub returns : goal.returns
returns c =
    let inv = c.loop-last.invariant.1 in
    let most = c.requires.within c.loop-last.last c.loop-last.invariant.0 in
    let past = c.loop-last-test.false in
    (inv.0, inv.1, comes_home c.args.n (slice_index c.args.to.now) c.args.start inv.0 c.loop-last.last inv.2 (omega arith))
