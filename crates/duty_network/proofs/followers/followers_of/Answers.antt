use Rattle.std.proofs.Common.{◌≡◌, ◌+◌, ℕ, List, length, sym, subst, arith}
use Rattle.std.specs.Prelude.{Some, slice_get}
use Rattle.duty_network.specs.Followers.{IsFollowed}
use Rattle.duty_network.specs.declared.followers.Follower.{Follower}
use Rattle.duty_network.proofs.Following.{longer, put-last}
use Rattle.duty_network.proofs.followers.followers_of.Goals as goal

pub loop-item-preserved : goal.loop-item-preserved
loop-item-preserved c =
    let behind = c.loop-item.behind.items in
    let own = c.in_ok-follower_of.field-0 in
    let points = c.in_ok-points.points in
    let P : ℕ → Follower → Type 0 = λ k f. IsFollowed c.args.pieces.now c.args.params.now points k f in
    let Q : List Follower → Type 0 = λ l. (k : ℕ) (f : Follower) → slice_get l k ≡ Some f → P k f in
    let N : List Follower → Type 0 = λ l. length l ≡ c.loop-item.item + 1 in
    let count = c.loop-item.invariant.count in
    let more = c.loop-item-test.true in
    let last : P (length behind) own = (let R : ℕ → Type 0 = λ n. P n own in subst R (sym count) c.in_ok-follower_of.ensures) in
    record {
      within = (omega arith);
      count = subst N (sym c.in_ok-push.ensures.items) (let size = longer behind own in omega arith);
      each = subst Q (sym c.in_ok-push.ensures.items) (put-last P behind own c.loop-item.invariant.each last);
    }
