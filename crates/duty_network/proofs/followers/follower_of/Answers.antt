use Rattle.std.proofs.Common.{◌≡◌, ◌∙◌, ◌+◌, ◌-◌, ℕ, cond, List, length, set, refl, sym, subst, arith}
use Rattle.duty_network.specs.Followers.{AreFirstBehind, entry_at, facts}
use Rattle.duty_network.proofs.Entries.{count-replicate, entry-read}
use Rattle.duty_network.proofs.Following.{more-behind, noted-count, none-behind}
use Rattle.duty_network.proofs.followers.follower_of.Goals as goal

pub index-requires : goal.index-requires
index-requires c =
    let count = c.requires.points.each.count in
    let within = c.loop-next.invariant.within in
    let more = c.loop-next-test.true in
    omega arith

pub note-requires : goal.note-requires
note-requires c =
    let next = c.loop-next.next - 1 in
    let count = c.requires.points.each.count in
    let within = c.loop-next.invariant.within in
    let more = c.loop-next-test.true in
    let is = c.index.ensures ∙ entry-read c.args.points.now.numbers.items next c.index.result.now (omega arith) in
    let below = c.requires.points.below next (omega arith) in
    let size = c.loop-next.invariant.near_count in
    omega arith

pub note-requires-in-loop-next : goal.note-requires-in-loop-next
note-requires-in-loop-next c =
    let next = c.loop-next.next - 1 in
    let count = c.requires.points.each.count in
    let within = c.loop-next.invariant.within in
    let more = c.loop-next-test.true in
    let is = c.index.ensures ∙ entry-read c.args.points.now.numbers.items next c.index.result.now (omega arith) in
    let below = c.requires.points.below next (omega arith) in
    let size = c.loop-next.invariant.far_count in
    omega arith

pub loop-next-init : goal.loop-next-init
loop-next-init c =
    let there = c.requires.item in
    let near_put = c.in_ok-near.ensures.items_if_clones_equal (λ y e. e) in
    let far_put = c.in_ok-far.ensures.items_if_clones_equal (λ y e. e) in
    let P : List ℕ → Type 0 = λ l. length l ≡ c.args.points.now.kinds in
    record {
      within = (omega arith);
      from = (omega arith);
      near_count = subst P (sym near_put) (count-replicate c.args.points.now.kinds (length c.args.pieces.now));
      far_count = subst P (sym far_put) (count-replicate c.args.points.now.kinds (length c.args.pieces.now));
      near = none-behind (facts c.args.pieces.now c.args.params.now) c.args.points.now.numbers.items c.in_ok-near.near.items c.args.item
          c.direct_from-direct.result 0 c.args.points.now.kinds
          (length c.args.pieces.now) near_put refl there;
      far = none-behind (facts c.args.pieces.now c.args.params.now) c.args.points.now.numbers.items c.in_ok-far.far.items c.args.item
          c.direct_from-direct.result 10800 c.args.points.now.kinds
          (length c.args.pieces.now) far_put refl there;
    }

pub loop-next-preserved : goal.loop-next-preserved
loop-next-preserved c =
    let next = c.loop-next.next - 1 in
    let d = facts c.args.pieces.now c.args.params.now in
    let numbers = c.args.points.now.numbers.items in
    let direct = c.direct_from-direct.result in
    let near = c.loop-next.near.items in
    let far = c.loop-next.far.items in
    let count = c.requires.points.each.count in
    let within = c.loop-next.invariant.within in
    let from = c.loop-next.invariant.from in
    let more = c.loop-next-test.true in
    let one : c.loop-next.next ≡ next + 1 = omega arith in
    let is : c.index.result.now ≡ entry_at numbers next = c.index.ensures ∙ entry-read numbers next c.index.result.now (omega arith) in
    let below = c.requires.points.below next (omega arith) in
    let near_size = c.loop-next.invariant.near_count in
    let far_size = c.loop-next.invariant.far_count in
    let P : ℕ → Type 0 = λ n. AreFirstBehind d numbers c.args.item direct 0 n near in
    let Q : ℕ → Type 0 = λ n. AreFirstBehind d numbers c.args.item direct 10800 n far in
    let near_new : c.note.new.list.items ≡ cond c.is_at_least.result (set near (entry_at numbers next) next) near =
    (let R : ℕ → Type 0 = λ n. c.note.new.list.items ≡ cond c.is_at_least.result (set near n next) near in subst R is c.note.ensures) in
    let far_new : c.note-in-loop-next.new.list.items ≡ cond c.is_at_least-in-loop-next.result (set far (entry_at numbers next) next) far =
    (let R : ℕ → Type 0 = λ n. c.note-in-loop-next.new.list.items ≡ cond c.is_at_least-in-loop-next.result (set far n next) far in
    subst R is c.note-in-loop-next.ensures) in
    let L : List ℕ → Type 0 = λ l. length l ≡ c.args.points.now.kinds in
    let A : List ℕ → Type 0 = λ l. AreFirstBehind d numbers c.args.item direct 0 next l in
    let B : List ℕ → Type 0 = λ l. AreFirstBehind d numbers c.args.item direct 10800 next l in
    record {
      within = (omega arith);
      from = (omega arith);
      near_count = subst L (sym near_new) (noted-count c.is_at_least.result near (entry_at numbers next) next ∙ near_size);
      far_count = subst L (sym far_new) (noted-count c.is_at_least-in-loop-next.result far (entry_at numbers next) next ∙ far_size);
      near = subst A (sym near_new) (more-behind c.is_at_least.result d numbers near c.args.item direct 0 next (omega arith) (omega arith)
          (λ time apart is_time enough. c.is_at_least.ensures time (c.pause_apart-time.ensures apart ∙ is_time) enough)
          (subst P one c.loop-next.invariant.near));
      far = subst B (sym far_new)
          (more-behind c.is_at_least-in-loop-next.result d numbers far c.args.item direct 10800 next (omega arith) (omega arith)
          (λ time apart is_time enough. c.is_at_least-in-loop-next.ensures time (c.pause_apart-time.ensures apart ∙ is_time) enough)
          (subst Q one c.loop-next.invariant.far));
    }

pub returns : goal.returns
returns c =
    let d = facts c.args.pieces.now c.args.params.now in
    let numbers = c.args.points.now.numbers.items in
    let direct = c.direct_from-direct.result in
    let from = c.loop-next.invariant.from in
    let past = c.loop-next-test.false in
    let ended : c.loop-next.next ≡ c.args.item + 1 = omega arith in
    let P : ℕ → Type 0 = λ n. AreFirstBehind d numbers c.args.item direct 0 n c.loop-next.near.items in
    let Q : ℕ → Type 0 = λ n. AreFirstBehind d numbers c.args.item direct 10800 n c.loop-next.far.items in
    record {
      near_count = c.loop-next.invariant.near_count;
      far_count = c.loop-next.invariant.far_count;
      direct = c.direct_from-direct.ensures;
      near = subst P ended c.loop-next.invariant.near;
      far = subst Q ended c.loop-next.invariant.far;
    }
