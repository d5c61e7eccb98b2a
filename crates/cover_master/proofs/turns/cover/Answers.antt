use Rattle.std.proofs.Common.{◌≡◌, ◌==◌, ◌<◌, ◌+◌, ℕ, List, length, get_or, take, sym, ap, subst, arith, length-set, ◌∙◌}
use Rattle.std.specs.Prelude.{nat_lt, slice_index}
use Rattle.std.specs.List.{count_by}
use Rattle.std.proofs.Math.ListN.{set}
use Rattle.cover_master.proofs.Ranks.{no_key}
use Rattle.cover_master.proofs.Walks.{key-there, covered-more, covered-all, counted-more, few-keys, low-counts, few-more}
use Rattle.cover_master.proofs.turns.cover.Goals as goal

pub add_column-requires-clause-class : goal.add_column-requires-clause-class
add_column-requires-clause-class c =
    (key-there c.args.prices.now.items c.args.pool.now c.args.caps.now c.args.keys.now c.requires.all c.requires.sorted
    (length c.args.prices.now.items) c.loop-key.key-index c.loop-key-test.true c.requires.fit).class

pub add_column-requires-clause-place : goal.add_column-requires-clause-place
add_column-requires-clause-place c =
    (key-there c.args.prices.now.items c.args.pool.now c.args.caps.now c.args.keys.now c.requires.all c.requires.sorted
    (length c.args.prices.now.items) c.loop-key.key-index c.loop-key-test.true c.requires.fit).place

pub add_column-requires-clause-small : goal.add_column-requires-clause-small
add_column-requires-clause-small c = λ i.
    let few = few-keys c.args.prices.now.items c.args.pool.now c.args.caps.now c.args.keys.now c.requires.all c.requires.sorted in
    let pool = c.requires.pool in
    omega (arith, c.loop-key.invariant.few i, c.loop-key.invariant.order)

pub add_column-requires-clause-low : goal.add_column-requires-clause-low
add_column-requires-clause-low c = λ i.
    let few = few-keys c.args.prices.now.items c.args.pool.now c.args.caps.now c.args.keys.now c.requires.all c.requires.sorted in
    let pool = c.requires.pool in
    let low = low-counts c.args.prices.now.items c.args.pool.now c.args.caps.now c.args.keys.now c.requires.all c.requires.sorted
    c.loop-key.counts c.loop-key.key-index c.loop-key.invariant.order c.loop-key.invariant.counted i in
    omega (arith, c.loop-key.invariant.order)

pub loop-key-preserved : goal.loop-key-preserved
loop-key-preserved c =
    let prices = c.args.prices.now.items in
    let pool = c.args.pool.now in
    let caps = c.args.caps.now in
    let keys = c.args.keys.now in
    let t = c.loop-key.key-index in
    let key = get_or keys t no_key in
    let counts = c.loop-key.counts in
    let inside : t < length keys = c.loop-key-test.true in
    let there = key-there prices pool caps keys c.requires.all c.requires.sorted (length prices) t inside c.requires.fit in
    let below : key.class < length counts = (let class = there.class in omega (arith, c.loop-key.invariant.classes)) in
    let new : List ℕ = set counts key.class (get_or counts key.class 0 + 1) in
    let long : length new ≡ length counts = length-set counts key.class (get_or counts key.class 0 + 1) in
    let Counted : List ℕ → Type 0 =
    λ l. (class : ℕ) → class < length l → slice_index l class ≡ count_by (λ x. x.class == class) (take (t + 1) keys) in
    record {
      order = omega arith;
      len = c.add_column.ensures.len ∙ c.loop-key.invariant.len;
      classes = ap (λ (l : List ℕ). length l) c.add_column.ensures.counted ∙ (long ∙ c.loop-key.invariant.classes);
      counted = subst Counted (sym c.add_column.ensures.counted)
          (λ class h. counted-more prices pool caps keys c.requires.all c.requires.sorted counts t inside below
          c.loop-key.invariant.counted class (omega arith));
      covered = λ item. c.add_column.ensures.covered item
          ∙ covered-more prices pool caps keys c.requires.all c.requires.sorted item t (get_or counts key.class 0)
          (slice_index c.loop-key.cover item) inside (c.loop-key.invariant.counted key.class below) (c.loop-key.invariant.covered item);
      few = λ item. few-more prices pool caps keys c.requires.all c.requires.sorted (length prices) item t
          (slice_index c.loop-key.cover item) (slice_index c.add_column.new.cover item)
          (nat_lt (get_or counts key.class 0) (slice_index caps key.class)) inside c.requires.fit (c.loop-key.invariant.few item)
          (c.add_column.ensures.covered item);
    }

pub returns-clause-times : goal.returns-clause-times
returns-clause-times c = λ i.
    let end : c.loop-key.key-index ≡ length c.args.keys.now = omega (arith, c.loop-key.invariant.order) in
    covered-all c.args.prices.now.items c.args.pool.now c.args.caps.now c.args.keys.now c.requires.all c.requires.sorted i
    c.loop-key.key-index (slice_index c.loop-key.cover i) end (c.loop-key.invariant.covered i)

pub returns-clause-few : goal.returns-clause-few
returns-clause-few c = λ i.
    let few = few-keys c.args.prices.now.items c.args.pool.now c.args.caps.now c.args.keys.now c.requires.all c.requires.sorted in
    let pool = c.requires.pool in
    omega (arith, c.loop-key.invariant.few i, c.loop-key.invariant.order)
