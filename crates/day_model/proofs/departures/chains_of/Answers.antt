use Rattle.std.proofs.Common.{◌≡◌, ◌<◌, ◌+◌, ◌-◌, ◌∙◌, ℕ, List, ap, arith, length, rules, subst, sym, slice_set}
use Rattle.std.specs.Prelude.{slice_index, replicate}
use Rattle.day_model.specs.Begins.{AreHeads, AreNexts}
use Rattle.day_model.proofs.Following.{entry_count, entry_read, equal_entries, heads_more, heads_none, nexts_more, nexts_none}
use Rattle.day_model.proofs.departures.chains_of.Goals as goal

pub loop-place-init : goal.loop-place-init
loop-place-init c =
    let numbers = c.args.numbers.now in
    let heads = c.in_ok-heads.heads.items in
    let nexts = c.in_ok-nexts.nexts.items in
    let equal : heads ≡ replicate c.args.points (length numbers) = search (rules, c.in_ok-heads.ensures.items_if_clones_equal (λ y e. e)) in
    let long : length nexts ≡ length numbers = search rules in
    let room : length heads ≡ c.args.points = search rules in
    let all : (n : ℕ) → n < length heads → slice_index heads n ≡ length numbers =
    λ n less. (ap (λ (l : List ℕ). slice_index l n) equal ∙ equal_entries c.args.points (length numbers) n (omega (arith, less, room))) in
    record {
      within = search rules;
      room = room;
      heads = search (rules, heads_none numbers heads all);
      nexts = search (rules, nexts_none numbers nexts long);
    }

pub loop-place-preserved : goal.loop-place-preserved
loop-place-preserved c =
    let numbers = c.args.numbers.now in
    let heads = c.loop-place.heads.items in
    let nexts = c.loop-place.nexts.items in
    let i = c.loop-place.invariant in
    let k : ℕ = c.loop-place.place - 1 in
    let same : c.loop-place.place ≡ k + 1 = omega (arith, c.loop-place-test.true) in
    let there : k < length numbers = omega (arith, same, i.within) in
    let read = entry_read numbers k 0 there in
    let less : slice_index numbers k < length heads = (let below = c.requires.below k there in omega (arith, below, i.room)) in
    let next : c.index.result.now ≡ slice_index heads (slice_index numbers k) =
    (let own = entry_read heads (slice_index numbers k) c.index.result.now less in search (rules, read, own)) in
    let Heads : ℕ → Type 0 = λ n. AreHeads numbers heads n in
    let Nexts : ℕ → Type 0 = λ n. AreNexts numbers nexts n in
    let At : ℕ → Type 0 = λ n. AreHeads numbers (slice_set heads n k) k in
    let old = subst Heads same i.heads in
    record {
      within = omega (arith, i.within);
      room = entry_count heads _ k ∙ i.room;
      heads = subst At (sym read) (heads_more numbers heads k there less old);
      nexts = nexts_more numbers nexts heads k c.index.result.now there less next old (subst Nexts same i.nexts);
    }

pub returns-clause-room : goal.returns-clause-room
returns-clause-room c = search (rules, c.loop-place.invariant.room)

pub returns-clause-firsts : goal.returns-clause-firsts
returns-clause-firsts c =
    let end : c.loop-place.place ≡ 0 = omega (arith, c.loop-place-test.false) in
    let P : ℕ → Type 0 = λ n. AreHeads c.args.numbers.now c.loop-place.heads.items n in
    search (rules, subst P end c.loop-place.invariant.heads)

pub returns-clause-nexts : goal.returns-clause-nexts
returns-clause-nexts c =
    let end : c.loop-place.place ≡ 0 = omega (arith, c.loop-place-test.false) in
    let P : ℕ → Type 0 = λ n. AreNexts c.args.numbers.now c.loop-place.nexts.items n in
    search (rules, subst P end c.loop-place.invariant.nexts)
