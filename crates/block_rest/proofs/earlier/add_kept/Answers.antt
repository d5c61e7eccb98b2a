use Rattle.std.proofs.Common.{rules, ◌≡◌, ◌∷◌, ◌++◌, [], ℕ, ◌+◌, List, sym, ap, ◌∙◌, drop, slice_index_or}
use Rattle.cover_core.proofs.Values.{AllBelow-get}
use Rattle.block_rest.specs.Heads as spec
use Rattle.block_rest.proofs.Kept.{kept-step, kept-stop, no-more, put-last}
use Rattle.block_rest.proofs.earlier.add_kept.Goals as goal

pub ends_before-requires : goal.ends_before-requires
ends_before-requires c = c.loop-next.invariant.there

pub returns-then-not-ends_before-clause-trips : goal.returns-then-not-ends_before-clause-trips
returns-then-not-ends_before-clause-trips c =
    let stop = kept-stop c.args.day.now c.args.moment c.loop-next.last (drop c.loop-next.next-index c.args.rest.now)
    c.if-not-ends_before.ensures in
    sym (no-more c.loop-next.trips) ∙ ap (λ l. c.loop-next.trips ++ l) (sym stop) ∙ c.loop-next.invariant.trips

pub returns-then-not-ends_before-clause-last : goal.returns-then-not-ends_before-clause-last
returns-then-not-ends_before-clause-last c =
    let stop = kept-stop c.args.day.now c.args.moment c.loop-next.last (drop c.loop-next.next-index c.args.rest.now)
    c.if-not-ends_before.ensures in
    ap (spec.last_trip c.loop-next.last) (sym stop) ∙ c.loop-next.invariant.ends

pub returns-then-not-ends_before-clause-there : goal.returns-then-not-ends_before-clause-there
returns-then-not-ends_before-clause-there c = c.loop-next.invariant.there

pub loop-next-preserved : goal.loop-next-preserved
loop-next-preserved c =
    let rest : List ℕ = c.args.rest.now in
    let i : ℕ = c.loop-next.next-index in
    let u : ℕ = slice_index_or rest i 0 in
    let step = kept-step c.args.day.now c.args.moment c.loop-next.last rest i (search rules) c.if-not-ends_before.ensures in
    let pushed : c.push.new.self ≡ c.loop-next.trips ++ u ∷ [] = c.in_ok-push.ensures.ok in
    record {
      there = AllBelow-get _ c.args.rest.now c.loop-next.next-index c.requires.rest (search rules);
      trips =
          ap (λ (l : List ℕ). l ++ spec.kept_after c.args.day.now c.args.moment u (drop (i + 1) rest)) pushed
          ∙ put-last c.loop-next.trips (spec.kept_after c.args.day.now c.args.moment u (drop (i + 1) rest)) u
          ∙ ap (λ l. c.loop-next.trips ++ l) (sym step) ∙ c.loop-next.invariant.trips;
      ends = ap (spec.last_trip c.loop-next.last) (sym step) ∙ c.loop-next.invariant.ends;
    }

pub returns-clause-there : goal.returns-clause-there
returns-clause-there c = c.loop-next.invariant.there
