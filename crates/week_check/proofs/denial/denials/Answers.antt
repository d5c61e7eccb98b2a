use Rattle.std.proofs.Common.{◌≡◌, arith, ap, All, List, length, sym, subst}
use Rattle.std.proofs.lemmas.List.Sorted.{All-permutation, length_permutation}
use Rattle.week_check.specs.declared.turn.Turn.{Turn}
use Rattle.week_check.specs.Duties.{IsTurn}
use Rattle.week_check.proofs.Lists.{denials_are}
use Rattle.week_check.proofs.denial.denials.Goals as goal

pub add_drivers-requires-clause-each : goal.add_drivers-requires-clause-each
add_drivers-requires-clause-each c =
    subst (λ ts. All IsTurn ts) (sym c.as_slice.ensures.value)
    (All-permutation IsTurn c.args.turns.now c.in_ok-ordered.ordered.items c.in_ok-ordered.ensures.permutation c.requires.roster.each)

pub add_drivers-requires-clause-few : goal.add_drivers-requires-clause-few
add_drivers-requires-clause-few c =
    let same : length c.as_slice.result.now ≡ length c.in_ok-ordered.ordered.items =
    ap (λ (ts : List Turn). length ts) c.as_slice.ensures.value in
    omega (
      arith,
      same,
      length_permutation c.args.turns.now c.in_ok-ordered.ordered.items c.in_ok-ordered.ensures.permutation,
      c.requires.few,
    )

pub returns : goal.returns
returns c = denials_are c.args.turns.now c.in_ok-ordered.ordered.items c.as_slice.result.now _ c.add_drivers.new.out.items
    c.put_in_order.new.found.items c.from_vec.result c.in_ok-ordered.ensures.permutation c.in_ok-ordered.ensures.sorted
    c.as_slice.ensures.value c.new-found.ensures.items c.in_ok-add_drivers.ensures c.in_ok-put_in_order.ensures.permutation
    c.in_ok-put_in_order.ensures.sorted c.from_vec.ensures
