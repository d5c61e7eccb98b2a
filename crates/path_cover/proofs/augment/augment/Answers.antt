use Rattle.std.proofs.Common.{◌≡◌, ◌<◌, get_or, length, ◌∙◌, arith}
use Rattle.std.proofs.lemmas.List.{get_or_default}
use Rattle.path_cover.specs.Augmenting.{IsWalkOf}
use Rattle.path_cover.proofs.WalkSteps.{frame_done, frame_more, frame_start, walk_done, walk_few, walk_in, walk_more}
use Rattle.path_cover.proofs.augment.augment.Goals as goal

pub take_out-requires-clause-few : goal.take_out-requires-clause-few
take_out-requires-clause-few g c =
    let few = walk_few (g.A.Arcs.net c.args.arcs.now) c.args.falls.now c.args.target c.args.growth.now c.loop-row.placing
    c.loop-row.hole c.loop-row.invariant.2 in
    let most = c.requires.most in
    omega arith

pub put_in-requires-clause-few : goal.put_in-requires-clause-few
put_in-requires-clause-few g c =
    let few = walk_few (g.A.Arcs.net c.args.arcs.now) c.args.falls.now c.args.target c.args.growth.now c.loop-row.placing
    c.loop-row.hole c.loop-row.invariant.2 in
    let most = c.requires.most in
    let less = c.take_out.ensures.spare in
    omega arith

pub put_in-requires-2-clause-few : goal.put_in-requires-2-clause-few
put_in-requires-2-clause-few g c =
    let few = walk_few (g.A.Arcs.net c.args.arcs.now) c.args.falls.now c.args.target c.args.growth.now c.loop-row.placing
    c.loop-row.hole c.loop-row.invariant.2 in
    let most = c.requires.most in
    omega arith

pub loop-row-preserved : goal.loop-row-preserved
loop-row-preserved g c =
    let net = g.A.Arcs.net c.args.arcs.now in
    let growth = c.args.growth.now in
    let inv = c.loop-row.invariant in
    let few = c.nodes-n.ensures.few in
    let inside = walk_in net c.args.falls.now c.args.target growth c.loop-row.placing c.loop-row.hole inv.2 in
    let row_is = inv.0 in
    let by_count = c.requires.by in
    let via_count = c.requires.via in
    let row_in : c.loop-row.row < length growth.by.items = omega (arith, inside.1) in
    let back_is : c.index-old.result.now ≡ get_or growth.by.items c.loop-row.row 0 =
    c.index-old.ensures ∙ get_or_default growth.by.items c.loop-row.row c.index-old.result.now 0 row_in in
    let walk : IsWalkOf net c.args.falls.now c.args.target growth c.put_in.new.m c.index-old.result.now =
    walk_more net (g.met.A.Arcs.rising c.args.arcs.now) c.args.falls.now c.args.target growth c.loop-row.placing c.take_out.new.m
    c.put_in.new.m 4294967295 c.loop-row.hole c.nodes-n.result c.loop-row.row c.index-old.result.now
    (omega (arith, inv.1)) inv.1 row_is back_is c.loop-row-test.true inv.2
    (c.take_out.ensures.to, c.take_out.ensures.from, c.take_out.ensures.room, c.take_out.ensures.spare)
    (c.put_in.ensures.to, c.put_in.ensures.from, c.put_in.ensures.room, c.put_in.ensures.spare) in
    let after = walk_in net c.args.falls.now c.args.target growth c.put_in.new.m c.index-old.result.now walk in
    let back_in : c.index-old.result.now < length growth.via.items = omega (arith, after.0) in (
      c.index-row-in-loop-row.ensures ∙ get_or_default growth.via.items c.index-old.result.now c.index-row-in-loop-row.result.now 0 back_in,
      inv.1,
      walk,
      frame_more net c.args.falls.now c.args.target growth c.loop-row.placing c.take_out.new.m c.put_in.new.m c.args.placing.now.to.items
          4294967295 c.loop-row.hole c.nodes-n.result c.loop-row.row c.index-old.result.now
          inv.1 row_is c.loop-row-test.true inv.2 inv.3
          (c.take_out.ensures.to, c.take_out.ensures.from, c.take_out.ensures.room, c.take_out.ensures.spare)
          (c.put_in.ensures.to, c.put_in.ensures.from, c.put_in.ensures.room, c.put_in.ensures.spare),
    )

pub loop-row-init : goal.loop-row-init
loop-row-init g c =
    let net = g.A.Arcs.net c.args.arcs.now in
    let growth = c.args.growth.now in
    let walk = c.requires.walk in
    let inside = walk_in net c.args.falls.now c.args.target growth c.args.placing.now c.args.v walk in
    let via_count = c.requires.via in
    let hole_in : c.args.v < length growth.via.items = omega (arith, inside.0) in (
      c.index-row.ensures ∙ get_or_default growth.via.items c.args.v c.index-row.result.now 0 hole_in,
      c.nodes-n.ensures.value,
      walk,
      frame_start net.nodes c.args.target c.args.placing.now.to.items,
    )

pub returns : goal.returns
returns g c =
    let inv = c.loop-row.invariant in
    let net = g.A.Arcs.net c.args.arcs.now in
    let growth = c.args.growth.now in
    let framed = frame_done net c.args.falls.now c.args.target growth c.loop-row.placing c.put_in-2.new.m c.args.placing.now.to.items
    c.loop-row.hole c.nodes-n.result c.loop-row.row
    inv.1 inv.0 c.loop-row-test.false inv.2 inv.3
    (c.put_in-2.ensures.to, c.put_in-2.ensures.from, c.put_in-2.ensures.room, c.put_in-2.ensures.spare) in
    record {
      tight = walk_done net (g.met.A.Arcs.rising c.args.arcs.now) c.args.falls.now c.args.target growth c.loop-row.placing c.put_in-2.new.m
          c.loop-row.hole c.nodes-n.result c.loop-row.row
          inv.1 inv.0 c.loop-row-test.false inv.2
          (c.put_in-2.ensures.to, c.put_in-2.ensures.from, c.put_in-2.ensures.room, c.put_in-2.ensures.spare);
      framed = framed.0;
      root = framed.1;
      within = framed.2;
    }
