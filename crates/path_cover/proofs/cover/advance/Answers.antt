use Rattle.std.proofs.Common.{◌≡◌, ◌+◌, ◌≤◌, ℕ, get_or, sym, ap, subst, ◌∙◌, arith}
use Rattle.std.proofs.lemmas.List.{get_or_default}
use Rattle.path_cover.specs.declared.growth.Falls.{Falls}
use Rattle.path_cover.specs.declared.growth.Target.{Target}
use Rattle.path_cover.specs.declared.placing.Placing.{Placing}
use Rattle.path_cover.specs.Nets.{successor}
use Rattle.path_cover.specs.Searching.{IsSeated}
use Rattle.path_cover.proofs.Earliest.{stuck_first}
use Rattle.path_cover.proofs.Freed.{freed, freed_other, restored, restored_rows, seat_few}
use Rattle.path_cover.proofs.Walking.{taken}
use Rattle.path_cover.proofs.WalkSteps.{IsPlaced, IsTaken}
use Rattle.path_cover.proofs.cover.advance.Goals as goal

pub take_out-requires-clause-few : goal.take_out-requires-clause-few
take_out-requires-clause-few g c = (seat_few (g.A.Arcs.net c.args.arcs.now) c.args.falls.now c.args.placing.now c.requires.seated).0

pub place-requires-clause-seated : goal.place-requires-clause-seated
place-requires-clause-seated g c =
    let net = g.A.Arcs.net c.args.arcs.now in
    let old = c.args.placing.now in
    let mid = c.take_out.new.m in
    let t = c.args.t in
    let v = c.index-v.result.now in
    let m = c.requires.seated.0 in
    let is = c.requires.seated.1 in
    let n_is = c.nodes-n.ensures.value in
    let few = c.nodes-n.ensures.few in
    let count = is.kept.to_count in
    let t_in = c.requires.row in
    let v_is : v ≡ get_or old.to.items t 0 = c.index-v.ensures ∙ get_or_default old.to.items t v 0 (omega arith) in
    let there = c.requires.placed t t_in in
    let out : IsTaken c.nodes-n.result 4294967295 t v old mid =
    (c.take_out.ensures.to, c.take_out.ensures.from, c.take_out.ensures.room, c.take_out.ensures.spare) in
    let out_net : IsTaken net.nodes 4294967295 t v old mid = subst (λ (k : ℕ). IsTaken k 4294967295 t v old mid) n_is out in
    (taken net.nodes 4294967295 t v m, freed net c.args.falls.now old mid 4294967295 t v m is (omega arith) t_in v_is (omega arith) out_net)

pub put_in-requires-clause-few : goal.put_in-requires-clause-few
put_in-requires-clause-few g c = (seat_few (g.A.Arcs.net c.args.arcs.now) c.place.new.falls c.place.new.placing c.place.ensures.seated).1

pub returns-clause-seated : goal.returns-clause-seated
returns-clause-seated g c =
    let net = g.A.Arcs.net c.args.arcs.now in
    let old = c.args.placing.now in
    let mid = c.take_out.new.m in
    let new = c.put_in.new.m in
    let t = c.args.t in
    let v = c.index-v.result.now in
    let m = c.requires.seated.0 in
    let is = c.requires.seated.1 in
    let n_is = c.nodes-n.ensures.value in
    let few = c.nodes-n.ensures.few in
    let count = is.kept.to_count in
    let t_in = c.requires.row in
    let v_is : v ≡ get_or old.to.items t 0 = c.index-v.ensures ∙ get_or_default old.to.items t v 0 (omega arith) in
    let there = c.requires.placed t t_in in
    let out : IsTaken c.nodes-n.result 4294967295 t v old mid =
    (c.take_out.ensures.to, c.take_out.ensures.from, c.take_out.ensures.room, c.take_out.ensures.spare) in
    let out_net : IsTaken net.nodes 4294967295 t v old mid = subst (λ (k : ℕ). IsTaken k 4294967295 t v old mid) n_is out in
    let back : IsPlaced c.nodes-n.result t v c.place.new.placing new =
    (c.put_in.ensures.to, c.put_in.ensures.from, c.put_in.ensures.room, c.put_in.ensures.spare) in
    let back_mid : IsPlaced c.nodes-n.result t v mid new =
    subst (λ (p : Placing). IsPlaced c.nodes-n.result t v p new) (c.place.ensures.kept c.if-place.false) back in
    let back_net : IsPlaced net.nodes t v mid new = subst (λ (k : ℕ). IsPlaced k t v mid new) n_is back_mid in
    let same : c.place.new.falls ≡ c.args.falls.now = c.place.ensures.same (omega arith) in
    subst (λ (f : Falls). IsSeated net f new) (sym same)
    (restored net (g.met.A.Arcs.rising c.args.arcs.now) c.args.falls.now old mid new 4294967295 t v m is (omega arith) t_in v_is
    (omega arith) out_net back_net)

pub returns-clause-first : goal.returns-clause-first
returns-clause-first g c e lists cover slack agree =
    let net = g.A.Arcs.net c.args.arcs.now in
    let old = c.args.placing.now in
    let mid = c.take_out.new.m in
    let new = c.put_in.new.m in
    let t = c.args.t in
    let v = c.index-v.result.now in
    let is = c.requires.seated.1 in
    let n_is = c.nodes-n.ensures.value in
    let count = is.kept.to_count in
    let t_in = c.requires.row in
    let v_is : v ≡ get_or old.to.items t 0 = c.index-v.ensures ∙ get_or_default old.to.items t v 0 (omega arith) in
    let out : IsTaken c.nodes-n.result 4294967295 t v old mid =
    (c.take_out.ensures.to, c.take_out.ensures.from, c.take_out.ensures.room, c.take_out.ensures.spare) in
    let out_net : IsTaken net.nodes 4294967295 t v old mid = subst (λ (k : ℕ). IsTaken k 4294967295 t v old mid) n_is out in
    let back : IsPlaced c.nodes-n.result t v c.place.new.placing new =
    (c.put_in.ensures.to, c.put_in.ensures.from, c.put_in.ensures.room, c.put_in.ensures.spare) in
    let kept : c.place.new.placing ≡ mid = c.place.ensures.kept c.if-place.false in
    let back_mid : IsPlaced c.nodes-n.result t v mid new = subst (λ (p : Placing). IsPlaced c.nodes-n.result t v p new) kept back in
    let back_net : IsPlaced net.nodes t v mid new = subst (λ (k : ℕ). IsPlaced k t v mid new) n_is back_mid in
    let rows = restored_rows net old mid new 4294967295 t v count t_in v_is out_net back_net in
    let target : Target = record { root = t; limit = v; fixed = t + 1; level = 5000000000000000 } in
    let later : v ≤ successor net.nodes lists t =
    stuck_first net (g.met.A.Arcs.rising c.args.arcs.now) c.place.new.falls c.place.new.placing target
    (c.place.ensures.stuck c.if-place.false) (omega arith) lists cover slack
    (λ s below. agree s below
    ∙ (rows s ∙ (sym (freed_other net old mid 4294967295 t v s t_in (λ same. omega (arith, below)) out_net)
    ∙ sym (ap (λ (p : Placing). get_or p.to.items s 0) kept)))) in
    let at = rows t in
    omega arith
