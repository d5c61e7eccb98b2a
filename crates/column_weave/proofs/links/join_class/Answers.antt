use Rattle.std.proofs.Common.{◌≡◌, ◌++◌, ◌∷◌, [], ℤ, neg_ℤ, pos, ◌≤ℤ◌, List, length, get_or, refl, ap, ◌∙◌, arith, w64, to_z, of_z, subst}
use Rattle.std.proofs.Math.ListN.{set, length-set}
use Rattle.std.proofs.lemmas.Int.{ints}
use Rattle.std.specs.Vec.{with_items}
use Rattle.column_weave.specs.Sums.{IsReach}
use Rattle.column_weave.specs.Webs.{IsLinkInto, IsRise}
use Rattle.column_weave.specs.declared.link.Link.{Link}
use Rattle.column_weave.specs.declared.links.ClassLinks.{ClassLinks}
use Rattle.column_weave.proofs.Linked.{links-put, links-same, refilled}
use Rattle.column_weave.proofs.links.join_class.Goals as goal

pub returns-in_ok-put-in-Some : goal.returns-in_ok-put-in-Some
returns-in_ok-put-in-Some g c =
    let p = g.C.Columns.problem c.args.problem.now in
    let class = c.args.class in
    let from = c.args.from in
    let item = c.args.item in
    let old : ClassLinks = c.args.links.now in
    let rise : ℤ = to_z w64 (of_z w64 c.in-Some.rise) in
    let link : Link = record { from = from; rise = rise } in
    let new : ClassLinks = record { single = old.single; into = with_items old.into c.put.new.into } in
    let rise_low = c.in-Some.ensures.low in
    let rise_high = c.in-Some.ensures.high in
    let low : neg_ℤ (pos 4000000000000) ≤ℤ rise = omega (arith, ints) in
    let high : rise ≤ℤ pos 4000000000000 = omega (arith, ints) in
    let same : c.in-Some.rise ≡ rise = omega (arith, ints) in
    let R : ℤ → Type 0 = λ z. IsRise p class from item z in
    let is : IsLinkInto p class item link = subst R same c.in-Some.ensures.rise in
    let reach : IsReach item link = record { from = c.requires.order; low = low; high = high } in
    let put : c.put.new.into ≡ set old.into.items item (get_or old.into.items item [] ++ link ∷ []) =
    c.in_ok-put-in-Some.ensures.ok
    ∙ ap (λ (l : List (List Link)). set l item (get_or l item [] ++ link ∷ [])) c.as_mut_slice.ensures.value in
    let one_list = c.requires.links.ranged.one_list in
    let ok = old.into.ok.0 in
    let set_long = length-set old.into.items item (get_or old.into.items item [] ++ link ∷ []) in
    let put_long : length c.put.new.into ≡ length old.into.items = ap (λ (l : List (List Link)). length l) put ∙ set_long in
    let filled : new.into.items ≡ c.put.new.into = refilled old.into.len old.into.items c.put.new.into (omega (arith, ok)) put_long in
    links-put p class item old new link c.requires.links refl (filled ∙ put) c.requires.item reach is

pub returns-in_err-put-in-Some : goal.returns-in_err-put-in-Some
returns-in_err-put-in-Some g c =
    let p = g.C.Columns.problem c.args.problem.now in
    let old : ClassLinks = c.args.links.now in
    let new : ClassLinks = record { single = old.single; into = with_items old.into c.put.new.into } in
    let same : c.put.new.into ≡ old.into.items = c.in_err-put-in-Some.ensures.err ∙ c.as_mut_slice.ensures.value in
    let ok = old.into.ok.0 in
    let filled : new.into.items ≡ c.put.new.into =
    refilled old.into.len old.into.items c.put.new.into (omega (arith, ok)) (ap (λ (l : List (List Link)). length l) same) in
    links-same p c.args.class old new c.requires.links refl (filled ∙ same)
