use Rattle.std.proofs.Common.{◌≡◌, get_or, sym, subst, ◌∙◌}
use Rattle.path_cover.specs.declared.growth.Falls.{Falls}
use Rattle.path_cover.specs.Sweeps.{IsFitting, IsTaut}
use Rattle.path_cover.proofs.Sweeping.{numbers_hold}
use Rattle.path_cover.proofs.numbers.sweep.Goals as goal

pub returns-clause-numbers : goal.returns-clause-numbers
returns-clause-numbers g c still =
    let net = g.A.Arcs.net c.args.arcs.now in
    let placing = c.args.placing.now in
    let one = c.press_all_heads.new.numbers in
    let two = c.press_rows.new.numbers in
    let three = c.press_starts.new.numbers in
    let four = c.press_stay.new.numbers in
    let two_is : two ≡ one = c.press_rows.ensures.swept.same c.if-press_rows.false in
    let three_is : three ≡ two = c.press_starts.ensures.swept.same c.if-press_starts.false in
    let four_is : four ≡ three = c.press_stay.ensures.swept.same still in
    numbers_hold net (g.met.A.Arcs.rising c.args.arcs.now) placing four c.requires.floor
    (λ x v x_in v_in. subst (λ (f : Falls). IsFitting net f x v) (sym (four_is ∙ (three_is ∙ two_is)))
    (c.press_all_heads.ensures.fits c.if-press_all_heads.false x v x_in v_in))
    (λ t t_in. subst (λ (f : Falls). IsTaut net f t (get_or placing.to.items t 0)) (sym (four_is ∙ three_is))
    (c.press_rows.ensures.taut c.if-press_rows.false t t_in))
    (λ u u_in from_store. subst (λ (f : Falls). IsTaut net f net.nodes u) (sym four_is)
    (c.press_starts.ensures.taut c.if-press_starts.false u u_in from_store))
    (λ some. c.press_stay.ensures.taut still some)
