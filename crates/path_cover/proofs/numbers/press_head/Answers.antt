use Rattle.std.proofs.Common.{◌≡◌, ◌-◌, ◌<◌, ℕ, get_or, set, sym, subst, ◌∙◌, arith}
use Rattle.std.proofs.lemmas.List.{get_or_default}
use Rattle.path_cover.proofs.Sweeping.{head_swept}
use Rattle.path_cover.proofs.numbers.press_head.Goals as goal

pub returns-in-Some-clause-swept : goal.returns-in-Some-clause-swept
returns-in-Some-clause-swept g c =
    let net = g.A.Arcs.net c.args.arcs.now in
    let old = c.args.numbers.now in
    let new = c.press_one_head.new.numbers in
    let x = c.args.x in
    let v = c.args.v in
    let row_in = c.requires.row in
    let count = c.requires.places.tails in
    let tail_is : c.index.result.now ≡ get_or old.tails.items x 0 =
    c.index.ensures ∙ get_or_default old.tails.items x c.index.result.now 0 (omega arith) in
    let cost_is = c.from.ensures in
    let rest = c.saturating_sub-least.ensures in
    let least_is : c.saturating_sub-least.result ≡ get_or old.tails.items x 0 - c.in-Some.cost = omega arith in
    let e = c.press_one_head.ensures in
    head_swept net c.args.placing.now old new x v c.in-Some.cost c.press_one_head.result row_in c.requires.column c.requires.places
    c.requires.high c.requires.floor (sym c.in-Some.ensures) e.others
    (λ moved. subst (λ (k : ℕ). get_or old.heads.items v 0 < k) least_is (e.less moved))
    (λ moved. subst (λ (k : ℕ). new.heads.items ≡ set old.heads.items v k) least_is (e.moved moved)) e.same
