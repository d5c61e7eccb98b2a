use Rattle.std.proofs.Common.{◌≡◌, ◌+◌, ◌<◌, ℕ, get_or, set, sym, subst, ◌∙◌, arith}
use Rattle.std.proofs.lemmas.List.{get_or_default}
use Rattle.path_cover.proofs.Sweeping.{tail_low, tail_swept}
use Rattle.path_cover.proofs.numbers.press_tail.Goals as goal

pub overflow_add-least : goal.overflow_add-least
overflow_add-least g c =
    let net = g.A.Arcs.net c.args.arcs.now in
    let old = c.args.numbers.now in
    let x = c.args.x in
    let v = c.args.v in
    let column_in = c.requires.column in
    let count = c.requires.places.heads in
    let head_is : c.index.result.now ≡ get_or old.heads.items v 0 =
    c.index.ensures ∙ get_or_default old.heads.items v c.index.result.now 0 (omega arith) in
    let cost_is = c.from.ensures in
    let low = tail_low net c.args.placing.now old x v c.in-Some.cost c.requires.row column_in c.requires.high c.requires.floor
    c.requires.tight (sym c.in-Some.ensures) in
    omega arith

pub returns-in-Some-clause-swept : goal.returns-in-Some-clause-swept
returns-in-Some-clause-swept g c =
    let net = g.A.Arcs.net c.args.arcs.now in
    let old = c.args.numbers.now in
    let new = c.press_one_tail.new.numbers in
    let x = c.args.x in
    let v = c.args.v in
    let column_in = c.requires.column in
    let count = c.requires.places.heads in
    let head_is : c.index.result.now ≡ get_or old.heads.items v 0 =
    c.index.ensures ∙ get_or_default old.heads.items v c.index.result.now 0 (omega arith) in
    let cost_is = c.from.ensures in
    let least_is : c.from.result + c.index.result.now ≡ c.in-Some.cost + get_or old.heads.items v 0 = omega arith in
    let e = c.press_one_tail.ensures in
    tail_swept net c.args.placing.now old new x v c.in-Some.cost c.press_one_tail.result c.requires.row column_in c.requires.places
    c.requires.high c.requires.floor c.requires.tight (sym c.in-Some.ensures) e.others
    (λ moved. subst (λ (k : ℕ). get_or old.tails.items x 0 < k) least_is (e.less moved))
    (λ moved. subst (λ (k : ℕ). new.tails.items ≡ set old.tails.items x k) least_is (e.moved moved)) e.same
