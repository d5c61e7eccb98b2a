use Rattle.std.proofs.Common.{◌≡◌, ℤ, List, Option, length, rules, sym, subst, to_z, of_z, w64}
use Rattle.std.proofs.lemmas.Int.{to_z-of_z}
use Rattle.std.specs.Prelude.{FitsSigned, IfOk}
use Rattle.plan_core.specs.declared.types.Piece.{Piece}
use Rattle.cover_core.specs.declared.Column.{Column}
use Rattle.cover_core.specs.Best.{best_of, within}
use Rattle.cover_rest.specs.Laws.{StandForAll}
use Rattle.duty_network.specs.Duties.{duties}
use Rattle.duty_rest.specs.Rest.{rests}
use Rattle.duty_rest.proofs.Pricings.{priced}
use Rattle.duty_rest.proofs.pricing.best_marked.Goals as goal

pub returns-then-not-begins_within-clause-best : goal.returns-then-not-begins_within-clause-best
returns-then-not-begins_within-clause-best c = λ heads may prices rest_is bodies_are marks are.
    let d = c.args.net.now in
    let made = c.in_ok-whole.ensures in
    let fits : FitsSigned w64 c.args.limit = search rules in
    let limit : to_z w64 (of_z w64 c.args.limit) ≡ c.args.limit = to_z-of_z w64 c.args.limit fits in
    let P : ℤ → Type 0 = λ z. IfOk c.best_of_labels.result
    (λ (answer : Option Column). answer ≡ within z prices (best_of (rests c.args.rest.now) prices c.args.class c.args.group)) in
    subst P limit (c.best_of_labels.ensures.best (duties d) heads may prices
    (priced d c.in_ok-whole.whole.net.now heads may c.args.class c.in_ok-whole.whole.class c.args.group (rests c.args.rest.now)
    c.args.bodies.now c.args.starts.now c.args.ended.now c.in_ok-whole.whole.crew
    c.first_items-range.result.first c.first_items-range.result.end c.in_ok-whole.whole.first c.in_ok-whole.whole.end prices
    c.args.spread.now c.in_ok-whole.whole.prices.now rest_is bodies_are marks are c.first_items-range.ensures.within made.net
    made.prices made.class made.first
    made.end made.crew c.fits.ensures))

pub returns-clause-best : goal.returns-clause-best
returns-clause-best c = λ heads may prices rest_is bodies_are marks are.
    let d = c.args.net.now in
    let made = c.in_ok-parted.ensures in
    let fits : FitsSigned w64 c.args.limit = search rules in
    let limit : to_z w64 (of_z w64 c.args.limit) ≡ c.args.limit = to_z-of_z w64 c.args.limit fits in
    let P : ℤ → Type 0 = λ z. IfOk c.best_of_labels-2.result
    (λ (answer : Option Column). answer ≡ within z prices (best_of (rests c.args.rest.now) prices c.args.class c.args.group)) in
    subst P limit (c.best_of_labels-2.ensures.best (duties d) heads may prices
    (priced d c.in_ok-parted.parted.net.now heads may c.args.class c.in_ok-parted.parted.class c.args.group (rests c.args.rest.now)
    c.args.bodies.now c.args.starts.now c.args.ended.now c.in_ok-parted.parted.crew
    c.first_items-range.result.first c.first_items-range.result.end c.in_ok-parted.parted.first c.in_ok-parted.parted.end prices
    c.args.spread.now c.in_ok-parted.parted.prices.now rest_is bodies_are marks are c.first_items-range.ensures.within made.net
    made.prices made.class made.first
    made.end made.crew c.fits.ensures))

pub first_items-range-requires : goal.first_items-range-requires
first_items-range-requires c =
    let T : List Piece → Type 0 = λ ps. StandForAll (length ps) c.args.bodies.now in
    subst T (sym c.pieces.ensures.pieces) c.requires.bodies
