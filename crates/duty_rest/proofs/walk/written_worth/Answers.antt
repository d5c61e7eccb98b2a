use Rattle.std.proofs.Common.{◌≡◌, ◌≤◌, ◌/◌, [], ℕ, ℤ, List, Option, None, sym, subst, ap, ◌∙◌, rules}
use Rattle.std.specs.Prelude.{IfSome, option_and_then}
use Rattle.std.specs.Option.{option_map}
use Rattle.std.specs.Int.RustNames.{unsigned_abs}
use Rattle.cover_core.specs.declared.marks.Mark.{Mark}
use Rattle.duty_network.specs.Duties.{duty_worth}
use Rattle.duty_network.specs.Marks.{closed_value, marking}
use Rattle.duty_network.proofs.Sizes.{timed-from}
use Rattle.duty_network.proofs.Tied.{marking-tied}
use Rattle.cover_rest.specs.Rest.{written}
use Rattle.duty_network.proofs.Modest.{duty-low}
use Rattle.rest_labels.proofs.Worths.{tied-worth}
use Rattle.duty_rest.proofs.walk.written_worth.Goals as goal

pub returns-in_err-mark-clause-value : goal.returns-in_err-mark-clause-value
returns-in_err-mark-clause-value c =
    let net = c.args.net.now in
    let group = c.group-group.result.now in
    let list : List ℕ = written c.args.bodies.now c.args.list.now in
    let none : c.from_residual.result ≡ None = search rules in
    none ∙ ap (λ (o : Option Mark). option_and_then (λ (a : Mark). option_map (λ (v : ℤ). unsigned_abs v / 1000) (closed_value net group a))
    o) c.in_err-mark.ensures.value
    ∙ sym (tied-worth (marking net [] c.args.class group) (closed_value net group) (duty_worth net c.args.class) list
    (marking-tied net [] c.args.class group (search rules) (timed-from net.pieces c.fits.ensures.shifts)))

pub returns-clause-value : goal.returns-clause-value
returns-clause-value c =
    let net = c.args.net.now in
    let group = c.group-group.result.now in
    let list : List ℕ = written c.args.bodies.now c.args.list.now in
    c.closed_worth.ensures
    ∙ ap (λ (o : Option Mark). option_and_then (λ (a : Mark). option_map (λ (v : ℤ). unsigned_abs v / 1000) (closed_value net group a)) o)
    c.in_ok-mark.ensures.value
    ∙ sym (tied-worth (marking net [] c.args.class group) (closed_value net group) (duty_worth net c.args.class) list
    (marking-tied net [] c.args.class group (search rules) (timed-from net.pieces c.fits.ensures.shifts)))

pub returns-clause-bound : goal.returns-clause-bound
returns-clause-bound c =
    let net = c.args.net.now in
    let P : Option ℕ → Type 0 = λ o. IfSome o (λ worth. worth ≤ 4000000000) in
    let same : c.closed_worth.result ≡ duty_worth net c.args.class (written c.args.bodies.now c.args.list.now) = returns-clause-value c in
    subst P (sym same) (duty-low net c.args.class (written c.args.bodies.now c.args.list.now) c.fits.ensures)
