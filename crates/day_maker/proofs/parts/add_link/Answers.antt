use Rattle.std.proofs.Common.{◌≡◌, ◌++◌, ◌∷◌, [], Bool, OnOk, subst, sym}
use Rattle.day_maker.specs.Made.{link_row, rows_of}
use Rattle.day_maker.proofs.parts.add_link.Goals as goal

pub returns-then-timed : goal.returns-then-timed
returns-then-timed c =
    let P : Bool → Type 0 =
    λ timed. OnOk c.add.result (c.add.new.rows ≡ c.args.rows.now ++ rows_of (link_row timed c.args.line c.args.from c.args.to ∷ [])) in
    subst P (sym c.if-timed.true) c.add.ensures
