use Rattle.std.proofs.Common.{◌≡◌, ◌++◌, ◌∷◌, [], Bool, OnOk, subst, sym}
use Rattle.day_maker.specs.Made.{rows_of, way_row}
use Rattle.day_maker.proofs.parts.add_way.Goals as goal

pub returns-then-deadhead : goal.returns-then-deadhead
returns-then-deadhead c =
    let P : Bool → Type 0 =
    λ deadhead. OnOk c.add_deadhead.result
    (c.add_deadhead.new.rows ≡ c.args.rows.now ++ rows_of (way_row deadhead c.args.from c.args.to ∷ [])) in
    subst P (sym c.if-deadhead.true) c.add_deadhead.ensures
