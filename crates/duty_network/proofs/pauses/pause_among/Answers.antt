use Rattle.std.proofs.Common.{◌≡◌, ◌<◌, ◌∙◌, ℕ, List, ap, get_or, length, arith, subst}
use Rattle.std.specs.Prelude.{Some, slice_get}
use Rattle.duty_network.specs.Followers.{facts}
use Rattle.duty_network.specs.Pauses.{told}
use Rattle.duty_network.proofs.Entries.{entry-get}
use Rattle.duty_network.proofs.Pausing.{row-there}
use Rattle.duty_network.proofs.pauses.pause_among.Goals as goal

pub returns-then-p-q : goal.returns-then-p-q
returns-then-p-q c =
    let d = facts c.args.pieces.now c.args.params.now in
    let row : List ℕ = c.index-rows-q.result in
    let first = c.if-p-q.true in
    let count = c.requires.rows.count in
    let within : c.args.q < length c.args.rows.now = (let below = c.requires.q in omega arith) in
    let at : slice_get c.args.rows.now c.args.q ≡ Some row = row-there c.args.rows.now c.args.q row within c.index-rows-q.is in
    let P : List ℕ → Type 0 = λ l. c.pause_of_cell.result ≡ told (get_or l c.args.p 0) in
    let cell : c.pause_of_cell.result ≡ told (get_or row c.args.p 0) = subst P c.as_slice.ensures c.pause_of_cell.ensures in
    cell ∙ ap told (entry-get row c.args.p) ∙ (c.requires.rows.each c.args.q row at).each c.args.p first
