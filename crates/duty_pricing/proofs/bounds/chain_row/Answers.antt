use Rattle.std.proofs.Common.{◌≡◌, ◌∙◌, ◌<◌, ℕ, ℤ, List, get_or, length, sym, ap, subst, set, arith}
use Rattle.duty_network.specs.Followers.{entry_at}
use Rattle.duty_network.proofs.Entries.{entry-get}
use Rattle.duty_pricing.specs.Bounds.{IsLoweredBy, IsTail, row_at}
use Rattle.duty_pricing.proofs.Bounding.{row-here, row-read, tailed}
use Rattle.duty_pricing.proofs.bounds.chain_row.Goals as goal

pub index-requires : goal.index-requires
index-requires c =
    let there = c.requires.numbers.below c.args.item c.requires.item in
    let count = c.requires.tail.count in
    rw (entry-get c.args.numbers.now c.args.item) (omega arith)

pub index_mut-requires : goal.index_mut-requires
index_mut-requires c =
    let there = c.requires.numbers.below c.args.item c.requires.item in
    let count = c.requires.tail.count in
    rw (entry-get c.args.numbers.now c.args.item) (omega arith)

pub returns-clause-tail : goal.returns-clause-tail
returns-clause-tail c =
    let tail = c.args.tail.now.items in
    let d = c.args.net.now in
    let numbers = c.args.numbers.now in
    let there = c.requires.numbers.below c.args.item c.requires.item in
    let count = c.requires.tail.count in
    let small : get_or numbers c.args.item 0 < length tail = rw (entry-get numbers c.args.item) (omega arith) in
    let read : c.index.result.now ≡ row_at tail (entry_at numbers c.args.item) =
    c.index.ensures ∙ row-read tail (get_or numbers c.args.item 0) c.index.result.now small
    ∙ ap (row_at tail) (entry-get numbers c.args.item) in
    let P : ℕ → Type 0 = λ n. IsTail d c.args.prices.now c.args.reach.now numbers c.args.rows.now c.args.item
    (set tail n c.lower_by_piece.new.row) in
    let Q : List ℤ → Type 0 =
    λ l. IsLoweredBy d c.args.prices.now c.args.reach.now c.args.rows.now c.args.item l c.lower_by_piece.new.row in
    subst P (sym (entry-get numbers c.args.item))
    (tailed d c.args.prices.now c.args.reach.now numbers c.args.rows.now tail c.args.item c.lower_by_piece.new.row c.requires.item
    c.requires.numbers c.requires.tail
    (subst Q read c.lower_by_piece.ensures))

pub returns-clause-row : goal.returns-clause-row
returns-clause-row c =
    let tail = c.args.tail.now.items in
    let numbers = c.args.numbers.now in
    let count = c.requires.tail.count in
    let there = c.requires.numbers.below c.args.item c.requires.item in
    let row = c.lower_by_piece.new.row in
    let P : ℕ → Type 0 = λ n. row ≡ row_at (set tail n row) (entry_at numbers c.args.item) in
    subst P (sym (entry-get numbers c.args.item)) (sym (row-here tail (entry_at numbers c.args.item) row (omega arith)))
