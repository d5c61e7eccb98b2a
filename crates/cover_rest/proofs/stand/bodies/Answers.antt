use Rattle.std.proofs.Common.{◌++◌, ap, ◌∙◌, arith, rules}
use Rattle.cover_rest.specs.Rest.{begun_lists}
use Rattle.cover_rest.specs.Marks.{free_of}
use Rattle.cover_rest.proofs.Marked.{free-is, length-begun}
use Rattle.cover_rest.proofs.stand.bodies.Goals as goal

pub add_free-requires : goal.add_free-requires
add_free-requires c =
    let value = c.as_slice.ensures.value in
    let marks = c.in_ok-marks.ensures in
    let long = length-begun c.args.heads.now c.args.items in
    let fits = c.ranges.items.fits in
    search (rules, arith)

pub returns : goal.returns
returns c =
    let front = begun_lists c.args.heads.now in
    c.in_ok-add_free.ensures
    ∙ ap (λ l. l ++ free_of 0 c.as_slice.result.now) (c.in_ok-add_heads.ensures ∙ ap (λ l. l ++ front) c.new-bodies.ensures)
    ∙ ap (λ m. front ++ free_of 0 m) (c.as_slice.ensures.value ∙ c.in_ok-marks.ensures)
    ∙ ap (λ l. front ++ l) (free-is c.args.heads.now c.args.items)
