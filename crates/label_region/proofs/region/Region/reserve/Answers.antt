use Rattle.std.proofs.Common.{◌≤◌, ◌+◌, arith, length, sym, subst}
use Rattle.label_region.specs.Shelf.{Shelf, shelf, live_count}
use Rattle.label_region.proofs.Counts.{back_fits}
use Rattle.label_region.proofs.region.Region.reserve.Goals as goal

pub returns-then-n-self-clause-too_many : goal.returns-then-n-self-clause-too_many
returns-then-n-self-clause-too_many g c =
    let r = c.self.inside in
    let fits = back_fits (length r.cells.items) r.back.items c.self.invariant.back in
    λ many. let most : 2147483648 ≤ live_count (shelf r.cells.items r.back.items r.spare) + c.args.n =
    subst (λ (s : Shelf g.row.T.Denot). 2147483648 ≤ live_count s + c.args.n) (sym c.self.view_is) many in
    absurd (omega (arith, fits, most, c.self.invariant.few, c.if-n-self.true))

pub overflow_sub-wanted : goal.overflow_sub-wanted
overflow_sub-wanted g c =
    let r = c.self.inside in
    let fits = back_fits (length r.cells.items) r.back.items c.self.invariant.back in
    omega (arith, fits, c.len-used.ensures.value, c.len.ensures, r.back.ok)

pub overflow_sub-needed : goal.overflow_sub-needed
overflow_sub-needed g c =
    let r = c.self.inside in
    let fits = back_fits (length r.cells.items) r.back.items c.self.invariant.back in
    omega (arith, fits, c.len-used.ensures.value, c.len-2.ensures, c.max-needed.ensures, r.back.ok)
