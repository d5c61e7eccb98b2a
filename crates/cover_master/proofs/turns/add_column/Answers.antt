use Rattle.std.proofs.Common.{length, arith, sym, subst, ap, ◌∙◌, ℕ, List}
use Rattle.cover_core.specs.declared.Column.{Column}
use Rattle.cover_core.specs.Cover.{AllBelow}
use Rattle.cover_core.proofs.Values.{Rises-length}
use Rattle.cover_core.proofs.Fits.{fit-at}
use Rattle.cover_master.proofs.turns.add_column.Goals as goal

pub add_items-requires-clause-items : goal.add_items-requires-clause-items
add_items-requires-clause-items c =
    let fit = fit-at (length c.args.cover.now) (length c.args.caps.now) c.args.pool.now c.args.key.place c.index-pool-key.result
    c.requires.place c.index-pool-key.is c.requires.fit in
    let same = c.as_slice-then-count-caps.ensures ∙ ap (λ (x : Column). x.items) (sym c.index-pool-key.is) in
    subst (AllBelow (length c.args.cover.now)) (sym same) fit.items

pub add_items-requires-clause-short : goal.add_items-requires-clause-short
add_items-requires-clause-short c =
    let fit = fit-at (length c.args.cover.now) (length c.args.caps.now) c.args.pool.now c.args.key.place c.index-pool-key.result
    c.requires.place c.index-pool-key.is c.requires.fit in
    let room = Rises-length (length c.args.cover.now) c.index-pool-key.result.items fit.rises fit.items in
    let same = ap (λ (l : List ℕ). length l)
    (c.as_slice-then-count-caps.ensures ∙ ap (λ (x : Column). x.items) (sym c.index-pool-key.is)) in
    let few = c.requires.few in
    omega arith
