use Rattle.std.proofs.Common.{◌≢◌, ℕ, true, false, cond, List, [], ◌∷◌, ◌++◌, sym, subst}
use Rattle.cover_core.specs.declared.Column.{Column}
use Rattle.cover_core.specs.Fitting.{AreFit}
use Rattle.cover_core.proofs.Fits.{IsFit}
use Rattle.class_lowering.specs.Lowering.{HaveItems}
use Rattle.column_pool.specs.Pools.{is_refused, pool_after}
use Rattle.cover_tests.proofs.Fitting.{IsFit-made, AreFit-pool_after}
use Rattle.cover_tests.proofs.class_lowering_tests.with_column.Goals as goal

-- no column is without items after an addition of one with items
HaveItems-push : (pool : List Column) (c : Column) → HaveItems pool → HaveItems (c ∷ []) → HaveItems (pool ++ c ∷ [])
HaveItems-push [] c are one = one
HaveItems-push (x ∷ xs) c are one = (are.0, HaveItems-push xs c are.1 one)

HaveItems-pool_after : (pool : List Column) (c : Column) → HaveItems pool → HaveItems (c ∷ []) → HaveItems (pool_after pool c)
HaveItems-pool_after pool c are one =
    elim (is_refused pool c) as (λ t. HaveItems (cond t pool (pool ++ c ∷ []))) [ true ↦ are | false ↦ HaveItems-push pool c are one ]

pub returns-clause-fit : goal.returns-clause-fit
returns-clause-fit c =
    let column = c.in_ok-column.column in
    let made = c.in_ok-column.ensures in
    let fit : IsFit 3 2 column =
    IsFit-made 3 2 column c.args.class c.args.worth c.args.list.now made.class made.worth made.items c.requires.class c.requires.cheap
    c.requires.rises c.requires.items in
    let P : List Column → Type 0 = λ l. AreFit 3 2 l in
    subst P (sym c.in_ok-add.ensures.pool) (AreFit-pool_after 3 2 c.args.pool column c.requires.fit fit)

pub returns-clause-some : goal.returns-clause-some
returns-clause-some c =
    let column = c.in_ok-column.column in
    let P : List ℕ → Type 0 = λ l. l ≢ [] in
    let one : HaveItems (column ∷ []) = (subst P (sym c.in_ok-column.ensures.items) c.requires.there, tt) in
    let Q : List Column → Type 0 = λ l. HaveItems l in
    subst Q (sym c.in_ok-add.ensures.pool) (HaveItems-pool_after c.args.pool column c.requires.some one)
