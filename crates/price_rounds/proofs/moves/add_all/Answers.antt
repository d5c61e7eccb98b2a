use Rattle.std.proofs.Common.{◌≡◌, ◌∷◌, List, sym, ap, ◌∙◌, subst}
use Rattle.std.specs.Vec.Iter.{into_iter_items}
use Rattle.cover_core.specs.declared.Column.{Column}
use Rattle.column_pool.specs.Pools.{pool_after}
use Rattle.price_rounds.specs.Rounds.{pool_with}
use Rattle.price_rounds.specs.Steps.{AreReady}
use Rattle.price_rounds.proofs.Pools.{ready_after, ready_rest}
use Rattle.price_rounds.proofs.moves.add_all.Goals as goal

pub loop-column-preserved : goal.loop-column-preserved
loop-column-preserved g c =
    let p = g.C.Columns.problem c.args._columns.now in
    let split : into_iter_items c.loop-column.column-iterator ≡ c.in-Some.column ∷ into_iter_items c.next.new.self =
    c.in-Some.ensures.steps.0 in
    let rest : AreReady p (c.in-Some.column ∷ into_iter_items c.next.new.self) = subst (AreReady p) split c.loop-column.invariant.rest in
    let added : c.add.new.self ≡ pool_after c.loop-column.pool c.in-Some.column = c.in_ok-add.ensures.pool in
    record {
      pool =
          ap (λ (l : List Column). pool_with l (into_iter_items c.next.new.self)) added
          ∙ (sym (ap (λ (l : List Column). pool_with c.loop-column.pool l) split) ∙ c.loop-column.invariant.pool);
      ready = subst (AreReady p) (sym added)
          (ready_after p c.loop-column.pool c.in-Some.column (into_iter_items c.next.new.self) c.loop-column.invariant.ready rest);
      rest = ready_rest p c.in-Some.column (into_iter_items c.next.new.self) rest;
    }
