use Rattle.tail_exchange.specs.Exchange.{Leads}
use Rattle.tail_exchange.specs.Searches.{IsSearchable}
use Rattle.tail_exchange.specs.Kept.{ShowsLeasts}
use Rattle.tail_exchange.proofs.exchange.improve.Given as goal

abbrev pub invariant-loop-made : goal.invariant-loop-made
invariant-loop-made g l = record {
  leads : Leads (g.C.Columns.problem l.columns) l.made l.initial.plan.columns l.plan.columns;
  ready : IsSearchable (g.C.Columns.problem l.columns) l.plan.columns;
  leasts : ShowsLeasts (g.C.Columns.problem l.columns) l.plan.columns l.leasts.items;
}
