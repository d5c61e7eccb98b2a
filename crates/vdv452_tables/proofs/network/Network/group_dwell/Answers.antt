use Rattle.std.proofs.Common.{IfSome, sym, ap, subst, ◌∙◌}
use Rattle.vdv452_tables.specs.Calendar.{Net}
use Rattle.vdv452_tables.specs.Keys.{group_dwell_key_eq, group_dwell_key_of}
use Rattle.vdv452_tables.specs.LookUps.{group_dwell_on}
use Rattle.vdv452_tables.specs.Ranges.{HasRanges, IsTime}
use Rattle.vdv452_tables.proofs.LookUpLemmas.{found_all}
use Rattle.vdv452_tables.proofs.network.Network.group_dwell.Goals as goal

pub returns-clause-value : goal.returns-clause-value
returns-clause-value c = c.copied.ensures ∙ (rw c.deref.ensures at c.get.ensures.value)
    ∙ c.self.invariant.0.dwells.groups (record { version = c.args.version; group = c.args.group; at = c.args.at })
    ∙ ap (λ (n : Net). group_dwell_on n c.args.version c.args.group c.args.at) c.self.view_is

pub returns-clause-range : goal.returns-clause-range
returns-clause-range c =
    let all = subst HasRanges c.self.view_is c.self.invariant.1 in
    subst (λ r. IfSome r IsTime) (sym (returns-clause-value c))
    (found_all IsTime group_dwell_key_eq group_dwell_key_of (λ row. row.time) c.args.self.now.group_dwells
    (record { version = c.args.version; group = c.args.group; at = c.args.at }) all.group_dwells)
