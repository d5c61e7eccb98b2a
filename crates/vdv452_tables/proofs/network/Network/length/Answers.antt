use Rattle.std.proofs.Common.{IfSome, sym, ap, subst, ◌∙◌}
use Rattle.vdv452_tables.specs.Calendar.{Net}
use Rattle.vdv452_tables.specs.Keys.{section_key_eq, section_key_of}
use Rattle.vdv452_tables.specs.LookUps.{known, length_on}
use Rattle.vdv452_tables.specs.Ranges.{HasRanges, IsLength}
use Rattle.vdv452_tables.proofs.LookUpLemmas.{found_all, known_all}
use Rattle.vdv452_tables.proofs.network.Network.length.Goals as goal

pub returns-clause-value : goal.returns-clause-value
returns-clause-value c =
    c.known_length.ensures
    ∙ ap known ((rw c.deref.ensures at c.get.ensures.value)
    ∙ c.self.invariant.0.moves.lengths (record { version = c.args.version; area = c.args.area; from = c.args.from; to = c.args.to }))
    ∙ ap (λ (n : Net). length_on n c.args.version c.args.area c.args.from c.args.to) c.self.view_is

pub returns-clause-range : goal.returns-clause-range
returns-clause-range c =
    let all = subst HasRanges c.self.view_is c.self.invariant.1 in
    subst (λ r. IfSome r IsLength) (sym (returns-clause-value c))
    (known_all IsLength _ (found_all (λ value. IfSome value IsLength) section_key_eq section_key_of (λ row. row.length)
    c.args.self.now.sections (record { version = c.args.version; area = c.args.area; from = c.args.from; to = c.args.to }) all.lengths))
