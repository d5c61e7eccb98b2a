use Rattle.std.proofs.Common.{ap, ◌∙◌}
use Rattle.vdv452_tables.specs.Calendar.{Net, kind_on}
use Rattle.vdv452_tables.proofs.network.Network.kind_at.Goals as goal

pub returns : goal.returns
returns c = c.copied.ensures ∙ (rw c.deref.ensures at c.get.ensures.value)
    ∙ c.self.invariant.0.places.kinds (record { version = c.args.version; day = c.args.day })
    ∙ ap (λ (n : Net). kind_on n c.args.version c.args.day) c.self.view_is
