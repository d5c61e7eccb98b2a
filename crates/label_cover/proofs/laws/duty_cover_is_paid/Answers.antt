use Rattle.mark_cover.proofs.Paid.{cover-is-paid}
use Rattle.duty_network.specs.Duties.{duties}
use Rattle.label_cover.specs.Laws.{duty-ordered, duty-placed, duty-tied}
use Rattle.label_cover.specs.Marked.{duty_marking}
use Rattle.label_cover.proofs.laws.duty_cover_is_paid.Goals as goal

-- A cover of marks pays for every duty, by the same lemma as for blocks: the marks of duties keep the law of dominance, go to later
-- pieces, and close exactly for the lists of pieces that are lawful duties, with their values.
pub returns : goal.returns
returns c = λ d prices fits. cover-is-paid (duty_marking d prices) (duties d) prices (duty-ordered d prices) (duty-placed d prices)
    (duty-tied d prices fits)
