use Rattle.accepted_texts.proofs.Accepting.{written_accepted}
use Rattle.accepted_texts.proofs.written_texts_are_accepted.Goals as goal

pub returns : goal.returns
returns c = written_accepted c.read_days_are_checkable.ensures c.day_plans_are_checkable.ensures c.texts_are_accepted.ensures
