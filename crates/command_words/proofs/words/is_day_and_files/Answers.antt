use Rattle.command_words.specs.Options.{plain_of, said}
use Rattle.command_words.specs.Words as spec
use Rattle.command_words.proofs.RequestLemmas.{not_all_files}
use Rattle.command_words.proofs.words.is_day_and_files.Goals as goal

pub returns-in-None : goal.returns-in-None
returns-in-None c =
    not_all_files (spec.day_word c.args.said.first.now) _ (plain_of (said c.args.said.others.before.now)) c.args.said.others.behind.now
    c.in-None.ensures.none
