use Rattle.week_check.proofs.Entries.{all_right, right_word}
use Rattle.week_check.proofs.entry.key_of.Goals as goal

pub word-requires : goal.word-requires
word-requires c = (all_right c.args.entry.now c.requires).driver

pub word-requires-2 : goal.word-requires-2
word-requires-2 c = right_word c.args.entry.now.day (all_right c.args.entry.now c.requires).day
