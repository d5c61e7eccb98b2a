use Rattle.std.proofs.Common.{◌≡◌, suc, drop, slice_index_or}
use Rattle.std.specs.Option.{option_map}
use Rattle.command_words.proofs.OptionLemmas.{given_none}
use Rattle.command_words.proofs.options.given_in.Goals as goal

pub returns-in-None : goal.returns-in-None
returns-in-None c =
    let is : c.as_slice.result.now ≡ slice_index_or c.args.words.now c.loop-word.word-index c.as_slice.result.now = cc in
    given_none c.args.words.now c.loop-word.word-index c.as_slice.result.now c.loop-word.reading.given
    (option_map (λ name. name.now) c.loop-word.reading.waiting) _ _ _ is c.loop-word-test.true
    (c.with_word.ensures (drop (suc c.loop-word.word-index) c.args.words.now)) c.in-None.is c.loop-word.invariant
