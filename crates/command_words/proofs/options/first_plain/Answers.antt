use Rattle.std.proofs.Common.{◌≡◌, not, false, ◌&&◌, slice_index_or, sym, ◌∙◌}
use Rattle.command_words.specs.Options as spec
use Rattle.command_words.proofs.OptionLemmas.{plain_next}
use Rattle.command_words.proofs.options.first_plain.Goals as goal

pub loop-place-preserved : goal.loop-place-preserved
loop-place-preserved c =
    let is : c.as_slice-word.result.now ≡ slice_index_or c.args.words.now c.loop-place.place c.as_slice-word.result.now = cc in
    let other : (not c.loop-place.is_value && not (spec.is_option c.as_slice-word.result.now)) ≡ false =
    sym c.is_plain.ensures ∙ c.if-is_plain.false in
    plain_next c.args.words.now c.loop-place.place c.as_slice-word.result.now c.loop-place.is_value c.takes_next-is_value.result is
    c.loop-place-test.true other c.takes_next-is_value.ensures c.loop-place.invariant
