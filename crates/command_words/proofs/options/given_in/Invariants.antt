use Rattle.std.proofs.Common.{◌≡◌, drop}
use Rattle.std.specs.Option.{option_map}
use Rattle.command_words.specs.Options as spec
use Rattle.command_words.proofs.options.given_in.Given as goal

-- the options so far, with those of the words that are left
-- Reading is a fold from the left over the words with an option that may wait for its value; where one word is refused all are
-- (`given_none`).
abbrev pub invariant-loop-word : goal.invariant-loop-word
invariant-loop-word l =
    spec.given_after spec.none_given (spec.said l.words) ≡ spec.given_with l.reading.given (option_map (λ name. name.now) l.reading.waiting)
    (drop l.word-index l.words)
