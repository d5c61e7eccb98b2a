-- Words that say options, one after another.
use Rattle.std.proofs.Common.{◌≡◌, ℕ, suc, Bool, true, false, not, ◌&&◌, ◌+◌, ◌<◌, List, [], ◌∷◌, length, arith, slice_index_or, drop, Option, Some, None, refl, sym, ◌∙◌, ap}
use Rattle.std.proofs.Math.Seq.{drop-cons}
use Rattle.std.specs.Option.{option_and_then}
use Rattle.std.proofs.lemmas.Bool.{not-false}
use Rattle.command_words.specs.declared.options.Given.{Given}
use Rattle.command_words.specs.Options as spec

-- the plain words, where the first word may be the value of an option
abbrev pub plain_after : Bool → List (List ℕ) → List (List ℕ)
plain_after false words = spec.plain_of (spec.said words)
plain_after true words = spec.plain_of (spec.said_after (Some []) words)

-- which option waits is nothing to the plain words
waits_same : (name : List ℕ) (words : List (List ℕ)) → spec.plain_of (spec.said_after (Some name) words) ≡ plain_after true words
waits_same name [] = refl
waits_same name (word ∷ words) = refl

plain_value : (word : List ℕ) (words : List (List ℕ)) → plain_after true (word ∷ words) ≡ plain_after false words
plain_value word words = refl

plain_option : (word : List ℕ) (words : List (List ℕ)) → spec.is_option word ≡ true →
    plain_after false (word ∷ words) ≡ plain_after (spec.takes_next word) words
plain_option word words option = by_flag (spec.is_flag word) (spec.has_mark word) refl refl
  where
    by_flag : (flag mark : Bool) → spec.is_flag word ≡ flag → spec.has_mark word ≡ mark →
        plain_after false (word ∷ words) ≡ plain_after (not flag && not mark) words
    by_flag true mark is marked = rw (option, is) refl
    by_flag false true is marked = rw (option, is, marked) refl
    by_flag false false is marked = rw (option, is, marked) (waits_same word words)

-- a word that is not plain is passed over
plain_goes_on : (is_value : Bool) (word : List ℕ) (words : List (List ℕ)) → (not is_value && not (spec.is_option word)) ≡ false →
    plain_after is_value (word ∷ words) ≡ plain_after (not is_value && spec.takes_next word) words
plain_goes_on true word words other = plain_value word words
plain_goes_on false word words other = plain_option word words (not-false (spec.is_option word) other)

-- The search for the first plain word goes on behind a word that is an option or a value. The plain words of all words are those of the
-- words that are left, so long as the next one is known to be a value or not; and one more word that is not plain changes nothing of that:
-- a value is passed over, a flag or an option with `=` is complete, and any other option makes a value of the word behind it.
pub plain_next : (words : List (List ℕ)) (place : ℕ) (word : List ℕ) (is_value next : Bool) →
    word ≡ slice_index_or words place word → place < length words → (not is_value && not (spec.is_option word)) ≡ false →
    next ≡ (not is_value && spec.takes_next word) → spec.plain_of (spec.said words) ≡ plain_after is_value (drop place words) →
    spec.plain_of (spec.said words) ≡ plain_after next (drop (place + 1) words)
plain_next words place word is_value next is within other takes so_far =
    let rest : drop place words ≡ word ∷ drop (suc place) words =
    drop-cons words place word within ∙ ap (λ (w : List ℕ). w ∷ drop (suc place) words) (sym is) in
    let after : suc place ≡ place + 1 = omega arith in
    so_far ∙ ap (λ ws. plain_after is_value ws) rest ∙ plain_goes_on is_value word (drop (suc place) words) other
    ∙ ap (λ b. plain_after b (drop (suc place) words)) (sym takes) ∙ ap (λ k. plain_after next (drop k words)) after

-- One word that is refused refuses all: where the options so far and this word give none, the options of all words are none too, whatever
-- words stand behind. So the reading may end there, and it has not to look at the words that are left.
pub given_none : {A : Type 0} (words : List (List ℕ)) (place : ℕ) (word : List ℕ) (given : Given) (waiting : Option (List ℕ))
    (next : Option Given) (read : Option A) (go_on : A → Option Given) → word ≡ slice_index_or words place word → place < length words →
    spec.given_with given waiting (word ∷ drop (suc place) words) ≡ option_and_then go_on read → read ≡ None →
    next ≡ spec.given_with given waiting (drop place words) → None ≡ next
given_none words place word given waiting next read go_on is within step none so_far =
    let rest : drop place words ≡ word ∷ drop (suc place) words =
    drop-cons words place word within ∙ ap (λ (w : List ℕ). w ∷ drop (suc place) words) (sym is) in
    sym (so_far ∙ ap (λ ws. spec.given_with given waiting ws) rest ∙ step ∙ ap (λ r. option_and_then go_on r) none)
