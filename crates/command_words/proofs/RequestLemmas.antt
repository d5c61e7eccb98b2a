-- Words that are files.
use Rattle.std.proofs.Common.{◌≡◌, Bool, true, false, ◌&&◌, ℕ, List, [], ◌∷◌, ◌++◌, length, refl, sym, ap}
use Rattle.std.specs.List.{list_all}
use Rattle.command_words.specs.Words as spec

-- where not all words in front are names of files, not all words are
front_fails : (front behind : List (List ℕ)) → list_all spec.file_word front ≡ false → list_all spec.file_word (front ++ behind) ≡ false
front_fails [] behind e = cc
front_fails (word ∷ front) behind e =
    go (spec.file_word word) (list_all spec.file_word front) (list_all spec.file_word (front ++ behind)) (front_fails front behind) e
  where
    go : (here more all : Bool) → (more ≡ false → all ≡ false) → (here && more) ≡ false → (here && all) ≡ false
    go true more all h e = h e
    go false more all h e = refl

-- One word in front of `--` that is no name of a file spoils the whole list, whatever stands behind `--`. So the reading may stop at that
-- word: a day with such words is no day with files, whether or not the first word is a day, and however many words there are.
pub not_all_files : (day few : Bool) (front behind : List (List ℕ)) → list_all spec.file_word front ≡ false →
    false ≡ (day && (list_all spec.file_word (front ++ behind) && few))
not_all_files day few front behind e = go day few (list_all spec.file_word (front ++ behind)) (front_fails front behind e)
  where
    go : (day few all : Bool) → all ≡ false → false ≡ (day && (all && few))
    go true few all e = sym (ap (λ (b : Bool). b && few) e)
    go false few all e = refl

-- A roster is named by one word: where a word stands alone and is the name of a file, there is one word. With no words, or with a second
-- one, they are none, whether or not the first word is empty.
pub one_roster : (words : List (List ℕ)) → spec.is_roster words ≡ true → length words ≡ 1
one_roster [] e = absurd (cc)
one_roster (file ∷ []) e = refl
one_roster ([] ∷ other ∷ words) e = absurd (cc)
one_roster ((b ∷ file) ∷ other ∷ words) e = absurd (cc)
