-- Labels over lists, step by step.
use Rattle.std.proofs.Common.{◌≡◌, ◌≢◌, ℕ, ◌+◌, ◌<◌, ◌≤◌, ◌-◌, take, arith, List, [], ◌∷◌, ◌++◌, length, drop, Option, Some, None, refl, sym, ap, ◌∙◌, slice_index_or}
use Rattle.std.proofs.lemmas.List.{drop_more}
use Rattle.cover_core.specs.Labels.{Labelling, label_after, label_of}
use Rattle.cover_rest.specs.Rest.{body_at, written}
use Rattle.rest_labels.proofs.Stands.{written-more}

pub after-none : {L : Type 0} (w : Labelling L) (xs : List ℕ) → label_after w None xs ≡ None
after-none w [] = refl
after-none w (x ∷ xs) = refl

pub after-append : {L : Type 0} (w : Labelling L) (o : Option L) (xs ys : List ℕ) →
    label_after w o (xs ++ ys) ≡ label_after w (label_after w o xs) ys
after-append w None [] ys = refl
after-append w None (x ∷ xs) ys = sym (after-none w ys) ∙ ap (λ o. label_after w o ys) (sym (after-none w (x ∷ xs)))
after-append w (Some a) [] ys = refl
after-append w (Some a) (x ∷ xs) ys = after-append w (w.extend a x) xs ys

-- an item more
pub after-more : {L : Type 0} (w : Labelling L) (a : L) (o : Option L) (list : List ℕ) (i : ℕ) → i < length list →
    o ≡ w.extend a (slice_index_or list i 0) →
    label_after w (Some a) (drop i list) ≡ label_after w o (drop (i + 1) list)
after-more w a o list i within is =
    ap (λ l. label_after w (Some a) l) (drop_more list i 0 within) ∙ ap (λ o. label_after w o (drop (i + 1) list)) (sym is)

-- An item of the rest stands for several trips or pieces. The written-out list puts them before those of the items that follow, and a label
-- that goes along two lists one behind the other goes along both (`after-append`). So the walk may go item by item of the rest.
pub after-body : {L : Type 0} (w : Labelling L) (a : L) (o : Option L) (bs : List (List ℕ)) (list : List ℕ) (i : ℕ) → i < length list →
    o ≡ label_after w (Some a) (body_at bs (slice_index_or list i 0)) →
    label_after w (Some a) (written bs (drop i list)) ≡ label_after w o (written bs (drop (i + 1) list))
after-body w a o bs list i within is =
    ap (λ l. label_after w (Some a) l) (written-more bs list i within)
    ∙ after-append w (Some a) (body_at bs (slice_index_or list i 0)) (written bs (drop (i + 1) list))
    ∙ ap (λ o. label_after w o (written bs (drop (i + 1) list))) (sym is)

-- a list that begins with one that is not empty
pub of-append : {L : Type 0} (w : Labelling L) (xs ys : List ℕ) → xs ≢ [] → label_of w (xs ++ ys) ≡ label_after w (label_of w xs) ys
of-append w [] ys some = absurd (some refl)
of-append w (x ∷ xs) ys some = after-append w (w.start x) xs ys

-- a list of the rest, written out, begins with what its first item stands for
written-first : (bs : List (List ℕ)) (list : List ℕ) → 1 ≤ length list →
    written bs list ≡ body_at bs (slice_index_or list 0 0) ++ written bs (drop 1 list)
written-first bs [] some = absurd (omega (arith, some))
written-first bs (x ∷ xs) some = refl

-- a list of the rest, after what its first item stands for
pub first-walked : {L : Type 0} (w : Labelling L) (o : Option L) (bs : List (List ℕ)) (list : List ℕ) → 1 ≤ length list →
    body_at bs (slice_index_or list 0 0) ≢ [] →
    o ≡ label_of w (body_at bs (slice_index_or list 0 0)) → label_of w (written bs list) ≡ label_after w o (written bs (drop 1 list))
first-walked w o bs list some full is =
    ap (label_of w) (written-first bs list some) ∙ of-append w (body_at bs (slice_index_or list 0 0)) (written bs (drop 1 list)) full
    ∙ ap (λ o. label_after w o (written bs (drop 1 list))) (sym is)

-- all of what is left
pub take-rest : (list : List ℕ) → take (length list - 1) (drop 1 list) ≡ drop 1 list
take-rest [] = refl
take-rest (x ∷ xs) = let same : length (x ∷ xs) - 1 ≡ length xs = omega arith in ap (λ n. take n xs) same ∙ whole xs
  where
    whole : (xs : List ℕ) → take (length xs) xs ≡ xs
    whole [] = refl
    whole (x ∷ xs) = ap (λ l. x ∷ l) (whole xs)
