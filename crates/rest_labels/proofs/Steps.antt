-- Items and bodies at places.
use Rattle.std.proofs.Common.{◌≡◌, ℕ, ◌-◌, ◌<◌, ◌≤◌, zero, suc, List, [], ◌∷◌, ◌++◌, length, drop, take, get_or, Option, Some, None, refl, sym, ap, ◌∙◌, arith, take_all, length-drop}
use Rattle.cover_core.specs.Cover.{AllBelow}
use Rattle.cover_core.specs.Labels.{Labelling, label_after}
use Rattle.cover_rest.specs.Rest.{body_at, joined}
use Rattle.rest_labels.specs.Labels.{last_of}

front-below : (n : ℕ) (xs ys : List ℕ) → AllBelow n (xs ++ ys) → AllBelow n xs
front-below n [] ys h = tt
front-below n (x ∷ xs) ys h = (h.0, front-below n xs ys h.1)

back-below : (n : ℕ) (xs ys : List ℕ) → AllBelow n (xs ++ ys) → AllBelow n ys
back-below n [] ys h = h
back-below n (x ∷ xs) ys h = back-below n xs ys h.1

-- the items that an item of the rest stands for are there
pub body-below : (n : ℕ) (bs : List (List ℕ)) (x : ℕ) → AllBelow n (joined bs) → AllBelow n (body_at bs x)
body-below n [] x h = tt
body-below n (b ∷ bs) zero h = front-below n b (joined bs) h
body-below n (b ∷ bs) (suc x) h = body-below n bs x (back-below n b (joined bs) h)

pub below-at : (n : ℕ) (xs : List ℕ) (i : ℕ) → AllBelow n xs → i < length xs → get_or xs i 0 < n
below-at n [] i h there = absurd (omega arith)
below-at n (x ∷ xs) zero h there = h.0
below-at n (x ∷ xs) (suc i) h there = below-at n xs i h.1 (omega arith)

-- no items add nothing
pub after-nothing : {L : Type 0} (w : Labelling L) (o : Option L) (xs : List ℕ) → xs ≡ [] → label_after w o xs ≡ o
after-nothing w None xs e = refl
after-nothing w (Some a) xs e = ap (label_after w (Some a)) e

pub drop-all : {A : Type 0} (xs : List A) (i : ℕ) → length xs ≤ i → drop i xs ≡ []
drop-all [] zero h = refl
drop-all [] (suc i) h = refl
drop-all (x ∷ xs) zero h = absurd (omega arith)
drop-all (x ∷ xs) (suc i) h = drop-all xs i (omega arith)

-- The loop that puts the items of a body behind a label, one by one, has as its invariant that the label so far, with the items that
-- are left behind it, gives the label of the whole. At the end none are left, and where there is no label in between there is none
-- of the whole (`none-left`); so the loop may stop there.
pub at-end : {L : Type 0} (w : Labelling L) (o : Option L) (xs : List ℕ) (i : ℕ) (whole : Option L) → length xs ≤ i →
    label_after w o (drop i xs) ≡ whole → o ≡ whole
at-end w o xs i whole end e = sym (after-nothing w o (drop i xs) (drop-all xs i end)) ∙ e

-- where there is no label there is none of all
pub none-left : {L : Type 0} (w : Labelling L) (o : Option L) (xs : List ℕ) (whole : Option L) → o ≡ None →
    label_after w o xs ≡ whole → None ≡ whole
none-left w o xs whole none e = ap (λ o. label_after w o xs) (sym none) ∙ e

-- a tail that is taken whole
pub tail-is : (list : List ℕ) → 1 ≤ length list → take (length list - 1) (drop 1 list) ≡ drop 1 list
tail-is list h = take_all (length list - 1) (drop 1 list) (omega (arith, length-drop 1 list))

pub last-at : (list : List ℕ) → 1 ≤ length list → last_of list ≡ Some (get_or list (length list - 1) 0)
last-at [] h = absurd (omega arith)
last-at (x ∷ []) h = refl
last-at (x ∷ y ∷ rest) h =
    let same : suc (length (y ∷ rest) - 1) ≡ length (x ∷ y ∷ rest) - 1 = omega arith in
    last-at (y ∷ rest) (omega arith) ∙ ap (λ i. Some (get_or (x ∷ y ∷ rest) i 0)) same

-- A label of a list of the rest is one of the written-out list, so its last item is not the last item of the rest but the last of
-- what that stands for. This is what `RestSound` says of a label, and by it a search that asks the labels below for their last item
-- gets the item that the body ends with.
pub ends-with : (bs : List (List ℕ)) (x y last : ℕ) (list : List ℕ) → list ≡ body_at bs y → x ≡ y → 1 ≤ length list →
    ((t : ℕ) → last_of (body_at bs x) ≡ Some t → last ≡ t) →
    last ≡ get_or list (length list - 1) 0
ends-with bs x y last list is same some ends =
    ends (get_or list (length list - 1) 0) (ap (λ x. last_of (body_at bs x)) same ∙ ap last_of (sym is) ∙ last-at list some)

-- an item that stands for something is there
pub body-there : (bs : List (List ℕ)) (x y : ℕ) (ys : List ℕ) → body_at bs x ≡ y ∷ ys → x < length bs
body-there [] x y ys e = absurd (cc)
body-there (b ∷ bs) zero y ys e = omega arith
body-there (b ∷ bs) (suc x) y ys e = let h = body-there bs x y ys e in omega (arith, h)
