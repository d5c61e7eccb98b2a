-- Lists whose items are numbered.
use Rattle.std.proofs.Common.{◌≡◌, ℕ, ◌+◌, ◌<◌, suc, List, [], ◌∷◌, ◌++◌, length, drop, map, sym, ◌∙◌, ap, arith, append_assoc, get_or, add-one, drop-cons}
use Rattle.umlauf_write.specs.Tables.{numbered}

-- the items from one on, with the value of the first
numbered_first : {A B : Type 0} (value : ℕ → A → B) (number : ℕ) (items : List A) (item : A) (rest : List A) → items ≡ item ∷ rest →
    numbered value number items ≡ value number item ∷ numbered value (number + 1) rest
numbered_first value number items item rest e = ap (λ xs. numbered value number xs) e

item_first : {A : Type 0} (items : List A) (i : ℕ) (item : A) → i < length items → item ≡ get_or items i item →
    drop i items ≡ item ∷ drop (i + 1) items
item_first items i item within is = rw add-one (drop-cons items i item within ∙ ap (λ x. x ∷ drop (suc i) items) (sym is))

next_number : {A B : Type 0} (value : ℕ → A → B) (start i : ℕ) (items : List A) →
    numbered value (start + i + 1) items ≡ numbered value (start + (i + 1)) items
next_number value start i items = let e : start + i + 1 ≡ start + (i + 1) = omega arith in ap (λ n. numbered value n items) e

-- One item more: what was made so far and its value stand before the values of the others. It is the step of each loop that writes a
-- table: what is written so far stands before the rows that the definition gives the items that are left. The first of these is taken
-- off and its row put behind what is written, with the number that it has among all.
pub numbered_more : {A B C : Type 0} (value : ℕ → A → B) (made : B → C) (start i : ℕ) (items : List A) (item : A) (all done now : List C) →
    i < length items → item ≡ get_or items i item → now ≡ done ++ made (value (start + i) item) ∷ [] →
    all ≡ done ++ map made (numbered value (start + i) (drop i items)) →
    all ≡ now ++ map made (numbered value (start + (i + 1)) (drop (i + 1) items))
numbered_more value made start i items item all done now within is pushed so_far =
    let first = numbered_first value (start + i) (drop i items) item (drop (i + 1) items) (item_first items i item within is) in
    so_far
    ∙ ap (λ xs. done ++ map made xs) first
    ∙ ap (λ xs. done ++ made (value (start + i) item) ∷ map made xs) (next_number value start i (drop (i + 1) items))
    ∙ sym (append_assoc done (made (value (start + i) item) ∷ []) (map made (numbered value (start + (i + 1)) (drop (i + 1) items))))
    ∙ ap (λ xs. xs ++ map made (numbered value (start + (i + 1)) (drop (i + 1) items))) (sym pushed)
