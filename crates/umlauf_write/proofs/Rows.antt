-- Rows of lists that are numbered, one list after another.
use Rattle.std.proofs.Common.{◌≡◌, ℕ, ℤ, suc, zero, ◌+◌, ◌<◌, List, [], ◌∷◌, ◌++◌, length, drop, map, Option, None, pos, get_or, slice_index_or, refl, sym, ◌∙◌, ap, arith, append_assoc, add-one, drop-cons}
use Rattle.std.proofs.lemmas.List.Elements.{All-append, All-nil}
use Rattle.plan_core.specs.declared.types.Leg.{Leg}
use Rattle.plan_core.specs.declared.types.LegKind.TheVariants.{PullOut}
use Rattle.vdv451_text.specs.declared.table.Field.{Field}
use Rattle.number_tables.specs.Signed.{AreSignedFull, signed_row, signed_rows}
use Rattle.umlauf_write.specs.Answers.{all_rows}
use Rattle.umlauf_write.specs.Tables.{numbered}
use Rattle.umlauf_write.proofs.Numbered.{numbered_more}

signed_append : (xs ys : List (List (Option ℤ))) → signed_rows (xs ++ ys) ≡ signed_rows xs ++ signed_rows ys
signed_append [] ys = refl
signed_append (x ∷ xs) ys = ap (λ rs. signed_row x ∷ rs) (signed_append xs ys)

-- One list more. It is the step of the loops that write several rows for each block or duty: what is written so far stands before the
-- rows of the lists that are left, and the next list's rows are put behind it all at once. The list's number is that of its place,
-- from 1.
pub all_more : {A : Type 0} (rows : ℕ → A → List (List (Option ℤ))) (i : ℕ) (items : List A) (item : A) (all done now : List (List Field)) →
    i < length items → item ≡ get_or items i item → now ≡ done ++ signed_rows (rows (i + 1) item) →
    all ≡ done ++ signed_rows (all_rows rows (1 + i) (drop i items)) →
    all ≡ now ++ signed_rows (all_rows rows (1 + (i + 1)) (drop (i + 1) items))
all_more {A = A} rows i items item all done now within is pushed so_far =
    let at : drop i items ≡ item ∷ drop (i + 1) items =
    rw add-one (drop-cons items i item within ∙ ap (λ x. x ∷ drop (suc i) items) (sym is)) in
    let later : List (List Field) = signed_rows (all_rows rows (1 + (i + 1)) (drop (i + 1) items)) in
    let n : 1 + i ≡ i + 1 = omega arith in
    let m : 1 + i + 1 ≡ 1 + (i + 1) = omega arith in
    let first : done ++ signed_rows (all_rows rows (1 + i) (drop i items))
    ≡ done ++ signed_rows (rows (1 + i) item ++ all_rows rows (1 + i + 1) (drop (i + 1) items)) =
    ap (λ (xs : List A). done ++ signed_rows (all_rows rows (1 + i) xs)) at in
    let second : done ++ signed_rows (rows (1 + i) item ++ all_rows rows (1 + i + 1) (drop (i + 1) items))
    ≡ done ++ signed_rows (rows (i + 1) item ++ all_rows rows (1 + i + 1) (drop (i + 1) items)) =
    ap (λ (k : ℕ). done ++ signed_rows (rows k item ++ all_rows rows (1 + i + 1) (drop (i + 1) items))) n in
    let third : done ++ signed_rows (rows (i + 1) item ++ all_rows rows (1 + i + 1) (drop (i + 1) items))
    ≡ done ++ signed_rows (rows (i + 1) item ++ all_rows rows (1 + (i + 1)) (drop (i + 1) items)) =
    ap (λ (k : ℕ). done ++ signed_rows (rows (i + 1) item ++ all_rows rows k (drop (i + 1) items))) m in
    let fourth : done ++ signed_rows (rows (i + 1) item ++ all_rows rows (1 + (i + 1)) (drop (i + 1) items))
    ≡ done ++ (signed_rows (rows (i + 1) item) ++ later) =
    ap (λ (rs : List (List Field)). done ++ rs) (signed_append (rows (i + 1) item) (all_rows rows (1 + (i + 1)) (drop (i + 1) items))) in
    let fifth : done ++ (signed_rows (rows (i + 1) item) ++ later) ≡ now ++ later =
    sym (append_assoc done (signed_rows (rows (i + 1) item)) later) ∙ ap (λ (rs : List (List Field)). rs ++ later) (sym pushed) in
    so_far ∙ first ∙ second ∙ third ∙ fourth ∙ fifth

-- numbered rows are full
pub signed_full : {A : Type 0} (columns : List (List ℕ)) (row : ℕ → A → List (Option ℤ)) →
    ((n : ℕ) (item : A) → length (row n item) ≡ length columns) → (number : ℕ) (items : List A) →
    AreSignedFull columns (numbered row number items)
signed_full columns row width number [] = λ k d within. absurd (omega (arith, within))
signed_full columns row width number (item ∷ items) =
    λ k. elim k as (λ k. (d : List (Option ℤ)) → k < length (numbered row number (item ∷ items)) →
    length (slice_index_or (numbered row number (item ∷ items)) k d) ≡ length columns) [
      | zero ↦ λ d within. width number item
      | suc j ↦ λ d within. signed_full columns row width (number + 1) items j d (omega (arith, within))
    ]

-- and so are those of all lists
pub all_full : {A : Type 0} (columns : List (List ℕ)) (rows : ℕ → A → List (List (Option ℤ))) →
    ((n : ℕ) (item : A) → AreSignedFull columns (rows n item)) → (number : ℕ) (items : List A) →
    AreSignedFull columns (all_rows rows number items)
all_full columns rows width number [] = All-nil (λ (row : List (Option ℤ)). length row ≡ length columns)
all_full columns rows width number (item ∷ items) =
    All-append (λ (row : List (Option ℤ)). length row ≡ length columns) (rows number item) (all_rows rows (number + 1) items)
    (width number item) (all_full columns rows width (number + 1) items)

get_or-any : {A : Type 0} (items : List A) (i : ℕ) (d e : A) → i < length items → get_or items i d ≡ get_or items i e
get_or-any [] i d e within = absurd (omega (arith, within))
get_or-any (item ∷ items) zero d e within = refl
get_or-any (item ∷ items) (suc i) d e within = get_or-any items i d e (omega (arith, within))

same_item : {A : Type 0} (items : List A) (i : ℕ) (d : A) → i < length items → get_or items i d ≡ get_or items i (get_or items i d)
same_item items i d within = get_or-any items i d (get_or items i d) within

-- one item more, numbered from 1
pub counted_more : {A B C : Type 0} (value : ℕ → A → B) (made : B → C) (i : ℕ) (items : List A) (d : A) (all done now : List C) →
    i < length items → now ≡ done ++ made (value (i + 1) (get_or items i d)) ∷ [] →
    all ≡ done ++ map made (numbered value (1 + i) (drop i items)) →
    all ≡ now ++ map made (numbered value (1 + (i + 1)) (drop (i + 1) items))
counted_more {C = C} value made i items d all done now within pushed so_far =
    let n : i + 1 ≡ 1 + i = omega arith in
    numbered_more value made 1 i items (get_or items i d) all done now within (same_item items i d within)
    (pushed ∙ ap (λ (k : ℕ). done ++ made (value k (get_or items i d)) ∷ []) n) so_far

-- the leg that an index past the end reads
abbrev pub no_leg : Leg
no_leg = record {
  kind = PullOut;
  trip = None;
  from = record { typ = 0; nr = 0 };
  begin = record { 0 = pos 0 };
  to =
      record { typ = 0; nr = 0 };
  end = record { 0 = pos 0 };
}
