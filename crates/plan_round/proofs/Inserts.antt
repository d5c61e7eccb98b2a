-- Steps of the loops that put an item in and look for the cheapest choice.
use Rattle.std.proofs.Common.{◌≡◌, ℕ, ◌+◌, ◌<◌, ◌≤◌, true, false, cond, suc, List, [], ◌∷◌, ◌++◌, length, get_or, take, drop, Option, Some, None, refl, sym, ap, ◌∙◌, append_assoc, add-one, arith, drop-cons}
use Rattle.std.specs.Prelude.{nat_lt}
use Rattle.std.proofs.lemmas.List.{take_more}
use Rattle.std.proofs.lemmas.Bool.Decides.{nat_tests}
use Rattle.cover_core.specs.declared.Column.{Column}
use Rattle.cover_core.specs.Cover.{Problem, AllBelow}
use Rattle.plan_round.specs.declared.choice.Choice.{Choice}
use Rattle.plan_round.specs.declared.choice.Spot.TheVariants.{Into}
use Rattle.plan_round.specs.Rounding.{put_in, choice_for, into_columns, into_classes, class_choice, cheaper, first_cheapest, choices}

pub put_in-below : (item x : ℕ) (xs : List ℕ) → x < item → put_in item (x ∷ xs) ≡ x ∷ put_in item xs
put_in-below item x xs h = let test : nat_lt x item ≡ true = grind (arith, nat_tests) in rw test refl

pub put_in-here : (item x : ℕ) (xs : List ℕ) → item ≤ x → put_in item (x ∷ xs) ≡ item ∷ x ∷ xs
put_in-here item x xs h = let test : nat_lt x item ≡ false = grind (arith, nat_tests) in rw test refl

pub put_in-more : (item k : ℕ) (xs : List ℕ) → k < length xs → get_or xs k 0 < item →
    put_in item xs ≡ take k xs ++ put_in item (drop k xs) → put_in item xs ≡ take (k + 1) xs ++ put_in item (drop (k + 1) xs)
put_in-more item k xs inside less so_far =
    let rest : drop k xs ≡ get_or xs k 0 ∷ drop (suc k) xs = drop-cons xs k 0 inside in
    let front : take (k + 1) xs ≡ take k xs ++ get_or xs k 0 ∷ [] = take_more xs k 0 inside in
    so_far ∙ ap (λ l. take k xs ++ put_in item l) rest
    ∙ ap (λ l. take k xs ++ l) (put_in-below item (get_or xs k 0) (drop (suc k) xs) less) ∙
    sym (append_assoc (take k xs) (get_or xs k 0 ∷ []) (put_in item (drop (suc k) xs)))
    ∙ ap (λ l. l ++ put_in item (drop (suc k) xs)) (sym front) ∙
    ap (λ n. take (k + 1) xs ++ put_in item (drop n xs)) (sym (add-one k))

pub put_in-stop : (item k : ℕ) (xs : List ℕ) → k < length xs → item ≤ get_or xs k 0 →
    put_in item xs ≡ take k xs ++ put_in item (drop k xs) → put_in item xs ≡ take k xs ++ item ∷ drop k xs
put_in-stop item k xs inside at_least so_far =
    let rest : drop k xs ≡ get_or xs k 0 ∷ drop (suc k) xs = drop-cons xs k 0 inside in
    so_far ∙ ap (λ l. take k xs ++ put_in item l) rest
    ∙ ap (λ l. take k xs ++ l) (put_in-here item (get_or xs k 0) (drop (suc k) xs) at_least) ∙ ap (λ l. take k xs ++ item ∷ l) (sym rest)

pub AllBelow-put_in : (n item : ℕ) (xs : List ℕ) → item < n → AllBelow n xs → AllBelow n (put_in item xs)
AllBelow-put_in n item [] h below = (h, tt)
AllBelow-put_in n item (x ∷ xs) h below =
    elim (nat_lt x item) as (λ b. AllBelow n (cond b (x ∷ put_in item xs) (item ∷ x ∷ xs))) [
      | true ↦
          (below.0, AllBelow-put_in n item xs h below.1)
      | false ↦ (h, below)
    ]

pub first_cheapest-append : (best : Option Choice) (xs ys : List Choice) →
    first_cheapest best (xs ++ ys) ≡ first_cheapest (first_cheapest best xs) ys
first_cheapest-append best [] ys = refl
first_cheapest-append best (x ∷ xs) ys = first_cheapest-append (Some (cheaper best x)) xs ys

-- the column at a place is looked at
pub into_columns-more : (p : Problem) (item : ℕ) (part : List Column) (place : ℕ) (best : Option Choice) (c : Column) →
    place < length part → c ≡ get_or part place c →
    first_cheapest best (into_columns p item place (drop place part)) ≡
    first_cheapest (first_cheapest best (choice_for c.worth (Into place) (p.worth c.class (put_in item c.items))))
    (into_columns p item (place + 1) (drop (place + 1) part))
into_columns-more p item part place best c inside is =
    let rest : drop place part ≡ c ∷ drop (suc place) part =
    drop-cons part place c inside ∙ ap (λ (d : Column). d ∷ drop (suc place) part) (sym is) in
    ap (λ l. first_cheapest best (into_columns p item place l)) rest ∙
    first_cheapest-append best (choice_for c.worth (Into place) (p.worth c.class (put_in item c.items)))
    (into_columns p item (suc place) (drop (suc place) part)) ∙
    ap (λ n. first_cheapest (first_cheapest best (choice_for c.worth (Into place) (p.worth c.class (put_in item c.items))))
    (into_columns p item n (drop n part))) (sym (add-one place))

pub into_classes-more : (p : Problem) (item : ℕ) (part : List Column) (class : ℕ) (best : Option Choice) →
    first_cheapest best (into_classes p item part (class + 1)) ≡ first_cheapest (first_cheapest best (into_classes p item part class))
    (class_choice p item part class)
into_classes-more p item part class best =
    ap (λ n. first_cheapest best (into_classes p item part n)) (add-one class)
    ∙ first_cheapest-append best (into_classes p item part class) (class_choice p item part class)

-- the best of all choices, found over the columns first
pub chosen-is : (p : Problem) (item : ℕ) (part slice : List Column) (column r : Option Choice) →
    column ≡ first_cheapest None (into_columns p item 0 slice) → slice ≡ part →
    r ≡ first_cheapest column (into_classes p item part (length p.caps)) → first_cheapest None (choices p item part) ≡ r
chosen-is p item part slice column r found same last =
    first_cheapest-append None (into_columns p item 0 part) (into_classes p item part (length p.caps)) ∙
    ap (λ (o : Option Choice). first_cheapest o (into_classes p item part (length p.caps)))
    (ap (λ (l : List Column). first_cheapest None (into_columns p item 0 l)) (sym same) ∙ sym found) ∙
    sym last
