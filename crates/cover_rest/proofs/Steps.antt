-- What is found at places, and tests of a list joined to the test of the whole.
use Rattle.std.proofs.Common.{◌≡◌, ℕ, ◌<◌, ◌≤◌, ◌&&◌, Bool, true, false, zero, suc, List, [], ◌∷◌, length, get_or, drop, nat_le, nat_lt, slice_get, refl, sym, ap, subst, ◌∙◌, arith, drop-cons, take, take_all, ◌-◌, length-drop}
use Rattle.cover_rest.specs.declared.begun.Begun.{Begun}
use Rattle.cover_rest.specs.Rest.{all_below, body_at, is_rest_list, may_go_on, none_below, rises, written}

pub body-here : (bs : List (List ℕ)) (x : ℕ) (d : List ℕ) → x < length bs → get_or bs x d ≡ body_at bs x
body-here [] x d h = absurd (omega arith)
body-here (b ∷ bs) zero d h = refl
body-here (b ∷ bs) (suc x) d h = body-here bs x d (omega arith)

pub body-past : (bs : List (List ℕ)) (x : ℕ) → length bs ≤ x → body_at bs x ≡ []
body-past [] x h = refl
body-past (b ∷ bs) zero h = absurd (omega arith)
body-past (b ∷ bs) (suc x) h = body-past bs x (omega arith)

not-one : (a b c p q r : Bool) → false ≡ ((a && b) && c) → (((a && p) && (b && q)) && (c && r)) ≡ false
not-one false b c p q r e = refl
not-one true false c false q r e = refl
not-one true false c true q r e = refl
not-one true true false false q r e = refl
not-one true true false true false r e = refl
not-one true true false true true r e = refl
not-one true true true p q r e = absurd (cc)

-- where an item may not stand behind another, no list with both is one
pub not-after : (heads n last : ℕ) (rest : List ℕ) (i : ℕ) (whole : Bool) → i < length rest →
    false ≡ ((nat_lt last (get_or rest i 0) && nat_lt (get_or rest i 0) n) && nat_le heads (get_or rest i 0)) →
    ((rises (last ∷ drop i rest) && all_below n (drop i rest)) && none_below heads (drop i rest)) ≡ whole → false ≡ whole
not-after heads n last rest i whole h fails is =
    let x : ℕ = get_or rest i 0 in
    let more : List ℕ = drop (suc i) rest in
    let split : drop i rest ≡ x ∷ more = drop-cons rest i 0 h in
    let bad = not-one (nat_lt last x) (nat_lt x n) (nat_le heads x) (rises (x ∷ more)) (all_below n more) (none_below heads more) fails in
    sym bad ∙ ap (λ l. (rises (last ∷ l) && all_below n l) && none_below heads l) (sym split) ∙ is

join : (t o r b n : Bool) → ((t && o) && ((r && b) && n)) ≡ ((r && (t && b)) && (n && o))
join false o false b n = refl
join false o true b n = refl
join true true false b n = refl
join true false false b n = refl
join true true true true true = refl
join true true true true false = refl
join true true true false n = refl
join true false true true true = refl
join true false true true false = refl
join true false true false n = refl

-- the tests of a list's first item and of those behind it are that of the list
pub is-list : (heads : List Begun) (bs : List (List ℕ)) (may : ℕ → List ℕ → Bool) (class : ℕ) (list tail : List ℕ) (n : ℕ)
    (on follow : Bool) → 1 ≤ length list → tail ≡ drop 1 list →
    length bs ≡ n → on ≡ may_go_on may class (slice_get heads (get_or list 0 0)) tail (written bs list) →
    follow ≡ ((rises (get_or list 0 0 ∷ tail) && all_below n tail) && none_below (length heads) tail) →
    ((nat_lt (get_or list 0 0) n && on) && follow) ≡ is_rest_list heads bs may class list
is-list heads bs may class [] tail n on follow some cut long e f = absurd (omega arith)
is-list heads bs may class (x ∷ xs) tail n on follow some cut long e f =
    let P : ℕ → Type 0 = λ n. ((nat_lt x n && on) && follow) ≡ is_rest_list heads bs may class (x ∷ xs) in
    let goes : on ≡ may_go_on may class (slice_get heads x) xs (written bs (x ∷ xs)) =
    e ∙ ap (λ l. may_go_on may class (slice_get heads x) l (written bs (x ∷ xs))) cut in
    let follows : follow ≡ ((rises (x ∷ xs) && all_below (length bs) xs) && none_below (length heads) xs) =
    f ∙ ap (λ l. (rises (x ∷ l) && all_below n l) && none_below (length heads) l) cut
    ∙ ap (λ n. (rises (x ∷ xs) && all_below n xs) && none_below (length heads) xs) (sym long) in
    subst P long (ap (λ o. (nat_lt x (length bs) && o) && follow) goes
    ∙ ap (λ o. (nat_lt x (length bs) && may_go_on may class (slice_get heads x) xs (written bs (x ∷ xs))) && o) follows
    ∙ join (nat_lt x (length bs)) (may_go_on may class (slice_get heads x) xs (written bs (x ∷ xs))) (rises (x ∷ xs))
    (all_below (length bs) xs) (none_below (length heads) xs))

-- a tail that is taken whole
pub tail-is : (list : List ℕ) → 1 ≤ length list → take (length list - 1) (drop 1 list) ≡ drop 1 list
tail-is list h = take_all (length list - 1) (drop 1 list) (omega (arith, length-drop 1 list))
