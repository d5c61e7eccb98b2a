-- Prices that are put on first items make written-out lists as dear as the lists of the rest.
use Rattle.std.proofs.Common.{◌≡◌, ◌≢◌, ◌==◌, ℕ, pos, ◌+◌, ◌<◌, ◌≤◌, true, false, cond, nat_lt, zero, suc, List, [], ◌∷◌, length, set, replicate, refl, sym, ap, subst, ◌∙◌, arith, inl, inr}
use Rattle.std.proofs.lemmas.Int.{ints}
use Rattle.std.proofs.lemmas.Bool.Decides.{nat_tests}
use Rattle.std.proofs.lemmas.Bool.{cases_lt}
use Rattle.std.proofs.lemmas.List.{length-set}
use Rattle.plan_core.specs.declared.Price.{Price}
use Rattle.cover_core.specs.Cover.{AllBelow}
use Rattle.cover_core.specs.FirstLeast.{AllWithin}
use Rattle.cover_core.specs.Plans.{price_at, price_of, times}
use Rattle.cover_core.proofs.Parts.{times-append}
use Rattle.cover_core.proofs.Values.{price_of-append}
use Rattle.cover_rest.specs.Laws.{StandForAll}
use Rattle.cover_rest.specs.Rest.{all_below, body_at, joined, written}
use Rattle.cover_rest.proofs.Lists.{both-true}
use Rattle.cover_rest.proofs.Whole.{back-below}
use Rattle.rest_labels.specs.Prices.{AreAlike, nothing, placed, placed_all}

price_at-set : (sp : List Price) (t : ℕ) (p : Price) → t < length sp → price_at (set sp t p) t ≡ p.0
price_at-set [] t p h = absurd (omega arith)
price_at-set (x ∷ sp) zero p h = refl
price_at-set (x ∷ sp) (suc t) p h = price_at-set sp t p (omega arith)

price_at-other : (sp : List Price) (t u : ℕ) (p : Price) → t ≢ u → price_at (set sp t p) u ≡ price_at sp u
price_at-other [] t u p h = refl
price_at-other (x ∷ sp) zero zero p h = absurd (h refl)
price_at-other (x ∷ sp) zero (suc u) p h = refl
price_at-other (x ∷ sp) (suc t) zero p h = refl
price_at-other (x ∷ sp) (suc t) (suc u) p h = price_at-other sp t u p (λ e. h (ap (λ n. suc n) e))

length-placed : (b : List ℕ) (p : Price) (sp : List Price) → length (placed b p sp) ≡ length sp
length-placed [] p sp = refl
length-placed (t ∷ ts) p sp = length-set sp t p

pub length-placed_all : (bs : List (List ℕ)) (ps sp : List Price) → length (placed_all bs ps sp) ≡ length sp
length-placed_all [] ps sp = refl
length-placed_all (b ∷ bs) [] sp = refl
length-placed_all (b ∷ bs) (p ∷ ps) sp = length-placed_all bs ps (placed b p sp) ∙ length-placed b p sp

-- This section: prices that were placed elsewhere do not touch an item. Each item of the rest has its price put on the first of the
-- items that it stands for; an item that does not stand in that list keeps the price it had, through all further ones.
placed-other : (b : List ℕ) (p : Price) (sp : List Price) (u : ℕ) → times u b ≡ 0 → price_at (placed b p sp) u ≡ price_at sp u
placed-other [] p sp u h = refl
placed-other (t ∷ ts) p sp u h = price_at-other sp t u p (apart t h)
  where
    apart : (t : ℕ) → cond (u == t) 1 0 + times u ts ≡ 0 → t ≢ u
    apart t h e =
        let here : (u == t) ≡ true = grind (arith, nat_tests) in
        let some : 1 + times u ts ≡ 0 = ap (λ b. cond b 1 0 + times u ts) (sym here) ∙ h in
        absurd (omega arith)

placed_all-other : (bs : List (List ℕ)) (ps sp : List Price) (u : ℕ) → times u (joined bs) ≡ 0 →
    price_at (placed_all bs ps sp) u ≡ price_at sp u
placed_all-other [] ps sp u h = refl
placed_all-other (b ∷ bs) [] sp u h = refl
placed_all-other (b ∷ bs) (p ∷ ps) sp u h =
    let both = times-append u b (joined bs) in
    let here : times u b ≡ 0 = omega arith in
    let rest : times u (joined bs) ≡ 0 = omega arith in
    placed_all-other bs ps (placed b p sp) u rest ∙ placed-other b p sp u here

-- an item stands in a list that begins with it, and in one with it behind another
has-first : (x : ℕ) (xs : List ℕ) → 1 ≤ times x (x ∷ xs)
has-first x xs = let same : (x == x) ≡ true = grind (arith, nat_tests) in rw same (omega arith)

has-more : (y x : ℕ) (xs : List ℕ) → times y xs ≤ times y (x ∷ xs)
has-more y x xs = omega arith

same-prices : (sp tp : List Price) (xs : List ℕ) → ((u : ℕ) → 1 ≤ times u xs → price_at sp u ≡ price_at tp u) →
    price_of sp xs ≡ price_of tp xs
same-prices sp tp [] h = refl
same-prices sp tp (x ∷ xs) h =
    let rest = same-prices sp tp xs (λ u some. let more = has-more u x xs in h u (omega arith)) in
    let here = h x (has-first x xs) in
    omega (arith, ints)

no-prices : (sp : List Price) (xs : List ℕ) → ((u : ℕ) → 1 ≤ times u xs → price_at sp u ≡ pos 0) → price_of sp xs ≡ pos 0
no-prices sp [] h = refl
no-prices sp (x ∷ xs) h =
    let rest = no-prices sp xs (λ u some. let more = has-more u x xs in h u (omega arith)) in
    let here = h x (has-first x xs) in
    omega (arith, ints)

-- Of the items that one item of the rest stands for, the first bears the whole price and the others cost nothing; as none stands
-- twice, the list costs just that price.
placed-price : (t : ℕ) (ts : List ℕ) (p : Price) (sp : List Price) → t < length sp → ((u : ℕ) → times u (t ∷ ts) ≤ 1) →
    ((u : ℕ) → 1 ≤ times u (t ∷ ts) → price_at sp u ≡ pos 0) →
    price_of (set sp t p) (t ∷ ts) ≡ p.0
placed-price t ts p sp below once free =
    let first = price_at-set sp t p below in
    let rest = no-prices (set sp t p) ts (λ u some. price_at-other sp t u p (apart u some)
    ∙ free u (let more = has-more u t ts in omega arith)) in
    omega (arith, ints)
  where
    apart : (u : ℕ) → 1 ≤ times u ts → t ≢ u
    apart u some e =
        let here : (u == t) ≡ true = grind (arith, nat_tests) in
        let two : 1 + times u ts ≤ 1 = subst (λ b. cond b 1 0 + times u ts ≤ 1) here (once u) in
        absurd (omega arith)

-- After the prices of all items of the rest are placed, what the x-th one stands for costs the price of x. The induction is over the
-- lists with any prices that are there before, as long as the items that are still to come are free of them: for the first list the
-- later ones change nothing, as no item stands in two lists; for a later list the first one's item is none of its own.
body-price : (bs : List (List ℕ)) (ps sp : List Price) (x : ℕ) → length bs ≤ length ps → AllBelow (length sp) (joined bs) →
    ((u : ℕ) → times u (joined bs) ≤ 1) →
    ((u : ℕ) → 1 ≤ times u (joined bs) → price_at sp u ≡ pos 0) → x < length bs → body_at bs x ≢ [] →
    price_of (placed_all bs ps sp) (body_at bs x) ≡ price_at ps x
body-price [] ps sp x long below once free there some = absurd (omega arith)
body-price (b ∷ bs) [] sp x long below once free there some = absurd (omega arith)
body-price ([] ∷ bs) (p ∷ ps) sp zero long below once free there some = absurd (some refl)
body-price ((t ∷ ts) ∷ bs) (p ∷ ps) sp zero long below once free there some =
    same-prices (placed_all bs ps (set sp t p)) (set sp t p) (t ∷ ts) (λ u has.
    let both = times-append u (t ∷ ts) (joined bs) in
    let most = once u in
    let none : times u (joined bs) ≡ 0 = omega arith in
    placed_all-other bs ps (set sp t p) u none)
    ∙ placed-price t ts p sp below.0 (λ u. let both = times-append u (t ∷ ts) (joined bs) in let most = once u in omega arith)
    (λ u has. let both = times-append u (t ∷ ts) (joined bs) in free u (omega arith))
body-price (b ∷ bs) (p ∷ ps) sp (suc x) long below once free there some =
    body-price bs ps (placed b p sp) x (omega arith)
    (subst (λ n. AllBelow n (joined bs)) (sym (length-placed b p sp)) (back-below (length sp) b (joined bs) below))
    (λ u. let both = times-append u b (joined bs) in let most = once u in omega arith)
    (λ u has.
    let both = times-append u b (joined bs) in
    let most = once u in
    let none : times u b ≡ 0 = omega arith in
    placed-other b p sp u none ∙ free u (omega arith)) (omega arith) some

no-price : (n u : ℕ) → price_at (replicate n nothing) u ≡ pos 0
no-price zero u = refl
no-price (suc n) zero = refl
no-price (suc n) (suc u) = no-price n u

length-blank : (n : ℕ) → length (replicate n nothing) ≡ n
length-blank zero = refl
length-blank (suc n) = ap (λ m. suc m) (length-blank n)

-- From one item of the rest to a list: written out, the list is what its items stand for, one behind another, so its price is the
-- sum of theirs, each of which is the price of the item.
list-price : (n : ℕ) (bs : List (List ℕ)) (ps sp : List Price) → ((x : ℕ) → x < length bs → price_of sp (body_at bs x) ≡ price_at ps x) →
    (list : List ℕ) → all_below (length bs) list ≡ true →
    price_of sp (written bs list) ≡ price_of ps list
list-price n bs ps sp each [] below = refl
list-price n bs ps sp each (x ∷ xs) below =
    let (there, more) = both-true (nat_lt x (length bs)) (all_below (length bs) xs) below in
    let within : x < length bs = grind (arith, nat_tests) in
    let rest = list-price n bs ps sp each xs more in
    let here = each x within in
    let both = price_of-append sp (body_at bs x) (written bs xs) in
    omega (arith, ints)

-- an item that is not there stands in no list of items that are
past-none : (n : ℕ) (xs : List ℕ) (u : ℕ) → n ≤ u → AllBelow n xs → times u xs ≡ 0
past-none n [] u h below = refl
past-none n (x ∷ xs) u h below =
    let less = below.0 in
    let other : (u == x) ≡ false = grind (arith, nat_tests) in
    let rest = past-none n xs u h below.1 in
    rw other (omega arith)

-- The main lemma: with prices spread over the first items, a written-out list costs as much as the list of the rest, for all lists.
-- It starts from prices of nothing, and what the items of the rest stand for is each item once (`StandForAll`), as `body-price`
-- asks. So labels of the problem itself price the lists of the rest, and no search of its own is needed: the value with which a
-- written-out list closes is the value of the list of the rest.
pub spread-alike : (n : ℕ) (bs : List (List ℕ)) (ps : List Price) → length bs ≤ length ps → StandForAll n bs →
    AreAlike bs ps (placed_all bs ps (replicate n nothing))
spread-alike n bs ps long all = list-price n bs ps (placed_all bs ps (replicate n nothing)) (λ x there.
    body-price bs ps (replicate n nothing) x long (subst (λ m. AllBelow m (joined bs)) (sym (length-blank n)) all.below) most
    (λ u has. no-price n u) there (all.some x there))
  where
    most : (u : ℕ) → times u (joined bs) ≤ 1
    most u = elim (cases_lt u n) [
      | inl within ↦ let one = all.once u within in omega arith
      | inr past ↦ let none = past-none n (joined bs) u past all.below in omega arith
    ]

set-within : (m : ℕ) (sp : List Price) (t : ℕ) (p : Price) → AllWithin m sp → AllWithin m (p ∷ []) → AllWithin m (set sp t p)
set-within m [] t p h k = tt
set-within m (x ∷ sp) zero p h k = (k.0, k.1, h.2)
set-within m (x ∷ sp) (suc t) p h k = (h.0, h.1, set-within m sp t p h.2 k)

blank-within : (m n : ℕ) → AllWithin m (replicate n nothing)
blank-within m zero = tt
blank-within m (suc n) = (omega (arith, ints), omega (arith, ints), blank-within m n)

-- Prices keep their range when they are spread: each item has a price of the rest, or nothing, or what it had, and never a sum of
-- several. So the numbers of labels under spread prices fit where those of the rest do.
pub placed-within : (m : ℕ) (bs : List (List ℕ)) (ps sp : List Price) → AllWithin m ps → AllWithin m sp → AllWithin m (placed_all bs ps sp)
placed-within m [] ps sp h k = k
placed-within m (b ∷ bs) [] sp h k = k
placed-within m ([] ∷ bs) (p ∷ ps) sp h k = placed-within m bs ps sp h.2 k
placed-within m ((t ∷ ts) ∷ bs) (p ∷ ps) sp h k = placed-within m bs ps (set sp t p) h.2 (set-within m sp t p k (h.0, h.1, tt))

pub spread-within : (m n : ℕ) (bs : List (List ℕ)) (ps : List Price) → AllWithin m ps → AllWithin m (placed_all bs ps (replicate n nothing))
spread-within m n bs ps h = placed-within m bs ps (replicate n nothing) h (blank-within m n)

pub spread-length : (n : ℕ) (bs : List (List ℕ)) (ps : List Price) → length (placed_all bs ps (replicate n nothing)) ≡ n
spread-length n bs ps = length-placed_all bs ps (replicate n nothing) ∙ length-blank n
