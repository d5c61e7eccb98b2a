-- Rows that say entries one by one, and prices that are found among entries.
use Rattle.std.proofs.Common.{◌≡◌, ℕ, ℤ, ◌+◌, ◌≤◌, ◌&&◌, Bool, true, false, nat_eq, List, [], ◌∷◌, ◌++◌, length, map, refl, sym, ap, ◌∙◌, subst, arith, append_assoc, append-nil}
use Rattle.std.proofs.lemmas.Bool.Decides.{nat_tests}
use Rattle.std.specs.List.{cons_option, filter_map, list_all, position_from, range_with_len}
use Rattle.std.specs.Prelude.{Option, Some, None, is_none, is_some, if◌then◌else◌}
use Rattle.vdv451_text.specs.declared.table.Field.{Field}
use Rattle.plan_cert.specs.declared.cert.Pass.{Pass}
use Rattle.plan_cert.specs.declared.slots.Entry.{Entry}
use Rattle.plan_cert.specs.Numbers.{same_pass}
use Rattle.plan_cert.specs.Prices.{all_there, entry, is_of, found_price, wrong_price}
use Rattle.plan_cert.proofs.Lists.{same-from}

-- each row says the entry at its place
abbrev pub Says : {A : Type 0} → (List Field → Option A) → List (List Field) → List A → Type 0
Says say [] [] = Unit {0}
Says say (row ∷ rows) (e ∷ es) = (say row ≡ Some e) × Says say rows es
Says say _ _ = ⊥

pub says-both : {A : Type 0} (say : List Field → Option A) (rows : List (List Field)) (es : List A) (rows' : List (List Field))
    (es' : List A) → Says say rows es → Says say rows' es' → Says say (rows ++ rows') (es ++ es')
says-both say [] [] rows' es' h k = k
says-both say [] (e ∷ es) rows' es' h k = absurd h
says-both say (row ∷ rows) [] rows' es' h k = absurd h
says-both say (row ∷ rows) (e ∷ es) rows' es' h k = (h.0, says-both say rows es rows' es' h.1 k)

pub said : {A : Type 0} (say : List Field → Option A) (rows : List (List Field)) (es : List A) → Says say rows es → filter_map say rows ≡ es
said say [] [] h = refl
said say [] (e ∷ es) h = absurd h
said say (row ∷ rows) [] h = absurd h
said {A} say (row ∷ rows) (e ∷ es) h =
    ap (λ (o : Option A). cons_option o (filter_map say rows)) h.0 ∙ ap (λ (xs : List A). e ∷ xs) (said say rows es h.1)

-- no row is wrong
pub all-say : {A : Type 0} (say : List Field → Option A) (from : ℕ) (rows : List (List Field)) (es : List A) → Says say rows es →
    position_from (λ row. is_none (say row)) from rows ≡ None
all-say say from [] [] h = refl
all-say say from [] (e ∷ es) h = absurd h
all-say say from (row ∷ rows) [] h = absurd h
all-say {A} say from (row ∷ rows) (e ∷ es) h =
    ap (λ (o : Option A). if is_none o then Some from else position_from (λ r. is_none (say r)) (from + 1) rows) h.0
    ∙ all-say say (from + 1) rows es h.1

-- each entry gives a price that none before it gives
abbrev pub AreNew : List Entry → List Entry → Type 0
AreNew before [] = Unit {0}
AreNew before (e ∷ es) = (found_price e.pass e.number before ≡ None) × AreNew (before ++ e ∷ []) es

pub new-both : (before es es' : List Entry) → AreNew before es → AreNew (before ++ es) es' → AreNew before (es ++ es')
new-both before [] es' h k = let P : List Entry → Type 0 = λ b. AreNew b es' in subst P (append-nil before) k
new-both before (e ∷ es) es' h k =
    let P : List Entry → Type 0 = λ b. AreNew b es' in
    (h.0, new-both (before ++ e ∷ []) es es' h.1 (subst P (sym (append_assoc before (e ∷ []) es)) k))

-- The search for the first wrong row keeps the entries of the rows before, so it is followed with such entries before it: each row
-- says its entry, and no entry before gives a price of the same number; so no row is the first wrong one.
pub none-wrong : (say : List Field → Option Entry) (before : List Entry) (place : ℕ) (rows : List (List Field)) (es : List Entry) →
    Says say rows es → AreNew before es → wrong_price say before place rows ≡ None
none-wrong say before place [] [] h new = refl
none-wrong say before place [] (e ∷ es) h new = absurd h
none-wrong say before place (row ∷ rows) [] h new = absurd h
none-wrong say before place (row ∷ rows) (e ∷ es) h new =
    ap (λ (o : Option Entry).
    elim o [
      | None ↦ Some place
      | Some x ↦
          if is_some (found_price x.pass x.number before) then Some place else wrong_price say (before ++ x ∷ []) (place + 1) rows
    ]) h.0
    ∙ (ap (λ (o : Option ℤ). if is_some o then Some place else wrong_price say (before ++ e ∷ []) (place + 1) rows) new.0
    ∙ none-wrong say (before ++ e ∷ []) (place + 1) rows es h.1 new.1)

-- the prices of a pass, by numbers from one on
abbrev pub entries : Pass → ℕ → List ℤ → List Entry
entries pass number [] = []
entries pass number (z ∷ zs) = entry pass number z ∷ entries pass (number + 1) zs

-- what is found in two lists of entries
pub found-right : (pass : Pass) (n : ℕ) (es es' : List Entry) → found_price pass n es ≡ None →
    found_price pass n (es ++ es') ≡ found_price pass n es'
found-right pass n [] es' none = refl
found-right pass n (e ∷ es) es' none =
    elim (is_of pass n e) as (λ t. (if t then Some e.price else found_price pass n es) ≡ None →
    (if t then Some e.price else found_price pass n (es ++ es')) ≡ found_price pass n es') [
      | true ↦ λ h. absurd (cc)
      | false ↦ λ h. found-right pass n es es' h
    ] none

pub found-left : (pass : Pass) (n : ℕ) (es es' : List Entry) → found_price pass n es' ≡ None →
    found_price pass n (es ++ es') ≡ found_price pass n es
found-left pass n [] es' none = none
found-left pass n (e ∷ es) es' none = ap (λ (o : Option ℤ). if is_of pass n e then Some e.price else o) (found-left pass n es es' none)

-- nothing of another pass is found
pub other-none : (own pass : Pass) (n number : ℕ) (zs : List ℤ) → same_pass own pass ≡ false →
    found_price pass n (entries own number zs) ≡ None
other-none own pass n number [] off = refl
other-none own pass n number (z ∷ zs) off =
    ap (λ (t : Bool). if t && nat_eq number n then Some z else found_price pass n (entries own (number + 1) zs)) off
    ∙ other-none own pass n (number + 1) zs off

and-false : (a : Bool) → a && false ≡ false
and-false true = refl
and-false false = refl

-- Prices whose numbers rise are new. By induction along the numbers: what is asked of the entries before is that they give nothing
-- from this number on, and one entry more leaves this true from the next number on.
pub rising-new : (before : List Entry) (pass : Pass) (number : ℕ) (zs : List ℤ) →
    ((n : ℕ) → number ≤ n → found_price pass n before ≡ None) → AreNew before (entries pass number zs)
rising-new before pass number [] none = tt
rising-new before pass number (z ∷ zs) none =
    (none number (omega arith), rising-new (before ++ entry pass number z ∷ []) pass (number + 1) zs (λ n above. later n above))
  where
    later : (n : ℕ) → number + 1 ≤ n → found_price pass n (before ++ entry pass number z ∷ []) ≡ None
    later n above =
        let off : nat_eq number n ≡ false = grind (arith, nat_tests) in
        let head : is_of pass n (entry pass number z) ≡ false =
        ap (λ (t : Bool). same_pass pass pass && t) off ∙ and-false (same_pass pass pass) in
        let here : found_price pass n (entry pass number z ∷ []) ≡ None = ap (λ (t : Bool). if t then Some z else None) head in
        found-right pass n before (entry pass number z ∷ []) (none n (omega arith)) ∙ here

same-own : (pass : Pass) → same_pass pass pass ≡ true
same-own pass = grind (arith, nat_tests)

-- each price is found under its number
pub own-found : (pass : Pass) (number : ℕ) (zs : List ℤ) →
    map (λ n. found_price pass n (entries pass number zs)) (range_with_len number (length zs)) ≡ map (λ (z : ℤ). Some z) zs
own-found pass number [] = refl
own-found pass number (z ∷ zs) =
    let f : ℕ → Option ℤ = λ n. found_price pass n (entries pass number (z ∷ zs)) in
    let g : ℕ → Option ℤ = λ n. found_price pass n (entries pass (number + 1) zs) in
    let own = same-own pass in
    let equal : nat_eq number number ≡ true = grind (arith, nat_tests) in
    let head : f number ≡ Some z = ap (λ (t : Bool). if t && nat_eq number number then Some z else g number) own
    ∙ ap (λ (t : Bool). if true && t then Some z else g number) equal in
    let rest : map f (range_with_len (number + 1) (length zs)) ≡ map g (range_with_len (number + 1) (length zs)) =
    same-from f g (number + 1) (length zs) (λ n above. skip n above) in
    ap (λ (o : Option ℤ). o ∷ map f (range_with_len (number + 1) (length zs))) head
    ∙ ap (λ (os : List (Option ℤ)). Some z ∷ os) (rest ∙ own-found pass (number + 1) zs)
  where
    skip : (n : ℕ) → number + 1 ≤ n → found_price pass n (entries pass number (z ∷ zs)) ≡ found_price pass n (entries pass (number + 1) zs)
    skip n above =
        let off : nat_eq number n ≡ false = grind (arith, nat_tests) in
        let head : is_of pass n (entry pass number z) ≡ false =
        ap (λ (t : Bool). same_pass pass pass && t) off ∙ and-false (same_pass pass pass) in
        ap (λ (t : Bool). if t then Some z else found_price pass n (entries pass (number + 1) zs)) head

-- values that are all there
pub there : {A : Type 0} (xs : List A) → all_there (map (λ (x : A). Some x) xs) ≡ Some xs
there {A} xs = ap (λ (t : Bool). if t then Some (filter_map (λ (o : Option A). o) (map (λ (x : A). Some x) xs)) else None) (all xs)
    ∙ ap (λ (ys : List A). Some ys) (kept xs)
  where
    all : {A : Type 0} (xs : List A) → list_all is_some (map (λ (x : A). Some x) xs) ≡ true
    all [] = refl
    all (x ∷ xs) = all xs

    kept : {A : Type 0} (xs : List A) → filter_map (λ (o : Option A). o) (map (λ (x : A). Some x) xs) ≡ xs
    kept [] = refl
    kept {A} (x ∷ xs) = ap (λ (ys : List A). x ∷ ys) (kept xs)
