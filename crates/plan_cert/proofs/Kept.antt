-- The prices that are kept while rows are read.
use Rattle.std.proofs.Common.{◌≡◌, ◌≢◌, ℕ, ℤ, ◌+◌, ◌<◌, ◌≤◌, ◌&&◌, Bool, true, false, nat_eq, List, [], ◌∷◌, ◌++◌, length, drop, refl, sym, ap, ◌∙◌, arith, append_assoc, append-nil}
use Rattle.std.proofs.lemmas.Bool.Decides.{nat_tests}
use Rattle.std.proofs.lemmas.List.{drop_all}
use Rattle.std.proofs.lemmas.List.FromFn.{get_or-map-range_with_len, length-map-range_with_len}
use Rattle.std.specs.List.{cons_option, filter_map}
use Rattle.std.specs.Prelude.{Option, Some, None, is_none, is_some, slice_set, if◌then◌else◌}
use Rattle.vdv451_text.specs.declared.table.Field.{Field}
use Rattle.plan_cert.specs.declared.cert.Pass.{Pass}
use Rattle.plan_cert.specs.declared.cert.Pass.TheVariants.{BlockNumber, BlockCost, DutyNumber, DutyCost}
use Rattle.plan_cert.specs.declared.slots.Entry.{Entry}
use Rattle.plan_cert.specs.declared.slots.Slots.{Slots}
use Rattle.plan_cert.specs.Numbers.{same_pass}
use Rattle.plan_cert.specs.Prices.{entry, is_of, found_price, found_prices, found_slots, slot_at, slots_in, with_slot, wrong_price}
use Rattle.plan_cert.proofs.Lists.{same-on, set-one}

-- One entry more: it is found where nothing was, and nothing else is found otherwise.
found-here : (pass : Pass) (n : ℕ) (es : List Entry) (e : Entry) → found_price pass n es ≡ None →
    found_price pass n (es ++ e ∷ []) ≡ (if is_of pass n e then Some e.price else None)
found-here pass n [] e none = refl
found-here pass n (x ∷ xs) e none =
    elim (is_of pass n x) as (λ t. (if t then Some x.price else found_price pass n xs) ≡ None →
    (if t then Some x.price else found_price pass n (xs ++ e ∷ [])) ≡ (if is_of pass n e then Some e.price else None)) [
      | true ↦ λ h. absurd (cc)
      | false ↦ λ h. found-here pass n xs e h
    ] none

found-other : (pass : Pass) (n : ℕ) (es : List Entry) (e : Entry) → is_of pass n e ≡ false →
    found_price pass n (es ++ e ∷ []) ≡ found_price pass n es
found-other pass n [] e off = ap (λ (t : Bool). if t then Some e.price else None) off
found-other pass n (x ∷ xs) e off = ap (λ (o : Option ℤ). if is_of pass n x then Some x.price else o) (found-other pass n xs e off)

and-false : (a : Bool) → a && false ≡ false
and-false true = refl
and-false false = refl

-- the prices of another pass
other-pass : (count : ℕ) (pass : Pass) (es : List Entry) (e : Entry) → same_pass e.pass pass ≡ false →
    found_prices count pass (es ++ e ∷ []) ≡ found_prices count pass es
other-pass count pass es e off =
    same-on (λ n. found_price pass n (es ++ e ∷ [])) (λ n. found_price pass n es) 0 count
    (λ n. found-other pass n es e (ap (λ (t : Bool). t && nat_eq e.number n) off))

-- The prices of the entry's own pass. One price more changes what is found of its own pass at its own number, where nothing was found
-- before, and nothing else, as an entry is of one number. Prices of other passes stay as they are (`other-pass`). So to write a price
-- into its empty slot is to let the definition see one entry more, which is `put-slot`.
own-pass : (count : ℕ) (pass : Pass) (es : List Entry) (e : Entry) → same_pass e.pass pass ≡ true → e.number < count →
    found_price pass e.number es ≡ None →
    found_prices count pass (es ++ e ∷ []) ≡ slice_set (found_prices count pass es) e.number (Some e.price)
own-pass count pass es e own below none =
    let zero : 0 + e.number ≡ e.number = omega arith in
    let here : found_price pass (0 + e.number) (es ++ e ∷ []) ≡ Some e.price =
    (ap (λ (n : ℕ). found_price pass n (es ++ e ∷ [])) zero ∙ found-here pass e.number es e none)
    ∙ ap (λ (t : Bool). if t then Some e.price else None) (is-own pass e own) in
    sym (set-one (λ n. found_price pass n es) (λ n. found_price pass n (es ++ e ∷ [])) 0 count e.number (Some e.price) below here
    (λ n other. sym (found-other pass n es e (is-other pass n e (λ same. other (same ∙ sym zero))))))
  where
    is-own : (pass : Pass) (e : Entry) → same_pass e.pass pass ≡ true → is_of pass e.number e ≡ true
    is-own pass e own = let equal : nat_eq e.number e.number ≡ true = grind (arith, nat_tests) in cc

    is-other : (pass : Pass) (n : ℕ) (e : Entry) → n ≢ e.number → is_of pass n e ≡ false
    is-other pass n e other = let off : nat_eq e.number n ≡ false = grind (arith, nat_tests) in
        ap (λ (t : Bool). same_pass e.pass pass && t) off ∙ and-false (same_pass e.pass pass)

-- an entry that is kept
pub put-slot : (count : Pass → ℕ) (es : List Entry) (pass : Pass) (number : ℕ) (price : ℤ) → number < count pass →
    found_price pass number es ≡ None →
    found_slots count (es ++ entry pass number price ∷ []) ≡ with_slot (found_slots count es) pass number price
put-slot count es BlockNumber number price below none =
    let e : Entry = entry BlockNumber number price in
    let one = own-pass (count BlockNumber) BlockNumber es e refl below none in
    let two = other-pass (count BlockCost) BlockCost es e refl in
    let three = other-pass (count DutyNumber) DutyNumber es e refl in
    let four = other-pass (count DutyCost) DutyCost es e refl in
    rw (one, two, three, four) refl
put-slot count es BlockCost number price below none =
    let e : Entry = entry BlockCost number price in
    let one = other-pass (count BlockNumber) BlockNumber es e refl in
    let two = own-pass (count BlockCost) BlockCost es e refl below none in
    let three = other-pass (count DutyNumber) DutyNumber es e refl in
    let four = other-pass (count DutyCost) DutyCost es e refl in
    rw (one, two, three, four) refl
put-slot count es DutyNumber number price below none =
    let e : Entry = entry DutyNumber number price in
    let one = other-pass (count BlockNumber) BlockNumber es e refl in
    let two = other-pass (count BlockCost) BlockCost es e refl in
    let three = own-pass (count DutyNumber) DutyNumber es e refl below none in
    let four = other-pass (count DutyCost) DutyCost es e refl in
    rw (one, two, three, four) refl
put-slot count es DutyCost number price below none =
    let e : Entry = entry DutyCost number price in
    let one = other-pass (count BlockNumber) BlockNumber es e refl in
    let two = other-pass (count BlockCost) BlockCost es e refl in
    let three = other-pass (count DutyNumber) DutyNumber es e refl in
    let four = own-pass (count DutyCost) DutyCost es e refl below none in
    rw (one, two, three, four) refl

zero-more : (n : ℕ) → 0 + n ≡ n
zero-more n = omega arith

-- the slot of a number is what was found of it
pub at-slot : (count : Pass → ℕ) (es : List Entry) (pass : Pass) (number : ℕ) → number < count pass →
    slot_at (found_slots count es) pass number ≡ found_price pass number es
at-slot count es BlockNumber number below =
    get_or-map-range_with_len (λ n. found_price BlockNumber n es) 0 (count BlockNumber) number number None below (zero-more number)
at-slot count es BlockCost number below =
    get_or-map-range_with_len (λ n. found_price BlockCost n es) 0 (count BlockCost) number number None below (zero-more number)
at-slot count es DutyNumber number below =
    get_or-map-range_with_len (λ n. found_price DutyNumber n es) 0 (count DutyNumber) number number None below (zero-more number)
at-slot count es DutyCost number below =
    get_or-map-range_with_len (λ n. found_price DutyCost n es) 0 (count DutyCost) number number None below (zero-more number)

pub slots-long : (count : Pass → ℕ) (es : List Entry) (pass : Pass) → length (slots_in (found_slots count es) pass) ≡ count pass
slots-long count es BlockNumber = length-map-range_with_len (λ n. found_price BlockNumber n es) 0 (count BlockNumber)
slots-long count es BlockCost = length-map-range_with_len (λ n. found_price BlockCost n es) 0 (count BlockCost)
slots-long count es DutyNumber = length-map-range_with_len (λ n. found_price DutyNumber n es) 0 (count DutyNumber)
slots-long count es DutyCost = length-map-range_with_len (λ n. found_price DutyCost n es) 0 (count DutyCost)

-- What is kept of the rows before a place, none of which is wrong. The invariant of the loop over the rows: `before` are the entries
-- of the rows up to the place, the slots are what is found among these, and from the place on the search for the first wrong row goes
-- on with them. So a row is wrong, for the loop and for the definition, where it says no price or where its slot is filled, and after
-- the last row the slots are those of all rows.
pub record IsKept (say : List Field → Option Entry) (count : Pass → ℕ) (rows : List (List Field)) (slots : Slots) (place : ℕ) : Type 0 where
  pub before : List Entry
  pub wrong : wrong_price say [] 0 rows ≡ wrong_price say before place (drop place rows)
  pub slots_are : slots ≡ found_slots count before
  pub all : filter_map say rows ≡ before ++ filter_map say (drop place rows)

pub kept-start : (say : List Field → Option Entry) (count : Pass → ℕ) (rows : List (List Field)) (slots : Slots) →
    slots ≡ found_slots count [] → IsKept say count rows slots 0
kept-start say count rows slots are = record { before = []; wrong = refl; slots_are = are; all = refl }

-- a row that says nothing is the first wrong one
pub wrong-none : (say : List Field → Option Entry) (count : Pass → ℕ) (rows : List (List Field)) (slots : Slots) (place : ℕ)
    (row : List Field) (rest : List (List Field)) → IsKept say count rows slots place →
    drop place rows ≡ row ∷ rest → say row ≡ None → Some place ≡ wrong_price say [] 0 rows
wrong-none say count rows slots place row rest kept at none =
    let step : (o : Option Entry) → o ≡ None →
    Some place ≡ elim o [
      | None ↦ Some place
      | Some e ↦
          if is_some (found_price e.pass e.number kept.before) then Some place else wrong_price say (kept.before ++ e ∷ []) (place + 1) rest
    ] =
    λ o. elim o as (λ o. o ≡ None →
    Some place ≡ elim o [
      | None ↦ Some place
      | Some e ↦
          if is_some (found_price e.pass e.number kept.before) then Some place else wrong_price say (kept.before ++ e ∷ []) (place + 1) rest
    ]) [
      | None ↦ λ h. refl
      | Some e ↦ λ h. absurd (cc)
    ] in
    step (say row) none ∙ sym (kept.wrong ∙ ap (wrong_price say kept.before place) at)

-- a row whose price was read
pub wrong-twice : (say : List Field → Option Entry) (count : Pass → ℕ) (rows : List (List Field)) (slots : Slots) (place : ℕ)
    (row : List Field) (rest : List (List Field)) (e : Entry) → IsKept say count rows slots place →
    drop place rows ≡ row ∷ rest → say row ≡ Some e → e.number < count e.pass → is_none (slot_at slots e.pass e.number) ≡ false →
    Some place ≡ wrong_price say [] 0 rows
wrong-twice say count rows slots place row rest e kept at says below taken =
    let same : slot_at slots e.pass e.number ≡ found_price e.pass e.number kept.before =
    ap (λ (s : Slots). slot_at s e.pass e.number) kept.slots_are ∙ at-slot count kept.before e.pass e.number below in
    let there : is_some (found_price e.pass e.number kept.before) ≡ true =
    not-none (found_price e.pass e.number kept.before) (sym (ap is_none same) ∙ taken) in
    let stop : wrong_price say kept.before place (row ∷ rest) ≡ Some place =
    ap (λ (o : Option Entry).
    elim o [
      | None ↦ Some place
      | Some x ↦
          if is_some (found_price x.pass x.number kept.before) then Some place else wrong_price say (kept.before ++ x ∷ []) (place + 1) rest
    ]) says
    ∙ ap (λ (t : Bool). if t then Some place else wrong_price say (kept.before ++ e ∷ []) (place + 1) rest) there in
    sym (kept.wrong ∙ (ap (wrong_price say kept.before place) at ∙ stop))
  where
    not-none : (o : Option ℤ) → is_none o ≡ false → is_some o ≡ true
    not-none None h = absurd (cc)
    not-none (Some z) h = refl

-- a row more
pub kept-more : (say : List Field → Option Entry) (count : Pass → ℕ) (rows : List (List Field)) (slots now : Slots) (place : ℕ)
    (row : List Field) (e : Entry) → IsKept say count rows slots place →
    drop place rows ≡ row ∷ drop (place + 1) rows → say row ≡ Some e → e.number < count e.pass →
    is_none (slot_at slots e.pass e.number) ≡ true → now ≡ with_slot slots e.pass e.number e.price →
    IsKept say count rows now (place + 1)
kept-more say count rows slots now place row e kept at says below free put =
    let rest = drop (place + 1) rows in
    let same : slot_at slots e.pass e.number ≡ found_price e.pass e.number kept.before =
    ap (λ (s : Slots). slot_at s e.pass e.number) kept.slots_are ∙ at-slot count kept.before e.pass e.number below in
    let none : found_price e.pass e.number kept.before ≡ None =
    is-none (found_price e.pass e.number kept.before) (sym (ap is_none same) ∙ free) in
    let go : wrong_price say kept.before place (row ∷ rest) ≡ wrong_price say (kept.before ++ e ∷ []) (place + 1) rest =
    ap (λ (o : Option Entry).
    elim o [
      | None ↦ Some place
      | Some x ↦
          if is_some (found_price x.pass x.number kept.before) then Some place else wrong_price say (kept.before ++ x ∷ []) (place + 1) rest
    ]) says
    ∙ ap (λ (o : Option ℤ). if is_some o then Some place else wrong_price say (kept.before ++ e ∷ []) (place + 1) rest) none in
    record {
      before = kept.before ++ e ∷ [];
      wrong = kept.wrong ∙ (ap (wrong_price say kept.before place) at ∙ go);
      slots_are = put ∙ (ap (λ (s : Slots). with_slot s e.pass e.number e.price) kept.slots_are
          ∙ sym (put-slot count kept.before e.pass e.number e.price below none));
      all = kept.all ∙ ((ap (λ (rs : List (List Field)). kept.before ++ filter_map say rs) at
          ∙ ap (λ (o : Option Entry). kept.before ++ cons_option o (filter_map say rest)) says)
          ∙ sym (append_assoc kept.before (e ∷ []) (filter_map say rest)));
    }
  where
    is-none : (o : Option ℤ) → is_none o ≡ true → o ≡ None
    is-none None h = refl
    is-none (Some z) h = absurd (cc)

-- after the last row
pub kept-end : (say : List Field → Option Entry) (count : Pass → ℕ) (rows : List (List Field)) (slots : Slots) (place : ℕ) →
    IsKept say count rows slots place → length rows ≤ place → None ≡ wrong_price say [] 0 rows
kept-end say count rows slots place kept past = sym (kept.wrong ∙ ap (wrong_price say kept.before place) (drop_all place rows past))

pub kept-slots : (say : List Field → Option Entry) (count : Pass → ℕ) (rows : List (List Field)) (slots : Slots) (place : ℕ) →
    IsKept say count rows slots place → length rows ≤ place → slots ≡ found_slots count (filter_map say rows)
kept-slots say count rows slots place kept past =
    let all : filter_map say rows ≡ kept.before =
    kept.all ∙ (ap (λ (rs : List (List Field)). kept.before ++ filter_map say rs) (drop_all place rows past) ∙ append-nil kept.before) in
    kept.slots_are ∙ ap (found_slots count) (sym all)
