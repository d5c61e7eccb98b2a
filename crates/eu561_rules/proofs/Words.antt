-- Full breaks in the words of article 7.
use Rattle.std.proofs.Common.{◌≡◌, ℕ, ◌<◌, ◌≤◌, ◌⊎◌, inl, inr, Bool, true, false, cond, ◌||◌, zero, suc, List, [], ◌∷◌, length, take, get_or, refl, sym, ap, subst, ◌∙◌, arith}
use Rattle.std.proofs.lemmas.Bool.{cases_lt, and_from, and_parts}
use Rattle.std.specs.Prelude.{nat_le}
use Rattle.eu561_rules.specs.declared.rules.Drive.{Drive}
use Rattle.eu561_rules.specs.Duty.{completes_break, has_quarter, is_full_break_after, is_full_break, pause_before, IsQuarterFor, IsBreakInWords}
use Rattle.eu561_rules.specs.Summary.{latest_first}
use Rattle.eu561_rules.proofs.Runs.{le-true, true-le}

-- whether the drives before a place leave a quarter of an hour behind
abbrev pub quarter_at : List Drive → ℕ → Bool
quarter_at drives place = has_quarter (latest_first [] (take place drives))

break-after : (earlier xs : List Drive) (k : ℕ) → k < length xs →
    is_full_break_after earlier xs k ≡ completes_break (has_quarter (latest_first earlier (take k xs))) (pause_before xs k)
break-after earlier [] k h = absurd (omega arith)
break-after earlier (x ∷ xs) zero h = refl
break-after earlier (x ∷ xs) (suc k) h = break-after (x ∷ earlier) xs k (omega arith)

-- a place is a full break by its pause and the quarter that was left behind
pub break-at : (drives : List Drive) (place : ℕ) → place < length drives →
    is_full_break drives place ≡ completes_break (quarter_at drives place) (pause_before drives place)
break-at drives place h = break-after [] drives place h

quarter-after : (earlier xs : List Drive) (k : ℕ) → k < length xs →
    has_quarter (latest_first earlier (take (suc k) xs)) ≡
    cond (is_full_break_after earlier xs k) false (nat_le 900 (pause_before xs k) || has_quarter (latest_first earlier (take k xs)))
quarter-after earlier [] k h = absurd (omega arith)
quarter-after earlier (x ∷ xs) zero h = refl
quarter-after earlier (x ∷ xs) (suc k) h = quarter-after (x ∷ earlier) xs k (omega arith)

-- one drive more
pub quarter-next : (drives : List Drive) (place : ℕ) → place < length drives →
    quarter_at drives (suc place)
    ≡ cond (is_full_break drives place) false (nat_le 900 (pause_before drives place) || quarter_at drives place)
quarter-next drives place h = quarter-after [] drives place h

kept : (b c : Bool) → cond b false c ≡ true → (b ≡ false) × (c ≡ true)
kept true c e = absurd (cc)
kept false c e = (refl, e)

pub one_true : (a b : Bool) → (a || b) ≡ true → (a ≡ true) ⊎ (b ≡ true)
one_true true b e = inl refl
one_true false b e = inr e

or_true : (a b : Bool) → (a ≡ true) ⊎ (b ≡ true) → (a || b) ≡ true
or_true true b h = refl
or_true false b h = elim h [ inl e ↦ absurd (cc) | inr e ↦ e ]

-- Article 7 allows 45 minutes in two parts. The recursion carries along whether a part of at least 15 minutes stands after the last
-- full break; the words say that some earlier pause was that long, with no full break at it or since. This is the way from the
-- carried mark to the pause: the latest drive left it, or it was there before and no full break came; `quarter-onto` is the way
-- back.
quarter-from : (drives : List Drive) (place : ℕ) → place ≤ length drives → quarter_at drives place ≡ true →
    (earlier : ℕ) × IsQuarterFor drives place earlier
quarter-from [] zero h e = absurd (cc)
quarter-from (d ∷ ds) zero h e = absurd (cc)
quarter-from drives (suc n) h e =
    let below : n < length drives = omega arith in
    let parts : (is_full_break drives n ≡ false) × ((nat_le 900 (pause_before drives n) || quarter_at drives n) ≡ true) =
    kept _ _ (sym (quarter-next drives n below) ∙ e) in
    let free : is_full_break drives n ≡ false = parts.0 in
    let left : (nat_le 900 (pause_before drives n) || quarter_at drives n) ≡ true = parts.1 in
    elim (one_true _ _ left) [
      | inl long ↦ (
        n,
        record {
          before = omega arith;
          long_enough = true-le _ _ long;
          no_break = λ k from before. let same : n ≡ k = omega arith in subst (λ (m : ℕ). is_full_break drives m ≡ false) same free;
        },
      )
      | inr quarter ↦
          let (earlier, was) = quarter-from drives n (omega arith) quarter in (
            earlier,
            record {
              before = omega (arith, was.before);
              long_enough = was.long_enough;
              no_break = λ k from before. elim (cases_lt k n) [
                | inl inside ↦ was.no_break k from inside
                | inr last ↦ let same : n ≡ k = omega arith in subst (λ (m : ℕ). is_full_break drives m ≡ false) same free
              ];
            },
          )
    ]

-- and where some pause left it, it is there
quarter-onto : (drives : List Drive) (place earlier : ℕ) → place ≤ length drives → IsQuarterFor drives place earlier →
    quarter_at drives place ≡ true
quarter-onto drives zero earlier h q = absurd (omega (arith, q.before))
quarter-onto drives (suc n) earlier h q =
    let below : n < length drives = omega arith in
    let free : is_full_break drives n ≡ false = q.no_break n (omega (arith, q.before)) (omega arith) in
    let left : (nat_le 900 (pause_before drives n) || quarter_at drives n) ≡ true = or_true _ _ (elim (cases_lt earlier n) [
      | inl inside ↦ inr (quarter-onto drives n earlier (omega arith) (record {
        before = inside;
        long_enough = q.long_enough;
        no_break = λ k from before. q.no_break k from (omega arith);
      }))
      | inr last ↦ let same : earlier ≡ n = omega (arith, q.before) in
          inl (le-true _ _ (subst (λ (m : ℕ). 900 ≤ pause_before drives m) same q.long_enough))
    ]) in
    quarter-next drives n below ∙ ap (λ b. cond b false (nat_le 900 (pause_before drives n) || quarter_at drives n)) free ∙ left

-- A full break by the recursion is one in the article's words, and the other way round (`words-onto`): 45 minutes at once, or 30
-- behind a quarter of an hour, for which the two lemmas above translate. So the contract of `is_full_break` can be read against the
-- Regulation, while all other proofs use the recursion.
pub words-from : (drives : List Drive) (place : ℕ) → place < length drives → is_full_break drives place ≡ true → IsBreakInWords drives place
words-from drives place h e =
    elim (one_true _ _ (sym (break-at drives place h) ∙ e)) [
      | inl whole ↦ inl (true-le _ _ whole)
      | inr part ↦
          let (half, quarter) = and_parts _ _ part in
          inr (true-le _ _ half, quarter-from drives place (omega arith) quarter)
    ]

pub words-onto : (drives : List Drive) (place : ℕ) → place < length drives → IsBreakInWords drives place → is_full_break drives place ≡ true
words-onto drives place h w =
    break-at drives place h ∙ or_true _ _ (elim w [
      | inl whole ↦ inl (le-true _ _ whole)
      | inr part ↦ inr (and_from _ _ (le-true _ _ part.0) (quarter-onto drives place part.1.0 (omega arith) part.1.1))
    ])

pub pause-is : (drives : List Drive) (place : ℕ) (d : Drive) → place < length drives →
    (get_or drives place d).pause ≡ pause_before drives place
pause-is [] place d h = absurd (omega arith)
pause-is (x ∷ xs) zero d h = refl
pause-is (x ∷ xs) (suc place) d h = pause-is xs place d (omega arith)

pub pause-within : (drives : List Drive) (n place : ℕ) (d : Drive) → place < n → place < length drives →
    (get_or (take n drives) place d).pause ≡ pause_before drives place
pause-within [] n place d h below = absurd (omega arith)
pause-within (x ∷ xs) zero place d h below = absurd (omega arith)
pause-within (x ∷ xs) (suc n) zero d h below = refl
pause-within (x ∷ xs) (suc n) (suc place) d h below = pause-within xs n place d (omega arith) (omega arith)
