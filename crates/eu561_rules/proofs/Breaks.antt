-- What one drive more does to full breaks, driving periods and sums.
use Rattle.std.proofs.Common.{◌≡◌, ℕ, ◌+◌, ◌-◌, ◌<◌, ◌≤◌, ◌⊎◌, inl, inr, Bool, true, false, ◌||◌, zero, suc, List, [], ◌∷◌, ◌++◌, length, take, drop, refl, sym, ap, ◌∙◌, arith, length-append}
use Rattle.std.proofs.lemmas.Bool.{false≢true, cases_lt}
use Rattle.std.proofs.lemmas.List.{take-append-le}
use Rattle.std.specs.Prelude.{nat_le}
use Rattle.eu561_rules.specs.declared.rules.Drive.{Drive}
use Rattle.eu561_rules.specs.declared.rules.Limits.{Limits}
use Rattle.eu561_rules.specs.Duty.{completes_break, has_quarter, is_full_break_after, is_full_break, driving_of, driving_within, BreakFree, KeepsArticle7, has_long_pause, IsFirstExcess}
use Rattle.eu561_rules.specs.Summary.{latest_first, BeginsLast}

pub latest_first-append : (earlier xs : List Drive) (d : Drive) → latest_first earlier (xs ++ d ∷ []) ≡ d ∷ latest_first earlier xs
latest_first-append earlier [] d = refl
latest_first-append earlier (x ∷ xs) d = latest_first-append (x ∷ earlier) xs d

pub or_assoc : (a b c : Bool) → (a || (b || c)) ≡ ((a || b) || c)
or_assoc true b c = refl
or_assoc false b c = refl

pub or_false : (a : Bool) → (a || false) ≡ a
or_false true = refl
or_false false = refl

pub has_long_pause-append : (limits : Limits) (xs : List Drive) (d : Drive) →
    has_long_pause limits (xs ++ d ∷ []) ≡ (has_long_pause limits xs || nat_le limits.long_pause d.pause)
has_long_pause-append limits [] d = or_false (nat_le limits.long_pause d.pause)
has_long_pause-append limits (x ∷ xs) d =
    ap (λ b. nat_le limits.long_pause x.pause || b) (has_long_pause-append limits xs d) ∙
    or_assoc (nat_le limits.long_pause x.pause) (has_long_pause limits xs) (nat_le limits.long_pause d.pause)

pub driving_of-append : (xs ys : List Drive) → driving_of (xs ++ ys) ≡ driving_of xs + driving_of ys
driving_of-append [] ys = omega arith
driving_of-append (x ∷ xs) ys = omega (arith, driving_of-append xs ys)

pub is_full_break-append : (earlier xs : List Drive) (d : Drive) (k : ℕ) → k < length xs →
    is_full_break_after earlier (xs ++ d ∷ []) k ≡ is_full_break_after earlier xs k
is_full_break-append earlier [] d k h = absurd (omega arith)
is_full_break-append earlier (x ∷ xs) d zero h = refl
is_full_break-append earlier (x ∷ xs) d (suc k) h = is_full_break-append (x ∷ earlier) xs d k (omega arith)

pub is_full_break-last : (earlier xs : List Drive) (d : Drive) →
    is_full_break_after earlier (xs ++ d ∷ []) (length xs) ≡ completes_break (has_quarter (latest_first earlier xs)) d.pause
is_full_break-last earlier [] d = refl
is_full_break-last earlier (x ∷ xs) d = is_full_break-last (x ∷ earlier) xs d

pub drop-append-front : (n : ℕ) (xs ys : List Drive) → n ≤ length xs → drop n (xs ++ ys) ≡ drop n xs ++ ys
drop-append-front zero xs ys h = refl
drop-append-front (suc n) [] ys h = absurd (omega arith)
drop-append-front (suc n) (x ∷ xs) ys h = drop-append-front n xs ys (omega arith)

pub drop-past : (xs ys : List Drive) → drop (length xs) (xs ++ ys) ≡ ys
drop-past [] ys = refl
drop-past (x ∷ xs) ys = drop-past xs ys

pub take-whole : (xs : List Drive) → take (length xs) xs ≡ xs
take-whole [] = refl
take-whole (x ∷ xs) = ap (λ l. x ∷ l) (take-whole xs)

pub driving_within-append : (xs : List Drive) (d : Drive) (i j : ℕ) → j < length xs →
    driving_within (xs ++ d ∷ []) i j ≡ driving_within xs i j
driving_within-append xs d i j h =
    let front : take (j + 1) (xs ++ d ∷ []) ≡ take (j + 1) xs = take-append-le (j + 1) xs (d ∷ []) (omega arith) in
    ap (λ l. driving_of (drop i l)) front

drop-none : (n : ℕ) → driving_of (drop n []) ≡ 0
drop-none zero = refl
drop-none (suc n) = refl

take-none : (n : ℕ) → take {A = Drive} n [] ≡ []
take-none zero = refl
take-none (suc n) = refl

-- a part drives no more than the whole
pub part-le : (f i m : ℕ) (xs : List Drive) → f ≤ i → driving_of (drop i (take m xs)) ≤ driving_of (drop f xs)
part-le f i m [] h = rw (take-none m, drop-none i) (omega arith)
part-le f i zero (x ∷ xs) h = rw (drop-none i) (omega arith)
part-le zero zero (suc m) (x ∷ xs) h = omega (arith, part-le 0 0 m xs (omega arith))
part-le zero (suc i) (suc m) (x ∷ xs) h = omega (arith, part-le 0 i m xs (omega arith))
part-le (suc f) zero (suc m) (x ∷ xs) h = absurd (omega arith)
part-le (suc f) (suc i) (suc m) (x ∷ xs) h = part-le f i m xs (omega arith)

pub BreakFree-append : (xs : List Drive) (d : Drive) (i j : ℕ) → j < length xs → BreakFree (xs ++ d ∷ []) i j → BreakFree xs i j
BreakFree-append xs d i j h free = λ k above below. sym (is_full_break-append [] xs d k (omega arith)) ∙ free k above below

pub BreakFree-onto : (xs : List Drive) (d : Drive) (i j : ℕ) → j < length xs → BreakFree xs i j → BreakFree (xs ++ d ∷ []) i j
BreakFree-onto xs d i j h free = λ k above below. is_full_break-append [] xs d k (omega arith) ∙ free k above below

pub KeepsArticle7-append : (limits : Limits) (xs : List Drive) (d : Drive) (n : ℕ) → n ≤ length xs →
    KeepsArticle7 limits xs n → KeepsArticle7 limits (xs ++ d ∷ []) n
KeepsArticle7-append limits xs d n h keeps = λ i j order below free.
    let within : j < length xs = omega arith in
    rw (driving_within-append xs d i j within) (keeps i j order below (BreakFree-append xs d i j within free))

-- If all intervals before the last driving period keep the limit, and the whole last period does, then all intervals do. One without
-- a full break inside that ends before the period is known; one that ends in it cannot begin before it, as the period begins with a
-- full break; and one inside drives no more than the whole (`part-le`). So of all intervals only whole periods need be looked at.
pub last-keeps : (limits : Limits) (xs : List Drive) (first : ℕ) → BeginsLast xs first →
    KeepsArticle7 limits xs first → driving_of (drop first xs) ≤ limits.block → KeepsArticle7 limits xs (length xs)
last-keeps limits xs first last keeps small = λ i j order below free.
    elim (cases_lt j first) [
      | inl before ↦ keeps i j order before free
      | inr after ↦
          elim (cases_lt i first) [
            | inl left ↦
                elim last.begins [
                  | inl none ↦ absurd (omega arith)
                  | inr full ↦ absurd (false≢true (sym (free first left after) ∙ full))
                ]
            | inr inside ↦ let part : driving_within xs i j ≤ driving_of (drop first xs) = part-le first i (j + 1) xs inside in omega arith
          ]
    ]

-- one more
pub length-more : (xs : List Drive) (d : Drive) → length (xs ++ d ∷ []) ≡ length xs + 1
length-more xs d = length-append {A = Drive} xs (d ∷ [])

-- The last driving period, where it has too much driving and all before it is kept, is the first with too much: it begins with a
-- full break or with the duty, ends with the duty, and has no full break inside. `IsFirstExcess-append` keeps this when a drive is
-- added, as long as the period had ended or ends with the new pause.
pub last-exceeds : (limits : Limits) (xs : List Drive) (first : ℕ) → BeginsLast xs first → KeepsArticle7 limits xs first →
    limits.block < driving_of (drop first xs) → IsFirstExcess limits xs first (length xs - 1) (driving_of (drop first xs))
last-exceeds limits xs first last keeps more =
    let some : first < length xs = elim last.inside [
      | inl none ↦ let zero_driving : driving_of (drop first xs) ≡ 0 = rw none (drop-none first) in absurd (omega arith)
      | inr below ↦ below
    ] in
    let up : length xs - 1 + 1 ≡ length xs = omega arith in
    let all : take (length xs - 1 + 1) xs ≡ xs = rw up (take-whole xs) in
    record {
      period = record {
        order = omega arith;
        there = omega arith;
        begins = last.begins;
        ends = inl up;
        free = λ k above below. last.free k above (omega arith);
      };
      driving_is = ap (λ l. driving_of (drop first l)) (sym all);
      exceeds = more;
      earlier = keeps;
    }

pub IsFirstExcess-append : (limits : Limits) (xs : List Drive) (d : Drive) (i j driving : ℕ) →
    ((j + 1 < length xs) ⊎ ((j + 1 ≡ length xs) × (is_full_break (xs ++ d ∷ []) (length xs) ≡ true))) →
    IsFirstExcess limits xs i j driving → IsFirstExcess limits (xs ++ d ∷ []) i j driving
IsFirstExcess-append limits xs d i j driving closed e =
    let more = length-more xs d in
    let order = e.period.order in
    let there = e.period.there in
    record {
      period = record {
        order = order;
        there = omega arith;
        begins = elim e.period.begins [ inl none ↦ inl none | inr full ↦ inr (is_full_break-append [] xs d i (omega arith) ∙ full) ];
        ends = elim closed [
          | inl inside ↦ elim e.period.ends [
            | inl end ↦ absurd (omega arith)
            | inr full ↦
                inr (is_full_break-append [] xs d (j + 1) inside ∙ full)
          ]
          | inr (end, full) ↦ inr (rw end full)
        ];
        free = BreakFree-onto xs d i j there e.period.free;
      };
      driving_is = e.driving_is ∙ sym (driving_within-append xs d i j there);
      exceeds = e.exceeds;
      earlier = KeepsArticle7-append limits xs d i (omega arith) e.earlier;
    }
