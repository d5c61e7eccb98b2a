-- What a tally stands for after one drive more, and what it answers.
use Rattle.std.proofs.Common.{◌≡◌, ℕ, ◌+◌, ◌*◌, ◌-◌, ◌<◌, ◌≤◌, ◌⊎◌, inl, inr, Bool, true, false, cond, ◌||◌, ◌&&◌, zero, suc, List, [], ◌∷◌, ◌++◌, length, get_or, take, drop, refl, sym, ap, subst, ◌∙◌, arith}
use Rattle.std.proofs.lemmas.Bool.{cases_lt, false≢true}
use Rattle.std.proofs.lemmas.Bool.Decides.{nat_tests}
use Rattle.std.specs.Prelude.{nat_le, nat_lt, is_none, Option, Some, None}
use Rattle.eu561_rules.specs.declared.rules.Drive.{Drive}
use Rattle.eu561_rules.specs.declared.rules.Limits.{Limits}
use Rattle.eu561_rules.specs.declared.counting.Excess.{Excess}
use Rattle.eu561_rules.specs.Duty.{completes_break, has_quarter, is_full_break, driving_of, KeepsArticle7, has_long_pause, IsFirstExcess, spread_limit, FirstPauseIsZero}
use Rattle.eu561_rules.specs.Summary.{Summary, latest_first, BeginsLast, ClosedExcess, StandsFor, closed_excess, tally_after, IsSmall}
use Rattle.eu561_rules.proofs.Breaks.{latest_first-append, has_long_pause-append, driving_of-append, is_full_break-append, is_full_break-last, drop-append-front, drop-past, KeepsArticle7-append, last-keeps, last-exceeds, IsFirstExcess-append, length-more, part-le, take-whole}

-- a choice has a property that each side has where it is taken
pub either : {A : Type 0} (P : A → Type 0) (b : Bool) (x y : A) → (b ≡ true → P x) → (b ≡ false → P y) → P (cond b x y)
either P true x y f g = f refl
either P false x y f g = g refl

at_least_one : (xs : List Drive) (d : Drive) (q : Bool) → (xs ≡ [] → d.pause ≡ 0) → completes_break q d.pause ≡ true → 0 < length xs
at_least_one [] d q h full = let none : d.pause ≡ 0 = h refl in absurd (grind (arith, nat_tests))
at_least_one (x ∷ xs) d q h full = omega arith

-- A full break closes the last driving period: if a period with too much was noted before, the first such stays the first; if none
-- was and the closed one has too much, it is the first, as all before it keep the limit; and if it has not, all periods up to the
-- new drive keep the limit. These are the three cases of what the tally notes.
pub closed-over : (limits : Limits) (xs : List Drive) (d : Drive) (over : Option Excess) (first count driving : ℕ) →
    count ≡ length xs → 0 < length xs → driving ≡ driving_of (drop first xs) → BeginsLast xs first →
    is_full_break (xs ++ d ∷ []) (length xs) ≡ true → ClosedExcess limits xs first over →
    ClosedExcess limits (xs ++ d ∷ []) (length xs)
    (cond (is_none over && nat_lt limits.block driving) (Some (record { first = first; last = count - 1; driving = driving })) over)
closed-over limits xs d (Some e) first count driving n some is begins full over = (
  IsFirstExcess-append limits xs d e.first e.last e.driving (inl over.1) over.0,
  (let more =
      length-more xs d in let c = over.1 in omega arith),
)
closed-over limits xs d None first count driving n some is begins full over =
    either (ClosedExcess limits (xs ++ d ∷ []) (length xs)) (nat_lt limits.block driving) _ _
    (λ more.
    let exceeds : limits.block < driving_of (drop first xs) = grind (arith, nat_tests) in
    let one : IsFirstExcess limits xs first (length xs - 1) (driving_of (drop first xs)) =
    last-exceeds limits xs first begins over exceeds in
    let up : length xs - 1 + 1 ≡ length xs = omega arith in
    let here : IsFirstExcess limits (xs ++ d ∷ []) first (length xs - 1) (driving_of (drop first xs)) =
    IsFirstExcess-append limits xs d _ _ _ (inr (up, full)) one in
    (rw (n, is) here, (let more_one = length-more xs d in omega arith)))
    (λ less. KeepsArticle7-append limits xs d (length xs) (omega arith) (last-keeps limits xs first begins over (grind (arith, nat_tests))))

begins-append : (xs : List Drive) (d : Drive) (first : ℕ) → BeginsLast xs first → (first ≡ 0) ⊎ (is_full_break (xs ++ d ∷ []) first ≡ true)
begins-append xs d first b = elim b.begins [
  | inl none ↦ inl none
  | inr full ↦ elim b.inside [
    | inl empty ↦ absurd (false≢true (ap (λ l. is_full_break l first) (sym empty) ∙ full))
    | inr inside ↦ inr (is_full_break-append [] xs d first inside ∙ full)
  ]
]

ClosedExcess-append : (limits : Limits) (xs : List Drive) (d : Drive) (first : ℕ) (over : Option Excess) → first ≤ length xs →
    ClosedExcess limits xs first over → ClosedExcess limits (xs ++ d ∷ []) first over
ClosedExcess-append limits xs d first None h c = KeepsArticle7-append limits xs d first h c
ClosedExcess-append limits xs d first (Some e) h c = (
  IsFirstExcess-append limits xs d e.first e.last e.driving (inl c.1) c.0,
  (let more =
      length-more xs d in let below = c.1 in omega arith),
)

-- The invariant of the tally: with one drive more it stands for the list with this drive behind. Where the pause is a full break,
-- the period before it is closed (`closed-over`) and a new one begins at this drive; else the last period goes on, and what was a
-- full break before still is one, since that hangs on earlier pauses only. The contracts of `add` and so of `judge` are this lemma,
-- step by step; a tally of constant size suffices for any number of drives.
pub StandsFor-after : (t : Summary) (d : Drive) (xs : List Drive) → d.driving ≤ 4294967295 → (xs ≡ [] → d.pause ≡ 0) →
    StandsFor t xs → StandsFor (tally_after t d) (xs ++ d ∷ [])
StandsFor-after t d xs fits start s =
    let longer = length-more xs d in
    let count : t.count + 1 ≡ length (xs ++ d ∷ []) = omega (arith, s.count) in
    let long : (t.long || nat_le t.limits.long_pause d.pause) ≡ has_long_pause t.limits (xs ++ d ∷ []) =
    ap (λ b. b || nat_le t.limits.long_pause d.pause) s.long ∙ sym (has_long_pause-append t.limits xs d) in
    let sum : driving_of (xs ++ d ∷ []) ≡ driving_of xs + (d.driving + 0) = driving_of-append xs (d ∷ []) in
    let total : t.total + d.driving ≡ driving_of (xs ++ d ∷ []) = omega (arith, s.total) in
    let small : driving_of (xs ++ d ∷ []) ≤ 4294967295 * length (xs ++ d ∷ []) = omega (arith, s.small) in
    let break : is_full_break (xs ++ d ∷ []) (length xs) ≡ completes_break t.quarter d.pause =
    is_full_break-last [] xs d ∙ ap (λ q. completes_break q d.pause) (sym s.quarter) in
    let same_test : completes_break (has_quarter (latest_first [] xs)) d.pause ≡ completes_break t.quarter d.pause =
    ap (λ q. completes_break q d.pause) (sym s.quarter) in
    either (λ t'. StandsFor t' (xs ++ d ∷ [])) (completes_break t.quarter d.pause) _ _
    (λ full. record {
      count = count;
      quarter = rw (latest_first-append [] xs d, (same_test ∙ full)) refl;
      long = long;
      total = total;
      small = small;
      first = record {
        there = omega (arith, s.count);
        inside = inr (omega (arith, s.count));
        begins = inr (rw s.count (break ∙ full));
        free = λ k above below. absurd (omega (arith, s.count));
      };
      driving = rw (s.count, drop-past xs (d ∷ [])) (omega arith);
      over = let P : ℕ → Type 0 = λ n. ClosedExcess t.limits (xs ++ d ∷ []) n (closed_excess t) in
          subst P (sym s.count) (closed-over t.limits xs d t.over t.first t.count t.driving s.count (at_least_one xs d t.quarter start full)
          s.driving s.first (break ∙ full) s.over);
    })
    (λ part. record {
      count = count;
      quarter = rw (latest_first-append [] xs d, (same_test ∙ part)) (ap (λ q. nat_le 900 d.pause || q) s.quarter);
      long = long;
      total = total;
      small = small;
      first = record {
        there = omega (arith, s.first.there);
        inside = inr (omega (arith, s.first.there));
        begins = begins-append xs d t.first s.first;
        free = λ k above below. elim (cases_lt k (length xs)) [
          | inl inside ↦ is_full_break-append [] xs d k inside ∙ s.first.free k above inside
          | inr last ↦ let same : k ≡ length xs = omega arith in ap (is_full_break (xs ++ d ∷ [])) same ∙ break ∙ part
        ];
      };
      driving = rw (drop-append-front t.first xs (d ∷ []) s.first.there, driving_of-append (drop t.first xs) (d ∷ []))
          (omega (arith, s.driving));
      over = ClosedExcess-append t.limits xs d t.first t.over s.first.there s.over;
    })

pub same-empty : (xs ys : List Drive) → length xs ≡ length ys → ys ≡ [] → xs ≡ []
same-empty [] ys h e = refl
same-empty (x ∷ xs) ys h e = let none : length ys ≡ 0 = ap length e in absurd (omega arith)

pub IsSmall-from : (t : Summary) (xs : List Drive) → StandsFor t xs → IsSmall t
IsSmall-from t xs s =
    let part : driving_of (drop t.first (take (length xs) xs)) ≤ driving_of xs = part-le 0 t.first (length xs) xs (omega arith) in
    let whole : driving_of (drop t.first xs) ≤ driving_of xs = rw take-whole at part in
    record { total = rw (s.total, s.count) s.small; driving = rw (s.driving, s.total) whole }

-- Where nothing was noted and the last period keeps the limit, all intervals do, up to the end of the drives: it turns what the
-- tally knows back into the definition of article 7.
pub keeps-all : (t : Summary) (xs : List Drive) → StandsFor t xs → t.over ≡ None → t.driving ≤ t.limits.block →
    KeepsArticle7 t.limits xs (length xs)
keeps-all t xs s none small =
    let closed : KeepsArticle7 t.limits xs t.first =
    (let P : Option Excess → Type 0 = λ o. ClosedExcess t.limits xs t.first o in subst P none s.over) in
    last-keeps t.limits xs t.first s.first closed (omega (arith, s.driving))

pub spread_limit-is : (t : Summary) (xs : List Drive) → StandsFor t xs →
    spread_limit t.limits xs ≡ cond t.long t.limits.long_spread t.limits.spread
spread_limit-is t xs s = ap (λ b. cond b t.limits.long_spread t.limits.spread) (sym s.long)

pub first_pause : (xs : List Drive) (i : ℕ) (d : Drive) → FirstPauseIsZero xs → i < length xs → take i xs ≡ [] → (get_or xs i d).pause ≡ 0
first_pause [] i d h below e = absurd (omega arith)
first_pause (x ∷ xs) zero d h below e = h
first_pause (x ∷ xs) (suc i) d h below e = cc
