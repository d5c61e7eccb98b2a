-- The reduced rests since the last weekly rest, one rest more.
use Rattle.std.proofs.Common.{◌≡◌, ℕ, ◌+◌, ◌<◌, ◌≤◌, Bool, true, false, List, [], ◌∷◌, ◌++◌, length, filter, if◌then◌else◌, refl, sym, ap, ◌∙◌, arith, ◌||◌, take, get_or}
use Rattle.std.specs.List.{list_any}
use Rattle.std.proofs.lemmas.List.{length-append}
use Rattle.std.proofs.lemmas.List.Elements.{filter-append}
use Rattle.std.proofs.lemmas.List.Folds.{list_any-append}
use Rattle.std.proofs.lemmas.Grind.{common_steps}
use Rattle.week_check.specs.declared.rest.Rest.{Rest}
use Rattle.week_check.proofs.Adding.{front_at}
use Rattle.week_check.specs.Duties.{is_reduced, is_weekly, reduced_after, reduced_in, since_weekly}

any_one : (r : Rest) (b : Bool) → is_weekly r ≡ b → list_any is_weekly (r ∷ []) ≡ b
any_one r true e = grind (arith, common_steps)
any_one r false e = grind (arith, common_steps)

or_false : (b : Bool) → b || false ≡ b
or_false true = refl
or_false false = refl

or_true : (b : Bool) → b || true ≡ true
or_true true = refl
or_true false = refl

any_same : (rs : List Rest) (r : Rest) → is_weekly r ≡ false → list_any is_weekly (rs ++ r ∷ []) ≡ list_any is_weekly rs
any_same rs r e = list_any-append is_weekly rs (r ∷ []) ∙ ap (λ b. list_any is_weekly rs || b) (any_one r false e)
    ∙ or_false (list_any is_weekly rs)

any_true : (rs : List Rest) (r : Rest) → is_weekly r ≡ true → list_any is_weekly (rs ++ r ∷ []) ≡ true
any_true rs r e = list_any-append is_weekly rs (r ∷ []) ∙ ap (λ b. list_any is_weekly rs || b) (any_one r true e)
    ∙ or_true (list_any is_weekly rs)

-- Where the rest that comes is no weekly rest, the last weekly rest stays where it is, so the rests after it are one more; where it is
-- one, there is none after it (`since_none`). The definition looks for the last weekly rest from the front each time.
since_more : (rs : List Rest) (r : Rest) → is_weekly r ≡ false → since_weekly (rs ++ r ∷ []) ≡ since_weekly rs ++ r ∷ []
since_more [] r e = ap (λ b. if b then [] else r ∷ []) (any_one r false e)
since_more (q ∷ rs) r e =
    let step : (b : Bool) →
    (if b then since_weekly (rs ++ r ∷ []) else q ∷ (rs ++ r ∷ [])) ≡ (if b then since_weekly rs else q ∷ rs) ++ r ∷ [] =
    λ b. elim b as (λ b. (if b then since_weekly (rs ++ r ∷ []) else q ∷ (rs ++ r ∷ [])) ≡ (if b then since_weekly rs else q ∷ rs)
    ++ r ∷ []) [ true ↦ since_more rs r e | false ↦ refl ] in
    ap (λ b. if b then since_weekly (rs ++ r ∷ []) else q ∷ (rs ++ r ∷ [])) (any_same (q ∷ rs) r e) ∙ step (list_any is_weekly (q ∷ rs))

since_none : (rs : List Rest) (r : Rest) → is_weekly r ≡ true → since_weekly (rs ++ r ∷ []) ≡ []
since_none [] r e = ap (λ b. if b then [] else r ∷ []) (any_one r true e)
since_none (q ∷ rs) r e =
    ap (λ b. if b then since_weekly (rs ++ r ∷ []) else q ∷ (rs ++ r ∷ [])) (any_true (q ∷ rs) r e) ∙ since_none rs r e

count_one : (r : Rest) (b : Bool) → is_reduced r ≡ b → length (filter is_reduced (r ∷ [])) ≡ (if b then 1 else 0)
count_one r true e = grind (arith, common_steps)
count_one r false e = grind (arith, common_steps)

after : (w b : Bool) (n : ℕ) → ℕ
after w b n = if w then 0 else (if b then n + 1 else n)

more_by : (rs : List Rest) (r : Rest) (w b : Bool) → is_weekly r ≡ w → is_reduced r ≡ b →
    reduced_in (rs ++ r ∷ []) ≡ after w b (reduced_in rs)
unfolding after
more_by rs r true b e f = ap (λ qs. length (filter is_reduced qs)) (since_none rs r e)
more_by rs r false true e f = ap (λ qs. length (filter is_reduced qs)) (since_more rs r e)
    ∙ ap length (filter-append is_reduced (since_weekly rs) (r ∷ []))
    ∙ length-append (filter is_reduced (since_weekly rs)) (filter is_reduced (r ∷ [])) ∙ ap (λ k. reduced_in rs + k) (count_one r true f)
more_by rs r false false e f =
    let plain : reduced_in rs + 0 ≡ reduced_in rs = omega arith in
    ap (λ qs. length (filter is_reduced qs)) (since_more rs r e) ∙ ap length (filter-append is_reduced (since_weekly rs) (r ∷ []))
    ∙ length-append (filter is_reduced (since_weekly rs)) (filter is_reduced (r ∷ []))
    ∙ ap (λ k. reduced_in rs + k) (count_one r false f) ∙ plain

-- One rest more. So one number carried along the rests is enough: it goes back to 0 at a weekly rest and up by one at a reduced rest,
-- and equals what the definition counts by looking back from each rest. This is what article 8(4) is tested with.
pub reduced_more : (rs : List Rest) (r : Rest) → reduced_in (rs ++ r ∷ []) ≡ reduced_after (reduced_in rs) r
unfolding after
reduced_more rs r = more_by rs r (is_weekly r) (is_reduced r) refl refl

pub after_few : (n : ℕ) (r : Rest) → reduced_after n r ≤ n + 1
after_few n r = grind arith

pub count_more : (rs : List Rest) (i n count : ℕ) (r : Rest) → n ≡ reduced_after count r → count ≡ reduced_in (take i rs) → i < length rs →
    r ≡ get_or rs i r → n ≡ reduced_in (take (i + 1) rs)
count_more rs i n count r e so_far within is =
    e ∙ ap (λ k. reduced_after k r) so_far ∙ sym (reduced_more (take i rs) r) ∙ ap (λ qs. reduced_in qs) (sym (front_at rs i r within is))

pub count_few : (i n count : ℕ) (r : Rest) → n ≡ reduced_after count r → count ≤ i → n ≤ i + 1
count_few i n count r e few = omega (arith, e, few, after_few count r)
