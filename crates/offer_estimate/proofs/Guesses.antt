-- The first guess of the greatest bound, one guess more at a time.
use Rattle.std.proofs.Common.{◌≡◌, ℕ, ℤ, pos, ◌+ℤ◌, ◌*ℤ◌, ◌<ℤ◌, ◌≤ℤ◌, ◌+◌, int_lt, Bool, true, false, List, [], ◌∷◌, ◌++◌, All, refl, sym, ap, ◌∙◌, subst, arith, add-one, append_assoc}
use Rattle.std.proofs.lemmas.Int.{ints}
use Rattle.std.proofs.lemmas.List.Elements.{All-nil, All-cons, All-head, All-tail, All-append}
use Rattle.offer_estimate.specs.declared.guessing.Estimate.{Estimate}
use Rattle.std.specs.Prelude.{slice_index}
use Rattle.std.specs.Int.{int_min}
use Rattle.cover_core.specs.Plans.{number_at}
use Rattle.offer_estimate.specs.Estimates.{IsFirstGreatest, guess_at, guesses, proposed, scaled_least, scaled_leasts}

abbrev IsLess : ℤ → Estimate → Type 0
IsLess bound e = e.bound <ℤ bound

abbrev IsNoMore : ℤ → Estimate → Type 0
IsNoMore bound e = e.bound ≤ℤ bound

pub first-alone : (e : Estimate) → IsFirstGreatest (e ∷ []) e
first-alone e = record { before = []; after = []; all = refl; less = All-nil (IsLess e.bound); no_more = All-nil (IsNoMore e.bound) }

-- all bounds below a greater one
raised : (low high : ℤ) (es : List Estimate) → low <ℤ high → All (IsLess low) es → All (IsLess high) es
raised low high [] above all = All-nil (IsLess high)
raised low high (e ∷ es) above all =
    let head : e.bound <ℤ low = All-head (IsLess low) e es all in
    All-cons (IsLess high) e es (omega (arith, ints)) (raised low high es above (All-tail (IsLess low) e es all))

raised-from : (low high : ℤ) (es : List Estimate) → low <ℤ high → All (IsNoMore low) es → All (IsLess high) es
raised-from low high [] above all = All-nil (IsLess high)
raised-from low high (e ∷ es) above all =
    let head : e.bound ≤ℤ low = All-head (IsNoMore low) e es all in
    All-cons (IsLess high) e es (omega (arith, ints)) (raised-from low high es above (All-tail (IsNoMore low) e es all))

-- one more guess, which is greater
pub first-new : (es : List Estimate) (old new : Estimate) → old.bound <ℤ new.bound → IsFirstGreatest es old →
    IsFirstGreatest (es ++ new ∷ []) new
first-new es old new above is =
    let less : All (IsLess new.bound) (is.before ++ old ∷ is.after) =
    All-append (IsLess new.bound) is.before (old ∷ is.after) (raised old.bound new.bound is.before above is.less)
    (All-cons (IsLess new.bound) old is.after above (raised-from old.bound new.bound is.after above is.no_more)) in
    let P : List Estimate → Type 0 = λ l. All (IsLess new.bound) l in
    record { before = es; after = []; all = refl; less = subst P (sym is.all) less; no_more = All-nil (IsNoMore new.bound) }

-- one more guess, which is not
pub first-old : (es : List Estimate) (old new : Estimate) → new.bound ≤ℤ old.bound → IsFirstGreatest es old →
    IsFirstGreatest (es ++ new ∷ []) old
first-old es old new below is = record {
  before = is.before;
  after = is.after ++ new ∷ [];
  all = ap (λ (l : List Estimate). l ++ new ∷ []) is.all ∙ append_assoc is.before (old ∷ is.after) (new ∷ []);
  less = is.less;
  no_more = All-append (IsNoMore old.bound) is.after (new ∷ []) is.no_more
      (All-cons (IsNoMore old.bound) new [] below (All-nil (IsNoMore old.bound)));
}

-- One more guess: the new one where it is greater, else the old one. The invariant of the loop over guesses, and the theorem of
-- this file: the best so far is the first of the greatest bound among those looked at. A guess that is truly greater comes with
-- nothing greater or equal before it; one that is only equal stays behind the first. So the answer is one guess alone: of equal
-- ones the first, in the order of the classes.
pub first-better : (es : List Estimate) (old new best : Estimate) → (old.bound <ℤ new.bound → best ≡ new) →
    (new.bound ≤ℤ old.bound → best ≡ old) →
    IsFirstGreatest es old → IsFirstGreatest (es ++ new ∷ []) best
first-better es old new best greater no_greater is = go (int_lt old.bound new.bound) refl
  where
    go : (b : Bool) → int_lt old.bound new.bound ≡ b → IsFirstGreatest (es ++ new ∷ []) best
    go true e = let above : old.bound <ℤ new.bound = grind (arith, ints) in let P : Estimate →
        Type 0 = λ x. IsFirstGreatest (es ++ new ∷ []) x in subst P (sym (greater above)) (first-new es old new above is)
    go false e = let below : new.bound ≤ℤ old.bound = grind (arith, ints) in let P : Estimate →
        Type 0 = λ x. IsFirstGreatest (es ++ new ∷ []) x in subst P (sym (no_greater below)) (first-old es old new below is)

pub guesses-some : (sum : ℤ) (least worths : List ℤ) (caps : List ℕ) (k : ℕ) → int_lt (number_at least k) (pos 0) ≡ true →
    guesses sum least worths caps (k + 1) ≡ guesses sum least worths caps k
    ++ guess_at sum least worths caps (proposed (number_at least k) (number_at worths k)) ∷ []
guesses-some sum least worths caps k test = rw (add-one, test) refl

pub guesses-none : (sum : ℤ) (least worths : List ℤ) (caps : List ℕ) (k : ℕ) → int_lt (number_at least k) (pos 0) ≡ false →
    guesses sum least worths caps (k + 1) ≡ guesses sum least worths caps k
guesses-none sum least worths caps k test = rw (add-one, test) refl

pub leasts-more : (part whole : ℤ) (least worths : List ℤ) (caps : List ℕ) (k : ℕ) →
    scaled_leasts part whole least worths caps (k + 1) ≡ scaled_leasts part whole least worths caps k
    +ℤ (pos (slice_index caps k) *ℤ scaled_least part whole (number_at least k) (number_at worths k))
leasts-more part whole least worths caps k = rw add-one refl

pub sum-more : (guess loss new base before after t : ℤ) → guess ≡ base +ℤ before → after ≡ before +ℤ t → loss ≡ t →
    new ≡ guess +ℤ loss → new ≡ base +ℤ after
sum-more guess loss new base before after t so_far more is sum = omega (arith, ints)

-- a number below 0 is the least of 0 and itself, and 0 that of 0 and any other
pub kept-low : (v x : ℤ) → v ≡ x → v <ℤ pos 0 → v ≡ int_min (pos 0) x
kept-low v x e below = let test : int_lt x (pos 0) ≡ true = grind (arith, ints) in rw test e

pub kept-zero : (v x : ℤ) → v ≡ x → pos 0 ≤ℤ v → pos 0 ≡ int_min (pos 0) x
kept-zero v x e above = let test : int_lt x (pos 0) ≡ false = grind (arith, ints) in rw test refl
