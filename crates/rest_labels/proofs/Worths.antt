-- The worth of a list is a thousandth of what it closes with.
use Rattle.std.proofs.Common.{◌≡◌, ℕ, ℤ, pos, ◌*◌, ◌/◌, ◌-ℤ◌, List, [], ◌∷◌, Option, Some, None, refl, sym, ap, ◌∙◌, arith}
use Rattle.std.specs.Prelude.{option_and_then}
use Rattle.std.specs.Option.{option_map}
use Rattle.std.specs.Int.RustNames.{unsigned_abs}
use Rattle.std.proofs.lemmas.Int.{ints}
use Rattle.cover_core.specs.Labels.{Labelling, label_of}
use Rattle.cover_core.specs.Plans.{price_of}
use Rattle.label_search.specs.Pricing.{IsTied}

no-prices : (list : List ℕ) → price_of [] list ≡ pos 0
no-prices [] = refl
no-prices (x ∷ xs) = let rest = no-prices xs in omega (arith, ints, rest)

thousand : (n : ℕ) (z : ℤ) → z ≡ pos 0 → unsigned_abs (pos (1000 * n) -ℤ z) / 1000 ≡ n
thousand n z none =
    let same : pos (1000 * n) -ℤ z ≡ pos (1000 * n) = omega (arith, ints, none) in
    ap (λ (v : ℤ). unsigned_abs v / 1000) same ∙ whole n
  where
    whole : (n : ℕ) → 1000 * n / 1000 ≡ n
    whole n = omega arith

abbrev thousandth_of : Option ℤ → Option ℕ
thousandth_of o = option_map (λ v. unsigned_abs v / 1000) o

-- Without prices a list closes with 1,000 times its worth, so its worth is a thousandth of that; where the label is lacking or does
-- not close there is no worth, by the tie. So the code need not cost a list by itself: one walk of the label along the written-out
-- list, whose contract is there already, finds its worth.
pub tied-worth : {L : Type 0} (w : Labelling L) (close : L → Option ℤ) (worth_of : List ℕ → Option ℕ) (list : List ℕ) →
    IsTied w close [] worth_of →
    worth_of list ≡ option_and_then (λ a. option_map (λ v. unsigned_abs v / 1000) (close a)) (label_of w list)
tied-worth {L = L} w close worth_of list tied = by (worth_of list) refl
  where
    none-or : (o : Option L) → label_of w list ≡ o → worth_of list ≡ None → option_and_then (λ a. thousandth_of (close a)) o ≡ None
    none-or None is none = refl
    none-or (Some a) is none = closes (close a) refl
      where
        closes : (c : Option ℤ) → close a ≡ c → thousandth_of c ≡ None
        closes None e = refl
        closes (Some v) e = let (worth, bad, same) = tied.from list a v is e in absurd (let no : None ≡ Some worth = sym none ∙ bad in cc)

    by : (o : Option ℕ) → worth_of list ≡ o → worth_of list ≡ option_and_then (λ a. thousandth_of (close a)) (label_of w list)
    by None e = e ∙ sym (none-or (label_of w list) refl e)
    by (Some worth) e =
        let (a, label, closes) = tied.onto list worth e in
        e ∙ ap Some (sym (thousand worth (price_of [] list) (no-prices list)))
        ∙ ap thousandth_of (sym closes) ∙ ap (λ o. option_and_then (λ a. thousandth_of (close a)) o) (sym label)
