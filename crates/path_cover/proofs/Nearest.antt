-- One more column for the nearest.
use Rattle.std.proofs.Common.{◌≡◌, ℕ, ◌+◌, ◌<◌, ◌≤◌, Bool, true, false, List, Option, Some, None, get_or, inl, inr, sym, subst, ◌∙◌, arith}
use Rattle.std.proofs.lemmas.Bool.{cases_lt}
use Rattle.std.specs.Prelude.{IfNone, IfSome}
use Rattle.std.proofs.lemmas.Option.{same_Some}
use Rattle.path_cover.specs.Scans.{IsBest, IsNearer, IsNearest}

-- a column that is seen changes nothing
pub best_seen : (columns : List Bool) (least : List (Option ℕ)) (k : ℕ) (best : Option (ℕ × ℕ)) → get_or columns k false ≡ true →
    IsBest columns least k best → IsBest columns least (k + 1) best
best_seen columns least k None seen is = λ w below unseen. elim (cases_lt w k) [
  | inl before ↦ is w before unseen
  | inr past ↦ absurd (let same : w ≡ k = omega arith in let P : ℕ → Type 0 = λ j. get_or columns j false ≡ false in
      let bad : true ≡ false = sym seen ∙ subst P same unseen in cc)
]
best_seen columns least k (Some best) seen is =
    let within = is.within in
    record {
      within = omega arith;
      unseen = is.unseen;
      is = is.is;
      nearest = λ w d below unseen keeps. elim (cases_lt w k) [
        | inl before ↦ is.nearest w d before unseen keeps
        | inr past ↦ absurd (let same : w ≡ k = omega arith in let P : ℕ → Type 0 = λ j. get_or columns j false ≡ false in
            let bad : true ≡ false = sym seen ∙ subst P same unseen in cc)
      ];
    }

-- nor does one that keeps nothing
pub best_nothing : (columns : List Bool) (least : List (Option ℕ)) (k : ℕ) (best : Option (ℕ × ℕ)) → get_or least k None ≡ None →
    IsBest columns least k best → IsBest columns least (k + 1) best
best_nothing columns least k None nothing is = λ w below unseen. elim (cases_lt w k) [
  | inl before ↦ is w before unseen
  | inr past ↦ let same : w ≡ k = omega arith in let P : ℕ → Type 0 = λ j. get_or least j None ≡ None in subst P (sym same) nothing
]
best_nothing columns least k (Some best) nothing is =
    let within = is.within in
    record {
      within = omega arith;
      unseen = is.unseen;
      is = is.is;
      nearest = λ w d below unseen keeps. elim (cases_lt w k) [
        | inl before ↦ is.nearest w d before unseen keeps
        | inr past ↦ absurd (let same : w ≡ k = omega arith in let P : ℕ → Type 0 = λ j. get_or least j None ≡ Some d in
            let bad : None ≡ Some d = sym nothing ∙ subst P same keeps in cc)
      ];
    }

-- the new one
best_new : (columns : List Bool) (least : List (Option ℕ)) (k cost : ℕ) → get_or columns k false ≡ false → get_or least k None ≡ Some cost →
    ((w d : ℕ) → w < k → get_or columns w false ≡ false → get_or least w None ≡ Some d → cost ≤ d) → IsNearest columns least (k + 1) k cost
best_new columns least k cost unseen is before = record {
  within = omega arith;
  unseen = unseen;
  is = is;
  nearest = λ w d below unseen' keeps. elim (cases_lt w k) [
    | inl less ↦ before w d less unseen' keeps
    | inr past ↦ let same : w ≡ k = omega arith in let P : ℕ → Type 0 = λ j. get_or least j None ≡ Some d in
        let e : cost ≡ d = same_Some cost d (sym is ∙ subst P same keeps) in omega arith
  ];
}

pub best_more : (columns : List Bool) (least : List (Option ℕ)) (k cost : ℕ) (best result : Option (ℕ × ℕ)) →
    get_or columns k false ≡ false → get_or least k None ≡ Some cost → IsBest columns least k best →
    IsNearer best (k, cost) result → IsBest columns least (k + 1) result
best_more columns least k cost None result unseen is best near =
    let P : Option (ℕ × ℕ) → Type 0 = IsBest columns least (k + 1) in
    subst P (sym near) (best_new columns least k cost unseen is
    (λ w d below unseen' keeps. absurd (let nothing = best w below unseen' in let bad : None ≡ Some d = sym nothing ∙ keeps in cc)))
best_more columns least k cost (Some old) result unseen is best near =
    let P : Option (ℕ × ℕ) → Type 0 = IsBest columns least (k + 1) in
    elim near [
      | inl new ↦
          let less : cost ≤ old.1 = new.1 in
          subst P (sym new.0) (best_new columns least k cost unseen is (λ w d below unseen' keeps. let more =
          best.nearest w d below unseen' keeps in omega arith))
      | inr kept ↦
          let less : old.1 ≤ cost = kept.1 in
          let within = best.within in
          subst P (sym kept.0) (record {
            within = omega arith;
            unseen = best.unseen;
            is = best.is;
            nearest = λ w d below unseen' keeps. elim (cases_lt w k) [
              | inl before ↦ best.nearest w d before unseen' keeps
              | inr past ↦ let same : w ≡ k = omega arith in let Q : ℕ → Type 0 = λ j. get_or least j None ≡ Some d in
                  let e : cost ≡ d = same_Some cost d (sym is ∙ subst Q same keeps) in omega arith
            ];
          })
    ]

-- a column that is not seen, whatever it keeps
pub best_unseen : (columns : List Bool) (least : List (Option ℕ)) (k : ℕ) (offered : Option ℕ) (best result : Option (ℕ × ℕ)) →
    get_or columns k false ≡ false → get_or least k None ≡ offered → IsBest columns least k best →
    IfNone offered (result ≡ best) → IfSome offered (λ d. IsNearer best (k, d) result) → IsBest columns least (k + 1) result
best_unseen columns least k None best result unseen is so_far none some =
    let P : Option (ℕ × ℕ) → Type 0 = IsBest columns least (k + 1) in subst P (sym none) (best_nothing columns least k best is so_far)
best_unseen columns least k (Some cost) best result unseen is so_far none some =
    best_more columns least k cost best result unseen is so_far some
