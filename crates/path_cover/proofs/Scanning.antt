-- One more column that a row makes its offer to.
use Rattle.std.proofs.Common.{◌≡◌, ℕ, ◌+◌, ◌<◌, Bool, true, false, cond, List, length, Option, None, get_or, set, inl, inr, refl, sym, ap, subst, ◌∙◌, arith, length-set}
use Rattle.std.proofs.lemmas.Bool.{cases_lt}
use Rattle.std.proofs.lemmas.List.{get_or-set_same, get_or-set_other}
use Rattle.path_cover.specs.Scans.{IsScanned, kept_of, takes, via_of}

pub scan_more : (k x : ℕ) (offer : ℕ → Option ℕ) (o0 o1 o2 : List (Option ℕ)) (v0 v1 v2 : List ℕ) → k < length o0 → k < length v0 →
    IsScanned k x offer o0 o1 v0 v1 →
    o2 ≡ cond (takes (get_or o1 k None) (offer k)) (set o1 k (offer k)) o1 →
    v2 ≡ cond (takes (get_or o1 k None) (offer k)) (set v1 k x) v1 → IsScanned (k + 1) x offer o0 o2 v0 v2
scan_more k x offer o0 o1 o2 v0 v1 v2 o_in v_in is e e' = go (takes (get_or o1 k None) (offer k)) refl
  where
    old : get_or o1 k None ≡ get_or o0 k None
    old = is.least_past k (omega arith)

    old_via : get_or v1 k 0 ≡ get_or v0 k 0
    old_via = is.via_past k (omega arith)

    go : (b : Bool) → takes (get_or o1 k None) (offer k) ≡ b → IsScanned (k + 1) x offer o0 o2 v0 v2
    go true test =
        let set_least : o2 ≡ set o1 k (offer k) = e ∙ rw test refl in
        let set_via : v2 ≡ set v1 k x = e' ∙ rw test refl in
        let counts = is.least_count in
        let counts' = is.via_count in
        let taken : takes (get_or o0 k None) (offer k) ≡ true = subst (λ (o : Option ℕ). takes o (offer k) ≡ true) old test in
        record {
          least_count = ap length set_least ∙ (length-set o1 k (offer k) ∙ counts);
          via_count = ap length set_via ∙ (length-set v1 k x ∙ counts');
          least_below = λ v below. elim (cases_lt v k) [
            | inl before ↦ ap (λ (l : List (Option ℕ)). get_or l v None) set_least
                ∙ (get_or-set_other o1 k v (offer k) None (λ same. omega arith) ∙ is.least_below v before)
            | inr past ↦
                let same : v ≡ k = omega arith in
                let P : ℕ → Type 0 = λ w. get_or o2 w None ≡ kept_of (get_or o0 w None) (offer w) in
                let here : get_or o2 k None ≡ offer k =
                ap (λ (l : List (Option ℕ)). get_or l k None) set_least ∙ get_or-set_same o1 k (offer k) None (omega arith) in
                let kept : kept_of (get_or o0 k None) (offer k) ≡ offer k = rw taken refl in
                subst P (sym same) (here ∙ sym kept)
          ];
          via_below = λ v below. elim (cases_lt v k) [
            | inl before ↦ ap (λ (l : List ℕ). get_or l v 0) set_via
                ∙ (get_or-set_other v1 k v x 0 (λ same. omega arith) ∙ is.via_below v before)
            | inr past ↦
                let same : v ≡ k = omega arith in
                let P : ℕ → Type 0 = λ w. get_or v2 w 0 ≡ via_of (get_or o0 w None) (offer w) x (get_or v0 w 0) in
                let here : get_or v2 k 0 ≡ x = ap (λ (l : List ℕ). get_or l k 0) set_via ∙ get_or-set_same v1 k x 0 (omega arith) in
                let kept : via_of (get_or o0 k None) (offer k) x (get_or v0 k 0) ≡ x = rw taken refl in
                subst P (sym same) (here ∙ sym kept)
          ];
          least_past = λ v past. ap (λ (l : List (Option ℕ)). get_or l v None) set_least
              ∙ (get_or-set_other o1 k v (offer k) None (λ same. omega arith) ∙ is.least_past v (omega arith));
          via_past = λ v past. ap (λ (l : List ℕ). get_or l v 0) set_via
              ∙ (get_or-set_other v1 k v x 0 (λ same. omega arith) ∙ is.via_past v (omega arith));
        }
    go false test =
        let same_least : o2 ≡ o1 = e ∙ rw test refl in
        let same_via : v2 ≡ v1 = e' ∙ rw test refl in
        let counts = is.least_count in
        let counts' = is.via_count in
        let left : takes (get_or o0 k None) (offer k) ≡ false = subst (λ (o : Option ℕ). takes o (offer k) ≡ false) old test in
        record {
          least_count = ap length same_least ∙ counts;
          via_count = ap length same_via ∙ counts';
          least_below = λ v below. elim (cases_lt v k) [
            | inl before ↦ ap (λ (l : List (Option ℕ)). get_or l v None) same_least ∙ is.least_below v before
            | inr past ↦
                let same : v ≡ k = omega arith in
                let P : ℕ → Type 0 = λ w. get_or o2 w None ≡ kept_of (get_or o0 w None) (offer w) in
                let here : get_or o2 k None ≡ get_or o0 k None = ap (λ (l : List (Option ℕ)). get_or l k None) same_least ∙ old in
                let kept : kept_of (get_or o0 k None) (offer k) ≡ get_or o0 k None = rw left refl in
                subst P (sym same) (here ∙ sym kept)
          ];
          via_below = λ v below. elim (cases_lt v k) [
            | inl before ↦ ap (λ (l : List ℕ). get_or l v 0) same_via ∙ is.via_below v before
            | inr past ↦
                let same : v ≡ k = omega arith in
                let P : ℕ → Type 0 = λ w. get_or v2 w 0 ≡ via_of (get_or o0 w None) (offer w) x (get_or v0 w 0) in
                let here : get_or v2 k 0 ≡ get_or v0 k 0 = ap (λ (l : List ℕ). get_or l k 0) same_via ∙ old_via in
                let kept : via_of (get_or o0 k None) (offer k) x (get_or v0 k 0) ≡ get_or v0 k 0 = rw left refl in
                subst P (sym same) (here ∙ sym kept)
          ];
          least_past = λ v past. ap (λ (l : List (Option ℕ)). get_or l v None) same_least ∙ is.least_past v (omega arith);
          via_past = λ v past. ap (λ (l : List ℕ). get_or l v 0) same_via ∙ is.via_past v (omega arith);
        }
