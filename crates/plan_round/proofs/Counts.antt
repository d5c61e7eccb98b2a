-- Counts of classes beside columns that change.
use Rattle.std.proofs.Common.{◌≡◌, ◌==◌, ℕ, ◌+◌, ◌<◌, ◌≤◌, true, false, List, [], ◌∷◌, ◌++◌, length, get_or, ℤ, sym, ap, ◌∙◌, inl, inr, arith, get_or-set_same, get_or-set_other, length-set}
use Rattle.std.proofs.Math.ListN.{set}
use Rattle.std.proofs.lemmas.Bool.{cases_eq}
use Rattle.std.proofs.lemmas.Bool.Decides.{nat_tests}
use Rattle.cover_core.specs.declared.Column.{Column}
use Rattle.cover_core.specs.Plans.{times, all_classes}
use Rattle.cover_core.proofs.Parts.{placed-push, placed-set}
use Rattle.std.specs.Prelude.{nat_lt, slice_index}
use Rattle.cover_core.specs.Cover.{Problem}
use Rattle.cover_core.specs.Ranges.{HasFewPlaces}
use Rattle.cover_core.proofs.Ranges.{few-at}
pub use Rattle.cover_core.proofs.Values.{AreCheap-push}
use Rattle.plan_round.specs.declared.choice.Spot.{Spot}
use Rattle.plan_round.specs.declared.choice.Spot.TheVariants.{Into, New}
use Rattle.plan_round.specs.Drafts.{IsCounted, IsSpotOf}
use Rattle.plan_round.proofs.Puts.{IsAllowedAt}

pub counted-set : (columns : List Column) (counts : List ℕ) (place : ℕ) (new old : Column) → place < length columns →
    old ≡ get_or columns place old → new.class ≡ old.class → IsCounted columns counts → IsCounted (set columns place new) counts
counted-set columns counts place new old inside is same counted class below =
    counted class below ∙ sym (placed-set class columns place new old inside (same ∙ ap (λ (c : Column). c.class) is))

pub counted-push : (columns : List Column) (counts : List ℕ) (new : Column) (n : ℕ) → new.class < length counts →
    n ≡ get_or counts new.class 0 → IsCounted columns counts → IsCounted (columns ++ new ∷ []) (set counts new.class (n + 1))
counted-push columns counts new n inside is counted class below =
    let long = length-set counts new.class (n + 1) in
    let more = placed-push class columns new in
    let before : get_or counts class 0 ≡ times class (all_classes columns) = counted class (omega arith) in
    elim (cases_eq class new.class) [
      | inl same ↦
          let here : get_or (set counts new.class (n + 1)) new.class 0 ≡ n + 1 = get_or-set_same counts new.class (n + 1) 0 inside in
          let there : get_or (set counts new.class (n + 1)) class 0 ≡ n + 1 =
          ap (λ k. get_or (set counts new.class (n + 1)) k 0) same ∙ here in
          let was : get_or counts class 0 ≡ n = ap (λ k. get_or counts k 0) same ∙ sym is in
          let test : (class == new.class) ≡ true = grind (arith, nat_tests) in
          let sum = rw test at more in
          omega arith
      | inr apart ↦
          let other : get_or (set counts new.class (n + 1)) class 0 ≡ get_or counts class 0 =
          get_or-set_other counts new.class class (n + 1) 0 apart in
          let test : (class == new.class) ≡ false = grind (arith, nat_tests) in
          let sum = rw test at more in
          omega arith
    ]

-- what a problem allows can be put there
pub allowed-spot : (p : Problem) (item : ℕ) (columns : List Column) (counts : List ℕ) (rise : ℤ) (worth : ℕ) (spot : Spot) →
    length counts ≡ length p.caps → IsCounted columns counts → HasFewPlaces p →
    IsAllowedAt p item columns rise worth spot → IsSpotOf columns counts spot
allowed-spot p item columns counts rise worth (Into place) sized counted few allowed = allowed.0
allowed-spot p item columns counts rise worth (New class) sized counted few allowed =
    let inside = allowed.0 in
    let there : class < length counts = omega arith in
    let count : get_or counts class 0 ≡ times class (all_classes columns) = counted class there in
    let most : slice_index p.caps class ≤ 10000 = few-at p class few inside in
    let test : nat_lt (times class (all_classes columns)) (slice_index p.caps class) ≡ true = allowed.1 in
    let room : times class (all_classes columns) < slice_index p.caps class = grind (arith, nat_tests) in
    let free : get_or counts class 0 < 10000 = omega arith in
    (there, free)
