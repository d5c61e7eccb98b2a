-- Free items beside columns that are taken.
use Rattle.std.proofs.Common.{◌≡◌, ◌==◌, ℕ, ◌+◌, ◌<◌, Bool, true, false, ◌&&◌, List, [], ◌∷◌, ◌++◌, length, get_or, take, drop, sym, ap, ◌∙◌, inl, inr, arith, add-one, drop-cons, get_or-set_same, get_or-set_other}
use Rattle.std.proofs.Math.ListN.{set}
use Rattle.std.proofs.lemmas.Bool.{cases_eq}
use Rattle.std.proofs.lemmas.Bool.Decides.{nat_tests}
use Rattle.cover_core.specs.declared.Column.{Column}
use Rattle.cover_core.specs.Cover.{Problem}
use Rattle.cover_core.specs.Plans.{times, all_items}
use Rattle.cover_core.specs.Parts.{no_column, column_at}
use Rattle.cover_core.specs.Cover.{AllBelow}
use Rattle.cover_core.specs.Plans.{AreColumns}
use Rattle.cover_core.proofs.Parts.{AreColumns-get}
use Rattle.cover_core.proofs.Parts.{held-push}
use Rattle.cover_core.proofs.Times.{times-take}
use Rattle.plan_round.specs.Rounding.{taken, with_taken, picked}
use Rattle.plan_round.specs.Drafts.{ShowsFree}

suc-test : (n : ℕ) → (n + 1 == 0) ≡ false
suc-test n = grind (arith, nat_tests)

pub marked-more : (old now : List Bool) (list : List ℕ) (k i : ℕ) → k < length list → get_or list k 0 < length now →
    get_or now i false ≡ ((times i (take k list) == 0) && get_or old i false) →
    get_or (set now (get_or list k 0) false) i false ≡ ((times i (take (k + 1) list) == 0) && get_or old i false)
marked-more old now list k i inside there so_far =
    let item = get_or list k 0 in
    let more = times-take i k list inside in
    elim (cases_eq i item) [
      | inl same ↦
          let here : get_or (set now item false) item false ≡ false = get_or-set_same now item false false there in
          let at_i : get_or (set now item false) i false ≡ false = ap (λ n. get_or (set now item false) n false) same ∙ here in
          let test : (i == item) ≡ true = grind (arith, nat_tests) in
          let sum : times i (take (k + 1) list) ≡ times i (take k list) + 1 = rw test at more in
          let some : (times i (take (k + 1) list) == 0) ≡ false = ap (λ n. n == 0) sum ∙ suc-test (times i (take k list)) in
          at_i ∙ ap (λ b. b && get_or old i false) (sym some)
      | inr apart ↦
          let other : get_or (set now item false) i false ≡ get_or now i false = get_or-set_other now item i false false apart in
          let test : (i == item) ≡ false = grind (arith, nat_tests) in
          let sum : times i (take (k + 1) list) ≡ times i (take k list) = (let e = rw test at more in omega arith) in
          other ∙ so_far ∙ ap (λ n. (n == 0) && get_or old i false) (sym sum)
    ]

both-zero : (m n : ℕ) → ((n == 0) && (m == 0)) ≡ (m + n == 0)
both-zero m n = grind (arith, nat_tests)

pub shows-added : (columns : List Column) (c : Column) (free new : List Bool) → length new ≡ length free → ShowsFree columns free →
    ((i : ℕ) → get_or new i false ≡ ((times i c.items == 0) && get_or free i false)) → ShowsFree (columns ++ c ∷ []) new
shows-added columns c free new same shown marked i h =
    let was : get_or free i false ≡ (times i (all_items columns) == 0) = shown i (omega arith) in
    marked i ∙ ap (λ b. (times i c.items == 0) && b) was ∙ both-zero (times i (all_items columns)) (times i c.items)
    ∙ ap (λ n. n == 0) (sym (held-push i columns c))

-- one more place is looked at
pub taken-more : (p : Problem) (pool columns : List Column) (places : List ℕ) (t : ℕ) → t < length places →
    taken p columns (picked pool (drop t places)) ≡ taken p (with_taken p columns (column_at pool (get_or places t 0)))
    (picked pool (drop (t + 1) places))
taken-more p pool columns places t h =
    ap (λ (l : List ℕ). taken p columns (picked pool l)) (drop-cons places t 0 h) ∙
    ap (λ (n : ℕ). taken p (with_taken p columns (column_at pool (get_or places t 0))) (picked pool (drop n places))) (sym (add-one t))

pub picked-columns : (p : Problem) (pool : List Column) (places : List ℕ) → AreColumns p pool → AllBelow (length pool) places →
    AreColumns p (picked pool places)
picked-columns p pool [] are below = tt
picked-columns p pool (place ∷ places) are below =
    (AreColumns-get p pool place no_column below.0 are, picked-columns p pool places are below.1)
