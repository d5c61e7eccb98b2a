-- A duty has one verdict.
use Rattle.std.proofs.Common.{◌≡◌, ℕ, ◌+◌, ◌<◌, ◌↔◌, inl, inr, List, refl, sym, subst, ◌∙◌, arith}
use Rattle.std.proofs.lemmas.Bool.{cases_lt, false≢true}
use Rattle.eu561_rules.specs.declared.rules.Drive.{Drive}
use Rattle.eu561_rules.specs.declared.rules.Limits.{Limits}
use Rattle.eu561_rules.specs.declared.rules.Verdict.{Verdict}
use Rattle.eu561_rules.specs.declared.rules.Verdict.TheVariants.{Lawful, Art6, Art7, Art8}
use Rattle.eu561_rules.specs.Duty.{driving_of, IsFirstExcess, BreaksArticle7, BreaksArticle8, IsLawful, Judged}
use Rattle.eu561_rules.proofs.Runs.{no-excess}

-- No first driving period with too much begins after another: it begins with a full break. If the other has ended by then, it is one
-- of the intervals before that keep the limit; if not, it has a full break inside. With `not-longer`, for two that begin together,
-- there is just one.
not-after : (limits : Limits) (drives : List Drive) (i j a i' j' b : ℕ) → IsFirstExcess limits drives i j a →
    IsFirstExcess limits drives i' j' b → i < i' → ⊥
not-after limits drives i j a i' j' b e f less =
    elim f.period.begins [
      | inl none ↦ omega arith
      | inr full ↦ elim (cases_lt j i') [
        | inl before ↦ let within = f.earlier i j e.period.order before e.period.free in omega (arith, e.exceeds, e.driving_is)
        | inr after ↦ false≢true (sym (e.period.free i' less after) ∙ full)
      ]
    ]

-- nor does it end after another that begins where it does
not-longer : (limits : Limits) (drives : List Drive) (i j a j' b : ℕ) → IsFirstExcess limits drives i j a →
    IsFirstExcess limits drives i j' b → j < j' → ⊥
not-longer limits drives i j a j' b e f less =
    elim e.period.ends [
      | inl end ↦ omega (arith, f.period.there)
      | inr full ↦ false≢true (sym (f.period.free (j + 1) (omega (arith, e.period.order)) (omega arith)) ∙ full)
    ]

-- A duty has one first driving period with too much driving, with its places and its driving. So the verdict under article 7 is
-- determined by the drives, and "the answer is this period" is the same as "this period breaks the article", in both directions.
pub one-excess : (limits : Limits) (drives : List Drive) (i j a i' j' b : ℕ) → IsFirstExcess limits drives i j a →
    IsFirstExcess limits drives i' j' b →
    Art7 i j a ≡ Art7 i' j' b
one-excess limits drives i j a i' j' b e f =
    let first : i ≡ i' = elim (cases_lt i i') [
      | inl less ↦ absurd (not-after limits drives i j a i' j' b e f less)
      | inr same ↦ elim (cases_lt i' i) [ inl more ↦ absurd (not-after limits drives i' j' b i j a f e more) | inr same' ↦ omega arith ]
    ] in
    let there : IsFirstExcess limits drives i j' b = subst (λ (k : ℕ). IsFirstExcess limits drives k j' b) (sym first) f in
    let last : j ≡ j' = elim (cases_lt j j') [
      | inl less ↦ absurd (not-longer limits drives i j a j' b e there less)
      | inr same ↦ elim (cases_lt j' j) [ inl more ↦ absurd (not-longer limits drives i j' b j a there e more) | inr same' ↦ omega arith ]
    ] in
    let driving : a ≡ b = (let same = subst (λ (k : ℕ). IsFirstExcess limits drives i k b) (sym last) there in
    e.driving_is ∙ sym same.driving_is) in
    cc

-- From "the verdict names the first article that is broken" to one equivalence for each verdict. The four cases exclude one another:
-- each later one says that the earlier articles are kept. So who reads a contract of `judge` may start from either side, the answer
-- or the breach; the next three lemmas are the same for articles 7 and 8 and for lawful duties.
pub judged-art6 : (drives : List Drive) (spread : ℕ) (limits : Limits) (v : Verdict) → Judged drives spread limits v →
    (v ≡ Art6 (driving_of drives)) ↔ (limits.day < driving_of drives)
judged-art6 drives spread limits (Art6 driving) j =
    (λ e. omega (arith, j.0, j.1), λ more. let same : driving ≡ driving_of drives = j.0 in cc)
judged-art6 drives spread limits (Art7 i k driving) j = (λ e. absurd (cc), λ more. absurd (omega (arith, j.article6)))
judged-art6 drives spread limits (Art8 s) j = (λ e. absurd (cc), λ more. absurd (omega (arith, j.1.article6)))
judged-art6 drives spread limits Lawful j = (λ e. absurd (cc), λ more. absurd (omega (arith, j.article6)))

art7-is : (drives : List Drive) (spread : ℕ) (limits : Limits) (v : Verdict) → Judged drives spread limits v →
    (i k driving : ℕ) → BreaksArticle7 limits drives i k driving → v ≡ Art7 i k driving
art7-is drives spread limits (Art6 a) j i k driving b = absurd (omega (arith, j.0, j.1, b.article6))
art7-is drives spread limits (Art7 i' k' a) j i k driving b = one-excess limits drives i' k' a i k driving j.excess b.excess
art7-is drives spread limits (Art8 s) j i k driving b = absurd (no-excess limits drives i k driving j.1.article7 b.excess)
art7-is drives spread limits Lawful j i k driving b = absurd (no-excess limits drives i k driving j.article7 b.excess)

pub judged-art7 : (drives : List Drive) (spread : ℕ) (limits : Limits) (v : Verdict) → Judged drives spread limits v →
    (i k driving : ℕ) → (v ≡ Art7 i k driving) ↔ BreaksArticle7 limits drives i k driving
judged-art7 drives spread limits v j i k driving = (
  (λ e. subst (λ (w : Verdict). Judged drives spread limits w) e j),
  (λ b. art7-is drives spread limits v j i k driving b),
)

pub judged-art8 : (drives : List Drive) (spread : ℕ) (limits : Limits) (v : Verdict) → Judged drives spread limits v →
    (v ≡ Art8 spread) ↔ BreaksArticle8 limits drives spread
judged-art8 drives spread limits (Art6 a) j = (λ e. absurd (cc), λ b. absurd (omega (arith, j.0, j.1, b.article6)))
judged-art8 drives spread limits (Art7 i k a) j = (λ e. absurd (cc), λ b. absurd (no-excess limits drives i k a b.article7 j.excess))
judged-art8 drives spread limits (Art8 s) j = (λ e. j.1, λ b. let same : s ≡ spread = j.0 in cc)
judged-art8 drives spread limits Lawful j = (λ e. absurd (cc), λ b. absurd (omega (arith, j.article8, b.exceeds)))

pub judged-lawful : (drives : List Drive) (spread : ℕ) (limits : Limits) (v : Verdict) → Judged drives spread limits v →
    (v ≡ Lawful) ↔ IsLawful limits drives spread
judged-lawful drives spread limits (Art6 a) j = (λ e. absurd (cc), λ b. absurd (omega (arith, j.0, j.1, b.article6)))
judged-lawful drives spread limits (Art7 i k a) j = (λ e. absurd (cc), λ b. absurd (no-excess limits drives i k a b.article7 j.excess))
judged-lawful drives spread limits (Art8 s) j = (λ e. absurd (cc), λ b. absurd (omega (arith, j.1.exceeds, b.article8)))
judged-lawful drives spread limits Lawful j = (λ e. j, λ b. refl)
