-- Marks that the order of their fields does not tell apart are the same.
use Rattle.std.proofs.Common.{◌≡◌, ◌∙◌, ℕ, ℤ, Bool, true, false, refl, ap}
use Rattle.std.proofs.lemmas.Map.Lookups.{exact_signed, exact_unsigned}
use Rattle.std.specs.declared.cmp.Ordering.{Ordering}
use Rattle.std.specs.declared.cmp.Ordering.TheVariants.{Less, Equal, Greater}
use Rattle.std.specs.Ordering.{bool_cmp, ordering_then}
use Rattle.plan_core.specs.declared.types.Sec.{Sec}
use Rattle.cover_core.specs.declared.marks.Mark.{Mark}
use Rattle.label_cover.specs.Marked.{mark_order}

both-equal : (o p : Ordering) → ordering_then o p ≡ Equal → (o ≡ Equal) × (p ≡ Equal)
both-equal Less p e = absurd (cc)
both-equal Equal p e = (refl, e)
both-equal Greater p e = absurd (cc)

exact-bool : (a b : Bool) → bool_cmp a b ≡ Equal → a ≡ b
exact-bool false false e = refl
exact-bool false true e = absurd (cc)
exact-bool true false e = absurd (cc)
exact-bool true true e = refl

exact-start : (a b : Sec) → a.0 ≡ b.0 → a ≡ b
exact-start a b e = let second : ℤ → Sec = λ z. record { 0 = z } in ap second e

-- An order that compares one field after another ends with no difference only where each field shows none, and numbers, times and
-- truth values without a difference are equal. So marks may be put in order, and those that repeat be taken away, and no mark is lost.
pub mark-exact : (a b : Mark) → mark_order a b ≡ Equal → a ≡ b
mark-exact a b e =
    let p = both-equal _ _ e in
    let q = both-equal _ _ p.1 in
    let r = both-equal _ _ q.1 in
    let s = both-equal _ _ r.1 in
    let t = both-equal _ _ s.1 in
    let u = both-equal _ _ t.1 in
    let v = both-equal _ _ u.1 in
    let class : a.class ≡ b.class = exact_unsigned a.class b.class p.0 in
    let piece : a.piece ≡ b.piece = exact_unsigned a.piece b.piece q.0 in
    let start : a.start ≡ b.start = exact-start a.start b.start (exact_signed a.start.0 b.start.0 r.0) in
    let driving : a.driving ≡ b.driving = exact_unsigned a.driving b.driving s.0 in
    let quarter : a.quarter ≡ b.quarter = exact-bool a.quarter b.quarter t.0 in
    let total : a.total ≡ b.total = exact_unsigned a.total b.total u.0 in
    let three : a.three ≡ b.three = exact-bool a.three b.three v.0 in
    let value : a.value ≡ b.value = exact_signed a.value b.value v.1 in
    let mark : ℕ → ℕ → Sec → ℕ → Bool → ℕ → Bool → ℤ → Mark =
    λ c p s d q t l v. record { class = c; piece = p; start = s; driving = d; quarter = q; total = t; three = l; value = v } in
    ap (λ x. mark x a.piece a.start a.driving a.quarter a.total a.three a.value) class
    ∙ (ap (λ x. mark b.class x a.start a.driving a.quarter a.total a.three a.value) piece
    ∙ (ap (λ x. mark b.class b.piece x a.driving a.quarter a.total a.three a.value) start
    ∙ (ap (λ x. mark b.class b.piece b.start x a.quarter a.total a.three a.value) driving
    ∙ (ap (λ x. mark b.class b.piece b.start b.driving x a.total a.three a.value) quarter
    ∙ (ap (λ x. mark b.class b.piece b.start b.driving b.quarter x a.three a.value) total
    ∙ (ap (λ x. mark b.class b.piece b.start b.driving b.quarter b.total x a.value) three
    ∙ ap (λ x. mark b.class b.piece b.start b.driving b.quarter b.total b.three x) value))))))
