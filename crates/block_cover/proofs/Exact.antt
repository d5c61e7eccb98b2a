-- Two marks between which the order makes no difference are the same: the order compares every field.
use Rattle.std.proofs.Common.{◌≡◌, refl, ap, ◌∙◌}
use Rattle.std.proofs.lemmas.Map.Lookups.{exact_signed, exact_unsigned}
use Rattle.std.specs.Ordering.{int_cmp, nat_cmp, ordering_then}
use Rattle.std.specs.declared.cmp.Ordering.{Ordering}
use Rattle.std.specs.declared.cmp.Ordering.TheVariants.{Less, Equal, Greater}
use Rattle.depot_network.specs.BlockMarks.{mark}
use Rattle.unpaid_list.specs.Laws.{TellsMarksApart}
use Rattle.block_cover.specs.Seen.{mark_order}

both-equal : (o p : Ordering) → ordering_then o p ≡ Equal → (o ≡ Equal) × (p ≡ Equal)
both-equal Less p e = absurd (cc)
both-equal Equal p e = (refl, e)
both-equal Greater p e = absurd (cc)

pub order-apart : TellsMarksApart mark_order
order-apart a b e =
    let (class, rest) = both-equal (nat_cmp a.class b.class)
    (ordering_then (nat_cmp a.trip b.trip) (ordering_then (nat_cmp a.driving b.driving) (int_cmp a.value b.value))) e in
    let (trip, last) = both-equal (nat_cmp a.trip b.trip) (ordering_then (nat_cmp a.driving b.driving) (int_cmp a.value b.value)) rest in
    let (driving, value) = both-equal (nat_cmp a.driving b.driving) (int_cmp a.value b.value) last in
    ap (λ c. mark c a.trip a.driving a.value) (exact_unsigned a.class b.class class) ∙
    (ap (λ t. mark b.class t a.driving a.value) (exact_unsigned a.trip b.trip trip) ∙
    (ap (λ d. mark b.class b.trip d a.value) (exact_unsigned a.driving b.driving driving) ∙
    ap (λ v. mark b.class b.trip b.driving v) (exact_signed a.value b.value value)))
