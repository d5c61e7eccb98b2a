-- Kept marks stay kept ones in another order.
use Rattle.std.proofs.Common.{List, length, refl, sym}
use Rattle.std.proofs.lemmas.List.Sorted.{Contains-permutation, IsPermutation-sym}
use Rattle.std.proofs.lemmas.Option.{slice_get_read, slice_get_within, get_or_from_slice_get}
use Rattle.std.specs.Prelude.{Contains}
use Rattle.std.specs.List.Sorted.{IsPermutation}
use Rattle.mark_cover.specs.Marking.{Marking}
use Rattle.mark_cover.specs.Covers.{StandsIn, IsMet}
use Rattle.mark_cover.specs.Minimal.{AreKept}

stands-contains : {L : Type 0} (xs : List L) (a : L) → StandsIn xs a → Contains xs a
stands-contains xs a h = (h.0, slice_get_within xs h.0 a h.1, get_or_from_slice_get xs h.0 a a h.1)

contains-stands : {L : Type 0} (xs : List L) (a : L) → Contains xs a → StandsIn xs a
contains-stands xs a h = (h.0, slice_get_read xs (length xs) h.0 a refl h.1 (sym h.2))

stands-permuted : {L : Type 0} (xs ys : List L) (a : L) → IsPermutation xs ys → StandsIn xs a → StandsIn ys a
stands-permuted xs ys a p h = contains-stands ys a (Contains-permutation xs ys a p (stands-contains xs a h))

met-permuted : {L : Type 0} (m : Marking L) (xs ys : List L) (b : L) → IsPermutation xs ys → IsMet m xs b → IsMet m ys b
met-permuted m xs ys b p met = (met.0, stands-permuted xs ys met.0 p met.1, met.2)

pub kept-permuted : {L : Type 0} (m : Marking L) (xs ys : List L) → AreKept m xs → IsPermutation xs ys → AreKept m ys
kept-permuted m xs ys kept p =
    let q = IsPermutation-sym xs ys p in
    record {
      are_open = λ a h. kept.are_open a (stands-permuted ys xs a q h);
      starts = λ class item b there e. met-permuted m xs ys b p (kept.starts class item b there e);
      steps = λ a b item h e. met-permuted m xs ys b p (kept.steps a b item (stands-permuted ys xs a q h) e);
      alone = λ a b first second good. kept.alone a b (stands-permuted ys xs a q first) (stands-permuted ys xs b q second) good;
    }
