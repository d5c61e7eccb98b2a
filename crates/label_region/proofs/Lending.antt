-- A `&` to the places lends each label that is there. Assumes `Logic`.
use Prim.Native.Nat.{ℕ, ◌+◌}
use Rattle.std.specs.Prelude.{List, [], ◌∷◌, Option, Some, None}
use Rattle.std.specs.Mem.{type_size}
use seplogic.Ra.Ura.{Ura}
use base.Fml.{Lft, Incl, ftrue, ffalse}
use types.Logic.{Logic}
use denote.RattleType.{RattleType, RowLaws}
use denote.Param.Laws.{Laws}
use denote.RawPtr.{Ptr, block_ptr, null_ptr}
use denote.Sharing.{ShrLaws, said}
use denote.SharingLaws.{beside_shr_laws, nothing_shr_laws, said_shr_laws}
use denote.Shares.{Shares-less}
use denote.Struct.Lending.{Lends, Lends-both, Lends-nothing, Lends-said, Lends-false}
use Rattle.label_region.specs.Ownership.{place_own, place_lent, row_own, row_lent, in_reach, places_own, places_lent}

-- what is lent can be copied and used for a shorter time
module _ (R : RattleType) (L : RowLaws R) where
  place_lent_laws : (b o : ℕ) (p : Option R.Denot) → ShrLaws (place_lent R b o p)
  place_lent_laws b o None = nothing_shr_laws
  place_lent_laws b o (Some x) = L x b o

  row_lent_laws : (b o : ℕ) (ps : List (Option R.Denot)) → ShrLaws (row_lent R b o ps)
  row_lent_laws b o [] = nothing_shr_laws
  row_lent_laws b o (p ∷ ps) = beside_shr_laws _ _ (place_lent_laws b o p) (row_lent_laws b (o + type_size R) ps)

  pub places_lent_laws : (at : Ptr) (ps : List (Option R.Denot)) → ShrLaws (places_lent R at ps)
  places_lent_laws null_ptr ps = said_shr_laws ffalse tt
  places_lent_laws (block_ptr b o) ps = beside_shr_laws _ _ (said_shr_laws (in_reach R ps) tt) (row_lent_laws b o ps)

-- what is owned can be lent
module _ {M : Type 1} {𝓤 : Ura M} (𝓛 : Logic 𝓤) (l : Lft) (R : RattleType) (L : Laws R) (inc : Incl l R.lives) where
  Lends-place : (b o : ℕ) (p : Option R.Denot) → Lends 𝓛 (place_own R b o p) (place_lent R b o p) l
  Lends-place b o None = Lends-nothing 𝓛 (place_own R b o None) l
  Lends-place b o (Some x) = λ κ ts. Shares-less 𝓛 R R.lives l inc (L.shares 𝓛) x κ ts b o

  Lends-row : (b o : ℕ) (ps : List (Option R.Denot)) → Lends 𝓛 (row_own R b o ps) (row_lent R b o ps) l
  Lends-row b o [] = Lends-nothing 𝓛 ftrue l
  Lends-row b o (p ∷ ps) =
      let next = o + type_size R in
      Lends-both 𝓛 (place_own R b o p) (row_own R b next ps) (place_lent R b o p) (row_lent R b next ps) l
      (Lends-place b o p) (Lends-row b next ps)

  -- What the owner of a row has, all its places, can be lent for as long as labels of its kind may live: under a shared reference
  -- each place that holds a label lends this label, and an empty place lends nothing. The proof goes over the row from its first
  -- byte, place by place; the bound on the row's bytes is no memory and is lent as a fact. With the laws above (what is lent can be
  -- copied, and used for a shorter time) it makes a shared reference to `Cells` one to its labels, on which `get` rests.
  pub Lends-places : (at : Ptr) (ps : List (Option R.Denot)) → Lends 𝓛 (places_own R at ps) (places_lent R at ps) l
  Lends-places null_ptr ps = Lends-false 𝓛 (said ffalse) l
  Lends-places (block_ptr b o) ps =
      Lends-both 𝓛 (in_reach R ps) (row_own R b o ps) (said (in_reach R ps)) (row_lent R b o ps) l
      (Lends-said 𝓛 (in_reach R ps) tt l) (Lends-row b o ps)
