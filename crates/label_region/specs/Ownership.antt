-- Inner: what the owner of the places owns and lends, at labels of the row R.
use Rattle.std.specs.Prelude.{ℕ, ◌+◌, ◌*◌, ◌^◌, List, [], ◌∷◌, length, Option, Some, None}
use Rattle.std.specs.Mem.{type_size}
use base.Fraction.{full_share}
use base.Fml.{Lft, Fml, ftrue, ffalse, fsep, flt, froom}
use mir.Syntax.{Ty, ty_array}
use mir.Raw.{raw}
use denote.RattleType.{RattleType}
use denote.Memory.{lone, part_at, shared_of}
use denote.Sharing.{nothing, said, beside}
use denote.RawPtr.{Ptr, block_ptr, null_ptr}

module _ (R : RattleType) where
  -- the place that begins at byte o of the block b
  abbrev pub place_own : ℕ → ℕ → Option R.Denot → Fml
  place_own b o None = froom (raw (lone R.mir)) b o
  place_own b o (Some x) = part_at R full_share x b o

  abbrev pub place_lent : ℕ → ℕ → Option R.Denot → Lft → Fml
  place_lent b o None = nothing
  place_lent b o (Some x) = shared_of R x b o

  -- a row of places from byte o on
  abbrev pub row_own : ℕ → ℕ → List (Option R.Denot) → Fml
  row_own b o [] = ftrue
  row_own b o (p ∷ ps) = fsep (place_own b o p) (row_own b (o + type_size R) ps)

  abbrev pub row_lent : ℕ → ℕ → List (Option R.Denot) → Lft → Fml
  row_lent b o [] = nothing
  row_lent b o (p ∷ ps) = beside (place_lent b o p) (row_lent b (o + type_size R) ps)

  -- a row takes fewer than 2 ^ 63 bytes
  abbrev pub in_reach : List (Option R.Denot) → Fml
  in_reach ps = flt (length ps * type_size R) (2 ^ 63)

  abbrev pub places_own : Ptr → List (Option R.Denot) → Fml
  places_own null_ptr ps = ffalse
  places_own (block_ptr b o) ps = fsep (in_reach ps) (row_own b o ps)

  abbrev pub places_lent : Ptr → List (Option R.Denot) → Lft → Fml
  places_lent null_ptr ps = said ffalse
  places_lent (block_ptr b o) ps = beside (said (in_reach ps)) (row_lent b o ps)

  -- what the allocator asks for to take the memory of n places back
  abbrev pub deed_owns : (Ty → Ptr → Fml) → Ptr → ℕ → Fml
  deed_owns token at n = token (raw (ty_array (lone R.mir) n)) at
