-- The owner of the places crosses threads as its labels may, and the right to free them as its allocator may.
use Rattle.std.specs.Prelude.{ℕ, ◌+◌, List, [], ◌∷◌, Option, Some, None}
use Rattle.std.specs.Mem.{type_size}
use base.Fraction.{full_share}
use base.Shift.{Keyless}
use denote.RattleType.{RattleType}
use denote.RawPtr.{Ptr, block_ptr, null_ptr}
use denote.Struct.Struct.{exits_of}
use denote.Struct.Owning.{shape, fields, to}
use denote.Param.Send.{IsSend, IsSync, Common, AllSend, part_keyless, owning_send, struct_send, struct_sync, sendable}
use Rattle.core.specs.declared.alloc.Allocator.{Ghosts}
use Rattle.std_alloc.proofs.SendSync.{FreesAnywhere, quiet}
use Rattle.label_region.specs.Ownership.{row_own, row_lent, places_own, places_lent}
use Rattle.label_region.specs.contracts.raw.Cells as cells-type
use Rattle.label_region.specs.contracts.raw.Deed as deed-type

module _ (R : RattleType) where
  -- what is owned is tied to no thread
  row-Keyless : IsSend R → (b o : ℕ) (ps : List (Option R.Denot)) → Keyless (row_own R b o ps)
  row-Keyless s b o [] = tt
  row-Keyless s b o (None ∷ ps) = (tt, row-Keyless s b (o + type_size R) ps)
  row-Keyless s b o (Some x ∷ ps) = (part_keyless R s full_share x b o, row-Keyless s b (o + type_size R) ps)

  places-Keyless : IsSend R → (at : Ptr) (ps : List (Option R.Denot)) → Keyless (places_own R at ps)
  places-Keyless s null_ptr ps = tt
  places-Keyless s (block_ptr b o) ps = (tt, row-Keyless s b o ps)

  -- and so is what is lent
  row-Common : IsSync R → (b o : ℕ) (ps : List (Option R.Denot)) → Common (row_lent R b o ps)
  row-Common y b o [] κ = tt
  row-Common y b o (None ∷ ps) κ = (tt, row-Common y b (o + type_size R) ps κ)
  row-Common y b o (Some x ∷ ps) κ = (y.shared x b o κ, row-Common y b (o + type_size R) ps κ)

  places-Common : IsSync R → (at : Ptr) (ps : List (Option R.Denot)) → Common (places_lent R at ps)
  places-Common y null_ptr ps κ = tt
  places-Common y (block_ptr b o) ps κ = (tt, row-Common y b o ps κ)

  -- The owner of the places may go to another thread where its labels may: apart from its fields, which are no more than a mark, it
  -- owns the row, and what a row owns is tied to no thread as no label in it is (`places-Keyless`, place by place). For a shared
  -- reference the same is shown of what is lent (`cells_sync`): a label that threads may share is lent alike in each of them.
  pub cells_send : IsSend R → IsSend (cells-type.the_row R)
  cells_send s =
      let C = cells-type.the_type R in let all : AllSend (fields C) = (search sendable, tt) in
      owning_send C all (λ d. places-Keyless s d.at d.slots)
      (λ k. quiet (to C) (exits_of k (fields C)) ((struct_send (shape C) all).leaving k))

  pub cells_sync : IsSync R → IsSync (cells-type.the_row R)
  cells_sync y =
      let C = cells-type.the_type R in
      record { shared = λ d b o κ. ((struct_sync (shape C) (search sendable, tt)).shared (to C d) b o κ, places-Common y d.at d.slots κ) }

  module _ (A : RattleType) (g : Ghosts A.Denot) where
    -- The right to free may go to another thread where the allocator's memory may be freed from any: what a deed owns is the
    -- allocator's token for the row, of which `FreesAnywhere` says that it is tied to no thread. No label is owned, so nothing is
    -- asked of labels. A shared reference to a deed lends nothing and may be anywhere (`deed_sync`).
    pub deed_send : FreesAnywhere A.Denot g → IsSend (deed-type.the_row R A g)
    deed_send f =
        let D = deed-type.the_type R A g in let all : AllSend (fields D) = (search sendable, tt) in
        owning_send D all (λ d. f.frees d.alloc _ d.at) (λ k. quiet (to D) (exits_of k (fields D)) ((struct_send (shape D) all).leaving k))

    pub deed_sync : IsSync (deed-type.the_row R A g)
    deed_sync = let D = deed-type.the_type R A g in
        record { shared = λ d b o κ. ((struct_sync (shape D) (search sendable, tt)).shared (to D d) b o κ, tt) }
