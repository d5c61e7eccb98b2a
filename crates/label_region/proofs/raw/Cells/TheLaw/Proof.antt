-- A `&` to the owner of the places can be made, and lends the labels. Assumes `Logic`.
use mathlib.Core.List.{[], ◌++◌}
use base.Fml.{Incl-trans}
use contract.BorrowLft.{meet_⊑_left}
use denote.RattleType.{RattleType}
use denote.RawPtr.{RawPtr}
use denote.Param.Laws.{Laws}
use denote.Param.Shared.{copy_shared}
use denote.Struct.Laws.{field_copy}
use denote.Struct.Lending.{of_Lends}
use Rattle.core.specs.contracts.marker.PhantomData as phantom
use Rattle.label_region.specs.contracts.raw.Cells as cells
use Rattle.label_region.proofs.raw.Cells.TheLaw.Statement.{statement}
use Rattle.label_region.proofs.Lending.{places_lent_laws, Lends-places}

-- By `of_Lends` a shared reference to an owner of memory can be made where three things hold: what it lends can be copied and used
-- for a shorter time (`places_lent_laws`), the fields' own bytes can be shared (the mark has none), and what is owned can be lent
-- while the type lives (`Lends-places`). The type lives no longer than its labels do, so the lifetime of the last one is a part of
-- theirs.
pub shares : (R : RattleType) (L : Laws R) → statement R L
shares R L =
    let codes = cells.the_codes R.Denot R.coded (phantom.the_row RawPtr).coded in
    of_Lends (cells.struct R) codes (cells.the_heap R) (cells.the_lent R) (λ d p. places_lent_laws R L.shr_laws d.at d.slots)
    (copy_shared (phantom.the_field RawPtr) (field_copy (phantom.the_type RawPtr) tt), tt)
    (λ M 𝓤 𝓛 d p. Lends-places 𝓛 (cells.the_row R).lives R L
    (Incl-trans (meet_⊑_left (R.lives ++ []) _) (meet_⊑_left R.lives [])) d.at d.slots)
