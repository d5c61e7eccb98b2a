-- A `&` to a deed can be made, and lends nothing. Assumes `Logic`.
use denote.RattleType.{RattleType}
use denote.RawPtr.{RawPtr}
use denote.Param.Laws.{Laws}
use denote.Param.Shared.{copy_shared}
use denote.SharingLaws.{nothing_shr_laws}
use denote.Struct.Laws.{field_copy}
use denote.Struct.Lending.{of_Lends, Lends-nothing}
use Rattle.core.specs.declared.alloc.Allocator.{Ghosts}
use Rattle.core.specs.contracts.marker.PhantomData as phantom
use Rattle.label_region.specs.contracts.raw.Deed as deed
use Rattle.label_region.proofs.raw.Deed.TheLaw.Statement.{statement}

-- A deed is a right of its owner alone, so a shared reference to it lends nothing: what is lent is the true statement, which can be
-- copied and shortened freely, and whatever is owned may be lent as nothing. What is left to show is that the bytes of the mark can
-- be shared.
pub shares : (R A : RattleType) (g : Ghosts A.Denot) (L : Laws R) (K : Laws A) → statement R A g L K
shares R A g L K =
    let codes = deed.the_codes R.Denot A.Denot R.coded A.coded (phantom.the_row RawPtr).coded in
    of_Lends (deed.struct R A g) codes (deed.the_heap R A g) (deed.the_lent R A g) (λ d p. nothing_shr_laws)
    (copy_shared (phantom.the_field RawPtr) (field_copy (phantom.the_type RawPtr) tt), tt)
    (λ M 𝓤 𝓛 d p. Lends-nothing 𝓛 (deed.the_heap R A g d) (deed.the_row R A g).lives)
