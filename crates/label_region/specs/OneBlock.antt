-- Inner: the parts of a row of places belong together.
use Rattle.std.specs.Prelude.{◌≡◌, ℕ, length}
use Rattle.label_region.specs.declared.raw.Base.{Base}
use Rattle.label_region.specs.declared.raw.Cells.{Cells}
use Rattle.label_region.specs.declared.raw.Deed.{Deed}

pub record IsOneBlock {X A : Type 0} (base : Base X) (count : ℕ) (cells : Cells X) (deed : Deed X A) (alloc : A) : Type 0 where
  pub cells_at : cells.at ≡ base.ptr
  pub cells_count : length cells.slots ≡ count
  pub deed_at : deed.at ≡ base.ptr
  pub deed_count : deed.len ≡ count
  pub deed_alloc : deed.alloc ≡ alloc
