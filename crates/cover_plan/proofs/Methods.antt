-- Where the method is that of fixed rounds, what holds by the method of the numbers holds by that one.
use Rattle.std.proofs.Common.{◌≡◌, ℕ, Bool, false, List, subst}
use Rattle.cover_core.specs.declared.Column.{Column}
use Rattle.cover_core.specs.Cover.{Problem}
use Rattle.dual_bound.specs.declared.kept.Kept.{Kept}
use Rattle.cover_plan.specs.Endings.{Numbers, IsFirstKept, IsKept, IsKeptBy, IsMade, IsMadeBy, IsRounded, LeavesBy, RoundingLeaves}

module _ (p : Problem) (numbers : Numbers) where
  pub first_kept : (kept : Kept) → numbers.climb ≡ false → IsKept p numbers kept → IsFirstKept p numbers kept
  first_kept kept fixed h = let P : Bool → Type 0 = λ b. IsKeptBy b p numbers kept in subst P fixed h

  pub rounded_made : (cost : Kept) (columns : List Column) → numbers.climb ≡ false → IsMade p numbers cost columns →
      IsRounded p numbers cost columns
  rounded_made cost columns fixed h = let P : Bool → Type 0 = λ b. IsMadeBy b p numbers cost columns in subst P fixed h

  pub rounding_leaves : (item : ℕ) (partial : List Column) → numbers.climb ≡ false → LeavesBy numbers.climb p numbers item partial →
      RoundingLeaves p numbers item partial
  rounding_leaves item partial fixed h = let P : Bool → Type 0 = λ b. LeavesBy b p numbers item partial in subst P fixed h
