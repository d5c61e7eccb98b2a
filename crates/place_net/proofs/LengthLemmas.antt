-- The lengths of sections on top of a sum.
use Rattle.std.proofs.Common.{ℕ, ◌+◌, List, Option, Some, None, is_some, unwrap_or, if◌then◌else◌}
use Rattle.std.specs.Prelude.{fold}
use Rattle.std.specs.List.{list_all}
use Rattle.plan_core.specs.declared.types.Point.{Point}

-- what is left on top of a sum, if each section has a length
abbrev pub length_on_top : (Point × Point → Option ℕ) → ℕ → List (Point × Point) → Option ℕ
length_on_top length_of start links =
    if list_all (λ link. is_some (length_of link)) links then Some (fold (λ a link. a + unwrap_or (length_of link) 0) start links) else None
