-- The nearest items, one more at a time.
use Rattle.std.proofs.Common.{ℕ, true, false, cond, Some}
use Rattle.column_weave.specs.declared.nearest.Near.{Near}
use Rattle.column_weave.specs.declared.nearest.Nearest.{Nearest}
use Rattle.column_weave.specs.Nearest.{AreNearest, IsLater, is_nearer, with_next}

pub nearest-next : (from items : ℕ) (n : Nearest) (x : Near) → AreNearest from items n → IsLater from items x →
    AreNearest from items (with_next n x)
nearest-next from items n x are later =
    elim (is_nearer x.rise n.first) as (λ b. AreNearest from items (cond b (record { first = Some x; second = n.first; third = n.second })
    (cond (is_nearer x.rise n.second) (record { first = n.first; second = Some x; third = n.second })
    (cond (is_nearer x.rise n.third) (record { first = n.first; second = n.second; third = Some x }) n)))) [
      | true ↦ record { first = later; second = are.first; third = are.second }
      | false ↦ elim (is_nearer x.rise n.second) as
          (λ b. AreNearest from items (cond b (record { first = n.first; second = Some x; third = n.second })
          (cond (is_nearer x.rise n.third) (record { first = n.first; second = n.second; third = Some x }) n))) [
            | true ↦ record { first = are.first; second = later; third = are.second }
            | false ↦ elim (is_nearer x.rise n.third) as
                (λ b. AreNearest from items (cond b (record { first = n.first; second = n.second; third = Some x }) n)) [
                  | true ↦ record { first = are.first; second = are.second; third = later }
                  | false ↦ are
                ]
          ]
    ]
