use Rattle.std.proofs.Common.{◌≡◌, ◌==◌, ℕ, ◌<◌, drop, length, slice_index, if◌then◌else◌}
use Rattle.std.specs.List.{list_any}
use Rattle.umlauf_write.proofs.numbers.note.Given as goal

-- once the items that are left are noted, all are
abbrev pub invariant-loop-item : goal.invariant-loop-item
invariant-loop-item l =
    (trip : ℕ) → trip < length l.numbers →
    (if list_any (λ item. item == trip) (drop l.item-index l.items) then l.number else slice_index l.numbers trip) ≡
    (if list_any (λ item. item == trip) l.items then l.number else slice_index l.initial.numbers trip)
