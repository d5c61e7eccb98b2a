use Rattle.std.proofs.Common.{◌≡◌, false, slice_index}
use Rattle.std.specs.Prelude.{slice_index_or}
use Rattle.path_cover.specs.Scans.{IsScanned, offer_of}
use Rattle.path_cover.proofs.growth.scan.Given as goal

abbrev pub invariant-loop-v : goal.invariant-loop-v
invariant-loop-v g l = (l.growth.rows.items ≡ l.fn.growth.rows.items) × (l.growth.columns.items ≡ l.fn.growth.columns.items)
    × (l.growth.by.items ≡ l.fn.growth.by.items) × (l.growth.depth.items ≡ l.fn.growth.depth.items) ×
    IsScanned l.v l.x (λ v. offer_of (slice_index_or l.fn.growth.columns.items v false) ((g.A.Arcs.net l.arcs).arc l.x v)
    (slice_index l.falls.heads.items v) (slice_index l.falls.tails.items l.x)) l.fn.growth.least.items l.growth.least.items
    l.fn.growth.via.items l.growth.via.items
