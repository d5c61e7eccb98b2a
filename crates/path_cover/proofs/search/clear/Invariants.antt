use Rattle.std.proofs.Common.{◌≡◌, ◌<◌, ℕ, false, None, length, slice_index}
use Rattle.std.specs.Prelude.{slice_index_or}
use Rattle.path_cover.proofs.search.clear.Given as goal

abbrev pub invariant-loop-i : goal.invariant-loop-i
invariant-loop-i l = record {
  row_count : length l.growth.rows.items ≡ length l.fn.growth.rows.items;
  column_count : length l.growth.columns.items ≡ length l.fn.growth.rows.items;
  least_count : length l.growth.least.items ≡ length l.fn.growth.rows.items;
  depth_count : length l.growth.depth.items ≡ length l.fn.growth.rows.items;
  by : l.growth.by.items ≡ l.fn.growth.by.items;
  via : l.growth.via.items ≡ l.fn.growth.via.items;
  rows : (k : ℕ) → k < l.i → slice_index_or l.growth.rows.items k false ≡ false;
  columns : (k : ℕ) → k < l.i → slice_index_or l.growth.columns.items k false ≡ false;
  least : (k : ℕ) → k < l.i → slice_index_or l.growth.least.items k None ≡ None;
  depth : (k : ℕ) → k < l.i → slice_index l.growth.depth.items k ≡ 0;
}
