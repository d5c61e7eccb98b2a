use Rattle.std.proofs.Common.{◌≡◌, ◌++◌, ◌∷◌, [], drop}
use Rattle.std.specs.List.{flat_map, list_all}
use Rattle.vdv451_text.specs.Plain.{is_sized_row, row_text}
use Rattle.vdv451_text.proofs.writing.push_rows.Given as goal

-- what is written so far and what is left to write are the whole
abbrev pub invariant-loop-row : goal.invariant-loop-row
invariant-loop-row l = record {
  written : l.out.items ++ flat_map (row_text (13 ∷ 10 ∷ [])) (drop l.row-index l.rows) ≡ l.initial.out.items
      ++ flat_map (row_text (13 ∷ 10 ∷ [])) l.rows;
  sized : list_all is_sized_row (drop l.row-index l.rows) ≡ list_all is_sized_row l.rows;
}
