use Rattle.std.proofs.Common.{◌≡◌, ◌++◌, ◌∷◌, map, drop}
use Rattle.std.specs.List.{flat_map, list_all}
use Rattle.vdv451_text.specs.Plain.{is_sized_field, field_text}
use Rattle.vdv451_text.proofs.writing.push_row.Given as goal

-- what is written so far and what is left to write are the whole
abbrev pub invariant-loop-field : goal.invariant-loop-field
invariant-loop-field l = record {
  written : l.out.items ++ flat_map (λ field. 59 ∷ 32 ∷ field) (map field_text (drop l.field-index l.row)) ≡ l.initial.out.items
      ++ flat_map (λ field. 59 ∷ 32 ∷ field) (map field_text l.row);
  sized : list_all is_sized_field (drop l.field-index l.row) ≡ list_all is_sized_field l.row;
}
