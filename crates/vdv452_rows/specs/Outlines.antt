-- Inner: the column that an outline tells.
use Rattle.vdv452_rows.specs.declared.schema.Column.{Column}
use Rattle.vdv452_rows.specs.declared.schema.Outline.{Outline}

abbrev pub column_of : Outline → Column
column_of outline = record {
  name = outline.name.now;
  domain = outline.domain;
  is_key = outline.is_key;
  may_be_empty = outline.may_be_empty;
  may_be_missing = outline.may_be_missing;
}
