-- A certificate that is read has no more marks than its tables have rows: each mark is what one row says.
use Rattle.std.proofs.Common.{◌≡◌, ℕ, ◌<◌, ◌≤◌, Bool, true, false, List, [], ◌∷◌, All, length, suc, refl, sym, ap, ◌∙◌, subst, arith}
use Rattle.std.proofs.lemmas.List.Elements.{All-head, All-tail}
use Rattle.std.specs.List.{cons_option, filter_map}
use Rattle.std.specs.Prelude.{Option, Some, None, Result, Ok, Err, IfOk, count_by, find, ◌==◌, if◌then◌else◌}
use Rattle.std.proofs.lemmas.Option.{same_Some}
use Rattle.vdv451_text.specs.declared.table.Table.{Table}
use Rattle.vdv452_rows.specs.Rows.{has_name}
use Rattle.plan_cert.specs.declared.cert.Cert.{Cert}
use Rattle.plan_cert.specs.declared.cert.Pass.TheVariants.{BlockNumber, BlockCost, DutyNumber, DutyCost}
use Rattle.plan_cert.specs.declared.fault.CertFault.{CertFault}
use Rattle.plan_cert.specs.declared.fault.CertTable.{CertTable}
use Rattle.plan_cert.specs.declared.fault.CertTable.TheVariants as which
use Rattle.plan_cert.specs.declared.prices.Priced.TheVariants.{Items, Classes}
use Rattle.plan_cert.specs.declared.shape.Shape.{Shape}
use Rattle.plan_cert.specs.Certificates.{read_of}
use Rattle.plan_cert.specs.Columns.{block_columns, duty_columns}
use Rattle.plan_cert.specs.Entries.{block_entry, duty_entry}
use Rattle.plan_cert.specs.Laws.{HaveMarksBelow}
use Rattle.plan_cert.specs.Marks.{BlockMarks, block_marks_of, DutyMarks, duty_marks_of, mark_in}
use Rattle.plan_cert.specs.Names.{name_of}
use Rattle.plan_cert.specs.Places.{Gives, first_wrong, needed, no_wrong, table_in, table_of}
use Rattle.plan_cert.specs.PriceTables.{prices_of}
use Rattle.plan_cert.proofs.ReadParts.{next, ok-same, there}

few-with : {Y : Type 0} (o : Option Y) (ys : List Y) (n : ℕ) → length ys ≤ n → length (cons_option o ys) ≤ suc n
few-with (Some y) ys n h = omega arith
few-with None ys n h = omega arith

-- what is kept is no more than there was
few-kept : {X Y : Type 0} (f : X → Option Y) (xs : List X) → length (filter_map f xs) ≤ length xs
few-kept f [] = omega arith
few-kept f (x ∷ xs) = few-with (f x) (filter_map f xs) (length xs) (few-kept f xs)

twice-kept : {X Y Z : Type 0} (f : X → Option Y) (g : Y → Option Z) (xs : List X) (bound : ℕ) → length xs < bound →
    length (filter_map g (filter_map f xs)) < bound
twice-kept f g xs bound h = let once = few-kept f xs in let again = few-kept g (filter_map f xs) in omega arith

-- the rows of the table that is found
found-rows : (bound : ℕ) (test : Table → Bool) (tables : List Table) (table : Table) → All (λ (t : Table). length t.rows < bound) tables →
    find test tables ≡ Some table → length table.rows < bound
found-rows bound test [] table all e = absurd (cc)
found-rows bound test (t ∷ tables) table all e =
    elim (test t) as (λ b. test t ≡ b → length table.rows < bound) [
      | true ↦ λ h. let same : Some t ≡ Some table = sym (ap (λ (b : Bool). if b then Some t else find test tables) h) ∙ e in
          subst (λ (x : Table). length x.rows < bound) (same_Some t table same)
          (All-head (λ (x : Table). length x.rows < bound) t tables all)
      | false ↦ λ h. found-rows bound test tables table (All-tail (λ (x : Table). length x.rows < bound) t tables all)
          (sym (ap (λ (b : Bool). if b then Some t else find test tables) h) ∙ e)
    ] refl

table-rows : (bound : ℕ) (t : CertTable) (tables : List Table) (table : Table) → All (λ (t : Table). length t.rows < bound) tables →
    table_of t tables ≡ Ok table → length table.rows < bound
table-rows bound t tables table all e =
    let found : table_in t tables ≡ Some table = there t (table_in t tables) table e in
    elim (count_by (has_name (name_of t)) tables == 1) as (λ b. (count_by (has_name (name_of t)) tables == 1) ≡ b →
    length table.rows < bound) [
      | true ↦ λ h. found-rows bound (has_name (name_of t)) tables table all
          (sym (ap (λ (b : Bool). if b then find (has_name (name_of t)) tables else None) h) ∙ found)
      | false ↦ λ h. let none : None ≡ Some table = sym (ap (λ (b : Bool). if b then find (has_name (name_of t)) tables else None) h)
          ∙ found in absurd (cc)
    ] refl

record AreFewDuties (bound : ℕ) (marks : DutyMarks) : Type 0 where
  pub of_number : length marks.of_number < bound
  pub of_cost : length marks.of_cost < bound

few-duties : (s : Shape) (bound : ℕ) (tables : List Table) (marks : DutyMarks) → All (λ (t : Table). length t.rows < bound) tables →
    duty_marks_of s tables ≡ Ok marks → AreFewDuties bound marks
few-duties s bound tables marks all e =
    let x = next (table_of which.DutyMarks tables) _ marks e in
    let y = next (needed which.DutyMarks (duty_columns x.value.columns)) _ marks x.made in
    let z = next (no_wrong which.DutyMarks (first_wrong (duty_entry s y.value) x.value.rows)) _ marks y.made in
    let rows = table-rows bound which.DutyMarks tables x.value all x.is in
    subst (AreFewDuties bound) (ok-same _ marks z.made)
    (record {
      of_number = twice-kept (duty_entry s y.value) (mark_in DutyNumber) x.value.rows bound rows;
      of_cost =
          twice-kept (duty_entry s y.value) (mark_in DutyCost) x.value.rows bound rows;
    })

record AreFewBlocks (bound : ℕ) (marks : BlockMarks) : Type 0 where
  pub of_number : length marks.of_number < bound
  pub of_cost : length marks.of_cost < bound

few-blocks : (s : Shape) (bound : ℕ) (tables : List Table) (marks : BlockMarks) → All (λ (t : Table). length t.rows < bound) tables →
    block_marks_of s tables ≡ Ok marks → AreFewBlocks bound marks
few-blocks s bound tables marks all e =
    let x = next (table_of which.BlockMarks tables) _ marks e in
    let y = next (needed which.BlockMarks (block_columns x.value.columns)) _ marks x.made in
    let z = next (no_wrong which.BlockMarks (first_wrong (block_entry s y.value) x.value.rows)) _ marks y.made in
    let rows = table-rows bound which.BlockMarks tables x.value all x.is in
    subst (AreFewBlocks bound) (ok-same _ marks z.made)
    (record {
      of_number = twice-kept (block_entry s y.value) (mark_in BlockNumber) x.value.rows bound rows;
      of_cost =
          twice-kept (block_entry s y.value) (mark_in BlockCost) x.value.rows bound rows;
    })

-- What is read. A part over duties has no marks of blocks, and the other way round; so the bound is above 0, as the rows of a table are
-- below it.
pub few-marks : (s : Shape) (bound : ℕ) (tables : List Table) (r : Result Cert CertFault) →
    All (λ (t : Table). length t.rows < bound) tables → Gives r (read_of s tables) → IfOk r (λ cert. HaveMarksBelow bound cert.parts)
few-marks s bound tables (Err e) all gives = tt
few-marks s bound tables (Ok cert) all gives =
    let p = next (prices_of Items s tables) _ cert gives in
    let q = next (prices_of Classes s tables) _ cert p.made in
    let d = next (duty_marks_of s tables) _ cert q.made in
    let b = next (block_marks_of s tables) _ cert d.made in
    let duties = few-duties s bound tables d.value all d.is in
    let blocks = few-blocks s bound tables b.value all b.is in
    let some = duties.of_number in
    let P : Cert → Type 0 = λ c. HaveMarksBelow bound c.parts in
    subst P (ok-same _ cert b.made)
    (blocks.of_number, omega arith, (blocks.of_cost, omega arith, (omega arith, duties.of_number, (omega arith, duties.of_cost, tt))))
