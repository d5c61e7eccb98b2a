-- The marks that are read are of classes and items that are there, and their numbers have 32 bits.
use Rattle.std.proofs.Common.{◌≡◌, ◌<◌, ◌≤◌, Bool, true, false, List, [], ◌∷◌, length, refl, subst}
use Rattle.std.specs.List.{cons_option, filter_map}
use Rattle.std.specs.Prelude.{Some, None, if◌then◌else◌}
use Rattle.std.proofs.lemmas.Option.{same_Some}
use Rattle.vdv451_text.specs.declared.table.Field.{Field}
use Rattle.number_tables.specs.Outlines.{number_at, word}
use Rattle.plan_cert.specs.declared.cert.Pass.{Pass}
use Rattle.plan_cert.specs.declared.cert.Pass.TheVariants.{BlockNumber, BlockCost, DutyNumber, DutyCost}
use Rattle.plan_cert.specs.declared.columns.BlockColumns.{BlockColumns}
use Rattle.plan_cert.specs.declared.columns.DrivingColumns.{DrivingColumns}
use Rattle.plan_cert.specs.declared.columns.DutyColumns.{DutyColumns}
use Rattle.plan_cert.specs.declared.columns.PlaceColumns.{PlaceColumns}
use Rattle.plan_cert.specs.declared.duties.Driven.{Driven}
use Rattle.plan_cert.specs.declared.entries.MarkPlace.{MarkPlace}
use Rattle.plan_cert.specs.declared.shape.Shape.{Shape}
use Rattle.plan_cert.specs.Entries.{block_entry, BlockEntry, block_place, driven_at, duty_entry, DutyEntry, duty_place, pass_from, place_at}
use Rattle.plan_cert.specs.Laws.{IsBlockMarkOf, IsMarkOf}
use Rattle.plan_cert.specs.Marks.{marks_in_pass}
use Rattle.plan_cert.specs.Numbers.{class_among, counted, same_pass, truth}
use Rattle.plan_cert.specs.Shapes.{items_of, numbers_in}
use Rattle.plan_cert.proofs.Found.{Each, bound, class-below, counted-below, said-each, up_to-most}

-- the class and the item of a mark are there
record IsPlace (s : Shape) (place : MarkPlace) : Type 0 where
  pub class : place.class < length (numbers_in s.classes place.pass)
  pub item : place.item < items_of s place.pass

placed : (s : Shape) (columns : PlaceColumns) (pass : Pass) (row : List Field) (place : MarkPlace) →
    place_at s columns pass row ≡ Some place → IsPlace s place
placed s columns pass row place e =
    let x = bound (class_among (numbers_in s.classes pass) (number_at row columns.class)) _ place e in
    let y = bound (counted (items_of s pass) (number_at row columns.item)) _ place x.made in
    subst (IsPlace s) (same_Some _ place y.made)
    (record {
      class = class-below (numbers_in s.classes pass) x.value (number_at row columns.class) x.is;
      item =
          counted-below (items_of s pass) y.value (number_at row columns.item) y.is;
    })

duty-placed : (s : Shape) (columns : PlaceColumns) (row : List Field) (place : MarkPlace) →
    duty_place s columns row ≡ Some place → IsPlace s place
duty-placed s columns row place e = let x = bound (pass_from 3 DutyNumber DutyCost (number_at row columns.pass)) _ place e in
    placed s columns x.value row place x.made

block-placed : (s : Shape) (columns : PlaceColumns) (row : List Field) (place : MarkPlace) →
    block_place s columns row ≡ Some place → IsPlace s place
block-placed s columns row place e = let x = bound (pass_from 1 BlockNumber BlockCost (number_at row columns.pass)) _ place e in
    placed s columns x.value row place x.made

record IsDriven (d : Driven) : Type 0 where
  pub driving : d.driving ≤ 4294967295
  pub total : d.total ≤ 4294967295

driven-is : (columns : DrivingColumns) (row : List Field) (d : Driven) → driven_at columns row ≡ Some d → IsDriven d
driven-is columns row d e =
    let x = bound (word (number_at row columns.driving)) _ d e in
    let y = bound (truth (number_at row columns.quarter)) _ d x.made in
    let z = bound (word (number_at row columns.total)) _ d y.made in
    let w = bound (truth (number_at row columns.three)) _ d z.made in
    subst IsDriven (same_Some _ d w.made)
    (record {
      driving = up_to-most 4294967295 x.value (number_at row columns.driving) x.is;
      total =
          up_to-most 4294967295 z.value (number_at row columns.total) z.is;
    })

abbrev IsDutyEntry : Shape → DutyEntry → Type 0
IsDutyEntry s e = IsMarkOf (items_of s e.pass) (length (numbers_in s.classes e.pass)) e.mark

abbrev IsBlockEntry : Shape → BlockEntry → Type 0
IsBlockEntry s e = IsBlockMarkOf (items_of s e.pass) (length (numbers_in s.classes e.pass)) e.mark

duty-is : (s : Shape) (columns : DutyColumns) (row : List Field) (e : DutyEntry) → duty_entry s columns row ≡ Some e → IsDutyEntry s e
duty-is s columns row e is =
    let x = bound (duty_place s columns.place row) _ e is in
    let y = bound (number_at row columns.start) _ e x.made in
    let z = bound (driven_at columns.driven row) _ e y.made in
    let w = bound (number_at row columns.value) _ e z.made in
    let place = duty-placed s columns.place row x.value x.is in
    let driven = driven-is columns.driven row z.value z.is in
    subst (IsDutyEntry s) (same_Some _ e w.made)
    (record { class = place.class; item = place.item; driving = driven.driving; total = driven.total })

block-is : (s : Shape) (columns : BlockColumns) (row : List Field) (e : BlockEntry) → block_entry s columns row ≡ Some e → IsBlockEntry s e
block-is s columns row e is =
    let x = bound (block_place s columns.place row) _ e is in
    let y = bound (word (number_at row columns.driving)) _ e x.made in
    let z = bound (number_at row columns.value) _ e y.made in
    let place = block-placed s columns.place row x.value x.is in
    subst (IsBlockEntry s) (same_Some _ e z.made)
    (record { class = place.class; item = place.item; driving = up_to-most 4294967295 y.value (number_at row columns.driving) y.is })

-- the marks of a pass over duties
pub duties-each : (s : Shape) (pass : Pass) (es : List DutyEntry) →
    ((e : DutyEntry) → same_pass e.pass pass ≡ true → IsDutyEntry s e →
    IsMarkOf (items_of s pass) (length (numbers_in s.classes pass)) e.mark) →
    Each (IsDutyEntry s) es → Each (IsMarkOf (items_of s pass) (length (numbers_in s.classes pass))) (marks_in_pass pass es)
duties-each s pass [] own each = tt
duties-each s pass (e ∷ es) own each = one (same_pass e.pass pass) refl (duties-each s pass es own each.1)
  where
    one : (t : Bool) → same_pass e.pass pass ≡ t →
        Each (IsMarkOf (items_of s pass) (length (numbers_in s.classes pass))) (marks_in_pass pass es) →
        Each (IsMarkOf (items_of s pass) (length (numbers_in s.classes pass)))
        (cons_option (if t then Some e.mark else None) (marks_in_pass pass es))
    one true is rest = (own e is each.0, rest)
    one false is rest = rest

pub blocks-each : (s : Shape) (pass : Pass) (es : List BlockEntry) →
    ((e : BlockEntry) → same_pass e.pass pass ≡ true → IsBlockEntry s e →
    IsBlockMarkOf (items_of s pass) (length (numbers_in s.classes pass)) e.mark) →
    Each (IsBlockEntry s) es → Each (IsBlockMarkOf (items_of s pass) (length (numbers_in s.classes pass))) (marks_in_pass pass es)
blocks-each s pass [] own each = tt
blocks-each s pass (e ∷ es) own each = one (same_pass e.pass pass) refl (blocks-each s pass es own each.1)
  where
    one : (t : Bool) → same_pass e.pass pass ≡ t →
        Each (IsBlockMarkOf (items_of s pass) (length (numbers_in s.classes pass))) (marks_in_pass pass es) →
        Each (IsBlockMarkOf (items_of s pass) (length (numbers_in s.classes pass)))
        (cons_option (if t then Some e.mark else None) (marks_in_pass pass es))
    one true is rest = (own e is each.0, rest)
    one false is rest = rest

-- an entry of a pass
one-pass : (a b : Pass) → same_pass a b ≡ true → a ≡ b
one-pass BlockNumber BlockNumber e = refl
one-pass BlockNumber BlockCost e = absurd (cc)
one-pass BlockNumber DutyNumber e = absurd (cc)
one-pass BlockNumber DutyCost e = absurd (cc)
one-pass BlockCost BlockNumber e = absurd (cc)
one-pass BlockCost BlockCost e = refl
one-pass BlockCost DutyNumber e = absurd (cc)
one-pass BlockCost DutyCost e = absurd (cc)
one-pass DutyNumber BlockNumber e = absurd (cc)
one-pass DutyNumber BlockCost e = absurd (cc)
one-pass DutyNumber DutyNumber e = refl
one-pass DutyNumber DutyCost e = absurd (cc)
one-pass DutyCost BlockNumber e = absurd (cc)
one-pass DutyCost BlockCost e = absurd (cc)
one-pass DutyCost DutyNumber e = absurd (cc)
one-pass DutyCost DutyCost e = refl

-- Each mark that is read was said by a row, and a row says a mark only where its class and item are there in the pass that it names
-- and its numbers have 32 bits. The marks of a pass are picked by the pass's number, and passes with one number are one (`one-pass`),
-- so this holds of the pass that is asked for.
pub all-duties : (s : Shape) (columns : DutyColumns) (pass : Pass) (rows : List (List Field)) →
    Each (IsMarkOf (items_of s pass) (length (numbers_in s.classes pass))) (marks_in_pass pass (filter_map (duty_entry s columns) rows))
all-duties s columns pass rows =
    duties-each s pass (filter_map (duty_entry s columns) rows)
    (λ e same is. let P : Pass → Type 0 = λ p. IsMarkOf (items_of s p) (length (numbers_in s.classes p)) e.mark in
    subst P (one-pass e.pass pass same) is)
    (said-each (IsDutyEntry s) (duty_entry s columns) rows (duty-is s columns))

pub all-blocks : (s : Shape) (columns : BlockColumns) (pass : Pass) (rows : List (List Field)) →
    Each (IsBlockMarkOf (items_of s pass) (length (numbers_in s.classes pass)))
    (marks_in_pass pass (filter_map (block_entry s columns) rows))
all-blocks s columns pass rows =
    blocks-each s pass (filter_map (block_entry s columns) rows)
    (λ e same is. let P : Pass → Type 0 = λ p. IsBlockMarkOf (items_of s p) (length (numbers_in s.classes p)) e.mark in
    subst P (one-pass e.pass pass same) is)
    (said-each (IsBlockEntry s) (block_entry s columns) rows (block-is s columns))
