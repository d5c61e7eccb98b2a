-- A certificate with its parts has its classes, so it can be written.
use Rattle.std.proofs.Common.{◌≡◌, ℕ, ◌<◌, List, [], ◌∷◌, All, length, sym, subst}
use Rattle.std.proofs.lemmas.List.Elements.{All-nil, All-weaker}
use Rattle.std.specs.Prelude.{Result, Ok, Err, IfOk}
use Rattle.vdv451_text.specs.declared.table.Table.{Table}
use Rattle.cover_core.specs.declared.marks.Mark.{Mark}
use Rattle.cover_core.specs.declared.marks.BlockMark.{BlockMark}
use Rattle.plan_cert.specs.declared.cert.Cert.{Cert}
use Rattle.plan_cert.specs.declared.cert.CertPart.{CertPart}
use Rattle.plan_cert.specs.declared.cert.Pass.TheVariants.{BlockNumber, BlockCost, DutyNumber, DutyCost}
use Rattle.plan_cert.specs.declared.fault.CertFault.{CertFault}
use Rattle.plan_cert.specs.declared.shape.Shape.{Shape}
use Rattle.plan_cert.specs.Certificates.{read_of}
use Rattle.plan_cert.specs.Laws.{AreParts, IsBlockMarkOf, IsBlockPart, IsDutyPart, IsMarkOf}
use Rattle.plan_cert.specs.Places.{Gives}
use Rattle.plan_cert.specs.Writing.{HasClasses, HaveClasses}
use Rattle.plan_cert.proofs.ReadParts.{parts-are}

abbrev IsIn : ℕ → Mark → Type 0
IsIn classes m = m.class < classes

abbrev IsBlockIn : ℕ → BlockMark → Type 0
IsBlockIn classes m = m.class < classes

none-in : {A : Type 0} (P : A → Type 0) (xs : List A) → xs ≡ [] → All P xs
none-in {A} P xs none = let Q : List A → Type 0 = λ l. All P l in subst Q (sym none) (All-nil P)

block-classes : (s : Shape) (part : CertPart) → IsBlockPart s.trips (length s.classes.pools) part →
    HasClasses s.classes BlockNumber part × HasClasses s.classes BlockCost part
block-classes s part is =
    let marks = All-weaker (IsBlockMarkOf s.trips (length s.classes.pools)) (IsBlockIn (length s.classes.pools)) (λ m is. is.class)
    part.blocks.marks is.marks in
    let none = none-in (IsIn (length s.classes.groups)) part.cover.marks is.none in (
      record { prices = is.part_is.class_prices; duties = none; blocks = marks },
      record {
        prices = is.part_is.class_prices;
        duties =
            none;
        blocks = marks;
      },
    )

duty-classes : (s : Shape) (part : CertPart) → IsDutyPart s.pieces (length s.classes.groups) part →
    HasClasses s.classes DutyNumber part × HasClasses s.classes DutyCost part
duty-classes s part is =
    let marks = All-weaker (IsMarkOf s.pieces (length s.classes.groups)) (IsIn (length s.classes.groups)) (λ m is. is.class)
    part.cover.marks is.marks in
    let none = none-in (IsBlockIn (length s.classes.pools)) part.blocks.marks is.none in (
      record { prices = is.part_is.class_prices; duties = marks; blocks = none },
      record {
        prices = is.part_is.class_prices;
        duties =
            marks;
        blocks = none;
      },
    )

pub classes-are : (s : Shape) (parts : List CertPart) → AreParts s parts → HaveClasses s.classes parts
classes-are s [] are = absurd are
classes-are s (one ∷ []) are = absurd are
classes-are s (one ∷ two ∷ []) are = absurd are
classes-are s (one ∷ two ∷ three ∷ []) are = absurd are
classes-are s (one ∷ two ∷ three ∷ four ∷ []) are =
    ((block-classes s one are.0).0, (block-classes s two are.1).1, (duty-classes s three are.2).0, (duty-classes s four are.3).1)
classes-are s (one ∷ two ∷ three ∷ four ∷ five ∷ more) are = absurd are

-- what was read
pub read-parts : (s : Shape) (tables : List Table) (r : Result Cert CertFault) → Gives r (read_of s tables) →
    IfOk r (λ cert. AreParts s cert.parts)
read-parts s tables (Ok cert) gives = parts-are s tables cert gives
read-parts s tables (Err e) gives = tt

pub read-classes : (s : Shape) (tables : List Table) (r : Result Cert CertFault) → Gives r (read_of s tables) →
    IfOk r (λ cert. HaveClasses s.classes cert.parts)
read-classes s tables (Ok cert) gives = classes-are s cert.parts (parts-are s tables cert gives)
read-classes s tables (Err e) gives = tt
