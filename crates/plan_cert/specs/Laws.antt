-- Promise: a certificate's tables stand for it.
use Rattle.std.specs.Prelude.{◌≡◌, ℕ, pos, neg_ℤ, ◌<◌, ◌≤◌, ◌≤ℤ◌, List, [], ◌∷◌, length, All, AllPairs, Ok}
use Rattle.plan_core.specs.Limits.{most_kept_price}
use Rattle.plan_core.specs.declared.types.Price.{Price}
use Rattle.cover_core.specs.declared.marks.Mark.{Mark}
use Rattle.cover_core.specs.declared.marks.BlockMark.{BlockMark}
use Rattle.plan_cert.specs.declared.cert.Cert.{Cert}
use Rattle.plan_cert.specs.declared.cert.CertPart.{CertPart}
use Rattle.plan_cert.specs.declared.shape.ClassNumbers.{ClassNumbers}
use Rattle.plan_cert.specs.declared.shape.Shape.{Shape}
use Rattle.plan_cert.specs.Certificates.{read_of}
use Rattle.plan_cert.specs.Writing.{tables_of}

abbrev pub IsModerate : Price → Type 0
IsModerate p = (neg_ℤ (pos most_kept_price) ≤ℤ p.0) × (p.0 ≤ℤ pos most_kept_price)

-- a part has a price for each of so many items and classes
pub record IsPart (items classes : ℕ) (part : CertPart) : Type 0 where
  pub prices : length part.prices.items ≡ items
  pub moderate : All IsModerate part.prices.items
  pub class_prices : length part.class_prices ≡ classes

-- marks of classes and items that are there, with numbers of 32 bits
pub record IsMarkOf (items classes : ℕ) (m : Mark) : Type 0 where
  pub class : m.class < classes
  pub item : m.piece < items
  pub driving : m.driving ≤ 4294967295
  pub total : m.total ≤ 4294967295

pub record IsBlockMarkOf (items classes : ℕ) (m : BlockMark) : Type 0 where
  pub class : m.class < classes
  pub item : m.trip < items
  pub driving : m.driving ≤ 4294967295

-- a part over blocks has no marks of duties
pub record IsBlockPart (items classes : ℕ) (part : CertPart) : Type 0 where
  pub part_is : IsPart items classes part
  pub marks : All (IsBlockMarkOf items classes) part.blocks.marks
  pub none : part.cover.marks ≡ []

-- a part over duties has no marks of blocks
pub record IsDutyPart (items classes : ℕ) (part : CertPart) : Type 0 where
  pub part_is : IsPart items classes part
  pub marks : All (IsMarkOf items classes) part.cover.marks
  pub none : part.blocks.marks ≡ []

-- four parts, two over blocks and two over duties
abbrev pub AreParts : Shape → List CertPart → Type 0
AreParts s (one ∷ two ∷ three ∷ four ∷ []) =
    IsBlockPart s.trips (length s.classes.pools) one × IsBlockPart s.trips (length s.classes.pools) two ×
    IsDutyPart s.pieces (length s.classes.groups) three × IsDutyPart s.pieces (length s.classes.groups) four
AreParts s _ = ⊥

-- each part has fewer marks than a bound
abbrev pub HaveMarksBelow : ℕ → List CertPart → Type 0
HaveMarksBelow bound [] = Unit {0}
HaveMarksBelow bound (part ∷ parts) = (length part.blocks.marks < bound) × (length part.cover.marks < bound) × HaveMarksBelow bound parts

-- no two classes have one number
pub record HaveOwnNumbers (c : ClassNumbers) : Type 0 where
  pub pools : AllPairs (λ (earlier later : ℕ). earlier < later) c.pools
  pub groups : AllPairs (λ (earlier later : ℕ). earlier < later) c.groups

-- what is written is read back
abbrev pub ReadsBack : Shape → Type 0
ReadsBack s = (cert : Cert) → HaveOwnNumbers s.classes → AreParts s cert.parts → read_of s (tables_of s.classes cert) ≡ Ok cert
