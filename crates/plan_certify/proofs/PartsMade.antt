-- The parts of a certificate, from what their covers promise.
use Rattle.std.proofs.Common.{◌≡◌, ℤ, Bool, true, false, All, List, [], ◌∷◌, Result, Ok, Err, IfOk, refl, sym, ap, ◌∙◌, subst}
use Rattle.std.proofs.lemmas.List.Elements.{All-weaker}
use Rattle.plan_core.specs.declared.types.Piece.{Piece}
use Rattle.cover_core.specs.declared.Column.{Column}
use Rattle.cover_core.specs.declared.marks.BlockCover.{BlockCover}
use Rattle.cover_core.specs.declared.marks.BlockMark.{BlockMark}
use Rattle.cover_core.specs.declared.marks.Cover.{Cover}
use Rattle.cover_core.specs.declared.marks.Mark.{Mark}
use Rattle.dual_bound.specs.declared.kept.Kept.{Kept}
use Rattle.plan_params.specs.declared.rows.ParamRows.{ParamRows}
use Rattle.day_method.specs.Method.{SidePlan}
use Rattle.day_model.specs.Facts.{DayFacts}
use Rattle.mark_cover.specs.Covers.{IsMarkCover}
use Rattle.mark_cover.specs.Minimal.{AreMinimal}
use Rattle.depot_network.specs.BlockMarks.{block_marking}
use Rattle.depot_network.specs.Network.{NetFacts}
use Rattle.block_cut.specs.Cuts.{IsShift, pieces_of_plan}
use Rattle.duty_network.specs.Duties.{DutyFacts}
use Rattle.duty_network.specs.Ranges.{IsShift as IsDutyShift}
use Rattle.block_cover.specs.Seen.{mark_order as block_order}
use Rattle.label_cover.specs.Marked.{duty_marking, mark_order as duty_order}
use Rattle.plan_cert.specs.declared.cert.Cert.{Cert}
use Rattle.plan_cert.specs.declared.cert.CertPart.{CertPart}
use Rattle.plan_certify.specs.Certificate.{IsBlockPartOf, IsCertOf, IsDutyPartOf, duty_facts}

-- a part of these marks, with what a pass kept
abbrev part_with : Kept → Cover → BlockCover → CertPart
part_with kept cover blocks = record { prices = kept.prices; class_prices = kept.class_prices; cover = cover; blocks = blocks }

-- A cover of the net of a day, made with the prices that a pass kept, is that of the day's blocks.
-- The cover was made over the network that the search uses, which is the day's with the same counting, and of class prices that were
-- passed on; each is replaced by what it equals, one after another, and the two promises of the cover stay as they are.
pub block-part-made : (net : NetFacts) (facts : DayFacts) (counts : Bool) (kept : Kept) (passed : List ℤ) (empty : List Mark)
    (blocks : BlockCover) → net.day ≡ facts → net.counts ≡ counts → passed ≡ kept.class_prices → empty ≡ [] →
    AreMinimal (block_marking net.day net.counts kept.prices.items) block_order blocks.marks →
    IsMarkCover (block_marking net.day net.counts kept.prices.items) blocks.marks passed →
    IsBlockPartOf facts counts kept (part_with kept (record { marks = empty }) blocks)
block-part-made net facts counts kept passed empty blocks days count classes none least covers =
    let P : DayFacts → Type 0 = λ day. AreMinimal (block_marking day net.counts kept.prices.items) block_order blocks.marks in
    let Q : Bool → Type 0 = λ b. AreMinimal (block_marking facts b kept.prices.items) block_order blocks.marks in
    let R : DayFacts → Type 0 = λ day. IsMarkCover (block_marking day net.counts kept.prices.items) blocks.marks passed in
    let S : Bool → Type 0 = λ b. IsMarkCover (block_marking facts b kept.prices.items) blocks.marks passed in
    let T : List ℤ → Type 0 = λ zs. IsMarkCover (block_marking facts counts kept.prices.items) blocks.marks zs in
    record {
      prices = refl;
      class_prices = refl;
      least = subst Q count (subst P days least);
      covers = subst T classes (subst S count (subst R days covers));
      none = none;
    }

pub duty-part-made : (over : DutyFacts) (kept : Kept) (passed : List ℤ) (empty : List BlockMark) (cover : Cover) →
    passed ≡ kept.class_prices → empty ≡ [] →
    AreMinimal (duty_marking over kept.prices.items) duty_order cover.marks →
    IsMarkCover (duty_marking over kept.prices.items) cover.marks passed →
    IsDutyPartOf over kept (part_with kept cover (record { marks = empty }))
duty-part-made over kept passed empty cover classes none least covers =
    let T : List ℤ → Type 0 = λ zs. IsMarkCover (duty_marking over kept.prices.items) cover.marks zs in
    record { prices = refl; class_prices = refl; least = least; covers = subst T classes covers; none = none }

-- The net of the duties over pieces that were copied, by the settings of the day.
pub same-over : (net : DutyFacts) (copied seen pieces : List Piece) (given params : ParamRows) (counts : Bool) →
    net ≡ record { pieces = copied; params = given; counts = counts } →
    copied ≡ seen → seen ≡ pieces → given ≡ params → net ≡ record { pieces = pieces; params = params; counts = counts }
same-over net copied seen pieces given params counts is copy view settings =
    let with_pieces : List Piece → DutyFacts = λ ps. record { pieces = ps; params = given; counts = counts } in
    let with_params : ParamRows → DutyFacts = λ rows. record { pieces = pieces; params = rows; counts = counts } in
    is ∙ (ap with_pieces (copy ∙ view) ∙ ap with_params settings)

pub duty-shifts : (copied seen pieces : List Piece) → copied ≡ seen → seen ≡ pieces → All IsShift pieces → All IsDutyShift copied
duty-shifts copied seen pieces copy view shifts =
    let P : List Piece → Type 0 = λ ps. All IsDutyShift ps in
    let weaker : (p : Piece) → IsShift p → IsDutyShift p =
    λ p h. record { begins = h.begins; order = h.order; ends = h.ends; driving = h.driving } in
    subst P (sym (copy ∙ view)) (All-weaker IsShift IsDutyShift weaker pieces shifts)

-- a part of duties over pieces that are those of blocks
pub duty-part-there : (facts : DayFacts) (blocks : List Column) (pieces : List Piece) (counts : Bool) (kept : Kept) (part : CertPart) →
    pieces ≡ pieces_of_plan facts blocks →
    IsDutyPartOf (record { pieces = pieces; params = facts.params; counts = counts }) kept part →
    IsDutyPartOf (duty_facts facts blocks counts) kept part
duty-part-there facts blocks pieces counts kept part same is =
    let P : List Piece → Type 0 = λ ps. IsDutyPartOf (record { pieces = ps; params = facts.params; counts = counts }) kept part in
    subst P same is

-- Four parts in their order are the certificate of the blocks and duties whose passes they are of.
pub ok-cert : {E : Type 0} (facts : DayFacts) (blocks duties : SidePlan) (r : Result Cert E) (one two three four : CertPart) →
    IfOk r (λ cert. cert.parts ≡ one ∷ two ∷ three ∷ four ∷ []) →
    IsBlockPartOf facts true blocks.count one → IsBlockPartOf facts false blocks.cost two →
    IsDutyPartOf (duty_facts facts blocks.columns true) duties.count three →
    IsDutyPartOf (duty_facts facts blocks.columns false) duties.cost four → IfOk r (IsCertOf facts blocks duties)
ok-cert facts blocks duties (Ok cert) one two three four parts a b c d = record {
  block_number = one;
  block_cost = two;
  duty_number = three;
  duty_cost = four;
  parts = parts;
  of_block_number = a;
  of_block_cost = b;
  of_duty_number = c;
  of_duty_cost = d;
}
ok-cert facts blocks duties (Err e) one two three four parts a b c d = tt
