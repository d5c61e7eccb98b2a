-- What a paid offer gives: prices for which a cover can be made, and that it is made.
use Rattle.std.proofs.Common.{◌≡◌, ℤ, Bool, List, ap, ◌∙◌, subst, arith}
use Rattle.std.proofs.lemmas.Int.{ints}
use Rattle.plan_core.specs.declared.Price.{Price}
use Rattle.cover_core.specs.declared.Column.{Column}
use Rattle.cover_core.specs.declared.marks.CoverFault.{CoverFault}
use Rattle.cover_core.specs.declared.marks.CoverFault.TheVariants.{Unpaid}
use Rattle.cover_core.specs.Cover.{Problem}
use Rattle.cover_core.specs.Plans.{IsPaid}
use Rattle.day_model.specs.Facts.{DayFacts}
use Rattle.depot_network.specs.Network.{NetFacts, blocks as net_blocks, blocks_of}
use Rattle.unpaid_list.specs.Unpaid.{IsFirstUnpaid, IsUnpaidCause}

-- Under paid prices no list is unpaid: its value is at least minus the price of its class, and an unpaid one's is below.
pub never-unpaid : (p : Problem) (prices : List Price) (class_prices : List ℤ) (column : Column) → IsPaid p prices class_prices →
    IsFirstUnpaid p prices class_prices column → ⊥
never-unpaid p prices class_prices column paid unpaid =
    let listed = unpaid.least.listed in
    let covered = paid.covered column.class column.items column.worth listed.0 listed.1 in
    let below = unpaid.unpaid in
    omega (arith, ints, covered, below)

-- So a cover is never refused because a list is unpaid.
-- A cover is refused only for an unpaid list, and that list would contradict the prices being paid (`never-unpaid`). So
-- `certificate_of` needs no refusal of its own beside running out of memory.
pub never-refused : (p q : Problem) (prices : List Price) (class_prices passed : List ℤ) (fault : CoverFault) (column : Column) → q ≡ p →
    passed ≡ class_prices → fault ≡ Unpaid column →
    IsPaid p prices class_prices → IsUnpaidCause q prices passed fault → ⊥
never-refused p q prices class_prices passed fault column same classes is paid cause =
    let P : CoverFault → Type 0 = λ f. IsUnpaidCause q prices passed f in
    let Q : List ℤ → Type 0 = λ zs. IsFirstUnpaid q prices zs column in
    let R : Problem → Type 0 = λ x. IsFirstUnpaid x prices class_prices column in
    never-unpaid p prices class_prices column paid (subst R same (subst Q classes (subst P is cause)))

-- the problem of the net of a day
pub net-problem : (net : NetFacts) (facts : DayFacts) (counts : Bool) → net.day ≡ facts → net.counts ≡ counts →
    net_blocks net ≡ blocks_of facts counts
net-problem net facts counts days count = ap (λ (day : DayFacts). blocks_of day net.counts) days ∙
    ap (λ (b : Bool). blocks_of facts b) count
