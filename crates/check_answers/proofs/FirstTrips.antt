-- Blocks are told apart by their first trips, so blocks and pieces keep their numbers where the blocks stand in printed order already.
use Rattle.std.proofs.Common.{◌≡◌, ◌≢◌, ℕ, ◌+◌, ◌-◌, ◌<◌, ◌≤◌, ◌==◌, Bool, true, false, nat_eq, List, ◌∷◌, ◌++◌, length, map, get_or, Option, Some, refl, sym, ap, ◌∙◌, subst, arith, []}
use Rattle.std.specs.Prelude.{slice_index_or, unwrap_or}
use Rattle.std.proofs.lemmas.Bool.Decides.{nat_tests}
use Rattle.std.specs.List.{AllByRecursion, position_from}
use Rattle.cover_core.specs.declared.Column.{Column}
use Rattle.cover_core.specs.Cover.{AllBelow, Problem}
use Rattle.cover_core.specs.Plans.{AreColumns, HasListedColumns, IsPlan, all_items, times}
use Rattle.cover_core.proofs.Parts.{times-append}
use Rattle.day_model.specs.Facts.{DayFacts}
use Rattle.depot_network.specs.Listed.{blocks_listed}
use Rattle.depot_network.specs.Network.{blocks_of}
use Rattle.block_cut.specs.Cuts.{pieces_of_plan}
use Rattle.plan_read.specs.ReadsBack.{IsPieceOf}
use Rattle.umlauf_write.specs.Answers.{no_piece}
use Rattle.umlauf_write.specs.Printed.{first_item, first_of_column, printed}
use Rattle.cert_check.specs.Judging.{begins_with, first_of_block, new_number, new_piece, piece_number, place_of_first, renumbered}
use Rattle.check_answers.proofs.Apart.{Apart, IsOther, each, one_if, place-at}
use Rattle.check_answers.proofs.PieceNumbers.{number-again, pieces-of-blocks}

-- what stands for a block that is not there
abbrev no_column : Column
no_column = record { class = 0; worth = 0; items = [] }

-- a block by the first trip of another
abbrev pub same_begin : Column → Column → Bool
same_begin b d = begins_with (first_of_column b) d

own-begin : (b : Column) → same_begin b b ≡ true
own-begin b = grind (arith, nat_tests)

other-begin : (b d : Column) → first_of_column b ≢ first_of_column d → IsOther same_begin b d
other-begin b d differ =
    let m = first_of_column b in
    let n = first_of_column d in
    let one : nat_eq n m ≡ false = grind (arith, nat_tests) in
    let other : nat_eq m n ≡ false = grind (arith, nat_tests) in
    (one, other)

-- a list that is not empty has its first item
has-first : (items : List ℕ) → items ≢ [] → 1 ≤ times (first_item items) items
has-first [] some = absurd (some refl)
has-first (x ∷ xs) some =
    let own : (x == x) ≡ true = grind (arith, nat_tests) in
    let one : one_if (x == x) ≡ 1 = ap one_if own in
    omega (arith, one)

-- an item that stands in no column begins none
not-first : (p : Problem) (item : ℕ) (columns : List Column) → HasListedColumns p → AreColumns p columns →
    times item (all_items columns) ≡ 0 →
    AllByRecursion (λ (d : Column). item ≢ first_of_column d) columns
not-first p item [] listed are none = tt
not-first p item (d ∷ ds) listed are none =
    let both = times-append item d.items (all_items ds) in
    let first : first_of_column d ≡ first_of_column d = refl in
    let some = has-first d.items (listed d.class d.items d.worth are.0.1).0 in
    let Count : ℕ → Type 0 = λ i. 1 ≤ times i d.items in (
      (λ same. let here : 1 ≤ times item d.items = subst Count (sym same) some in omega (arith, here, both, none)),
      not-first p item ds listed are.1 (omega (arith, both, none)),
    )

-- In a plan no trip stands twice, so no two blocks begin with one trip.
-- A block is no empty list, so its first trip stands in it; if another block began with it too, the trip would stand twice in the
-- plan. The induction needs only that each trip stands at most once, which the later blocks of a plan keep, where `exactly once` would
-- be lost.
firsts-apart : (p : Problem) (columns : List Column) → HasListedColumns p → AreColumns p columns →
    ((item : ℕ) → item < p.items → times item (all_items columns) ≤ 1) →
    Apart same_begin columns
firsts-apart p [] listed are once = tt
firsts-apart p (b ∷ bs) listed are once =
    let item = first_of_column b in
    let own = listed b.class b.items b.worth are.0.1 in
    let some = has-first b.items own.0 in
    let below : item < p.items = first-below b.items own.0 own.2 in
    let both : (i : ℕ) → times i (b.items ++ all_items bs) ≡ times i b.items + times i (all_items bs) =
    λ i. times-append i b.items (all_items bs) in
    let none : times item (all_items bs) ≡ 0 = omega (arith, both item, once item below, some) in (
      each (λ (d : Column). item ≢ first_of_column d) (IsOther same_begin b) (λ d differ. other-begin b d differ) bs
          (not-first p item bs listed are.1 none),
      firsts-apart p bs listed are.1 (λ i within. omega (arith, both i, once i within)),
    )
  where
    first-below : (items : List ℕ) → items ≢ [] → AllBelow p.items items → first_item items < p.items
    first-below [] some below = absurd (some refl)
    first-below (x ∷ xs) some below = below.0

module _ (facts : DayFacts) (blocks : List Column) (plan : IsPlan (blocks_of facts false) blocks) (order : printed blocks ≡ blocks) where
  -- A block that is found again by its first trip has its number.
  number-kept : (number : ℕ) → 1 ≤ number → number ≤ length blocks → new_number blocks number ≡ number
  number-kept number low high =
      let p : Problem = blocks_of facts false in
      let at = number - 1 in
      let within : at < length blocks = omega (arith, low, high) in
      let apart = firsts-apart p blocks (blocks_listed (record { day = facts; counts = false })) plan.worths
      (λ item there. omega (arith, plan.once item there)) in
      let found : position_from (same_begin (get_or blocks at no_column)) 0 blocks ≡ Some (0 + at) =
      place-at same_begin own-begin blocks at 0 no_column apart within in
      let here : 0 + at ≡ at = omega arith in
      let place : place_of_first blocks (first_of_block blocks number) ≡ at =
      ap (λ (o : Option ℕ). unwrap_or o (length blocks)) found ∙ here in
      let same : place_of_first (printed blocks) (first_of_block blocks number) ≡ at =
      ap (λ (bs : List Column). place_of_first bs (first_of_block blocks number)) order ∙ place in
      omega (arith, same, low)

  -- So a piece has its number too.
  piece-kept : (item : ℕ) → item < length (pieces_of_plan facts blocks) → length (pieces_of_plan facts blocks) ≤ 3000 →
      new_piece blocks (pieces_of_plan facts blocks) (pieces_of_plan facts (printed blocks)) item ≡ item
  piece-kept item within few =
      let pieces = pieces_of_plan facts blocks in
      let piece = slice_index_or pieces item no_piece in
      let is : IsPieceOf (length blocks) piece = pieces-of-blocks facts blocks few item no_piece within in
      let number = number-kept piece.block is.first is.last in
      ap (λ (bs : List Column). piece_number (pieces_of_plan facts bs) (new_number blocks piece.block) piece.index) order
      ∙ (ap (λ (n : ℕ). piece_number pieces n piece.index) number ∙ number-again facts blocks item no_piece within)

  items-kept : (items : List ℕ) → AllBelow (length (pieces_of_plan facts blocks)) items → length (pieces_of_plan facts blocks) ≤ 3000 →
      map (new_piece blocks (pieces_of_plan facts blocks) (pieces_of_plan facts (printed blocks))) items ≡ items
  items-kept [] below few = refl
  items-kept (item ∷ items) below few =
      let new : ℕ → ℕ = new_piece blocks (pieces_of_plan facts blocks) (pieces_of_plan facts (printed blocks)) in
      ap (λ (n : ℕ). n ∷ map new items) (piece-kept item below.0 few) ∙ ap (λ (ns : List ℕ). item ∷ ns) (items-kept items below.1 few)

  -- And duties over the pieces are numbered anew as they are.
  -- The checker puts blocks in printed order and numbers pieces anew. Where blocks are in that order already, a block is found again
  -- at its own number by its first trip (`number-kept`), and a piece by its block's number and its index (`piece-kept`); so nothing in
  -- a duty changes, and the duties that the checker judges are those that were planned.
  pub duties-kept : (p : Problem) (duties : List Column) → p.items ≡ length (pieces_of_plan facts blocks) →
      length (pieces_of_plan facts blocks) ≤ 3000 → HasListedColumns p →
      AreColumns p duties → map (renumbered blocks (pieces_of_plan facts blocks) (pieces_of_plan facts (printed blocks))) duties ≡ duties
  duties-kept p [] count few listed are = refl
  duties-kept p (duty ∷ duties) count few listed are =
      let anew : Column → Column = renumbered blocks (pieces_of_plan facts blocks) (pieces_of_plan facts (printed blocks)) in
      let below : AllBelow (length (pieces_of_plan facts blocks)) duty.items =
      subst (λ (n : ℕ). AllBelow n duty.items) count (listed duty.class duty.items duty.worth are.0.1).2 in
      let column : List ℕ → Column = λ items. record { class = duty.class; worth = duty.worth; items = items } in
      ap (λ (c : Column). c ∷ map anew duties) (ap column (items-kept duty.items below few))
      ∙ ap (λ (cs : List Column). duty ∷ cs) (duties-kept p duties count few listed are.1)
