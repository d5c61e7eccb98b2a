-- Which block a trip is in.
use Rattle.std.proofs.Common.{◌≡◌, ◌≢◌, ◌==◌, ◌||◌, ℕ, suc, ◌+◌, ◌<◌, Bool, true, false, List, ◌∷◌, length, drop, refl, sym, ◌∙◌, ap, subst, arith, get_or, set, slice_index, add-one, drop-cons, if◌then◌else◌}
use Rattle.std.proofs.lemmas.Bool.Decides.{nat_tests}
use Rattle.std.proofs.lemmas.List.{get_or-set_other, get_or-set_same}
use Rattle.std.specs.List.{list_any}
use Rattle.cover_core.specs.declared.Column.{Column}
use Rattle.umlauf_write.specs.Tables.{block_of, is_in}

noted_by : (here later : Bool) (number old now : ℕ) → (here ≡ true → now ≡ number) → (here ≡ false → now ≡ old) →
    (if later then number else now) ≡ (if here || later then number else old)
noted_by true true number old now same other = refl
noted_by true false number old now same other = same refl
noted_by false true number old now same other = refl
noted_by false false number old now same other = other refl

set_here : (numbers : List ℕ) (item number trip : ℕ) → item < length numbers → (item == trip) ≡ true →
    get_or (set numbers item number) trip 0 ≡ number
set_here numbers item number trip within e =
    let same : item ≡ trip = grind (arith, nat_tests) in
    let P : ℕ → Type 0 = λ k. get_or (set numbers item number) k 0 ≡ number in
    subst P same (get_or-set_same numbers item number 0 within)

set_there : (numbers : List ℕ) (item number trip : ℕ) → (item == trip) ≡ false →
    get_or (set numbers item number) trip 0 ≡ get_or numbers trip 0
set_there numbers item number trip e =
    let other : trip ≢ item = grind (arith, nat_tests) in
    get_or-set_other numbers item trip number 0 other

-- One item more is noted. A block's trips are noted one by one under its number. What is claimed of each trip of the day is the same
-- all along: if it stands among the trips of the block that are left it gets the number, else it has what is noted now. So the order
-- and any repeats do not matter.
pub note_more : (items numbers : List ℕ) (i number trip : ℕ) (all : ℕ) → i < length items → slice_index items i < length numbers →
    (if list_any (λ item. item == trip) (drop i items) then number else slice_index numbers trip) ≡ all →
    (if list_any (λ item. item == trip) (drop (i + 1) items) then number else slice_index (set numbers (slice_index items i) number) trip)
    ≡ all
note_more items numbers i number trip all within there so_far =
    let item : ℕ = slice_index items i in
    let at : drop i items ≡ item ∷ drop (i + 1) items = rw add-one (drop-cons items i 0 within) in
    let step = noted_by (item == trip) (list_any (λ k. k == trip) (drop (i + 1) items)) number (slice_index numbers trip)
    (slice_index (set numbers item number) trip) (set_here numbers item number trip there) (set_there numbers item number trip) in
    let P : List ℕ → Type 0 = λ xs. (if list_any (λ k. k == trip) xs then number else slice_index numbers trip) ≡ all in
    step ∙ subst P at so_far

-- One block more is noted. Blocks are noted from the last to the first, so that of several blocks with a trip the first has the last
-- word, as in `block_of`. So the numbers of all trips are found by going over all blocks once.
pub block_more : (blocks : List Column) (left trip : ℕ) (block : Column) (old now : ℕ) → left < length blocks →
    block ≡ get_or blocks left block →
    now ≡ (if is_in trip block then left + 1 else old) → old ≡ block_of (left + 1 + 1) (drop (left + 1) blocks) trip →
    now ≡ block_of (left + 1) (drop left blocks) trip
block_more blocks left trip block old now within is noted so_far =
    let at : drop left blocks ≡ block ∷ drop (left + 1) blocks =
    rw add-one (drop-cons blocks left block within ∙ ap (λ b. b ∷ drop (suc left) blocks) (sym is)) in
    noted ∙ ap (λ n. if is_in trip block then left + 1 else n) so_far ∙ sym (ap (λ (bs : List Column). block_of (left + 1) bs trip) at)
