-- In a plan that keeps the heads every other duty has no begun piece. A begun piece of a duty stands in the duty's head, and that head is
-- the initial part of some duty of the plan; each piece stands in one duty alone, so no other duty has it.
use Rattle.std.proofs.Common.{◌≡◌, ◌==◌, ℕ, ◌+◌, ◌-◌, ◌<◌, ◌≤◌, Bool, true, false, cond, ◌&&◌, ◌||◌, not, zero, suc, List, [], ◌∷◌, ◌++◌, length, refl, sym, ap, subst, ◌∙◌, arith, inl, inr, Option, Some, None, slice_get, nat_eq}
use Rattle.std.specs.Option.{option_map, option_map_or}
use Rattle.std.specs.Prelude.{option_and_then}
use Rattle.std.proofs.lemmas.Bool.{cases_lt, and_parts}
use Rattle.std.proofs.lemmas.Bool.Decides.{nat_tests}
use Rattle.std.proofs.lemmas.Option.{same_Some}
use Rattle.plan_core.specs.declared.types.Piece.{Piece}
use Rattle.cover_core.specs.declared.Column.{Column}
use Rattle.cover_core.specs.Cover.{AllBelow}
use Rattle.cover_core.specs.Plans.{IsPlan, all_items, times}
use Rattle.cover_core.proofs.Parts.{times-append}
use Rattle.duty_network.specs.Duties.{DutyFacts, duties}
use Rattle.umlauf_write.specs.declared.text.DutyRow.{DutyRow}
use Rattle.umlauf_write.specs.declared.text.PlanText.{PlanText}
use Rattle.cover_rest.specs.declared.begun.Begun.{Begun}
use Rattle.cover_rest.specs.Keeping.{BeginsWith, KeepsBegun}
use Rattle.duty_rest.specs.declared.head.DutyHead.{DutyHead}
use Rattle.duty_rest.specs.Heads.{begun_from, begun_part, begun_parts, by_first, class_of, duty_head, duty_heads_of, head_of, is_one_of, last_of, listed, row_heads}
use Rattle.duty_rest.specs.Rest.{begun_of, may_begin}
use Rattle.duty_rest.specs.Laws.{KeptLeavesNoneBegun, belongs, belongs_to, has_begun_in, none_begun}
use Rattle.duty_rest.proofs.Found.{from-below, parts-length}
use Rattle.duty_rest.proofs.Apart.{head-more, head_with, held, held-append, held_times, part_at, times_from}

-- A begun piece of a duty is found. Pieces are counted on from `k`, so that the induction goes along the parts, and the piece `k + j`
-- is met at its place. With it the begun pieces of a duty hold all that a part of the duty stands for.
from-there : (os : List (Option (ℕ × ℕ))) (parts : List (ℕ × ℕ)) (k j i : ℕ) → i ≡ k + j → is_one_of (part_at os j) parts ≡ true →
    1 ≤ times i (begun_from os parts k)
from-there [] parts k j i is one = none parts one
  where
    none : (parts : List (ℕ × ℕ)) → is_one_of None parts ≡ true → 1 ≤ 0
    none [] e = absurd (cc)
    none (x ∷ xs) e = none xs e
from-there (o ∷ os) parts k zero i is one =
    let test : (i == k) ≡ true = grind (arith, nat_tests) in
    let P : Bool → Type 0 = λ b. 1 ≤ times i (cond b (k ∷ begun_from os parts (suc k)) (begun_from os parts (suc k))) in
    subst P (sym one) (rw test (omega arith))
from-there (o ∷ os) parts k (suc j) i is one =
    let rest = from-there os parts (suc k) j i (omega (arith, is)) one in
    elim (is_one_of o parts) as (λ b. 1 ≤ times i (cond b (k ∷ begun_from os parts (suc k)) (begun_from os parts (suc k)))) [
      | true ↦ omega (arith, rest)
      | false ↦ rest
    ]

-- a list with an item has a last one
has-last : (x : ℕ) (xs : List ℕ) → 1 ≤ times x xs → (l : ℕ) × (last_of xs ≡ Some l)
has-last x [] some = absurd (omega (arith, some))
has-last x (y ∷ ys) some = at (y ∷ ys) (length (y ∷ ys) - 1) (omega arith)
  where
    at : (zs : List ℕ) (i : ℕ) → i < length zs → (l : ℕ) × (slice_get zs i ≡ Some l)
    at [] i h = absurd (omega (arith, h))
    at (z ∷ zs) zero h = (z, refl)
    at (z ∷ zs) (suc i) h = at zs i (omega (arith, h))

-- each head begins with one of n pieces
abbrev AllStart : ℕ → List DutyHead → Type 0
AllStart n [] = Unit {0}
AllStart n (h ∷ hs) = ((l : ℕ) × (slice_get h.pieces 0 ≡ Some l) × (l < n)) × AllStart n hs

start-append : (n : ℕ) (gs hs : List DutyHead) → AllStart n gs → AllStart n hs → AllStart n (gs ++ hs)
start-append n [] hs a b = b
start-append n (g ∷ gs) hs a b = (a.0, start-append n gs hs a.1 b)

module _ (d : DutyFacts) (begun : List (Option (ℕ × ℕ))) (moment : ℕ) where
  head-start : (n : ℕ) (parts : List (ℕ × ℕ)) (class : ℕ) (pieces : List ℕ) → AllBelow n pieces →
      AllStart n (listed (head_of d begun moment parts class pieces))
  head-start n parts class [] below = tt
  head-start n parts class (k ∷ ks) below =
      elim (last_of (k ∷ ks)) as (λ o. AllStart n (listed (option_map (head_with d begun moment parts class (k ∷ ks)) o))) [
        | None ↦ tt
        | Some last ↦ ((k, refl, below.0), tt)
      ]

  duty-start : (n : ℕ) (row : DutyRow) → length begun ≤ n → AllStart n (listed (duty_head d begun moment row))
  duty-start n row few =
      let pieces : List ℕ = begun_from begun row.parts 0 in
      let below : AllBelow n pieces = from-below n begun row.parts 0 (omega (arith, few)) in
      elim (class_of d.params.groups row.group 0) as
      (λ o. AllStart n (listed (option_and_then (λ (class : ℕ). head_of d begun moment row.parts class pieces) o))) [
        | None ↦ tt
        | Some class ↦ head-start n row.parts class pieces below
      ]

  rows-start : (n : ℕ) (rows : List DutyRow) → length begun ≤ n → AllStart n (row_heads d begun moment rows)
  rows-start n [] few = tt
  rows-start n (row ∷ rows) few =
      start-append n (listed (duty_head d begun moment row)) (row_heads d begun moment rows) (duty-start n row few) (rows-start n rows few)

  -- a begun piece of a duty stands in its head
  head-holds : (i : ℕ) (parts : List (ℕ × ℕ)) (class : ℕ) (pieces : List ℕ) → 1 ≤ times i pieces →
      1 ≤ held_times i (listed (head_of d begun moment parts class pieces))
  head-holds i parts class pieces some =
      let (l, last) = has-last i pieces some in
      let none = times-append i pieces [] in
      let P : Option ℕ → Type 0 = λ o. 1 ≤ held_times i (listed (option_map (head_with d begun moment parts class pieces) o)) in
      subst P (sym last) (omega (arith, some, none))

  -- A piece belongs to a duty where one of the duty's parts stands for it and the duty's group is there. The first puts it among the
  -- begun pieces (`from-there`), so these have a last one and there is a head; the second gives the head its class. So the head has
  -- the piece.
  duty-holds : (i : ℕ) (row : DutyRow) → belongs d.params.groups (part_at begun i) row ≡ true →
      1 ≤ held_times i (listed (duty_head d begun moment row))
  duty-holds i row own =
      let (one, there) = and_parts (is_one_of (part_at begun i) row.parts)
      (option_map_or (λ (class : ℕ). true) (class_of d.params.groups row.group 0) false) own in
      let pieces : List ℕ = begun_from begun row.parts 0 in
      let some : 1 ≤ times i pieces = from-there begun row.parts 0 i i (omega arith) one in
      elim (class_of d.params.groups row.group 0) as (λ o. option_map_or (λ (class : ℕ). true) o false ≡ true →
      1 ≤ held_times i (listed (option_and_then (λ (class : ℕ). head_of d begun moment row.parts class pieces) o))) [
        | None ↦ λ e. absurd (cc)
        | Some class ↦ λ e. head-holds i row.parts class pieces some
      ] there

  -- Of the duties that a piece belongs to one comes first, and the head that holds the piece is that duty's; heads of the others only
  -- add more.
  rows-hold : (i : ℕ) (rows : List DutyRow) → belongs_to d.params.groups (part_at begun i) rows ≡ true →
      1 ≤ held_times i (row_heads d begun moment rows)
  rows-hold i [] own = absurd (cc)
  rows-hold i (row ∷ rows) own =
      let both = held-append i (listed (duty_head d begun moment row)) (row_heads d begun moment rows) in
      elim (belongs d.params.groups (part_at begun i) row) as (λ b. belongs d.params.groups (part_at begun i) row ≡ b →
      (b || belongs_to d.params.groups (part_at begun i) rows) ≡ true →
      1 ≤ held_times i (row_heads d begun moment (row ∷ rows))) [
        | true ↦ λ is e. let here = duty-holds i row is in omega (arith, both, here)
        | false ↦ λ is e. let rest = rows-hold i rows e in omega (arith, both, rest)
      ] refl own

-- no head is lost where heads are ordered
from-all : (l t n k : ℕ) → k ≤ l → l < k + n → t ≤ times_from (Some l) t n k
from-all l t zero k low high = absurd (omega (arith, low, high))
from-all l t (suc n) k low high =
    elim (nat_eq l k) as (λ b. nat_eq l k ≡ b → t ≤ cond b t 0 + times_from (Some l) t n (suc k)) [
      | true ↦ λ is. omega arith
      | false ↦ λ is.
          let other : k < l = grind (arith, nat_tests) in
          let rest = from-all l t n (suc k) (omega (arith, other)) (omega (arith, high)) in
          omega (arith, rest)
    ] refl

-- No head is lost where heads are ordered. They are put in order by going over all n pieces and taking at each the heads that begin
-- with it. By induction over the heads: one head more adds its pieces at its own first piece (`head-more`), and this is one of the n,
-- since a head's pieces are numbers of pieces (`rows-start`). That none comes twice is not needed here.
all-first : (i n : ℕ) (hs : List DutyHead) → AllStart n hs → held_times i hs ≤ held_times i (by_first hs n 0)
all-first i n [] start = omega arith
all-first i n (h ∷ hs) start =
    let (l, is, below) = start.0 in
    let rest = all-first i n hs start.1 in
    let more = head-more i h hs n 0 in
    let both = times-append i h.pieces (held hs) in
    let whole = from-all l (times i h.pieces) n 0 (omega arith) (omega (arith, below)) in
    let same : times_from (slice_get h.pieces 0) (times i h.pieces) n 0 ≡ times_from (Some l) (times i h.pieces) n 0 =
    ap (λ o. times_from o (times i h.pieces) n 0) is in
    omega (arith, rest, more, both, whole, same)

-- a head in which a piece stands
find-head : (i : ℕ) (hs : List DutyHead) → 1 ≤ held_times i hs →
    (m : ℕ) × (h : Begun) × (slice_get (begun_of hs) m ≡ Some h) × (1 ≤ times i h.items)
find-head i [] some = absurd (omega (arith, some))
find-head i (h ∷ hs) some =
    let both = times-append i h.pieces (held hs) in
    elim (cases_lt 0 (times i h.pieces)) [
      | inl here ↦ (0, record { class = h.class; items = h.pieces; finished = h.finished }, refl, omega (arith, here))
      | inr none ↦
          let (m, g, at, there) = find-head i hs (omega (arith, both, none, some)) in
          (suc m, g, at, there)
    ]

-- a piece that stands in two columns of a plan stands twice
at-most : (x : ℕ) (cs : List Column) (j : ℕ) (c : Column) → slice_get cs j ≡ Some c → times x c.items ≤ times x (all_items cs)
at-most x [] j c at = absurd (cc)
at-most x (b ∷ bs) zero c at =
    let both = times-append x b.items (all_items bs) in
    let P : Column → Type 0 = λ c. times x c.items ≤ times x (all_items (b ∷ bs)) in
    subst P (same_Some b c at) (omega (arith, both))
at-most x (b ∷ bs) (suc j) c at =
    let both = times-append x b.items (all_items bs) in
    let rest = at-most x bs j c at in
    omega (arith, both, rest)

-- Two columns of a plan that have one piece are one: both add to how often the piece stands in all, and that is once at most. The
-- induction goes along the plan until the first of the two places.
same-place : (x : ℕ) (cs : List Column) (j k : ℕ) (c e : Column) → times x (all_items cs) ≤ 1 → slice_get cs j ≡ Some c →
    slice_get cs k ≡ Some e → 1 ≤ times x c.items → 1 ≤ times x e.items → c ≡ e
same-place x [] j k c e once atc ate here there = absurd (cc)
same-place x (b ∷ bs) zero zero c e once atc ate here there = sym (same_Some b c atc) ∙ same_Some b e ate
same-place x (b ∷ bs) zero (suc k) c e once atc ate here there =
    let both = times-append x b.items (all_items bs) in
    let first : times x b.items ≡ times x c.items = ap (λ (c : Column). times x c.items) (same_Some b c atc) in
    let rest = at-most x bs k e ate in
    absurd (omega (arith, both, first, rest, once, here, there))
same-place x (b ∷ bs) (suc j) zero c e once atc ate here there =
    let both = times-append x b.items (all_items bs) in
    let first : times x b.items ≡ times x e.items = ap (λ (c : Column). times x c.items) (same_Some b e ate) in
    let rest = at-most x bs j c atc in
    absurd (omega (arith, both, first, rest, once, here, there))
same-place x (b ∷ bs) (suc j) (suc k) c e once atc ate here there =
    let both = times-append x b.items (all_items bs) in
    same-place x bs j k c e (omega (arith, both, once)) atc ate here there

part-is : (blocks earlier : List Column) (moment : ℕ) (ps : List Piece) (i : ℕ) (p : Piece) → slice_get ps i ≡ Some p →
    part_at (begun_parts blocks earlier moment ps) i ≡ begun_part blocks earlier moment p
part-is blocks earlier moment [] i p at = absurd (cc)
part-is blocks earlier moment (q ∷ qs) zero p at = ap (begun_part blocks earlier moment) (same_Some q p at)
part-is blocks earlier moment (q ∷ qs) (suc i) p at = part-is blocks earlier moment qs i p at

within : (ps : List Piece) (i : ℕ) (p : Piece) → slice_get ps i ≡ Some p → i < length ps
within [] i p at = absurd (cc)
within (q ∷ qs) zero p at = omega arith
within (q ∷ qs) (suc i) p at = omega (arith, within qs i p at)

module _ (d : DutyFacts) (blocks : List Column) (earlier : PlanText) (moment : ℕ) where
  abbrev heads : List DutyHead
  heads = duty_heads_of d blocks earlier moment

  -- A begun piece of a duty is there, and stands in a head. A begun piece of an earlier duty is a number of the day's pieces, and its
  -- duty's head, in order with the others, holds it (`rows-hold`, `all-first`).
  holds : (k : ℕ) → has_begun_in d blocks earlier moment k ≡ true → (k < length d.pieces) × (1 ≤ held_times k heads)
  holds k own =
      elim (slice_get d.pieces k) as (λ o. slice_get d.pieces k ≡ o →
      option_map_or (λ (p : Piece). belongs_to d.params.groups (begun_part blocks earlier.blocks.columns moment p) earlier.duties) o false
      ≡ true → (k < length d.pieces) × (1 ≤ held_times k heads)) [
        | None ↦ λ at e. absurd (cc)
        | Some p ↦ λ at e.
            let begun : List (Option (ℕ × ℕ)) = begun_parts blocks earlier.blocks.columns moment d.pieces in
            let all = parts-length blocks earlier.blocks.columns moment d.pieces in
            let P : Option (ℕ × ℕ) → Type 0 = λ o. belongs_to d.params.groups o earlier.duties ≡ true in
            let rows = rows-hold d begun moment k earlier.duties
            (subst P (sym (part-is blocks earlier.blocks.columns moment d.pieces k p at)) e) in
            let first = all-first k (length d.pieces) (row_heads d begun moment earlier.duties)
            (rows-start d begun moment (length d.pieces) earlier.duties (omega (arith, all))) in
            (within d.pieces k p at, omega (arith, rows, first))
      ] refl own

  front-times : (x : ℕ) (h : Begun) (c : Column) → BeginsWith h c → 1 ≤ times x h.items → 1 ≤ times x c.items
  front-times x h c begins some =
      let both = times-append x h.items begins.more in
      let same : times x c.items ≡ times x (h.items ++ begins.more) = ap (times x) begins.items in
      omega (arith, both, same, some)

  -- Going along a list of pieces that are all in one duty of the plan: were one of them begun in an earlier duty, a head would hold
  -- it, and the head would be the initial part of some duty of the plan. Both have the piece, which stands once, so they are one duty
  -- (`same-place`), and this one begins with a head, against the assumption.
  none-all : (columns : List Column) → IsPlan (duties d) columns → KeepsBegun (begun_of heads) may_begin columns → (j : ℕ) (c : Column) →
      slice_get columns j ≡ Some c →
      ((k : ℕ) (h : Begun) → slice_get (begun_of heads) k ≡ Some h → BeginsWith h c → ⊥) → (list : List ℕ) →
      ((x : ℕ) → 1 ≤ times x list → 1 ≤ times x c.items) →
      none_begun d blocks earlier moment list ≡ true
  none-all columns plan keeps j c at others [] front = refl
  none-all columns plan keeps j c at others (x ∷ xs) front =
      let rest = none-all columns plan keeps j c at others xs (λ y some. front y (omega (arith, some))) in
      elim (has_begun_in d blocks earlier moment x) as (λ b. has_begun_in d blocks earlier moment x ≡ b →
      (not b && none_begun d blocks earlier moment xs) ≡ true) [
        | false ↦ λ is. rest
        | true ↦ λ is.
            let (there, some) = holds x is in
            let (m, h, found, stands) = find-head x heads some in
            let (k, e, place, begins) = keeps.kept m h found in
            let same : (x == x) ≡ true = grind (arith, nat_tests) in
            let own : 1 ≤ times x (x ∷ xs) = rw same (omega arith) in
            let once = plan.once x there in
            let one : e ≡ c = same-place x columns k j e c (omega (arith, once)) place at (front-times x h e begins stands) (front x own) in
            let P : Column → Type 0 = λ c. BeginsWith h c in
            absurd (others m h found (subst P one begins))
      ] refl

-- A plan that keeps the heads is asked here for more: that a duty without a head has no piece that has begun in an earlier duty. It
-- holds of itself, by counting alone (`none-all` of all pieces of the duty). So the search need not test it, and
-- `kept_leaves_none_begun` may say that what drivers have begun stays with them.
pub none-begun : KeptLeavesNoneBegun
none-begun d blocks earlier moment columns plan keeps = record {
  kept = keeps.kept;
  others = λ j c at others. none-all d blocks earlier moment columns plan keeps j c at others c.items (λ x some. some);
}
