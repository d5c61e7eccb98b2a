-- The heads of a plan hold no trip twice. The trips of a head are the initial part of a block, and each block gives one head, at its first
-- trip; so no trip stands in heads more often than in blocks.
use Rattle.std.proofs.Common.{◌≡◌, ◌==◌, ℕ, ◌+◌, ◌<◌, ◌≤◌, true, false, cond, zero, suc, List, [], ◌∷◌, ◌++◌, length, refl, arith, inl, inr}
use Rattle.std.proofs.lemmas.Bool.{cases_lt}
use Rattle.std.proofs.lemmas.Bool.Decides.{nat_tests}
use Rattle.cover_core.specs.declared.Column.{Column}
use Rattle.cover_core.specs.Cover.{AllBelow}
use Rattle.cover_core.specs.Plans.{all_items, times}
use Rattle.cover_core.proofs.Parts.{times-append}
use Rattle.day_model.specs.Facts.{DayFacts}
use Rattle.cover_rest.specs.Rest.{begun_lists, joined}
use Rattle.cover_rest.specs.Keeping.{NoneEmpty}
use Rattle.block_rest.specs.declared.head.Head.{Head}
use Rattle.block_rest.specs.Heads.{AreOfDay, ends_before, head_at, head_from, heads_at, heads_from, heads_of, kept_after, leaves_before}
use Rattle.block_rest.specs.Rest.{begun_of}
use Rattle.block_rest.specs.Laws.{HeadsAreHeads}

-- the trips of heads, one head after another
abbrev held : List Head → List ℕ
held hs = joined (begun_lists (begun_of hs))

-- how often a trip stands in heads
abbrev held_times : ℕ → List Head → ℕ
held_times i hs = times i (held hs)

held-append : (i : ℕ) (gs hs : List Head) → held_times i (gs ++ hs) ≡ held_times i gs + held_times i hs
held-append i [] hs = omega arith
held-append i (g ∷ gs) hs =
    let rest = held-append i gs hs in
    let whole = times-append i g.trips (held (gs ++ hs)) in
    let part = times-append i g.trips (held gs) in
    omega arith

-- kept trips are an initial part
kept-times : (day : DayFacts) (moment i t : ℕ) (us : List ℕ) → times i (kept_after day moment t us) ≤ times i us
kept-times day moment i t [] = omega arith
kept-times day moment i t (u ∷ us) =
    let rest = kept-times day moment i u us in
    elim (ends_before day moment t) as (λ b. times i (cond b (u ∷ kept_after day moment u us) []) ≤ times i (u ∷ us)) [
      | true ↦ omega (arith, rest)
      | false ↦ omega arith
    ]

module _ (day : DayFacts) (moment i : ℕ) where
  head-times : (first class : ℕ) (list : List ℕ) → held_times i (head_at day moment first class list) ≤ times i list
  head-times first class [] = omega arith
  head-times first class (t ∷ ts) =
      let kept = kept-times day moment i t ts in
      let none = times-append i (t ∷ kept_after day moment t ts) [] in
      elim (t == first) as (λ b.
      held_times i (cond b (cond (leaves_before day moment class t) (head_from day moment class t (kept_after day moment t ts) ∷ []) []) [])
      ≤ times i (t ∷ ts)) [
        | true ↦ elim (leaves_before day moment class t) as
            (λ b. held_times i (cond b (head_from day moment class t (kept_after day moment t ts) ∷ []) []) ≤ times i (t ∷ ts)) [
              | true ↦ omega (arith, kept, none)
              | false ↦ omega arith
            ]
        | false ↦ omega arith
      ]

  -- how often a trip stands in the heads of one block, over n first trips from one on
  abbrev times_from : ℕ → ℕ → ℕ → List ℕ → ℕ
  times_from class zero first list = 0
  times_from class (suc n) first list = held_times i (head_at day moment first class list) + times_from class n (suc first) list

  past-none : (class n first t : ℕ) (ts : List ℕ) → t < first → times_from class n first (t ∷ ts) ≡ 0
  past-none class zero first t ts past = refl
  past-none class (suc n) first t ts past =
      let rest = past-none class n (suc first) t ts (omega (arith, past)) in
      let test : (t == first) ≡ false = grind (arith, nat_tests) in
      rw test (omega (arith, rest))

  -- A block gives one head, at its first trip: over all numbers of first trips its trips are counted at most as often as they stand
  -- in the block, since at all other numbers it has no head (`past-none`).
  one-block : (class n first : ℕ) (list : List ℕ) → times_from class n first list ≤ times i list
  one-block class n first [] = none n first
    where
      none : (n first : ℕ) → times_from class n first [] ≤ 0
      none zero first = omega arith
      none (suc n) first = omega (arith, none n (suc first))
  one-block class zero first (t ∷ ts) = omega arith
  one-block class (suc n) first (t ∷ ts) =
      elim (t == first) as (λ b. (t == first) ≡ b → times_from class (suc n) first (t ∷ ts) ≤ times i (t ∷ ts)) [
        | true ↦ λ is.
            let same : t ≡ first = grind (arith, nat_tests) in
            let here = head-times first class (t ∷ ts) in
            let rest = past-none class n (suc first) t ts (omega (arith, same)) in
            omega (arith, here, rest)
        | false ↦ λ is.
            let rest = one-block class n (suc first) (t ∷ ts) in
            let none : held_times i (head_at day moment first class (t ∷ ts)) ≡ 0 = rw is refl in
            omega (arith, none, rest)
      ] refl

  -- a block more
  block-more : (c : Column) (cs : List Column) (n first : ℕ) →
      held_times i (heads_from day moment (c ∷ cs) n first) ≡ times_from c.class n first c.items
      + held_times i (heads_from day moment cs n first)
  block-more c cs zero first = refl
  block-more c cs (suc n) first =
      let rest = block-more c cs n (suc first) in
      let here = held-append i (head_at day moment first c.class c.items) (heads_at day moment cs first) in
      let all = held-append i (heads_at day moment (c ∷ cs) first) (heads_from day moment (c ∷ cs) n (suc first)) in
      let others = held-append i (heads_at day moment cs first) (heads_from day moment cs n (suc first)) in
      omega (arith, rest, here, all, others)

  no-blocks : (n first : ℕ) → held_times i (heads_from day moment [] n first) ≡ 0
  no-blocks zero first = refl
  no-blocks (suc n) first = no-blocks n (suc first)

  -- no trip stands in heads more often than in blocks
  heads-times : (blocks : List Column) (n first : ℕ) → held_times i (heads_from day moment blocks n first) ≤ times i (all_items blocks)
  heads-times [] n first = omega (arith, no-blocks n first)
  heads-times (c ∷ cs) n first =
      let more = block-more c cs n first in
      let one = one-block c.class n first c.items in
      let rest = heads-times cs n first in
      let both = times-append i c.items (all_items cs) in
      omega (arith, more, one, rest, both)

below-times : (n : ℕ) (xs : List ℕ) → ((j : ℕ) → 1 ≤ times j xs → j < n) → AllBelow n xs
below-times n [] each = tt
below-times n (x ∷ xs) each =
    let same : (x == x) ≡ true = grind (arith, nat_tests) in
    (each x (rw same (omega arith)), below-times n xs (λ j some. each j (omega (arith, some))))

times-below : (n i : ℕ) (xs : List ℕ) → AllBelow n xs → n ≤ i → times i xs ≡ 0
times-below n i [] below past = refl
times-below n i (x ∷ xs) below past =
    let rest = times-below n i xs below.1 past in
    let less = below.0 in
    let test : (i == x) ≡ false = grind (arith, nat_tests) in
    rw test (omega (arith, rest))

pub days-below : (day : DayFacts) (blocks : List Column) (i : ℕ) → AreOfDay day blocks → length day.trips ≤ i →
    times i (all_items blocks) ≡ 0
days-below day [] i are past = refl
days-below day (c ∷ cs) i are past =
    let both = times-append i c.items (all_items cs) in
    let here = times-below (length day.trips) i c.items are.0.1 past in
    let rest = days-below day cs i are.1 past in
    omega (arith, both, here, rest)

some-append : (gs hs : List Head) → NoneEmpty (begun_of gs) → NoneEmpty (begun_of hs) → NoneEmpty (begun_of (gs ++ hs))
some-append [] hs a b = b
some-append (g ∷ gs) hs a b = (a.0, some-append gs hs a.1 b)

head-some : (day : DayFacts) (moment first class : ℕ) (list : List ℕ) → NoneEmpty (begun_of (head_at day moment first class list))
head-some day moment first class [] = tt
head-some day moment first class (t ∷ ts) =
    elim (t == first) as (λ b.
    NoneEmpty (begun_of (cond b
    (cond (leaves_before day moment class t) (head_from day moment class t (kept_after day moment t ts) ∷ []) []) []))) [
      | true ↦ elim (leaves_before day moment class t) as
          (λ b. NoneEmpty (begun_of (cond b (head_from day moment class t (kept_after day moment t ts) ∷ []) []))) [
            | true ↦ ((λ e. cc), tt)
            | false ↦ tt
          ]
      | false ↦ tt
    ]

at-some : (day : DayFacts) (moment : ℕ) (blocks : List Column) (first : ℕ) → NoneEmpty (begun_of (heads_at day moment blocks first))
at-some day moment [] first = tt
at-some day moment (c ∷ cs) first =
    some-append (head_at day moment first c.class c.items) (heads_at day moment cs first) (head-some day moment first c.class c.items)
    (at-some day moment cs first)

from-some : (day : DayFacts) (moment : ℕ) (blocks : List Column) (n first : ℕ) → NoneEmpty (begun_of (heads_from day moment blocks n first))
from-some day moment blocks zero first = tt
from-some day moment blocks (suc n) first =
    some-append (heads_at day moment blocks first) (heads_from day moment blocks n (suc first)) (at-some day moment blocks first)
    (from-some day moment blocks n (suc first))

-- The heads of a plan are heads of the day's blocks: none is empty, as it has its first trip; and no trip stands in them twice or is
-- none of the day, since a trip stands in heads at most as often as in the plan (`heads-times`): once if it is of the day, and never
-- if not. It is the contract of `heads_are_heads`, which the rest of the day is built on.
pub heads-are : HeadsAreHeads
heads-are day counts moment blocks are each =
    let heads : List Head = heads_of day moment blocks in
    let few : (i : ℕ) → held_times i heads ≤ times i (all_items blocks) = λ i. heads-times day moment i blocks (length day.trips) 0 in
    record {
      some = from-some day moment blocks (length day.trips) 0;
      below = below-times (length day.trips) (held heads) (λ j some.
          elim (cases_lt j (length day.trips)) [
            | inl there ↦ there
            | inr past ↦ let none = days-below day blocks j are past in let most = few j in absurd (omega (arith, none, most, some))
          ]);
      once = λ i. elim (cases_lt i (length day.trips)) [
        | inl there ↦ let one = each i there in let most = few i in omega (arith, one, most)
        | inr past ↦ let none = days-below day blocks i are past in let most = few i in omega (arith, none, most)
      ];
    }
