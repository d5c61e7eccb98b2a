-- A plan of the rest, written out, is a plan that keeps what has begun.
use Rattle.std.proofs.Common.{◌≡◌, ◌==◌, ℕ, ◌<◌, ◌≤◌, ◌&&◌, ◌||◌, Bool, true, false, cond, not, nat_le, nat_eq, zero, suc, List, [], ◌∷◌, ◌++◌, length, inl, inr, Option, Some, None, refl, sym, ap, subst, arith, slice_get}
use Rattle.std.proofs.lemmas.Bool.{cases_lt}
use Rattle.std.proofs.lemmas.Bool.Decides.{nat_tests}
use Rattle.std.proofs.lemmas.Option.{slice_get_within}
use Rattle.cover_core.specs.declared.Column.{Column}
use Rattle.cover_core.specs.Cover.{Problem, AllBelow}
use Rattle.cover_core.specs.Plans.{AreColumns, IsColumn, times, all_items}
use Rattle.cover_core.proofs.Parts.{times-append}
use Rattle.cover_core.proofs.Duality.{all_items-below}
use Rattle.cover_rest.specs.declared.begun.Begun.{Begun}
use Rattle.cover_rest.specs.Rest.{begun_lists, bodies, body_at, free_lists, is_empty, keeps_heads, may_go_on, none_below, rest_of, written, written_column, written_plan}
use Rattle.cover_rest.specs.Keeping.{BeginsWith}
use Rattle.cover_rest.specs.Laws.{IsRestKept}
use Rattle.cover_rest.proofs.Counts.{bodies-once, once-written, written-classes, written-cost, written-number}
use Rattle.cover_rest.proofs.Lists.{both-true, rest-listed, rest-parts, some-same, written-columns}

-- a column at a place is one of the columns
pub column-there : (p : Problem) (cs : List Column) (j : ℕ) (c : Column) → AreColumns p cs → slice_get cs j ≡ Some c → IsColumn p c
column-there p [] j c are at = absurd (cc)
column-there p (d ∷ ds) zero c are at = let P : Column → Type 0 = λ c. IsColumn p c in subst P (some-same d c at) are.0
column-there p (d ∷ ds) (suc j) c are at = column-there p ds j c are.1 at

-- a place at which an item stands
pub find-column : (x : ℕ) (cs : List Column) → 1 ≤ times x (all_items cs) →
    (j : ℕ) × (c : Column) × (slice_get cs j ≡ Some c) × (1 ≤ times x c.items)
find-column x [] some = absurd (omega arith)
find-column x (c ∷ cs) some =
    let both = times-append x c.items (all_items cs) in
    elim (cases_lt 0 (times x c.items)) [
      | inl here ↦ (0, c, refl, omega (arith, here))
      | inr none ↦
          let (j, d, at, there) = find-column x cs (omega (arith, both, none)) in
          (suc j, d, at, there)
    ]

pub written-there : (bs : List (List ℕ)) (cs : List Column) (j : ℕ) (c : Column) → slice_get cs j ≡ Some c →
    slice_get (written_plan bs cs) j ≡ Some (written_column bs c)
written-there bs [] j c at = absurd (cc)
written-there bs (d ∷ ds) zero c at = ap (λ d. Some (written_column bs d)) (some-same d c at)
written-there bs (d ∷ ds) (suc j) c at = written-there bs ds j c at

pub there-written : (bs : List (List ℕ)) (cs : List Column) (j : ℕ) (d : Column) → slice_get (written_plan bs cs) j ≡ Some d →
    (c : Column) × (slice_get cs j ≡ Some c) × (written_column bs c ≡ d)
there-written bs [] j d at = absurd (cc)
there-written bs (c ∷ cs) zero d at = (c, refl, some-same (written_column bs c) d at)
there-written bs (c ∷ cs) (suc j) d at = there-written bs cs j d at

-- what a head's item stands for
pub head-body : (heads : List Begun) (more : List (List ℕ)) (k : ℕ) (h : Begun) → slice_get heads k ≡ Some h →
    body_at (begun_lists heads ++ more) k ≡ h.items
head-body [] more k h at = absurd (cc)
head-body (g ∷ gs) more zero h at = ap (λ (g : Begun). g.items) (some-same g h at)
head-body (g ∷ gs) more (suc k) h at = head-body gs more k h at

pub many-bodies : (heads : List Begun) (more : List (List ℕ)) → length heads ≤ length (begun_lists heads ++ more)
many-bodies [] more = omega arith
many-bodies (h ∷ hs) more = omega (arith, many-bodies hs more)

none-times : (n x : ℕ) (xs : List ℕ) → x < n → none_below n xs ≡ true → times x xs ≡ 0
none-times n x [] below e = refl
none-times n x (y ∷ ys) below e =
    let (first, rest) = both-true (nat_le n y) (none_below n ys) e in
    let other : (x == y) ≡ false = grind (arith, nat_tests) in
    let none = none-times n x ys below rest in
    rw other (omega (arith, none))

empty-is : (xs : List ℕ) → is_empty xs ≡ true → xs ≡ []
empty-is [] e = refl
empty-is (x ∷ xs) e = absurd (cc)

is-finished : (f : Bool) (xs : List ℕ) → (not f || is_empty xs) ≡ true → f ≡ true → is_empty xs ≡ true
is-finished true xs e f = e
is-finished false xs e f = absurd (cc)

module _ (heads : List Begun) (n : ℕ) (may : ℕ → List ℕ → Bool) where
  abbrev bs : List (List ℕ)
  bs = bodies heads n

  -- a list that begins with a head's item, written out
  with-head : (class worth k : ℕ) (h : Begun) (xs : List ℕ) → slice_get heads k ≡ Some h →
      (nat_eq h.class class && (not h.finished || is_empty xs)) ≡ true →
      BeginsWith h (record { class = class; worth = worth; items = written bs (k ∷ xs) })
  with-head class worth k h xs at e =
      let (same, ends) = both-true (nat_eq h.class class) (not h.finished || is_empty xs) e in
      record {
        class = grind (arith, nat_tests);
        more = written bs xs;
        items = ap (λ b. b ++ written bs xs) (head-body heads (free_lists heads n 0) k h at);
        finished = λ f. ap (written bs) (empty-is xs (is-finished h.finished xs ends f));
      }

  goes-on : (class x : ℕ) (h : Begun) (xs list : List ℕ) → slice_get heads x ≡ Some h →
      may_go_on may class (slice_get heads x) xs list ≡ true →
      (nat_eq h.class class && (not h.finished || is_empty xs)) ≡ true
  goes-on class x h xs list at e = let P : Option Begun → Type 0 = λ o. may_go_on may class o xs list ≡ true in subst P at e

  -- A list of the rest in which a head stands begins with it: no other item of such a list may be a head. Written out it begins
  -- with the head's own items, in its class, and nothing follows where the head is finished.
  pub holds-head : (class worth k : ℕ) (h : Begun) (list : List ℕ) → slice_get heads k ≡ Some h → 1 ≤ times k list →
      keeps_heads heads bs may class list ≡ true → BeginsWith h (record { class = class; worth = worth; items = written bs list })
  holds-head class worth k h [] at some e = absurd (omega arith)
  holds-head class worth k h (x ∷ xs) at some e =
      let (none, goes) = both-true (none_below (length heads) xs) (may_go_on may class (slice_get heads x) xs (written bs (x ∷ xs))) e in
      let within = slice_get_within heads k h at in
      let rest = none-times (length heads) k xs within none in
      let first : k ≡ x = one (k == x) refl (omega (arith, rest, some)) in
      let P : ℕ → Type 0 = λ x. may_go_on may class (slice_get heads x) xs (written bs (x ∷ xs)) ≡ true in
      let Q : ℕ → Type 0 = λ x. BeginsWith h (record { class = class; worth = worth; items = written bs (x ∷ xs) }) in
      subst Q first (with-head class worth k h xs at (goes-on class k h xs (written bs (k ∷ xs)) at (subst P (sym first) goes)))
    where
      one : (b : Bool) → (k == x) ≡ b → 1 ≤ cond b 1 0 → k ≡ x
      one true is h = grind (arith, nat_tests)
      one false is h = absurd (omega arith)

  -- a list that begins with no head may begin now
  pub holds-none : (class worth : ℕ) (list : List ℕ) → keeps_heads heads bs may class list ≡ true →
      ((k : ℕ) (h : Begun) → slice_get heads k ≡ Some h →
      BeginsWith h (record { class = class; worth = worth; items = written bs list }) → ⊥) →
      may class (written bs list) ≡ true
  holds-none class worth [] e none = absurd (cc)
  holds-none class worth (x ∷ xs) e none =
      let (front, goes) = both-true (none_below (length heads) xs) (may_go_on may class (slice_get heads x) xs (written bs (x ∷ xs))) e in
      elim (slice_get heads x) as (λ o. slice_get heads x ≡ o → may class (written bs (x ∷ xs)) ≡ true) [
        | None ↦ λ is. let P : Option Begun → Type 0 = λ o. may_go_on may class o xs (written bs (x ∷ xs)) ≡ true in subst P is goes
        | Some h ↦ λ is. absurd (none x h is (with-head class worth x h xs is (goes-on class x h xs (written bs (x ∷ xs)) is goes)))
      ] refl

-- One half of the bijection: a plan of the rest, written out, is a plan that keeps the heads. An item of the rest stands for a
-- head's items or one free item, and all items are stood for once, so writing out covers each item once; each head is an item of
-- the rest, so some column has it and begins with it. Classes, number and worths do not change: bounds carry over from the rest to
-- all plans that keep what has begun.
pub rest-is-kept : (p : Problem) → IsRestKept p
rest-is-kept p heads may are rest plan =
    let bs : List (List ℕ) = bodies heads p.items in
    let below : AllBelow (length bs) (all_items rest) = all_items-below (rest_of p heads may) rest (rest-listed p heads may) plan.worths in
    record {
      plan = record {
        worths = written-columns p heads may rest plan.worths;
        once = λ i there. once-written i bs rest below plan.once (bodies-once heads p.items i there (are.once i));
        caps = λ class there. rw (written-classes bs rest) (plan.caps class there);
      };
      keeps = record {
        kept = λ k h at.
            let within = slice_get_within heads k h at in
            let many = many-bodies heads (free_lists heads p.items 0) in
            let once = plan.once k (omega (arith, within, many)) in
            let (j, c, there, some) = find-column k rest (omega (arith, once)) in
            let is = column-there (rest_of p heads may) rest j c plan.worths there in
            let parts = rest-parts p heads bs may c.class c.items c.worth is.1 in (
              j,
              written_column bs c,
              written-there bs rest j c there,
              holds-head heads p.items may c.class c.worth k h c.items at some parts.keeps,
            );
        others = λ j d at none.
            let (c, there, same) = there-written bs rest j d at in
            let is = column-there (rest_of p heads may) rest j c plan.worths there in
            let parts = rest-parts p heads bs may c.class c.items c.worth is.1 in
            let P : Column → Type 0 = λ d. may d.class d.items ≡ true in
            let Q : Column → Type 0 = λ d. (k : ℕ) (h : Begun) → slice_get heads k ≡ Some h → BeginsWith h d → ⊥ in
            subst P same (holds-none heads p.items may c.class c.worth c.items parts.keeps (subst Q (sym same) none));
      };
      number = written-number bs rest;
      cost = written-cost bs rest;
    }
