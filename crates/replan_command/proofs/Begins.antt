-- Heads and the blocks that they are of. A block that leaves before a moment has a head among those of its plan, and each head is of a
-- block.
use Rattle.std.proofs.Common.{◌≡◌, ◌==◌, ℕ, ◌+◌, ◌<◌, ◌≤◌, Bool, true, false, cond, zero, suc, List, [], ◌∷◌, ◌++◌, Some, refl, sym, ap, subst, ◌∙◌, arith, inl, inr, slice_get, nat_eq}
use Rattle.std.specs.Option.{option_map_or}
use Rattle.std.proofs.lemmas.Bool.{cases_lt}
use Rattle.std.proofs.lemmas.Bool.Decides.{nat_tests}
use Rattle.std.proofs.lemmas.Option.{same_Some}
use Rattle.cover_core.specs.declared.Column.{Column}
use Rattle.cover_core.specs.Plans.{all_items, times}
use Rattle.cover_core.proofs.Parts.{times-append}
use Rattle.day_model.specs.Facts.{DayFacts}
use Rattle.block_rest.specs.declared.head.Head.{Head}
use Rattle.block_rest.specs.Heads.{ends_before, head_at, head_from, heads_at, heads_from, kept_after, last_trip, leaves_before}
use Rattle.duty_rest.specs.Heads.{begins_with, block_with}
use Rattle.replan_command.proofs.Members.{Stands, stands-alone, stands-either, stands-left, stands-none, stands-right}

module _ (day : DayFacts) (moment : ℕ) where
  -- the head of a block that begins with a trip and leaves before the moment
  abbrev pub head-of : ℕ → ℕ → List ℕ → Head
  head-of class first rest = head_from day moment class first (kept_after day moment first rest)

  -- the same by whether the trip is the first one, and whether the block leaves before the moment
  abbrev head-if : Bool → Bool → ℕ → ℕ → List ℕ → List Head
  head-if same leaves class first rest = cond same (cond leaves (head-of class first rest ∷ []) []) []

  head-is : (first class : ℕ) (rest : List ℕ) → leaves_before day moment class first ≡ true →
      head_at day moment first class (first ∷ rest) ≡ head-of class first rest ∷ []
  head-is first class rest leaves =
      let same : (first == first) ≡ true = grind (arith, nat_tests) in
      ap (λ b. head-if b (leaves_before day moment class first) class first rest) same ∙ ap (λ b. head-if true b class first rest) leaves

  -- a block that leaves before the moment has its head among those at its first trip
  at-there : (blocks : List Column) (place : ℕ) (c : Column) (first : ℕ) (rest : List ℕ) → slice_get blocks place ≡ Some c →
      c.items ≡ first ∷ rest → leaves_before day moment c.class first ≡ true →
      Stands (heads_at day moment blocks first) (head-of c.class first rest)
  at-there [] place c first rest at is leaves = absurd (cc)
  at-there (d ∷ ds) zero c first rest at is leaves =
      let same : d ≡ c = same_Some d c at in
      let here : head_at day moment first d.class d.items ≡ head-of c.class first rest ∷ [] =
      ap (λ (c : Column). head_at day moment first c.class c.items) same ∙ ap (head_at day moment first c.class) is
      ∙ head-is first c.class rest leaves in
      let P : List Head → Type 0 = λ l. Stands (l ++ heads_at day moment ds first) (head-of c.class first rest) in
      subst P (sym here) (0, refl)
  at-there (d ∷ ds) (suc place) c first rest at is leaves =
      stands-right (head_at day moment first d.class d.items) (heads_at day moment ds first) (head-of c.class first rest)
      (at-there ds place c first rest at is leaves)

  -- the heads at a trip stand among all heads
  pub heads-there : (blocks : List Column) (n from first : ℕ) (h : Head) → from ≤ first → first < from + n →
      Stands (heads_at day moment blocks first) h → Stands (heads_from day moment blocks n from) h
  heads-there blocks zero from first h low high s = absurd (omega (arith, low, high))
  heads-there blocks (suc n) from first h low high s = elim (cases_lt from first) [
    | inl later ↦ stands-right (heads_at day moment blocks from) (heads_from day moment blocks n (suc from)) h
        (heads-there blocks n (suc from) first h (omega (arith, later)) (omega (arith, high)) s)
    | inr past ↦
        let same : first ≡ from = omega (arith, low, past) in
        let P : ℕ → Type 0 = λ f. Stands (heads_at day moment blocks f) h in
        let here : Stands (heads_at day moment blocks from) h = subst P same s in
        stands-left (heads_at day moment blocks from) (heads_from day moment blocks n (suc from)) h here.0 here.1
  ]

  -- Heads are gathered trip by trip, and at each trip block by block; a block that leaves before the moment puts its head at its first
  -- trip. So it is met at this trip (`heads-there`) and at its block (`at-there`).
  pub head-there : (blocks : List Column) (n place : ℕ) (c : Column) (first : ℕ) (rest : List ℕ) → first < n →
      slice_get blocks place ≡ Some c → c.items ≡ first ∷ rest → leaves_before day moment c.class first ≡ true →
      Stands (heads_from day moment blocks n 0) (head-of c.class first rest)
  head-there blocks n place c first rest within at is leaves =
      heads-there blocks n 0 first (head-of c.class first rest) (omega arith) (omega (arith, within))
      (at-there blocks place c first rest at is leaves)

  -- the block that a head is of
  pub record ComesFrom (blocks : List Column) (h : Head) : Type 0 where
    pub first : ℕ
    pub rest : List ℕ
    pub place : ℕ
    pub block : Column
    pub there : slice_get blocks place ≡ Some block
    pub items : block.items ≡ first ∷ rest
    pub is : head-of block.class first rest ≡ h

  comes-later : (d : Column) (ds : List Column) (h : Head) → ComesFrom ds h → ComesFrom (d ∷ ds) h
  comes-later d ds h f = record {
    first = f.first;
    rest = f.rest;
    place = suc f.place;
    block = f.block;
    there =
        f.there;
    items = f.items;
    is = f.is;
  }

  comes-first : (c : Column) (ds : List Column) (list : List ℕ) (first : ℕ) (h : Head) → c.items ≡ list →
      Stands (head_at day moment first c.class list) h → ComesFrom (c ∷ ds) h
  comes-first c ds [] first h e s = absurd (stands-none h s)
  comes-first c ds (t ∷ ts) first h e s = by (t == first) (leaves_before day moment c.class t) s
    where
      by : (same leaves : Bool) → Stands (head-if same leaves c.class t ts) h → ComesFrom (c ∷ ds) h
      by true true s = record {
        first = t;
        rest = ts;
        place = 0;
        block = c;
        there = refl;
        items = e;
        is =
            stands-alone (head-of c.class t ts) h s;
      }
      by true false s = absurd (stands-none h s)
      by false leaves s = absurd (stands-none h s)

  comes-at : (blocks : List Column) (first : ℕ) (h : Head) → Stands (heads_at day moment blocks first) h → ComesFrom blocks h
  comes-at [] first h s = absurd (stands-none h s)
  comes-at (c ∷ cs) first h s = elim (stands-either (head_at day moment first c.class c.items) (heads_at day moment cs first) h s.0 s.1) [
    | inl here ↦ comes-first c cs c.items first h refl here
    | inr later ↦ comes-later c cs h (comes-at cs first h later)
  ]

  pub comes-from : (blocks : List Column) (n from : ℕ) (h : Head) → Stands (heads_from day moment blocks n from) h → ComesFrom blocks h
  comes-from blocks zero from h s = absurd (stands-none h s)
  comes-from blocks (suc n) from h s =
      elim (stands-either (heads_at day moment blocks from) (heads_from day moment blocks n (suc from)) h s.0 s.1) [
        | inl here ↦ comes-at blocks from h here
        | inr later ↦ comes-from blocks n (suc from) h later
      ]

  -- a list is its kept trips and others, of which there are none where the last kept one has ended
  pub record HasFront (t : ℕ) (ts kept : List ℕ) : Type 0 where
    pub more : List ℕ
    pub is : ts ≡ kept ++ more
    pub ends : ends_before day moment (last_trip t kept) ≡ true → more ≡ []

  -- A trip is kept where it follows a kept one that is over at the moment, so keeping stops behind the first that is not. Where even
  -- the last kept one is over, nothing stopped the keeping, and no trip is left.
  pub front : (t : ℕ) (ts : List ℕ) → HasFront t ts (kept_after day moment t ts)
  front t [] = record { more = []; is = refl; ends = λ e. refl }
  front t (u ∷ us) = by (ends_before day moment t) refl (front u us)
    where
      by : (b : Bool) → ends_before day moment t ≡ b → HasFront u us (kept_after day moment u us) →
          HasFront t (u ∷ us) (cond b (u ∷ kept_after day moment u us) [])
      by true e rest = record { more = rest.more; is = ap (λ (l : List ℕ). u ∷ l) rest.is; ends = rest.ends }
      by false e rest = record { more = u ∷ us; is = refl; ends = λ bad. absurd (let no : false ≡ true = sym e ∙ bad in cc) }

-- how often a trip stands in a block at least and at most
times-first : (t : ℕ) (ts : List ℕ) → 1 ≤ times t (t ∷ ts)
times-first t ts = let same : (t == t) ≡ true = grind (arith, nat_tests) in rw same (omega arith)

times-at : (i : ℕ) (blocks : List Column) (place : ℕ) (c : Column) → slice_get blocks place ≡ Some c →
    times i c.items ≤ times i (all_items blocks)
times-at i [] place c at = absurd (cc)
times-at i (d ∷ ds) zero c at =
    let both = times-append i d.items (all_items ds) in
    let same : times i d.items ≡ times i c.items = ap (λ (c : Column). times i c.items) (same_Some d c at) in
    omega (arith, both, same)
times-at i (d ∷ ds) (suc place) c at =
    let both = times-append i d.items (all_items ds) in
    let rest = times-at i ds place c at in
    omega (arith, both, rest)

begins-not : (first : ℕ) (d : Column) (list : List ℕ) → d.items ≡ list → times first d.items ≡ 0 → begins_with first d ≡ false
begins-not first d [] is none = ap (λ (l : List ℕ). option_map_or (λ u. nat_eq u first) (slice_get l 0) false) is
begins-not first d (t ∷ ts) is none =
    ap (λ (l : List ℕ). option_map_or (λ u. nat_eq u first) (slice_get l 0) false) is ∙ by (nat_eq t first) refl
  where
    by : (b : Bool) → nat_eq t first ≡ b → nat_eq t first ≡ false
    by false e = e
    by true e =
        let same : t ≡ first = grind (arith, nat_tests) in
        let some = times-first t ts in
        let P : ℕ → Type 0 = λ i. times i (t ∷ ts) ≡ 0 in
        let all : times first (t ∷ ts) ≡ 0 = sym (ap (times first) is) ∙ none in
        let no : times t (t ∷ ts) ≡ 0 = subst P (sym same) all in
        absurd (omega (arith, some, no))

begins-so : (first : ℕ) (d : Column) (rest : List ℕ) → d.items ≡ first ∷ rest → begins_with first d ≡ true
begins-so first d rest is =
    let same : nat_eq first first ≡ true = grind (arith, nat_tests) in
    ap (λ (l : List ℕ). option_map_or (λ u. nat_eq u first) (slice_get l 0) false) is ∙ same

-- Where a trip stands once the first block that begins with it is the one that does. Blocks are looked through for one that begins
-- with the trip; as the trip stands once in all, no earlier block has it at all, and so none begins with it.
pub block-found : (blocks : List Column) (number place : ℕ) (c : Column) (first : ℕ) (rest : List ℕ) → times first (all_items blocks) ≤ 1 →
    slice_get blocks place ≡ Some c → c.items ≡ first ∷ rest →
    block_with blocks number first ≡ Some (number + place)
block-found [] number place c first rest once at is = absurd (cc)
block-found (d ∷ ds) number zero c first rest once at is =
    let same : d ≡ c = same_Some d c at in
    let so : begins_with first d ≡ true = begins-so first d rest (ap (λ (c : Column). c.items) same ∙ is) in
    let n : number ≡ number + 0 = omega arith in
    ap (λ b. cond b (Some number) (block_with ds (suc number) first)) so ∙ ap (λ (n : ℕ). Some n) n
block-found (d ∷ ds) number (suc place) c first rest once at is =
    let both = times-append first d.items (all_items ds) in
    let few = times-at first ds place c at in
    let some = times-first first rest in
    let there : times first c.items ≡ times first (first ∷ rest) = ap (times first) is in
    let not_so : begins_with first d ≡ false = begins-not first d d.items refl (omega (arith, both, few, some, there, once)) in
    let n : suc number + place ≡ number + suc place = omega arith in
    ap (λ b. cond b (Some number) (block_with ds (suc number) first)) not_so
    ∙ block-found ds (suc number) place c first rest (omega (arith, both, once)) at is ∙ ap (λ (n : ℕ). Some n) n
