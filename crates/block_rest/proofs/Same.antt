-- A plan keeps what has begun exactly where its own heads are the earlier plan's. In both plans at most one block begins with a trip, so
-- the heads at a trip are those of one block. A head's trips at the start of a block are kept there too, and no more of them.
use Rattle.std.proofs.Common.{◌≡◌, ◌≢◌, ◌==◌, ◌⊎◌, ℕ, ◌+◌, ◌<◌, ◌≤◌, Bool, true, false, cond, not, zero, suc, List, [], ◌∷◌, ◌++◌, length, Some, refl, sym, ap, subst, ◌∙◌, arith, inl, inr, slice_get}
use Rattle.std.proofs.lemmas.Bool.{cases_lt}
use Rattle.std.proofs.lemmas.Bool.Decides.{nat_tests}
use Rattle.cover_core.specs.declared.Column.{Column}
use Rattle.cover_core.specs.Cover.{AllBelow}
use Rattle.cover_core.specs.Plans.{AreColumns, all_items, times}
use Rattle.cover_core.proofs.Parts.{times-append}
use Rattle.cover_rest.specs.declared.begun.Begun.{Begun}
use Rattle.cover_rest.specs.Keeping.{BeginsWith, KeepsBegun}
use Rattle.cover_rest.proofs.Lists.{some-same}
use Rattle.day_model.specs.Facts.{DayFacts}
use Rattle.depot_network.specs.Listed.{blocks_listed}
use Rattle.depot_network.specs.Network.{blocks_of, caps_of}
use Rattle.plan_params.specs.declared.rows.pool.Pool.{Pool}
use Rattle.block_rest.specs.declared.head.Head.{Head}
use Rattle.block_rest.specs.Heads.{AreOfDay, ends_before, head_at, head_from, heads_at, heads_from, heads_of, kept_after, last_trip, leaves_before}
use Rattle.block_rest.specs.Laws.{IsEachOnce, KeptIsSameHeads}
use Rattle.block_rest.specs.Rest.{begun_of, may_begin}
use Rattle.block_rest.proofs.Apart.{days-below}
use Rattle.block_rest.proofs.Kept.{kept-stop}

-- a head as what a column begins with
abbrev begun : Head → Begun
begun h = record { class = h.class; items = h.trips; finished = h.finished }

-- a block that begins with a trip
record BeginsAt (blocks : List Column) (first : ℕ) : Type 0 where
  pub place : ℕ
  pub block : Column
  pub rest : List ℕ
  pub there : slice_get blocks place ≡ Some block
  pub items : block.items ≡ first ∷ rest

times-first : (t : ℕ) (ts : List ℕ) → 1 ≤ times t (t ∷ ts)
times-first t ts = let same : (t == t) ≡ true = grind (arith, nat_tests) in rw same (omega arith)

times-at : (i : ℕ) (blocks : List Column) (j : ℕ) (c : Column) → slice_get blocks j ≡ Some c → times i c.items ≤ times i (all_items blocks)
times-at i [] j c at = absurd (cc)
times-at i (d ∷ ds) zero c at =
    let both = times-append i d.items (all_items ds) in
    let same : times i d.items ≡ times i c.items = ap (λ (c : Column). times i c.items) (some-same d c at) in
    omega (arith, both, same)
times-at i (d ∷ ds) (suc j) c at =
    let both = times-append i d.items (all_items ds) in
    let rest = times-at i ds j c at in
    omega (arith, both, rest)

no-more : (xs : List Head) → xs ++ [] ≡ xs
no-more [] = refl
no-more (x ∷ xs) = ap (λ (l : List Head). x ∷ l) (no-more xs)

abbrev first_or : ℕ → List ℕ → ℕ
first_or x [] = x
first_or x (y ∷ ys) = y

-- places in heads, one list behind another
there-back : (xs ys : List Head) (b : Begun) (k : ℕ) → slice_get (begun_of ys) k ≡ Some b →
    (l : ℕ) × (slice_get (begun_of (xs ++ ys)) l ≡ Some b)
there-back [] ys b k at = (k, at)
there-back (x ∷ xs) ys b k at = let (l, is) = there-back xs ys b k at in (suc l, is)

there-either : (xs ys : List Head) (b : Begun) (k : ℕ) → slice_get (begun_of (xs ++ ys)) k ≡ Some b →
    ((l : ℕ) × (slice_get (begun_of xs) l ≡ Some b)) ⊎ ((l : ℕ) × (slice_get (begun_of ys) l ≡ Some b))
there-either [] ys b k at = inr (k, at)
there-either (x ∷ xs) ys b zero at = inl (0, at)
there-either (x ∷ xs) ys b (suc k) at = elim (there-either xs ys b k at) [
  | inl front ↦ inl (suc front.0, front.1)
  | inr back ↦ inr back
]

module _ (day : DayFacts) (moment : ℕ) where
  -- the head of a block that begins with a trip and leaves before the moment
  abbrev head_of : ℕ → ℕ → List ℕ → Head
  head_of class first rest = head_from day moment class first (kept_after day moment first rest)

  head-of : (first class : ℕ) (rest : List ℕ) → leaves_before day moment class first ≡ true →
      head_at day moment first class (first ∷ rest) ≡ head_of class first rest ∷ []
  head-of first class rest leaves =
      let same : (first == first) ≡ true = grind (arith, nat_tests) in
      let one : Bool → Bool → List Head = λ a b. cond a (cond b (head_of class first rest ∷ []) []) [] in
      ap (λ a. one a (leaves_before day moment class first)) same ∙ ap (λ b. one true b) leaves

  head-later : (first class : ℕ) (rest : List ℕ) → leaves_before day moment class first ≡ false →
      head_at day moment first class (first ∷ rest) ≡ []
  head-later first class rest leaves =
      let same : (first == first) ≡ true = grind (arith, nat_tests) in
      let one : Bool → Bool → List Head = λ a b. cond a (cond b (head_of class first rest ∷ []) []) [] in
      ap (λ a. one a (leaves_before day moment class first)) same ∙ ap (λ b. one true b) leaves

  head-other : (first class t : ℕ) (ts : List ℕ) → (t == first) ≡ false → head_at day moment first class (t ∷ ts) ≡ []
  head-other first class t ts other = ap (λ a. cond a (cond (leaves_before day moment class t) (head_of class t ts ∷ []) []) []) other

  not-held : (first class : ℕ) (list : List ℕ) → times first list ≡ 0 → head_at day moment first class list ≡ []
  not-held first class [] none = refl
  not-held first class (t ∷ ts) none =
      elim (t == first) as (λ b. (t == first) ≡ b → head_at day moment first class (t ∷ ts) ≡ []) [
        | true ↦ λ is.
            let same : t ≡ first = grind (arith, nat_tests) in
            let some = times-first t ts in
            let P : ℕ → Type 0 = λ i. times i (t ∷ ts) ≡ 0 in
            let no : times t (t ∷ ts) ≡ 0 = subst P (sym same) none in
            absurd (omega (arith, some, no))
        | false ↦ λ is. head-other first class t ts is
      ] refl

  -- Either some block begins with a trip, and then it is found with its place, or there is no head at this trip. With the next
  -- lemmas it says what the heads at a trip are, whatever the plan: one at most.
  find-first : (blocks : List Column) (first : ℕ) → BeginsAt blocks first ⊎ (heads_at day moment blocks first ≡ [])
  find-first [] first = inr refl
  find-first (c ∷ cs) first = by (find-first cs first) c.items refl
    where
      after : BeginsAt cs first ⊎ (heads_at day moment cs first ≡ []) → head_at day moment first c.class c.items ≡ [] →
          BeginsAt (c ∷ cs) first ⊎ (heads_at day moment (c ∷ cs) first ≡ [])
      after others none = elim others [
        | inl b ↦ inl (record { place = suc b.place; block = b.block; rest = b.rest; there = b.there; items = b.items })
        | inr rest ↦ inr (ap (λ (l : List Head). l ++ heads_at day moment cs first) none ∙ rest)
      ]

      by : BeginsAt cs first ⊎ (heads_at day moment cs first ≡ []) → (list : List ℕ) → c.items ≡ list →
          BeginsAt (c ∷ cs) first ⊎ (heads_at day moment (c ∷ cs) first ≡ [])
      by others [] e = after others (ap (head_at day moment first c.class) e)
      by others (t ∷ ts) e = elim (t == first) as
          (λ b. (t == first) ≡ b → BeginsAt (c ∷ cs) first ⊎ (heads_at day moment (c ∷ cs) first ≡ [])) [
            | true ↦ λ is. let same : t ≡ first = grind (arith, nat_tests) in
                inl (record { place = 0; block = c; rest = ts; there = refl; items = e ∙ ap (λ t. t ∷ ts) same })
            | false ↦ λ is. after others (ap (head_at day moment first c.class) e ∙ head-other first c.class t ts is)
          ] refl

  no-first : (blocks : List Column) (first : ℕ) → times first (all_items blocks) ≡ 0 → heads_at day moment blocks first ≡ []
  no-first blocks first none = elim (find-first blocks first) [
    | inl b ↦
        let few = times-at first blocks b.place b.block b.there in
        let some = times-first first b.rest in
        let same : times first b.block.items ≡ times first (first ∷ b.rest) = ap (times first) b.items in
        absurd (omega (arith, few, some, same, none))
    | inr is ↦ is
  ]

  -- The heads at a trip are those of the block that begins with it: each trip stands at most once in a plan, so no other block
  -- begins with it, and all others give no head there. So heads, which are listed by first trips over all blocks, can be spoken of
  -- block by block.
  only-first : (blocks : List Column) (first j : ℕ) (c : Column) (ts : List ℕ) → times first (all_items blocks) ≤ 1 →
      slice_get blocks j ≡ Some c → c.items ≡ first ∷ ts →
      heads_at day moment blocks first ≡ head_at day moment first c.class (first ∷ ts)
  only-first [] first j c ts once at is = absurd (cc)
  only-first (d ∷ ds) first zero c ts once at is =
      let same : d ≡ c = some-same d c at in
      let both = times-append first d.items (all_items ds) in
      let some = times-first first ts in
      let here : times first d.items ≡ times first (first ∷ ts) = ap (λ (c : Column). times first c.items) same ∙ ap (times first) is in
      let none = no-first ds first (omega (arith, both, some, here, once)) in
      ap (λ (l : List Head). head_at day moment first d.class d.items ++ l) none ∙ no-more (head_at day moment first d.class d.items)
      ∙ ap (λ (c : Column). head_at day moment first c.class c.items) same ∙ ap (head_at day moment first c.class) is
  only-first (d ∷ ds) first (suc j) c ts once at is =
      let both = times-append first d.items (all_items ds) in
      let few = times-at first ds j c at in
      let some = times-first first ts in
      let here : times first c.items ≡ times first (first ∷ ts) = ap (times first) is in
      let none = not-held first d.class d.items (omega (arith, both, few, some, here, once)) in
      ap (λ (l : List Head). l ++ heads_at day moment ds first) none ∙ only-first ds first j c ts (omega (arith, both, once)) at is

  -- The kept trips of a block, whatever follows them, are kept again and nothing more: whether a trip is kept hangs on the one
  -- before it alone. Behind the last kept trip more would be kept only if it had ended before the moment, and then nothing follows.
  -- So a block that begins with a head has just this head.
  kept-again : (t : ℕ) (ts more : List ℕ) → (ends_before day moment (last_trip t (kept_after day moment t ts)) ≡ true → more ≡ []) →
      kept_after day moment t (kept_after day moment t ts ++ more) ≡ kept_after day moment t ts
  kept-again t [] more ends =
      elim (ends_before day moment t) as (λ b. ends_before day moment t ≡ b → kept_after day moment t more ≡ []) [
        | true ↦ λ is. ap (kept_after day moment t) (ends is)
        | false ↦ λ is. kept-stop day moment t more (sym is)
      ] refl
  kept-again t (u ∷ us) more ends =
      elim (ends_before day moment t) as (λ b. ends_before day moment t ≡ b →
      (ends_before day moment (last_trip t (cond b (u ∷ kept_after day moment u us) [])) ≡ true → more ≡ []) →
      kept_after day moment t (cond b (u ∷ kept_after day moment u us) [] ++ more) ≡ cond b (u ∷ kept_after day moment u us) []) [
        | true ↦ λ is ends.
            ap (λ b. cond b (u ∷ kept_after day moment u (kept_after day moment u us ++ more)) []) is
            ∙ ap (λ (l : List ℕ). u ∷ l) (kept-again u us more ends)
        | false ↦ λ is ends. kept-stop day moment t more (sym is)
      ] refl ends

  -- A block is its kept trips and others; where the last kept one has ended before the moment there are no others, as the next one
  -- would be kept, too. This is what "begins with a head" asks for (`begins`), a finished head included.
  record HasFront (t : ℕ) (ts : List ℕ) : Type 0 where
    pub more : List ℕ
    pub is : ts ≡ kept_after day moment t ts ++ more
    pub ends : ends_before day moment (last_trip t (kept_after day moment t ts)) ≡ true → more ≡ []

  front : (t : ℕ) (ts : List ℕ) → HasFront t ts
  front t [] = record { more = []; is = refl; ends = λ e. refl }
  front t (u ∷ us) =
      let rest = front u us in
      let Goal : Bool → Type 0 = λ b. (more : List ℕ) × (u ∷ us ≡ cond b (u ∷ kept_after day moment u us) [] ++ more) ×
      (ends_before day moment (last_trip t (cond b (u ∷ kept_after day moment u us) [])) ≡ true → more ≡ []) in
      let (more, is, ends) = elim (ends_before day moment t) as (λ b. ends_before day moment t ≡ b → Goal b) [
        | true ↦ λ e. (rest.more, ap (λ (l : List ℕ). u ∷ l) rest.is, rest.ends)
        | false ↦ λ e. (u ∷ us, refl, λ bad. absurd (let no : false ≡ true = sym e ∙ bad in cc))
      ] refl in
      record { more = more; is = is; ends = ends }

  -- a block begins with its head
  begins : (c : Column) (first : ℕ) (ts : List ℕ) → c.items ≡ first ∷ ts → BeginsWith (begun (head_of c.class first ts)) c
  begins c first ts is =
      let f = front first ts in
      record { class = refl; more = f.more; items = is ∙ ap (λ (l : List ℕ). first ∷ l) f.is; finished = f.ends }

  -- The head at a trip stands among all heads, and each of all heads comes from a block that begins with its first trip and leaves
  -- before the moment (`comes-from`). The list of all heads goes over the numbers of first trips; both lemmas go along it.
  heads-there : (blocks : List Column) (n g f : ℕ) (h : Head) → g ≤ f → f < g + n → heads_at day moment blocks f ≡ h ∷ [] →
      (k : ℕ) × (slice_get (begun_of (heads_from day moment blocks n g)) k ≡ Some (begun h))
  heads-there blocks zero g f h from to is = absurd (omega (arith, from, to))
  heads-there blocks (suc n) g f h from to is = elim (cases_lt g f) [
    | inl later ↦
        let (k, at) = heads-there blocks n (suc g) f h (omega (arith, later)) (omega (arith, to)) is in
        there-back (heads_at day moment blocks g) (heads_from day moment blocks n (suc g)) (begun h) k at
    | inr past ↦
        let same : g ≡ f = omega (arith, from, past) in
        let P : List Head → Type 0 = λ l. slice_get (begun_of (l ++ heads_from day moment blocks n (suc g))) 0 ≡ Some (begun h) in
        let here : heads_at day moment blocks g ≡ h ∷ [] = ap (heads_at day moment blocks) same ∙ is in
        (0, subst P (sym here) refl)
  ]

  -- the block that a head is of
  record ComesFrom (blocks : List Column) (b : Begun) : Type 0 where
    pub first : ℕ
    pub place : ℕ
    pub block : Column
    pub rest : List ℕ
    pub there : slice_get blocks place ≡ Some block
    pub items : block.items ≡ first ∷ rest
    pub leaves : leaves_before day moment block.class first ≡ true
    pub is : begun (head_of block.class first rest) ≡ b

  comes-one : (c : Column) (list : List ℕ) (g k : ℕ) (b : Begun) → c.items ≡ list →
      slice_get (begun_of (head_at day moment g c.class list)) k ≡ Some b → ComesFrom (c ∷ []) b
  comes-one c [] g k b e at = absurd (cc)
  comes-one c (t ∷ ts) g k b e at =
      elim (t == g) as (λ x. slice_get (begun_of (cond x (cond (leaves_before day moment c.class t) (head_of c.class t ts ∷ []) []) [])) k
      ≡ Some b → ComesFrom (c ∷ []) b) [
        | true ↦ λ at. elim (leaves_before day moment c.class t) as (λ y. leaves_before day moment c.class t ≡ y →
            slice_get (begun_of (cond y (head_of c.class t ts ∷ []) [])) k ≡ Some b → ComesFrom (c ∷ []) b) [
              | true ↦ λ leaves at. record {
                first = t;
                place = 0;
                block = c;
                rest = ts;
                there = refl;
                items =
                    e;
                leaves = leaves;
                is = only k at;
              }
              | false ↦ λ leaves at. absurd (cc)
            ] refl at
        | false ↦ λ at. absurd (cc)
      ] at
    where
      only : (k : ℕ) → slice_get (begun_of (head_of c.class t ts ∷ [])) k ≡ Some b → begun (head_of c.class t ts) ≡ b
      only zero at = some-same (begun (head_of c.class t ts)) b at
      only (suc k) at = absurd (cc)

  comes-at : (blocks : List Column) (g k : ℕ) (b : Begun) → slice_get (begun_of (heads_at day moment blocks g)) k ≡ Some b →
      ComesFrom blocks b
  comes-at [] g k b at = absurd (cc)
  comes-at (c ∷ cs) g k b at = elim (there-either (head_at day moment g c.class c.items) (heads_at day moment cs g) b k at) [
    | inl here ↦
        let f = comes-one c c.items g here.0 b refl here.1 in
        record {
          first = f.first;
          place = 0;
          block = c;
          rest = f.rest;
          there = refl;
          items = same f f.place f.there f.items;
          leaves =
              moved f f.place f.there f.leaves;
          is = shown f f.place f.there f.is;
        }
    | inr later ↦
        let f = comes-at cs g later.0 b later.1 in
        record {
          first = f.first;
          place = suc f.place;
          block = f.block;
          rest = f.rest;
          there = f.there;
          items =
              f.items;
          leaves = f.leaves;
          is = f.is;
        }
  ]
    where
      alone : (f : ComesFrom (c ∷ []) b) (p : ℕ) → slice_get (c ∷ []) p ≡ Some f.block → f.block ≡ c
      alone f zero at = sym (some-same c f.block at)
      alone f (suc p) at = absurd (cc)

      same : (f : ComesFrom (c ∷ []) b) (p : ℕ) → slice_get (c ∷ []) p ≡ Some f.block → f.block.items ≡ f.first ∷ f.rest →
          c.items ≡ f.first ∷ f.rest
      same f p at is = ap (λ (c : Column). c.items) (sym (alone f p at)) ∙ is

      moved : (f : ComesFrom (c ∷ []) b) (p : ℕ) → slice_get (c ∷ []) p ≡ Some f.block →
          leaves_before day moment f.block.class f.first ≡ true → leaves_before day moment c.class f.first ≡ true
      moved f p at is = ap (λ (c : Column). leaves_before day moment c.class f.first) (sym (alone f p at)) ∙ is

      shown : (f : ComesFrom (c ∷ []) b) (p : ℕ) → slice_get (c ∷ []) p ≡ Some f.block → begun (head_of f.block.class f.first f.rest) ≡ b →
          begun (head_of c.class f.first f.rest) ≡ b
      shown f p at is = ap (λ (c : Column). begun (head_of c.class f.first f.rest)) (sym (alone f p at)) ∙ is

  comes-from : (blocks : List Column) (n g k : ℕ) (b : Begun) → slice_get (begun_of (heads_from day moment blocks n g)) k ≡ Some b →
      ComesFrom blocks b
  comes-from blocks zero g k b at = absurd (cc)
  comes-from blocks (suc n) g k b at = elim (there-either (heads_at day moment blocks g) (heads_from day moment blocks n (suc g)) b k at) [
    | inl here ↦ comes-at blocks g here.0 b here.1
    | inr later ↦ comes-from blocks n (suc g) later.0 b later.1
  ]

  -- the same heads at each trip: the same heads
  same-from : (xs ys : List Column) (n g : ℕ) → ((f : ℕ) → g ≤ f → f < g + n → heads_at day moment xs f ≡ heads_at day moment ys f) →
      heads_from day moment xs n g ≡ heads_from day moment ys n g
  same-from xs ys zero g each = refl
  same-from xs ys (suc n) g each =
      ap (λ (l : List Head). l ++ heads_from day moment xs n (suc g)) (each g (omega arith) (omega arith))
      ∙ ap (λ (l : List Head). heads_at day moment ys g ++ l)
      (same-from xs ys n (suc g) (λ f from to. each f (omega (arith, from)) (omega (arith, to))))

once-all : (day : DayFacts) (blocks : List Column) → AreOfDay day blocks → IsEachOnce day blocks → (i : ℕ) → times i (all_items blocks) ≤ 1
once-all day blocks are each i = elim (cases_lt i (length day.trips)) [
  | inl there ↦ let one = each i there in omega (arith, one)
  | inr past ↦ let none = days-below day blocks i are past in omega (arith, none)
]

-- the lists of a plan are of the day, and none is empty
caps-count : (pools : List Pool) → length (caps_of pools) ≡ length pools
caps-count [] = refl
caps-count (p ∷ ps) = omega (arith, caps-count ps)

plan-of-day : (day : DayFacts) (counts : Bool) (blocks : List Column) → AreColumns (blocks_of day counts) blocks → AreOfDay day blocks
plan-of-day day counts [] are = tt
plan-of-day day counts (c ∷ cs) are =
    let count = caps-count day.params.pools in
    let class = are.0.0 in
    let fits = blocks_listed (record { day = day; counts = counts }) c.class c.items c.worth are.0.1 in
    ((omega (arith, count, class), fits.2), plan-of-day day counts cs are.1)

plan-some : (day : DayFacts) (counts : Bool) (blocks : List Column) (j : ℕ) (c : Column) → AreColumns (blocks_of day counts) blocks →
    slice_get blocks j ≡ Some c → c.items ≢ []
plan-some day counts [] j c are at = absurd (cc)
plan-some day counts (d ∷ ds) zero c are at =
    let P : Column → Type 0 = λ c. c.items ≢ [] in
    subst P (some-same d c at) (blocks_listed (record { day = day; counts = counts }) d.class d.items d.worth are.0.1).0
plan-some day counts (d ∷ ds) (suc j) c are at = plan-some day counts ds j c are.1 at

below-at : (day : DayFacts) (blocks : List Column) (j : ℕ) (c : Column) → AreOfDay day blocks → slice_get blocks j ≡ Some c →
    AllBelow (length day.trips) c.items
below-at day [] j c are at = absurd (cc)
below-at day (d ∷ ds) zero c are at = let P : Column → Type 0 = λ c. AllBelow (length day.trips) c.items in
    subst P (some-same d c at) are.0.1
below-at day (d ∷ ds) (suc j) c are at = below-at day ds j c are.1 at

module _ (day : DayFacts) (moment : ℕ) (earlier blocks : List Column) (once : (i : ℕ) → times i (all_items earlier) ≤ 1)
    (alone : (i : ℕ) → times i (all_items blocks) ≤ 1) where
  -- Where the earlier plan has no head at a trip, a plan that keeps what has begun has none either. Suppose one of its blocks begins
  -- with this trip and leaves before the moment. Then it begins with no head of the earlier plan, as such a head would be at this
  -- very trip; so it must be one that may be begun now, which leaves at the moment or later. Both cannot be.
  none-same : KeepsBegun (begun_of (heads_of day moment earlier)) (may_begin day moment) blocks → (f : ℕ) →
      heads_at day moment earlier f ≡ [] → heads_at day moment blocks f ≡ []
  none-same keeps f none = elim (find-first day moment blocks f) [
    | inr is ↦ is
    | inl b ↦
        only-first day moment blocks f b.place b.block b.rest (alone f) b.there b.items
        ∙ elim (leaves_before day moment b.block.class f) as (λ x. leaves_before day moment b.block.class f ≡ x →
        head_at day moment f b.block.class (f ∷ b.rest) ≡ []) [
          | false ↦ λ later. head-later day moment f b.block.class b.rest later
          | true ↦ λ leaves.
              let goes : may_begin day moment b.block.class b.block.items ≡ true =
              keeps.others b.place b.block b.there (λ k h at begun. no-head k h at b.block b.rest begun b.items) in
              let shown : may_begin day moment b.block.class b.block.items ≡ false =
              ap (may_begin day moment b.block.class) b.items ∙ ap not leaves in
              absurd (let bad : true ≡ false = sym goes ∙ shown in cc)
        ] refl
  ]
    where
      no-head : (k : ℕ) (h : Begun) → slice_get (begun_of (heads_of day moment earlier)) k ≡ Some h → (c : Column) (rest : List ℕ) →
          BeginsWith h c → c.items ≡ f ∷ rest → ⊥
      no-head k h at c rest begins is =
          let from = comes-from day moment earlier (length day.trips) 0 k h at in
          let front : h.items ≡ from.first ∷ kept_after day moment from.first from.rest = ap (λ (b : Begun). b.items) (sym from.is) in
          let same : f ≡ from.first = ap (first_or f) (sym is ∙ begins.items ∙ ap (λ (l : List ℕ). l ++ begins.more) front) in
          let there = only-first day moment earlier from.first from.place from.block from.rest (once from.first) from.there from.items
          ∙ head-of day moment from.first from.block.class from.rest from.leaves in
          let bad : [] ≡ head_of day moment from.block.class from.first from.rest ∷ [] =
          sym none ∙ ap (heads_at day moment earlier) same ∙ there in
          let empty : List Head → Bool = λ l. elim l as (λ _. Bool) [ [] ↦ true | h ∷ hs ↦ false ] in
          let no : true ≡ false = ap empty bad in
          cc

  -- Where the earlier plan has a head at a trip, a plan that keeps what has begun has the same one: some block begins with the
  -- head's trips, it is the only one with this first trip, it is of the head's pool and so leaves as early, and its kept trips are
  -- the head's and no more (`kept-again`).
  one-same : KeepsBegun (begun_of (heads_of day moment earlier)) (may_begin day moment) blocks →
      (f class : ℕ) (rest : List ℕ) → f < length day.trips →
      leaves_before day moment class f ≡ true → heads_at day moment earlier f ≡ head_of day moment class f rest ∷ [] →
      heads_at day moment blocks f ≡ head_of day moment class f rest ∷ []
  one-same keeps f class rest within leaves is =
      let (k, at) = heads-there day moment earlier (length day.trips) 0 f (head_of day moment class f rest) (omega arith)
      (omega (arith, within)) is in
      let (j, c, there, begins) = keeps.kept k (begun (head_of day moment class f rest)) at in
      let kept : List ℕ = kept_after day moment f rest in
      let again : kept_after day moment f (kept ++ begins.more) ≡ kept = kept-again day moment f rest begins.more begins.finished in
      only-first day moment blocks f j c (kept ++ begins.more) (alone f) there begins.items
      ∙ ap (λ class. head_at day moment f class (f ∷ (kept ++ begins.more))) begins.class
      ∙ head-of day moment f class (kept ++ begins.more) leaves
      ∙ ap (λ (l : List ℕ). head_from day moment class f l ∷ []) again

  kept-same : KeepsBegun (begun_of (heads_of day moment earlier)) (may_begin day moment) blocks → (f : ℕ) → f < length day.trips →
      heads_at day moment blocks f ≡ heads_at day moment earlier f
  kept-same keeps f within = elim (find-first day moment earlier f) [
    | inr none ↦ none-same keeps f none ∙ sym none
    | inl b ↦
        let is = only-first day moment earlier f b.place b.block b.rest (once f) b.there b.items in
        elim (leaves_before day moment b.block.class f) as (λ x. leaves_before day moment b.block.class f ≡ x →
        heads_at day moment blocks f ≡ heads_at day moment earlier f) [
          | true ↦ λ leaves.
              let one = is ∙ head-of day moment f b.block.class b.rest leaves in
              one-same keeps f b.block.class b.rest within leaves one ∙ sym one
          | false ↦ λ later.
              let none = is ∙ head-later day moment f b.block.class b.rest later in
              none-same keeps f none ∙ sym none
        ] refl
  ]

  -- Each plan keeps what has begun of itself: a head of it is what the head's own block begins with (`begins`), and a block that
  -- begins with no head leaves at the moment or later, since otherwise it had a head.
  keeps-own : AreOfDay day blocks → ((j : ℕ) (c : Column) → slice_get blocks j ≡ Some c → c.items ≢ []) →
      KeepsBegun (begun_of (heads_of day moment blocks)) (may_begin day moment) blocks
  keeps-own are some = record {
    kept = λ k h at.
        let from = comes-from day moment blocks (length day.trips) 0 k h at in
        let P : Begun → Type 0 = λ h. BeginsWith h from.block in
        (from.place, from.block, from.there, subst P from.is (begins day moment from.block from.first from.rest from.items));
    others = λ j c at none. may j c at none c.items refl;
  }
    where
      may : (j : ℕ) (c : Column) → slice_get blocks j ≡ Some c →
          ((k : ℕ) (h : Begun) → slice_get (begun_of (heads_of day moment blocks)) k ≡ Some h → BeginsWith h c → ⊥) →
          (list : List ℕ) → c.items ≡ list → may_begin day moment c.class c.items ≡ true
      may j c at none [] e = absurd (some j c at e)
      may j c at none (t ∷ ts) e =
          ap (may_begin day moment c.class) e
          ∙ elim (leaves_before day moment c.class t) as (λ x. leaves_before day moment c.class t ≡ x →
          not (leaves_before day moment c.class t) ≡ true) [
            | false ↦ λ later. ap not later
            | true ↦ λ leaves.
                let Q : List ℕ → Type 0 = AllBelow (length day.trips) in
                let below : AllBelow (length day.trips) (t ∷ ts) = subst Q e (below-at day blocks j c are at) in
                let within = below.0 in
                let is = only-first day moment blocks t j c ts (alone t) at e ∙ head-of day moment t c.class ts leaves in
                let (k, there) = heads-there day moment blocks (length day.trips) 0 t (head_of day moment c.class t ts) (omega arith)
                (omega (arith, within)) is in
                absurd (none k (begun (head_of day moment c.class t ts)) there (begins day moment c t ts e))
          ] refl

-- The main theorem of the file and the contract of `kept_is_same_heads`: a plan keeps what has begun of an earlier one exactly where
-- both have the same heads. From left to right the heads are equal trip by trip (`kept-same`), hence as lists; from right to left
-- the plan keeps its own heads, which are the earlier plan's. So what a new plan must keep can be checked by computing its heads and
-- comparing two lists.
pub kept-is-same : KeptIsSameHeads
kept-is-same day counts moment earlier blocks are each plan =
    let of_day = plan-of-day day counts blocks plan.worths in
    let once = once-all day earlier are each in
    let alone = once-all day blocks of_day plan.once in (
      λ keeps. same-from day moment blocks earlier (length day.trips) 0
          (λ f from to. kept-same day moment earlier blocks once alone keeps f (omega (arith, to))),
      λ same.
          let P : List Head → Type 0 = λ heads. KeepsBegun (begun_of heads) (may_begin day moment) blocks in
          subst P same (keeps-own day moment earlier blocks once alone of_day (λ j c at. plan-some day counts blocks j c plan.worths at)),
    )
