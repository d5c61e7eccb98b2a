-- The pieces of a plan, block by block, and the legs that they are cut from.
use Rattle.std.proofs.Common.{◌≡◌, ℕ, ◌+◌, true, false, zero, suc, List, [], ◌∷◌, Option, Some, None, refl, sym, ap, subst, ◌∙◌, arith, inl, inr, slice_get, is_some}
use Rattle.std.specs.List.{list_all}
use Rattle.std.specs.Option.{option_map_or}
use Rattle.std.specs.Prelude.{option_and_then, unwrap_or}
use Rattle.std.proofs.lemmas.Option.{same_Some}
use Rattle.plan_core.specs.declared.types.Leg.{Leg}
use Rattle.plan_core.specs.declared.types.Piece.{Piece}
use Rattle.plan_core.proofs.Options.{given_some}
use Rattle.cover_core.specs.declared.Column.{Column}
use Rattle.trip_times.specs.declared.trip.Trip.{Trip}
use Rattle.plan_params.specs.declared.rows.pool.Pool.{Pool}
use Rattle.day_model.specs.Blocks.{block_cost, block_worth, rises, trips_at}
use Rattle.day_model.specs.Facts.{DayFacts}
use Rattle.day_model.specs.Links.{given}
use Rattle.day_model.specs.Pieces.{can_be_driven, legs_of, may_be_driven, parts, pieces_from, pieces_of}
use Rattle.block_cut.specs.Cuts.{block_pieces, cut_on, pieces_by_block}
use Rattle.block_cut.proofs.Pieces.{cut_whole}
use Rattle.block_cut.proofs.Times.{and_then_some, some_same}
use Rattle.replan_command.proofs.Members.{Stands, stands-either, stands-left, stands-none, stands-right}

module _ (day : DayFacts) where
  -- the block that a piece is of
  pub record IsOfBlock (number : ℕ) (blocks : List Column) (p : Piece) : Type 0 where
    pub place : ℕ
    pub block : Column
    pub there : slice_get blocks place ≡ Some block
    pub stands : Stands (block_pieces day (number + place) block) p

  -- The pieces of a plan stand block by block, and blocks are numbered on from `number`; so a piece is of the block at some place, and
  -- the number of that block is the place's. The other way round is `in-all`.
  pub of-one : (number : ℕ) (blocks : List Column) (p : Piece) → Stands (pieces_by_block day number blocks) p → IsOfBlock number blocks p
  of-one number [] p s = absurd (stands-none p s)
  of-one number (c ∷ cs) p s = elim (stands-either (block_pieces day number c) (pieces_by_block day (number + 1) cs) p s.0 s.1) [
    | inl here ↦
        let P : ℕ → Type 0 = λ n. Stands (block_pieces day n c) p in
        let n : number ≡ number + 0 = omega arith in
        record { place = 0; block = c; there = refl; stands = subst P n here }
    | inr later ↦
        let f = of-one (number + 1) cs p later in
        let P : ℕ → Type 0 = λ n. Stands (block_pieces day n f.block) p in
        let n : number + 1 + f.place ≡ number + suc f.place = omega arith in
        record { place = suc f.place; block = f.block; there = f.there; stands = subst P n f.stands }
  ]

  pub in-all : (number : ℕ) (blocks : List Column) (place : ℕ) (c : Column) (p : Piece) → slice_get blocks place ≡ Some c →
      Stands (block_pieces day (number + place) c) p → Stands (pieces_by_block day number blocks) p
  in-all number [] place c p at s = absurd (cc)
  in-all number (d ∷ ds) zero c p at s =
      let P : Column → Type 0 = λ c. Stands (block_pieces day (number + 0) c) p in
      let Q : ℕ → Type 0 = λ n. Stands (block_pieces day n d) p in
      let n : number + 0 ≡ number = omega arith in
      let here : Stands (block_pieces day number d) p = subst Q n (subst P (sym (same_Some d c at)) s) in
      stands-left (block_pieces day number d) (pieces_by_block day (number + 1) ds) p here.0 here.1
  in-all number (d ∷ ds) (suc place) c p at s =
      let P : ℕ → Type 0 = λ n. Stands (block_pieces day n c) p in
      let n : number + suc place ≡ number + 1 + place = omega arith in
      stands-right (block_pieces day number d) (pieces_by_block day (number + 1) ds) p (in-all (number + 1) ds place c p at (subst P n s))

  -- the legs that the pieces of a block are cut from
  pub record HasLegs (number : ℕ) (column : Column) (p : Piece) : Type 0 where
    pub pool : Pool
    pub there : slice_get day.params.pools column.class ≡ Some pool
    pub legs : List Leg
    pub made : legs_of day pool column.items ≡ Some legs
    pub stands : Stands (cut_on day pool number 1 None legs) p

  -- the pieces by the legs, and by the pool
  abbrev by-legs : Pool → ℕ → Option (List Leg) → List Piece
  by-legs pool number o = unwrap_or (option_and_then (λ (legs : List Leg). Some (pieces_from number 1 (parts day pool legs))) o) []

  abbrev by-pool : ℕ → List ℕ → Option Pool → List Piece
  by-pool number list o = unwrap_or (option_and_then (λ (pool : Pool). pieces_of day pool number list) o) []

  -- The definition parts a block's legs at the cuts and makes a piece of each part; the cutting rule goes leg by leg with a piece in
  -- hand. Both give the same (`cut_whole`), so a piece of a plan can be followed along its legs. `legs-in` is the way back.
  pub has-legs : (number : ℕ) (column : Column) (p : Piece) → Stands (block_pieces day number column) p → HasLegs number column p
  has-legs number column p s = of-pool (slice_get day.params.pools column.class) refl s
    where
      of-legs : (pool : Pool) → slice_get day.params.pools column.class ≡ Some pool → (o : Option (List Leg)) →
          legs_of day pool column.items ≡ o → Stands (by-legs pool number o) p → HasLegs number column p
      of-legs pool there None e s = absurd (stands-none p s)
      of-legs pool there (Some legs) e s =
          let P : List Piece → Type 0 = λ ps. Stands ps p in
          record { pool = pool; there = there; legs = legs; made = e; stands = subst P (sym (cut_whole day pool number legs)) s }

      of-pool : (o : Option Pool) → slice_get day.params.pools column.class ≡ o → Stands (by-pool number column.items o) p →
          HasLegs number column p
      of-pool None e s = absurd (stands-none p s)
      of-pool (Some pool) e s = of-legs pool e (legs_of day pool column.items) refl s

  pub legs-in : (number : ℕ) (column : Column) (pool : Pool) (legs : List Leg) (p : Piece) →
      slice_get day.params.pools column.class ≡ Some pool → legs_of day pool column.items ≡ Some legs →
      Stands (cut_on day pool number 1 None legs) p → Stands (block_pieces day number column) p
  legs-in number column pool legs p there made s =
      let is : block_pieces day number column ≡ cut_on day pool number 1 None legs =
      ap (by-pool number column.items) there ∙ ap (by-legs pool number) made ∙ sym (cut_whole day pool number legs) in
      let P : List Piece → Type 0 = λ ps. Stands ps p in
      subst P (sym is) s

  -- a block with a worth has legs

  some-from : {A : Type 0} (o : Option A) → is_some o ≡ true → (x : A) × (o ≡ Some x)
  some-from None e = absurd (cc)
  some-from (Some x) e = (x, refl)

  driven-legs : (pool : Pool) (list : List ℕ) → can_be_driven day pool list ≡ true → (legs : List Leg) × (legs_of day pool list ≡ Some legs)
  driven-legs pool list driven = of (legs_of day pool list) refl
    where
      of : (o : Option (List Leg)) → legs_of day pool list ≡ o → (legs : List Leg) × (legs_of day pool list ≡ Some legs)
      of None e =
          let no : can_be_driven day pool list ≡ false =
          ap (λ (o : Option (List Leg)). option_map_or (λ (pieces : List Piece). list_all may_be_driven pieces)
          (option_and_then (λ (legs : List Leg). Some (pieces_from 1 1 (parts day pool legs))) o) false) e in
          absurd (let bad : true ≡ false = sym driven ∙ no in cc)
      of (Some legs) e = (legs, e)

  -- the cost of a list where it can be driven
  abbrev cost-if : Pool → List ℕ → Option ℕ
  cost-if pool list = given (can_be_driven day pool list)
      (option_and_then (λ (ts : List Trip). option_and_then (λ (c : ℕ). Some c) (block_cost day pool ts)) (trips_at day.trips list))

  -- A block has a worth only where it can be driven, which is tested on its pieces; so its legs are there.
  pub worth-legs : (class : ℕ) (list : List ℕ) (pool : Pool) → is_some (block_worth day false class list) ≡ true →
      slice_get day.params.pools class ≡ Some pool → (legs : List Leg) × (legs_of day pool list ≡ Some legs)
  worth-legs class list pool some there =
      let worth = some-from (block_worth day false class list) some in
      let risen = given_some (rises list) (option_and_then (λ (pool : Pool). cost-if pool list) (slice_get day.params.pools class))
      worth.0 worth.1 in
      let own = and_then_some (λ (pool : Pool). cost-if pool list) (slice_get day.params.pools class) worth.0 risen.1 in
      let driven = given_some (can_be_driven day own.0 list)
      (option_and_then (λ (ts : List Trip). option_and_then (λ (c : ℕ). Some c) (block_cost day own.0 ts)) (trips_at day.trips list))
      worth.0 own.2 in
      let same : own.0 ≡ pool = some_same own.0 pool (sym own.1 ∙ there) in
      let P : Pool → Type 0 = λ pool. can_be_driven day pool list ≡ true in
      driven-legs pool list (subst P same driven.0)
