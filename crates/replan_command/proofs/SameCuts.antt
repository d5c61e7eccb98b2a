-- Blocks that begin alike are cut alike. Where the same has begun of two plans of a day's blocks, each piece of the one that begins
-- before the moment is the piece of the same index of the block of the other with the same first trip: it leaves its depot before the
-- moment, so it has a head; the head is of a block of the other plan too; and the legs up to the last trip of a head hold each leg that
-- begins before the moment, or the head is the whole block.
use Rattle.std.proofs.Common.{◌≡◌, ℕ, ◌+◌, ◌<◌, ◌≤◌, pos, ◌<ℤ◌, int_lt, Bool, true, false, suc, List, [], ◌∷◌, ◌++◌, length, All, Option, Some, None, refl, sym, ap, subst, ◌∙◌, arith, append-nil, slice_get}
use Rattle.std.specs.Prelude.{option_and_then}
use Rattle.std.specs.Option.{option_map}
use Rattle.std.proofs.lemmas.Int.{ints}
use Rattle.std.proofs.lemmas.Option.{get_or_from_slice_get, slice_get_within}
use Rattle.plan_core.specs.declared.types.Leg.{Leg}
use Rattle.plan_core.specs.declared.types.Piece.{Piece}
use Rattle.cover_core.specs.declared.Column.{Column}
use Rattle.cover_core.specs.Plans.{IsPlan, all_items, times}
use Rattle.plan_params.specs.declared.rows.pool.Pool.{Pool}
use Rattle.day_model.specs.Facts.{DayFacts}
use Rattle.day_model.specs.Pieces.{legs_of}
use Rattle.day_model.specs.Ranges.{IsDaily}
use Rattle.depot_network.specs.Network.{blocks_of}
use Rattle.block_cut.specs.Cuts.{moment as begin_moment, pieces_by_block, pieces_of_plan}
use Rattle.block_cut.specs.Legs.{HasWorth}
use Rattle.cover_rest.specs.Keeping.{KeepsBegun}
use Rattle.block_rest.specs.declared.head.Head.{Head}
use Rattle.block_rest.specs.Heads.{AreOfDay, ends_before, heads_of, kept_after, last_trip, leaves_before}
use Rattle.block_rest.specs.Laws.{IsEachOnce}
use Rattle.block_rest.specs.Rest.{begun_of, may_begin}
use Rattle.block_rest.proofs.Same.{kept-is-same}
use Rattle.duty_rest.specs.Heads.{block_with, first_of, first_trip, part_of, part_with}
use Rattle.replan_command.proofs.Members.{Stands, ordered-in, ordered-out}
use Rattle.replan_command.proofs.Cutting.{Share, none-before, of-block, same-index}
use Rattle.replan_command.proofs.Fronts.{block-fronted, leaves-later, opens}
use Rattle.replan_command.proofs.Begins.{ComesFrom, block-found, comes-from, front, head-of, head-there}
use Rattle.replan_command.proofs.PlanPieces.{HasLegs, IsOfBlock, has-legs, in-all, legs-in, of-one, worth-legs}

-- What stands for a piece of new blocks in an earlier plan: a block with the same first trip, which has a piece of the same index.
abbrev pub HasSameCut : DayFacts → List Column → List Column → Piece → Type 0
HasSameCut day earlier blocks p =
    (x : ℕ × ℕ) × (part_of blocks earlier p ≡ Some x)
    × ((n : ℕ) × (q : Piece) × (slice_get (pieces_of_plan day earlier) n ≡ Some q) × (q.block ≡ x.0) × (q.index ≡ x.1))

-- the last of some trips
abbrev last-in : ℕ → List ℕ → ℕ
last-in x [] = x
last-in x (t ∷ ts) = last_trip t ts

-- the block of a plan in which a piece's block has its head
part-is : (blocks earlier : List Column) (p : Piece) (place : ℕ) (c : Column) (first number : ℕ) (others : List ℕ) → p.block ≡ suc place →
    slice_get blocks place ≡ Some c → c.items ≡ first ∷ others →
    block_with earlier 1 first ≡ Some number → part_of blocks earlier p ≡ Some (number, p.index)
part-is blocks earlier p place c first number others of at items found =
    ap (λ (n : ℕ). option_and_then (part_with earlier p.index) (first_of blocks n)) of
    ∙ ap (λ (o : Option Column). option_and_then (part_with earlier p.index) (option_and_then first_trip o)) at
    ∙ ap (λ (list : List ℕ). option_and_then (part_with earlier p.index) (slice_get list 0)) items
    ∙ ap (λ (o : Option ℕ). option_map (λ (number : ℕ). (number, p.index)) o) found

module _ (day : DayFacts) (moment : ℕ) (daily : All IsDaily day.trips) where
  -- Blocks of one pool that begin with the same kept trips share their legs up to the moment. Either the last kept trip is over at the
  -- moment; then the head is the whole block in both plans and the legs are equal. Or it is not; then both lists begin with the legs
  -- up to it, and what follows in each begins at the moment or later (`block-fronted`).
  shares : (pool : Pool) (first : ℕ) (kept more further : List ℕ) (one other : List Leg) →
      legs_of day pool (first ∷ (kept ++ more)) ≡ Some one → legs_of day pool (first ∷ (kept ++ further)) ≡ Some other →
      (ends_before day moment (last_trip first kept) ≡ true → more ≡ []) →
      (ends_before day moment (last_trip first kept) ≡ true → further ≡ []) → Share (pos moment) one other
  shares pool first kept more further one other made made' ends ends' = by (ends_before day moment (last_trip first kept)) refl
    where
      by : (b : Bool) → ends_before day moment (last_trip first kept) ≡ b → Share (pos moment) one other
      by true e =
          let whole : Some one ≡ Some other =
          sym made ∙ ap (λ (l : List ℕ). legs_of day pool (first ∷ (kept ++ l))) (ends e ∙ sym (ends' e)) ∙ made' in
          let same : one ≡ other = cc in
          record { front = one; back = []; more = []; is = sym (append-nil one); other_is = sym same ∙ sym (append-nil one); later = tt }
      by false e =
          let f = block-fronted day pool moment first kept more one daily made in
          let g = block-fronted day pool moment first kept further other daily made' in
          let up : Some f.front ≡ Some g.front = sym f.there ∙ g.there in
          let same : g.front ≡ f.front = cc in
          record {
            front = f.front;
            back = f.back;
            more = g.back;
            is = f.is;
            other_is =
                g.is ∙ ap (λ (ls : List Leg). ls ++ g.back) same;
            later = f.later e;
          }

  module _ (earlier blocks : List Column) (same : heads_of day moment blocks ≡ heads_of day moment earlier)
      (once : (trip : ℕ) → trip < length day.trips → times trip (all_items earlier) ≤ 1)
      (worths : All (HasWorth day) earlier) where
    -- With the block of the earlier plan that has the head of the piece's block. The head of the piece's block is also that of a block
    -- of the earlier plan (`comes-from`). Both blocks have its pool and begin with its trips, so they share their legs up to the
    -- moment, and the piece has one of its index there (`same-index`). The earlier block is found by its first trip, as that stands
    -- once in the earlier plan (`block-found`).
    with-head : (p : Piece) (b : IsOfBlock day 1 blocks p) (l : HasLegs day (1 + b.place) b.block p) (first : ℕ) (others : List ℕ) →
        b.block.items ≡ first ∷ others → p.begin.0 <ℤ pos moment → first < length day.trips →
        ComesFrom day moment earlier (head-of day moment b.block.class first others) → HasSameCut day earlier blocks p
    with-head p b l first others items early within f =
        let class : f.block.class ≡ b.block.class = ap (λ (h : Head). h.class) f.is in
        let trips : f.first ∷ kept_after day moment f.first f.rest ≡ first ∷ kept_after day moment first others =
        ap (λ (h : Head). h.trips) f.is in
        let head : f.first ≡ first = cc in
        let kept : kept_after day moment f.first f.rest ≡ kept_after day moment first others = cc in
        let last : last_trip f.first (kept_after day moment f.first f.rest) ≡ last_trip first (kept_after day moment first others) =
        ap (last-in 0) trips in
        let own = front day moment first others in
        let old = front day moment f.first f.rest in
        let list : first ∷ others ≡ first ∷ (kept_after day moment first others ++ own.more) = ap (λ (ts : List ℕ). first ∷ ts) own.is in
        let old_list : f.block.items ≡ first ∷ (kept_after day moment first others ++ old.more) =
        f.items ∙ ap (λ (ts : List ℕ). f.first ∷ ts) old.is ∙ ap (λ (ts : List ℕ). ts ++ old.more) trips in
        let there : slice_get day.params.pools f.block.class ≡ Some l.pool = ap (slice_get day.params.pools) class ∙ l.there in
        let worth : HasWorth day f.block =
        (let P : Column → Type 0 = HasWorth day in
        subst P (get_or_from_slice_get earlier f.place f.block f.block f.there)
        (worths f.place f.block (slice_get_within earlier f.place f.block f.there))) in
        let legs = worth-legs day f.block.class f.block.items l.pool worth there in
        let made : legs_of day l.pool (first ∷ (kept_after day moment first others ++ own.more)) ≡ Some l.legs =
        ap (legs_of day l.pool) (sym list) ∙ ap (legs_of day l.pool) (sym items) ∙ l.made in
        let old_made : legs_of day l.pool (first ∷ (kept_after day moment first others ++ old.more)) ≡ Some legs.0 =
        ap (legs_of day l.pool) (sym old_list) ∙ legs.1 in
        let share = shares l.pool first (kept_after day moment first others) own.more old.more l.legs legs.0 made old_made own.ends
        (λ e. old.ends (ap (ends_before day moment) last ∙ e)) in
        let (q, s, of, index) = same-index day l.pool (pos moment) (1 + b.place) (1 + f.place) l.legs legs.0 p share l.stands early in
        let by_block = in-all day 1 earlier f.place f.block q f.there (legs-in day (1 + f.place) f.block l.pool legs.0 q there legs.1 s) in
        let (n, at) = ordered-in begin_moment (pieces_by_block day 1 earlier) q by_block in
        let P : ℕ → Type 0 = λ first. block_with earlier 1 first ≡ Some (1 + f.place) in
        let few = once first within in
        let Q : ℕ → Type 0 = λ first. times first (all_items earlier) ≤ 1 in
        let found : block_with earlier 1 first ≡ Some (1 + f.place) =
        subst P head (block-found earlier 1 f.place f.block f.first f.rest (subst Q (sym head) few) f.there f.items) in
        let own_block = of-block day l.pool (1 + b.place) l.legs p l.stands in
        let part = part-is blocks earlier p b.place b.block first (1 + f.place) others (omega (arith, own_block)) b.there items found in
        ((1 + f.place, p.index), part, (n, q, at, of, index))

    with-first : (p : Piece) (b : IsOfBlock day 1 blocks p) (l : HasLegs day (1 + b.place) b.block p) (first : ℕ) (others : List ℕ) →
        b.block.items ≡ first ∷ others → p.begin.0 <ℤ pos moment → HasSameCut day earlier blocks p
    with-first p b l first others items early = by (leaves_before day moment b.block.class first) refl
      where
        made : legs_of day l.pool (first ∷ others) ≡ Some l.legs
        made = ap (legs_of day l.pool) (sym items) ∙ l.made

        within : first < length day.trips
        within = let o = opens day l.pool first others l.legs made in slice_get_within day.trips first o.trip o.at

        by : (leaves : Bool) → leaves_before day moment b.block.class first ≡ leaves → HasSameCut day earlier blocks p
        by true leaves =
            let head : Head = head-of day moment b.block.class first others in
            let there : Stands (heads_of day moment blocks) head =
            head-there day moment blocks (length day.trips) b.place b.block first others within b.there items leaves in
            let P : List Head → Type 0 = λ heads. Stands heads head in
            with-head p b l first others items early within (comes-from day moment earlier (length day.trips) 0 head (subst P same there))
        by false leaves =
            let later = leaves-later day l.pool moment b.block.class first others l.legs daily l.there made leaves in
            let low = none-before day l.pool (pos moment) (1 + b.place) 1 None l.legs p tt later l.stands in
            absurd (omega (arith, ints, low, early))

    found-one : (p : Piece) (b : IsOfBlock day 1 blocks p) (l : HasLegs day (1 + b.place) b.block p) (list : List ℕ) →
        b.block.items ≡ list → p.begin.0 <ℤ pos moment → HasSameCut day earlier blocks p
    found-one p b l [] items early =
        absurd (let none : legs_of day l.pool [] ≡ Some l.legs = ap (legs_of day l.pool) (sym items) ∙ l.made in cc)
    found-one p b l (first ∷ others) items early = with-first p b l first others items early

    -- where the same has begun of both plans each piece that begins before the moment is one of the earlier plan
    pub same-heads-cut : (k : ℕ) (p : Piece) → slice_get (pieces_of_plan day blocks) k ≡ Some p → int_lt p.begin.0 (pos moment) ≡ true →
        HasSameCut day earlier blocks p
    same-heads-cut k p at before =
        let early : p.begin.0 <ℤ pos moment = grind (arith, ints) in
        let b = of-one day 1 blocks p (ordered-out begin_moment (pieces_by_block day 1 blocks) p (k, at)) in
        found-one p b (has-legs day (1 + b.place) b.block p b.stands) b.block.items refl early

-- In a plan that keeps what has begun of an earlier one each piece that begins before the moment is one of the earlier plan. A plan
-- that keeps what has begun has the same heads as the earlier plan (`kept-is-same`); this turns what is promised of blocks into a
-- promise about pieces. It is what `HaveDuties` needs: duties of the earlier plan name pieces by block and index, and these names go
-- over.
pub same_cut : (day : DayFacts) (earlier blocks : List Column) (moment : ℕ) → All IsDaily day.trips → AreOfDay day earlier →
    IsEachOnce day earlier → All (HasWorth day) earlier →
    IsPlan (blocks_of day false) blocks → KeepsBegun (begun_of (heads_of day moment earlier)) (may_begin day moment) blocks →
    (k : ℕ) (p : Piece) → slice_get (pieces_of_plan day blocks) k ≡ Some p → int_lt p.begin.0 (pos moment) ≡ true →
    HasSameCut day earlier blocks p
same_cut day earlier blocks moment daily are each worths plan keeps k p at before =
    let same = (kept-is-same day false moment earlier blocks are each plan).0 keeps in
    let once : (trip : ℕ) → trip < length day.trips → times trip (all_items earlier) ≤ 1 =
    λ trip within. let one = each trip within in omega (arith, one) in
    same-heads-cut day moment daily earlier blocks same once worths k p at before
