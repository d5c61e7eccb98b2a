-- The pieces of a block, leg by leg.
use Rattle.std.proofs.Common.{◌≡◌, ℕ, ℤ, pos, ◌+◌, ◌<◌, ◌≤◌, ◌≤ℤ◌, Bool, true, false, cond, List, [], ◌∷◌, ◌++◌, length, drop, Option, Some, None, IfSome, refl, sym, ap, subst, ◌∙◌, arith, append_assoc, append-nil, get_or, add-one, drop-cons}
use Rattle.std.proofs.lemmas.Int.{ints}
use Rattle.std.proofs.lemmas.List.{drop_all}
use Rattle.plan_core.specs.declared.types.Leg.{Leg}
use Rattle.plan_core.specs.declared.types.Piece.{Piece}
use Rattle.plan_params.specs.declared.rows.pool.Pool.{Pool}
use Rattle.day_model.specs.Facts.{DayFacts}
use Rattle.day_model.specs.Pieces.{driving_seconds, duration, is_cut, is_stand, last_leg, onto_first, parts, piece_of, pieces_from}
use Rattle.block_cut.specs.Cuts.{AreAfter, IsAfter, IsShift, continued, cut_on, ended, grown, stands}
use Rattle.block_cut.specs.Legs.{AreTimed}

timed_order : (a b : ℤ) (ls : List Leg) → AreTimed a b ls → a ≤ℤ b
timed_order a b [] timed = timed
timed_order a b (l ∷ ls) timed = omega (arith, ints, timed.0, timed.1, timed_order l.end.0 b ls timed.2)

held_before : (held : Option Piece) (a b : ℤ) → a ≤ℤ b → IfSome held (λ p. IsShift p × (p.end.0 ≤ℤ a)) →
    IfSome held (λ p. IsShift p × (p.end.0 ≤ℤ b))
held_before None a b low before = tt
held_before (Some p) a b low before = (before.0, omega (arith, ints, low, before.1))

-- the first of legs
pub after_leg : (held : Option Piece) (l : Leg) (ls : List Leg) → AreAfter held (l ∷ ls) → IsAfter held l
after_leg held l ls after = record {
  starts = omega (arith, ints, after.starts, after.timed.0);
  order = after.timed.1;
  ends = timed_order l.end.0 (pos 345600) ls after.timed.2;
  before = held_before held after.from l.begin.0 after.timed.0 after.before;
}

-- the legs after the first
pub after_next : (held next : Option Piece) (l : Leg) (ls : List Leg) → AreAfter held (l ∷ ls) →
    IfSome next (λ p. IsShift p × (p.end.0 ≤ℤ l.end.0)) → AreAfter next ls
after_next held next l ls after before = record {
  from = l.end.0;
  starts = omega (arith, ints, after.starts, after.timed.0, after.timed.1);
  timed = after.timed.2;
  before = before;
}

drop_first : (legs : List Leg) (i : ℕ) (d : Leg) → i < length legs → drop i legs ≡ get_or legs i d ∷ drop (i + 1) legs
drop_first legs i d within = rw add-one (drop-cons legs i d within)

pub after_leg_at : (held : Option Piece) (legs : List Leg) (i : ℕ) (d : Leg) → i < length legs → AreAfter held (drop i legs) →
    IsAfter held (get_or legs i d)
after_leg_at held legs i d within after = let P : List Leg → Type 0 = λ ls. AreAfter held ls in
    after_leg held (get_or legs i d) (drop (i + 1) legs) (subst P (drop_first legs i d within) after)

pub after_next_at : (held next : Option Piece) (legs : List Leg) (i : ℕ) (d : Leg) → i < length legs → AreAfter held (drop i legs) →
    IfSome next (λ p. IsShift p × (p.end.0 ≤ℤ (get_or legs i d).end.0)) → AreAfter next (drop (i + 1) legs)
after_next_at held next legs i d within after before = let P : List Leg → Type 0 = λ ls. AreAfter held ls in
    after_next held next (get_or legs i d) (drop (i + 1) legs) (subst P (drop_first legs i d within) after) before

pub stands_more : (legs : List Leg) (i : ℕ) (d : Leg) (index next all : ℕ) → i < length legs → index + stands (drop i legs) ≤ all →
    next ≤ index + cond (is_stand (get_or legs i d).kind) 1 0 → next + stands (drop (i + 1) legs) ≤ all
stands_more legs i d index next all within so_far step =
    let e : stands (drop i legs) ≡ cond (is_stand (get_or legs i d).kind) 1 0 + stands (drop (i + 1) legs) =
    ap stands (drop_first legs i d within) in
    omega (arith, e, so_far, step)

pub cut_more : (day : DayFacts) (pool : Pool) (block index next : ℕ) (held after_it : Option Piece) (legs : List Leg) (i : ℕ) (d : Leg)
    (old new all : List Piece) → i < length legs →
    old ++ cut_on day pool block index held (drop i legs) ≡ all →
    new ++ cut_on day pool block next after_it (drop (i + 1) legs)
    ≡ old ++ cut_on day pool block index held (get_or legs i d ∷ drop (i + 1) legs) →
    new ++ cut_on day pool block next after_it (drop (i + 1) legs) ≡ all
cut_more day pool block index next held after_it legs i d old new all within so_far step =
    step ∙ ap (λ ls. old ++ cut_on day pool block index held ls) (sym (drop_first legs i d within)) ∙ so_far

-- a first part with legs before it
abbrev prefixed : List Leg → List (List Leg) → List (List Leg)
prefixed first [] = first ∷ []
prefixed first (part ∷ rest) = (first ++ part) ∷ rest

prefixed_first : (l k : Leg) (ls : List Leg) (rest : List (List Leg)) →
    prefixed (l ∷ ls) (onto_first k rest) ≡ prefixed (l ∷ (ls ++ k ∷ [])) rest
prefixed_first l k ls [] = refl
prefixed_first l k ls (part ∷ rest) = ap (λ xs. (l ∷ xs) ∷ rest) (sym (append_assoc ls (k ∷ []) part))

onto_prefixed : (k : Leg) (rest : List (List Leg)) → onto_first k rest ≡ prefixed (k ∷ []) rest
onto_prefixed k [] = refl
onto_prefixed k (part ∷ rest) = refl

last_more : (l k : Leg) (ls : List Leg) → last_leg l (ls ++ k ∷ []) ≡ k
last_more l k [] = refl
last_more l k (m ∷ ls) = last_more m k ls

driving_more : (k : Leg) (ls : List Leg) → driving_seconds (ls ++ k ∷ []) ≡ driving_seconds ls + cond (is_stand k.kind) 0 (duration k)
driving_more k [] = omega arith
driving_more k (l ∷ ls) = omega (arith, driving_more k ls)

piece_more : (block index : ℕ) (l k : Leg) (ls : List Leg) → piece_of block index l (ls ++ k ∷ []) ≡ continued (piece_of block index l ls) k
piece_more block index l k ls =
    let d = driving_more k (l ∷ ls) in
    let e = last_more l k ls in
    λ i. record { block = block; index = index; from = l.from; begin = l.begin; to = (e i).to; end = (e i).end; driving = d i }

-- Cutting leg by leg gives the pieces of the parts. The rules first divide all legs into parts, at the stands that are cuts, and
-- then make a piece of each part; the code carries along the piece that is begun. The statement has two halves, since both states
-- occur on the way: with no piece begun, and with one begun of some legs, which then belong in front of the first part.
pub record Cuts (day : DayFacts) (pool : Pool) (block : ℕ) (rest : List Leg) : Type 0 where
  pub none : (index : ℕ) → pieces_from block index (parts day pool rest) ≡ cut_on day pool block index None rest
  pub held : (index : ℕ) (l : Leg) (ls : List Leg) →
      pieces_from block index (prefixed (l ∷ ls) (parts day pool rest))
      ≡ cut_on day pool block index (Some (piece_of block index l ls)) rest

held_by : (day : DayFacts) (pool : Pool) (block index : ℕ) (l k : Leg) (ls ks : List Leg) (b : Bool) → Cuts day pool block ks →
    pieces_from block index (prefixed (l ∷ ls) (cond b ([] ∷ parts day pool ks) (onto_first k (parts day pool ks)))) ≡
    cond b (piece_of block index l ls ∷ cut_on day pool block (index + 1) None ks)
    (cut_on day pool block index (Some (continued (piece_of block index l ls) k)) ks)
held_by day pool block index l k ls ks true cuts =
    ap (λ xs. piece_of block index l xs ∷ pieces_from block (index + 1) (parts day pool ks)) (append-nil ls)
    ∙ ap (λ ps. piece_of block index l ls ∷ ps) (cuts.none (index + 1))
held_by day pool block index l k ls ks false cuts =
    ap (λ xs. pieces_from block index xs) (prefixed_first l k ls (parts day pool ks)) ∙ cuts.held index l (ls ++ k ∷ [])
    ∙ ap (λ (p : Piece). cut_on day pool block index (Some p) ks) (piece_more block index l k ls)

one_leg : (n : ℕ) → n + 0 ≡ n
one_leg n = omega arith

none_by : (day : DayFacts) (pool : Pool) (block index : ℕ) (k : Leg) (ks : List Leg) (b : Bool) → Cuts day pool block ks →
    pieces_from block index (cond b ([] ∷ parts day pool ks) (onto_first k (parts day pool ks))) ≡
    cond b (cut_on day pool block index None ks) (cut_on day pool block index (Some (grown block index None k)) ks)
none_by day pool block index k ks true cuts = cuts.none index
none_by day pool block index k ks false cuts =
    ap (λ xs. pieces_from block index xs) (onto_prefixed k (parts day pool ks)) ∙ cuts.held index k [] ∙
    ap (λ n. cut_on day pool block index
    (Some (record { block = block; index = index; from = k.from; begin = k.begin; to = k.to; end = k.end; driving = n })) ks)
    (one_leg (cond (is_stand k.kind) 0 (duration k)))

-- The induction over the legs: at a cut the begun piece ends and the state is the one without a piece; at any other leg the piece
-- grows by the leg, which is the same as one more leg in front of the first part (`held_by`, `none_by`). Both halves are needed for
-- each other, so they are proved together.
cuts : (day : DayFacts) (pool : Pool) (block : ℕ) (rest : List Leg) → Cuts day pool block rest
cuts day pool block [] = record { none = λ index. refl; held = λ index l ls. ap (λ xs. piece_of block index l xs ∷ []) (append-nil ls) }
cuts day pool block (k ∷ ks) =
    let later = cuts day pool block ks in
    record {
      none = λ index. none_by day pool block index k ks (is_cut day pool k) later;
      held = λ index l ls. held_by day pool block index l k ls ks (is_cut day pool k) later;
    }

-- The whole of a block: with no piece begun at the first leg, cutting leg by leg gives the pieces that the rules make of the block's
-- legs, numbered from 1. The loop's invariant is that the pieces so far, with those that the legs left would give, are all of them
-- (`cut_more`, `cut_done`); so at its end the contract of `add_pieces` stands there.
pub cut_whole : (day : DayFacts) (pool : Pool) (block : ℕ) (legs : List Leg) →
    cut_on day pool block 1 None legs ≡ pieces_from block 1 (parts day pool legs)
cut_whole day pool block legs = sym ((cuts day pool block legs).none 1)

-- once all legs are passed
pub cut_done : (day : DayFacts) (pool : Pool) (block index : ℕ) (held : Option Piece) (legs : List Leg) (i : ℕ) (old all : List Piece) →
    length legs ≤ i → old ++ cut_on day pool block index held (drop i legs) ≡ all → old ++ ended held ≡ all
cut_done day pool block index held legs i old all past so_far =
    ap (λ ls. old ++ cut_on day pool block index held ls) (sym (drop_all i legs past)) ∙ so_far
