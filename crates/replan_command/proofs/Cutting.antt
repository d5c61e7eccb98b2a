-- Lists of legs that begin alike are cut alike. A piece that begins before a moment has its index by the legs up to that moment alone,
-- whatever legs follow. So where two lists share these legs each such piece of the one is a piece of the other by its index.
use Rattle.std.proofs.Common.{◌≡◌, ◌⊎◌, ℕ, ◌+◌, ◌-◌, ◌<◌, ◌≤◌, ℤ, ◌<ℤ◌, ◌≤ℤ◌, Bool, true, false, cond, zero, suc, List, [], ◌∷◌, ◌++◌, Option, Some, None, IfSome, refl, sym, ap, subst, ◌∙◌, arith, inl, inr, is_some}
use Rattle.std.proofs.lemmas.Int.{ints}
use Rattle.plan_core.specs.declared.types.Leg.{Leg}
use Rattle.plan_core.specs.declared.types.Piece.{Piece}
use Rattle.plan_params.specs.declared.rows.pool.Pool.{Pool}
use Rattle.day_model.specs.Facts.{DayFacts}
use Rattle.day_model.specs.Pieces.{is_cut, is_shown, shown}
use Rattle.block_cut.specs.Cuts.{continued, cut_on, ended, grown, next_index}
use Rattle.replan_command.proofs.Members.{Stands, stands-alone, stands-either, stands-later, stands-none}

-- each leg begins at a moment or later
abbrev pub AreFrom : ℤ → List Leg → Type 0
AreFrom z [] = Unit {0}
AreFrom z (l ∷ ls) = (z ≤ℤ l.begin.0) × AreFrom z ls

pub from-lower : (a b : ℤ) (ls : List Leg) → a ≤ℤ b → AreFrom b ls → AreFrom a ls
from-lower a b [] low from = tt
from-lower a b (l ∷ ls) low from = (omega (arith, ints, low, from.0), from-lower a b ls low from.1)

pub from-append : (z : ℤ) (xs ys : List Leg) → AreFrom z xs → AreFrom z ys → AreFrom z (xs ++ ys)
from-append z [] ys first second = second
from-append z (l ∷ xs) ys first second = (first.0, from-append z xs ys first.1 second)

pub from-shown : (z : ℤ) (ls : List Leg) → AreFrom z ls → AreFrom z (shown ls)
from-shown z [] from = tt
from-shown z (l ∷ ls) from =
    let rest = from-shown z ls from.1 in
    elim (is_shown l) as (λ b. AreFrom z (cond b (l ∷ shown ls) (shown ls))) [ true ↦ (from.0, rest) | false ↦ rest ]

-- a piece that is begun is of a block and has an index
abbrev IsHeld : ℕ → ℕ → Option Piece → Type 0
IsHeld block index held = IfSome held (λ p. (p.block ≡ block) × (p.index ≡ index))

grown-held : (block index : ℕ) (held : Option Piece) (l : Leg) → IsHeld block index held →
    IsHeld block index (Some (grown block index held l))
grown-held block index None l is = (refl, refl)
grown-held block index (Some p) l is = (is.0, is.1)

-- a piece that is begun begins at a moment or later
abbrev HeldFrom : ℤ → Option Piece → Type 0
HeldFrom z held = IfSome held (λ p. z ≤ℤ p.begin.0)

grown-from : (z : ℤ) (block index : ℕ) (held : Option Piece) (l : Leg) → z ≤ℤ l.begin.0 → HeldFrom z held →
    HeldFrom z (Some (grown block index held l))
grown-from z block index None l low from = low
grown-from z block index (Some p) l low from = from

ended-held : (block index : ℕ) (held : Option Piece) (p : Piece) → IsHeld block index held → Stands (ended held) p →
    (p.block ≡ block) × (p.index ≡ index)
ended-held block index None p is s = absurd (stands-none p s)
ended-held block index (Some h) p is s =
    let P : Piece → Type 0 = λ p. (p.block ≡ block) × (p.index ≡ index) in
    subst P (stands-alone h p s) is

ended-from : (z : ℤ) (held : Option Piece) (p : Piece) → HeldFrom z held → Stands (ended held) p → z ≤ℤ p.begin.0
ended-from z None p from s = absurd (stands-none p s)
ended-from z (Some h) p from s = let P : Piece → Type 0 = λ p. z ≤ℤ p.begin.0 in subst P (stands-alone h p s) from

index-past : (index : ℕ) (held : Option Piece) → index ≤ next_index index held
index-past index None = omega arith
index-past index (Some p) = omega arith

next-index : (index : ℕ) (held : Option Piece) → next_index index held ≡ index + cond (is_some held) 1 0
next-index index None = omega arith
next-index index (Some p) = refl

-- a piece of a block and of an index
abbrev pub HasPiece : ℕ → ℕ → List Piece → Type 0
HasPiece block index ps = (q : Piece) × Stands ps q × (q.block ≡ block) × (q.index ≡ index)

module _ (day : DayFacts) (pool : Pool) where
  -- how many pieces legs are cut into, where one may be begun already
  abbrev count : Bool → List Leg → ℕ
  count held [] = cond held 1 0
  count held (l ∷ ls) = cond (is_cut day pool l) (cond held 1 0 + count false ls) (count true ls)

  some-piece : (ls : List Leg) → 1 ≤ count true ls
  some-piece [] = omega arith
  some-piece (l ∷ ls) =
      let rest = some-piece ls in
      elim (is_cut day pool l) as (λ b. 1 ≤ cond b (1 + count false ls) (count true ls)) [ true ↦ omega arith | false ↦ rest ]

  -- legs that follow take no piece away
  more-pieces : (held : Bool) (front back : List Leg) → count held front ≤ count held (front ++ back)
  more-pieces true [] back = some-piece back
  more-pieces false [] back = omega arith
  more-pieces held (l ∷ ls) back =
      let after = more-pieces false ls back in
      let on = more-pieces true ls back in
      elim (is_cut day pool l) as
      (λ b. cond b (cond held 1 0 + count false ls) (count true ls) ≤ cond b (cond held 1 0 + count false (ls ++ back))
      (count true (ls ++ back))) [
        | true ↦ omega (arith, after)
        | false ↦ on
      ]

  -- the pieces of legs, of which the first is cut away or is not
  abbrev cut-by : Bool → ℕ → ℕ → Option Piece → Leg → List Leg → List Piece
  cut-by b block index held l ls =
      cond b (ended held ++ cut_on day pool block (next_index index held) None ls)
      (cut_on day pool block index (Some (grown block index held l)) ls)

  -- the pieces are of the block, and count on from the index
  numbered : (block index : ℕ) (held : Option Piece) (ls : List Leg) (p : Piece) → IsHeld block index held →
      Stands (cut_on day pool block index held ls) p → (p.block ≡ block) × (index ≤ p.index)
  numbered block index held [] p is s = let e = ended-held block index held p is s in (e.0, omega (arith, e.1))
  numbered block index held (l ∷ ls) p is s =
      by (is_cut day pool l) (numbered block (next_index index held) None ls p tt)
      (numbered block index (Some (grown block index held l)) ls p (grown-held block index held l is)) s
    where
      either : (Stands (cut_on day pool block (next_index index held) None ls) p → (p.block ≡ block) × (next_index index held ≤ p.index)) →
          Stands (ended held) p ⊎ Stands (cut_on day pool block (next_index index held) None ls) p → (p.block ≡ block) × (index ≤ p.index)
      either after e = elim e [
        | inl here ↦ let e = ended-held block index held p is here in (e.0, omega (arith, e.1))
        | inr later ↦ let e = after later in (e.0, omega (arith, e.1, index-past index held))
      ]

      by : (b : Bool) → (Stands (cut_on day pool block (next_index index held) None ls) p →
          (p.block ≡ block) × (next_index index held ≤ p.index)) →
          (Stands (cut_on day pool block index (Some (grown block index held l)) ls) p → (p.block ≡ block) × (index ≤ p.index)) →
          Stands (cut-by b block index held l ls) p → (p.block ≡ block) × (index ≤ p.index)
      by true after on s = either after (stands-either (ended held) (cut_on day pool block (next_index index held) None ls) p s.0 s.1)
      by false after on s = on s

  -- Where legs begin at a moment or later, and a piece that is begun too, all pieces do. The cutting rule is followed with the piece
  -- in hand: it begins where its first leg does, and a piece begun later begins with a later leg.
  pub none-before : (z : ℤ) (block index : ℕ) (held : Option Piece) (ls : List Leg) (p : Piece) → HeldFrom z held → AreFrom z ls →
      Stands (cut_on day pool block index held ls) p → z ≤ℤ p.begin.0
  none-before z block index held [] p is from s = ended-from z held p is s
  none-before z block index held (l ∷ ls) p is from s =
      by (is_cut day pool l) (none-before z block (next_index index held) None ls p tt from.1)
      (none-before z block index (Some (grown block index held l)) ls p (grown-from z block index held l from.0 is) from.1) s
    where
      by : (b : Bool) → (Stands (cut_on day pool block (next_index index held) None ls) p → z ≤ℤ p.begin.0) →
          (Stands (cut_on day pool block index (Some (grown block index held l)) ls) p → z ≤ℤ p.begin.0) →
          Stands (cut-by b block index held l ls) p → z ≤ℤ p.begin.0
      by true after on s = elim (stands-either (ended held) (cut_on day pool block (next_index index held) None ls) p s.0 s.1) [
        | inl here ↦ ended-from z held p is here
        | inr later ↦ after later
      ]
      by false after on s = on s

  -- Of these only the one that was begun may begin earlier. The piece in hand may have begun before; each other begins with a leg of
  -- these. So what begins early has the index of the piece in hand.
  first-alone : (z : ℤ) (block index : ℕ) (h : Piece) (ls : List Leg) (p : Piece) → h.index ≡ index → AreFrom z ls →
      Stands (cut_on day pool block index (Some h) ls) p → p.begin.0 <ℤ z → p.index ≡ index
  first-alone z block index h [] p is from s early = ap (λ (p : Piece). p.index) (sym (stands-alone h p s)) ∙ is
  first-alone z block index h (l ∷ ls) p is from s early =
      by (is_cut day pool l) (λ s. none-before z block (index + 1) None ls p tt from.1 s)
      (λ s. first-alone z block index (continued h l) ls p is from.1 s early) s
    where
      by : (b : Bool) → (Stands (cut_on day pool block (index + 1) None ls) p → z ≤ℤ p.begin.0) →
          (Stands (cut_on day pool block index (Some (continued h l)) ls) p → p.index ≡ index) →
          Stands (cut-by b block index (Some h) l ls) p → p.index ≡ index
      by true after on s = elim (stands-either (h ∷ []) (cut_on day pool block (index + 1) None ls) p s.0 s.1) [
        | inl here ↦ ap (λ (p : Piece). p.index) (sym (stands-alone h p here)) ∙ is
        | inr later ↦ let low = after later in absurd (omega (arith, ints, low, early))
      ]
      by false after on s = on s

  -- A piece that begins before a moment has its index by the legs before those that begin at the moment or later. Along the front,
  -- pieces are counted (`count`); at its end only the piece in hand may begin before the moment, which the count has already. So a
  -- piece that begins before has one of the indices that are counted in front, whatever is behind.
  in-front : (z : ℤ) (block index : ℕ) (held : Option Piece) (front back : List Leg) (p : Piece) → IsHeld block index held →
      AreFrom z back → Stands (cut_on day pool block index held (front ++ back)) p →
      p.begin.0 <ℤ z → p.index < index + count (is_some held) front
  in-front z block index None [] back p is from s early =
      let low = none-before z block index None back p tt from s in absurd (omega (arith, ints, low, early))
  in-front z block index (Some h) [] back p is from s early =
      let same = first-alone z block index h back p is.1 from s early in omega (arith, same)
  in-front z block index held (l ∷ ls) back p is from s early =
      by (is_cut day pool l) (λ s. in-front z block (next_index index held) None ls back p tt from s early)
      (λ s. in-front z block index (Some (grown block index held l)) ls back p (grown-held block index held l is) from s early) s
    where
      first : Stands (ended held) p → p.index < index + (cond (is_some held) 1 0 + count false ls)
      first here = of held is here
        where
          of : (held : Option Piece) → IsHeld block index held → Stands (ended held) p →
              p.index < index + (cond (is_some held) 1 0 + count false ls)
          of None is here = absurd (stands-none p here)
          of (Some h) is here = let e = ended-held block index (Some h) p is here in omega (arith, e.1)

      by : (b : Bool) → (Stands (cut_on day pool block (next_index index held) None (ls ++ back)) p →
          p.index < next_index index held + count false ls) →
          (Stands (cut_on day pool block index (Some (grown block index held l)) (ls ++ back)) p → p.index < index + count true ls) →
          Stands (cut-by b block index held l (ls ++ back)) p →
          p.index < index + cond b (cond (is_some held) 1 0 + count false ls) (count true ls)
      by true after on s = elim (stands-either (ended held) (cut_on day pool block (next_index index held) None (ls ++ back)) p s.0 s.1) [
        | inl here ↦ first here
        | inr later ↦ let low = after later in let next = next-index index held in omega (arith, low, next)
      ]
      by false after on s = on s

  -- There is a piece of each index, as many as pieces are counted. Indices are given one after another, so each up to the count is had
  -- by a piece: the piece in hand has the first, and at each cut the next index begins. The index of the start is any, so that the
  -- induction can go past a cut.
  each-index : (block index : ℕ) (held : Option Piece) (ls : List Leg) (i : ℕ) → IsHeld block index held → i < count (is_some held) ls →
      HasPiece block (index + i) (cut_on day pool block index held ls)
  each-index block index None [] i is few = absurd (omega (arith, few))
  each-index block index (Some h) [] i is few = (h, (0, refl), is.0, omega (arith, is.1, few))
  each-index block index held (l ∷ ls) i is few =
      by (is_cut day pool l) held is (λ j few. each-index block (next_index index held) None ls j tt few)
      (λ few. each-index block index (Some (grown block index held l)) ls i (grown-held block index held l is) few) few
    where
      by : (b : Bool) (held : Option Piece) → IsHeld block index held →
          ((j : ℕ) → j < count false ls →
          HasPiece block (next_index index held + j) (cut_on day pool block (next_index index held) None ls)) →
          (i < count true ls → HasPiece block (index + i) (cut_on day pool block index (Some (grown block index held l)) ls)) →
          i < cond b (cond (is_some held) 1 0 + count false ls) (count true ls) →
          HasPiece block (index + i) (cut-by b block index held l ls)
      by false held is after on few = on few
      by true None is after on few = after i (omega (arith, few))
      by true (Some h) is after on few = at i few
        where
          at : (i : ℕ) → i < 1 + count false ls → HasPiece block (index + i) (h ∷ cut_on day pool block (index + 1) None ls)
          at zero few = (h, (0, refl), is.0, omega (arith, is.1))
          at (suc j) few =
              let (q, s, of, same) = after j (omega (arith, few)) in
              (q, stands-later h (cut_on day pool block (index + 1) None ls) q s, of, omega (arith, same))

-- two lists of legs are the same up to legs that begin at a moment or later in the first of them
pub record Share (z : ℤ) (one other : List Leg) : Type 0 where
  pub front : List Leg
  pub back : List Leg
  pub more : List Leg
  pub is : one ≡ front ++ back
  pub other_is : other ≡ front ++ more
  pub later : AreFrom z back

-- Each piece of the first that begins before the moment has one of its index in the second. A piece of the one list that begins before
-- the moment has an index among those counted in the shared front (`in-front`), and the other list has as many pieces at least, since
-- what follows takes none away (`more-pieces`); so it has one of this index (`each-index`). The piece may be longer or end otherwise
-- there: named by block and index it is the same piece of work that has begun.
pub same-index : (day : DayFacts) (pool : Pool) (z : ℤ) (block number : ℕ) (one other : List Leg) (p : Piece) → Share z one other →
    Stands (cut_on day pool block 1 None one) p → p.begin.0 <ℤ z →
    HasPiece number p.index (cut_on day pool number 1 None other)
same-index day pool z block number one other p share s early =
    let P : List Leg → Type 0 = λ ls. Stands (cut_on day pool block 1 None ls) p in
    let here : Stands (cut_on day pool block 1 None (share.front ++ share.back)) p = subst P share.is s in
    let few = in-front day pool z block 1 None share.front share.back p tt share.later here early in
    let some = (numbered day pool block 1 None one p tt s).1 in
    let more = more-pieces day pool false share.front share.more in
    let there = each-index day pool number 1 None (share.front ++ share.more) (p.index - 1) tt (omega (arith, few, some, more)) in
    let Q : List Leg → Type 0 = λ ls. HasPiece number p.index (cut_on day pool number 1 None ls) in
    let at : HasPiece number p.index (cut_on day pool number 1 None (share.front ++ share.more)) =
    (there.0, there.1, there.2, omega (arith, there.3, some)) in
    subst Q (sym share.other_is) at

-- the pieces are of the block
pub of-block : (day : DayFacts) (pool : Pool) (block : ℕ) (ls : List Leg) (p : Piece) →
    Stands (cut_on day pool block 1 None ls) p → p.block ≡ block
of-block day pool block ls p s = (numbered day pool block 1 None ls p tt s).0
