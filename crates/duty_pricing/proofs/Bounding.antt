-- Completion bounds that are made from the last piece back.
use Rattle.std.proofs.Common.{◌≡◌, ◌≢◌, ℕ, ℤ, pos, neg_ℤ, ◌+◌, ◌-◌, ◌*◌, ◌/◌, ◌<◌, ◌≤◌, ◌-ℤ◌, ◌+ℤ◌, ◌≤ℤ◌, Bool, true, false, cond, zero, suc, List, [], ◌∷◌, ◌++◌, length, replicate, set, refl, sym, ap, subst, ◌∙◌, arith}
use Rattle.std.proofs.lemmas.Int.{ints}
use Rattle.std.proofs.lemmas.Bool.Decides.{nat_tests}
use Rattle.std.specs.Prelude.{nat_lt, Some, nat_le, slice_get, slice_index_or}
use Rattle.plan_core.specs.declared.types.Piece.{Piece}
use Rattle.plan_core.specs.declared.types.Price.{Price}
use Rattle.cover_core.specs.FirstLeast.{AllWithin}
use Rattle.cover_core.specs.Plans.{number_at, price_at}
use Rattle.cover_core.proofs.Values.{price_at-within}
use Rattle.plan_params.specs.declared.rows.group.Group.{Group}
use Rattle.duty_network.specs.Duties.{DutyFacts}
use Rattle.duty_network.specs.Ranges.{off_value}
use Rattle.duty_network.proofs.Better.{Some-same}
use Rattle.duty_network.specs.Followers.{AreNumbered, entry_at}
use Rattle.duty_pricing.specs.Bounds.{AreBelow, AreFalling, AreOut, AreRows, IsBoundFrom, IsBoundRow, IsChain, IsFalling, IsLow, IsLoweredBy, IsReach, IsRaised, IsRowLowered, IsTail, IsUnder, behind, cell_at, low_of, row_at}
use Rattle.duty_pricing.specs.declared.reach.Reach.{Reach}
use Rattle.duty_pricing.proofs.Lowering.{split}

-- a list of one number again and again
pub repeated : (n x : ℕ) (v : ℤ) → x < n → number_at (replicate n v) x ≡ v
repeated zero x v h = absurd (omega arith)
repeated (suc n) zero v h = refl
repeated (suc n) (suc x) v h = repeated n x v (omega arith)

pub repeated-high : (n x : ℕ) (v : ℤ) → v ≤ℤ pos 7000000000000 → number_at (replicate n v) x ≤ℤ pos 7000000000000
repeated-high zero x v h = omega (arith, ints)
repeated-high (suc n) zero v h = h
repeated-high (suc n) (suc x) v h = repeated-high n x v h

-- rows of which one is put in
pub row-others : (rows : List (List ℤ)) (i k : ℕ) (row : List ℤ) → k ≢ i → row_at (set rows i row) k ≡ row_at rows k
row-others [] i k row h = refl
row-others (x ∷ xs) zero zero row h = absurd (h refl)
row-others (x ∷ xs) zero (suc k) row h = refl
row-others (x ∷ xs) (suc i) zero row h = refl
row-others (x ∷ xs) (suc i) (suc k) row h = row-others xs i k row (λ e. h (ap suc e))

pub row-here : (rows : List (List ℤ)) (i : ℕ) (row : List ℤ) → i < length rows → row_at (set rows i row) i ≡ row
row-here [] i row h = absurd (omega arith)
row-here (x ∷ xs) zero row h = refl
row-here (x ∷ xs) (suc i) row h = row-here xs i row (omega arith)

pub row-count : (rows : List (List ℤ)) (i : ℕ) (row : List ℤ) → length (set rows i row) ≡ length rows
row-count [] i row = refl
row-count (x ∷ xs) zero row = refl
row-count (x ∷ xs) (suc i) row = omega (arith, row-count xs i row)

pub row-read : (rows : List (List ℤ)) (i : ℕ) (v : List ℤ) → i < length rows → slice_index_or rows i v ≡ row_at rows i
row-read [] i v h = absurd (omega arith)
row-read (x ∷ xs) zero v h = refl
row-read (x ∷ xs) (suc i) v h = row-read xs i v (omega arith)

-- what holds of all rows holds with another one put in
pub rows-with : (P : List ℤ → Type 0) (rows : List (List ℤ)) (i k : ℕ) (row : List ℤ) → i < length rows → P (row_at rows k) → P row →
    P (row_at (set rows i row) k)
rows-with P rows i k row below old new = split (P (row_at (set rows i row) k)) k i
    (λ e. let Q : ℕ → Type 0 = λ n. P (row_at (set rows i row) n) in subst Q (sym e) (subst P (sym (row-here rows i row below)) new))
    (λ n. subst P (sym (row-others rows i k row n)) old)

-- What a bound of going on with a piece may be changed by: a smaller number is still one, and so is a number by a table that is
-- nowhere higher (`under-below`); and it hangs on the piece's own row alone (`under-same`). As tables are made from the last piece
-- back, these three carry what is known over to the next step.
pub under-less : (d : DutyFacts) (prices : List Price) (r : Reach) (rows : List (List ℤ)) (next x : ℕ) (z w : ℤ) →
    IsUnder d prices r rows next x w → z ≤ℤ w → IsUnder d prices r rows next x z
under-less d prices r rows next x z w u less q is_q in_time taken small = let own = u q is_q in_time taken small in omega (arith, ints)

-- nor by the rows of a table that is no lower
pub under-below : (d : DutyFacts) (prices : List Price) (r : Reach) (rows over : List (List ℤ)) (next x : ℕ) (z : ℤ) →
    IsReach r → AreBelow over rows →
    IsUnder d prices r over next x z → IsUnder d prices r rows next x z
under-below d prices r rows over next x z reach below u q is_q in_time taken small =
    let own = u q is_q in_time taken small in let width = reach.width in let less = below next (x - q.driving / r.unit) (omega arith) in
    omega (arith, ints)

pub under-either : (is : Bool) (d : DutyFacts) (prices : List Price) (r : Reach) (rows over : List (List ℤ)) (next x : ℕ) (z : ℤ) →
    IsReach r → AreBelow over rows →
    IsUnder d prices r over next x z → IsUnder d prices r (cond is over rows) next x z
under-either true d prices r rows over next x z reach below u = u
under-either false d prices r rows over next x z reach below u = under-below d prices r rows over next x z reach below u

-- what is said of a piece hangs on its row alone
pub under-same : (d : DutyFacts) (prices : List Price) (r : Reach) (old new : List (List ℤ)) (next x : ℕ) (z : ℤ) →
    row_at new next ≡ row_at old next →
    IsUnder d prices r old next x z → IsUnder d prices r new next x z
under-same d prices r old new next x z same u q is_q in_time taken small =
    let own = u q is_q in_time taken small in
    let there : cell_at new next (x - q.driving / r.unit) ≡ cell_at old next (x - q.driving / r.unit) =
    ap (λ l. number_at l (x - q.driving / r.unit)) same in
    omega (arith, ints)

-- Looking at one piece more: the row is lowered, for each amount of driving that is left, to the piece's number for what is left
-- behind it, less the piece's price. Afterwards going on with this piece does not undercut the row; nothing was raised, so what was
-- known stays; and a row that is not too low is not so after it, as a piece takes at most the greatest price off. Where no list in
-- time goes on with the piece, the row may stay as it is (`not-lowered`).
pub lowered-by : (d : DutyFacts) (prices : List Price) (r : Reach) (rows : List (List ℤ)) (next : ℕ) (q : Piece) (old new : List ℤ) →
    IsReach r → slice_get d.pieces next ≡ Some q →
    AllWithin 10000000000000 prices → IsLow (low_of next) (row_at rows next) →
    IsRowLowered old new (row_at rows next) (q.driving / r.unit) r.width (price_at prices next) →
    IsLoweredBy d prices r rows next old new
lowered-by d prices r rows next q old new reach is_q within low l =
    let own = price_at-within 10000000000000 prices next within in
    let phigh = own.high in
    let width = reach.width in
    record {
      at_most = λ x. l.at_most x;
      under = λ x p is_p in_time taken less.
          let same : q ≡ p = Some-same q p (sym is_q ∙ is_p) in
          let P : Piece → Type 0 =
          λ s. s.driving / r.unit ≤ x → number_at new x ≤ℤ (cell_at rows next (x - s.driving / r.unit) -ℤ price_at prices next) in
          subst P same (λ t. l.below x t less) taken;
      least = λ z x small h bound. l.least z x h (λ from to. let least = low (x - q.driving / r.unit) (omega arith) in omega (arith, ints));
    }

-- or left, where no list in time goes on with it
pub not-lowered : (d : DutyFacts) (prices : List Price) (r : Reach) (rows : List (List ℤ)) (next : ℕ) (q : Piece) (row : List ℤ) →
    slice_get d.pieces next ≡ Some q →
    (q.end.0 ≤ℤ r.until → q.driving / r.unit < r.width → ⊥) → IsLoweredBy d prices r rows next row row
not-lowered d prices r rows next q row is_q none = record {
  at_most = λ x. omega (arith, ints);
  under = λ x p is_p in_time taken less.
      let same : p ≡ q = Some-same p q (sym is_p ∙ is_q) in
      let P : Piece → Type 0 = λ s. s.end.0 ≤ℤ r.until in
      let Q : Piece → Type 0 = λ s. s.driving / r.unit < r.width in
      let few : p.driving / r.unit < r.width = omega arith in
      absurd (none (subst P same in_time) (subst Q same few));
  least = λ z x small h bound. h;
}

kept-either : (is : Bool) (d : DutyFacts) (prices : List Price) (r : Reach) (old new over above : List (List ℤ)) (next x : ℕ) (z : ℤ) →
    row_at new next ≡ row_at old next →
    row_at above next ≡ row_at over next → IsUnder d prices r (cond is over old) next x z → IsUnder d prices r (cond is above new) next x z
kept-either true d prices r old new over above next x z same also u = under-same d prices r over above next x z also u
kept-either false d prices r old new over above next x z same also u = under-same d prices r old new next x z same u

-- What is said of a piece's row speaks of later rows only, since a list goes on with later pieces. So rows that are put in at
-- earlier places change nothing of it, and the table can be filled from its end.
pub kept-row : (d : DutyFacts) (prices : List Price) (g : Group) (r : Reach) (long : ℕ) (last : ℤ) (old new over above : List (List ℤ))
    (k : ℕ) (row : List ℤ) →
    IsBoundRow d prices g r long last old over k row → ((n : ℕ) → k < n → row_at new n ≡ row_at old n) →
    ((n : ℕ) → k < n → row_at above n ≡ row_at over n) →
    IsBoundRow d prices g r long last new above k row
kept-row d prices g r long last old new over above k row b same also = record {
  closes = b.closes;
  steps = λ next time x from to is_time. kept-either (nat_le long time) d prices r old new over above next x (number_at row x)
      (same next from) (also next from) (b.steps next time x from to is_time);
}

-- one row more
pub more-rows : (n k : ℕ) (rows : List (List ℤ)) (row : List ℤ) → AreRows n (k + 1) rows → k < n → IsFalling row → IsLow (low_of k) row →
    AreRows n k (set rows k row)
more-rows n k rows row a below falling low =
    let count = a.count in
    record {
      count = row-count rows k row ∙ a.count;
      falling = λ m. rows-with IsFalling rows k m row (omega arith) (a.falling m) falling;
      low = λ m from to. split (IsLow (low_of m) (row_at (set rows k row) m)) m k
          (λ e. let P : ℕ → Type 0 = λ i. IsLow (low_of i) (row_at (set rows k row) i) in
          subst P (sym e) (subst (IsLow (low_of k)) (sym (row-here rows k row (omega arith))) low))
          (λ apart. subst (IsLow (low_of m)) (sym (row-others rows k m row apart)) (a.low m (omega arith) to));
    }

-- The step of the loop over pieces, from the last one back: a row that is a bound behind its piece, that falls with the driving left
-- and is not too low, put at its place, makes the table one of bounds from this piece on. At the end, from the first piece on, the
-- table bounds each continuation of each list: this is the completion bound that the search cuts off by.
pub placed : (d : DutyFacts) (prices : List Price) (g : Group) (r : Reach) (long : ℕ) (last : ℤ) (k : ℕ)
    (rows over above : List (List ℤ)) (row : List ℤ) →
    IsBoundFrom d prices g r long last (k + 1) rows over → k < length d.pieces → IsBoundRow d prices g r long last rows over k row →
    IsFalling row → IsLow (low_of k) row →
    ((n : ℕ) → k < n → row_at above n ≡ row_at over n) → IsBoundFrom d prices g r long last k (set rows k row) above
placed d prices g r long last k rows over above row b below is falling low also =
    let count = b.are.count in
    let here : row_at (set rows k row) k ≡ row = row-here rows k row (omega arith) in
    let others : (n : ℕ) → k < n → row_at (set rows k row) n ≡ row_at rows n =
    λ n order. row-others rows k n row (λ e. absurd (omega arith)) in
    record {
      are = more-rows (length d.pieces) k rows row b.are below falling low;
      bounds = λ n from to. split (IsBoundRow d prices g r long last (set rows k row) above n (row_at (set rows k row) n)) n k
          (λ e. let P : ℕ → Type 0 = λ m. IsBoundRow d prices g r long last (set rows k row) above m (row_at (set rows k row) m) in
          let Q : List ℤ → Type 0 = λ l. IsBoundRow d prices g r long last (set rows k row) above k l in
          subst P (sym e) (subst Q (sym here) (kept-row d prices g r long last rows (set rows k row) over above k row is others also)))
          (λ apart. let later : k < n = omega arith in
          let Q : List ℤ → Type 0 = λ l. IsBoundRow d prices g r long last (set rows k row) above n l in
          subst Q (sym (others n later))
          (kept-row d prices g r long last rows (set rows k row) over above n (row_at rows n) (b.bounds n (omega arith) to)
          (λ m order. others m (omega arith)) (λ m order. also m (omega arith))));
    }

-- a row that is out of reach falls, and so do rows of which one more is put last
pub out-falls : IsFalling (replicate 16 (pos 7000000000000))
out-falls = record {
  high = λ x. repeated-high 16 x (pos 7000000000000) (omega (arith, ints));
  falls = λ x y order less.
      let one = repeated 16 x (pos 7000000000000) less in let other = repeated 16 y (pos 7000000000000) (omega arith) in
      omega (arith, ints);
}

pub none-falls : AreFalling []
none-falls k = record { high = λ x. omega (arith, ints); falls = λ x y order less. omega (arith, ints) }

pub more-fall : (rows : List (List ℤ)) (row : List ℤ) → AreFalling rows → IsFalling row → AreFalling (rows ++ row ∷ [])
more-fall [] row all own zero = own
more-fall [] row all own (suc k) = none-falls k
more-fall (x ∷ xs) row all own zero = all 0
more-fall (x ∷ xs) row all own (suc k) = more-fall xs row (λ n. all (suc n)) own k

pub length-more : (rows : List (List ℤ)) (row : List ℤ) → length (rows ++ row ∷ []) ≡ length rows + 1
length-more [] row = refl
length-more (x ∷ xs) row = omega (arith, length-more xs row)

row-before : (rows : List (List ℤ)) (row : List ℤ) (k : ℕ) → k < length rows → row_at (rows ++ row ∷ []) k ≡ row_at rows k
row-before [] row k h = absurd (omega arith)
row-before (x ∷ xs) row zero h = refl
row-before (x ∷ xs) row (suc k) h = row-before xs row k (omega arith)

row-last : (rows : List (List ℤ)) (row : List ℤ) → row_at (rows ++ row ∷ []) (length rows) ≡ row
row-last [] row = refl
row-last (x ∷ xs) row = row-last xs row

row-beyond : (rows : List (List ℤ)) (k : ℕ) → length rows ≤ k → row_at rows k ≡ []
row-beyond [] zero h = refl
row-beyond [] (suc k) h = refl
row-beyond (x ∷ xs) zero h = absurd (omega arith)
row-beyond (x ∷ xs) (suc k) h = row-beyond xs k (omega arith)

low-apart : (n : ℕ) (rows : List (List ℤ)) (row : List ℤ) (k x : ℕ) → length rows ≡ n → x < 16 → k ≢ n →
    ((m : ℕ) → IsLow (pos 0) (row_at rows m)) → pos 0 ≤ℤ cell_at (rows ++ row ∷ []) k x
low-apart n [] row zero x e small apart all = absurd (apart e)
low-apart n [] row (suc k) x e small apart all = omega (arith, ints)
low-apart n (y ∷ ys) row zero x e small apart all = all 0 x small
low-apart zero (y ∷ ys) row (suc k) x e small apart all = absurd (omega arith)
low-apart (suc n) (y ∷ ys) row (suc k) x e small apart all =
    low-apart n ys row k x (omega arith) small (λ same. apart (ap suc same)) (λ m. all (suc m))

-- rows that are out of reach
pub none-out : AreOut 0 []
none-out = record {
  count = refl;
  falling = none-falls;
  low = λ k x less. omega (arith, ints);
  full =
      λ k x less small. absurd (omega arith);
}

pub more-out : (n : ℕ) (rows : List (List ℤ)) → AreOut n rows → AreOut (n + 1) (rows ++ replicate 16 (pos 7000000000000) ∷ [])
more-out n rows a =
    let row = replicate 16 (pos 7000000000000) in
    let count = a.count in
    let own : (x : ℕ) → x < 16 → number_at row x ≡ pos 7000000000000 = λ x less. repeated 16 x (pos 7000000000000) less in
    let long = length-more rows row in
    let last : row_at (rows ++ row ∷ []) n ≡ row =
    (let P : ℕ → Type 0 = λ m. row_at (rows ++ row ∷ []) m ≡ row in subst P count (row-last rows row)) in
    record {
      count = omega arith;
      falling = more-fall rows row a.falling out-falls;
      low = λ k x small. split (pos 0 ≤ℤ cell_at (rows ++ row ∷ []) k x) k n
          (λ e. let P : ℕ → Type 0 = λ m. pos 0 ≤ℤ cell_at (rows ++ row ∷ []) m x in
          let Q : List ℤ → Type 0 = λ l. pos 0 ≤ℤ number_at l x in
          let high : pos 0 ≤ℤ number_at row x =
          (let same = own x small in omega (arith, ints)) in subst P (sym e) (subst Q (sym last) high))
          (λ apart. low-apart n rows row k x count small apart a.low);
      full = λ k x less small. split (cell_at (rows ++ row ∷ []) k x ≡ pos 7000000000000) k n
          (λ e. let P : ℕ → Type 0 = λ m. cell_at (rows ++ row ∷ []) m x ≡ pos 7000000000000 in
          let Q : List ℤ → Type 0 = λ l. number_at l x ≡ pos 7000000000000 in subst P (sym e) (subst Q (sym last) (own x small)))
          (λ apart. let Q : List ℤ → Type 0 = λ l. number_at l x ≡ pos 7000000000000 in
          subst Q (sym (row-before rows row k (omega arith))) (a.full k x (omega arith) small));
    }

-- behind the last piece there is nothing yet
pub out-rows : (n : ℕ) (rows : List (List ℤ)) → AreOut n rows → AreRows n n rows
out-rows n rows a = record { count = a.count; falling = a.falling; low = λ k from to. absurd (omega arith) }

-- Before any piece is looked at, nothing is asked of any row, so rows out of reach (more than any ending adds) are a good beginning:
-- they only have to fall, and to stand above all other tables (`out-below`). Chains and tails begin likewise.
pub unbounded : (d : DutyFacts) (prices : List Price) (g : Group) (r : Reach) (long : ℕ) (last : ℤ) (rows over : List (List ℤ)) →
    AreOut (length d.pieces) rows →
    IsBoundFrom d prices g r long last (length d.pieces) rows over
unbounded d prices g r long last rows over a =
    record { are = out-rows (length d.pieces) rows a; bounds = λ k from to. absurd (omega arith) }

pub out-chain : (d : DutyFacts) (prices : List Price) (r : Reach) (numbers : List ℕ) (rows chain : List (List ℤ)) →
    AreOut (length d.pieces) chain →
    IsChain d prices r numbers rows (length d.pieces) chain
out-chain d prices r numbers rows chain a = record {
  count = a.count;
  low = λ k from to. absurd (omega arith);
  high = λ k x. (a.falling k).high x;
  under = λ k later x from order to same. absurd (omega arith);
}

pub out-tail : (d : DutyFacts) (prices : List Price) (r : Reach) (numbers : List ℕ) (rows tail : List (List ℤ)) → length d.pieces ≤ 3000 →
    AreOut (length d.pieces) tail →
    IsTail d prices r numbers rows (length d.pieces) tail
out-tail d prices r numbers rows tail few a = record {
  count = a.count;
  low = λ m x small. let low = a.low m x small in omega (arith, ints);
  high = λ m x. (a.falling m).high x;
  under = λ later x from to. absurd (omega arith);
}

not-lt : (k n : ℕ) → nat_lt k n ≡ false → n ≤ k
not-lt k n e = grind (arith, nat_tests)

lt-is : (k n : ℕ) → nat_lt k n ≡ true → k < n
lt-is k n e = grind (arith, nat_tests)

-- rows out of reach are above all that fall
pub out-below : (n : ℕ) (over rows : List (List ℤ)) → length over ≡ n → AreFalling over → AreOut n rows → AreBelow over rows
out-below n over rows count falling a k x small = elim (nat_lt k n) as (λ b. nat_lt k n ≡ b → cell_at over k x ≤ℤ cell_at rows k x) [
  | true ↦ λ e. let full = a.full k x (lt-is k n e) small in let high = (falling k).high x in omega (arith, ints)
  | false ↦ λ e. let past = not-lt k n e in let long = a.count in
      let none : row_at over k ≡ [] = row-beyond over k (omega arith) in let also : row_at rows k ≡ [] = row-beyond rows k (omega arith) in
      let P : List ℤ → Type 0 = λ l. number_at l x ≤ℤ cell_at rows k x in
      let Q : List ℤ → Type 0 = λ l. number_at [] x ≤ℤ number_at l x in
      let same : number_at [] x ≤ℤ number_at [] x = omega (arith, ints) in
      subst P (sym none) (subst Q (sym also) same)
] refl

-- fewer rows are asked of
pub bounded-from : (d : DutyFacts) (prices : List Price) (g : Group) (r : Reach) (long : ℕ) (last : ℤ) (place first : ℕ)
    (rows over : List (List ℤ)) → IsBoundFrom d prices g r long last place rows over → place ≤ first →
    IsBoundFrom d prices g r long last first rows over
bounded-from d prices g r long last place first rows over b order = record {
  are = record { count = b.are.count; falling = b.are.falling; low = λ k from to. b.are.low k (omega arith) to };
  bounds = λ k from to. b.bounds k (omega arith) to;
}

pub chain-from : (d : DutyFacts) (prices : List Price) (r : Reach) (numbers : List ℕ) (rows : List (List ℤ)) (place first : ℕ)
    (chain : List (List ℤ)) → IsChain d prices r numbers rows place chain → place ≤ first →
    IsChain d prices r numbers rows first chain
chain-from d prices r numbers rows place first chain c order = record {
  count = c.count;
  low = λ k from to. c.low k (omega arith) to;
  high = c.high;
  under = λ k later x from up to same. c.under k later x (omega arith) up to same;
}

-- rows that change before a place alone
pub chain-kept : (d : DutyFacts) (prices : List Price) (r : Reach) (numbers : List ℕ) (old new : List (List ℤ)) (place : ℕ)
    (chain : List (List ℤ)) → IsChain d prices r numbers old place chain →
    ((n : ℕ) → place ≤ n → row_at new n ≡ row_at old n) → IsChain d prices r numbers new place chain
chain-kept d prices r numbers old new place chain c same = record {
  count = c.count;
  low = c.low;
  high = c.high;
  under = λ k later x from up to alike. under-same d prices r old new later x (cell_at chain k x) (same later (omega arith))
      (c.under k later x from up to alike);
}

pub tail-kept : (d : DutyFacts) (prices : List Price) (r : Reach) (numbers : List ℕ) (old new : List (List ℤ)) (place : ℕ)
    (tail : List (List ℤ)) → IsTail d prices r numbers old place tail →
    ((n : ℕ) → place ≤ n → row_at new n ≡ row_at old n) → IsTail d prices r numbers new place tail
tail-kept d prices r numbers old new place tail t same = record {
  count = t.count;
  low = t.low;
  high = t.high;
  under = λ later x from to. under-same d prices r old new later x (cell_at tail (entry_at numbers later) x) (same later from)
      (t.under later x from to);
}

tail-order : (numbers : List ℕ) (item later : ℕ) → item ≤ later → entry_at numbers later ≢ entry_at numbers item → item + 1 ≤ later
tail-order numbers item later from other =
    split (item + 1 ≤ later) later item (λ e. absurd (other (ap (entry_at numbers) e))) (λ n. omega arith)

-- Pieces that begin at one point have one number, and for each number the tail keeps one row: the least of what going on with any of
-- its pieces from a place on adds. One piece more lowers the row of its own number and leaves the others; the later pieces of this
-- number do not undercut the lowered row either (`under-less`).
pub tailed : (d : DutyFacts) (prices : List Price) (r : Reach) (numbers : List ℕ) (rows tail : List (List ℤ)) (item : ℕ) (row : List ℤ) →
    item < length d.pieces →
    AreNumbered (length d.pieces) numbers → IsTail d prices r numbers rows (item + 1) tail →
    IsLoweredBy d prices r rows item (row_at tail (entry_at numbers item)) row →
    IsTail d prices r numbers rows item (set tail (entry_at numbers item) row)
tailed d prices r numbers rows tail item row below n t l =
    let number = entry_at numbers item in
    let there = n.below item below in
    let count = t.count in
    let here : row_at (set tail number row) number ≡ row = row-here tail number row (omega arith) in
    let least : ℤ = neg_ℤ (pos 30000000000000000) +ℤ pos (10000000000000 * item) -ℤ pos 10000000000000 in
    record {
      count = row-count tail number row ∙ t.count;
      low = λ m. rows-with (IsLow least) tail number m row (omega arith) (λ x small. let own = t.low m x small in omega (arith, ints))
          (λ x small. l.least least x small (let own = t.low number x small in omega (arith, ints)) (omega (arith, ints)));
      high = λ m x. let P : List ℤ → Type 0 = λ z. number_at z x ≤ℤ pos 7000000000000 in
          rows-with P tail number m row (omega arith) (t.high m x) (let most = l.at_most x in let own =
          t.high number x in omega (arith, ints));
      under = λ later x from to. split (IsUnder d prices r rows later x (cell_at (set tail number row) (entry_at numbers later) x))
          (entry_at numbers later) number
          (λ e. let P : ℕ → Type 0 = λ m. IsUnder d prices r rows later x (cell_at (set tail number row) m x) in
          let Q : List ℤ → Type 0 = λ z. IsUnder d prices r rows later x (number_at z x) in
          subst P (sym e) (subst Q (sym here) (split (IsUnder d prices r rows later x (number_at row x)) later item
          (λ same. let R : ℕ → Type 0 = λ m. IsUnder d prices r rows m x (number_at row x) in subst R (sym same) (l.under x))
          (λ apart. let S : ℕ → Type 0 = λ m. IsUnder d prices r rows later x (cell_at tail m x) in
          under-less d prices r rows later x (number_at row x) (number_at (row_at tail number) x)
          (subst S e (t.under later x (omega arith) to)) (l.at_most x)))))
          (λ other. let later_on : item + 1 ≤ later = tail-order numbers item later from other in
          let Q : List ℤ → Type 0 = λ z. IsUnder d prices r rows later x (number_at z x) in
          subst Q (sym (row-others tail number (entry_at numbers later) row other)) (t.under later x later_on to));
    }

-- The chain keeps, for each piece, the tail of its number as it was when the piece was looked at: going on with it, or with any
-- later piece of its number, does not undercut this row. So behind an earlier piece one look at the first piece of a number that may
-- follow is enough for all of them; whether there is a pause before each of the later ones does not matter, as a bound may only be
-- too low.
pub chained : (d : DutyFacts) (prices : List Price) (r : Reach) (numbers : List ℕ) (rows chain tail : List (List ℤ)) (item : ℕ)
    (row : List ℤ) → item < length d.pieces →
    IsChain d prices r numbers rows (item + 1) chain → IsTail d prices r numbers rows item tail →
    row ≡ row_at tail (entry_at numbers item) →
    IsChain d prices r numbers rows item (set chain item row)
chained d prices r numbers rows chain tail item row below c t is =
    let count = c.count in
    let here : row_at (set chain item row) item ≡ row_at tail (entry_at numbers item) = row-here chain item row (omega arith) ∙ is in
    let least : ℕ → ℤ = λ k. neg_ℤ (pos 30000000000000000) +ℤ pos (10000000000000 * k) -ℤ pos 10000000000000 in
    record {
      count = row-count chain item row ∙ c.count;
      low = λ k from to. split (IsLow (least k) (row_at (set chain item row) k)) k item
          (λ e. let P : ℕ → Type 0 = λ m. IsLow (least m) (row_at (set chain item row) m) in
          subst P (sym e) (subst (IsLow (least item)) (sym here) (t.low (entry_at numbers item))))
          (λ apart. subst (IsLow (least k)) (sym (row-others chain item k row apart)) (c.low k (omega arith) to));
      high = λ k x. let P : List ℤ → Type 0 = λ z. number_at z x ≤ℤ pos 7000000000000 in
          rows-with P chain item k row (omega arith) (c.high k x) (subst P (sym is) (t.high (entry_at numbers item) x));
      under = λ k later x from up to alike. split (IsUnder d prices r rows later x (cell_at (set chain item row) k x)) k item
          (λ e. let P : ℕ → Type 0 = λ m. IsUnder d prices r rows later x (cell_at (set chain item row) m x) in
          let Q : List ℤ → Type 0 = λ z. IsUnder d prices r rows later x (number_at z x) in
          let S : ℕ → Type 0 = λ m. IsUnder d prices r rows later x (cell_at tail m x) in
          let same : entry_at numbers later ≡ entry_at numbers item = alike ∙ ap (entry_at numbers) e in
          subst P (sym e) (subst Q (sym here) (subst S same (t.under later x (omega arith) to))))
          (λ apart. let Q : List ℤ → Type 0 = λ z. IsUnder d prices r rows later x (number_at z x) in
          subst Q (sym (row-others chain item k row apart)) (c.under k later x (omega arith) up to alike));
    }

same-over : (b : Bool) (rows : List (List ℤ)) → cond b rows rows ≡ rows
same-over true rows = refl
same-over false rows = refl

all-over : (time : ℕ) (rows : List (List ℤ)) → behind 0 time rows rows ≡ rows
all-over time rows = same-over (nat_le 0 time) rows

-- A list without a long pause so far may be bounded by two tables: by its own, which asks that it ends in time for the shorter
-- spread unless a long pause comes, and by the one of lists that had a long pause, which asks less. Both are bounds of it, so the
-- greater of the two is one, for each amount of driving left. Raising keeps what is known of rows: they fall (`raised-falls`), are
-- not too low, and stand above the other table (`raised-below`).
pub raised-row : (d : DutyFacts) (prices : List Price) (g : Group) (r : Reach) (last : ℤ) (rows over : List (List ℤ)) (k : ℕ)
    (old new by : List ℤ) → IsReach r → AreBelow over rows → last ≤ℤ r.until →
    IsBoundRow d prices g r 10800 last rows over k old → IsBoundRow d prices g r 0 r.until over over k by → IsRaised old new by 16 →
    IsBoundRow d prices g r 10800 last rows over k new
raised-row d prices g r last rows over k old new by reach below order b o raised = record {
  closes = λ p off x less is_p is_off in_time. raised.most (off_value d.counts g off) x (b.closes p off x less is_p is_off in_time)
      (o.closes p off x less is_p is_off (omega (arith, ints)));
  steps = λ next time x from to is_time q is_q in_time taken small.
      let own = b.steps next time x from to is_time q is_q in_time taken small in
      let P : List (List ℤ) → Type 0 = λ l. IsUnder d prices r l next x (number_at by x) in
      let under = subst P (all-over time over) (o.steps next time x from to is_time) in
      let also = under-either (nat_le 10800 time) d prices r rows over next x (number_at by x) reach below under
      q is_q in_time taken small in
      raised.most _ x own also;
}

pub raised-falls : (old new by : List ℤ) → IsFalling old → IsFalling by → IsRaised old new by 16 → IsFalling new
raised-falls old new by f h raised = record {
  high = λ x. raised.most (pos 7000000000000) x (f.high x) (h.high x);
  falls = λ x y order less.
      let own = f.falls x y order less in let also = h.falls x y order less in let up = raised.own y in
      let by_up = raised.other y (omega arith) in
      raised.most (number_at new y) x (omega (arith, ints)) (omega (arith, ints));
}

pub raised-low : (z : ℤ) (old new by : List ℤ) → IsLow z old → IsRaised old new by 16 → IsLow z new
raised-low z old new by low raised x small = let own = low x small in let up = raised.own x in omega (arith, ints)

pub raised-below : (over rows : List (List ℤ)) (k : ℕ) (old new : List ℤ) → AreBelow over rows → k < length rows →
    IsRaised old new (row_at over k) 16 → AreBelow over (set rows k new)
raised-below over rows k old new below less raised n x small = split (cell_at over n x ≤ℤ cell_at (set rows k new) n x) n k
    (λ e. let P : ℕ → Type 0 = λ m. cell_at over m x ≤ℤ cell_at (set rows k new) m x in
    let Q : List ℤ → Type 0 = λ l. cell_at over k x ≤ℤ number_at l x in
    subst P (sym e) (subst Q (sym (row-here rows k new less)) (raised.other x small)))
    (λ apart. let Q : List ℤ → Type 0 = λ l. cell_at over n x ≤ℤ number_at l x in
    subst Q (sym (row-others rows k n new apart)) (below n x small))

pub below-self : (rows : List (List ℤ)) → AreBelow rows rows
below-self rows k x small = omega (arith, ints)

pub chosen-rows : (is : Bool) (n place : ℕ) (over rows : List (List ℤ)) → AreRows n place over → AreRows n place rows →
    AreRows n place (cond is over rows)
chosen-rows true n place over rows a b = a
chosen-rows false n place over rows a b = b

pub rows-from : (n place first : ℕ) (rows : List (List ℤ)) → AreRows n place rows → place ≤ first → AreRows n first rows
rows-from n place first rows a order = record { count = a.count; falling = a.falling; low = λ k from to. a.low k (omega arith) to }
