-- The row of a piece, lowered to what going on with the later pieces adds.
--
-- A row is a bound once no going on with a later piece undercuts it. The piece that follows directly is looked at by itself. Of each
-- number the first pieces behind pauses are looked at, those behind long pauses by the rows of lists with one, and with them all later
-- pieces of the number: a row of the chain is not undercut by any of these. No piece before the first one has a pause, so none is left
-- out. What is known of a row stays where it is lowered, since it only falls.
use Rattle.std.proofs.Common.{◌≡◌, ℕ, ℤ, pos, neg_ℤ, ◌+◌, ◌-◌, ◌<◌, ◌≤◌, ◌-ℤ◌, ◌≤ℤ◌, Bool, false, true, cond, zero, suc, List, [], length, replicate, sym, subst, ◌∙◌, arith}
use Rattle.std.proofs.lemmas.Int.{ints}
use Rattle.std.proofs.lemmas.Bool.Decides.{nat_tests}
use Rattle.std.specs.Prelude.{Some, nat_le, slice_get}
use Rattle.plan_core.specs.declared.types.Piece.{Piece}
use Rattle.plan_core.specs.declared.types.Price.{Price}
use Rattle.cover_core.specs.Plans.{number_at}
use Rattle.plan_params.specs.declared.rows.group.Group.{Group}
use Rattle.duty_network.specs.Duties.{DutyFacts, pause_at, sign_off}
use Rattle.duty_network.specs.Followers.{AreFirstBehind, AreFollowed, entry_at, facts}
use Rattle.duty_network.specs.declared.followers.Follower.{Follower}
use Rattle.duty_network.specs.declared.followers.Followers.{Followers}
use Rattle.duty_network.specs.Ranges.{off_value}
use Rattle.duty_network.proofs.Better.{Some-same}
use Rattle.duty_pricing.specs.Bounds.{IsBoundRow, IsChain, IsFalling, IsLow, IsLoweredBy, IsReach, IsRowLowered, IsSettled, IsUnder, behind, cell_at, low_of, row_at}
use Rattle.duty_pricing.specs.Behind.{AreFirsts, AreInReach, IsLoweredByAll, IsLoweredByDirect, IsLoweredByOne}
use Rattle.duty_pricing.specs.declared.reach.Reach.{Reach}
use Rattle.duty_pricing.proofs.Bounding.{repeated, repeated-high, under-less}
use Rattle.duty_pricing.proofs.Lowering.{split}

-- whether one number is below another
pub either : (a b : ℕ) (P : Type 0) → (a < b → P) → (b ≤ a → P) → P
either a zero P f g = g (omega arith)
either zero (suc b) P f g = f (omega arith)
either (suc a) (suc b) P f g = either a b P (λ h. f (omega arith)) (λ h. g (omega arith))

not-long : (long time : ℕ) → time < long → nat_le long time ≡ false
not-long long time h = grind (arith, nat_tests)

is-long : (long time : ℕ) → long ≤ time → nat_le long time ≡ true
is-long long time h = grind (arith, nat_tests)

-- the rows of a chain are in their ranges
pub chain-in-reach : (d : DutyFacts) (prices : List Price) (r : Reach) (numbers : List ℕ) (rows : List (List ℤ)) (place : ℕ)
    (chain : List (List ℤ)) → IsChain d prices r numbers rows place chain → AreInReach place chain
chain-in-reach d prices r numbers rows place chain c =
    let count = c.count in record { low = λ k from to. c.low k from (omega arith); high = c.high }

-- a row that the chain does not have lowers nothing
pub one-missing : (r : Reach) (chain : List (List ℤ)) (item place : ℕ) (row : List ℤ) → length chain ≤ place →
    IsLoweredByOne r chain item place row row
one-missing r chain item place row past =
    record { at_most = λ x. omega (arith, ints); low = λ h. h; under = λ x less small. absurd (omega arith) }

pub one-lowered : (r : Reach) (chain : List (List ℤ)) (item place : ℕ) (old new : List ℤ) → IsReach r → AreInReach (item + 1) chain →
    item < place → place < length chain →
    IsRowLowered old new (row_at chain place) 0 r.width (pos 0) → IsLoweredByOne r chain item place old new
one-lowered r chain item place old new reach c order there l =
    let width = reach.width in
    record {
      at_most = l.at_most;
      low = λ h x small. l.least (low_of item) x (h x small)
          (λ from to. let low = c.low place (omega arith) there (x - 0) (omega arith) in omega (arith, ints));
      under = λ x at less.
          let none : x - 0 ≡ x = omega arith in
          let P : ℕ → Type 0 = λ k. number_at new x ≤ℤ (number_at (row_at chain place) k -ℤ pos 0) in
          let most = subst P none (l.below x (omega arith) less) in
          omega (arith, ints);
    }

-- before the first number
pub all-begun : (r : Reach) (chain : List (List ℤ)) (firsts : List ℕ) (item : ℕ) (row : List ℤ) →
    IsLoweredByAll r chain firsts item 0 row row
all-begun r chain firsts item row =
    record { at_most = λ x. omega (arith, ints); low = λ h. h; under = λ m x less there small. absurd (omega arith) }

-- a number more
pub all-more : (r : Reach) (chain : List (List ℤ)) (firsts : List ℕ) (item number : ℕ) (old row new : List ℤ) →
    IsLoweredByAll r chain firsts item number old row →
    IsLoweredByOne r chain item (entry_at firsts number) row new → IsLoweredByAll r chain firsts item (number + 1) old new
all-more r chain firsts item number old row new a l = record {
  at_most = λ x. let before = a.at_most x in let now = l.at_most x in omega (arith, ints);
  low = λ h. l.low (a.low h);
  under = λ m x less there small. split (number_at new x ≤ℤ cell_at chain (entry_at firsts m) x) m number
      (λ e. let P : ℕ → Type 0 = λ n. entry_at firsts n < length chain → number_at new x ≤ℤ cell_at chain (entry_at firsts n) x in
      subst P (sym e) (λ at. l.under x at small) there)
      (λ n. let before = a.under m x (omega arith) there small in let now = l.at_most x in omega (arith, ints));
}

-- no piece follows directly
pub none-direct : (d : DutyFacts) (prices : List Price) (r : Reach) (long : ℕ) (rows over : List (List ℤ))
    (item direct : ℕ) (row : List ℤ) →
    ((time : ℕ) → direct < length d.pieces → pause_at d item direct ≡ Some time → ⊥) →
    IsLoweredByDirect d prices r long rows over item direct row row
none-direct d prices r long rows over item direct row none = record {
  at_most = λ x. omega (arith, ints);
  low = λ h. h;
  under = λ time x there is_time. absurd (none time there is_time);
}

-- one does
pub by-direct : (d : DutyFacts) (prices : List Price) (r : Reach) (long time : ℕ) (rows over : List (List ℤ)) (item direct : ℕ)
    (old new : List ℤ) → item < direct →
    pause_at d item direct ≡ Some time → IsLoweredBy d prices r (behind long time rows over) direct old new →
    IsLoweredByDirect d prices r long rows over item direct old new
by-direct d prices r long time rows over item direct old new order is_time l = record {
  at_most = l.at_most;
  low = λ h x small. l.least (low_of item) x small (h x small) (omega (arith, ints));
  under = λ at x there is_at.
      let one : time ≡ at = Some-same time at (sym is_time ∙ is_at) in
      let P : ℕ → Type 0 = λ n. IsUnder d prices r (behind long n rows over) direct x (number_at new x) in
      subst P one (l.under x);
}

-- A later piece after a pause comes no earlier than the first piece of its number that has such a pause. The row was lowered to the
-- chain's row there, which no going on with this or a later piece of the number undercuts; so the piece does not undercut the row,
-- though it was never looked at by itself.
under-first : (d : DutyFacts) (prices : List Price) (r : Reach) (numbers : List ℕ) (rows chain : List (List ℤ)) (Such : ℕ → Type 0)
    (firsts : List ℕ) (k direct later time x : ℕ) (old row : List ℤ) (z : ℤ) →
    IsChain d prices r numbers rows (k + 1) chain → AreFirsts d numbers k direct Such firsts →
    IsLoweredByAll r chain firsts k (length firsts) old row → z ≤ℤ number_at row x →
    k < later → later < length d.pieces → (later ≡ direct → ⊥) → pause_at d k later ≡ Some time → Such time →
    IsUnder d prices r rows later x z
under-first d prices r numbers rows chain Such firsts k direct later time x old row z c f l less from to apart is_time
    such q is_q in_time taken small =
    let (known, first) = f.first later time from to apart is_time such in
    let m = entry_at numbers later in
    let count = c.count in
    let order = f.behind m known in
    let own = f.own m known (omega arith) in
    let under = c.under (entry_at firsts m) later x (omega arith) first to (sym own) q is_q in_time taken small in
    let most = l.under m x known (omega arith) small in
    omega (arith, ints)

-- The row that is made for a piece is a bound behind it, put together from its steps: it starts at what ending there adds; it is
-- lowered to the piece that follows directly, to the chains behind short pauses by the rows of lists without a long pause, to those
-- behind long pauses by the rows of lists with one, and made to fall. Each later step only lowers, so what an earlier one reached
-- stays; and each later piece is reached by one of them.
pub bounded : (d : DutyFacts) (prices : List Price) (g : Group) (r : Reach) (long : ℕ) (last : ℤ) (numbers : List ℕ)
    (rows over chain over_chain : List (List ℤ)) (near far : List ℕ) (k direct : ℕ)
    (value : ℤ) (one two three new : List ℤ) → IsReach r →
    ((p : Piece) (off : ℤ) → slice_get d.pieces k ≡ Some p → sign_off d g p ≡ Some off → off ≤ℤ last → value ≤ℤ off_value d.counts g off) →
    IsLoweredByDirect d prices r long rows over k direct (replicate 16 value) one → IsLoweredByAll r chain near k (length near) one two →
    IsLoweredByAll r over_chain far k (length far) two three →
    IsSettled three new 16 → IsChain d prices r numbers rows (k + 1) chain → IsChain d prices r numbers over (k + 1) over_chain →
    AreFirsts d numbers k direct (λ time. time < long) near →
    AreFirsts d numbers k direct (λ time. long ≤ time) far → IsBoundRow d prices g r long last rows over k new
bounded d prices g r long last numbers rows over chain over_chain near far k direct value one two three new reach closes
    l1 l2 l3 s c o f h = record {
      closes = λ p off x less is_p is_off in_time.
          let width = reach.width in
          let same = repeated 16 x value (omega arith) in
          let close = closes p off is_p is_off in_time in
          let a = l1.at_most x in let b = l2.at_most x in let e = l3.at_most x in let t = s.at_most x in
          omega (arith, ints);
      steps = λ later time x from to is_time. split (IsUnder d prices r (behind long time rows over) later x (number_at new x)) later direct
          (λ e. let P : ℕ → Type 0 =
          λ n. pause_at d k n ≡ Some time → n < length d.pieces → IsUnder d prices r (behind long time rows over) n x (number_at new x) in
          subst P (sym e) (λ at there. under-less d prices r (behind long time rows over) direct x (number_at new x) (number_at one x)
          (l1.under time x there at)
          (let b = l2.at_most x in let e = l3.at_most x in let t = s.at_most x in omega (arith, ints))) is_time to)
          (λ apart. let Q : Bool → Type 0 = λ b. IsUnder d prices r (cond b over rows) later x (number_at new x) in
          either time long (IsUnder d prices r (behind long time rows over) later x (number_at new x))
          (λ short. subst Q (sym (not-long long time short))
          (under-first d prices r numbers rows chain (λ t. t < long) near k direct later time x one two (number_at new x) c f l2 (let e =
          l3.at_most x in let t = s.at_most x in omega (arith, ints))
          from to apart is_time short))
          (λ enough. subst Q (sym (is-long long time enough))
          (under-first d prices r numbers over over_chain (λ t. long ≤ t) far k direct later time x two three (number_at new x) o h l3
          (s.at_most x) from to apart is_time enough)));
    }

pub bounded-falls : (value : ℤ) (r : Reach) (chain over_chain : List (List ℤ)) (near far : List ℕ) (d : DutyFacts) (prices : List Price)
    (long : ℕ) (rows over : List (List ℤ)) (k direct n m : ℕ) (one two three new : List ℤ) →
    value ≤ℤ pos 7000000000000 → IsLoweredByDirect d prices r long rows over k direct (replicate 16 value) one →
    IsLoweredByAll r chain near k n one two → IsLoweredByAll r over_chain far k m two three →
    IsSettled three new 16 → IsFalling new
bounded-falls value r chain over_chain near far d prices long rows over k direct n m one two three new high l1 l2 l3 s = record {
  high = λ x. let most = repeated-high 16 x value high in
      let a = l1.at_most x in let b = l2.at_most x in let e = l3.at_most x in let t = s.at_most x in omega (arith, ints);
  falls = s.falls;
}

-- what ending adds is not too low
ended-low : (value : ℤ) (k : ℕ) → k < 3000 → neg_ℤ (pos 7000000000000) ≤ℤ value → IsLow (low_of k) (replicate 16 value)
ended-low value k few low x less = let same = repeated 16 x value less in omega (arith, ints)

pub bounded-low : (value : ℤ) (r : Reach) (chain over_chain : List (List ℤ)) (near far : List ℕ) (d : DutyFacts) (prices : List Price)
    (long : ℕ) (rows over : List (List ℤ)) (k direct n m : ℕ) (one two three new : List ℤ) →
    k < 3000 → neg_ℤ (pos 7000000000000) ≤ℤ value → IsLoweredByDirect d prices r long rows over k direct (replicate 16 value) one →
    IsLoweredByAll r chain near k n one two →
    IsLoweredByAll r over_chain far k m two three → IsSettled three new 16 → IsLow (low_of k) new
bounded-low value r chain over_chain near far d prices long rows over k direct n m one two three new few low l1 l2 l3 s =
    s.least (low_of k) (l3.low (l2.low (l1.low (ended-low value k few low))))

-- The first pieces of each number behind a piece are those that are asked for.
firsts-of : (d : DutyFacts) (f : Followers) (k direct long : ℕ) (Such : ℕ → Type 0) (firsts : List ℕ) → AreFollowed d.pieces d.params f →
    AreFirstBehind (facts d.pieces d.params) f.points.numbers.items k direct long (k + 1) firsts → length firsts ≡ f.points.kinds →
    ((time : ℕ) → Such time → long ≤ time) →
    AreFirsts d f.points.numbers.items k direct Such firsts
firsts-of d f k direct long Such firsts a h size enough = record {
  own = h.own;
  behind = h.behind;
  first = λ next time from to apart is_time such. (
    let few =
        a.points.below next to in omega arith,
    h.first next time (omega arith) to apart is_time (enough time such),
  );
}

firsts-at : (d : DutyFacts) (f : Followers) (k direct long : ℕ) (Such : ℕ → Type 0) (numbers own firsts : List ℕ) →
    AreFollowed d.pieces d.params f →
    AreFirstBehind (facts d.pieces d.params) f.points.numbers.items k direct long (k + 1) own → length own ≡ f.points.kinds →
    ((time : ℕ) → Such time → long ≤ time) →
    numbers ≡ f.points.numbers.items → firsts ≡ own → AreFirsts d numbers k direct Such firsts
firsts-at d f k direct long Such numbers own firsts a h size enough of_numbers of_firsts =
    let P : List ℕ → Type 0 = λ l. AreFirsts d l k direct Such firsts in
    let Q : List ℕ → Type 0 = λ l. AreFirsts d f.points.numbers.items k direct Such l in
    subst P (sym of_numbers) (subst Q (sym of_firsts) (firsts-of d f k direct long Such own a h size enough))

-- behind pauses of any length
pub all-firsts : (d : DutyFacts) (f : Followers) (k : ℕ) (own : Follower) (numbers firsts : List ℕ) → AreFollowed d.pieces d.params f →
    slice_get f.behind.items k ≡ Some own →
    numbers ≡ f.points.numbers.items → firsts ≡ own.near.items → AreFirsts d numbers k own.direct (λ time. 0 ≤ time) firsts
all-firsts d f k own numbers firsts a is of_numbers of_firsts = let e = a.each k own is in
    firsts-at d f k own.direct 0 (λ time. 0 ≤ time) numbers own.near.items firsts a e.near e.near_count (λ time h. h) of_numbers of_firsts

-- behind pauses that are not long
pub near-firsts : (d : DutyFacts) (f : Followers) (k : ℕ) (own : Follower) (numbers firsts : List ℕ) → AreFollowed d.pieces d.params f →
    slice_get f.behind.items k ≡ Some own →
    numbers ≡ f.points.numbers.items → firsts ≡ own.near.items → AreFirsts d numbers k own.direct (λ time. time < 10800) firsts
near-firsts d f k own numbers firsts a is of_numbers of_firsts = let e = a.each k own is in
    firsts-at d f k own.direct 0 (λ time. time < 10800) numbers own.near.items firsts a e.near e.near_count
    (λ time h. omega arith) of_numbers of_firsts

-- behind long ones
pub far-firsts : (d : DutyFacts) (f : Followers) (k : ℕ) (own : Follower) (numbers firsts : List ℕ) → AreFollowed d.pieces d.params f →
    slice_get f.behind.items k ≡ Some own →
    numbers ≡ f.points.numbers.items → firsts ≡ own.far.items → AreFirsts d numbers k own.direct (λ time. 10800 ≤ time) firsts
far-firsts d f k own numbers firsts a is of_numbers of_firsts = let e = a.each k own is in
    firsts-at d f k own.direct 10800 (λ time. 10800 ≤ time) numbers own.far.items firsts a e.far e.far_count
    (λ time h. h) of_numbers of_firsts

-- no pauses are asked for
pub no-firsts : (d : DutyFacts) (numbers : List ℕ) (item direct : ℕ) → AreFirsts d numbers item direct (λ time. time < 0) []
no-firsts d numbers item direct = record {
  own = λ m less. absurd (omega arith);
  behind = λ m less. absurd (omega arith);
  first =
      λ next time from to apart is_time few. absurd (omega arith);
}
