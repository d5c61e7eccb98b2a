-- The numbers of marks fit.
use Rattle.std.proofs.Common.{◌≡◌, ℕ, ℤ, pos, negsuc, neg_ℤ, ◌-ℤ◌, ◌*ℤ◌, ◌≤ℤ◌, ◌*◌, ◌≤◌, Bool, true, false, cond, zero, suc, List, [], ◌∷◌, arith, subst}
use Rattle.std.proofs.lemmas.Int.{ints}
use Rattle.std.proofs.Math.Nat.{mul-le-mul}
use lib.IntN.{pos-*ℤ-pos, pos-*ℤ-negsuc}
use Rattle.std.specs.Prelude.{All, Some, ◌&&◌, nat_lt, slice_get, length, if◌then◌else◌}
use Rattle.std.specs.List.{find}
use Rattle.std.specs.Option.{option_map}
use Rattle.std.proofs.lemmas.List.Elements.{All-head, All-tail}
use Rattle.std.proofs.lemmas.Bool.{and_parts, ltb-true}
use Rattle.plan_core.specs.declared.types.Point.{Point}
use Rattle.vdv452_tables.specs.Keys.{point_eq}
use Rattle.plan_params.specs.declared.rows.ParamRows.{ParamRows}
use Rattle.plan_params.specs.declared.rows.way.Way.{Way}
use Rattle.plan_core.specs.declared.types.Price.{Price}
use Rattle.cover_core.specs.FirstLeast.{AllWithin}
use Rattle.cover_core.proofs.Values.{price_at-within}
use Rattle.plan_core.specs.declared.types.Piece.{Piece}
use Rattle.label_search.specs.Laws.{IsSafe}
use Rattle.eu561_rules.proofs.Runs.{true-le}
use Rattle.plan_params.specs.declared.rows.group.Group.{Group}
use Rattle.plan_params.specs.Limits.{IsGroup}
use Rattle.plan_params.specs.LookUps.{way_in}
use Rattle.vdv452_tables.specs.Ranges.{IsTime}
use Rattle.cover_core.specs.declared.marks.Mark.{Mark}
use Rattle.duty_network.specs.Duties.{DutyFacts, pause, sign_on}
use Rattle.duty_network.specs.Marks.{is_open, one_mark, next_mark, marking}
use Rattle.duty_network.specs.Ranges.{AreTimed, IsShift, MarkFits, NetFits, on_value, off_value}
use Rattle.duty_network.proofs.Better.{Some-same, and_then-Some, given-Some}
use Rattle.duty_network.proofs.Tied.{at-below}

pub timed-from : (xs : List Piece) → All IsShift xs → AreTimed xs
timed-from [] h = tt
timed-from (x ∷ xs) h =
    let own : IsShift x = All-head IsShift x xs h in
    let begins = own.begins in let order = own.order in let ends = own.ends in let driving = own.driving in
    (record { begins = own.begins; order = own.order; driving = omega (arith, ints) }, timed-from xs (All-tail IsShift x xs h))

pub shift-at : (xs : List Piece) (k : ℕ) (p : Piece) → All IsShift xs → slice_get xs k ≡ Some p → IsShift p
shift-at [] k p h e = absurd (cc)
shift-at (x ∷ xs) zero p h e = let P : Piece → Type 0 = λ y. IsShift y in subst P (Some-same x p e) (All-head IsShift x xs h)
shift-at (x ∷ xs) (suc k) p h e = shift-at xs k p (All-tail IsShift x xs h) e

abbrev time_of : Way → ℕ
time_of way = way.time

abbrev IsTimedWay : Way → Type 0
IsTimedWay way = IsTime way.time

found-time : (test : Way → Bool) (ways : List Way) (n : ℕ) → All IsTimedWay ways → option_map time_of (find test ways) ≡ Some n → n ≤ 172800
found-time test [] n h e = absurd (cc)
found-time test (x ∷ xs) n h e =
    elim (test x) as (λ b. option_map time_of (if b then Some x else find test xs) ≡ Some n → n ≤ 172800) [
      | true ↦ λ f. let own : IsTimedWay x = All-head IsTimedWay x xs h in let same : x.time ≡ n = Some-same x.time n f in omega arith
      | false ↦ λ f. found-time test xs n (All-tail IsTimedWay x xs h) f
    ] e

-- no way takes more than two days
pub way-short : (params : ParamRows) (a b : Point) (n : ℕ) → All IsTimedWay params.ways → way_in params a b ≡ Some n → n ≤ 172800
way-short params a b n h e =
    elim (point_eq a b) as (λ t.
    (if t then Some 0 else option_map time_of (find (λ (way : Way). point_eq way.from a && point_eq way.to b) params.ways)) ≡ Some n →
    n ≤ 172800) [
      | true ↦ λ f. let same : 0 ≡ n = Some-same 0 n f in omega arith
      | false ↦ λ f. found-time (λ (way : Way). point_eq way.from a && point_eq way.to b) params.ways n h f
    ] e

-- a rate times a number of seconds
pub rate-range : (rate : ℕ) (time : ℤ) → rate ≤ 10000 → neg_ℤ (pos 345600) ≤ℤ time → time ≤ℤ pos 691200 →
    (neg_ℤ (pos 3456000000) ≤ℤ (pos rate *ℤ time)) × ((pos rate *ℤ time) ≤ℤ pos 6912000000)
rate-range rate (pos n) h low high =
    let small : n ≤ 691200 = omega (arith, ints) in
    let most : rate * n ≤ 10000 * 691200 = mul-le-mul h small in
    let is : pos rate *ℤ pos n ≡ pos (rate * n) = pos-*ℤ-pos rate n in
    (omega (arith, ints), omega (arith, ints))
rate-range rate (negsuc n) h low high =
    let small : suc n ≤ 345600 = omega (arith, ints) in
    let most : rate * suc n ≤ 10000 * 345600 = mul-le-mul h small in
    let is : pos rate *ℤ negsuc n ≡ neg_ℤ (pos (rate * suc n)) = pos-*ℤ-negsuc rate n in
    (omega (arith, ints), omega (arith, ints))

pub on-range : (counts : Bool) (g : Group) (on : ℤ) → IsGroup g → neg_ℤ (pos 345600) ≤ℤ on → on ≤ℤ pos 345600 →
    (neg_ℤ (pos 7000000000000) ≤ℤ on_value counts g on) × (on_value counts g on ≤ℤ pos 7000000000000)
on-range true g on m low high = (omega (arith, ints), omega (arith, ints))
on-range false g on m low high =
    let (least, most) = rate-range g.rate on m.rate low (omega (arith, ints)) in
    let fixed = m.fixed in (omega (arith, ints), omega (arith, ints))

pub off-range : (counts : Bool) (g : Group) (off : ℤ) → IsGroup g → neg_ℤ (pos 345600) ≤ℤ off → off ≤ℤ pos 691200 →
    (neg_ℤ (pos 7000000000000) ≤ℤ off_value counts g off) × (off_value counts g off ≤ℤ pos 7000000000000)
off-range true g off m low high = (omega (arith, ints), omega (arith, ints))
off-range false g off m low high =
    let (least, most) = rate-range g.rate off m.rate low high in (omega (arith, ints), omega (arith, ints))

day-most : (b : Bool) → cond b 36000 32400 ≤ 36000
day-most true = omega arith
day-most false = omega arith

open-fits : (g : Group) (m : Mark) (end : ℤ) → is_open g m end ≡ true → (m.driving ≤ 16200) × (m.total ≤ 36000)
open-fits g m end e =
    let (low, last) = and_parts _ _ e in
    let (driving, total) = and_parts _ _ low in
    let less : m.driving ≤ 16200 = true-le m.driving 16200 driving in
    let few : m.total ≤ cond g.ten 36000 32400 = true-le _ _ total in
    let most = day-most g.ten in
    (less, omega arith)

pub on-fits : (d : DutyFacts) (g : Group) (p : Piece) (on : ℤ) → NetFits d → IsGroup g → IsShift p → sign_on d g p ≡ Some on →
    (neg_ℤ (pos 345600) ≤ℤ on) × (on ≤ℤ pos 345600)
on-fits d g p on f m s e =
    let (way, is_way, e1) = and_then-Some _ (way_in d.params g.home p.from) on e in
    let same : p.begin.0 -ℤ pos way -ℤ pos g.sign_on ≡ on = Some-same _ on e1 in
    let short = way-short d.params g.home p.from way f.params.ways is_way in
    let begins = s.begins in let order = s.order in let ends = s.ends in let before = m.sign_on in
    (omega (arith, ints), omega (arith, ints))

-- No number of a mark is too large for the machine: sign-on lies within four days of midnight, driving keeps its limits as the mark
-- is open, and the value changes by at most one price with each piece. The bound on the value is by the number of the last piece,
-- which rises, so that each further piece has room for its price.
pub marking-safe : (d : DutyFacts) (prices : List Price) (class : ℕ) (g : Group) → NetFits d → IsGroup g → AllWithin 10000000000000 prices →
    IsSafe (marking d prices class g) (MarkFits (length d.pieces))
marking-safe d prices class g f modest w = record {
  starts = λ k m e.
      let (p, is_p, e1) = and_then-Some _ (slice_get d.pieces k) m e in
      let (on, is_on, e2) = and_then-Some _ (sign_on d g p) m e1 in
      let (test, made) = given-Some _ _ m e2 in
      let (early, late) = on-fits d g p on f modest (shift-at d.pieces k p f.shifts is_p) is_on in
      let (least, most) = on-range d.counts g on modest early late in
      let own = price_at-within 10000000000000 prices k w in let plow = own.low in let phigh = own.high in
      let first : Mark = one_mark d.counts prices class g k p on in
      let (driving, total) = open-fits g first p.end.0 test in
      let below = at-below d.pieces k p is_p in
      let few = f.few in
      let P : Mark → Type 0 = λ x. MarkFits (length d.pieces) x in
      let fits : MarkFits (length d.pieces) first =
      record {
        piece = omega arith;
        few = f.few;
        early = early;
        late = late;
        driving = driving;
        total = total;
        low =
            omega (arith, ints);
        high = omega (arith, ints);
      } in
      subst P (Some-same first m made) fits;
  steps = λ a b k h e.
      let (p, is_p, e1) = and_then-Some _ (slice_get d.pieces a.piece) b e in
      let (q, is_q, e2) = and_then-Some _ (slice_get d.pieces k) b e1 in
      let (time, is_time, e3) = and_then-Some _ (pause d p q) b e2 in
      let (test, made) = given-Some _ _ b e3 in
      let next : Mark = next_mark g prices a time k q in
      let (later, open_next) = and_parts (nat_lt a.piece k) (is_open g next q.end.0) test in
      let order = ltb-true a.piece k later in
      let (driving, total) = open-fits g next q.end.0 open_next in
      let own = price_at-within 10000000000000 prices k w in let plow = own.low in let phigh = own.high in
      let below = at-below d.pieces k q is_q in
      let few = f.few in
      let low = h.low in let high = h.high in
      let P : Mark → Type 0 = λ x. MarkFits (length d.pieces) x in
      let fits : MarkFits (length d.pieces) next = record {
        piece = omega arith;
        few = f.few;
        early = h.early;
        late = h.late;
        driving =
            driving;
        total = total;
        low = omega (arith, ints);
        high = omega (arith, ints);
      } in
      subst P (Some-same next b made) fits;
}
