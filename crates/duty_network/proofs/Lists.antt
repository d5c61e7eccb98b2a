-- A list of pieces is a lawful duty exactly where its mark exists and closes.
use Rattle.std.proofs.Common.{◌≡◌, ℕ, ℤ, pos, ◌+ℤ◌, ◌-ℤ◌, ◌*ℤ◌, ◌≤ℤ◌, ◌+◌, ◌*◌, ◌≤◌, Bool, true, false, cond, ◌||◌, zero, suc, List, [], ◌∷◌, refl, sym, ap, ◌∙◌, arith, subst}
use Rattle.std.proofs.lemmas.Int.{ints}
use lib.IntN.{suc_ℤ-*ℤ}
use Rattle.std.specs.Prelude.{Option, Some, None, option_and_then, nat_le, int_le, negsuc, slice_get}
use Rattle.std.proofs.lemmas.Bool.{and_from, and_parts}
use Rattle.plan_core.specs.declared.types.Price.{Price}
use Rattle.cover_core.specs.Plans.{price_at, price_of, value_of}
use Rattle.cover_core.specs.Labels.{label_after, label_of}
use Rattle.plan_core.specs.declared.types.Piece.{Piece}
use Rattle.plan_params.specs.LookUps.{way_in}
use Rattle.duty_network.specs.Times.{given, rises, seconds}
use Rattle.eu561_rules.specs.declared.rules.Drive.{Drive}
use Rattle.eu561_rules.specs.declared.rules.Limits.{Limits}
use Rattle.eu561_rules.specs.Summary.{Summary, StandsFor, tally_after}
use Rattle.eu561_rules.specs.Duty.{completes_break}
use Rattle.eu561_rules.specs.Lawful.{no_drives, run, IsFine, AreBounded, is_lawful}
use Rattle.eu561_rules.proofs.Tallies.{either}
use Rattle.eu561_rules.proofs.Runs.{after-limits, run-limits, run-stands, run-fine-back, fine-next, lawful-from, lawful-onto, le-true, true-le}
use Rattle.plan_params.specs.declared.rows.group.Group.{Group}
use Rattle.cover_core.specs.declared.marks.Mark.{Mark}
use Rattle.duty_network.specs.Duties.{Duty, DutyFacts, begins, cost_of, drives_after, drives_of, duty_of, duty_worth, ends, follows, last_piece, limits_of, pause, pieces_at, sign_off, sign_on}
use Rattle.duty_network.specs.Ranges.{AreTimed, IsTimed}
use Rattle.duty_network.specs.Marks.{is_open, one_mark, first_mark, next_mark, extended_mark, marking, closes_lawfully, closed_value}
use Rattle.duty_network.proofs.Better.{Some-same, and_then-Some, given-Some, extended-is, closed-is}

abbrev pub drive_of : ℕ → Piece → Drive
drive_of time q = record { pause = time; driving = q.driving }

-- The file is a simulation: the rules judge all drives of a duty at once, a tally judges them one by one, and a mark keeps of a
-- tally only the driving since the last full break, the driving in all, and whether a quarter of an hour and a long pause were had.
-- That a mark has a tally's fields is the relation that is carried along: from the first piece (`first-fields`) over each further
-- one (`next-fields`), where both do the same with the pause and the driving of the piece.
pub record FieldsAre (m : Mark) (t : Summary) : Type 0 where
  pub driving : m.driving ≡ t.driving
  pub quarter : m.quarter ≡ t.quarter
  pub total : m.total ≡ t.total
  pub three : m.three ≡ t.long

next-fields : (g : Group) (prices : List Price) (m : Mark) (t : Summary) (time k : ℕ) (q : Piece) → t.limits ≡ limits_of g → FieldsAre m t →
    FieldsAre (next_mark g prices m time k q) (tally_after t (drive_of time q))
next-fields g prices m t time k q limits f =
    let long : t.limits.long_pause ≡ 10800 = ap (λ (l : _). l.long_pause) limits in
    let three : (m.three || nat_le 10800 time) ≡ (t.long || nat_le t.limits.long_pause time) =
    rw long (ap (λ b. b || nat_le 10800 time) f.three) in
    either (λ (t' : Summary). FieldsAre (next_mark g prices m time k q) t') (completes_break t.quarter time) _ _
    (λ full. let same : completes_break m.quarter time ≡ true = ap (λ b. completes_break b time) f.quarter ∙ full in record {
      driving = rw same (omega arith);
      quarter = rw same refl;
      total = omega (arith, f.total);
      three = three;
    })
    (λ part. let same : completes_break m.quarter time ≡ false = ap (λ b. completes_break b time) f.quarter ∙ part in record {
      driving = rw same (omega (arith, f.driving));
      quarter = rw same (ap (λ b. nat_le 900 time || b) f.quarter);
      total = omega (arith, f.total);
      three = three;
    })

-- What is known of a list that leads from one mark to a later one: its pieces and drives are there, its numbers rise, the later mark
-- has the fields of the tally over these drives, this tally is fine, and the values differ by the prices of the list. It says all
-- that the end of a duty is judged by.
pub record Follows (d : DutyFacts) (g : Group) (prices : List Price) (m : Mark) (p : Piece) (t : Summary)
    (list : List ℕ) (m' : Mark) : Type 0 where
  pub qs : List Piece
  pub ds : List Drive
  pub pieces : pieces_at d.pieces list ≡ Some qs
  pub drives : drives_after d p qs ≡ Some ds
  pub rising : rises (m.piece ∷ list) ≡ true
  pub piece : slice_get d.pieces m'.piece ≡ Some (last_piece p qs)
  pub fields : FieldsAre m' (run t ds)
  pub fine : IsFine (run t ds)
  pub start : m'.start.0 ≡ m.start.0
  pub value : m'.value +ℤ price_of prices list ≡ m.value

drives-more : (d : DutyFacts) (p q : Piece) (qs : List Piece) (time : ℕ) (ds : List Drive) → pause d p q ≡ Some time →
    drives_after d q qs ≡ Some ds →
    drives_after d p (q ∷ qs) ≡ Some (drive_of time q ∷ ds)
drives-more d p q qs time ds e h = rw (e, h) refl

pieces-more : (pieces : List Piece) (k : ℕ) (ks : List ℕ) (q : Piece) (qs : List Piece) → slice_get pieces k ≡ Some q →
    pieces_at pieces ks ≡ Some qs →
    pieces_at pieces (k ∷ ks) ≡ Some (q ∷ qs)
pieces-more pieces k ks q qs e h = rw (e, h) refl

-- the limits of a fine tally, for a mark with its fields
int_le-true : (off start on : ℤ) (time n : ℕ) → start ≡ on → off ≡ on +ℤ pos time → time ≤ n → int_le (off -ℤ start) (pos n) ≡ true
int_le-true off start on time n e h below = grind (arith, ints)

true-int_le : (off start on : ℤ) (time n : ℕ) → start ≡ on → off ≡ on +ℤ pos time → int_le (off -ℤ start) (pos n) ≡ true → time ≤ n
true-int_le off start on time n e h below = grind (arith, ints)

open-fine : (g : Group) (m : Mark) (t : Summary) (end : ℤ) → t.limits ≡ limits_of g → FieldsAre m t → IsFine t →
    end ≤ℤ (m.start.0 +ℤ pos 54000) → is_open g m end ≡ true
open-fine g m t end limits f fine below =
    let block : t.limits.block ≡ (limits_of g).block = ap (λ (l : _). l.block) limits in
    let day : t.limits.day ≡ (limits_of g).day = ap (λ (l : _). l.day) limits in
    and_from _ _ (and_from _ _ (le-true m.driving (limits_of g).block (omega (arith, f.driving, fine.driving)))
    (le-true m.total (limits_of g).day (omega (arith, f.total, fine.total)))) (grind (arith, ints))

fine-open : (g : Group) (m : Mark) (t : Summary) (d : Drive) (end : ℤ) → t.limits ≡ limits_of g → IsFine t → FieldsAre m (tally_after t d) →
    is_open g m end ≡ true → IsFine (tally_after t d)
fine-open g m t d end limits fine f e =
    let block : t.limits.block ≡ (limits_of g).block = ap (λ (l : _). l.block) limits in
    let day : t.limits.day ≡ (limits_of g).day = ap (λ (l : _). l.day) limits in
    let (low, last) = and_parts _ _ e in
    let (driving, total) = and_parts _ _ low in
    let less : m.driving ≤ (limits_of g).block = true-le _ _ driving in
    let few : m.total ≤ (limits_of g).day = true-le _ _ total in
    fine-next t d fine (omega (arith, f.driving)) (omega (arith, f.total))

-- From marks to lists, by induction over the list from any mark: each extension has tested that the piece is a later one, that its
-- pause is there and that the mark stays open. An open mark with a tally's numbers means a fine tally (`fine-open`), so the tally of
-- the whole list is fine if all marks on the way are there.
from-label : (d : DutyFacts) (prices : List Price) (class : ℕ) (g : Group) (list : List ℕ) (m m' : Mark) (p : Piece) (t : Summary) →
    slice_get d.pieces m.piece ≡ Some p → t.limits ≡ limits_of g → FieldsAre m t → IsFine t →
    label_after (marking d prices class g) (Some m) list ≡ Some m' → Follows d g prices m p t list m'
from-label d prices class g [] m m' p t here limits f fine e =
    let same : m ≡ m' = Some-same m m' e in
    let P : Mark → Type 0 = λ x. Follows d g prices m p t [] x in
    subst P same (record {
      qs = [];
      ds = [];
      pieces = refl;
      drives = refl;
      rising = refl;
      piece = here;
      fields = f;
      fine = fine;
      start =
          refl;
      value = omega (arith, ints);
    })
from-label d prices class g (k ∷ ks) m m' p t here limits f fine e =
    elim (extended_mark d g prices m k) as (λ o. extended_mark d g prices m k ≡ o → label_after (marking d prices class g) o ks ≡ Some m' →
    Follows d g prices m p t (k ∷ ks) m') [
      | None ↦ λ is e'. absurd (cc)
      | Some x ↦ λ is e'.
          let (p1, is_p, e1) = and_then-Some _ (slice_get d.pieces m.piece) x is in
          let (q, is_q, e2) = and_then-Some _ (slice_get d.pieces k) x e1 in
          let (time, is_time, e3) = and_then-Some _ (pause d p1 q) x e2 in
          let (test, made) = given-Some _ _ x e3 in
          let (later, open_x) = and_parts _ _ test in
          let same_p : p1 ≡ p = Some-same p1 p (sym is_p ∙ here) in
          let next : next_mark g prices m time k q ≡ x = Some-same _ x made in
          let t' : Summary = tally_after t (drive_of time q) in
          let f' = next-fields g prices m t time k q limits f in
          let fine' : IsFine t' = fine-open g (next_mark g prices m time k q) t (drive_of time q) q.end.0 limits fine f' open_x in
          let P : Mark → Type 0 = λ y. FieldsAre y t' in
          let piece_x : k ≡ x.piece = ap (λ (y : Mark). y.piece) next in
          let start_x : m.start.0 ≡ x.start.0 = ap (λ (y : Mark). y.start.0) next in
          let value_x : m.value -ℤ price_at prices k ≡ x.value = ap (λ (y : Mark). y.value) next in
          let at_x : slice_get d.pieces x.piece ≡ Some q = ap (slice_get d.pieces) (sym piece_x) ∙ is_q in
          let rest = from-label d prices class g ks x m' q t' at_x (after-limits t (drive_of time q) ∙ limits) (subst P next f') fine' e' in
          let between : pause d p q ≡ Some time = ap (λ y. pause d y q) (sym same_p) ∙ is_time in
          let rising : rises (k ∷ ks) ≡ true = ap (λ i. rises (i ∷ ks)) piece_x ∙ rest.rising in
          let value_rest = rest.value in
          record {
            qs = q ∷ rest.qs;
            ds = drive_of time q ∷ rest.ds;
            pieces = pieces-more d.pieces k ks q rest.qs is_q rest.pieces;
            drives = drives-more d p q rest.qs time rest.ds between rest.drives;
            rising = and_from _ _ later rising;
            piece = rest.piece;
            fields = rest.fields;
            fine = rest.fine;
            start = rest.start ∙ sym start_x;
            value = omega (arith, ints);
          }
    ] refl e

seconds-is : (z : ℤ) (n : ℕ) → seconds z ≡ Some n → z ≡ pos n
seconds-is (pos k) n e = let same = Some-same k n e in ap pos same
seconds-is (negsuc k) n e = absurd (cc)

order-cases : (b : Bool) (x y : ℤ) (h time : ℕ) (o : Option ℕ) →
    cond b (seconds (y -ℤ x)) (option_and_then (λ way. seconds (y -ℤ x -ℤ pos h -ℤ pos way)) o) ≡ Some time → x ≤ℤ y
order-cases true x y h time o e = let is = seconds-is (y -ℤ x) time e in omega (arith, ints)
order-cases false x y h time None e = absurd (cc)
order-cases false x y h time (Some way) e = let is = seconds-is (y -ℤ x -ℤ pos h -ℤ pos way) time e in omega (arith, ints)

onto-seconds : (z : ℤ) (n : ℕ) → z ≡ pos n → seconds z ≡ Some n
onto-seconds z n e = ap seconds e

onto-span : (on off : ℤ) (time : ℕ) → off ≡ on +ℤ pos time → seconds (off -ℤ on) ≡ Some time
onto-span on off time e = onto-seconds (off -ℤ on) time (omega (arith, ints))

-- A pause between two pieces is there only where the second one begins when the first has ended, or later: in one block it is all
-- the time between them, else what is left after handover and way, and seconds are not below 0. Therefore the last piece of a list
-- ends last (`ends-rise`), and a list that ends within 15 hours of its sign-on has done so all along.
pub pause-order : (d : DutyFacts) (p q : Piece) (time : ℕ) → pause d p q ≡ Some time → p.end.0 ≤ℤ q.begin.0
pause-order d p q time e = order-cases (follows p q) p.end.0 q.begin.0 d.params.settings.handover time (way_in d.params p.to q.from) e

pub pieces-parts : (pieces : List Piece) (k : ℕ) (ks : List ℕ) (qs : List Piece) → pieces_at pieces (k ∷ ks) ≡ Some qs →
    (q : Piece) × (rest : List Piece) × (slice_get pieces k ≡ Some q) × (pieces_at pieces ks ≡ Some rest) × ((q ∷ rest) ≡ qs)
pieces-parts pieces k ks qs e =
    let (q, is_q, e1) = and_then-Some _ (slice_get pieces k) qs e in
    let (rest, is_rest, e2) = and_then-Some _ (pieces_at pieces ks) qs e1 in
    (q, rest, is_q, is_rest, Some-same _ _ e2)

pub drives-parts : (d : DutyFacts) (p q : Piece) (qs : List Piece) (ds : List Drive) → drives_after d p (q ∷ qs) ≡ Some ds →
    (time : ℕ) × (rest : List Drive) × (pause d p q ≡ Some time) × (drives_after d q qs ≡ Some rest) × ((drive_of time q ∷ rest) ≡ ds)
drives-parts d p q qs ds e =
    let (time, is_time, e1) = and_then-Some _ (pause d p q) ds e in
    let (rest, is_rest, e2) = and_then-Some _ (drives_after d q qs) ds e1 in
    (time, rest, is_time, is_rest, Some-same _ _ e2)

pub at-timed : (pieces : List Piece) (k : ℕ) (p : Piece) → AreTimed pieces → slice_get pieces k ≡ Some p → IsTimed p
at-timed [] k p h e = absurd (cc)
at-timed (x ∷ xs) zero p h e = let P : Piece → Type 0 = λ y. IsTimed y in subst P (Some-same x p e) h.0
at-timed (x ∷ xs) (suc k) p h e = at-timed xs k p h.1 e

all-timed : (pieces : List Piece) (ks : List ℕ) (qs : List Piece) → AreTimed pieces → pieces_at pieces ks ≡ Some qs → AreTimed qs
all-timed pieces [] qs h e = let P : List Piece → Type 0 = λ l. AreTimed l in subst P (Some-same [] qs e) tt
all-timed pieces (k ∷ ks) qs h e =
    let (q, rest, is_q, is_rest, same) = pieces-parts pieces k ks qs e in
    let P : List Piece → Type 0 = λ l. AreTimed l in
    subst P same (at-timed pieces k q h is_q, all-timed pieces ks rest h is_rest)

-- later pieces end later
pub ends-rise : (d : DutyFacts) (p : Piece) (qs : List Piece) (ds : List Drive) → AreTimed qs → drives_after d p qs ≡ Some ds →
    p.end.0 ≤ℤ (last_piece p qs).end.0
ends-rise d p [] ds h e = omega (arith, ints)
ends-rise d p (q ∷ qs) ds h e =
    let (time, rest, is_time, is_rest, same) = drives-parts d p q qs ds e in
    let below = pause-order d p q time is_time in
    let own = h.0.order in
    let later = ends-rise d q qs rest h.1 is_rest in
    omega (arith, ints)

drives-bounded : (d : DutyFacts) (p : Piece) (qs : List Piece) (ds : List Drive) → AreTimed qs →
    drives_after d p qs ≡ Some ds → AreBounded ds
drives-bounded d p [] ds h e = let P : List Drive → Type 0 = λ l. AreBounded l in subst P (Some-same [] ds e) tt
drives-bounded d p (q ∷ qs) ds h e =
    let (time, rest, is_time, is_rest, same) = drives-parts d p q qs ds e in
    let P : List Drive → Type 0 = λ l. AreBounded l in
    subst P same (h.0.driving, drives-bounded d q qs rest h.1 is_rest)

-- From lists to marks: if the tally over all drives is fine and the last piece ends within 15 hours of sign-on, the list has a mark,
-- and so has each list that it goes on from. A fine tally was fine after each piece (`run-fine-back`), and each piece ends no later
-- than the last one, so no test on the way fails. By it no lawful duty is lost when open lists are cut off early.
onto-label : (d : DutyFacts) (prices : List Price) (class : ℕ) (g : Group) (list : List ℕ) (qs : List Piece) (ds : List Drive)
    (m : Mark) (p : Piece) (t : Summary) →
    slice_get d.pieces m.piece ≡ Some p → t.limits ≡ limits_of g → FieldsAre m t → IsFine (run t ds) → AreTimed qs →
    (last_piece p qs).end.0 ≤ℤ (m.start.0 +ℤ pos 54000) →
    pieces_at d.pieces list ≡ Some qs → drives_after d p qs ≡ Some ds → rises (m.piece ∷ list) ≡ true →
    (m' : Mark) × (label_after (marking d prices class g) (Some m) list ≡ Some m')
onto-label d prices class g [] qs ds m p t here limits f fine timed in_time is_qs is_ds up = (m, refl)
onto-label d prices class g (k ∷ ks) [] ds m p t here limits f fine timed in_time is_qs is_ds up =
    let (q, rest, is_q, is_rest, same) = pieces-parts d.pieces k ks [] is_qs in absurd (cc)
onto-label d prices class g (k ∷ ks) (q ∷ qs) [] m p t here limits f fine timed in_time is_qs is_ds up =
    let (time, more, is_time, is_more, same) = drives-parts d p q qs [] is_ds in absurd (cc)
onto-label d prices class g (k ∷ ks) (q ∷ qs) (x ∷ ds) m p t here limits f fine timed in_time is_qs is_ds up =
    let (q0, rest, is_q0, is_rest, same_q) = pieces-parts d.pieces k ks (q ∷ qs) is_qs in
    let (time, more, is_time, is_more, same_d) = drives-parts d p q qs (x ∷ ds) is_ds in
    let is_q : slice_get d.pieces k ≡ Some q = cc in
    let is_qs' : pieces_at d.pieces ks ≡ Some qs = cc in
    let is_x : x ≡ drive_of time q = cc in
    let is_ds' : drives_after d q qs ≡ Some ds = cc in
    let (later, rising) = and_parts _ _ up in
    let t' : Summary = tally_after t (drive_of time q) in
    let P : Drive → Type 0 = λ y. IsFine (run (tally_after t y) ds) in
    let fine_end : IsFine (run t' ds) = subst P is_x fine in
    let fine' : IsFine t' = run-fine-back t' ds fine_end in
    let f' = next-fields g prices m t time k q limits f in
    let limits' : t'.limits ≡ limits_of g = after-limits t (drive_of time q) ∙ limits in
    let ends = ends-rise d q qs ds timed.1 is_ds' in
    let open_next = open-fine g (next_mark g prices m time k q) t' q.end.0 limits' f' fine' (omega (arith, ints)) in
    let made = extended-is d g prices m k time p q here is_q is_time (and_from _ _ later open_next) in
    let (m', e) = onto-label d prices class g ks qs ds (next_mark g prices m time k q) q t' is_q limits' f' fine_end timed.1
    in_time is_qs' is_ds' rising in
    (m', ap (λ o. label_after (marking d prices class g) o ks) made ∙ e)

first-fields : (counts : Bool) (prices : List Price) (class : ℕ) (g : Group) (k : ℕ) (p : Piece) (on : ℤ) →
    FieldsAre (one_mark counts prices class g k p on) (tally_after (no_drives (limits_of g)) (drive_of 0 p))
first-fields counts prices class g k p on = record { driving = omega arith; quarter = refl; total = omega arith; three = refl }

first-fine : (g : Group) (p : Piece) → p.driving ≤ (limits_of g).block → p.driving ≤ (limits_of g).day →
    IsFine (tally_after (no_drives (limits_of g)) (drive_of 0 p))
first-fine g p block day = record { none = refl; driving = omega arith; total = omega arith }

limit-low : (three reduced : Bool) → cond three 54000 (cond reduced 54000 46800) ≤ 54000
limit-low true reduced = omega arith
limit-low false true = omega arith
limit-low false false = omega arith

suc-times : (n m : ℕ) → suc n * m ≡ n * m + m
suc-times n m = omega arith

product : (rate time : ℕ) (on : ℤ) → pos rate *ℤ (on +ℤ pos time) ≡ (pos rate *ℤ on) +ℤ pos (rate * time)
product zero time on = omega (arith, ints)
product (suc rate) time on =
    let both : pos (suc rate) *ℤ (on +ℤ pos time) ≡ pos rate *ℤ (on +ℤ pos time) +ℤ (on +ℤ pos time) =
    suc_ℤ-*ℤ (pos rate) (on +ℤ pos time) in
    let one : pos (suc rate) *ℤ on ≡ pos rate *ℤ on +ℤ on = suc_ℤ-*ℤ (pos rate) on in
    let more : suc rate * time ≡ rate * time + time = suc-times rate time in
    omega (arith, ints, product rate time on)

-- The value of a duty in sums: the mark takes a thousand times the fixed cost less the rate times sign-on at the start, prices on
-- the way, and the rate times sign-off at the end; together this is a thousand times the fixed cost and the rate times the spread,
-- less all prices. The spread's cost is split in two so that a mark need not know when the duty will end.
value-sum : (counts : Bool) (fixed rate time : ℕ) (on off price rest last : ℤ) → off ≡ on +ℤ pos time →
    last +ℤ rest ≡ (cond counts (pos 1000) (pos 1000 *ℤ (pos fixed -ℤ (pos rate *ℤ on))) -ℤ price) →
    last +ℤ cond counts (pos 0) (pos 1000 *ℤ (pos rate *ℤ off)) ≡ (pos (1000 * cond counts 1 (fixed + rate * time)) -ℤ (price +ℤ rest))
value-sum true fixed rate time on off price rest last e h = omega (arith, ints)
value-sum false fixed rate time on off price rest last e h =
    let out : pos rate *ℤ off ≡ (pos rate *ℤ on) +ℤ pos (rate * time) = ap (λ z. pos rate *ℤ z) e ∙ product rate time on in
    omega (arith, ints)

abbrev pub all_time : DutyFacts → Group → Piece → List Piece → List Drive → Summary
all_time d g p qs ds = run (tally_after (no_drives (limits_of g)) (drive_of 0 p)) ds

all-stands : (d : DutyFacts) (g : Group) (p : Piece) (qs : List Piece) (ds : List Drive) → AreTimed (p ∷ qs) →
    drives_after d p qs ≡ Some ds →
    StandsFor (all_time d g p qs ds) (drive_of 0 p ∷ ds)
all-stands d g p qs ds timed is_ds =
    run-stands (limits_of g) (drive_of 0 p) ds refl (timed.0.driving, drives-bounded d p qs ds timed.1 is_ds)

all-limits : (d : DutyFacts) (g : Group) (p : Piece) (qs : List Piece) (ds : List Drive) → (all_time d g p qs ds).limits ≡ limits_of g
all-limits d g p qs ds =
    run-limits (tally_after (no_drives (limits_of g)) (drive_of 0 p)) ds ∙ after-limits (no_drives (limits_of g)) (drive_of 0 p)

pub off-is : (d : DutyFacts) (g : Group) (p : Piece) (off : ℤ) → sign_off d g p ≡ Some off → p.end.0 ≤ℤ off
off-is d g p off e =
    let (way, is_way, e1) = and_then-Some _ (way_in d.params p.to g.home) off e in
    let same = Some-same (p.end.0 +ℤ pos way +ℤ pos g.sign_off) off e1 in omega (arith, ints)

on-is : (d : DutyFacts) (g : Group) (p : Piece) (on : ℤ) → sign_on d g p ≡ Some on → on ≤ℤ p.begin.0
on-is d g p on e =
    let (way, is_way, e1) = and_then-Some _ (way_in d.params g.home p.from) on e in
    let same = Some-same (p.begin.0 -ℤ pos way -ℤ pos g.sign_on) on e1 in omega (arith, ints)

first-is : (d : DutyFacts) (prices : List Price) (class : ℕ) (g : Group) (k : ℕ) (p : Piece) (on : ℤ) →
    slice_get d.pieces k ≡ Some p → sign_on d g p ≡ Some on → is_open g (one_mark d.counts prices class g k p on) p.end.0 ≡ true →
    first_mark d prices class g k ≡ Some (one_mark d.counts prices class g k p on)
first-is d prices class g k p on is_p is_on test = rw (is_p, is_on, test) refl

-- At the end of a list: a mark with the fields of a fine tally closes where the spread keeps the tally's limit, which is the longer
-- one behind a long pause; and where it closes the spread keeps that limit (`fields-close`). So the last test of the search is just
-- what the articles still ask.
close-fields : (g : Group) (m : Mark) (t : Summary) (off on : ℤ) (time : ℕ) → t.limits ≡ limits_of g → FieldsAre m t → IsFine t →
    m.start.0 ≡ on → off ≡ on +ℤ pos time →
    time ≤ cond t.long t.limits.long_spread t.limits.spread → closes_lawfully g m off ≡ true
close-fields g m t off on time limits f fine start is_time below =
    let block : t.limits.block ≡ (limits_of g).block = ap (λ (l : _). l.block) limits in
    let day : t.limits.day ≡ (limits_of g).day = ap (λ (l : _). l.day) limits in
    let spread : cond t.long t.limits.long_spread t.limits.spread ≡ cond m.three (limits_of g).long_spread (limits_of g).spread =
    ap (λ (l : _). cond t.long l.long_spread l.spread) limits
    ∙ ap (λ b. cond b (limits_of g).long_spread (limits_of g).spread) (sym f.three) in
    let within : time ≤ cond m.three (limits_of g).long_spread (limits_of g).spread = omega arith in
    and_from _ _ (and_from _ _ (le-true m.driving (limits_of g).block (omega (arith, f.driving, fine.driving)))
    (le-true m.total (limits_of g).day (omega (arith, f.total, fine.total))))
    (int_le-true _ _ _ _ _ start is_time within)

fields-close : (g : Group) (m : Mark) (t : Summary) (off on : ℤ) (time : ℕ) → t.limits ≡ limits_of g → FieldsAre m t →
    m.start.0 ≡ on → off ≡ on +ℤ pos time →
    closes_lawfully g m off ≡ true → time ≤ cond t.long t.limits.long_spread t.limits.spread
fields-close g m t off on time limits f start is_time e =
    let spread : cond t.long t.limits.long_spread t.limits.spread ≡ cond m.three (limits_of g).long_spread (limits_of g).spread =
    ap (λ (l : _). cond t.long l.long_spread l.spread) limits
    ∙ ap (λ b. cond b (limits_of g).long_spread (limits_of g).spread) (sym f.three) in
    let (low, last) = and_parts _ _ e in
    let within : time ≤ cond m.three (limits_of g).long_spread (limits_of g).spread =
    true-int_le off m.start.0 on time _ start is_time last in
    omega arith

abbrev pub duty_from : Group → Piece → List Drive → ℤ → ℤ → ℕ → Duty
duty_from g p ds on off time = record { group = g; drives = drive_of 0 p ∷ ds; on = on; off = off; spread = time }

-- A list as a duty, taken apart: pieces, drives, sign-on, sign-off and spread, each with the equation that says what it is. The
-- definition is a chain of values that may be missing; `duty-parts` goes along it once and for all, and `parts-duty` back. With the
-- verdict and the worth it is `DutyParts`. All other proofs work with the parts.
pub record IsDuty (d : DutyFacts) (g : Group) (k : ℕ) (ks : List ℕ) (duty : Duty) : Type 0 where
  pub p : Piece
  pub qs : List Piece
  pub ds : List Drive
  pub on : ℤ
  pub off : ℤ
  pub time : ℕ
  pub rising : rises (k ∷ ks) ≡ true
  pub first : slice_get d.pieces k ≡ Some p
  pub pieces : pieces_at d.pieces ks ≡ Some qs
  pub drives : drives_after d p qs ≡ Some ds
  pub sign_on_is : sign_on d g p ≡ Some on
  pub sign_off_is : sign_off d g (last_piece p qs) ≡ Some off
  pub span : seconds (off -ℤ on) ≡ Some time
  pub same : duty_from g p ds on off time ≡ duty

-- a lawful list of a piece and further ones
pub record DutyParts (d : DutyFacts) (g : Group) (k : ℕ) (ks : List ℕ) (worth : ℕ) : Type 0 where
  pub p : Piece
  pub qs : List Piece
  pub ds : List Drive
  pub on : ℤ
  pub off : ℤ
  pub time : ℕ
  pub rising : rises (k ∷ ks) ≡ true
  pub first : slice_get d.pieces k ≡ Some p
  pub pieces : pieces_at d.pieces ks ≡ Some qs
  pub drives : drives_after d p qs ≡ Some ds
  pub sign_on_is : sign_on d g p ≡ Some on
  pub sign_off_is : sign_off d g (last_piece p qs) ≡ Some off
  pub span : off ≡ on +ℤ pos time
  pub lawful : is_lawful (limits_of g) (drive_of 0 p ∷ ds) time ≡ true
  pub worth_is : cond d.counts 1 (g.fixed + g.rate * time) ≡ worth

span-from : (on off : ℤ) (time : ℕ) → seconds (off -ℤ on) ≡ Some time → off ≡ on +ℤ pos time
span-from on off time e = let is = seconds-is (off -ℤ on) time e in omega (arith, ints)

abbrev timed_duty : DutyFacts → Group → List Piece → List Drive → Option Duty
timed_duty d g ps drives =
    option_and_then (λ on. option_and_then
    (λ off. option_and_then (λ spread. Some (record { group = g; drives = drives; on = on; off = off; spread = spread }))
    (seconds (off -ℤ on))) (ends d g ps)) (begins d g ps)

duty-last : (d : DutyFacts) (g : Group) (k : ℕ) (ks : List ℕ) (duty : Duty) (p : Piece) (qs : List Piece) (ds : List Drive) →
    rises (k ∷ ks) ≡ true → slice_get d.pieces k ≡ Some p → pieces_at d.pieces ks ≡ Some qs → drives_after d p qs ≡ Some ds →
    timed_duty d g (p ∷ qs) (drive_of 0 p ∷ ds) ≡ Some duty → IsDuty d g k ks duty
duty-last d g k ks duty p qs ds up is_p is_qs is_ds e =
    let (on, is_on, e1) = and_then-Some _ (sign_on d g p) duty e in
    let (off, is_off, e2) = and_then-Some _ (sign_off d g (last_piece p qs)) duty e1 in
    let (time, is_time, e3) = and_then-Some _ (seconds (off -ℤ on)) duty e2 in
    record {
      p = p;
      qs = qs;
      ds = ds;
      on = on;
      off = off;
      time = time;
      rising = up;
      first = is_p;
      pieces = is_qs;
      drives = is_ds;
      sign_on_is = is_on;
      sign_off_is = is_off;
      span = is_time;
      same = Some-same (duty_from g p ds on off time) duty e3;
    }

duty-list : (d : DutyFacts) (g : Group) (k : ℕ) (ks : List ℕ) (duty : Duty) → rises (k ∷ ks) ≡ true →
    option_and_then (λ ps. option_and_then (timed_duty d g ps) (drives_of d ps)) (pieces_at d.pieces (k ∷ ks)) ≡ Some duty →
    IsDuty d g k ks duty
duty-list d g k ks duty up e =
    let (ps, is_ps, e2) = and_then-Some _ (pieces_at d.pieces (k ∷ ks)) duty e in
    let (p, qs, is_p, is_qs, same_ps) = pieces-parts d.pieces k ks ps is_ps in
    let Q : List Piece → Type 0 = λ l. option_and_then (timed_duty d g l) (drives_of d l) ≡ Some duty in
    let (drives, is_drives, e3) = and_then-Some _ (drives_of d (p ∷ qs)) duty (subst Q (sym same_ps) e2) in
    let (ds, is_ds, e4) = and_then-Some _ (drives_after d p qs) drives is_drives in
    let same_drives : (drive_of 0 p ∷ ds) ≡ drives = Some-same _ drives e4 in
    let R : List Drive → Type 0 = λ l. timed_duty d g (p ∷ qs) l ≡ Some duty in
    duty-last d g k ks duty p qs ds up is_p is_qs is_ds (subst R (sym same_drives) e3)

pub duty-parts : (d : DutyFacts) (class : ℕ) (g : Group) (k : ℕ) (ks : List ℕ) (duty : Duty) → slice_get d.params.groups class ≡ Some g →
    duty_of d class (k ∷ ks) ≡ Some duty → IsDuty d g k ks duty
duty-parts d class g k ks duty is_g e =
    let (up, e0) = given-Some _ _ duty e in
    let (g0, is_g0, e1) = and_then-Some _ (slice_get d.params.groups class) duty e0 in
    let same_g : g0 ≡ g = Some-same g0 g (sym is_g0 ∙ is_g) in
    let P : Group → Type 0 =
    λ x. option_and_then (λ ps. option_and_then (timed_duty d x ps) (drives_of d ps)) (pieces_at d.pieces (k ∷ ks)) ≡ Some duty in
    duty-list d g k ks duty up (subst P same_g e1)

pub parts-duty : (d : DutyFacts) (class : ℕ) (g : Group) (k : ℕ) (ks : List ℕ) (duty : Duty) → slice_get d.params.groups class ≡ Some g →
    IsDuty d g k ks duty → duty_of d class (k ∷ ks) ≡ Some duty
parts-duty d class g k ks duty is_g x =
    let up = x.rising in let first = x.first in let pieces = x.pieces in let drives = x.drives in let on = x.sign_on_is in
    let off = x.sign_off_is in let span = x.span in let same = x.same in
    let there : duty_of d class (k ∷ ks) ≡ Some (duty_from g x.p x.ds x.on x.off x.time) =
    rw (up, is_g, first, pieces, drives, on, off, span) refl in
    there ∙ ap (λ (y : Duty). Some y) same

pub parts-worth : (d : DutyFacts) (class : ℕ) (g : Group) (k : ℕ) (ks : List ℕ) (worth : ℕ) → slice_get d.params.groups class ≡ Some g →
    duty_worth d class (k ∷ ks) ≡ Some worth → DutyParts d g k ks worth
parts-worth d class g k ks worth is_g e =
    let (duty, is_duty, e1) = and_then-Some _ (duty_of d class (k ∷ ks)) worth e in
    let x = duty-parts d class g k ks duty is_g is_duty in
    let P : Duty → Type 0 = λ y. given (is_lawful (limits_of y.group) y.drives y.spread) (Some (cost_of d.counts y)) ≡ Some worth in
    let e2 : given (is_lawful (limits_of g) (drive_of 0 x.p ∷ x.ds) x.time) (Some (cond d.counts 1 (g.fixed + g.rate * x.time)))
    ≡ Some worth = subst P (sym x.same) e1 in
    let (lawful, e3) = given-Some _ _ worth e2 in
    record {
      p = x.p;
      qs = x.qs;
      ds = x.ds;
      on = x.on;
      off = x.off;
      time = x.time;
      rising = x.rising;
      first = x.first;
      pieces = x.pieces;
      drives = x.drives;
      sign_on_is = x.sign_on_is;
      sign_off_is = x.sign_off_is;
      span = span-from x.on x.off x.time x.span;
      lawful = lawful;
      worth_is = Some-same (cond d.counts 1 (g.fixed + g.rate * x.time)) worth e3;
    }

pub worth-parts : (d : DutyFacts) (class : ℕ) (g : Group) (k : ℕ) (ks : List ℕ) (worth : ℕ) → slice_get d.params.groups class ≡ Some g →
    DutyParts d g k ks worth → duty_worth d class (k ∷ ks) ≡ Some worth
worth-parts d class g k ks worth is_g x =
    let duty : Duty = duty_from g x.p x.ds x.on x.off x.time in
    let there : duty_of d class (k ∷ ks) ≡ Some duty = parts-duty d class g k ks duty is_g (record {
      p = x.p;
      qs = x.qs;
      ds = x.ds;
      on = x.on;
      off = x.off;
      time = x.time;
      rising = x.rising;
      first = x.first;
      pieces = x.pieces;
      drives = x.drives;
      sign_on_is = x.sign_on_is;
      sign_off_is = x.sign_off_is;
      span = onto-span x.on x.off x.time x.span;
      same = refl;
    }) in
    let lawful = x.lawful in let worth_is = x.worth_is in
    rw (there, lawful, worth_is) refl

-- What a lawful list leads to: a mark of the whole list, which stands at its last piece, has its tally's numbers, and began at its
-- sign-on. It joins both directions: `onto-label` gives the mark, and `from-label` what is known of it.
record Ends (d : DutyFacts) (prices : List Price) (class : ℕ) (g : Group) (k : ℕ) (ks : List ℕ) (p : Piece) (qs : List Piece)
    (ds : List Drive) (on : ℤ) : Type 0 where
  last : Mark
  label_is : label_of (marking d prices class g) (k ∷ ks) ≡ Some last
  here : slice_get d.pieces last.piece ≡ Some (last_piece p qs)
  fields : FieldsAre last (all_time d g p qs ds)
  start : last.start.0 ≡ on
  value : last.value +ℤ price_of prices ks
      ≡ (cond d.counts (pos 1000) (pos 1000 *ℤ (pos g.fixed -ℤ (pos g.rate *ℤ on))) -ℤ price_at prices k)

ends-of : (d : DutyFacts) (prices : List Price) (class : ℕ) (g : Group) (k : ℕ) (ks : List ℕ) (p : Piece) (qs : List Piece)
    (ds : List Drive) (on : ℤ) →
    slice_get d.pieces k ≡ Some p → pieces_at d.pieces ks ≡ Some qs → drives_after d p qs ≡ Some ds → rises (k ∷ ks) ≡ true →
    sign_on d g p ≡ Some on →
    AreTimed qs → IsFine (all_time d g p qs ds) → (last_piece p qs).end.0 ≤ℤ (on +ℤ pos 54000) →
    Ends d prices class g k ks p qs ds on
ends-of d prices class g k ks p qs ds on is_p is_qs is_ds up is_on timed fine in_time =
    let t1 : Summary = tally_after (no_drives (limits_of g)) (drive_of 0 p) in
    let fine1 : IsFine t1 = run-fine-back t1 ds fine in
    let m1 : Mark = one_mark d.counts prices class g k p on in
    let f1 : FieldsAre m1 t1 = first-fields d.counts prices class g k p on in
    let ends : p.end.0 ≤ℤ (last_piece p qs).end.0 = ends-rise d p qs ds timed is_ds in
    let limits : t1.limits ≡ limits_of g = refl in
    let before : p.end.0 ≤ℤ (m1.start.0 +ℤ pos 54000) = omega (arith, ints) in
    let open1 : is_open g m1 p.end.0 ≡ true = open-fine g m1 t1 p.end.0 limits f1 fine1 before in
    let first : first_mark d prices class g k ≡ Some m1 = first-is d prices class g k p on is_p is_on open1 in
    let (m', e') = onto-label d prices class g ks qs ds m1 p t1 is_p limits f1 fine timed in_time is_qs is_ds up in
    let found : Follows d g prices m1 p t1 ks m' = from-label d prices class g ks m1 m' p t1 is_p limits f1 fine1 e' in
    let same_qs : found.qs ≡ qs = Some-same found.qs qs (sym found.pieces ∙ is_qs) in
    let same_ds : found.ds ≡ ds = Some-same found.ds ds (sym found.drives ∙ ap (drives_after d p) same_qs ∙ is_ds) in
    let F : List Drive → Type 0 = λ l. FieldsAre m' (run t1 l) in
    record {
      last = m';
      label_is = ap (λ o. label_after (marking d prices class g) o ks) first ∙ e';
      here = found.piece ∙ ap (λ l. Some (last_piece p l)) same_qs;
      fields = subst F same_ds found.fields;
      start = found.start;
      value = found.value;
    }

short : (t : Summary) (g : Group) (time : ℕ) → t.limits ≡ limits_of g →
    time ≤ cond t.long t.limits.long_spread t.limits.spread → time ≤ 54000
short t g time limits below =
    let spread_is : cond t.long t.limits.long_spread t.limits.spread ≡ cond t.long 54000 (cond g.reduced 54000 46800) =
    ap (λ (l : Limits). cond t.long l.long_spread l.spread) limits in
    let low = limit-low t.long g.reduced in
    omega arith

-- From a lawful duty to a mark that closes with its value: a lawful list has a fine tally and a spread within the limit
-- (`lawful-from`), and no spread is longer than 15 hours, so its last piece ends within these, the list has a mark (`ends-of`), and
-- the mark closes (`close-fields`). The sum of its values is the duty's value.
parts-close : (d : DutyFacts) (prices : List Price) (class : ℕ) (g : Group) (k : ℕ) (ks : List ℕ) (worth : ℕ) → AreTimed d.pieces →
    DutyParts d g k ks worth →
    (m : Mark) × (label_of (marking d prices class g) (k ∷ ks) ≡ Some m) × (closed_value d g m ≡ Some (value_of prices worth (k ∷ ks)))
parts-close d prices class g k ks worth timed x =
    let timed_p = at-timed d.pieces k x.p timed x.first in
    let timed_qs = all-timed d.pieces ks x.qs timed x.pieces in
    let t : Summary = all_time d g x.p x.qs x.ds in
    let stands : StandsFor t (drive_of 0 x.p ∷ x.ds) = all-stands d g x.p x.qs x.ds (timed_p, timed_qs) x.drives in
    let limits : t.limits ≡ limits_of g = all-limits d g x.p x.qs x.ds in
    let S : Limits → Type 0 = λ l. is_lawful l (drive_of 0 x.p ∷ x.ds) x.time ≡ true in
    let (fine, below) = lawful-from t (drive_of 0 x.p ∷ x.ds) x.time stands (subst S (sym limits) x.lawful) in
    let few = short t g x.time limits below in
    let past = off-is d g (last_piece x.p x.qs) x.off x.sign_off_is in
    let span = x.span in
    let in_time : (last_piece x.p x.qs).end.0 ≤ℤ (x.on +ℤ pos 54000) = omega (arith, ints) in
    let e = ends-of d prices class g k ks x.p x.qs x.ds x.on x.first x.pieces x.drives x.rising x.sign_on_is timed_qs fine in_time in
    let closes = close-fields g e.last t x.off x.on x.time limits e.fields fine e.start x.span below in
    let sum = value-sum d.counts g.fixed g.rate x.time x.on x.off (price_at prices k) (price_of prices ks) e.last.value x.span e.value in (
      e.last,
      e.label_is,
      closed-is d g e.last (last_piece x.p x.qs) x.off e.here x.sign_off_is closes
          ∙ ap Some (sum ∙ ap (λ n. value_of prices n (k ∷ ks)) x.worth_is),
    )

none-after : (f : Duty → Option ℕ) (o : Option Group) (worth : ℕ) →
    option_and_then f (option_and_then {T = Group} {U = Duty} (λ g. None) o) ≡ Some worth → ⊥
none-after f None worth e = absurd (cc)
none-after f (Some g) worth e = absurd (cc)

-- no duty is empty
pub none-empty : (d : DutyFacts) (class worth : ℕ) → duty_worth d class [] ≡ Some worth → ⊥
none-empty d class worth e =
    none-after (λ (duty : Duty). given (is_lawful (limits_of duty.group) duty.drives duty.spread) (Some (cost_of d.counts duty)))
    (slice_get d.params.groups class) worth e

-- The first half of the tie of duties: a list with a worth has a mark that closes with its value. With the second half,
-- `closes-worth`, the marks that close are exactly the lawful duties. The search for the best duty and the check of a certificate's
-- marks both read duties off marks, and rest on this; that the rules judge whole duties and marks forget all but a few numbers is
-- settled here.
pub worth-closes : (d : DutyFacts) (prices : List Price) (class : ℕ) (g : Group) →
    slice_get d.params.groups class ≡ Some g → AreTimed d.pieces →
    (list : List ℕ) (worth : ℕ) → duty_worth d class list ≡ Some worth →
    (m : Mark) × (label_of (marking d prices class g) list ≡ Some m) × (closed_value d g m ≡ Some (value_of prices worth list))
worth-closes d prices class g is_g timed [] worth e = absurd (none-empty d class worth e)
worth-closes d prices class g is_g timed (k ∷ ks) worth e =
    parts-close d prices class g k ks worth timed (parts-worth d class g k ks worth is_g e)

span-exists : (on off : ℤ) → on ≤ℤ off → (time : ℕ) × (off ≡ on +ℤ pos time)
span-exists on off h = elim (off -ℤ on) as (λ z. off -ℤ on ≡ z → (time : ℕ) × (off ≡ on +ℤ pos time)) [
  | pos n ↦ λ is. (n, omega (arith, ints))
  | negsuc n ↦ λ is. absurd (omega (arith, ints))
] refl

first-parts : (d : DutyFacts) (prices : List Price) (class : ℕ) (g : Group) (k : ℕ) (m : Mark) → first_mark d prices class g k ≡ Some m →
    (p : Piece) × (on : ℤ) × (slice_get d.pieces k ≡ Some p) × (sign_on d g p ≡ Some on)
    × (is_open g (one_mark d.counts prices class g k p on) p.end.0 ≡ true) × (one_mark d.counts prices class g k p on ≡ m)
first-parts d prices class g k m e =
    let (p, is_p, e1) = and_then-Some _ (slice_get d.pieces k) m e in
    let (on, is_on, e2) = and_then-Some _ (sign_on d g p) m e1 in
    let (test, made) = given-Some _ _ m e2 in
    (p, on, is_p, is_on, test, Some-same _ m made)

open-first : (g : Group) (m : Mark) (p : Piece) (end : ℤ) → m.driving ≡ p.driving → m.total ≡ p.driving → is_open g m end ≡ true →
    IsFine (tally_after (no_drives (limits_of g)) (drive_of 0 p))
open-first g m p end driving total e =
    let (low, last) = and_parts _ _ e in
    let (less, few) = and_parts _ _ low in
    let less' : m.driving ≤ (limits_of g).block = true-le _ _ less in
    let few' : m.total ≤ (limits_of g).day = true-le _ _ few in
    first-fine g p (omega arith) (omega arith)

-- From a mark that closes to a lawful duty: the marks on the way give pieces, drives and a fine tally (`from-label`), sign-off is
-- not before sign-on since pieces follow one another, so there is a spread, and it keeps the limit as the mark closes
-- (`fields-close`). Then the articles are kept (`lawful-onto`).
closes-parts : (d : DutyFacts) (prices : List Price) (class : ℕ) (g : Group) (k : ℕ) (ks : List ℕ) (m : Mark) (v : ℤ) (p : Piece) (on : ℤ) →
    AreTimed d.pieces →
    slice_get d.pieces k ≡ Some p → sign_on d g p ≡ Some on → IsFine (tally_after (no_drives (limits_of g)) (drive_of 0 p)) →
    label_after (marking d prices class g) (Some (one_mark d.counts prices class g k p on)) ks ≡ Some m → closed_value d g m ≡ Some v →
    (worth : ℕ) × DutyParts d g k ks worth × (v ≡ value_of prices worth (k ∷ ks))
closes-parts d prices class g k ks m v p on timed is_p is_on fine1 e c =
    let t1 : Summary = tally_after (no_drives (limits_of g)) (drive_of 0 p) in
    let m1 : Mark = one_mark d.counts prices class g k p on in
    let found : Follows d g prices m1 p t1 ks m =
    from-label d prices class g ks m1 m p t1 is_p refl (first-fields d.counts prices class g k p on) fine1 e in
    let (last, is_last, c1) = and_then-Some _ (slice_get d.pieces m.piece) v c in
    let (off, is_off, c2) = and_then-Some _ (sign_off d g last) v c1 in
    let (test, made) = given-Some _ _ v c2 in
    let same_last : last ≡ last_piece p found.qs = Some-same last (last_piece p found.qs) (sym is_last ∙ found.piece) in
    let off_is : sign_off d g (last_piece p found.qs) ≡ Some off = ap (sign_off d g) (sym same_last) ∙ is_off in
    let timed_p : IsTimed p = at-timed d.pieces k p timed is_p in
    let timed_qs : AreTimed found.qs = all-timed d.pieces ks found.qs timed found.pieces in
    let ends : p.end.0 ≤ℤ (last_piece p found.qs).end.0 = ends-rise d p found.qs found.ds timed_qs found.drives in
    let past : (last_piece p found.qs).end.0 ≤ℤ off = off-is d g (last_piece p found.qs) off off_is in
    let before : on ≤ℤ p.begin.0 = on-is d g p on is_on in
    let own : p.begin.0 ≤ℤ p.end.0 = timed_p.order in
    let later : on ≤ℤ off = omega (arith, ints) in
    let (time, span) = span-exists on off later in
    let t : Summary = all_time d g p found.qs found.ds in
    let limits : t.limits ≡ limits_of g = all-limits d g p found.qs found.ds in
    let below = fields-close g m t off on time limits found.fields found.start span test in
    let stands : StandsFor t (drive_of 0 p ∷ found.ds) = all-stands d g p found.qs found.ds (timed_p, timed_qs) found.drives in
    let S : Limits → Type 0 = λ l. is_lawful l (drive_of 0 p ∷ found.ds) time ≡ true in
    let lawful : is_lawful (limits_of g) (drive_of 0 p ∷ found.ds) time ≡ true =
    subst S limits (lawful-onto t (drive_of 0 p ∷ found.ds) time stands found.fine below) in
    let sum = value-sum d.counts g.fixed g.rate time on off (price_at prices k) (price_of prices ks) m.value span found.value in (
      cond d.counts 1 (g.fixed + g.rate * time),
      record {
        p = p;
        qs = found.qs;
        ds = found.ds;
        on = on;
        off = off;
        time = time;
        rising = found.rising;
        first = is_p;
        pieces = found.pieces;
        drives = found.drives;
        sign_on_is = is_on;
        sign_off_is = off_is;
        span = span;
        lawful = lawful;
        worth_is = refl;
      },
      sym (Some-same _ v made) ∙ sum,
    )

-- a list whose mark closes has a worth, and closes with its value
pub closes-worth : (d : DutyFacts) (prices : List Price) (class : ℕ) (g : Group) →
    slice_get d.params.groups class ≡ Some g → AreTimed d.pieces →
    (list : List ℕ) (m : Mark) (v : ℤ) → label_of (marking d prices class g) list ≡ Some m → closed_value d g m ≡ Some v →
    (worth : ℕ) × (duty_worth d class list ≡ Some worth) × (v ≡ value_of prices worth list)
closes-worth d prices class g is_g timed [] m v e c = absurd (cc)
closes-worth d prices class g is_g timed (k ∷ ks) m v e c =
    elim (first_mark d prices class g k) as (λ o. first_mark d prices class g k ≡ o → label_after (marking d prices class g) o ks ≡ Some m →
    (worth : ℕ) × (duty_worth d class (k ∷ ks) ≡ Some worth) × (v ≡ value_of prices worth (k ∷ ks))) [
      | None ↦ λ is e'. absurd (cc)
      | Some m1 ↦ λ is e'.
          let (p, on, is_p, is_on, test, same) = first-parts d prices class g k m1 is in
          let L : Mark → Type 0 = λ x. label_after (marking d prices class g) (Some x) ks ≡ Some m in
          let (worth, parts, value) =
          closes-parts d prices class g k ks m v p on timed is_p is_on
          (open-first g (one_mark d.counts prices class g k p on) p p.end.0 refl refl test) (subst L (sym same) e') c in
          (worth, worth-parts d class g k ks worth is_g parts, value)
    ] refl e
