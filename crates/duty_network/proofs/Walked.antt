-- Lists of pieces that are walked drive by drive.
use Rattle.std.proofs.Common.{◌≡◌, ℕ, ◌+◌, ◌*◌, ◌<◌, ◌≤◌, Bool, true, false, cond, zero, suc, List, [], ◌∷◌, ◌++◌, length, refl, sym, ap, subst, ◌∙◌, arith, append_assoc, add-one, drop, drop-cons, slice_get}
use Rattle.std.specs.Prelude.{Option, Some, None, option_and_then, nat_lt, IfNone, IfSome, slice_index_or}
use Rattle.std.proofs.lemmas.Bool.Decides.{nat_tests}
use Rattle.std.specs.Option.{option_map}
use Rattle.std.proofs.lemmas.Iterator.Adapters.{option_map_id}
use Rattle.std.proofs.lemmas.List.{length-append}
use Rattle.std.proofs.lemmas.Bool.{and_from, and_parts, lt-ltb}
use Rattle.plan_core.specs.declared.types.Piece.{Piece}
use Rattle.plan_params.specs.declared.rows.group.Group.{Group}
use Rattle.eu561_rules.specs.declared.rules.Drive.{Drive}
use Rattle.eu561_rules.specs.declared.rules.Limits.{Limits}
use Rattle.eu561_rules.specs.declared.rules.Verdict.{Verdict}
use Rattle.eu561_rules.specs.declared.rules.Verdict.TheVariants.{Lawful}
use Rattle.eu561_rules.specs.Duty.{Judged}
use Rattle.eu561_rules.specs.Lawful.{is_lawful}
use Rattle.eu561_rules.specs.Summary.{StandsFor, Summary}
use Rattle.eu561_rules.proofs.Runs.{lawful-test, test-lawful}
use Rattle.eu561_rules.proofs.Verdicts.{judged-lawful}
use Rattle.duty_network.specs.Times.{given, rises}
use Rattle.duty_network.specs.Duties.{Duty, DutyFacts, cost_of, drives_after, duty_of, duty_worth, last_piece, limits_of, pause, pause_at, pieces_at, sign_off, sign_on}
use Rattle.duty_network.specs.Courses.{HasNoSpan, IsCourse, IsSpanned, IsTallied, IsTallying, IsWalked, drive_of, drives_on, last_number}
use Rattle.duty_network.specs.declared.courses.Course.{Course}
use Rattle.duty_network.proofs.Better.{Some-same, and_then-Some, given-Some}
use Rattle.duty_network.proofs.Lists.{IsDuty, drives-parts, duty-parts, parts-duty, pieces-parts}
use Rattle.duty_network.proofs.Tied.{at-below}

-- nothing is walked yet
pub walked-none : (d : DutyFacts) (k : ℕ) (ks : List ℕ) → IsWalked d k ks k ks []
walked-none d k ks = record { on = sym (option_map_id (drives_on d k ks)); last = refl }

more-walked : (ds : List Drive) (y : Drive) (o : Option (List Drive)) →
    option_map (λ (more : List Drive). ds ++ more) (option_map (λ (more : List Drive). y ∷ more) o)
    ≡ option_map (λ (more : List Drive). (ds ++ y ∷ []) ++ more) o
more-walked ds y None = refl
more-walked ds y (Some l) = ap (λ (m : List Drive). Some m) (sym (append_assoc ds (y ∷ []) l))

-- One piece more in the loop over a list: the drives so far, with those that the rest of the list gives behind them, are the drives
-- of the whole. The rest is spoken of by the function that walks it, so that the invariant also knows when the list breaks off:
-- where the next number does not rise, or has no pause, the whole list has no drives (`walked-stops`).
pub walked-more : (d : DutyFacts) (k : ℕ) (ks : List ℕ) (j x : ℕ) (xs : List ℕ) (ds : List Drive) (time : ℕ) (q : Piece) →
    IsWalked d k ks j (x ∷ xs) ds →
    nat_lt j x ≡ true → pause_at d j x ≡ Some time → slice_get d.pieces x ≡ Some q → IsWalked d k ks x xs (ds ++ drive_of time q ∷ [])
walked-more d k ks j x xs ds time q w up is_time is_q =
    let step : drives_on d j (x ∷ xs) ≡ option_map (λ (more : List Drive). drive_of time q ∷ more) (drives_on d x xs) =
    rw (up, is_time, is_q) refl in
    record {
      on = w.on ∙ ap (λ o. option_map (λ (more : List Drive). ds ++ more) o) step ∙ more-walked ds (drive_of time q) (drives_on d x xs);
      last = w.last;
    }

given-none : {A : Type 0} (b : Bool) → given {A = A} b None ≡ None
given-none true = refl
given-none false = refl

-- the list goes on no further
pub walked-stops : (d : DutyFacts) (k : ℕ) (ks : List ℕ) (j : ℕ) (js : List ℕ) (ds : List Drive) → IsWalked d k ks j js ds →
    drives_on d j js ≡ None → drives_on d k ks ≡ None
walked-stops d k ks j js ds w e = w.on ∙ ap (λ o. option_map (λ (more : List Drive). ds ++ more) o) e

pub stops-falling : (d : DutyFacts) (j x : ℕ) (xs : List ℕ) → nat_lt j x ≡ false → drives_on d j (x ∷ xs) ≡ None
stops-falling d j x xs e = rw e refl

pub stops-paused : (d : DutyFacts) (j x : ℕ) (xs : List ℕ) → pause_at d j x ≡ None → drives_on d j (x ∷ xs) ≡ None
stops-paused d j x xs e =
    ap (λ o. given (nat_lt j x)
    (option_and_then (λ (time : ℕ). option_and_then
    (λ (q : Piece). option_map (λ (ds : List Drive). drive_of time q ∷ ds) (drives_on d x xs)) (slice_get d.pieces x)) o)) e
    ∙ given-none (nat_lt j x)

append-none : (ds : List Drive) → ds ++ [] ≡ ds
append-none [] = refl
append-none (x ∷ xs) = ap (λ (l : List Drive). x ∷ l) (append-none xs)

-- all is walked
pub walked-end : (d : DutyFacts) (k : ℕ) (ks : List ℕ) (j : ℕ) (ds : List Drive) → IsWalked d k ks j [] ds → drives_on d k ks ≡ Some ds
walked-end d k ks j ds w = w.on ∙ ap (λ (l : List Drive). Some l) (append-none ds)

-- a tally that goes on
pub tallying-none : (d : DutyFacts) (k : ℕ) (ks : List ℕ) (first : Drive) (tally : Summary) → k < length d.pieces →
    StandsFor tally (first ∷ []) → IsTallying d k ks first k ks tally
tallying-none d k ks first tally below stands =
    record { ds = []; walked = walked-none d k ks; stands = stands; few = omega arith; there = below }

-- The same with the tally: it stands for the first drive and those that were walked, and the last piece is one of the net. The
-- loop's tests decide between this step and the two ways of breaking off (`tallying-falls`, `tallying-stops`), each of which says
-- that the list is no duty.
pub tallying-more : (d : DutyFacts) (k : ℕ) (ks : List ℕ) (first : Drive) (j x : ℕ) (xs : List ℕ) (tally tally' : Summary) (time : ℕ)
    (q : Piece) → IsTallying d k ks first j (x ∷ xs) tally →
    j < x → nat_lt j x ≡ true → pause_at d j x ≡ Some time → slice_get d.pieces x ≡ Some q →
    ((drives : List Drive) → StandsFor tally drives → StandsFor tally' (drives ++ drive_of time q ∷ [])) →
    IsTallying d k ks first x xs tally'
tallying-more d k ks first j x xs tally tally' time q t order up is_time is_q add = record {
  ds = t.ds ++ drive_of time q ∷ [];
  walked = walked-more d k ks j x xs t.ds time q t.walked up is_time is_q;
  stands = add (first ∷ t.ds) t.stands;
  few = (let few = t.few in omega (arith, length-append t.ds (drive_of time q ∷ [])));
  there = at-below d.pieces x q is_q;
}

pub tallying-end : (d : DutyFacts) (k : ℕ) (ks : List ℕ) (first : Drive) (j : ℕ) (tally : Summary) → IsTallying d k ks first j [] tally →
    IsTallied d k ks first j tally
tallying-end d k ks first j tally t =
    record { ds = t.ds; on = walked-end d k ks j t.ds t.walked; stands = t.stands; last_is = sym t.walked.last; there = t.there }

drop-on : (xs : List ℕ) (i : ℕ) → i < length xs → drop i xs ≡ slice_index_or xs i 0 ∷ drop (i + 1) xs
drop-on xs i h = rw (add-one, drop-cons xs i 0)

drop-none : (xs : List ℕ) (i : ℕ) → length xs ≤ i → drop i xs ≡ []
drop-none [] zero h = refl
drop-none [] (suc i) h = refl
drop-none (x ∷ xs) zero h = absurd (omega arith)
drop-none (x ∷ xs) (suc i) h = drop-none xs i (omega arith)

lt-false : (a b : ℕ) → b ≤ a → nat_lt a b ≡ false
lt-false a b h = grind (arith, nat_tests)

-- at a place of the list
pub tallying-falls : (d : DutyFacts) (k : ℕ) (ks : List ℕ) (first : Drive) (j i : ℕ) (tally : Summary) →
    IsTallying d k ks first j (drop i ks) tally → i < length ks →
    slice_index_or ks i 0 ≤ j → drives_on d k ks ≡ None
tallying-falls d k ks first j i tally t below falls =
    let none : drives_on d j (drop i ks) ≡ None =
    ap (drives_on d j) (drop-on ks i below)
    ∙ stops-falling d j (slice_index_or ks i 0) (drop (i + 1) ks) (lt-false j (slice_index_or ks i 0) falls) in
    walked-stops d k ks j (drop i ks) t.ds t.walked none

pub tallying-stops : (d : DutyFacts) (k : ℕ) (ks : List ℕ) (first : Drive) (j i : ℕ) (tally : Summary) →
    IsTallying d k ks first j (drop i ks) tally → i < length ks →
    pause_at d j (slice_index_or ks i 0) ≡ None → drives_on d k ks ≡ None
tallying-stops d k ks first j i tally t below paused =
    let none : drives_on d j (drop i ks) ≡ None =
    ap (drives_on d j) (drop-on ks i below) ∙ stops-paused d j (slice_index_or ks i 0) (drop (i + 1) ks) paused in
    walked-stops d k ks j (drop i ks) t.ds t.walked none

pub tallying-next : (d : DutyFacts) (k : ℕ) (ks : List ℕ) (first : Drive) (j i : ℕ) (tally tally' : Summary) (time : ℕ) (q : Piece) →
    IsTallying d k ks first j (drop i ks) tally → i < length ks →
    j < slice_index_or ks i 0 → pause_at d j (slice_index_or ks i 0) ≡ Some time → slice_get d.pieces (slice_index_or ks i 0) ≡ Some q →
    ((drives : List Drive) → StandsFor tally drives → StandsFor tally' (drives ++ drive_of time q ∷ [])) →
    IsTallying d k ks first (slice_index_or ks i 0) (drop (i + 1) ks) tally'
tallying-next d k ks first j i tally tally' time q t below up is_time is_q add =
    let P : List ℕ → Type 0 = λ l. IsTallying d k ks first j l tally in
    tallying-more d k ks first j (slice_index_or ks i 0) (drop (i + 1) ks) tally tally' time q (subst P (drop-on ks i below) t) up
    (lt-ltb j (slice_index_or ks i 0) up) is_time is_q add

pub tallying-all : (d : DutyFacts) (k : ℕ) (ks : List ℕ) (first : Drive) (j i : ℕ) (tally : Summary) →
    IsTallying d k ks first j (drop i ks) tally → length ks ≤ i → IsTallied d k ks first j tally
tallying-all d k ks first j i tally t past =
    let P : List ℕ → Type 0 = λ l. IsTallying d k ks first j l tally in
    tallying-end d k ks first j tally (subst P (drop-none ks i past) t)

-- facts of options
pub if-none : {A : Type 0} (o : Option A) (P : Type 0) → P → IfNone o P
if-none None P x = x
if-none (Some a) P x = tt

pub none-map : {A : Type 0} (o : Option A) (P Q : Type 0) → (P → Q) → IfNone o P → IfNone o Q
none-map None P Q f x = f x
none-map (Some a) P Q f x = tt

pub some-map : {A : Type 0} (o : Option A) (P Q : A → Type 0) → ((a : A) → P a → Q a) → IfSome o P → IfSome o Q
some-map None P Q f x = tt
some-map (Some a) P Q f x = f a x

-- the pieces of a walk
pub record Along (d : DutyFacts) (k : ℕ) (p : Piece) (ks : List ℕ) (ds : List Drive) : Type 0 where
  pub qs : List Piece
  pub pieces : pieces_at d.pieces ks ≡ Some qs
  pub drives : drives_after d p qs ≡ Some ds
  pub rising : rises (k ∷ ks) ≡ true
  pub last : slice_get d.pieces (last_number k ks) ≡ Some (last_piece p qs)

map-Some : {A B : Type 0} (f : A → B) (o : Option A) (y : B) → option_map f o ≡ Some y → (x : A) × (o ≡ Some x) × (f x ≡ y)
map-Some f None y e = absurd (cc)
map-Some f (Some x) y e = (x, refl, Some-same (f x) y e)

pieces-on : (pieces : List Piece) (k : ℕ) (ks : List ℕ) (q : Piece) (qs : List Piece) → slice_get pieces k ≡ Some q →
    pieces_at pieces ks ≡ Some qs → pieces_at pieces (k ∷ ks) ≡ Some (q ∷ qs)
pieces-on pieces k ks q qs e h = rw (e, h) refl

drives-on : (d : DutyFacts) (p q : Piece) (qs : List Piece) (time : ℕ) (ds : List Drive) → pause d p q ≡ Some time →
    drives_after d q qs ≡ Some ds → drives_after d p (q ∷ qs) ≡ Some (drive_of time q ∷ ds)
drives-on d p q qs time ds e h = rw (e, h) refl

pause-numbers : (d : DutyFacts) (j x : ℕ) (p q : Piece) → slice_get d.pieces j ≡ Some p → slice_get d.pieces x ≡ Some q →
    pause_at d j x ≡ pause d p q
pause-numbers d j x p q from to = rw (from, to) refl

-- A walk by numbers is a list of pieces: where the drives behind a piece can be walked, the pieces are there, their drives are
-- those, the numbers rise, and the last number is that of the last piece. `onto-walk` is the way back. The code walks numbers and
-- looks pauses up; the rules speak of pieces; the two lemmas let each contract of the walk be one of the rules.
pub from-walk : (d : DutyFacts) (ks : List ℕ) (k : ℕ) (p : Piece) (ds : List Drive) → slice_get d.pieces k ≡ Some p →
    drives_on d k ks ≡ Some ds → Along d k p ks ds
from-walk d [] k p ds here e = record { qs = []; pieces = refl; drives = e; rising = refl; last = here }
from-walk d (j ∷ js) k p ds here e =
    let (up, e1) = given-Some _ _ ds e in
    let (time, is_time, e2) = and_then-Some _ (pause_at d k j) ds e1 in
    let (q, is_q, e3) = and_then-Some _ (slice_get d.pieces j) ds e2 in
    let (more, is_more, same) = map-Some _ (drives_on d j js) ds e3 in
    let rest = from-walk d js j q more is_q is_more in
    let between : pause d p q ≡ Some time = sym (pause-numbers d k j p q here is_q) ∙ is_time in
    record {
      qs = q ∷ rest.qs;
      pieces = pieces-on d.pieces j js q rest.qs is_q rest.pieces;
      drives = drives-on d p q rest.qs time more between rest.drives ∙ ap (λ (l : List Drive). Some l) same;
      rising = and_from _ _ up rest.rising;
      last = rest.last;
    }

pub record Onto (d : DutyFacts) (k : ℕ) (p : Piece) (ks : List ℕ) (qs : List Piece) (ds : List Drive) : Type 0 where
  pub on : drives_on d k ks ≡ Some ds
  pub last : slice_get d.pieces (last_number k ks) ≡ Some (last_piece p qs)

pub onto-walk : (d : DutyFacts) (ks : List ℕ) (k : ℕ) (p : Piece) (qs : List Piece) (ds : List Drive) → slice_get d.pieces k ≡ Some p →
    pieces_at d.pieces ks ≡ Some qs → drives_after d p qs ≡ Some ds →
    rises (k ∷ ks) ≡ true → Onto d k p ks qs ds
onto-walk d [] k p [] ds here is_qs is_ds up = record { on = is_ds; last = here }
onto-walk d [] k p (q ∷ qs) ds here is_qs is_ds up = absurd (cc)
onto-walk d (j ∷ js) k p [] ds here is_qs is_ds up =
    let (q, rest, is_q, is_rest, same) = pieces-parts d.pieces j js [] is_qs in absurd (cc)
onto-walk d (j ∷ js) k p (q ∷ qs) ds here is_qs is_ds up =
    let (q0, rest, is_q0, is_rest, same_q) = pieces-parts d.pieces j js (q ∷ qs) is_qs in
    let (time, more, is_time, is_more, same_d) = drives-parts d p q qs ds is_ds in
    let is_q : slice_get d.pieces j ≡ Some q = cc in
    let is_qs' : pieces_at d.pieces js ≡ Some qs = cc in
    let (later, rising) = and_parts (nat_lt k j) (rises (j ∷ js)) up in
    let x = onto-walk d js j q qs more is_q is_qs' is_more rising in
    let between : pause_at d k j ≡ Some time = pause-numbers d k j p q here is_q ∙ is_time in
    let on = x.on in
    record {
      on = (let step : drives_on d k (j ∷ js) ≡ Some (drive_of time q ∷ more) = rw (later, between, is_q, on) refl in
          step ∙ ap (λ (l : List Drive). Some l) same_d);
      last = x.last;
    }

-- there is no duty
none-if : {A : Type 0} (o : Option A) → ((x : A) → o ≡ Some x → ⊥) → o ≡ None
none-if None h = refl
none-if (Some x) h = absurd (h x refl)

-- Where the walk breaks off there is no duty: a duty has drives, and by `onto-walk` these would have been walked. The same holds
-- where sign-on, sign-off or the spread between them is missing (`none-span`). So the code may answer "no duty" at the first thing
-- that is missing.
pub none-walk : (d : DutyFacts) (class : ℕ) (g : Group) (k : ℕ) (ks : List ℕ) (p : Piece) → slice_get d.params.groups class ≡ Some g →
    slice_get d.pieces k ≡ Some p → drives_on d k ks ≡ None → duty_of d class (k ∷ ks) ≡ None
none-walk d class g k ks p is_g is_p none = none-if (duty_of d class (k ∷ ks)) (λ duty e.
    let x : IsDuty d g k ks duty = duty-parts d class g k ks duty is_g e in
    let y = onto-walk d ks k x.p x.qs x.ds x.first x.pieces x.drives x.rising in
    let on = y.on in
    let bad : Some x.ds ≡ None = sym on ∙ none in
    cc)

pub none-span : (d : DutyFacts) (class : ℕ) (g : Group) (k : ℕ) (ks : List ℕ) (p q : Piece) → slice_get d.params.groups class ≡ Some g →
    slice_get d.pieces k ≡ Some p →
    slice_get d.pieces (last_number k ks) ≡ Some q → HasNoSpan d g p q → duty_of d class (k ∷ ks) ≡ None
none-span d class g k ks p q is_g is_p is_q none = none-if (duty_of d class (k ∷ ks)) (λ duty e.
    let x : IsDuty d g k ks duty = duty-parts d class g k ks duty is_g e in
    let y = onto-walk d ks k x.p x.qs x.ds x.first x.pieces x.drives x.rising in
    let same_p : x.p ≡ p = Some-same x.p p (sym x.first ∙ is_p) in
    let same_q : last_piece x.p x.qs ≡ q = Some-same (last_piece x.p x.qs) q (sym y.last ∙ is_q) in
    none x.on x.off x.time (ap (sign_on d g) (sym same_p) ∙ x.sign_on_is) (ap (sign_off d g) (sym same_q) ∙ x.sign_off_is) x.span)

-- A list that was walked, with a sign-on, a sign-off and a spread between them, is a duty, and the course that the code holds is its
-- course: same group, limits, drives by the tally, and times. With the lemmas on missing parts no case is left, so `course_from`
-- decides what a list is.
pub course-of : (d : DutyFacts) (class : ℕ) (g : Group) (k : ℕ) (ks : List ℕ) (p q : Piece) (last : ℕ) (tally : Summary) (course : Course) →
    slice_get d.params.groups class ≡ Some g → slice_get d.pieces k ≡ Some p →
    slice_get d.pieces last ≡ Some q → IsTallied d k ks (drive_of 0 p) last tally → tally.limits ≡ limits_of g →
    IsSpanned d g p q tally course →
    (duty : Duty) × (duty_of d class (k ∷ ks) ≡ Some duty) × IsCourse d g duty course
course-of d class g k ks p q last tally course is_g is_p is_q t limits span =
    let x = from-walk d ks k p t.ds is_p t.on in
    let here : slice_get d.pieces last ≡ Some (last_piece p x.qs) = ap (slice_get d.pieces) t.last_is ∙ x.last in
    let same_q : q ≡ last_piece p x.qs = Some-same q (last_piece p x.qs) (sym is_q ∙ here) in
    let duty : Duty = record { group = g; drives = drive_of 0 p ∷ t.ds; on = course.on; off = course.off; spread = course.spread } in
    let S : Summary → Type 0 = λ s. StandsFor s (drive_of 0 p ∷ t.ds) in
    let L : Summary → Type 0 = λ s. s.limits ≡ limits_of g in (
      duty,
      parts-duty d class g k ks duty is_g (record {
        p = p;
        qs = x.qs;
        ds = t.ds;
        on = course.on;
        off = course.off;
        time = course.spread;
        rising = x.rising;
        first = is_p;
        pieces = x.pieces;
        drives = x.drives;
        sign_on_is = span.on;
        sign_off_is = ap (sign_off d g) (sym same_q) ∙ span.off;
        span = span.spread;
        same = refl;
      }),
      record { group = refl; limits = subst L span.same limits; stands = subst S span.same t.stands; on = refl; off = refl; spread = refl },
    )

-- what a verdict says of the worth
lawful-true : (drives : List Drive) (spread : ℕ) (limits : Limits) → Judged drives spread limits Lawful →
    is_lawful limits drives spread ≡ true
lawful-true drives spread limits j = lawful-test limits drives spread j

lawful-false : (drives : List Drive) (spread : ℕ) (limits : Limits) (v : Verdict) → Judged drives spread limits v → (v ≡ Lawful → ⊥) →
    is_lawful limits drives spread ≡ false
lawful-false drives spread limits v j not = elim (is_lawful limits drives spread) as (λ b. is_lawful limits drives spread ≡ b → b ≡ false) [
  | true ↦ λ is. absurd (not ((judged-lawful drives spread limits v j).1 (test-lawful limits drives spread is)))
  | false ↦ λ is. refl
] refl

-- From the verdict to the worth: the tally's verdict on the drives is the one of `judge`, and "lawful" by the verdict is lawful by
-- the test over all intervals, which the worth is defined by. So the worth is the cost of the spread where the verdict is lawful,
-- and none where it is not (`worth-unlawful`).
pub worth-lawful : (d : DutyFacts) (class : ℕ) (list : List ℕ) (g : Group) (duty : Duty) (course : Course) →
    duty_of d class list ≡ Some duty → IsCourse d g duty course →
    Judged duty.drives course.spread course.tally.limits Lawful →
    duty_worth d class list ≡ Some (cond d.counts 1 (g.fixed + g.rate * course.spread))
worth-lawful d class list g duty course is c j =
    let J : ℕ → Type 0 = λ s. Judged duty.drives s course.tally.limits Lawful in
    let K : Limits → Type 0 = λ l. Judged duty.drives duty.spread l Lawful in
    let limits : course.tally.limits ≡ limits_of duty.group = c.limits ∙ ap limits_of (sym c.group) in
    let test : is_lawful (limits_of duty.group) duty.drives duty.spread ≡ true =
    lawful-true duty.drives duty.spread (limits_of duty.group) (subst K limits (subst J c.spread j)) in
    let cost : cost_of d.counts duty ≡ cond d.counts 1 (g.fixed + g.rate * course.spread) =
    ap (λ (x : Group). cond d.counts 1 (x.fixed + x.rate * duty.spread)) c.group
    ∙ ap (λ (s : ℕ). cond d.counts 1 (g.fixed + g.rate * s)) (sym c.spread) in
    let worth : duty_worth d class list ≡ Some (cost_of d.counts duty) = rw (is, test) refl in
    worth ∙ ap (λ (n : ℕ). Some n) cost

pub worth-unlawful : (d : DutyFacts) (class : ℕ) (list : List ℕ) (g : Group) (duty : Duty) (course : Course) (v : Verdict) →
    duty_of d class list ≡ Some duty → IsCourse d g duty course →
    Judged duty.drives course.spread course.tally.limits v → (v ≡ Lawful → ⊥) → duty_worth d class list ≡ None
worth-unlawful d class list g duty course v is c j not =
    let J : ℕ → Type 0 = λ s. Judged duty.drives s course.tally.limits v in
    let K : Limits → Type 0 = λ l. Judged duty.drives duty.spread l v in
    let limits : course.tally.limits ≡ limits_of duty.group = c.limits ∙ ap limits_of (sym c.group) in
    let test : is_lawful (limits_of duty.group) duty.drives duty.spread ≡ false =
    lawful-false duty.drives duty.spread (limits_of duty.group) v (subst K limits (subst J c.spread j)) not in
    rw (is, test) refl

pub worth-none : (d : DutyFacts) (class : ℕ) (list : List ℕ) → duty_of d class list ≡ None → duty_worth d class list ≡ None
worth-none d class list e = rw e refl
