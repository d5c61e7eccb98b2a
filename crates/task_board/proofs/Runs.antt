-- Every run of the board's machine keeps the state condition.
use Rattle.std.proofs.Common.{◌≡◌, inl, ℕ, ℤ, pos, zero, suc, ◌+◌, ◌<◌, ◌≤◌, List, [], ◌∷◌, set, slice_index, replicate, Contains, Bool, true, false, ◌&&◌, not, refl, sym, ap, ◌∙◌, subst, arith, add-one}
use Rattle.std.proofs.lemmas.List.{length-replicate, get_or-replicate}
use Rattle.std.specs.Prelude.{◌==◌, nat_lt, if◌then◌else◌}
use Rattle.std.proofs.lemmas.Bool.Decides.{nat_tests}
use Rattle.std.proofs.lemmas.Int.{ints}
use Rattle.std.proofs.lemmas.Bool.{and_parts, eqb-true, ltb-true}
use lib.IntN.{negsuc}
use mathlib.Core.Option.{Option, none, some, some-injective, some-ne-none}
use lib.ListN.{get_elem?}
use Rattle.atomic_table.proofs.Lists.{set_else}
use Rattle.task_board.specs.declared.sheet.Extent.{Extent}
use Rattle.task_board.specs.declared.sheet.Sheet.{Sheet}
use Rattle.task_board.specs.Sheets.{zero_word, opening_words, fresh, joined, Stands, Noted, lowered_in, looks_in, IsDesk, IsKept}
use Rattle.task_board.specs.Machine.{BoardState, Event, Split, Claim, Look, Lower, Join, value_of, word_of, has_word, after_claim, splits, claims, looks, lowers, joins, joins_with, happens, start, run, IsSound}
use Rattle.task_board.proofs.Keeps.{claim_draws, claim_misses, look_keeps, lower_keeps, split_keeps, join_keeps}

not_of : (a b : ℕ) → not (a == b) ≡ true → ¬ (a ≡ b)
not_of a b h e = let t : (a == b) ≡ true = grind (arith, nat_tests) in let n : not (a == b) ≡ false = rw t refl in absurd (cc)

-- a word and its value
pub value_stands : (w : ℕ) → Stands w (value_of w)
value_stands w = go (nat_lt w zero_word) refl
  where
    go : (b : Bool) → nat_lt w zero_word ≡ b → Stands w (value_of w)
    go true e = let l = ltb-true w zero_word e in rw e (omega (arith, ints))
    go false e = let l : zero_word ≤ w = grind (arith, nat_tests) in rw e (omega (arith, ints))

pub word_stands : (x : ℤ) → has_word x ≡ true → Stands (word_of x) x
word_stands (pos n) h = omega (arith, ints)
word_stands (negsuc n) h = let l = ltb-true n zero_word h in omega (arith, ints)

module _ (size : Extent) where
  if_keeps : (h after : BoardState) (b : Bool) → IsSound size h → (b ≡ true → IsSound size after) → IsSound size (if b then after else h)
  if_keeps h after true s f = f refl
  if_keeps h after false s f = s

  claim_keeps : (h : BoardState) (i : ℕ) (o : Option Sheet) → get_elem? h.views i ≡ o → IsSound size h → IsSound size (claims size h i o)
  claim_keeps h i none e s = s
  claim_keeps h i (some v) e s = if_keeps h _ ((v.over == 0) && nat_lt 0 v.share) s (λ t.
      let a = and_parts (v.over == 0) (nat_lt 0 v.share) t in
      go (nat_lt (slice_index h.words 0) size.tasks) refl (eqb-true v.over 0 a.0) (ltb-true 0 v.share a.1))
    where
      go : (b : Bool) → nat_lt (slice_index h.words 0) size.tasks ≡ b → v.over ≡ 0 → 0 < v.share
          → IsKept size (set h.words 0 (slice_index h.words 0 + 1)) (set h.views i (after_claim size (slice_index h.words 0) v))
      go true t over share = rw t
          (claim_draws size h.words h.views i (slice_index h.words 0 + 1) v s e refl share (ltb-true (slice_index h.words 0) size.tasks t))
      go false t over share =
          rw t (claim_misses size h.words h.views i (slice_index h.words 0 + 1) v s e refl over share (grind (arith, nat_tests)))

  split_event : (h : BoardState) (i : ℕ) (o : Option Sheet) → get_elem? h.views i ≡ o → IsSound size h → IsSound size (splits h i o)
  split_event h i none e s = s
  split_event h i (some v) e s = if_keeps h _ ((v.over == 0) && nat_lt 1 v.share) s (λ t.
      let a = and_parts (v.over == 0) (nat_lt 1 v.share) t in
      split_keeps size h.words h.views i v s e (eqb-true v.over 0 a.0) (ltb-true 1 v.share a.1))

  look_event : (h : BoardState) (i k : ℕ) (o : Option Sheet) → get_elem? h.views i ≡ o → IsSound size h → IsSound size (looks size h i k o)
  look_event h i k none e s = s
  look_event h i k (some v) e s = if_keeps h _ (nat_lt 0 v.share && nat_lt k size.classes) s (λ t.
      let a = and_parts (nat_lt 0 v.share) (nat_lt k size.classes) t in
      look_keeps size h.words h.views i k (value_of (slice_index h.words (k + 1))) v s e (ltb-true 0 v.share a.0)
      (ltb-true k size.classes a.1)
      (value_stands (slice_index h.words (k + 1))))

  lower_event : (h : BoardState) (i k : ℕ) (x : ℤ) (o : Option Sheet) → get_elem? h.views i ≡ o → IsSound size h →
      IsSound size (lowers size h i k x o)
  lower_event h i k x none e s = s
  lower_event h i k x (some v) e s = if_keeps h _ ((nat_lt 0 v.share && nat_lt k size.classes) && has_word x) s (λ t.
      let a = and_parts (nat_lt 0 v.share && nat_lt k size.classes) (has_word x) t in
      let b = and_parts (nat_lt 0 v.share) (nat_lt k size.classes) a.0 in
      lower_keeps size h.words h.views i k (word_of x) x v s e (ltb-true 0 v.share b.0) (ltb-true k size.classes b.1) (word_stands x a.1))

  join_with_event : (h : BoardState) (i j : ℕ) (v : Sheet) (o : Option Sheet) → get_elem? h.views i ≡ some v → get_elem? h.views j ≡ o →
      IsSound size h → IsSound size (joins_with h i j v o)
  join_with_event h i j v none e d s = s
  join_with_event h i j v (some w) e d s = if_keeps h _ (nat_lt 0 v.share && not (j == i)) s (λ t.
      let a = and_parts (nat_lt 0 v.share) (not (j == i)) t in let apart = not_of j i a.1 in
      join_keeps size h.words h.views i j v w s e apart (ltb-true 0 v.share a.0) (set_else h.views i j (joined v w) apart ∙ d))

  join_event : (h : BoardState) (i j : ℕ) (o : Option Sheet) → get_elem? h.views i ≡ o → IsSound size h → IsSound size (joins h i j o)
  join_event h i j none e s = s
  join_event h i j (some v) e s = join_with_event h i j v (get_elem? h.views j) e refl s

  -- Each event of the machine keeps the state condition. An event that the desk may not make changes nothing; what the others ask
  -- of words, shares and numbers are tests of the machine, which are turned here into the premises of the lemmas on the running
  -- board. So the machine and the contracts of `Desk` rest on the same proofs.
  pub step_keeps : (h : BoardState) (e : Event) → IsSound size h → IsSound size (happens size h e)
  step_keeps h (Split i) s = split_event h i (get_elem? h.views i) refl s
  step_keeps h (Claim i) s = claim_keeps h i (get_elem? h.views i) refl s
  step_keeps h (Look i k) s = look_event h i k (get_elem? h.views i) refl s
  step_keeps h (Lower i k x) s = lower_event h i k x (get_elem? h.views i) refl s
  step_keeps h (Join i j) s = join_event h i j (get_elem? h.views i) refl s

  -- The law over every list of events, by induction over the list with any sound state before it: no order of the desks' steps is
  -- left out, and none needs a case of its own. With `start_sound` it is the clause `kept` of `every_run_is_sound`; the others
  -- follow by `known`.
  pub run_keeps : (es : List Event) (h : BoardState) → IsSound size h → IsSound size (run size es h)
  run_keeps [] h s = s
  run_keeps (e ∷ es) h s = run_keeps es (happens size h e) (step_keeps h e s)

  first_desk : (i : ℕ) (v : Sheet) → get_elem? (fresh size.tasks ∷ []) i ≡ some v → fresh size.tasks ≡ v
  first_desk zero v e = some-injective (fresh size.tasks) v e
  first_desk (suc i) v e = absurd (some-ne-none v (sym e))

  zeros : (n k : ℕ) → k < n → slice_index (0 ∷ replicate n zero_word) (suc k) ≡ zero_word
  zeros n k h = get_or-replicate n k zero_word 0 h

  none_noted : (f : Sheet → List (ℕ × ℤ)) → f (fresh size.tasks) ≡ [] → (p : ℕ × ℤ) → Noted f (fresh size.tasks ∷ []) p → ⊥
  none_noted f nil p (i, v, e, c) =
      let n : Contains [] p =
      subst (λ (l : List (ℕ × ℤ)). Contains l p) (ap f (sym (first_desk i v e)) ∙ nil) c in let l = n.1 in omega arith

  pub start_sound : size.tasks < 4294967296 → IsSound size (start size)
  start_sound small =
      let at = λ (k : ℕ) (h : k < size.classes). let P : ℕ → Type 0 = λ j. slice_index (opening_words size.classes) j ≡ zero_word in
      subst P (sym (add-one k)) (zeros size.classes k h) in
      record {
        small = small;
        row = (let l = length-replicate size.classes zero_word in omega arith);
        drawn = λ x. grind (arith, nat_tests);
        counter_high = omega arith;
        counter_low = λ h. absurd (omega arith);
        shares = refl;
        desks = λ i v e. subst (IsDesk size) (first_desk i v e)
            (record { over_in_share = omega arith; of_board = λ h. refl; empty = λ h. absurd (omega arith) });
        least = λ k h. record {
          most = omega (arith, at k h);
          below = λ x c. absurd (none_noted lowered_in refl (k, x) c);
          reached = inl (at k h);
        };
        looks = λ p c. absurd (none_noted looks_in refl p c);
      }
