-- Each step keeps the state condition.
use Rattle.std.proofs.Common.{◌≡◌, ◌≢◌, ◌⊎◌, inl, inr, ⊎_elim, ℕ, ℤ, pos, ◌+ℤ◌, ◌≤ℤ◌, zero, suc, ◌+◌, ◌<◌, ◌≤◌, min, List, [], ◌∷◌, ◌++◌, length, set, slice_index, Contains, refl, sym, ap, ◌∙◌, subst, arith, length-set, get_or-set_same, get_or-set_other, le_of_eq, le_refl, add-one}
use Rattle.std.proofs.lemmas.Int.{ints}
use Rattle.std.proofs.lemmas.List.Elements.{Contains-append_left, Contains-append_right, Contains-append_cases, Contains-push, Contains-push_cases, All-contains_itself, All-weaker}
use mathlib.Core.Option.{some, some-injective}
use native.Mathlib.Decide.{ℕ_discrete, dec_le}
use lib.ListN.{get_elem?}
use Rattle.atomic_table.proofs.Lists.{at_set, set_here, set_else, at_snoc}
use Rattle.task_board.specs.declared.sheet.Extent.{Extent}
use Rattle.task_board.specs.declared.sheet.Sheet.{Sheet}
use Rattle.task_board.specs.Sheets.{whole, zero_word, spent, split_left, split_right, drew, missed, looked, lowered_by, joined, total, times, once_below, Stands, Noted, lowered_in, looks_in, IsLeastWord, IsDesk, IsLook, IsKept, IfWhole}
use Rattle.task_board.proofs.Totals.{there, total_set, total_snoc, two_in_total, total_alone, times-append, once_step, once_past, noted_set, noted_back, noted_snoc, noted_snoc_back}

plus_same : (a b c d e f : ℕ) → a + c ≡ b + (c + d) → b ≡ e → f ≡ e + d → a ≡ f
plus_same a b c d e f p q r = omega arith

module _ (size : Extent) where
  -- a list that a desk with no part has is empty
  nobody : (v : Sheet) → IsDesk size v → v.share ≡ 0 → (f : Sheet → List (ℕ × ℤ)) → (f v ≡ []) → (p : ℕ × ℤ) → Contains (f v) p → ⊥
  nobody v d idle f e p c = let c' : Contains [] p = subst (λ (l : List (ℕ × ℤ)). Contains l p) e c in let l = c'.1 in omega arith

  -- A desk with the whole share leaves no part to another. The shares of all desks add up to the whole, so a second desk with any
  -- part would take the sum above it. A desk without a part has no entries: this turns each sum and each list over all desks into
  -- that of the one desk.
  others_idle : (words : List ℕ) (views : List Sheet) (i : ℕ) (v : Sheet) → IsKept size words views →
      get_elem? views i ≡ some v → v.share ≡ whole
      → (j : ℕ) (w : Sheet) → j ≢ i → get_elem? views j ≡ some w → w.share ≡ 0
  others_idle words views i v s at all j w n e =
      let two : w.share + v.share ≤ total (λ u. u.share) views = two_in_total (λ u. u.share) views j i w v n e at in
      let sum = s.shares in
      omega arith

  -- A desk with the whole share has drawn each number that was drawn. The state condition counts how often a number was drawn over
  -- all desks. The others have drawn nothing, so this desk's own count is that sum: one for each number below the smaller of
  -- counter and tasks, and none for any other.
  pub known_drawn : (words : List ℕ) (views : List Sheet) (i : ℕ) (v : Sheet) → IsKept size words views →
      get_elem? views i ≡ some v → v.share ≡ whole
      → (x : ℕ) → times x v.drawn ≡ once_below x (min (slice_index words 0) size.tasks)
  known_drawn words views i v s at all x =
      sym (total_alone (λ u. times x u.drawn) views i
      v at (λ j w m e. ap (times x) ((s.desks j w e).empty (others_idle words views i v s at all j w m e)).0)) ∙ s.drawn x

  -- What is known of a desk that has the whole share, and the main theorem of this file: it has drawn an initial part of the tasks,
  -- each once, all of them where a claim missed, and each of its looks is 0 or a value by which it lowered itself. The state
  -- condition says the same of all desks together; the others have no entries, and no misses since these are at most their share,
  -- so what some desk did this one did. The `whole` clauses of each step and `close` rest on it: a desk that has been given back
  -- all parts need ask nobody.
  pub known : (words : List ℕ) (views : List Sheet) (i : ℕ) (v : Sheet) → IsKept size words views → get_elem? views i ≡ some v → IfWhole v
  known words views i v s at all =
      let d = s.desks i v at in
      let tasks : v.tasks ≡ size.tasks = d.of_board (omega arith) in
      let others = others_idle words views i v s at all in
      let over : total (λ u. u.over) views ≡ v.over = total_alone (λ u. u.over) views i v at (λ j w n e. let z = others j w n e in let h =
      (s.desks j w e).over_in_share in omega arith) in
      let n : ℕ = min (slice_index words 0) size.tasks in
      record {
        drawn = (
          n,
          omega arith,
          known_drawn words views i v s at all,
          (λ some. let low = s.counter_low (omega arith) in omega arith),
        );
        looks =
            All-weaker (Contains v.looks) (λ (p : ℕ × ℤ). (p.1 ≡ pos 0) ⊎ Contains v.lowered p)
            (λ p c. ⊎_elim (λ (z : p.1 ≡ pos 0). inl z)
            (λ (w : Noted lowered_in views p). elim (ℕ_discrete w.0 i) [
              | yes same ↦ inr (subst (λ (u : Sheet). Contains u.lowered p)
                  (some-injective w.1 v (sym w.2 ∙ (ap (get_elem? views) same ∙ at))) w.3)
              | no apart ↦ absurd (nobody w.1 (s.desks w.0 w.1 w.2) (others w.0 w.1 apart w.2) lowered_in
                  ((s.desks w.0 w.1 w.2).empty (others w.0 w.1 apart w.2)).2 p w.3)
            ])
            (s.looks p (i, v, at, c)).source)
            v.looks (All-contains_itself v.looks);
      }

  -- the desks after one of them changed
  desks_set : (views : List Sheet) (i : ℕ) (w : Sheet) → ((j : ℕ) (u : Sheet) → get_elem? views j ≡ some u → IsDesk size u) →
      IsDesk size w → (j : ℕ) (u : Sheet) → get_elem? (set views i w) j ≡ some u → IsDesk size u
  desks_set views i w old new j u e =
      ⊎_elim (λ (t : (j ≡ i) × (w ≡ u)). subst (IsDesk size) t.1 new) (λ (t : (j ≢ i) × (get_elem? views j ≡ some u)). old j u t.1)
      (at_set views i j w u e)

  desks_snoc : (views : List Sheet) (w : Sheet) → ((j : ℕ) (u : Sheet) → get_elem? views j ≡ some u → IsDesk size u) → IsDesk size w →
      (j : ℕ) (u : Sheet) → get_elem? (views ++ w ∷ []) j ≡ some u → IsDesk size u
  desks_snoc views w old new j u e =
      ⊎_elim (λ (t : get_elem? views j ≡ some u). old j u t) (λ (t : w ≡ u). subst (IsDesk size) t new) (at_snoc views w u j e)

  -- Where no desk's entries changed and no class's word, the class's word stays the least of 0 and the values by which it was
  -- lowered. The condition speaks of entries that some desk has and not of who has them: so this one lemma serves claims, looks,
  -- splits and joins, of which the last moves entries from desk to desk.
  least_kept : (words words' : List ℕ) (views views' : List Sheet) → IsKept size words views →
      ((k : ℕ) → k < size.classes → slice_index words' (k + 1) ≡ slice_index words (k + 1))
      → ((p : ℕ × ℤ) → Noted lowered_in views p → Noted lowered_in views' p) →
      ((p : ℕ × ℤ) → Noted lowered_in views' p → Noted lowered_in views p)
      → (k : ℕ) → k < size.classes → IsLeastWord views' k (slice_index words' (k + 1))
  least_kept words words' views views' s same on back k h =
      let old = s.least k h in let e = same k h in
      record {
        most = omega (arith, old.most);
        below = λ x c. subst (λ (n : ℕ). pos n ≤ℤ (x +ℤ pos zero_word)) (sym e) (old.below x (back (k, x) c));
        reached =
            ⊎_elim (λ (z : slice_index words (k + 1) ≡ zero_word). inl (e ∙ z))
            (λ (r : (x : ℤ) × Stands (slice_index words (k + 1)) x × Noted lowered_in views (k, x)).
            inr (r.0, ap (λ (n : ℕ). pos n) e ∙ r.1, on (k, r.0) r.2))
            old.reached;
      }

  -- What was looked at stays explained while words of classes only fall and no entry is lost: its source is still noted, and the
  -- word is still at most the value that was seen. It asks for no equality, so it serves lowerings too. From it comes what
  -- `Desk::look` promises: no later look shows a value above an earlier one.
  looks_kept : (words words' : List ℕ) (views views' : List Sheet) →
      ((k : ℕ) → k < size.classes → slice_index words' (k + 1) ≤ slice_index words (k + 1))
      → ((p : ℕ × ℤ) → Noted lowered_in views p → Noted lowered_in views' p)
      → (p : ℕ × ℤ) → IsLook size words views p → IsLook size words' views' p
  looks_kept words words' views views' less on p l =
      let h = less p.0 l.class in let a = l.above in
      record {
        class = l.class;
        source = ⊎_elim (λ (z : p.1 ≡ pos 0). inl z) (λ (c : Noted lowered_in views p). inr (on p c)) l.source;
        above = omega (arith, ints);
      }

  -- the counter is one more, and the classes' words are as they were
  counted : (words : List ℕ) (m : ℕ) → 0 < length words →
      (slice_index (set words 0 m) 0 ≡ m) × ((k : ℕ) → slice_index (set words 0 m) (k + 1) ≡ slice_index words (k + 1))
  counted [] m h = absurd (omega arith)
  counted (x ∷ xs) m h = (
    refl,
    λ k. let P : ℕ → Type 0 = λ j. slice_index (m ∷ xs) j ≡ slice_index (x ∷ xs) j in
        subst P (sym (add-one k)) refl,
  )

  -- A step that leaves one of the lists of the desk as it was, leaves the entries of this list over all desks as they were, both
  -- ways: it carries over whatever the state condition says of such entries.
  same_lists : (f : Sheet → List (ℕ × ℤ)) (views : List Sheet) (i : ℕ) (v w : Sheet) → get_elem? views i ≡ some v → f w ≡ f v
      → ((p : ℕ × ℤ) → Noted f views p → Noted f (set views i w) p) × ((p : ℕ × ℤ) → Noted f (set views i w) p → Noted f views p)
  same_lists f views i v w at e = (
    (λ p c. noted_set f views i v w p at (λ h. subst (λ (l : List (ℕ × ℤ)). Contains l p) (sym e) h) c),
    (λ p c. ⊎_elim (λ (h : Contains (f w) p). (i, v, at, subst (λ (l : List (ℕ × ℤ)). Contains l p) e h)) (λ (h : Noted f views p). h)
        (noted_back f views i w p c)),
  )

  -- A claim in both its outcomes: one desk changed its drawn numbers or its count of misses, and the counter rose. Looks, lowered
  -- values, shares and the words of classes are untouched, so their part of the state condition is carried over here, once for
  -- both; only the three conditions that tie the counter to drawn numbers and misses are left to the two lemmas below.
  claims_one : (words : List ℕ) (views : List Sheet) (i m : ℕ) (v w : Sheet) → IsKept size words views → get_elem? views i ≡ some v →
      m ≡ slice_index words 0 + 1
      → w.share ≡ v.share → w.looks ≡ v.looks → w.lowered ≡ v.lowered → IsDesk size w
      → ((x : ℕ) → total (λ u. times x u.drawn) (set views i w) ≡ once_below x (min m size.tasks))
      → (m ≤ size.tasks + total (λ u. u.over) (set views i w)) → (0 < total (λ u. u.over) (set views i w) → size.tasks ≤ m)
      → IsKept size (set words 0 m) (set views i w)
  claims_one words views i m v w s at is share looks lowered desk drawn high low =
      let r = s.row in
      let c = counted words m (omega arith) in
      let low_same = same_lists lowered_in views i v w at lowered in
      let look_same = same_lists looks_in views i v w at looks in
      let t = total_set (λ u. u.share) views i v w at in
      record {
        small = s.small;
        row = length-set words 0 m ∙ s.row;
        drawn = λ x. subst (λ (z : ℕ). total (λ u. times x u.drawn) (set views i w) ≡ once_below x (min z size.tasks)) (sym c.0) (drawn x);
        counter_high = subst (λ (z : ℕ). z ≤ size.tasks + total (λ u. u.over) (set views i w)) (sym c.0) high;
        counter_low = λ h. subst (λ (z : ℕ). size.tasks ≤ z) (sym c.0) (low h);
        shares = (let u = s.shares in omega arith);
        desks = desks_set views i w s.desks desk;
        least = least_kept words (set words 0 m) views (set views i w) s (λ k h. c.1 k) low_same.0 low_same.1;
        looks = λ p h. looks_kept words (set words 0 m) views (set views i w) (λ k h. le_of_eq (c.1 k)) low_same.0 p
            (s.looks p (look_same.1 p h));
      }

  -- A claim that finds a number n below the tasks. The state condition has each x drawn as often, over all desks, as it lies below
  -- the counter. The counter passes n alone, and n alone joins a list: at n both sides of the equation rise by one, elsewhere
  -- neither does. As no number can count twice, `Desk::claim` never gives two desks one task. That no claim missed before follows
  -- from the counter.
  pub claim_draws : (words : List ℕ) (views : List Sheet) (i m : ℕ) (v : Sheet) → IsKept size words views → get_elem? views i ≡ some v →
      m ≡ slice_index words 0 + 1 → 0 < v.share
      → slice_index words 0 < size.tasks → IsKept size (set words 0 m) (set views i (drew v (slice_index words 0)))
  claim_draws words views i m v s at is share below =
      let n : ℕ = slice_index words 0 in let w = drew v n in let d = s.desks i v at in
      let over = total_set (λ u. u.over) views i v w at in let high = s.counter_high in let low = s.counter_low in
      claims_one words views i m v w s at is refl refl refl
      (record { over_in_share = d.over_in_share; of_board = d.of_board; empty = λ h. absurd (omega arith) })
      (λ x.
      let t = total_set (λ u. times x u.drawn) views i v w at in let a = times-append x v.drawn (n ∷ []) in
      let b = once_step x n size.tasks below in let c = s.drawn x in
      subst (λ (z : ℕ). total (λ u. times x u.drawn) (set views i w) ≡ once_below x (min z size.tasks)) (sym is)
      (plus_same (total (λ u. times x u.drawn) (set views i w)) (total (λ u. times x u.drawn) views) (times x v.drawn) (times x (n ∷ []))
      (once_below x (min n size.tasks)) (once_below x (min (n + 1) size.tasks))
      (t ∙ ap (λ (k : ℕ). total (λ u. times x u.drawn) views + k) a) c b))
      (omega arith) (λ h. let l = low (omega arith) in absurd (omega arith))

  -- A claim that finds no task left: the counter rises further, but the smaller of counter and tasks stays, so the counts of drawn
  -- numbers stay too. The rise is charged to the miss: the counter is at most the tasks and all misses. A desk that missed claims
  -- no more, so its misses stay within its share, and all of them within the whole: this is why the counter never comes near the
  -- end of its word.
  pub claim_misses : (words : List ℕ) (views : List Sheet) (i m : ℕ) (v : Sheet) → IsKept size words views → get_elem? views i ≡ some v →
      m ≡ slice_index words 0 + 1 → v.over ≡ 0 → 0 < v.share
      → size.tasks ≤ slice_index words 0 → IsKept size (set words 0 m) (set views i (missed v))
  claim_misses words views i m v s at is first share past =
      let n : ℕ = slice_index words 0 in let w = missed v in let d = s.desks i v at in
      let over = total_set (λ u. u.over) views i v w at in let high = s.counter_high in
      claims_one words views i m v w s at is refl refl refl
      (record { over_in_share = omega arith; of_board = d.of_board; empty = λ h. absurd (omega arith) })
      (λ x.
      let t = total_set (λ u. times x u.drawn) views i v w at in let b = once_past x n size.tasks past in let c = s.drawn x in
      subst (λ (z : ℕ). total (λ u. times x u.drawn) (set views i w) ≡ once_below x (min z size.tasks)) (sym is)
      (plus_same (total (λ u. times x u.drawn) (set views i w)) (total (λ u. times x u.drawn) views) (times x v.drawn) 0
      (once_below x (min n size.tasks)) (once_below x (min (n + 1) size.tasks)) (t ∙ omega arith) c (b ∙ omega arith)))
      (omega arith) (λ h. omega arith)

  -- a word is written as it was
  pub unwritten : (words : List ℕ) (j : ℕ) → set words j (slice_index words j) ≡ words
  unwritten [] j = refl
  unwritten (x ∷ xs) zero = refl
  unwritten (x ∷ xs) (suc j) = ap (λ l. x ∷ l) (unwritten xs j)

  -- A look notes the value of the class's word. That the new entry is 0 or a value by which some desk lowered the class is what the
  -- state condition says of the word itself, as one word stands for one value alone; and the word is at most the value because it
  -- is equal. Nothing else changes, so the rest is carried over.
  pub look_keeps : (words : List ℕ) (views : List Sheet) (i k : ℕ) (x : ℤ) (v : Sheet) → IsKept size words views →
      get_elem? views i ≡ some v → 0 < v.share → k < size.classes
      → Stands (slice_index words (k + 1)) x → IsKept size words (set views i (looked v k x))
  look_keeps words views i k x v s at share class is =
      let w = looked v k x in let d = s.desks i v at in
      let low_same = same_lists lowered_in views i v w at refl in
      let over = total_set (λ u. u.over) views i v w at in
      let parts = total_set (λ u. u.share) views i v w at in
      let old = s.least k class in
      let mine : IsLook size words views (k, x) = record {
        class = class;
        source =
            ⊎_elim (λ (z : slice_index words (k + 1) ≡ zero_word). inl (let z' = z in omega (arith, ints)))
            (λ (r : (y : ℤ) × Stands (slice_index words (k + 1)) y × Noted lowered_in views (k, y)).
            let e = r.1 in let same : r.0 ≡ x = omega (arith, ints) in inr (subst (λ (y : ℤ). Noted lowered_in views (k, y)) same r.2))
            old.reached;
        above = omega (arith, ints);
      } in
      record {
        small = s.small;
        row = s.row;
        drawn = λ y. let t = total_set (λ u. times y u.drawn) views i v w at in let c = s.drawn y in
            plus_same (total (λ u. times y u.drawn) (set views i w)) (total (λ u. times y u.drawn) views) (times y v.drawn)
            0 _ _ (t ∙ omega arith) c (omega arith);
        counter_high = (let h = s.counter_high in omega arith);
        counter_low = λ h. s.counter_low (omega arith);
        shares = (let u = s.shares in omega arith);
        desks = desks_set views i w s.desks
            (record { over_in_share = d.over_in_share; of_board = d.of_board; empty = λ h. absurd (omega arith) });
        least = least_kept words words views (set views i w) s (λ k h. refl) low_same.0 low_same.1;
        looks = λ p h.
            let go : IsLook size words views p → IsLook size words (set views i w) p =
            looks_kept words words views (set views i w) (λ k h. le_refl _) low_same.0 p in
            ⊎_elim
            (λ (c : Contains (v.looks ++ (k, x) ∷ []) p). ⊎_elim (λ (b : Contains v.looks p). go (s.looks p (i, v, at, b)))
            (λ (e : (k, x) ≡ p). subst (IsLook size words (set views i w)) e
            (looks_kept words words views (set views i w) (λ k h. le_refl _) low_same.0 (k, x) mine))
            (Contains-push_cases v.looks (k, x) p c))
            (λ (c : Noted looks_in views p). go (s.looks p c))
            (noted_back looks_in views i w p h);
      }

  -- the class's word is the least of what it was and the new one, and the other words are as they were
  set_word : (words : List ℕ) (j m : ℕ) → j < length words →
      (slice_index (set words j m) j ≡ m) × ((i : ℕ) → i ≢ j → slice_index (set words j m) i ≡ slice_index words i)
  set_word words j m h = (get_or-set_same words j m 0 h, λ i (n : i ≢ j). rw get_or-set_other refl)

  -- A lowering makes the class's word the smaller of itself and the word of x, and x joins the desk's entries in the same step. So
  -- the word is again the least of 0 and all entries: it is at most the old word and so at most each old entry, at most x, and
  -- equal to the one or the other. Other classes keep word and entries, and as the word only fell, every earlier look stays above
  -- it.
  pub lower_keeps : (words : List ℕ) (views : List Sheet) (i k m : ℕ) (x : ℤ) (v : Sheet) → IsKept size words views →
      get_elem? views i ≡ some v → 0 < v.share → k < size.classes
      → Stands m x → IsKept size (set words (k + 1) (min (slice_index words (k + 1)) m)) (set views i (lowered_by v k x))
  lower_keeps words views i k m x v s at share class is =
      let n : ℕ = slice_index words (k + 1) in
      let now = set words (k + 1) (min n m) in
      let w = lowered_by v k x in let d = s.desks i v at in
      let r = s.row in
      let at_word = set_word words (k + 1) (min n m) (omega arith) in
      let counter : slice_index now 0 ≡ slice_index words 0 = at_word.1 0 (λ e. omega arith) in
      let on : (p : ℕ × ℤ) → Noted lowered_in views p → Noted lowered_in (set views i w) p =
      λ p c. noted_set lowered_in views i v w p at (λ h. Contains-append_left v.lowered ((k, x) ∷ []) p h) c in
      let look_same = same_lists looks_in views i v w at refl in
      let over = total_set (λ u. u.over) views i v w at in
      let parts = total_set (λ u. u.share) views i v w at in
      let back : (p : ℕ × ℤ) → Noted lowered_in (set views i w) p → Noted lowered_in views p ⊎ ((k, x) ≡ p) = λ p c.
      ⊎_elim (λ (h : Contains (v.lowered ++ (k, x) ∷ []) p). ⊎_elim (λ (b : Contains v.lowered p). inl (i, v, at, b))
      (λ (e : (k, x) ≡ p). inr e) (Contains-push_cases v.lowered (k, x) p h))
      (λ (h : Noted lowered_in views p). inl h) (noted_back lowered_in views i w p c) in
      let mine : Noted lowered_in (set views i w) (k, x) =
      (i, w, set_here views i w (there views i v at), Contains-push v.lowered (k, x)) in
      let less : (j : ℕ) → j < size.classes → slice_index now (j + 1) ≤ slice_index words (j + 1) = λ j h.
      elim (ℕ_discrete j k) [
        | yes same ↦ let P : ℕ → Type 0 = λ j. slice_index now (j + 1) ≤ slice_index words (j + 1) in
            subst P (sym same) (let e = at_word.0 in omega arith)
        | no apart ↦ le_of_eq (at_word.1 (j + 1) (λ e. apart (omega arith)))
      ] in
      record {
        small = s.small;
        row = length-set words (k + 1) (min n m) ∙ s.row;
        drawn = λ y.
            let t = total_set (λ u. times y u.drawn) views i v w at in let c = s.drawn y in
            subst (λ (z : ℕ). total (λ u. times y u.drawn) (set views i w) ≡ once_below y (min z size.tasks)) (sym counter)
            (plus_same (total (λ u. times y u.drawn) (set views i w)) (total (λ u. times y u.drawn) views) (times y v.drawn)
            0 _ _ (t ∙ omega arith) c (omega arith));
        counter_high = (let h = s.counter_high in omega arith);
        counter_low = λ h. let l = s.counter_low (omega arith) in omega arith;
        shares = (let u = s.shares in omega arith);
        desks = desks_set views i w s.desks
            (record { over_in_share = d.over_in_share; of_board = d.of_board; empty = λ h. absurd (omega arith) });
        least = λ j h. elim (ℕ_discrete j k) [
          | yes same ↦
              let old = s.least k class in
              let most = old.most in
              let P : ℕ → Type 0 = λ j. IsLeastWord (set views i w) j (slice_index now (j + 1)) in
              subst P (sym same) (subst (IsLeastWord (set views i w) k) (sym at_word.0) (record {
                most = omega arith;
                below = λ y c. ⊎_elim
                    (λ (b : Noted lowered_in views (k, y)). let l = old.below y b in omega (arith, ints))
                    (λ (e : (k, x) ≡ (k, y)). let e' : x ≡ y = ap (λ (p : ℕ × ℤ). p.1) e in omega (arith, ints))
                    (back (k, y) c);
                reached = elim (dec_le n m) [
                  | yes low ↦ let e : min n m ≡ n = omega arith in
                      ⊎_elim (λ (z : n ≡ zero_word). inl (e ∙ z))
                      (λ (t : (y : ℤ) × Stands n y × Noted lowered_in views (k, y)).
                      inr (t.0, ap (λ (z : ℕ). pos z) e ∙ t.1, on (k, t.0) t.2)) old.reached
                  | no high ↦ let e : min n m ≡ m = omega arith in inr (x, ap (λ (z : ℕ). pos z) e ∙ is, mine)
                ];
              }))
          | no apart ↦
              let old = s.least j h in
              let e = at_word.1 (j + 1) (λ q. apart (omega arith)) in
              subst (IsLeastWord (set views i w) j) (sym e) (record {
                most = old.most;
                below = λ y c. ⊎_elim (λ (b : Noted lowered_in views (j, y)). old.below y b)
                    (λ (q : (k, x) ≡ (j, y)). absurd (apart (sym (ap (λ (p : ℕ × ℤ). p.0) q)))) (back (j, y) c);
                reached = ⊎_elim (λ (z : slice_index words (j + 1) ≡ zero_word). inl z)
                    (λ (t : (y : ℤ) × Stands (slice_index words (j + 1)) y × Noted lowered_in views (j, y)).
                    inr (t.0, t.1, on (j, t.0) t.2)) old.reached;
              })
        ];
        looks = λ p h. looks_kept words now views (set views i w) less on p (s.looks p (look_same.1 p h));
      }

  abbrev SameNotes : (Sheet → List (ℕ × ℤ)) → List Sheet → List Sheet → Type 0
  SameNotes f views after = ((p : ℕ × ℤ) → Noted f views p → Noted f after p) × ((p : ℕ × ℤ) → Noted f after p → Noted f views p)

  no_note : (l : List (ℕ × ℤ)) (p : ℕ × ℤ) → l ≡ [] → Contains l p → ⊥
  no_note l p e c = let c' : Contains [] p = subst (λ (m : List (ℕ × ℤ)). Contains m p) e c in let h = c'.1 in omega arith

  -- A split changes no list of the desk and the new desk begins with an empty one: over all desks the entries are the same.
  split_lists : (f : Sheet → List (ℕ × ℤ)) (views : List Sheet) (i : ℕ) (v w o : Sheet) → get_elem? views i ≡ some v → f w ≡ f v →
      f o ≡ [] → SameNotes f views (set views i w ++ o ∷ [])
  split_lists f views i v w o at same nil =
      let mid = set views i w in let a = same_lists f views i v w at same in (
        (λ p c. noted_snoc f mid o p (a.0 p c)),
        (λ p c. ⊎_elim (λ (h : Contains (f o) p). absurd (no_note (f o) p nil h)) (λ (h : Noted f mid p). a.1 p h)
            (noted_snoc_back f mid o p c)),
      )

  -- A join moves entries and loses none: the one desk's list becomes that of both, and the other stays at its place with nothing in
  -- it. Each entry is found again by asking whose it was: of this desk or of the other one it is in the joined list, of a third one
  -- it is where it was. So over all desks the entries are the same.
  join_lists : (f : Sheet → List (ℕ × ℤ)) (views : List Sheet) (i j : ℕ) (v w b : Sheet) → get_elem? views i ≡ some v →
      get_elem? views j ≡ some w → ¬ (j ≡ i) → f b ≡ f v ++ f w → f spent ≡ [] → SameNotes f views (set (set views i b) j spent)
  join_lists f views i j v w b at at3 apart both nil =
      let mid = set views i b in let after = set mid j spent in
      let still : get_elem? after i ≡ some b = set_else mid j i spent (λ q. apart (sym q)) ∙ set_here views i b (there views i v at) in
      let mine : (p : ℕ × ℤ) → Contains (f v ++ f w) p → Noted f after p =
      λ p c. (i, b, still, subst (λ (l : List (ℕ × ℤ)). Contains l p) (sym both) c) in (
        (λ p c. elim (ℕ_discrete c.0 i) [
          | yes same ↦ mine p (Contains-append_left (f v) (f w) p
              (subst (λ (y : Sheet). Contains (f y) p) (some-injective c.1 v (sym c.2 ∙ (ap (get_elem? views) same ∙ at))) c.3))
          | no other ↦ elim (ℕ_discrete c.0 j) [
            | yes same ↦ mine p (Contains-append_right (f v) (f w) p
                (subst (λ (y : Sheet). Contains (f y) p) (some-injective c.1 w (sym c.2 ∙ (ap (get_elem? views) same ∙ at3))) c.3))
            | no third ↦ (c.0, c.1, set_else mid j c.0 spent third ∙ (set_else views i c.0 b other ∙ c.2), c.3)
          ]
        ]),
        (λ p c.
            ⊎_elim (λ (h : Contains (f spent) p). absurd (no_note (f spent) p nil h))
            (λ (h : Noted f mid p). ⊎_elim
            (λ (q : Contains (f b) p). ⊎_elim (λ (z : Contains (f v) p). (i, v, at, z)) (λ (z : Contains (f w) p). (j, w, at3, z))
            (Contains-append_cases (f v) (f w) p (subst (λ (l : List (ℕ × ℤ)). Contains l p) both q)))
            (λ (q : Noted f views p). q) (noted_back f views i b p h))
            (noted_back f mid j spent p c)),
      )

  -- A split takes one part of the share for a desk that has done nothing yet: the sum of the shares is the same, and so are all
  -- counts and entries. No claim of the desk may have missed, since its misses must stay within a share that has become smaller.
  pub split_keeps : (words : List ℕ) (views : List Sheet) (i : ℕ) (v : Sheet) → IsKept size words views → get_elem? views i ≡ some v →
      v.over ≡ 0 → 1 < v.share
      → IsKept size words (set views i (split_left v) ++ split_right v ∷ [])
  split_keeps words views i v s at none_missed share =
      let w = split_left v in let o = split_right v in let mid = set views i w in let d = s.desks i v at in
      let over = total_set (λ u. u.over) views i v w at in
      let parts = total_set (λ u. u.share) views i v w at in
      let over2 = total_snoc (λ u. u.over) mid o in
      let parts2 = total_snoc (λ u. u.share) mid o in
      let low = split_lists lowered_in views i v w o at refl refl in
      let look = split_lists looks_in views i v w o at refl refl in
      record {
        small = s.small;
        row = s.row;
        drawn = λ y. let t = total_set (λ u. times y u.drawn) views i v w at in let t2 = total_snoc (λ u. times y u.drawn) mid o in
            let c = s.drawn y in
            plus_same (total (λ u. times y u.drawn) (mid ++ o ∷ [])) (total (λ u. times y u.drawn) views) (times y v.drawn)
            0 _ _ (omega arith) c (omega arith);
        counter_high = (let h = s.counter_high in omega arith);
        counter_low = λ h. s.counter_low (omega arith);
        shares = (let u = s.shares in omega arith);
        desks = desks_snoc mid o
            (desks_set views i w s.desks (record {
              over_in_share = omega arith;
              of_board = λ h. d.of_board (omega arith);
              empty =
                  λ h. absurd (omega arith);
            }))
            (record { over_in_share = omega arith; of_board = λ h. d.of_board (omega arith); empty = λ h. absurd (omega arith) });
        least = least_kept words words views (mid ++ o ∷ []) s (λ k h. refl) low.0 low.1;
        looks = λ p h. looks_kept words words views (mid ++ o ∷ []) (λ k h. le_refl _) low.0 p (s.looks p (look.1 p h));
      }

  -- A join gives one desk what both had and leaves nothing to the other, so each sum over the desks, of shares, misses and drawn
  -- numbers, is what it was: what the one gains the other loses. Misses stay within the share since they did so in both parts. With
  -- splits this makes the share a quantity that no step changes, from which a desk that has all of it can tell that no other is
  -- left.
  pub join_keeps : (words : List ℕ) (views : List Sheet) (i j : ℕ) (v w : Sheet) → IsKept size words views →
      get_elem? views i ≡ some v → ¬ (j ≡ i) → 0 < v.share
      → get_elem? (set views i (joined v w)) j ≡ some w → IsKept size words (set (set views i (joined v w)) j spent)
  join_keeps words views i j v w s at apart share at2 =
      let b = joined v w in let mid = set views i b in let after = set mid j spent in let d = s.desks i v at in
      let at3 : get_elem? views j ≡ some w = sym (set_else views i j b apart) ∙ at2 in
      let e = s.desks j w at3 in
      let over = total_set (λ u. u.over) views i v b at in
      let parts = total_set (λ u. u.share) views i v b at in
      let over2 = total_set (λ u. u.over) mid j w spent at2 in
      let parts2 = total_set (λ u. u.share) mid j w spent at2 in
      let still : get_elem? after i ≡ some b = set_else mid j i spent (λ q. apart (sym q)) ∙ set_here views i b (there views i v at) in
      let low = join_lists lowered_in views i j v w b at at3 apart refl refl in
      let look = join_lists looks_in views i j v w b at at3 apart refl refl in
      record {
        small = s.small;
        row = s.row;
        drawn = λ y. let t = total_set (λ u. times y u.drawn) views i v b at in
            let t2 = total_set (λ u. times y u.drawn) mid j w spent at2 in let c = s.drawn y in
            let a = times-append y v.drawn w.drawn in
            plus_same (total (λ u. times y u.drawn) after) (total (λ u. times y u.drawn) views) (times y v.drawn)
            0 _ _ (omega arith) c (omega arith);
        counter_high = (let h = s.counter_high in omega arith);
        counter_low = λ h. s.counter_low (omega arith);
        shares = (let u = s.shares in omega arith);
        desks = desks_set mid j spent
            (desks_set views i b s.desks
            (record {
              over_in_share = (let p = d.over_in_share in let q = e.over_in_share in omega arith);
              of_board =
                  λ h. d.of_board share;
              empty = λ h. absurd (omega arith);
            }))
            (record { over_in_share = omega arith; of_board = λ h. absurd (omega arith); empty = λ h. (refl, refl, refl) });
        least = least_kept words words views after s (λ k h. refl) low.0 low.1;
        looks = λ p h. looks_kept words words views after (λ k h. le_refl _) low.0 p (s.looks p (look.1 p h));
      }
