-- No limit hides a column that is kept.
use Rattle.std.proofs.Common.{◌≡◌, ◌⊎◌, inl, inr, ⊎_elim, ℕ, ℤ, pos, zero, suc, ◌+◌, ◌*◌, ◌/◌, ◌%◌, ◌<◌, ◌≤◌, ◌≤ℤ◌, List, [], ◌∷◌, ◌++◌, map, Option, Some, None, Contains, refl, sym, ap, ◌∙◌, subst, arith, ne_eqb, append_assoc}
use mathlib.Core.List.{map-append}
use Rattle.std.specs.List.{AllZip}
use native.Mathlib.Decide.{ℕ_discrete}
use Rattle.std.proofs.lemmas.Int.{ints}
use Rattle.std.proofs.lemmas.Bool.Decides.{nat_tests}
use Rattle.plan_core.specs.declared.Price.{Price}
use Rattle.cover_core.specs.declared.Column.{Column}
use Rattle.cover_core.specs.FirstLeast.{value}
use Rattle.cover_core.specs.Best.{within}
use Rattle.std.proofs.lemmas.List.Elements.{All-contains, Contains-append_left, Contains-append_right, Contains-append_cases}
use Rattle.std.proofs.lemmas.Nat.{div-mul-add, mod-mul-add}
use Rattle.task_board.specs.declared.sheet.Sheet.{Sheet}
use Rattle.task_board.specs.Sheets.{times, once_below, joined, HasAll}
use Rattle.worker_price.specs.declared.found.Found.{Found}
use Rattle.worker_price.specs.Work.{Best, limit_of, lowering, lowerings, FoundUnder, task_of}
use Rattle.worker_price.specs.Gathered.{Gathered}
use Rattle.worker_price.proofs.Limits.{head_cases, IsLeastIn, IsLeastOver, found_low, found_where, within_some, within_within, limit_rises}

module _ {A B : Type 0} (R : A → B → Type 0) where
  -- what stands beside an element
  zip_at : (xs : List A) (ys : List B) (x : A) → AllZip R xs ys → Contains xs x → (y : B) × Contains ys y × R x y
  zip_at [] ys x h c = absurd (let l = c.1 in omega arith)
  zip_at (a ∷ xs) [] x h c = absurd h
  zip_at (a ∷ xs) (b ∷ ys) x h (zero, l, e) = (b, (0, omega arith, refl), subst (λ (z : A). R z b) e h.0)
  zip_at (a ∷ xs) (b ∷ ys) x h (suc k, l, e) =
      let r = zip_at xs ys x h.1 (k, omega arith, e) in (r.0, (suc r.1.0, (let m = r.1.1 in omega arith), r.1.2), r.2)

-- a number that is counted stands there
pub counted_there : (x : ℕ) (xs : List ℕ) → 0 < times x xs → Contains xs x
counted_there x [] h = absurd (omega arith)
counted_there x (y ∷ ys) h = elim (ℕ_discrete y x) [
  | yes same ↦ (0, omega arith, same)
  | no apart ↦ let h' : 0 < times x ys = (let g = rw (ne_eqb y x apart) at h in omega arith) in let r = counted_there x ys h' in
      (suc r.0, (let l = r.1 in omega arith), r.2)
]

task_there : (t : ℕ) (found : List Found) → Contains (map task_of found) t → (f : Found) × Contains found f × (f.task ≡ t)
task_there t [] c = absurd (let l = c.1 in omega arith)
task_there t (f ∷ fs) c =
    ⊎_elim (λ (e : f.task ≡ t). (f, (0, omega arith, refl), e))
    (λ (d : Contains (map task_of fs) t). let r = task_there t fs d in (r.0, (suc r.1.0, (let l = r.1.1 in omega arith), r.1.2), r.2))
    (head_cases f.task (map task_of fs) t c)

module _ (prices : List Price) (groups : ℕ) where
  entry_there : (found : List Found) (f : Found) (c : Column) → Contains found f → f.column ≡ Some c →
      Contains (lowerings prices groups found) (f.task / groups, value prices c)
  entry_there [] f c h e = absurd (let l = h.1 in omega arith)
  entry_there (g ∷ gs) f c h e =
      ⊎_elim
      (λ (same : g ≡ f).
      let mine : lowering prices (g.task / groups) g.column ≡ (f.task / groups, value prices c) ∷ [] =
      ap (λ (z : Found). lowering prices (z.task / groups) z.column) same ∙ ap (lowering prices (f.task / groups)) e in
      Contains-append_left (lowering prices (g.task / groups) g.column) (lowerings prices groups gs) (f.task / groups, value prices c)
      (subst (λ (l : List (ℕ × ℤ)). Contains l (f.task / groups, value prices c)) (sym mine) (0, omega arith, refl)))
      (λ (rest : Contains gs f). Contains-append_right (lowering prices (g.task / groups) g.column) (lowerings prices groups gs)
      (f.task / groups, value prices c) (entry_there gs f c rest e))
      (head_cases g gs f h)

  entry_of : (k t : ℕ) (x : ℤ) (o : Option Column) → Contains (lowering prices t o) (k, x) →
      (c : Column) × (o ≡ Some c) × (t ≡ k) × (value prices c ≡ x)
  entry_of k t x None h = absurd (let l = h.1 in omega arith)
  entry_of k t x (Some c) h =
      ⊎_elim (λ (e : (t, value prices c) ≡ (k, x)). (c, refl, ap (λ (p : ℕ × ℤ). p.0) e, ap (λ (p : ℕ × ℤ). p.1) e))
      (λ (d : Contains [] (k, x)). absurd (let l = d.1 in omega arith)) (head_cases (t, value prices c) [] (k, x) h)

  entry_back : (found : List Found) (k : ℕ) (x : ℤ) → Contains (lowerings prices groups found) (k, x)
      → (f : Found) × Contains found f × ((c : Column) × (f.column ≡ Some c) × (f.task / groups ≡ k) × (value prices c ≡ x))
  entry_back [] k x h = absurd (let l = h.1 in omega arith)
  entry_back (g ∷ gs) k x h =
      ⊎_elim
      (λ (c : Contains (lowering prices (g.task / groups) g.column) (k, x)).
      (g, (0, omega arith, refl), entry_of k (g.task / groups) x g.column c))
      (λ (c : Contains (lowerings prices groups gs) (k, x)). let r =
      entry_back gs k x c in (r.0, (suc r.1.0, (let l = r.1.1 in omega arith), r.1.2), r.2))
      (Contains-append_cases (lowering prices (g.task / groups) g.column) (lowerings prices groups gs) (k, x) h)

zip_append : {A B : Type 0} (R : A → B → Type 0) (xs zs : List A) (ys ws : List B) → AllZip R xs ys → AllZip R zs ws →
    AllZip R (xs ++ zs) (ys ++ ws)
zip_append R [] zs [] ws a b = b
zip_append R [] zs (y ∷ ys) ws a b = absurd a
zip_append R (x ∷ xs) zs [] ws a b = absurd a
zip_append R (x ∷ xs) zs (y ∷ ys) ws a b = (a.0, zip_append R xs zs ys ws a.1 b)

lowerings_both : (prices : List Price) (groups : ℕ) (fs gs : List Found) →
    lowerings prices groups (fs ++ gs) ≡ lowerings prices groups fs ++ lowerings prices groups gs
lowerings_both prices groups [] gs = refl
lowerings_both prices groups (f ∷ fs) gs =
    ap (λ l. lowering prices (f.task / groups) f.column ++ l) (lowerings_both prices groups fs gs)
    ∙ sym (append_assoc (lowering prices (f.task / groups) f.column) (lowerings prices groups fs) (lowerings prices groups gs))

-- two desks joined have gathered what both had
pub gathered_join : (best : Best) (prices : List Price) (groups : ℕ) (v w : Sheet) (fs gs : List Found) → Gathered best prices groups v fs →
    Gathered best prices groups w gs → Gathered best prices groups (joined v w) (fs ++ gs)
gathered_join best prices groups v w fs gs a b = record {
  drawn = (λ i. a.drawn i ++ b.drawn i) ∙ sym (map-append task_of fs gs);
  looks = zip_append (FoundUnder best prices groups) fs gs v.looks w.looks a.looks b.looks;
  lowered = (λ i. a.lowered i ++ b.lowered i) ∙ sym (lowerings_both prices groups fs gs);
}

module _ (best : Best) (prices : List Price) (groups tasks : ℕ) (v : Sheet) (found : List Found) (g : Gathered best prices groups v found)
    (all : HasAll v) (enough : v.tasks ≡ tasks) (ended : 0 < v.over) (some : (f : Found) → Contains found f → 0 < groups) where
  -- each task was found
  pub each_found : (t : ℕ) → t < tasks → (f : Found) × Contains found f × (f.task ≡ t)
  each_found t h =
      let n = all.drawn.0 in let whole = all.drawn.3 ended in
      let one : once_below t n ≡ 1 = (let e : t < n = omega arith in grind (arith, nat_tests)) in
      let counted = all.drawn.2 t in
      task_there t found (subst (λ (l : List ℕ). Contains l t) g.drawn (counted_there t v.drawn (omega arith)))

  -- under what a task was found
  look_of : (f : Found) → Contains found f → (p : ℕ × ℤ) × Contains v.looks p × FoundUnder best prices groups f p
  look_of f c = zip_at (FoundUnder best prices groups) found v.looks f g.looks c

  -- what was looked at is no less than the least entry
  above_least : (k : ℕ) (l : ℤ) (p : ℕ × ℤ) → IsLeastIn v.lowered k l → p.0 ≡ k → Contains v.looks p → l ≤ℤ p.1
  above_least k l p least class c =
      ⊎_elim (λ (z : p.1 ≡ pos 0). let m = least.most in omega (arith, ints))
      (λ (d : Contains v.lowered p). least.below p.1 (subst (λ (i : ℕ). Contains v.lowered (i, p.1)) class d))
      (All-contains (λ (q : ℕ × ℤ). (q.1 ≡ pos 0) ⊎ Contains v.lowered q) v.looks p all.looks c)

  -- The least entry of a class is the least value of its first leasts, where that is below 0. Every task was found, as the desk
  -- with the whole share drew each once; and by `found_low` no first least is below the least entry, for what its worker had looked
  -- at is 0 or an entry, and so no less. Which worker found it, and under which limit, does not matter.
  pub least_is : (k : ℕ) (l : ℤ) → k * groups + groups ≤ tasks → IsLeastIn v.lowered k l → IsLeastOver prices (best k) groups l
  least_is k l class least = record {
    most = least.most;
    below = λ i c small is.
        let f = each_found (k * groups + i) (omega arith) in
        let p = look_of f.0 f.1 in
        let at : f.0.task / groups ≡ k = ap (λ (t : ℕ). t / groups) f.2 ∙ div-mul-add k groups i small in
        let rest : f.0.task % groups ≡ i = ap (λ (t : ℕ). t % groups) f.2 ∙ mod-mul-add k groups i small in
        let seen = above_least k l p.0 least (p.2.0 ∙ at) p.1 in
        let column : f.0.column ≡ within (limit_of p.0.1) prices (Some c) =
        p.2.1 ∙ ap (λ (o : Option Column). within (limit_of p.0.1) prices o)
        (ap (λ n. best n (f.0.task % groups)) at ∙ (ap (best k) rest ∙ is)) in
        found_low l (value prices c) p.0.1 least.most seen
        (λ low.
        let there = entry_there prices groups found f.0 c f.1 (column ∙ found_where prices c (limit_of p.0.1) low) in
        least.below (value prices c)
        (subst (λ (n : ℕ). Contains v.lowered (n, value prices c)) at (subst
        (λ (e : List (ℕ × ℤ)). Contains e (f.0.task / groups, value prices c)) (sym g.lowered) there)));
    reached =
        ⊎_elim (λ (z : l ≡ pos 0). inl z)
        (λ (d : Contains v.lowered (k, l)).
        let e = entry_back prices groups found k l (subst (λ (n : List (ℕ × ℤ)). Contains n (k, l)) g.lowered d) in
        let f = e.0 in let c = e.2.0 in
        let p = look_of f e.1 in
        let positive = some f e.1 in
        inr (
          f.task % groups,
          c,
          omega arith,
          ap (λ (n : ℕ). best n (f.task % groups)) (sym e.2.2)
              ∙ within_some prices (limit_of p.0.1) (best (f.task / groups) (f.task % groups)) c (sym p.2.1 ∙ e.2.1),
          e.2.3,
        ))
        least.reached;
  }

  -- A task's column is kept exactly where its best column is: it was found under a limit that is no lower than the one of the least
  -- value, so that limit hid nothing that would be kept. With `least_is` this is why any number of workers gives the same columns.
  pub kept_is : (f : Found) (l : ℤ) → Contains found f → IsLeastIn v.lowered (f.task / groups) l →
      within (limit_of l) prices f.column ≡ within (limit_of l) prices (best (f.task / groups) (f.task % groups))
  kept_is f l c least =
      let p = look_of f c in
      ap (within (limit_of l) prices) p.2.1
      ∙ within_within prices (limit_of l) (limit_of p.0.1) (best (f.task / groups) (f.task % groups))
      (limit_rises l p.0.1 (above_least (f.task / groups) l p.0 least p.2.0 p.1))
