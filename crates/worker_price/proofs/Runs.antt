-- What is gathered in a run of the board's machine.
use Rattle.std.proofs.Common.{◌≡◌, ◌⊎◌, inl, inr, ⊎_elim, ℕ, ℤ, pos, negsuc, zero, suc, ◌+◌, ◌*◌, ◌/◌, ◌<◌, ◌≤◌, ◌≤ℤ◌, nat_lt, cond, List, [], ◌∷◌, length, Option, Some, None, Contains, refl, sym, ap, ◌∙◌, subst, arith, filter_map, ◌≢◌}
use Rattle.std.specs.List.{range_with_len, filter, cons_option}
use Rattle.std.proofs.lemmas.Int.{ints}
use Rattle.std.proofs.lemmas.Bool.Decides.{nat_tests}
use Rattle.std.proofs.lemmas.List.Elements.{All-contains}
use Rattle.std.proofs.lemmas.Nat.{row_fits, div-mul-add}
use Rattle.plan_core.specs.declared.Price.{Price}
use Rattle.cover_core.specs.declared.Column.{Column}
use Rattle.cover_core.specs.Cover.{Problem, Rises, AllBelow}
use Rattle.cover_core.specs.Plans.{HasListedColumns, value_of}
use Rattle.cover_core.specs.FirstLeast.{value}
use Rattle.cover_core.specs.Best.{best_of, within}
use Rattle.cover_core.specs.Laws.{BestIsFirstLeast}
use Rattle.task_board.specs.declared.sheet.Sheet.{Sheet}
use Rattle.task_board.specs.Sheets.{times, once_below, HasAll}
use Rattle.worker_price.specs.Priced.{groups_of, least_value, first_leasts, least_of, is_kept, kept_columns, priced_columns, LeastIsOfLists}
use Rattle.worker_price.specs.Work.{limit_of}
use Rattle.worker_price.specs.Runs.{IsLimit, gathered, gathered_columns, kept_of_gathered, IsPricing}
use Rattle.worker_price.proofs.Limits.{found_low, found_where, within_some, within_within, limit_lowest, limit_rises, IsLeastOver, least_over, least_over_unique, least_value_most, least_value_below, least_value_reached, in_given, from_given}
use Rattle.worker_price.proofs.Gathering.{counted_there}
use Rattle.worker_price.proofs.InOrder.{kept_of_best}
use Rattle.worker_price.proofs.Choosing.{flat_map-range-same}

through : (a b c : ℤ) → a ≤ℤ b → b ≤ℤ c → a ≤ℤ c
through a b c h k = omega (arith, ints)

itself : (a : ℤ) → a ≤ℤ a
itself a = omega (arith, ints)

-- columns of which the same are kept one by one are kept in all
kept_range : (prices : List Price) (l : ℤ) (f b : ℕ → Option Column) (a n : ℕ) →
    ((g : ℕ) → a ≤ g → g < a + n → within (limit_of l) prices (f g) ≡ within (limit_of l) prices (b g))
    → filter (is_kept prices l) (filter_map f (range_with_len a n)) ≡ filter (is_kept prices l) (filter_map b (range_with_len a n))
kept_range prices l f b a zero h = refl
kept_range prices l f b a (suc n) h =
    kept_of_best prices l (f a) (filter_map f (range_with_len (a + 1) n))
    ∙ (ap (λ o. cons_option o (filter (is_kept prices l) (filter_map f (range_with_len (a + 1) n)))) (h a (omega arith) (omega arith))
    ∙ (ap (cons_option (within (limit_of l) prices (b a)))
    (kept_range prices l f b (a + 1) n (λ g low high. h g (omega arith) (omega arith)))
    ∙ sym (kept_of_best prices l (b a) (filter_map b (range_with_len (a + 1) n)))))

module _ (p : Problem) (prices : List Price) (limits : ℕ → ℤ) (v : Sheet) (all : HasAll v)
    (tasks : v.tasks ≡ length p.caps * groups_of p.items) (ended : 0 < v.over) (pricing : IsPricing p prices limits v) where
  -- each task was drawn once
  drawn_one : (t : ℕ) → t < length p.caps * groups_of p.items → times t v.drawn ≡ 1
  drawn_one t h =
      let n = all.drawn.3 ended in
      let one : once_below t (length p.caps * groups_of p.items) ≡ 1 = grind (arith, nat_tests) in
      all.drawn.2 t ∙ (ap (once_below t) (n ∙ tasks) ∙ one)

  task_low : (k g : ℕ) → k < length p.caps → g < groups_of p.items → k * groups_of p.items + g < length p.caps * groups_of p.items
  task_low k g class group =
      let fits = row_fits k (groups_of p.items) (length p.caps) (groups_of p.items) class (omega arith) in omega arith

  -- so its gathered column is its first least within its limit
  gathered_is : (k g : ℕ) → k < length p.caps → g < groups_of p.items →
      gathered p prices limits v.drawn k g ≡ within (limits (k * groups_of p.items + g)) prices (best_of p prices k g)
  gathered_is k g class group =
      let one = drawn_one (k * groups_of p.items + g) (task_low k g class group) in
      ap (λ n. cond (nat_lt 0 n) (within (limits (k * groups_of p.items + g)) prices (best_of p prices k g)) None) one

  -- the least gathered value of a class
  abbrev least_gathered : ℕ → ℤ
  least_gathered k = least_value prices (gathered_columns p prices limits v.drawn k)

  -- no value that was looked at is below it
  above_least : (k : ℕ) (seen : ℤ) → Contains v.looks (k, seen) → least_gathered k ≤ℤ seen
  above_least k seen c =
      ⊎_elim (λ (z : seen ≡ pos 0). subst (λ (x : ℤ). least_gathered k ≤ℤ x) (sym z)
      (least_value_most prices (gathered_columns p prices limits v.drawn k)))
      (λ (d : Contains v.lowered (k, seen)).
      let r = pricing.lowered k seen d in
      subst (λ (x : ℤ). least_gathered k ≤ℤ x) r.2 (least_value_below prices (gathered_columns p prices limits v.drawn k) r.0 r.1))
      (All-contains (λ (q : ℕ × ℤ). (q.1 ≡ pos 0) ⊎ Contains v.lowered q) v.looks (k, seen) all.looks c)

  -- so no limit is below the limit of it
  limit_high : (k g : ℕ) → k < length p.caps → g < groups_of p.items → limit_of (least_gathered k) ≤ℤ limits (k * groups_of p.items + g)
  limit_high k g class group =
      let t = k * groups_of p.items + g in
      let drawn : Contains v.drawn (k * groups_of p.items + g) =
      counted_there (k * groups_of p.items + g) v.drawn (let one =
      drawn_one (k * groups_of p.items + g) (task_low k g class group) in omega arith) in
      let limit : IsLimit v.looks k (limits (k * groups_of p.items + g)) =
      subst (λ (c : ℕ). IsLimit v.looks c (limits (k * groups_of p.items + g))) (div-mul-add k (groups_of p.items) g group)
      (pricing.limited (k * groups_of p.items + g) drawn) in
      ⊎_elim (λ (e : limits (k * groups_of p.items + g) ≡ negsuc 0). subst (λ (x : ℤ). limit_of (least_gathered k) ≤ℤ x) (sym e)
      (limit_lowest (least_gathered k)))
      (λ (r : (seen : ℤ) × Contains v.looks (k, seen) × (limits (k * groups_of p.items + g) ≡ limit_of seen)).
      subst (λ (x : ℤ). limit_of (least_gathered k) ≤ℤ x) (sym r.2) (limit_rises (least_gathered k) r.0 (above_least k r.0 r.1)))
      limit

  -- The same for any run of the board's machine, in which no code takes part: whatever order the steps of the desks had, the least
  -- gathered value of a class is its least value. A first least within its task's limit was gathered, and one above it cannot be
  -- the least, by `found_low`.
  pub least_is_least : (k : ℕ) → k < length p.caps → least_gathered k ≡ least_of p prices k
  least_is_least k class =
      least_over_unique prices (best_of p prices k) (groups_of p.items) (least_gathered k) (least_of p prices k)
      (record {
        most = least_value_most prices (gathered_columns p prices limits v.drawn k);
        below = λ g c group is.
            found_low (least_gathered k) (value prices c) (least_gathered k)
            (least_value_most prices (gathered_columns p prices limits v.drawn k)) (itself (least_gathered k))
            (λ h. least_value_below prices (gathered_columns p prices limits v.drawn k) c
            (in_given (gathered p prices limits v.drawn k) 0 (groups_of p.items) g c (omega arith) (omega arith)
            (gathered_is k g class group ∙ (ap (within (limits (k * groups_of p.items + g)) prices) is
            ∙ found_where prices c (limits (k * groups_of p.items + g))
            (through (value prices c) (limit_of (least_gathered k)) (limits (k * groups_of p.items + g)) h
            (limit_high k g class group))))));
        reached =
            ⊎_elim (λ (z : least_gathered k ≡ pos 0). inl z)
            (λ (r : (c : Column) × Contains (gathered_columns p prices limits v.drawn k) c × (value prices c ≡ least_gathered k)).
            let s = from_given (gathered p prices limits v.drawn k) 0 (groups_of p.items) r.0 r.1 in
            let group : s.0 < groups_of p.items = (let x = s.2 in omega arith) in
            inr (
              s.0,
              r.0,
              group,
              within_some prices (limits (k * groups_of p.items + s.0)) (best_of p prices k s.0) r.0
                  (sym (gathered_is k s.0 class group) ∙ s.3),
              r.2,
            ))
            (least_value_reached prices (gathered_columns p prices limits v.drawn k));
      })
      (least_over prices (best_of p prices k) (groups_of p.items))

  kept_of_class : (k : ℕ) → k < length p.caps →
      kept_columns prices (gathered_columns p prices limits v.drawn k) ≡ kept_columns prices (first_leasts p prices k)
  kept_of_class k class =
      kept_range prices (least_gathered k) (gathered p prices limits v.drawn k) (best_of p prices k) 0 (groups_of p.items)
      (λ g low high.
      let group : g < groups_of p.items = omega arith in
      ap (within (limit_of (least_gathered k)) prices) (gathered_is k g class group)
      ∙ within_within prices (limit_of (least_gathered k)) (limits (k * groups_of p.items + g)) (best_of p prices k g)
      (limit_high k g class group))
      ∙ ap (λ l. filter (is_kept prices l) (first_leasts p prices k)) (least_is_least k class)

  -- What is kept of all that was gathered is what is priced, class by class: each limit is at least that of the least gathered
  -- value, so it hid no column that is kept. This is the workers' theorem over every list of events.
  pub kept_is_priced : kept_of_gathered p prices limits v.drawn ≡ priced_columns p prices
  kept_is_priced =
      flat_map-range-same (λ k. kept_columns prices (gathered_columns p prices limits v.drawn k))
      (λ k. kept_columns prices (first_leasts p prices k)) 0 (length p.caps)
      (λ k low high. kept_of_class k (omega arith))

-- The least value of a class is that of all its lists with a worth: each list is in the group of its first item, and no less than
-- the first least of that group. So prices with class prices made of these values are paid, which is all that a bound needs.
pub least_of_lists : (p : Problem) → HasListedColumns p → BestIsFirstLeast p → LeastIsOfLists p
least_of_lists p listed best prices class low = record {
  most = over.most;
  below = λ list worth is. below list worth is (listed class list worth is);
  reached =
      ⊎_elim (λ (z : least_of p prices class ≡ pos 0). inl z)
      (λ (r : (g : ℕ) × (c : Column) × (g < groups_of p.items) × (best_of p prices class g ≡ Some c)
      × (value prices c ≡ least_of p prices class)).
      let first = (best prices class r.0 low).is_first_least r.1 r.3 in
      inr (r.1.items, r.1.worth, subst (λ (k : ℕ). p.worth k r.1.items ≡ Some r.1.worth) first.of_class first.listed.1, r.4))
      over.reached;
}
  where
    over : IsLeastOver prices (best_of p prices class) (groups_of p.items) (least_of p prices class)
    over = least_over prices (best_of p prices class) (groups_of p.items)

    in_group : (x : ℕ) (xs : List ℕ) (worth : ℕ) → p.worth class (x ∷ xs) ≡ Some worth → x < p.items → (o : Option Column) →
        best_of p prices class (x / 16) ≡ o → least_of p prices class ≤ℤ value_of prices worth (x ∷ xs)
    in_group x xs worth is small None e = absurd ((best prices class (x / 16) low).no_list e (x ∷ xs) worth is refl)
    in_group x xs worth is small (Some c) e =
        let first = (best prices class (x / 16) low).is_first_least c e in
        through (least_of p prices class) (value prices c) (value_of prices worth (x ∷ xs)) (over.below (x / 16) c (omega arith) e)
        (first.least (x ∷ xs) worth is refl)

    below : (list : List ℕ) (worth : ℕ) → p.worth class list ≡ Some worth → (list ≢ []) × Rises list × AllBelow p.items list →
        least_of p prices class ≤ℤ value_of prices worth list
    below [] worth is l = absurd (l.0 refl)
    below (x ∷ xs) worth is l = in_group x xs worth is l.2.0 (best_of p prices class (x / 16)) refl
