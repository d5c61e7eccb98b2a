-- The least values and the kept columns, in order.
use Rattle.std.proofs.Common.{◌≡◌, ◌⊎◌, inl, inr, ⊎_elim, ℕ, ℤ, pos, zero, suc, ◌+◌, ◌*◌, ◌/◌, ◌%◌, ◌<◌, ◌≤◌, List, [], ◌∷◌, ◌++◌, map, length, take, get_or, set, Bool, true, false, cond, Option, Some, None, Contains, refl, sym, ap, ◌∙◌, subst, arith, append-nil, filter_map}
use Rattle.std.specs.List.{range_with_len, flat_map, filter, cons_option}
use Rattle.std.specs.Int.{int_min}
use native.Mathlib.Decide.{ℕ_discrete}
use lib.Signed.{le_z}
use Rattle.std.proofs.lemmas.List.{get_or-set_same, get_or-set_other, take_more, length-set}
use Rattle.std.proofs.lemmas.List.Elements.{filter_map-append, Contains-push_cases}
use Rattle.std.proofs.lemmas.List.FromFn.{fill_by_all}
use Rattle.std.proofs.lemmas.Nat.{div-mul-add, mod-mul-add, div_below}
use Rattle.plan_core.specs.declared.Price.{Price}
use Rattle.cover_core.specs.declared.Column.{Column}
use Rattle.cover_core.specs.FirstLeast.{value}
use Rattle.cover_core.specs.Best.{within}
use Rattle.worker_price.specs.declared.found.Found.{Found}
use Rattle.worker_price.specs.Priced.{is_kept}
use Rattle.worker_price.specs.Work.{Best, limit_of, lowering, lowerings}
use Rattle.worker_price.specs.Gathered.{least_lowered}
use Rattle.worker_price.specs.Order.{least_after, kept, kept_at, IsFoundOfAll, IsKeptAsBest, IsPlaced}
use Rattle.worker_price.proofs.Limits.{kept_is_within, least_lowered-push, least_lowered-other}
use Rattle.worker_price.proofs.Working.{lowerings-append}

-- one more column that was found lowers the least values as its entries do
pub least_step : (prices : List Price) (least : List ℤ) (entries : List (ℕ × ℤ)) (classes class : ℕ) (column : Option Column) →
    length least ≡ classes → class < classes
    → ((k : ℕ) → k < classes → get_or least k (pos 0) ≡ least_lowered entries k)
    → (k : ℕ) → k < classes →
    get_or (least_after prices least class column) k (pos 0) ≡ least_lowered (entries ++ lowering prices class column) k
least_step prices least entries classes class None len low is k h = is k h ∙ ap (λ l. least_lowered l k) (sym (append-nil entries))
least_step prices least entries classes class (Some c) len low is k h =
    elim (ℕ_discrete class k) [
      | yes same ↦
          subst (λ (j : ℕ). get_or (set least class (int_min (value prices c) (get_or least class (pos 0)))) j (pos 0)
          ≡ least_lowered (entries ++ (class, value prices c) ∷ []) j) same
          (get_or-set_same least class (int_min (value prices c) (get_or least class (pos 0))) (pos 0) (omega arith)
          ∙ (ap (int_min (value prices c)) (is class low) ∙ sym (least_lowered-push entries class (value prices c))))
      | no apart ↦
          get_or-set_other least class k (int_min (value prices c) (get_or least class (pos 0))) (pos 0) (λ e. apart (sym e))
          ∙ (is k h ∙ sym (least_lowered-other entries k class (value prices c) apart))
    ]

pub length_after : (prices : List Price) (least : List ℤ) (class : ℕ) (column : Option Column) →
    length (least_after prices least class column) ≡ length least
length_after prices least class None = refl
length_after prices least class (Some c) = simp length-set

pub lowerings-take : (prices : List Price) (groups : ℕ) (found : List Found) (i : ℕ) (f : Found) → i < length found → f ≡ get_or found i f
    → lowerings prices groups (take (i + 1) found) ≡ lowerings prices groups (take i found) ++ lowering prices (f.task / groups) f.column
lowerings-take prices groups found i f h e = ap (lowerings prices groups) (take_more found i f h ∙ ap (λ x. take i found ++ x ∷ []) (sym e))
    ∙ lowerings-append prices groups (take i found) f

-- kept columns are those within the limit of the least
pub kept_of_best : (prices : List Price) (l : ℤ) (b : Option Column) (rest : List Column) →
    filter (is_kept prices l) (cons_option b rest) ≡ cons_option (within (limit_of l) prices b) (filter (is_kept prices l) rest)
kept_of_best prices l None rest = refl
kept_of_best prices l (Some c) rest =
    ap (λ t. cond t (c ∷ filter (is_kept prices l) rest) (filter (is_kept prices l) rest)) (kept_is_within (value prices c) l)
    ∙ same (le_z (value prices c) (limit_of l))
  where
    same : (t : Bool) → cond t (c ∷ filter (is_kept prices l) rest) (filter (is_kept prices l) rest)
        ≡ cons_option (cond t (Some c) None) (filter (is_kept prices l) rest)
    same true = refl
    same false = refl

-- numbers from a on, cut in two
range-split : (a m n : ℕ) → range_with_len a (m + n) ≡ range_with_len a m ++ range_with_len (a + m) n
range-split a zero n = ap (range_with_len a) (none n) ∙ ap (λ k. range_with_len k n) (zero_more a)
  where
    none : (k : ℕ) → 0 + k ≡ k
    none k = omega arith

    zero_more : (k : ℕ) → k ≡ k + 0
    zero_more k = omega arith
range-split a (suc m) n =
    ap (range_with_len a) (out m n)
    ∙ ap (λ l. a ∷ l) (range-split (a + 1) m n ∙ ap (λ k. range_with_len (a + 1) m ++ range_with_len k n) (move a m))
  where
    out : (x y : ℕ) → suc x + y ≡ suc (x + y)
    out x y = omega arith

    move : (x y : ℕ) → x + 1 + y ≡ x + suc y
    move x y = omega arith

module _ (best : Best) (prices : List Price) (groups : ℕ) (least : List ℤ) where
  -- the tasks of a class, from a group on
  class_tasks : (k i n : ℕ) → i + n ≤ groups → filter_map (kept_at best prices groups least) (range_with_len (k * groups + i) n)
      ≡ filter (is_kept prices (get_or least k (pos 0))) (filter_map (best k) (range_with_len i n))
  class_tasks k i zero h = refl
  class_tasks k i (suc n) h =
      let class : (k * groups + i) / groups ≡ k = div-mul-add k groups i (omega arith) in
      let group : (k * groups + i) % groups ≡ i = mod-mul-add k groups i (omega arith) in
      let next : k * groups + i + 1 ≡ k * groups + (i + 1) = omega arith in
      let here : kept_at best prices groups least (k * groups + i) ≡ within (limit_of (get_or least k (pos 0))) prices (best k i) =
      ap (λ c. within (limit_of (get_or least c (pos 0))) prices (best c ((k * groups + i) % groups))) class
      ∙ ap (λ g. within (limit_of (get_or least k (pos 0))) prices (best k g)) group in
      ap (λ o. cons_option o (filter_map (kept_at best prices groups least) (range_with_len (k * groups + i + 1) n))) here
      ∙ (ap (λ a. cons_option (within (limit_of (get_or least k (pos 0))) prices (best k i))
      (filter_map (kept_at best prices groups least) (range_with_len a n))) next
      ∙ (ap (cons_option (within (limit_of (get_or least k (pos 0))) prices (best k i))) (class_tasks k (i + 1) n (omega arith))
      ∙ sym (kept_of_best prices (get_or least k (pos 0)) (best k i) (filter_map (best k) (range_with_len (i + 1) n)))))

  -- The tasks of classes, from a class on. Tasks are numbered class by class, and group by group within a class. So going over
  -- slots by their numbers gives the columns in the order of the definition, and the order in which workers found them is
  -- forgotten.
  pub all_tasks : (k n : ℕ) → filter_map (kept_at best prices groups least) (range_with_len (k * groups) (n * groups))
      ≡ flat_map (λ c. filter (is_kept prices (get_or least c (pos 0))) (filter_map (best c) (range_with_len 0 groups)))
      (range_with_len k n)
  all_tasks k zero = ap (λ m. filter_map (kept_at best prices groups least) (range_with_len (k * groups) m)) (nothing groups)
    where
      nothing : (g : ℕ) → 0 * g ≡ 0
      nothing g = omega arith
  all_tasks k (suc n) =
      let one : k * groups ≡ k * groups + 0 = omega arith in
      let next : k * groups + groups ≡ (k + 1) * groups = omega arith in
      ap (λ m. filter_map (kept_at best prices groups least) (range_with_len (k * groups) m)) (more n groups)
      ∙ (ap (filter_map (kept_at best prices groups least)) (range-split (k * groups) groups (n * groups))
      ∙ (filter_map-append (kept_at best prices groups least) (range_with_len (k * groups) groups)
      (range_with_len (k * groups + groups) (n * groups))
      ∙ (ap (λ a. filter_map (kept_at best prices groups least) (range_with_len a groups) ++ filter_map (kept_at best prices groups least)
      (range_with_len (k * groups + groups) (n * groups))) one
      ∙ (ap (λ l. l ++ filter_map (kept_at best prices groups least) (range_with_len (k * groups + groups) (n * groups)))
      (class_tasks k 0 groups (omega arith))
      ∙ (ap (λ a. filter (is_kept prices (get_or least k (pos 0))) (filter_map (best k) (range_with_len 0 groups))
      ++ filter_map (kept_at best prices groups least) (range_with_len a (n * groups))) next
      ∙ ap (λ l. filter (is_kept prices (get_or least k (pos 0))) (filter_map (best k) (range_with_len 0 groups)) ++ l)
      (all_tasks (k + 1) n))))))
    where
      more : (n g : ℕ) → suc n * g ≡ g + n * g
      more n g = omega arith

-- a board with tasks has groups
pub some_right : (task classes groups : ℕ) → task < classes * groups → 0 < groups
some_right task classes zero h = absurd (omega arith)
some_right task classes (suc n) h = omega arith

-- the class of a task is one of the board
pub class_of_task : (task classes groups : ℕ) → task < classes * groups → task / groups < classes
class_of_task task classes groups h = div_below task groups classes (some_right task classes groups h) h

module _ (best : Best) (prices : List Price) (groups : ℕ) (least : List ℤ) where
  -- one more column is put into its slot
  pub placed_step : (slots : List (Option Column)) (found rest : List Found) (one f : Found) → found ≡ rest ++ one ∷ [] →
      one.task < length slots → IsKeptAsBest best prices groups least one
      → Contains found f ⊎ IsPlaced best prices groups least slots f →
      Contains rest f ⊎ IsPlaced best prices groups least (set slots one.task (kept prices least (one.task / groups) one.column)) f
  placed_step slots found rest one f is low best_kept h =
      ⊎_elim
      (λ (c : Contains found f).
      ⊎_elim (λ (r : Contains rest f). inl r)
      (λ (e : one ≡ f). inr (subst (λ (x : Found). IsPlaced best prices groups least new x) e same))
      (Contains-push_cases rest one f (subst (λ (l : List Found). Contains l f) is c)))
      (λ (p : IsPlaced best prices groups least slots f). inr (kept_there p))
      h
    where
      new : List (Option Column)
      new = set slots one.task (kept prices least (one.task / groups) one.column)

      same : IsPlaced best prices groups least new one
      same = get_or-set_same slots one.task (kept prices least (one.task / groups) one.column) None low ∙ best_kept

      kept_there : IsPlaced best prices groups least slots f → IsPlaced best prices groups least new f
      kept_there p = elim (ℕ_discrete f.task one.task) [
        | yes e ↦ subst (λ (t : ℕ). get_or new t None ≡ kept_at best prices groups least t) (sym e) same
        | no apart ↦ get_or-set_other slots one.task f.task (kept prices least (one.task / groups) one.column) None apart ∙ p
      ]

  -- Once all that was found is in its slot, each slot has its task's best column where it is kept: each task was found, and a later
  -- column for the same task would be the same, so no slot depends on the order in which they were filled.
  pub placed_all : (slots : List (Option Column)) (found rest : List Found) (tasks : ℕ) → length slots ≡ tasks →
      length rest ≡ 0 → IsFoundOfAll tasks found
      → ((f : Found) → Contains found f → Contains rest f ⊎ IsPlaced best prices groups least slots f) →
      slots ≡ map (kept_at best prices groups least) (range_with_len 0 tasks)
  placed_all slots found rest tasks len none all placed =
      fill_by_all (kept_at best prices groups least) slots tasks None len
      (λ t low. let f = all t low in
      subst (λ (k : ℕ). get_or slots k None ≡ kept_at best prices groups least k) f.2
      (⊎_elim (λ (c : Contains rest f.0). absurd (let l = c.1 in omega arith)) (λ (p : IsPlaced best prices groups least slots f.0). p)
      (placed f.0 f.1)))

-- what stands in the slots of a list of what a function gives
pub filter_map-slots : {Y : Type 0} (f : ℕ → Option Y) (ts : List ℕ) → filter_map (λ slot. slot) (map f ts) ≡ filter_map f ts
filter_map-slots f [] = refl
filter_map-slots f (t ∷ ts) = ap (cons_option (f t)) (filter_map-slots f ts)
