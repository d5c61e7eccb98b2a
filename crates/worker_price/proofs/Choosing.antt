-- What is kept of what was found is what is priced.
use Rattle.std.proofs.Common.{◌≡◌, ℕ, ℤ, pos, zero, suc, ◌+◌, ◌*◌, ◌/◌, ◌<◌, ◌≤◌, List, [], ◌∷◌, ◌++◌, map, length, get_or, Option, Some, None, IfSome, Contains, All, refl, sym, ap, ◌∙◌, subst, arith, filter_map}
use Rattle.std.specs.List.{range_with_len, flat_map, filter, AllZip, cons_option}
use Rattle.std.proofs.lemmas.List.Elements.{All-contains, Contains-get_or}
use Rattle.std.proofs.lemmas.List.FromFn.{fill_by_all, get_or-map-range_with_len, length-map-range_with_len}
use Rattle.std.proofs.lemmas.Nat.{row_fits}
use Rattle.plan_core.specs.declared.Price.{Price}
use Rattle.cover_core.specs.declared.Column.{Column}
use Rattle.cover_core.specs.Cover.{Problem, Rises, AllBelow}
use Rattle.cover_core.specs.Best.{best_of}
use Rattle.cover_core.specs.Fitting.{AreFit}
use Rattle.task_board.specs.declared.sheet.Sheet.{Sheet}
use Rattle.task_board.specs.Sheets.{times, once_below, HasAll}
use Rattle.task_board.specs.declared.sheet.Extent.{Extent}
use Rattle.task_board.specs.declared.desk.Board.{Board}
use Rattle.task_board.specs.Desks.{sheet_of}
use Rattle.worker_price.specs.declared.found.Found.{Found}
use Rattle.worker_price.specs.declared.found.Served.{Served}
use Rattle.worker_price.specs.Priced.{groups_of, first_leasts, least_of, is_kept, kept_columns, priced_columns, priced_least}
use Rattle.worker_price.specs.Work.{Best, lowerings, FoundUnder, task_of, IsSound, IsSoundFound, AreSoundFor, IsBoardFor}
use Rattle.worker_price.specs.Gathered.{Gathered, least_lowered, IsLookFor, IsComplete, HasPricedAll}
use Rattle.worker_price.specs.Order.{kept_at, IsFoundOfAll, IsKeptAsBest}
use Rattle.worker_price.proofs.Limits.{IsLeastIn, least_over, least_over_unique, least_lowered_is, within_some}
use Rattle.worker_price.proofs.Gathering.{each_found, least_is, kept_is}
use Rattle.worker_price.proofs.InOrder.{all_tasks, filter_map-slots, some_right, class_of_task}

-- one desk did all tasks, and found this
pub record IsAll (p : Problem) (prices : List Price) (v : Sheet) (found : List Found) : Type 0 where
  pub gathered : Gathered (best_of p prices) prices (groups_of p.items) v found
  pub sound : AreSoundFor p prices found
  pub tasks : v.tasks ≡ length p.caps * groups_of p.items
  pub ended : 0 < v.over
  pub all : HasAll v

map-range-same : {X : Type 0} (f g : ℕ → X) (n : ℕ) (d : X) → ((k : ℕ) → k < n → f k ≡ g k) →
    map f (range_with_len 0 n) ≡ map g (range_with_len 0 n)
map-range-same f g n d h =
    fill_by_all g (map f (range_with_len 0 n)) n d (length-map-range_with_len f 0 n)
    (λ k low. get_or-map-range_with_len f 0 n k k d low (omega arith) ∙ h k low)

pub flat_map-range-same : {X : Type 0} (f g : ℕ → List X) (a n : ℕ) → ((k : ℕ) → a ≤ k → k < a + n → f k ≡ g k) →
    flat_map f (range_with_len a n) ≡ flat_map g (range_with_len a n)
flat_map-range-same f g a zero h = refl
flat_map-range-same f g a (suc n) h =
    ap (λ l. l ++ flat_map f (range_with_len (a + 1) n)) (h a (omega arith) (omega arith))
    ∙ ap (λ l. g a ++ l) (flat_map-range-same f g (a + 1) n (λ k low high. h k (omega arith) (omega arith)))

fit_range : (f : ℕ → Option Column) (items classes a n : ℕ)
    → ((t : ℕ) (c : Column) → a ≤ t → t < a + n → f t ≡ Some c → Rises c.items × AllBelow items c.items × (c.worth ≤ 4000000000)
    × (c.class < classes)) → AreFit items classes (filter_map f (range_with_len a n))
fit_range f items classes a zero h = tt
fit_range f items classes a (suc n) h =
    let rest = fit_range f items classes (a + 1) n (λ t c low high is. h t c (omega arith) (omega arith) is) in
    let here = λ (c : Column). h a c (omega arith) (omega arith) in
    elim (f a) as (λ o. f a ≡ o → AreFit items classes (cons_option o (filter_map f (range_with_len (a + 1) n)))) [
      | None ↦ λ e. rest
      | Some c ↦ λ e. (here c e, rest)
    ] refl

looks_of : (best : Best) (prices : List Price) (groups : ℕ) (found : List Found) (looks : List (ℕ × ℤ)) →
    AllZip (FoundUnder best prices groups) found looks → AllZip (IsLookFor groups) (map task_of found) looks
looks_of best prices groups [] [] h = tt
looks_of best prices groups [] (y ∷ ys) h = absurd h
looks_of best prices groups (f ∷ fs) [] h = absurd h
looks_of best prices groups (f ∷ fs) (y ∷ ys) h = (h.0.0, looks_of best prices groups fs ys h.1)

module _ (p : Problem) (prices : List Price) (v : Sheet) (found : List Found) (is : IsAll p prices v found) where
  -- what was found is a task of the board
  pub sound_at : (f : Found) → Contains found f → IsSoundFound prices (length p.caps) (groups_of p.items) f
  sound_at f c = All-contains (IsSoundFound prices (length p.caps) (groups_of p.items)) found f is.sound c

  some_groups : (f : Found) → Contains found f → 0 < groups_of p.items
  some_groups f c = some_right f.task (length p.caps) (groups_of p.items) (sound_at f c).task

  -- the least entry of a class is its least value
  pub least_at : (k : ℕ) → k < length p.caps → least_lowered v.lowered k ≡ least_of p prices k
  least_at k low =
      least_over_unique prices (best_of p prices k) (groups_of p.items) (least_lowered v.lowered k) (least_of p prices k)
      (least_is (best_of p prices) prices (groups_of p.items) (length p.caps * groups_of p.items) v found is.gathered is.all is.tasks
      is.ended some_groups k (least_lowered v.lowered k)
      (row_fits k (groups_of p.items) (length p.caps) (groups_of p.items) low (omega arith)) (least_lowered_is v.lowered k))
      (least_over prices (best_of p prices k) (groups_of p.items))

  -- the least values of what was found
  abbrev pub least_list : List ℤ
  least_list = map (least_lowered (lowerings prices (groups_of p.items) found)) (range_with_len 0 (length p.caps))

  least_list_at : (k : ℕ) → k < length p.caps → get_or least_list k (pos 0) ≡ least_lowered v.lowered k
  least_list_at k low =
      get_or-map-range_with_len (least_lowered (lowerings prices (groups_of p.items) found)) 0 (length p.caps) k k (pos 0) low (omega arith)
      ∙ ap (λ l. least_lowered l k) (sym is.gathered.lowered)

  pub least_is_priced : least_list ≡ priced_least p prices
  least_is_priced = map-range-same (least_lowered (lowerings prices (groups_of p.items) found)) (least_of p prices) (length p.caps) (pos 0)
      (λ k low. ap (λ l. least_lowered l k) (sym is.gathered.lowered) ∙ least_at k low)

  kept_as_best : (f : Found) → Contains found f → IsKeptAsBest (best_of p prices) prices (groups_of p.items) least_list f
  kept_as_best f c =
      let class = class_of_task f.task (length p.caps) (groups_of p.items) (sound_at f c).task in
      kept_is (best_of p prices) prices (groups_of p.items) (length p.caps * groups_of p.items) v found is.gathered is.all is.tasks is.ended
      some_groups f (get_or least_list (f.task / groups_of p.items) (pos 0)) c
      (subst (λ (l : ℤ). IsLeastIn v.lowered (f.task / groups_of p.items) l) (sym (least_list_at (f.task / groups_of p.items) class))
      (least_lowered_is v.lowered (f.task / groups_of p.items)))

  all_found : IsFoundOfAll (length p.caps * groups_of p.items) found
  all_found t low = each_found (best_of p prices) prices (groups_of p.items) (length p.caps * groups_of p.items) v found is.gathered is.all
      is.tasks is.ended some_groups t low

  -- the columns that are chosen, by task
  abbrev pub chosen : List Column
  chosen = filter_map (kept_at (best_of p prices) prices (groups_of p.items) least_list)
      (range_with_len 0 (length p.caps * groups_of p.items))

  -- What is kept of what was found, in the order of tasks, is `priced_columns`, a function of the problem and the prices. Here the
  -- parts meet: the least values are those of all first leasts, and a task's column is kept exactly where its first least is.
  chosen_is_priced : chosen ≡ priced_columns p prices
  chosen_is_priced =
      ap (λ a. filter_map (kept_at (best_of p prices) prices (groups_of p.items) least_list)
      (range_with_len a (length p.caps * groups_of p.items))) (nothing (groups_of p.items))
      ∙ (all_tasks (best_of p prices) prices (groups_of p.items) least_list 0 (length p.caps)
      ∙ flat_map-range-same (λ c. filter (is_kept prices (get_or least_list c (pos 0))) (first_leasts p prices c))
      (λ c. kept_columns prices (first_leasts p prices c)) 0 (length p.caps)
      (λ k low high. ap (λ l. filter (is_kept prices l) (first_leasts p prices k))
      (least_list_at k (omega arith) ∙ least_at k (omega arith))))
    where
      nothing : (g : ℕ) → 0 ≡ 0 * g
      nothing g = omega arith

  chosen_is_fit : AreFit (length prices) (length p.caps) chosen
  chosen_is_fit = fit_range (kept_at (best_of p prices) prices (groups_of p.items) least_list) (length prices) (length p.caps) 0
      (length p.caps * groups_of p.items)
      (λ t c low high here.
      let f = all_found t (omega arith) in
      let same : f.0.column ≡ Some c =
      within_some prices _ f.0.column c
      (kept_as_best f.0 f.1 ∙ (ap (kept_at (best_of p prices) prices (groups_of p.items) least_list) f.2 ∙ here)) in
      let sound = subst (λ (o : Option Column). IfSome o (IsSound prices (f.0.task / groups_of p.items))) same (sound_at f.0 f.1).column in
      let class = class_of_task f.0.task (length p.caps) (groups_of p.items) (sound_at f.0 f.1).task in
      (sound.rises, sound.items, sound.cheap, subst (λ (k : ℕ). k < length p.caps) (sym sound.of_class) class))

  -- the same of values that are equal to these
  module _ (cs gs : ℕ) (least : List ℤ) (cs_is : cs ≡ length p.caps) (gs_is : gs ≡ groups_of p.items)
      (least_is_list : least ≡ map (least_lowered (lowerings prices gs found)) (range_with_len 0 cs)) where
    pub least_shown : least ≡ least_list
    least_shown =
        least_is_list ∙ (ap (λ g. map (least_lowered (lowerings prices g found)) (range_with_len 0 cs)) gs_is
        ∙ ap (λ n. map (least_lowered (lowerings prices (groups_of p.items) found)) (range_with_len 0 n)) cs_is)

    pub least_length : cs ≡ length least
    least_length = sym (ap length least_is_list ∙ length-map-range_with_len (least_lowered (lowerings prices gs found)) 0 cs)

    pub all_shown : IsFoundOfAll (cs * gs) found
    all_shown = subst (λ (n : ℕ). IsFoundOfAll (n * gs) found) (sym cs_is)
        (subst (λ (n : ℕ). IsFoundOfAll (length p.caps * n) found) (sym gs_is) all_found)

    pub kept_shown : All (IsKeptAsBest (best_of p prices) prices gs least) found
    kept_shown = λ k d low.
        subst (λ (n : ℕ). IsKeptAsBest (best_of p prices) prices n least (get_or found k d)) (sym gs_is)
        (subst (λ (l : List ℤ). IsKeptAsBest (best_of p prices) prices (groups_of p.items) l (get_or found k d)) (sym least_shown)
        (kept_as_best (get_or found k d) (Contains-get_or found k d low)))

    chosen_shown : (slots : List (Option Column)) (columns : List Column) →
        slots ≡ map (kept_at (best_of p prices) prices gs least) (range_with_len 0 (cs * gs)) →
        columns ≡ filter_map (λ slot. slot) slots → columns ≡ chosen
    chosen_shown slots columns s c =
        c ∙ (ap (filter_map (λ slot. slot)) s
        ∙ (filter_map-slots (kept_at (best_of p prices) prices gs least) (range_with_len 0 (cs * gs))
        ∙ (ap (λ g. filter_map (kept_at (best_of p prices) prices g least) (range_with_len 0 (cs * g))) gs_is
        ∙ (ap (λ n. filter_map (kept_at (best_of p prices) prices (groups_of p.items) least) (range_with_len 0 (n * groups_of p.items)))
        cs_is
        ∙ ap (λ l. filter_map (kept_at (best_of p prices) prices (groups_of p.items) l)
        (range_with_len 0 (length p.caps * groups_of p.items))) least_shown))))

    pub columns_shown : (slots : List (Option Column)) (columns : List Column) →
        slots ≡ map (kept_at (best_of p prices) prices gs least) (range_with_len 0 (cs * gs)) → columns ≡ filter_map (λ slot. slot) slots →
        columns ≡ priced_columns p prices
    columns_shown slots columns s c = chosen_shown slots columns s c ∙ chosen_is_priced

    pub fit_shown : (slots : List (Option Column)) (columns : List Column) →
        slots ≡ map (kept_at (best_of p prices) prices gs least) (range_with_len 0 (cs * gs)) → columns ≡ filter_map (λ slot. slot) slots →
        AreFit (length prices) (length p.caps) columns
    fit_shown slots columns s c =
        subst (λ (l : List Column). AreFit (length prices) (length p.caps) l) (sym (chosen_shown slots columns s c)) chosen_is_fit

  pub drawn_once : (task : ℕ) → times task v.drawn ≡ once_below task (length p.caps * groups_of p.items)
  drawn_once task = is.all.drawn.2 task ∙ ap (once_below task) (is.all.drawn.3 is.ended ∙ is.tasks)

  pub looks_by_task : AllZip (IsLookFor (groups_of p.items)) v.drawn v.looks
  looks_by_task = subst (λ (ts : List ℕ). AllZip (IsLookFor (groups_of p.items)) ts v.looks) (sym is.gathered.drawn)
      (looks_of (best_of p prices) prices (groups_of p.items) found v.looks is.gathered.looks)

-- what the workers did together is all
pub all_of : (board : Board) (p : Problem) (prices : List Price) (served : Served) → IsBoardFor p board → IsComplete board p prices served →
    IsAll p prices (sheet_of served.desk) served.found.items
all_of board p prices served made complete = record {
  gathered = complete.joined.gathered;
  sound = complete.joined.sound;
  tasks = complete.joined.of_board.1 ∙ ap (λ (e : Extent). e.tasks) made;
  ended = complete.ended;
  all = complete.all;
}

-- and the desk is that of a whole pricing step
pub desk_of_all : (board : Board) (p : Problem) (prices : List Price) (served : Served) → IsBoardFor p board →
    IsComplete board p prices served → HasPricedAll board p prices served.desk
desk_of_all board p prices served made complete =
    let is = all_of board p prices served made complete in
    record {
      of_board = complete.joined.of_board;
      share = complete.share;
      ended = complete.ended;
      drawn = drawn_once p prices (sheet_of served.desk) served.found.items is;
      looks = looks_by_task p prices (sheet_of served.desk) served.found.items is;
      lowered = least_at p prices (sheet_of served.desk) served.found.items is;
    }
