-- The nodes stand level by level, and a level that nothing follows adds nothing.
use Rattle.std.proofs.Common.{◌≡◌, ℕ, ℤ, zero, suc, ◌+◌, ◌-◌, ◌≤◌, ◌<◌, ◌≤ℤ◌, ◌<ℤ◌, Bool, List, [], ◌∷◌, ◌++◌, length, get_or, take, drop, refl, sym, ap, ◌∙◌, subst, arith, append_assoc, length-append}
use Rattle.std.specs.Prelude.{Option, None, Result, Ok, Err, OnOk, fold}
use Rattle.std.proofs.lemmas.List.{append-nil, take_all, drop_all, take-append-le, drop-append-le, drop-drop, drop_more, length-drop}
use Rattle.std.proofs.lemmas.Int.{ints}
use Rattle.cover_core.specs.Labels.{Labelling}
use Rattle.label_search.specs.declared.node.Node.{Node}
use Rattle.label_search.specs.declared.node.Level.{Level}
use Rattle.label_search.specs.Laws.{IsStepwise, IsSafe}
use Rattle.label_search.specs.Limits.{limited, passed}
use Rattle.label_search.specs.Levels.{AllAtLeast, AreLevels, AreUnfollowed, EndsAt, IsAbove, IsFrom, IsOfLevel, NoneFollows, NoneFollowsAbove, NoneReaches, NoneReachesAbove, level_so_far}
use Rattle.label_search.specs.Nodes.{AllSound, insert_node, node_of, next_nodes, level_of}
use Rattle.label_search.proofs.Sound.{AllSound-append, AllSound-fold, AllSound-node_of}

-- a fact of all labels of nodes that follows from another one
pub AllSound-map : {L : Type 0} (p q : L → Type 0) → ((a : L) → p a → q a) → (ns : List (Node L)) → AllSound p ns → AllSound q ns
AllSound-map p q f [] h = tt
AllSound-map p q f (n ∷ ns) h = (f n.label h.0, AllSound-map p q f ns h.1)

pub next_nodes-join : {L : Type 0} (w : Labelling L) (item place : ℕ) (xs ys : List (Node L)) →
    next_nodes w item place (xs ++ ys) ≡ next_nodes w item place xs ++ next_nodes w item (place + length xs) ys
next_nodes-join w item place [] ys = let here : place ≡ place + 0 = omega arith in ap (λ k. next_nodes w item k ys) here
next_nodes-join {L = L} w item place (x ∷ xs) ys =
    let first : List (Node L) = node_of item (place + 1) (w.extend x.label item) in
    let there : place + 1 + length xs ≡ place + length (x ∷ xs) = omega arith in
    ap (λ l. first ++ l) (next_nodes-join w item (place + 1) xs ys) ∙
    sym (append_assoc first (next_nodes w item (place + 1) xs) (next_nodes w item (place + 1 + length xs) ys)) ∙
    ap (λ k. (first ++ next_nodes w item (place + 1) xs) ++ next_nodes w item k ys) there

pub next_nodes-none : {L : Type 0} (w : Labelling L) (item place : ℕ) (xs : List (Node L)) → AllSound (λ a. w.extend a item ≡ None) xs →
    next_nodes w item place xs ≡ []
next_nodes-none w item place [] h = refl
next_nodes-none {L = L} w item place (x ∷ xs) h =
    ap (λ (o : Option L). node_of item (place + 1) o ++ next_nodes w item (place + 1) xs) h.0 ∙ next_nodes-none w item (place + 1) xs h.1

-- what is taken up to an end
take-between : {A : Type 0} (xs : List A) (from end : ℕ) → from ≤ end → take end xs ≡ take from xs ++ take (end - from) (drop from xs)
take-between [] from end h = take_all end [] (omega arith) ∙ sym (take_all (end - from) [] (omega arith))
    ∙ ap (λ l. take (end - from) l) (sym (drop_all from [] (omega arith))) ∙
    ap (λ l. l ++ take (end - from) (drop from [])) (sym (take_all from [] (omega arith)))
take-between (x ∷ xs) zero end h = let whole : end ≡ end - 0 = omega arith in ap (λ k. take k (x ∷ xs)) whole
take-between (x ∷ xs) (suc from) zero h = absurd (omega arith)
take-between (x ∷ xs) (suc from) (suc end) h =
    let same : end - from ≡ suc end - suc from = omega arith in
    ap (λ l. x ∷ l) (take-between xs from end (omega arith)) ∙ ap (λ k. x ∷ (take from xs ++ take k (drop from xs))) same

-- no label of the nodes has an extension by an item that passes
abbrev pub AreEnded : {L : Type 0} → Labelling L → (L → Bool) → ℕ → List (Node L) → Type 0
AreEnded w test item nodes = AllSound (λ a. passed test (w.extend a item) ≡ None) nodes

-- Nodes none of which has an extension that passes the test may be passed over: the level after them is the level before them. The
-- level so far is a fold over the candidates of the nodes up to a place; those of the nodes between are none, so the candidates are
-- the same list. That passing over changes the time alone follows from it: the contract of the search speaks of the fold over all
-- nodes.
pub level-skipped : {L : Type 0} (w : Labelling L) (test : L → Bool) (good : L → L → Bool) (value_at : L → ℤ)
    (nodes : List (Node L)) (item from end : ℕ) → from ≤ end → AreEnded w test item (take (end - from) (drop from nodes)) →
    level_so_far (limited w test) good value_at nodes item from ≡ level_so_far (limited w test) good value_at nodes item end
level-skipped {L = L} w test good value_at nodes item from end order none =
    let part : List (Node L) = take (end - from) (drop from nodes) in
    let whole : take end nodes ≡ take from nodes ++ part = take-between nodes from end order in
    let v : Labelling L = limited w test in
    let nothing : (place : ℕ) → next_nodes v item place part ≡ [] = λ place. next_nodes-none v item place part none in
    let same : next_nodes v item 0 (take end nodes) ≡ next_nodes v item 0 (take from nodes) =
    ap (next_nodes v item 0) whole ∙ next_nodes-join v item 0 (take from nodes) part ∙
    ap (λ l. next_nodes v item 0 (take from nodes) ++ l) (nothing (0 + length (take from nodes)))
    ∙ append-nil (next_nodes v item 0 (take from nodes)) in
    ap (λ l. fold (insert_node good value_at) [] (node_of item 0 (v.start item) ++ l)) (sym same)

pub one-skipped : {L : Type 0} (w : Labelling L) (test : L → Bool) (good : L → L → Bool) (value_at : L → ℤ)
    (nodes : List (Node L)) (item place : ℕ) → AreEnded w test item (take 1 (drop place nodes)) →
    level_so_far (limited w test) good value_at nodes item place ≡ level_so_far (limited w test) good value_at nodes item (place + 1)
one-skipped w test good value_at nodes item place none =
    let one : 1 ≡ (place + 1) - place = omega arith in
    let P : ℕ → Type 0 = λ k. AreEnded w test item (take k (drop place nodes)) in
    level-skipped w test good value_at nodes item place (place + 1) (omega arith) (subst P one none)

-- The reasons for which a level may be passed over follow: this one, where the labelling says that the item never follows the
-- level's item, and the next two, where it says so of labels above some value and the level's least is above it. What is known of
-- a level's labels (sound, their last item, at least the level's least) makes each reason one of every label, as `level-skipped`
-- asks.
pub ended-follows : {L : Type 0} (w : Labelling L) (test : L → Bool) (value_at : L → ℤ) (sound : L → Type 0) (last : L → ℕ) (item : ℕ)
    (l : Level) (ns : List (Node L)) →
    AllSound (IsOfLevel sound last value_at l) ns → NoneFollows w sound last test l.item item → AreEnded w test item ns
ended-follows w test value_at sound last item l ns all none =
    AllSound-map (IsOfLevel sound last value_at l) (λ a. passed test (w.extend a item) ≡ None)
    (λ a (fits, ends, from). none a fits ends) ns all

-- nor from one whose values are above the most
pub ended-above : {L : Type 0} (w : Labelling L) (test : L → Bool) (value_at : L → ℤ) (sound : L → Type 0) (last : L → ℕ) (item : ℕ)
    (most : ℤ) (l : Level) (ns : List (Node L)) →
    AllSound (IsOfLevel sound last value_at l) ns → most <ℤ l.least → NoneFollowsAbove w sound last value_at test l.item item most →
    AreEnded w test item ns
ended-above w test value_at sound last item most l ns all high none =
    AllSound-map (IsOfLevel sound last value_at l) (λ a. passed test (w.extend a item) ≡ None)
    (λ a (fits, ends, from). let low = from.0 in none a fits ends (omega (arith, ints), from.1)) ns all

pub ended-reach : {L : Type 0} (w : Labelling L) (test : L → Bool) (value_at : L → ℤ) (sound : L → Type 0) (last : L → ℕ) (item : ℕ)
    (reach : ℤ) (l : Level) (ns : List (Node L)) →
    AllSound (IsOfLevel sound last value_at l) ns → reach <ℤ l.least → NoneReachesAbove w sound value_at test item reach →
    AreEnded w test item ns
ended-reach w test value_at sound last item reach l ns all high none =
    AllSound-map (IsOfLevel sound last value_at l) (λ a. passed test (w.extend a item) ≡ None)
    (λ a (fits, ends, from). let low = from.0 in none a fits (omega (arith, ints), from.1)) ns all

-- those of a level that are above the most do not go on
pub level-most : {L : Type 0} (w : Labelling L) (test : L → Bool) (value_at : L → ℤ) (sound : L → Type 0) (last : L → ℕ) (item : ℕ)
    (most : ℤ) (l : Level) (ns : List (Node L)) →
    AllSound (IsOfLevel sound last value_at l) ns → NoneFollowsAbove w sound last value_at test l.item item most →
    AreUnfollowed w value_at test item most ns
level-most w test value_at sound last item most l ns all none =
    AllSound-map (IsOfLevel sound last value_at l) (λ a. IsAbove most (value_at a) → passed test (w.extend a item) ≡ None)
    (λ a (fits, ends, from) above. none a fits ends above) ns all

-- one node of some that stand together
pub part-one : {L : Type 0} (p : L → Type 0) (ns : List (Node L)) (from k place : ℕ) → from ≤ place → place < from + k →
    AllSound p (take k (drop from ns)) → AllSound p (take 1 (drop place ns))
part-one p [] from k zero low high all = tt
part-one p [] from k (suc place) low high all = tt
part-one p (n ∷ ns) zero zero place low high all = absurd (omega arith)
part-one p (n ∷ ns) zero (suc k) zero low high all = (all.0, tt)
part-one p (n ∷ ns) zero (suc k) (suc place) low high all = part-one p ns zero k place (omega arith) (omega arith) all.1
part-one p (n ∷ ns) (suc from) k zero low high all = absurd (omega arith)
part-one p (n ∷ ns) (suc from) k (suc place) low high all = part-one p ns from k place (omega arith) (omega arith) all

-- two facts of all labels of nodes
pub AllSound-both : {L : Type 0} (p q : L → Type 0) (ns : List (Node L)) → AllSound p ns → AllSound q ns → AllSound (λ a. p a × q a) ns
AllSound-both p q [] h k = tt
AllSound-both p q (n ∷ ns) h k = ((h.0, k.0), AllSound-both p q ns h.1 k.1)

-- Where no node at all goes on with an item, its level is made of the start alone, and the nodes need not be gone through: all
-- extensions are none, and the fold over the candidates is the one over the start. With the two lemmas after it, which find this
-- from the labelling's word and from a value that no label of the nodes is below, it gives `made` in the contract of `make_item`
-- where the item is passed over as a whole.
pub level-unreached : {L : Type 0} (w : Labelling L) (test : L → Bool) (good : L → L → Bool) (value_at : L → ℤ) (nodes : List (Node L))
    (item : ℕ) → AreEnded w test item nodes →
    fold (insert_node good value_at) [] (node_of item 0 ((limited w test).start item)) ≡ level_of (limited w test) good value_at nodes item
level-unreached {L = L} w test good value_at nodes item none =
    let v : Labelling L = limited w test in
    ap (fold (insert_node good value_at) []) (sym (append-nil (node_of item 0 (v.start item)))) ∙
    ap (λ l. fold (insert_node good value_at) [] (node_of item 0 (v.start item) ++ l)) (sym (next_nodes-none v item 0 nodes none))

pub ended-all : {L : Type 0} (w : Labelling L) (test : L → Bool) (sound : L → Type 0) (item : ℕ) (nodes : List (Node L)) →
    AllSound sound nodes → NoneReaches w sound test item → AreEnded w test item nodes
ended-all w test sound item nodes fits none = AllSound-map sound (λ a. passed test (w.extend a item) ≡ None) (λ a f. none a f) nodes fits

pub ended-least : {L : Type 0} (w : Labelling L) (test : L → Bool) (value_at : L → ℤ) (sound : L → Type 0) (item : ℕ)
    (least reach : ℤ) (nodes : List (Node L)) →
    AllSound sound nodes → AllAtLeast value_at least nodes → reach <ℤ least → NoneReachesAbove w sound value_at test item reach →
    AreEnded w test item nodes
ended-least w test value_at sound item least reach nodes fits low high none =
    AllSound-map (λ a. sound a × IsFrom least (value_at a)) (λ a. passed test (w.extend a item) ≡ None)
    (λ a (f, from). let floor = from.0 in none a f (omega (arith, ints), from.1)) nodes
    (AllSound-both sound (λ a. IsFrom least (value_at a)) nodes fits low)

-- what a level has before any extension, and after all of them
pub level-starts : {L : Type 0} (w : Labelling L) (good : L → L → Bool) (value_at : L → ℤ) (nodes : List (Node L)) (item : ℕ) →
    fold (insert_node good value_at) [] (node_of item 0 (w.start item)) ≡ level_so_far w good value_at nodes item 0
level-starts w good value_at nodes item = ap (fold (insert_node good value_at) []) (sym (append-nil (node_of item 0 (w.start item))))

pub level-ends : {L : Type 0} (w : Labelling L) (good : L → L → Bool) (value_at : L → ℤ) (nodes : List (Node L)) (item from : ℕ) →
    length (drop from nodes) ≡ 0 →
    level_so_far w good value_at nodes item from ≡ level_of w good value_at nodes item
level-ends {L = L} w good value_at nodes item from none =
    let count : length (drop from nodes) ≡ length nodes - from = length-drop from nodes in
    let whole : take from nodes ≡ nodes = take_all from nodes (omega arith) in
    ap (λ l. fold (insert_node good value_at) [] (node_of item 0 (w.start item) ++ next_nodes w item 0 l)) whole

-- the next level, and those after it
pub record IsNextLevel {L : Type 0} (sound : L → Type 0) (last : L → ℕ) (value_at : L → ℤ) (nodes : List (Node L)) (levels : List Level)
    (from i : ℕ) (l : Level) : Type 0 where
  pub order : from ≤ l.end
  pub there : l.end ≤ length nodes
  pub level : AllSound (IsOfLevel sound last value_at l) (take (l.end - from) (drop from nodes))
  pub rest : AreLevels sound last value_at l.end (drop l.end nodes) (drop (i + 1) levels)

-- One step of the walk over the levels. The nodes are one list, in which each level has only its end; the invariant of the walk is
-- that the nodes from a place on are those of the levels from an index on, one after another. The lemma takes the first of them off:
-- its nodes stand from the place to its end, and from that end on are those of the levels after it. When no levels are left no nodes
-- are (`levels-end`), so the walk has gone through all.
pub levels-step : {L : Type 0} (sound : L → Type 0) (last : L → ℕ) (value_at : L → ℤ) (nodes : List (Node L)) (levels : List Level)
    (from i : ℕ) (l : Level) →
    i < length levels → l ≡ get_or levels i l → from ≤ length nodes →
    AreLevels sound last value_at from (drop from nodes) (drop i levels) → IsNextLevel sound last value_at nodes levels from i l
levels-step {L = L} sound last value_at nodes levels from i l below is inside all =
    let P : List Level → Type 0 = λ ls. AreLevels sound last value_at from (drop from nodes) ls in
    let here : drop i levels ≡ l ∷ drop (i + 1) levels =
    drop_more levels i l below ∙ ap (λ (x : Level). x ∷ drop (i + 1) levels) (sym is) in
    let (order, there, level, rest) = subst P here all in
    let count : length (drop from nodes) ≡ length nodes - from = length-drop from nodes in
    let end : from + (l.end - from) ≡ l.end = omega arith in
    let past : drop (l.end - from) (drop from nodes) ≡ drop l.end nodes =
    drop-drop (l.end - from) from nodes ∙ ap (λ k. drop k nodes) end in
    let Q : List (Node L) → Type 0 = λ ns. AreLevels sound last value_at l.end ns (drop (i + 1) levels) in
    record { order = order; there = omega arith; level = level; rest = subst Q past rest }

-- no levels are left
pub levels-end : {L : Type 0} (sound : L → Type 0) (last : L → ℕ) (value_at : L → ℤ) (nodes : List (Node L)) (levels : List Level)
    (from i : ℕ) → length levels ≤ i →
    AreLevels sound last value_at from (drop from nodes) (drop i levels) → length (drop from nodes) ≡ 0
levels-end {L = L} sound last value_at nodes levels from i past all =
    let P : List Level → Type 0 = λ ls. AreLevels sound last value_at from (drop from nodes) ls in
    subst P (drop_all i levels past) all

-- A level that is put behind the others, with its nodes behind theirs, leaves the nodes level by level. The proof goes over the
-- levels before it from any first place; each takes its nodes from the front, where nothing was changed, and at the end exactly the
-- new nodes are left, as the new level's end says. `keep_level` keeps its invariant of the levels by it.
pub levels-more : {L : Type 0} (sound : L → Type 0) (last : L → ℕ) (value_at : L → ℤ) (place : ℕ) (nodes new : List (Node L))
    (levels : List Level) (l : Level) →
    AreLevels sound last value_at place nodes levels → l.end ≡ place + length nodes + length new →
    AllSound (IsOfLevel sound last value_at l) new →
    AreLevels sound last value_at place (nodes ++ new) (levels ++ l ∷ [])
levels-more {L = L} sound last value_at place [] new [] l none end all =
    let k : l.end - place ≡ length new = omega arith in
    let P : List (Node L) → Type 0 = λ ns. AllSound (IsOfLevel sound last value_at l) ns in (
      omega arith,
      omega arith,
      subst P (sym (take_all (l.end - place) new (omega arith))) all,
      ap length (drop_all (l.end - place) new (omega arith)),
    )
levels-more sound last value_at place (n ∷ ns) new [] l none end all = absurd (omega (arith, none))
levels-more {L = L} sound last value_at place nodes new (m ∷ ms) l (order, inside, level, rest) end all =
    let k : ℕ = m.end - place in
    let count : length (drop k nodes) ≡ length nodes - k = length-drop k nodes in
    let longer : length (nodes ++ new) ≡ length nodes + length new = length-append nodes new in
    let taken : take k (nodes ++ new) ≡ take k nodes = take-append-le k nodes new inside in
    let dropped : drop k (nodes ++ new) ≡ drop k nodes ++ new = drop-append-le k nodes new inside in
    let P : List (Node L) → Type 0 = λ ns. AllSound (IsOfLevel sound last value_at m) ns in
    let Q : List (Node L) → Type 0 = λ ns. AreLevels sound last value_at m.end ns (ms ++ l ∷ []) in (
      order,
      omega arith,
      subst P (sym taken) level,
      subst Q (sym dropped) (levels-more sound last value_at m.end (drop k nodes) new ms l rest (omega arith) all),
    )

-- the labels of a level that was made end with its item
ends-next : {L : Type 0} (w : Labelling L) (sound : L → Type 0) (count : ℕ) (last : L → ℕ) → IsSafe w sound → IsStepwise w count last →
    (item place : ℕ) (ns : List (Node L)) →
    AllSound sound ns → AllSound (EndsAt sound last item) (next_nodes w item place ns)
ends-next w sound count last s st item place [] h = tt
ends-next {L = L} w sound count last s st item place (n ∷ ns) h =
    AllSound-append (EndsAt sound last item) (node_of item (place + 1) (w.extend n.label item)) (next_nodes w item (place + 1) ns)
    (AllSound-node_of (EndsAt sound last item) item (place + 1) (w.extend n.label item)
    (λ a e. (s.steps n.label a item h.0 e, (st.steps n.label a item e).2)))
    (ends-next w sound count last s st item (place + 1) ns h.1)

-- All labels of a level that was made are sound and name its item as their last one. It holds of each candidate, by the laws of
-- starts and of steps, and the insertions only drop candidates. This is what makes a whole level one that ends with an item, so that
-- the labelling can be asked once for the level and not for each label.
pub made-ends : {L : Type 0} (w : Labelling L) (good : L → L → Bool) (value_at : L → ℤ) (sound : L → Type 0) (count : ℕ) (last : L → ℕ) →
    IsSafe w sound → IsStepwise w count last →
    (nodes : List (Node L)) (item : ℕ) → AllSound sound nodes → AllSound (EndsAt sound last item) (level_of w good value_at nodes item)
made-ends {L = L} w good value_at sound count last s st nodes item h =
    AllSound-fold (EndsAt sound last item) good value_at (node_of item 0 (w.start item) ++ next_nodes w item 0 nodes) [] tt
    (AllSound-append (EndsAt sound last item) (node_of item 0 (w.start item)) (next_nodes w item 0 nodes)
    (AllSound-node_of (EndsAt sound last item) item 0 (w.start item) (λ a e. (s.starts item a e, (st.starts item a e).1)))
    (ends-next w sound count last s st item 0 nodes h))

-- labels that end with an item, of a value of at least a least one, are of that level
pub of-level : {L : Type 0} (sound : L → Type 0) (last : L → ℕ) (value_at : L → ℤ) (l : Level) (ns : List (Node L)) →
    AllSound (EndsAt sound last l.item) ns → AllAtLeast value_at l.least ns → AllSound (IsOfLevel sound last value_at l) ns
of-level sound last value_at l [] h k = tt
of-level sound last value_at l (n ∷ ns) h k = ((h.0.0, h.0.1, k.0), of-level sound last value_at l ns h.1 k.1)

-- the levels with one that was made put behind them
pub levels-kept : {L : Type 0} (sound : L → Type 0) (last : L → ℕ) (value_at : L → ℤ) (nodes new nodes' : List (Node L))
    (levels levels' : List Level) (l : Level) →
    nodes' ≡ nodes ++ new → levels' ≡ levels ++ l ∷ [] → l.end ≡ length nodes' → AreLevels sound last value_at 0 nodes levels →
    AllSound (EndsAt sound last l.item) new → AllAtLeast value_at l.least new → AreLevels sound last value_at 0 nodes' levels'
levels-kept {L = L} sound last value_at nodes new nodes' levels levels' l nodes-are levels-are end all ends least =
    let longer : length (nodes ++ new) ≡ length nodes + length new = length-append nodes new in
    let count : length nodes' ≡ length (nodes ++ new) = ap length nodes-are in
    let P : List (Node L) → Type 0 = λ ns. AreLevels sound last value_at 0 ns (levels ++ l ∷ []) in
    let Q : List Level → Type 0 = λ ls. AreLevels sound last value_at 0 nodes' ls in
    subst Q (sym levels-are)
    (subst P (sym nodes-are)
    (levels-more sound last value_at 0 nodes new levels l all (omega arith) (of-level sound last value_at l new ends least)))

-- a least value of all nodes, and of more
pub least-more : {L : Type 0} (value_at : L → ℤ) (nodes new nodes' : List (Node L)) (before made least : ℤ) → nodes' ≡ nodes ++ new →
    AllAtLeast value_at before nodes → AllAtLeast value_at made new → least ≤ℤ before → least ≤ℤ made → AllAtLeast value_at least nodes'
least-more {L = L} value_at nodes new nodes' before made least nodes-are all more low lower =
    let P : List (Node L) → Type 0 = λ ns. AllAtLeast value_at least ns in
    subst P (sym nodes-are) (AllSound-append (λ a. IsFrom least (value_at a)) nodes new
    (AllSound-map (λ a. IsFrom before (value_at a)) (λ a. IsFrom least (value_at a))
    (λ a (from, held). (omega (arith, ints, low, from), held)) nodes all)
    (AllSound-map (λ a. IsFrom made (value_at a)) (λ a. IsFrom least (value_at a))
    (λ a (from, held). (omega (arith, ints, lower, from), held)) new more))

-- a fact after an answer that follows from another one
pub on-ok : {T E : Type 0} (r : Result T E) (P Q : Type 0) → (P → Q) → OnOk r P → OnOk r Q
on-ok (Ok x) P Q f h = f h
on-ok (Err e) P Q f h = h
