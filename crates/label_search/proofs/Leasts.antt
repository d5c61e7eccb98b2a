-- What the best node says of all lists.
use Rattle.std.proofs.Common.{◌≡◌, ℕ, ℤ, Bool, ◌+◌, ◌≤◌, ◌<◌, zero, suc, inl, inr, List, [], ◌∷◌, ◌++◌, length, refl, sym, ◌∙◌, subst, arith, length-append}
use Rattle.std.specs.Prelude.{Option, Some, None, fold}
use Rattle.cover_core.specs.Labels.{Labelling, Held, IsKept, IsValued}
use Rattle.label_search.specs.declared.node.Node.{Node}
use Rattle.label_search.specs.declared.node.Best.{Best}
use Rattle.label_search.specs.Laws.{IsStepwise, GoodAs, HidesNone}
use Rattle.label_search.specs.Limits.{limited}
use Rattle.label_search.proofs.Limits.{limited-kept, limited-valued, limited-stepwise}
use Rattle.label_search.specs.Answers.{IsLeastClosed, NoneCloses}
use Rattle.label_search.specs.Nodes.{best_from, insert_node, level_of, nodes_below}
use Rattle.label_search.proofs.Insertions.{In}
use Rattle.label_search.specs.Lists.{place_list, held_of, helds_from, list_of_node, AllBack}
use Rattle.label_search.proofs.Helds.{held_labels-from}
use Rattle.label_search.proofs.Reached.{reached, first_of_nodes, none_of_nodes, candidates, level_of-is, level-from}
use Rattle.label_search.proofs.Bests.{BestOf, best-all}

length-helds : {L : Type 0} (hs : List (Held L)) (ns : List (Node L)) → length (helds_from hs ns) ≡ length hs + length ns
length-helds hs [] = omega arith
length-helds {L = L} hs (n ∷ ns) =
    omega (arith, length-helds (hs ++ held_of hs n ∷ []) ns, length-append {A = Held L} hs (held_of hs n ∷ []))

AllBack-append : {L : Type 0} (k : ℕ) (xs ys : List (Node L)) → AllBack k xs → AllBack (k + length xs) ys → AllBack k (xs ++ ys)
AllBack-append k [] ys h i = let P : ℕ → Type 0 = λ x. AllBack x ys in let e : k + 0 ≡ k = omega arith in subst P e i
AllBack-append k (x ∷ xs) ys h i =
    let P : ℕ → Type 0 = λ n. AllBack n ys in let e : k + length (x ∷ xs) ≡ k + 1 + length xs = omega arith in
    (h.0, AllBack-append (k + 1) xs ys h.1 (subst P e i))

AllBack-early : {L : Type 0} (k m : ℕ) (xs : List (Node L)) → m ≤ k → ((x : Node L) → In x xs → x.before ≤ m) → AllBack k xs
AllBack-early k m [] h e = tt
AllBack-early k m (x ∷ xs) h e =
    ((let first = e x (inl refl) in omega arith), AllBack-early (k + 1) m xs (omega arith) (λ y has. e y (inr has)))

pub nodes_below-back : {L : Type 0} (w : Labelling L) (good : L → L → Bool) (value_at : L → ℤ) (q : ℕ) →
    AllBack 0 (nodes_below w good value_at q)
nodes_below-back w good value_at zero = tt
nodes_below-back {L = L} w good value_at (suc q) =
    let none : List (Held L) = [] in
    let nodes : List (Node L) = nodes_below w good value_at q in
    let hs : List (Held L) = helds_from none nodes in
    let ms : List (Node L) = fold (insert_node good value_at) [] (candidates w q hs) in
    let count : length hs ≡ 0 + length nodes = length-helds none nodes in
    let P : List (Node L) → Type 0 = λ l. AllBack (0 + length nodes) l in
    AllBack-append 0 nodes (level_of w good value_at nodes q) (nodes_below-back w good value_at q)
    (subst P (sym (level_of-is w good value_at nodes q))
    (AllBack-early (0 + length nodes) (length hs) ms (omega arith) (λ m has. (level-from w good value_at q hs m has).early)))

abbrev pub Answers : {L : Type 0} → Labelling L → (L → Option ℤ) → List (Node L) → Option Best → Type 0
Answers w close nodes None = NoneCloses w close
Answers w close nodes (Some b) = (b.place < length nodes) × IsLeastClosed w close (list_of_node nodes b.place) b.value

answers-from : {L : Type 0} (w : Labelling L) (good : L → L → Bool) (value_at : L → ℤ) (close : L → Option ℤ) (count : ℕ) (last : L → ℕ) →
    IsKept w (GoodAs good) → IsValued w (GoodAs good) value_at close → IsStepwise w count last → (best : Option Best) →
    BestOf close (helds_from [] (nodes_below w good value_at count)) best → Answers w close (nodes_below w good value_at count) best
answers-from w good value_at close count last k v st None is = none_of_nodes w good value_at close count last k v st is
answers-from {L = L} w good value_at close count last k v st (Some b) is =
    let none : List (Held L) = [] in
    let nodes : List (Node L) = nodes_below w good value_at count in
    let hs : List (Held L) = helds_from none nodes in
    let r = reached w good value_at close count last k v st count in
    let below = is.there in
    let count_is : length hs ≡ 0 + length nodes = length-helds none nodes in (
      omega arith,
      record {
        label = is.label;
        label_is = r.sound (place_list hs b.place, is.label) is.held;
        closes = is.closes;
        first = first_of_nodes w good value_at close count last k v st (place_list hs b.place) b.value
            (record { at_least = λ h u has e. is.at_least h u has e; first = λ h has e. is.first h has e });
      },
    )

-- What the best of all nodes says of all lists: where there is one, its list closes first of all lists with its value, and where
-- there is none, no list closes. The nodes meet the invariant of the search (`reached`), so their lists are in order, as `best-all`
-- asks, and what is best among them is best of all (`first_of_nodes`, `none_of_nodes`). The two clauses of the contract of
-- `least_closed` are this lemma, for the labelling with its limit.
pub answers : {L : Type 0} (w : Labelling L) (good : L → L → Bool) (value_at : L → ℤ) (close : L → Option ℤ) (count : ℕ) (last : L → ℕ) →
    IsKept w (GoodAs good) → IsValued w (GoodAs good) value_at close → IsStepwise w count last →
    Answers w close (nodes_below w good value_at count) (best_from close 0 None (nodes_below w good value_at count))
answers {L = L} w good value_at close count last k v st =
    let none : List (Held L) = [] in
    let nodes : List (Node L) = nodes_below w good value_at count in
    let r = reached w good value_at close count last k v st count in
    answers-from w good value_at close count last k v st (best_from close 0 None nodes)
    (best-all close none (helds_from none nodes) nodes None r.sorted (held_labels-from none nodes) (λ h u has e. absurd has))

pub from-nodes : {L : Type 0} (w : Labelling L) (good : L → L → Bool) (value_at : L → ℤ) (close : L → Option ℤ) (count : ℕ) (last : L → ℕ) →
    IsKept w (GoodAs good) → IsValued w (GoodAs good) value_at close → IsStepwise w count last →
    (nodes : List (Node L)) (best answer : Option Best) →
    nodes ≡ nodes_below w good value_at count → best ≡ best_from close 0 None nodes → best ≡ answer → Answers w close nodes answer
from-nodes {L = L} w good value_at close count last k v st nodes best answer is found same =
    let P : List (Node L) → Type 0 = λ l. Answers w close l (best_from close 0 None l) in
    let Q : Option Best → Type 0 = λ b. Answers w close nodes b in
    subst Q (sym found ∙ same) (subst P (sym is) (answers w good value_at close count last k v st))

pub back-nodes : {L : Type 0} (w : Labelling L) (good : L → L → Bool) (value_at : L → ℤ) (count : ℕ) (nodes : List (Node L)) →
    nodes ≡ nodes_below w good value_at count → AllBack 0 nodes
back-nodes {L = L} w good value_at count nodes is = let P : List (Node L) → Type 0 = λ l. AllBack 0 l in
    subst P (sym is) (nodes_below-back w good value_at count)

-- the same for the labels that may close within a limit
pub from-limited-nodes : {L : Type 0} (w : Labelling L) (good : L → L → Bool) (value_at : L → ℤ) (close : L → Option ℤ) (count : ℕ)
    (last : L → ℕ) (sound : L → Type 0) (may_close : ℤ → L → Bool) (limit : ℤ) →
    IsKept w (GoodAs good) → IsValued w (GoodAs good) value_at close → IsStepwise w count last → HidesNone w good close sound may_close →
    (nodes : List (Node L)) (best answer : Option Best) →
    nodes ≡ nodes_below (limited w (may_close limit)) good value_at count → best ≡ best_from close 0 None nodes → best ≡ answer →
    Answers (limited w (may_close limit)) close nodes answer
from-limited-nodes w good value_at close count last sound may_close limit k v st h =
    from-nodes (limited w (may_close limit)) good value_at close count last
    (limited-kept w (GoodAs good) (may_close limit) (h.ordered limit) k) (limited-valued w (GoodAs good) value_at close (may_close limit) v)
    (limited-stepwise w count last (may_close limit) st)
