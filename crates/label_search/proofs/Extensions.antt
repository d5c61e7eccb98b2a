-- The extensions of one node more.
use Rattle.std.proofs.Common.{◌≡◌, ℕ, ◌+◌, List, [], ◌∷◌, ◌++◌, ◌<◌, length, get_or, take, refl, sym, ap, ◌∙◌, arith, append_assoc}
use Rattle.std.specs.Prelude.{Option, fold}
use Rattle.std.proofs.lemmas.List.{append-nil, take_more, length-take-le}
use Rattle.cover_core.specs.Labels.{Labelling}
use Rattle.label_search.specs.declared.node.Node.{Node}
use Rattle.label_search.specs.Nodes.{node_of, next_nodes}

pub next_nodes-append : {L : Type 0} (w : Labelling L) (item place : ℕ) (ns : List (Node L)) (n : Node L) →
    next_nodes w item place (ns ++ n ∷ []) ≡ next_nodes w item place ns ++ node_of item (place + length ns + 1) (w.extend n.label item)
next_nodes-append w item place [] n =
    let here : place + 1 ≡ place + 0 + 1 = omega arith in
    append-nil (node_of item (place + 1) (w.extend n.label item)) ∙ ap (λ p. node_of item p (w.extend n.label item)) here
next_nodes-append {L = L} w item place (m ∷ ns) n =
    let here : place + 1 + length ns + 1 ≡ place + length (m ∷ ns) + 1 = omega arith in
    let first : List (Node L) = node_of item (place + 1) (w.extend m.label item) in
    ap (λ l. first ++ l) (next_nodes-append w item (place + 1) ns n) ∙
    sym (append_assoc first (next_nodes w item (place + 1) ns) (node_of item (place + 1 + length ns + 1) (w.extend n.label item))) ∙
    ap (λ p. (first ++ next_nodes w item (place + 1) ns) ++ node_of item p (w.extend n.label item)) here

pub fold-append : {X Y : Type 0} (f : Y → X → Y) (a : Y) (xs ys : List X) → fold f a (xs ++ ys) ≡ fold f (fold f a xs) ys
fold-append f a [] ys = refl
fold-append f a (x ∷ xs) ys = fold-append f (f a x) xs ys

-- one node more is one insertion more
pub level-step : {L : Type 0} (ins : List (Node L) → Node L → List (Node L)) (w : Labelling L) (item i before : ℕ)
    (nodes : List (Node L)) (n : Node L) (first found : List (Node L)) (o : Option L) →
    i < length nodes → n ≡ get_or nodes i n → before ≡ i → o ≡ w.extend n.label item →
    found ≡ fold ins [] (first ++ next_nodes w item 0 (take i nodes)) →
    fold ins found (node_of item (before + 1) o) ≡ fold ins [] (first ++ next_nodes w item 0 (take (i + 1) nodes))
level-step {L = L} ins w item i before nodes n first found o below is place made so_far =
    let one : take (i + 1) nodes ≡ take i nodes ++ n ∷ [] = take_more nodes i n below ∙ ap (λ m. take i nodes ++ m ∷ []) (sym is) in
    let count : 0 + length (take i nodes) + 1 ≡ before + 1 = omega (arith, length-take-le i nodes) in
    let more : next_nodes w item 0 (take (i + 1) nodes) ≡ next_nodes w item 0 (take i nodes) ++ node_of item (before + 1) o =
    ap (next_nodes w item 0) one ∙ next_nodes-append w item 0 (take i nodes) n ∙
    ap (λ p. next_nodes w item 0 (take i nodes) ++ node_of item p (w.extend n.label item)) count ∙
    ap (λ e. next_nodes w item 0 (take i nodes) ++ node_of item (before + 1) e) (sym made) in
    ap (λ l. fold ins l (node_of item (before + 1) o)) so_far ∙
    sym (fold-append ins [] (first ++ next_nodes w item 0 (take i nodes)) (node_of item (before + 1) o)) ∙
    ap (fold ins []) (append_assoc first (next_nodes w item 0 (take i nodes)) (node_of item (before + 1) o)) ∙
    ap (λ l. fold ins [] (first ++ l)) (sym more)
