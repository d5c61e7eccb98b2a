-- The values of nodes, in the order of the nodes.
use Rattle.std.proofs.Common.{◌≡◌, ℕ, ℤ, ◌+◌, ◌<◌, ◌≤ℤ◌, Bool, zero, suc, List, [], ◌∷◌, ◌++◌, length, get_or, take, drop, append_assoc, refl, sym, ap, ◌∙◌, subst, arith}
use Rattle.std.proofs.lemmas.List.{take_more}
use Rattle.std.proofs.lemmas.Int.{ints}
use Rattle.cover_core.specs.Labels.{Labelling}
use Rattle.cover_core.specs.Plans.{number_at}
use Rattle.label_search.specs.declared.node.Node.{Node}
use Rattle.label_search.specs.Levels.{AllAtLeast, AreUnfollowed, IsAbove, IsFrom}
use Rattle.label_search.specs.Nodes.{values_of}
use Rattle.label_search.proofs.Leveled.{AllSound-map, AreEnded}
use Rattle.label_search.proofs.Sound.{AllSound-append}

pub values-length : {L : Type 0} (value_at : L → ℤ) (ns : List (Node L)) → length (values_of value_at ns) ≡ length ns
values-length value_at [] = refl
values-length value_at (n ∷ ns) = ap suc (values-length value_at ns)

-- where values are those of nodes, there are as many
pub values-count : {L : Type 0} (value_at : L → ℤ) (vs : List ℤ) (ns : List (Node L)) → vs ≡ values_of value_at ns → length vs ≡ length ns
values-count value_at vs ns are = ap length are ∙ values-length value_at ns

pub values-append : {L : Type 0} (value_at : L → ℤ) (xs ys : List (Node L)) →
    values_of value_at (xs ++ ys) ≡ values_of value_at xs ++ values_of value_at ys
values-append value_at [] ys = refl
values-append value_at (x ∷ xs) ys = ap (λ l. value_at x.label ∷ l) (values-append value_at xs ys)

-- nodes put behind others, and their values behind theirs
pub values-joined : {L : Type 0} (value_at : L → ℤ) (vs ws vs' : List ℤ) (ns ms ns' : List (Node L)) → vs ≡ values_of value_at ns →
    ws ≡ values_of value_at ms →
    vs' ≡ vs ++ ws → ns' ≡ ns ++ ms → vs' ≡ values_of value_at ns'
values-joined value_at vs ws vs' ns ms ns' are new joined nodes =
    joined ∙ ap (λ l. l ++ ws) are ∙ ap (λ l. values_of value_at ns ++ l) new ∙ sym (values-append value_at ns ms)
    ∙ ap (values_of value_at) (sym nodes)

-- a node whose value is above the most does not go on
above-ended : {L : Type 0} (w : Labelling L) (test : L → Bool) (value_at : L → ℤ) (item : ℕ) (most : ℤ) (ns : List (Node L)) (i : ℕ) →
    AreUnfollowed w value_at test item most (take 1 (drop i ns)) → IsAbove most (number_at (values_of value_at ns) i) →
    AreEnded w test item (take 1 (drop i ns))
above-ended w test value_at item most [] zero all above = tt
above-ended w test value_at item most [] (suc i) all above = tt
above-ended w test value_at item most (n ∷ ns) zero all above = (all.0 above, tt)
above-ended w test value_at item most (n ∷ ns) (suc i) all above = above-ended w test value_at item most ns i all above

pub value-ended : {L : Type 0} (w : Labelling L) (test : L → Bool) (value_at : L → ℤ) (item : ℕ) (most : ℤ) (vs : List ℤ)
    (ns : List (Node L)) (i : ℕ) → vs ≡ values_of value_at ns →
    AreUnfollowed w value_at test item most (take 1 (drop i ns)) → IsAbove most (number_at vs i) → AreEnded w test item (take 1 (drop i ns))
value-ended w test value_at item most vs ns i are all above =
    let P : List ℤ → Type 0 = λ l. IsAbove most (number_at l i) in
    above-ended w test value_at item most ns i all (subst P are above)

-- the value of one node more
pub values-step : {L : Type 0} (value_at : L → ℤ) (before vs vs' : List ℤ) (i : ℕ) (ns : List (Node L)) (n : Node L) (v : ℤ) →
    i < length ns → n ≡ get_or ns i n →
    vs ≡ before ++ values_of value_at (take i ns) → v ≡ value_at n.label → vs' ≡ vs ++ v ∷ [] →
    vs' ≡ before ++ values_of value_at (take (i + 1) ns)
values-step value_at before vs vs' i ns n v below is so_far value more =
    let next : take (i + 1) ns ≡ take i ns ++ n ∷ [] = take_more ns i n below ∙ ap (λ m. take i ns ++ m ∷ []) (sym is) in
    more ∙ ap (λ l. l ++ v ∷ []) so_far ∙ ap (λ x. (before ++ values_of value_at (take i ns)) ++ x ∷ []) value ∙
    append_assoc before (values_of value_at (take i ns)) (value_at n.label ∷ []) ∙
    ap (λ l. before ++ l) (sym (values-append value_at (take i ns) (n ∷ [])) ∙ ap (values_of value_at) (sym next))

-- the least value so far
pub least-step : {L : Type 0} (value_at : L → ℤ) (i : ℕ) (nodes : List (Node L)) (n : Node L) (before least : ℤ) →
    i < length nodes → n ≡ get_or nodes i n → AllAtLeast value_at before (take i nodes) → least ≤ℤ before →
    IsFrom least (value_at n.label) →
    AllAtLeast value_at least (take (i + 1) nodes)
least-step {L = L} value_at i nodes n before least below is all lower one =
    let next : take (i + 1) nodes ≡ take i nodes ++ n ∷ [] = take_more nodes i n below ∙ ap (λ m. take i nodes ++ m ∷ []) (sym is) in
    let P : List (Node L) → Type 0 = λ ns. AllAtLeast value_at least ns in
    subst P (sym next) (AllSound-append (λ a. IsFrom least (value_at a)) (take i nodes) (n ∷ [])
    (AllSound-map (λ a. IsFrom before (value_at a)) (λ a. IsFrom least (value_at a))
    (λ a (from, held). (omega (arith, ints, lower, from), held)) (take i nodes) all) (one, tt))
