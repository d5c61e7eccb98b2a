-- What an insertion with dominance keeps.
use Rattle.std.proofs.Common.{◌≡◌, ℤ, ◌≤◌, ◌⊎◌, inl, inr, Bool, true, false, cond, ◌||◌, List, [], ◌∷◌, ◌++◌, refl, sym, ap, subst, arith}
use Rattle.std.specs.Prelude.{Option, fold, filter, int_lt}
use Rattle.std.specs.List.{list_any}
use lib.Signed.{◌<ℤ◌}
use Rattle.std.proofs.lemmas.Int.{ints}
use Rattle.cover_core.specs.Labels.{Labelling, IsKept, IsValued}
use Rattle.label_search.specs.declared.node.Node.{Node}
use Rattle.label_search.specs.Laws.{GoodAs}
use Rattle.label_search.specs.Nodes.{is_beaten_node, stays_beside, insert_node}

-- the list has the element
abbrev pub In : {A : Type 0} → A → List A → Type 0
In x [] = ⊥
In x (y ∷ ys) = (x ≡ y) ⊎ In x ys

pub In-left : {A : Type 0} (x : A) (xs ys : List A) → In x xs → In x (xs ++ ys)
In-left x [] ys h = absurd h
In-left x (y ∷ xs) ys h = elim h [ inl e ↦ inl e | inr r ↦ inr (In-left x xs ys r) ]

pub In-right : {A : Type 0} (x : A) (xs ys : List A) → In x ys → In x (xs ++ ys)
In-right x [] ys h = h
In-right x (y ∷ xs) ys h = inr (In-right x xs ys h)

pub In-split : {A : Type 0} (x : A) (xs ys : List A) → In x (xs ++ ys) → In x xs ⊎ In x ys
In-split x [] ys h = inr h
In-split x (y ∷ xs) ys h = elim h [ inl e ↦ inl (inl e) | inr r ↦ elim (In-split x xs ys r) [ inl l ↦ inl (inr l) | inr k ↦ inr k ] ]

pub filter-In : {A : Type 0} (p : A → Bool) (x : A) (xs : List A) → In x (filter p xs) → In x xs
filter-In p x [] h = absurd h
filter-In p x (y ∷ ys) h =
    elim (p y) as (λ b. In x (cond b (y ∷ filter p ys) (filter p ys)) → In x (y ∷ ys)) [
      | true ↦ λ k. elim k [ inl e ↦ inl e | inr r ↦ inr (filter-In p x ys r) ]
      | false ↦ λ k. inr (filter-In p x ys k)
    ] h

pub In-filter : {A : Type 0} (p : A → Bool) (x : A) (xs : List A) → In x xs → p x ≡ true → In x (filter p xs)
In-filter p x [] h e = absurd h
In-filter p x (y ∷ ys) h e =
    elim (p y) as (λ b. p y ≡ b → In x (cond b (y ∷ filter p ys) (filter p ys))) [
      | true ↦ λ is. elim h [ inl s ↦ inl s | inr r ↦ inr (In-filter p x ys r e) ]
      | false ↦ λ is. elim h [ inl s ↦ absurd (let same : p x ≡ p y = ap p s in cc) | inr r ↦ In-filter p x ys r e ]
    ] refl

pub list_any-In : {A : Type 0} (p : A → Bool) (xs : List A) → list_any p xs ≡ true → (x : A) × In x xs × (p x ≡ true)
list_any-In p [] e = absurd (cc)
list_any-In {A = A} p (y ∷ ys) e =
    elim (p y) as (λ b. p y ≡ b → (b || list_any p ys) ≡ true → (x : A) × In x (y ∷ ys) × (p x ≡ true)) [
      | true ↦ λ is k. (y, inl refl, is)
      | false ↦ λ is k. let (x, has, holds) = list_any-In p ys k in (x, inr has, holds)
    ] refl e

-- a node at least as good, of a smaller value or made from a node that is not later
abbrev pub Better : {L : Type 0} → (L → L → Bool) → (L → ℤ) → Node L → Node L → Type 0
Better good value_at m n = GoodAs good m.label n.label × ((value_at m.label <ℤ value_at n.label) ⊎ (m.before ≤ n.before))

abbrev pub HasBetter : {L : Type 0} → (L → L → Bool) → (L → ℤ) → List (Node L) → Node L → Type 0
HasBetter {L} good value_at nodes n = (m : Node L) × In m nodes × Better good value_at m n

pub Better-trans : {L : Type 0} (w : Labelling L) (good : L → L → Bool) (value_at : L → ℤ) (close : L → Option ℤ) →
    IsKept w (GoodAs good) → IsValued w (GoodAs good) value_at close → (a b c : Node L) →
    Better good value_at a b → Better good value_at b c → Better good value_at a c
Better-trans w good value_at close k v a b c h i =
    let left = v.at_most a.label b.label h.0 in
    let right = v.at_most b.label c.label i.0 in (
      k.through a.label b.label c.label h.0 i.0,
      elim h.1 [
        | inl less ↦ inl (omega (arith, ints))
        | inr early ↦ elim i.1 [ inl less ↦ inl (omega (arith, ints)) | inr later ↦ inr (omega arith) ]
      ],
    )

-- the node itself and each one that was there have a better one after an insertion
pub insert-new : {L : Type 0} (w : Labelling L) (good : L → L → Bool) (value_at : L → ℤ) → IsKept w (GoodAs good) →
    (nodes : List (Node L)) (n : Node L) → ((m : Node L) → In m nodes → m.before ≤ n.before) →
    HasBetter good value_at (insert_node good value_at nodes n) n
insert-new {L = L} w good value_at k nodes n early =
    elim (list_any (is_beaten_node good n.label) nodes) as (λ b. list_any (is_beaten_node good n.label) nodes ≡ b →
    HasBetter good value_at (cond b nodes (filter (stays_beside good value_at n.label) nodes ++ n ∷ [])) n) [
      | true ↦ λ is. let (m, has, holds) = list_any-In (is_beaten_node good n.label) nodes is in (m, has, (holds, inr (early m has)))
      | false ↦ λ is. (
        n,
        In-right n (filter (stays_beside good value_at n.label) nodes) (n ∷ [])
            (inl refl),
        (k.same n.label, inr (omega arith)),
      )
    ] refl

pub insert-old : {L : Type 0} (w : Labelling L) (good : L → L → Bool) (value_at : L → ℤ) → IsKept w (GoodAs good) →
    (nodes : List (Node L)) (n m : Node L) → In m nodes → HasBetter good value_at (insert_node good value_at nodes n) m
insert-old {L = L} w good value_at k nodes n m has =
    let stay : List (Node L) = filter (stays_beside good value_at n.label) nodes in
    elim (list_any (is_beaten_node good n.label) nodes) as (λ b. HasBetter good value_at (cond b nodes (stay ++ n ∷ [])) m) [
      | true ↦ (m, has, (k.same m.label, inr (omega arith)))
      | false ↦
          elim (good n.label m.label) as (λ b. good n.label m.label ≡ b → HasBetter good value_at (stay ++ n ∷ []) m) [
            | false ↦ λ is. (
              m,
              In-left m stay (n ∷ [])
                  (In-filter (stays_beside good value_at n.label) m nodes has (rw is refl)),
              (k.same m.label, inr (omega arith)),
            )
            | true ↦ λ is.
                elim (int_lt (value_at n.label) (value_at m.label)) as (λ b. int_lt (value_at n.label) (value_at m.label) ≡ b →
                HasBetter good value_at (stay ++ n ∷ []) m) [
                  | false ↦ λ less. (
                    m,
                    In-left m stay (n ∷ [])
                        (In-filter (stays_beside good value_at n.label) m nodes has (rw (is, less) refl)),
                    (k.same m.label, inr (omega arith)),
                  )
                  | true ↦ λ less. (n, In-right n stay (n ∷ []) (inl refl), (is, inl (grind (arith, ints))))
                ] refl
          ] refl
    ]

pub insert-from : {L : Type 0} (good : L → L → Bool) (value_at : L → ℤ) (nodes : List (Node L)) (n m : Node L) →
    In m (insert_node good value_at nodes n) → In m nodes ⊎ (m ≡ n)
insert-from good value_at nodes n m h =
    elim (list_any (is_beaten_node good n.label) nodes) as
    (λ b. In m (cond b nodes (filter (stays_beside good value_at n.label) nodes ++ n ∷ [])) → In m nodes ⊎ (m ≡ n)) [
      | true ↦ λ k. inl k
      | false ↦ λ k. elim (In-split m (filter (stays_beside good value_at n.label) nodes) (n ∷ []) k) [
        | inl l ↦ inl (filter-In (stays_beside good value_at n.label) m nodes l)
        | inr r ↦ elim r [ inl e ↦ inr e | inr f ↦ absurd f ]
      ]
    ] h

-- each node of a list is from a node that is not later than those after it
abbrev pub AreRanked : {L : Type 0} → List (Node L) → Type 0
AreRanked [] = Unit {0}
AreRanked {L} (n ∷ ns) = ((m : Node L) → In m ns → n.before ≤ m.before) × AreRanked ns

-- After all insertions each candidate has one that is better: at least as good, and of a smaller value or a rank that is not later.
-- The proof is an induction over the new nodes with any nodes that are there before, none of which is later than a new one. A node
-- that is not put in has one before it that is at least as good, hence better; a node that is taken out gives way to one of a
-- smaller value; and "better" is transitive (`Better-trans`), so what replaced a node may be replaced in turn.
pub inserted-covers : {L : Type 0} (w : Labelling L) (good : L → L → Bool) (value_at : L → ℤ) (close : L → Option ℤ) →
    IsKept w (GoodAs good) → IsValued w (GoodAs good) value_at close → (new old : List (Node L)) → AreRanked new →
    ((m n : Node L) → In m old → In n new → m.before ≤ n.before) →
    (n : Node L) → In n old ⊎ In n new → HasBetter good value_at (fold (insert_node good value_at) old new) n
inserted-covers w good value_at close k v [] old ranked early n h =
    elim h [ inl has ↦ (n, has, (k.same n.label, inr (omega arith))) | inr none ↦ absurd none ]
inserted-covers {L = L} w good value_at close k v (c ∷ cs) old ranked early n h =
    let step : List (Node L) = insert_node good value_at old c in
    let rest : (x : Node L) → In x step ⊎ In x cs → HasBetter good value_at (fold (insert_node good value_at) step cs) x =
    inserted-covers w good value_at close k v cs step ranked.1
    (λ m x hm hx. elim (insert-from good value_at old c m hm) [
      | inl o ↦ early m x o (inr hx)
      | inr e ↦
          (let first = ranked.0 x hx in let same = ap (λ (y : Node L). y.before) e in omega arith)
    ]) in
    let through : HasBetter good value_at step n → HasBetter good value_at (fold (insert_node good value_at) step cs) n =
    λ (m, has, better). (let (x, there, best) = rest m (inl has) in (x, there, Better-trans w good value_at close k v x m n best better)) in
    elim h [
      | inl o ↦ through (insert-old w good value_at k old c n o)
      | inr r ↦ elim r [
        | inl e ↦ through (let P : Node L → Type 0 = λ y. HasBetter good value_at step y in
            subst P (sym e) (insert-new w good value_at k old c (λ m hm. early m c hm (inl refl))))
        | inr later ↦ rest n (inr later)
      ]
    ]
