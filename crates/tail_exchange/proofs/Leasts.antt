-- The least of the leasts of several lists is the least of all.
use Rattle.std.proofs.Common.{◌≡◌, ◌≢◌, ◌⊎◌, inl, inr, ⊎_elim, ℕ, zero, suc, List, [], ◌∷◌, Contains, Option, Some, None, Less, Equal, Greater, refl, sym, ap, ◌∙◌, subst, arith}
use Rattle.std.specs.List.{AllZip, filter_map, flat_map}
use Rattle.std.specs.Ordering.{ordering_reverse}
use Rattle.std.specs.Cmp.{IsTotalOrder, then_total, on_total, nat_cmp_total, int_cmp_total}
use Rattle.std.specs.declared.cmp.Ordering.{Ordering}
use Rattle.std.proofs.lemmas.List.Elements.{Contains-append_left, Contains-append_right, Contains-append_cases}
use Rattle.rayon.specs.Lists.{IsLeast}
use Rattle.tail_exchange.specs.declared.candidate.Candidate.{Candidate}
use Rattle.tail_exchange.specs.Order.{candidate_cmp, rank}

pub candidate_total : IsTotalOrder candidate_cmp
candidate_total =
    let by = λ (f : Candidate → ℕ). on_total f nat_cmp_total in
    then_total (on_total (λ (c : Candidate). c.change) int_cmp_total)
    (then_total (by (λ c. rank c.kind))
    (then_total (by (λ c. c.a)) (then_total (by (λ c. c.b)) (then_total (by (λ c. c.i)) (by (λ c. c.j))))))

module _ {X : Type 0} where
  pub Contains-cons_cases : (y : X) (xs : List X) (x : X) → Contains (y ∷ xs) x → (y ≡ x) ⊎ Contains xs x
  Contains-cons_cases y xs x (zero, l, e) = inl e
  Contains-cons_cases y xs x (suc k, l, e) = inr (k, omega arith, e)

  pub Contains-head : (x : X) (xs : List X) → Contains (x ∷ xs) x
  Contains-head x xs = (0, omega arith, refl)

  pub Contains-tail : (y : X) (xs : List X) (x : X) → Contains xs x → Contains (y ∷ xs) x
  Contains-tail y xs x h = (suc h.0, (let l = h.1 in omega arith), h.2)

  -- a list that contains nothing is empty
  pub nothing : (xs : List X) → ((x : X) → Contains xs x → ⊥) → xs ≡ []
  nothing [] n = refl
  nothing (x ∷ xs) n = absurd (n x (Contains-head x xs))

module _ {X : Type 0} (R : X → X → Ordering) (t : IsTotalOrder R) where
  -- x is not below m and m not below q, so x is not below q
  pub not_below : (x m q : X) → R x m ≢ Less → R m q ≢ Less → R x q ≢ Less
  not_below x m q first second e = go (R q m) refl
    where
      go : (o : Ordering) → R q m ≡ o → ⊥
      go Less h = first (t.trans x q m e h)
      go Equal h = first (t.antisymm x m ∙ (ap ordering_reverse (sym (t.congr q m x h)) ∙ (sym (t.antisymm x q) ∙ e)))
      go Greater h = second (t.antisymm m q ∙ ap ordering_reverse h)

  pub not_below_itself : (x : X) → R x x ≢ Less
  not_below_itself x e = let back : R x x ≡ Greater = t.antisymm x x ∙ ap ordering_reverse e in cc

  pub not_below_lesser : (x y : X) → R x y ≡ Less → R y x ≢ Less
  not_below_lesser x y e h = let back : R y x ≡ Greater = t.antisymm y x ∙ ap ordering_reverse e in cc

module _ {X : Type 0} (R : X → X → Ordering) (t : IsTotalOrder R) (f : ℕ → List X) where
  down : (places : List ℕ) (os : List (Option X)) → AllZip (λ a o. IsLeast R (f a) o) places os → (m : X) →
      Contains (filter_map (λ o. o) os) m → Contains (flat_map f places) m
  down [] [] h m c = c
  down [] (o ∷ os) h m c = absurd h
  down (a ∷ places) [] h m c = absurd h
  down (a ∷ places) (None ∷ os) h m c = Contains-append_right (f a) (flat_map f places) m (down places os h.1 m c)
  down (a ∷ places) (Some y ∷ os) h m c =
      ⊎_elim (λ (e : y ≡ m). Contains-append_left (f a) (flat_map f places) m (subst (Contains (f a)) e h.0.0))
      (λ (d : Contains (filter_map (λ o. o) os) m). Contains-append_right (f a) (flat_map f places) m (down places os h.1 m d))
      (Contains-cons_cases y (filter_map (λ o. o) os) m c)

  up : (places : List ℕ) (os : List (Option X)) → AllZip (λ a o. IsLeast R (f a) o) places os → (x : X) → Contains (flat_map f places) x
      → (m : X) × Contains (filter_map (λ o. o) os) m × (R x m ≢ Less)
  up [] [] h x c = absurd (let l = c.1 in omega arith)
  up [] (o ∷ os) h x c = absurd h
  up (a ∷ places) [] h x c = absurd h
  up (a ∷ places) (None ∷ os) h x c =
      ⊎_elim (λ (d : Contains (f a) x). absurd (let n : Contains [] x = subst (λ l. Contains l x) h.0 d in let l = n.1 in omega arith))
      (λ (d : Contains (flat_map f places) x). up places os h.1 x d)
      (Contains-append_cases (f a) (flat_map f places) x c)
  up (a ∷ places) (Some y ∷ os) h x c =
      ⊎_elim (λ (d : Contains (f a) x). (y, Contains-head y (filter_map (λ o. o) os), h.0.1 x d))
      (λ (d : Contains (flat_map f places) x). let r = up places os h.1 x d in (r.0, Contains-tail y (filter_map (λ o. o) os) r.0 r.1, r.2))
      (Contains-append_cases (f a) (flat_map f places) x c)

  -- The least of the leasts of several lists is the least of all: it is in one of them, and no candidate is before the least of its
  -- own list, and that not before it. So each column may be looked at by itself, by any thread, and the answer is that of one long
  -- list.
  pub least_of_leasts : (places : List ℕ) (os : List (Option X)) (r : Option X) → AllZip (λ a o. IsLeast R (f a) o) places os →
      IsLeast R (filter_map (λ o. o) os) r → IsLeast R (flat_map f places) r
  least_of_leasts places os None h l =
      nothing (flat_map f places) (λ x c. let m = up places os h x c in let n : Contains [] m.0 =
      subst (λ l. Contains l m.0) l m.1 in let z = n.1 in omega arith)
  least_of_leasts places os (Some q) h l =
      (down places os h q l.0, λ x c. let m = up places os h x c in not_below R t x m.0 q m.2 (l.1 m.0 m.1))
