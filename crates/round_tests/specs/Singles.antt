-- Inner: the problem of the pricer that tests use.
use Rattle.std.proofs.Common.{◌≡◌, ℕ, ◌+◌, ◌%◌, ◌<◌, ◌==◌, ◌&&◌, nat_lt, Bool, true, false, cond, List, [], ◌∷◌, Option, Some, None, refl, arith}
use Rattle.std.proofs.lemmas.Bool.Decides.{nat_tests}
use Rattle.std.proofs.lemmas.Bool.{and_parts}
use Rattle.cover_core.specs.Cover.{Problem}
use Rattle.cover_core.specs.Plans.{HasListedColumns}

-- the lists of one item that is a group's first are worth one more than their class
abbrev pub single_worth : ℕ → ℕ → List ℕ → Option ℕ
single_worth items class [] = None
single_worth items class (x ∷ []) = cond (nat_lt x items && (x % 16 == 0)) (Some (class + 1)) None
single_worth items class (x ∷ y ∷ rest) = None

-- two classes, of at most one column each
abbrev pub singles : ℕ → Problem
singles items = record { items = items; caps = 1 ∷ 1 ∷ []; worth = single_worth items }

pub none_is : {X : Type 0} (P : Type 0) (x : X) → None ≡ Some x → P
none_is P x h = absurd (cc)

-- a worth of one item tells of the item
pub worth_is : (items class x worth : ℕ) → single_worth items class (x ∷ []) ≡ Some worth → (x < items) × (x % 16 ≡ 0) × (worth ≡ class + 1)
worth_is items class x worth h = go (nat_lt x items && (x % 16 == 0)) refl
  where
    some_same : (a b : ℕ) → Some a ≡ Some b → b ≡ a
    some_same a b e = cc

    go : (t : Bool) → (nat_lt x items && (x % 16 == 0)) ≡ t → (x < items) × (x % 16 ≡ 0) × (worth ≡ class + 1)
    go true e =
        let s : Some (class + 1) ≡ Some worth = rw e at h in
        let b = and_parts (nat_lt x items) (x % 16 == 0) e in
        ((let l = b.0 in grind (arith, nat_tests)), (let l = b.1 in grind (arith, nat_tests)), some_same (class + 1) worth s)
    go false e = let s : None ≡ Some worth = rw e at h in absurd (cc)

pub singles_listed : (items : ℕ) → HasListedColumns (singles items)
singles_listed items class [] worth h = absurd (none_is ⊥ worth h)
singles_listed items class (x ∷ []) worth h = ((λ e. absurd (cc)), tt, ((worth_is items class x worth h).0, tt))
singles_listed items class (x ∷ y ∷ rest) worth h = absurd (none_is ⊥ worth h)
