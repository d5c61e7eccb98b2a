use Rattle.std.proofs.Common.{◌≡◌, ◌≢◌, ◌-◌, ◌<◌, ◌++◌, ◌∷◌, [], List, ℕ, arith, length, set, refl, sym, ap, subst, ◌∙◌}
use Rattle.std.specs.Prelude.{None}
use Rattle.std.specs.Vec.{vec_capacity}
use Rattle.label_region.specs.Shelf.{Shelf, shelf, IsHeld, label_at, AreBack}
use Rattle.label_region.proofs.Counts.{back_pop}
use Rattle.label_region.proofs.Holding.{held_again}
use Rattle.label_region.proofs.Labels.{label_gone, label_set, label_unset, label_new, label_old, label_past}
use Rattle.label_region.proofs.region.Region.put.Goals as goal

pub invariant_of-self : goal.invariant_of-self
invariant_of-self g c =
    let r = c.self.inside in let id = c.in-Some.id in let left = c.pop.new.self.items in
    let held : IsHeld {X = g.row.T.Denot} (shelf r.cells.items (left ++ id ∷ []) r.spare) r.cells.room (vec_capacity r.back) =
    subst (λ l. IsHeld {X = g.row.T.Denot} (shelf r.cells.items l r.spare) r.cells.room (vec_capacity r.back))
    c.in-Some.ensures.items c.self.invariant in
    let some : 0 < r.spare = subst (λ (s : Shelf g.row.T.Denot). 0 < s.spare) (sym c.self.view_is) c.requires in
    rw (c.set.ensures, c.in-Some.ensures.capacity)
    (held_again r.cells.items left r.spare id r.cells.room (vec_capacity r.back) c.args.label held some)

pub returns-in-Some-clause-label : goal.returns-in-Some-clause-label
returns-in-Some-clause-label g c =
    let r = c.self.inside in let id = c.in-Some.id in let left = c.pop.new.self.items in
    let was : AreBack (length r.cells.items) (left ++ id ∷ []) =
    subst (λ l. AreBack (length r.cells.items) l) c.in-Some.ensures.items c.self.invariant.back in
    let parts = back_pop (length r.cells.items) id left was in
    rw c.set.ensures (label_set r.cells.items left id (r.spare - 1) c.args.label parts.1 parts.2)

pub returns-in-Some-clause-others : goal.returns-in-Some-clause-others
returns-in-Some-clause-others g c =
    let r = c.self.inside in let id = c.in-Some.id in let left = c.pop.new.self.items in
    let was : shelf r.cells.items (left ++ id ∷ []) r.spare ≡ c.args.self.now =
    ap (λ l. shelf r.cells.items l r.spare) (sym c.in-Some.ensures.items) ∙ c.self.view_is in
    λ other apart. rw c.set.ensures
    (subst (λ (s : Shelf g.row.T.Denot). label_at (shelf (set r.cells.items id c.args.label) left (r.spare - 1)) other ≡ label_at s other)
    was (label_unset r.cells.items left id (r.spare - 1) r.spare other c.args.label apart))

pub returns-in-Some-clause-was_free : goal.returns-in-Some-clause-was_free
returns-in-Some-clause-was_free g c =
    let r = c.self.inside in let id = c.in-Some.id in let left = c.pop.new.self.items in
    let was : shelf r.cells.items (left ++ id ∷ []) r.spare ≡ c.args.self.now =
    ap (λ l. shelf r.cells.items l r.spare) (sym c.in-Some.ensures.items) ∙ c.self.view_is in
    subst (λ (s : Shelf g.row.T.Denot). label_at s id ≡ None) was (label_gone r.cells.items left id r.spare)

pub returns-in-Some-clause-few : goal.returns-in-Some-clause-few
returns-in-Some-clause-few g c =
    let r = c.self.inside in let id = c.in-Some.id in let left = c.pop.new.self.items in
    let was : AreBack (length r.cells.items) (left ++ id ∷ []) =
    subst (λ l. AreBack (length r.cells.items) l) c.in-Some.ensures.items c.self.invariant.back in
    let parts = back_pop (length r.cells.items) id left was in
    omega (arith, parts.1, c.self.invariant.few_used)

-- where no number was given back, the list is empty before and after
nothing : (xs : List ℕ) → length xs ≡ 0 → xs ≡ []
nothing [] e = refl
nothing (x ∷ xs) e = absurd (omega arith)

pub returns-in-None-clause-label : goal.returns-in-None-clause-label
returns-in-None-clause-label g c =
    let r = c.self.inside in
    let none : c.pop.new.self.items ≡ [] = nothing c.pop.new.self.items (omega (arith, c.in-None.ensures.cases.1, c.pop.new.self.ok)) in
    let at : c.len-id.result ≡ length r.cells.items = omega (arith, c.len-id.ensures.value) in
    rw (c.push.ensures, none, at) (label_new r.cells.items (r.spare - 1) c.args.label)

pub returns-in-None-clause-others : goal.returns-in-None-clause-others
returns-in-None-clause-others g c =
    let r = c.self.inside in
    let none : c.pop.new.self.items ≡ [] = nothing c.pop.new.self.items (omega (arith, c.in-None.ensures.cases.1, c.pop.new.self.ok)) in
    let none_before : r.back.items ≡ [] = nothing r.back.items (omega (arith, c.in-None.ensures.cases.0, r.back.ok)) in
    let was : shelf r.cells.items [] r.spare ≡ c.args.self.now =
    ap (λ l. shelf r.cells.items l r.spare) (sym none_before) ∙ c.self.view_is in
    λ other apart. let far : other ≢ length r.cells.items = λ e. apart (omega (arith, e, c.len-id.ensures.value)) in
    rw (c.push.ensures, none)
    (subst (λ (s : Shelf g.row.T.Denot). label_at (shelf (r.cells.items ++ c.args.label ∷ []) [] (r.spare - 1)) other ≡ label_at s other)
    was (label_old r.cells.items (r.spare - 1) r.spare other c.args.label far))

pub returns-in-None-clause-was_free : goal.returns-in-None-clause-was_free
returns-in-None-clause-was_free g c =
    let r = c.self.inside in
    let none_before : r.back.items ≡ [] = nothing r.back.items (omega (arith, c.in-None.ensures.cases.0, r.back.ok)) in
    let was : shelf r.cells.items [] r.spare ≡ c.args.self.now =
    ap (λ l. shelf r.cells.items l r.spare) (sym none_before) ∙ c.self.view_is in
    let at : c.len-id.result ≡ length r.cells.items = omega (arith, c.len-id.ensures.value) in
    rw at (subst (λ (s : Shelf g.row.T.Denot). label_at s (length r.cells.items) ≡ None) was (label_past r.cells.items r.spare))
