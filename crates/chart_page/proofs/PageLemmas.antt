-- The bytes of parts that stand one after another.
use Rattle.std.proofs.Common.{◌≡◌, ℕ, List, [], ◌∷◌, ◌++◌, Result, Ok, Err, OnOk, refl, ap, sym, ◌∙◌, append_assoc}
use Rattle.std.specs.List.{flat_map}
use Rattle.std.proofs.lemmas.Grind.{flat_map-append}
use Rattle.std.proofs.lemmas.List.{append-nil}
use Rattle.vdv451_text.specs.declared.table.Table.{Table}
use Rattle.chart_page.specs.declared.parts.Part.{Part}
use Rattle.chart_page.specs.Parts.{spelled, written}

pub written_append : (table : Table) (a b : List Part) → written table (a ++ b) ≡ written table a ++ written table b
unfolding written
written_append table a b = flat_map-append (spelled table) a b

pub written_nil : (table : Table) → written table [] ≡ []
unfolding written
written_nil table = refl

-- the parts of some items are written item by item
pub written_flat : {X : Type 0} (table : Table) (f : X → List Part) (xs : List X) →
    written table (flat_map f xs) ≡ flat_map (λ x. written table (f x)) xs
written_flat table f [] = written_nil table
written_flat table f (x ∷ xs) =
    written_append table (f x) (flat_map f xs) ∙ ap (λ (t : List ℕ). written table (f x) ++ t) (written_flat table f xs)

-- what follows from a fact of a success
pub then_ok : {T E : Type 0} (r : Result T E) (P Q : Type 0) → (P → Q) → OnOk r P → OnOk r Q
then_ok (Ok x) P Q step p = step p
then_ok (Err e) P Q step p = tt

-- parts that are written behind one another are those of both lists
pub two_steps : (table : Table) (old mid new : List ℕ) (a b : List Part) → mid ≡ old ++ written table a → new ≡ mid ++ written table b →
    new ≡ old ++ written table (a ++ b)
two_steps table old mid new a b first second =
    second ∙ ap (λ (t : List ℕ). t ++ written table b) first ∙ append_assoc old (written table a) (written table b)
    ∙ ap (λ (t : List ℕ). old ++ t) (sym (written_append table a b))

-- what is written item by item is the parts of all items
pub flat_step : {X : Type 0} (table : Table) (f : X → List Part) (xs : List X) (old new : List ℕ) →
    new ≡ old ++ flat_map (λ x. written table (f x)) xs → new ≡ old ++ written table (flat_map f xs)
flat_step table f xs old new all = all ∙ ap (λ (t : List ℕ). old ++ t) (sym (written_flat table f xs))

-- one item more is written
pub parts_next : (table : Table) (out new whole : List ℕ) (a rest : List Part) → new ≡ out ++ written table a →
    out ++ written table (a ++ rest) ≡ whole → new ++ written table rest ≡ whole
parts_next table out new whole a rest more all =
    ap (λ (t : List ℕ). t ++ written table rest) more ∙ append_assoc out (written table a) (written table rest)
    ∙ ap (λ (t : List ℕ). out ++ t) (sym (written_append table a rest)) ∙ all

pub ruleset page_steps = (append_assoc, append-nil, written_append, written_flat)
