-- Tables behind tables.
use Rattle.std.proofs.Common.{◌≡◌, List, ◌++◌, ◌∙◌, ap, append_assoc}
use Rattle.vdv451_text.specs.declared.table.Table.{Table}

-- tables that are put behind others in two steps
pub then_more : (old mid new xs ys : List Table) → mid ≡ old ++ xs → new ≡ mid ++ ys → new ≡ old ++ (xs ++ ys)
then_more old mid new xs ys first second = second ∙ ap (λ (ts : List Table). ts ++ ys) first ∙ append_assoc old xs ys
