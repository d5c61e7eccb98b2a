use Rattle.std.proofs.Common.{◌≡◌, List, [], ◌∷◌, Some, None, Err, ap, sym, subst, ◌∙◌}
use Rattle.vdv451_text.specs.declared.table.Field.{Field}
use Rattle.vdv451_text.specs.declared.table.Head.{Head}
use Rattle.plan_read.specs.declared.fault.ReadFault.{ReadFault}
use Rattle.plan_read.specs.Located.{FindsPair, Finds, outline, pair_of}
use Rattle.plan_read.specs.Numbers.{pair_at}
use Rattle.plan_read.proofs.Finds.{none-found, pair-none, pair-some}
use Rattle.plan_read.proofs.table.pair_rows.Goals as goal

pub returns-in_default : goal.returns-in_default
returns-in_default c =
    let P : ReadFault → Type 0 = λ e. FindsPair (Err e) c.args.table c.args.first.now c.args.second.now c.args.tables.now in
    subst P (sym c.whole.ensures)
    (none-found c.args.table (c.args.first.now ∷ c.args.second.now ∷ []) c.args.tables.now (sym c.in_default.ensures.once))

pub returns-in-Some-pair_of : goal.returns-in-Some-pair_of
returns-in-Some-pair_of c =
    let found = sym c.in-Some.ensures.once in
    let some : pair_of c.in-Some.found.now.columns c.args.first.now c.args.second.now ≡ Some c.in-Some-pair_of.columns =
    ap (λ (heads : List Head). pair_of heads c.args.first.now c.args.second.now) (sym c.as_slice.ensures)
    ∙ (sym c.pair_of.ensures ∙ c.in-Some-pair_of.is) in
    let P : List (List Field) → Type 0 =
    λ rows. Finds (outline c.args.table (c.args.first.now ∷ c.args.second.now ∷ [])) c.args.tables.now
    (pair_at c.in-Some-pair_of.columns) rows in
    subst P (sym c.as_slice-in-Some-pair_of.ensures)
    (pair-some c.args.table c.args.first.now c.args.second.now c.args.tables.now c.in-Some.found.now c.in-Some-pair_of.columns found
    some c.in-Some.ensures.sized)

pub returns-in-None : goal.returns-in-None
returns-in-None c =
    let found = sym c.in-Some.ensures.once in
    let none : pair_of c.in-Some.found.now.columns c.args.first.now c.args.second.now ≡ None =
    ap (λ (heads : List Head). pair_of heads c.args.first.now c.args.second.now) (sym c.as_slice.ensures)
    ∙ (sym c.pair_of.ensures ∙ c.in-None.is) in
    let P : ReadFault → Type 0 = λ e. FindsPair (Err e) c.args.table c.args.first.now c.args.second.now c.args.tables.now in
    subst P (sym c.whole-in-None.ensures)
    (pair-none c.args.table c.args.first.now c.args.second.now c.args.tables.now c.in-Some.found.now found none)
