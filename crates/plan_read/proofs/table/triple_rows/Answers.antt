use Rattle.std.proofs.Common.{◌≡◌, List, [], ◌∷◌, Some, None, Err, ap, sym, subst, ◌∙◌}
use Rattle.vdv451_text.specs.declared.table.Field.{Field}
use Rattle.vdv451_text.specs.declared.table.Head.{Head}
use Rattle.plan_read.specs.declared.fault.ReadFault.{ReadFault}
use Rattle.plan_read.specs.Located.{FindsTriple, Finds, outline, triple_of}
use Rattle.plan_read.specs.Numbers.{triple_at}
use Rattle.plan_read.proofs.Finds.{none-found, triple-none, triple-some}
use Rattle.plan_read.proofs.table.triple_rows.Goals as goal

pub returns-in_default : goal.returns-in_default
returns-in_default c =
    let P : ReadFault → Type 0 =
    λ e. FindsTriple (Err e) c.args.table c.args.first.now c.args.second.now c.args.third.now c.args.tables.now in
    subst P (sym c.whole.ensures)
    (none-found c.args.table (c.args.first.now ∷ c.args.second.now ∷ c.args.third.now ∷ []) c.args.tables.now
    (sym c.in_default.ensures.once))

pub returns-in-Some-triple_of : goal.returns-in-Some-triple_of
returns-in-Some-triple_of c =
    let found = sym c.in-Some.ensures.once in
    let some : triple_of c.in-Some.found.now.columns c.args.first.now c.args.second.now c.args.third.now
    ≡ Some c.in-Some-triple_of.columns =
    ap (λ (heads : List Head). triple_of heads c.args.first.now c.args.second.now c.args.third.now) (sym c.as_slice.ensures)
    ∙ (sym c.triple_of.ensures ∙ c.in-Some-triple_of.is) in
    let P : List (List Field) → Type 0 =
    λ rows. Finds (outline c.args.table (c.args.first.now ∷ c.args.second.now ∷ c.args.third.now ∷ [])) c.args.tables.now
    (triple_at c.in-Some-triple_of.columns) rows in
    subst P (sym c.as_slice-in-Some-triple_of.ensures)
    (triple-some c.args.table c.args.first.now c.args.second.now c.args.third.now c.args.tables.now c.in-Some.found.now
    c.in-Some-triple_of.columns found some c.in-Some.ensures.sized)

pub returns-in-None : goal.returns-in-None
returns-in-None c =
    let found = sym c.in-Some.ensures.once in
    let none : triple_of c.in-Some.found.now.columns c.args.first.now c.args.second.now c.args.third.now ≡ None =
    ap (λ (heads : List Head). triple_of heads c.args.first.now c.args.second.now c.args.third.now) (sym c.as_slice.ensures)
    ∙ (sym c.triple_of.ensures ∙ c.in-None.is) in
    let P : ReadFault → Type 0 =
    λ e. FindsTriple (Err e) c.args.table c.args.first.now c.args.second.now c.args.third.now c.args.tables.now in
    subst P (sym c.whole-in-None.ensures)
    (triple-none c.args.table c.args.first.now c.args.second.now c.args.third.now c.args.tables.now c.in-Some.found.now found none)
