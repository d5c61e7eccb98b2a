-- Lists that have the worths of the plan that is found of them are that plan.
use Rattle.std.proofs.Common.{◌≡◌, ℕ, true, false, nat_eq, List, [], ◌∷◌, refl, sym, ap, ◌∙◌, subst}
use Rattle.std.proofs.lemmas.Bool.{and_parts, eqb-true, eq-eqb, and_from, both_ways}
use Rattle.cover_core.specs.declared.Column.{Column}
use Rattle.cover_core.specs.declared.Plan.{Plan}
use Rattle.cover_core.specs.Cover.{Problem}
use Rattle.cover_core.specs.Plans.{IsPlan}
use Rattle.plan_check.specs.declared.verdict.PlanVerdict.{PlanVerdict}
use Rattle.plan_check.specs.declared.verdict.PlanVerdict.TheVariants.{Lawful}
use Rattle.plan_check.specs.Verdicts.{HaveSameLists, IsVerdict}
use Rattle.plan_check.proofs.Lists.{plans-found}
use Rattle.cert_check.specs.Judging.{same_worths}

-- columns that agree in all
one-column : (a b : Column) → a.class ≡ b.class → a.items ≡ b.items → a.worth ≡ b.worth → a ≡ b
one-column a b class items worth =
    let make : ℕ → ℕ → List ℕ → Column = λ c w is. record { class = c; worth = w; items = is } in
    ap (λ (c : ℕ). make c a.worth a.items) class
    ∙ (ap (λ (w : ℕ). make b.class w a.items) worth ∙ ap (λ (is : List ℕ). make b.class b.worth is) items)

same-all : (as' bs : List Column) → HaveSameLists as' bs → same_worths as' bs ≡ true → as' ≡ bs
same-all [] [] same worths = refl
same-all [] (b ∷ bs) same worths = absurd same
same-all (a ∷ as') [] same worths = absurd same
same-all (a ∷ as') (b ∷ bs) same worths =
    let (first, rest) = and_parts (nat_eq a.worth b.worth) (same_worths as' bs) worths in
    let head = one-column a b same.0 same.1 (eqb-true a.worth b.worth first) in
    let tail = same-all as' bs same.2 rest in
    cc

own-lists : (cs : List Column) → HaveSameLists cs cs
own-lists [] = tt
own-lists (c ∷ cs) = (refl, refl, own-lists cs)

own-worths : (cs : List Column) → same_worths cs cs ≡ true
own-worths [] = refl
own-worths (c ∷ cs) = and_from (nat_eq c.worth c.worth) (same_worths cs cs) (eq-eqb c.worth c.worth refl) (own-worths cs)

-- a plan that is found with the worths that the lists have
pub plan-found : (p : Problem) (cs : List Column) (found : Plan) → IsVerdict p cs (Lawful found) →
    same_worths cs found.columns ≡ true → IsPlan p cs
plan-found p cs found is worths = subst (IsPlan p) (sym (same-all cs found.columns is.0 worths)) is.1

-- lists that are a plan are found as themselves
pub itself : (p : Problem) (cs : List Column) (verdict : PlanVerdict) → IsVerdict p cs verdict → IsPlan p cs →
    verdict ≡ Lawful (record { columns = cs })
itself p cs verdict is plan = plans-found p cs cs verdict (own-lists cs) plan is

-- Judging lists asks for no worths, it finds them; so duties in printed order are a plan with the worths that they have only where
-- these are the ones found. Where one differs they are none: a plan is found as itself (`itself`), with its own worths.
pub other-worths : (p : Problem) (cs : List Column) (found : Plan) → IsVerdict p cs (Lawful found) →
    same_worths cs found.columns ≡ false → IsPlan p cs → ⊥
other-worths p cs found is worths plan =
    let same : Lawful found ≡ Lawful (record { columns = cs }) = itself p cs (Lawful found) is plan in
    let plans : found ≡ record { columns = cs } = cc in
    both_ways (same_worths cs found.columns) worths (ap (λ (q : Plan). same_worths cs q.columns) plans ∙ own-worths cs)
