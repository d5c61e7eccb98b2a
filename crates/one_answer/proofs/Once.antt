-- Each step determines what is said: it ends with one reason, or passes with one plan or certificate, and not both.
use Rattle.std.proofs.Common.{◌≡◌, ℕ, inl, inr, false, List, length, zero, sym, ap, ◌∙◌, subst}
use Rattle.std.specs.Prelude.{None, slice_get}
use Rattle.cover_core.specs.declared.Plan.{Plan}
use Rattle.umlauf_write.specs.declared.text.PlanText.{PlanText}
use Rattle.umlauf_write.specs.declared.text.PlanFault.TheVariants as faults
use Rattle.plan_cert.specs.declared.cert.Cert.{Cert}
use Rattle.plan_check.specs.declared.verdict.PlanVerdict.{PlanVerdict}
use Rattle.plan_check.specs.declared.verdict.PlanVerdict.TheVariants as verdicts
use Rattle.table_differences.specs.declared.difference.Difference.{Difference}
use Rattle.vdv451_text.specs.declared.table.Table.{Table}
use Rattle.cert_check.specs.declared.reason.Answered.{Answered}
use Rattle.cert_check.specs.Judging.{Case, blocks_in, cert_in, duties_in, duty_lists, fids_in, groups_in, pieces_in, pools_in, text_in}
use Rattle.cert_check.specs.Reasons.{ArePlanAgain, IsPlaceOf, IsTableReason, difference_in, printed_pieces, tables_in}
use Rattle.one_answer.specs.Single.{HasOneAnswer}
use Rattle.one_answer.proofs.Firsts.{err-same, ok-err, ok-same, one-of-two, some-none, some-same}
use Rattle.one_answer.proofs.Verdicts.{one-verdict}
use Rattle.one_answer.proofs.Parts.{no-gap, no-negative, not-high, one-high, one-negative, one-uncovered}
use Rattle.one_answer.proofs.Steps.{AfterBlocks, AfterCert, AfterCharges, AfterCovers, AfterDuties, AfterTables, AfterText, ByBlocks, ByDuties, InSteps, answer-steps}

covers-once : (c : Case) (text : PlanText) (blocks duties : Plan) (cert : Cert) (a b : Answered) → AfterCovers c text blocks duties cert a →
    AfterCovers c text blocks duties cert b → a ≡ b
covers-once c text blocks duties cert a b h k =
    one-of-two _ _ _ _ (a ≡ b) h k
    (λ (pass, print, show, is, said) (pass', print', show', is', said').
    let same = one-high c blocks text.bounds zero cert.parts pass print show pass' print' show' is is' in
    let passes = same.passes in let prints = same.prints in let shows = same.shows in cc)
    (λ one other. not-high c blocks text.bounds zero cert.parts one.0 one.1 one.2 other.0 one.3)
    (λ other one. not-high c blocks text.bounds zero cert.parts other.0 other.1 other.2 one.0 other.3)
    (λ one other. one.1 ∙ sym other.1)

charges-once : (c : Case) (text : PlanText) (blocks duties : Plan) (cert : Cert) (a b : Answered) →
    AfterCharges c text blocks duties cert a → AfterCharges c text blocks duties cert b → a ≡ b
charges-once c text blocks duties cert a b h k =
    one-of-two _ _ _ _ (a ≡ b) h k
    (λ (pass, gap, is, said) (pass', gap', is', said').
    let same = one-uncovered c blocks zero cert.parts pass pass' gap gap' is is' in
    let passes = same.0 in let gaps = same.1 in cc)
    (λ one other. no-gap c blocks zero cert.parts one.0 one.1 other.0 one.2)
    (λ other one. no-gap c blocks zero cert.parts other.0 other.1 one.0 other.2)
    (λ one other. covers-once c text blocks duties cert a b one.1 other.1)

cert-once : (c : Case) (text : PlanText) (blocks duties : Plan) (cert : Cert) (a b : Answered) → AfterCert c text blocks duties cert a →
    AfterCert c text blocks duties cert b → a ≡ b
cert-once c text blocks duties cert a b h k =
    one-of-two _ _ _ _ (a ≡ b) h k
    (λ (pass, class, is, said) (pass', class', is', said').
    let same = one-negative 1 cert.parts pass class pass' class' is is' in
    let passes = same.0 in let classes = same.1 in cc)
    (λ one other. no-negative 1 cert.parts one.0 one.1 other.0 one.2)
    (λ other one. no-negative 1 cert.parts other.0 other.1 one.0 other.2)
    (λ one other. charges-once c text blocks duties cert a b one.1 other.1)

tables-once : (c : Case) (text : PlanText) (blocks duties : Plan) (a b : Answered) → AfterTables c text blocks duties a →
    AfterTables c text blocks duties b → a ≡ b
tables-once c text blocks duties a b h k =
    let found = cert_in c (length (printed_pieces c blocks)) in
    one-of-two _ _ _ _ (a ≡ b) h k
    (λ one other. let same = err-same found one.0 other.0 one.1 other.1 in let said = one.2 in let said' = other.2 in cc)
    (λ one other. ok-err found other.0 one.0 other.1 one.1)
    (λ other one. ok-err found one.0 other.0 one.1 other.1)
    (λ (cert, is, rest) (cert', is', rest').
    let P : Cert → Type 0 = λ k. AfterCert c text blocks duties k b in
    cert-once c text blocks duties cert a b rest (subst P (sym (ok-same found cert cert' is is')) rest'))

-- the place of a table and row
one-place : (made : List Table) (d : Difference) (table table' : List ℕ) (row row' : ℕ) → IsPlaceOf made d table row →
    IsPlaceOf made d table' row' → (table ≡ table') × (row ≡ row')
one-place made d table table' row row' (t, at, named, row_is) (t', at', named', row_is') =
    let same = some-same (slice_get made d.table) t t' at at' in
    (named ∙ (ap (λ (u : Table). u.name) same ∙ sym named'), row_is ∙ sym row_is')

-- The first difference is computed from the tables, so it is one; and where there is none, only X_DIENST as a whole can be named.
one-table : (c : Case) (text : PlanText) (blocks duties : Plan) (table table' : List ℕ) (row row' : ℕ) →
    IsTableReason c text blocks duties table row → IsTableReason c text blocks duties table' row' → (table ≡ table') × (row ≡ row')
one-table c text blocks duties table table' row row' h k =
    let found = difference_in c text blocks duties in
    let made = tables_in c text blocks duties in
    one-of-two _ _ _ _ ((table ≡ table') × (row ≡ row')) h k
    (λ (d, is, place) (d', is', place').
    let P : Difference → Type 0 = λ x. IsPlaceOf made x table' row' in
    one-place made d table table' row row' place (subst P (sym (some-same found d d' is is')) place'))
    (λ one other. some-none found one.0 one.1 other.0)
    (λ other one. some-none found other.0 other.1 one.0)
    (λ one other. (one.2 ∙ sym other.2, one.3 ∙ sym other.3))

not-same : (c : Case) (text : PlanText) (blocks duties : Plan) (table : List ℕ) (row : ℕ) (a : Answered) →
    IsTableReason c text blocks duties table row →
    (difference_in c text blocks duties ≡ None) × ArePlanAgain c blocks duties × AfterTables c text blocks duties a → ⊥
not-same c text blocks duties table row a is (none, again, rest) = elim is [
  | inl (d, found, place) ↦ some-none (difference_in c text blocks duties) d found none
  | inr (none', no_plan, named, row_is) ↦ no_plan again
]

duties-once : (c : Case) (text : PlanText) (blocks duties : Plan) (a b : Answered) → AfterDuties c text blocks duties a →
    AfterDuties c text blocks duties b → a ≡ b
duties-once c text blocks duties a b h k =
    one-of-two _ _ _ _ (a ≡ b) h k
    (λ (table, row, is, said) (table', row', is', said').
    let same = one-table c text blocks duties table table' row row' is is' in
    let tables = same.0 in let rows = same.1 in cc)
    (λ one other. not-same c text blocks duties one.0 one.1 b one.2 other)
    (λ other one. not-same c text blocks duties other.0 other.1 a other.2 one)
    (λ one other. tables-once c text blocks duties a b one.2 other.2)

by-duties-once : (c : Case) (text : PlanText) (blocks : Plan) (v : PlanVerdict) (a b : Answered) → ByDuties c text blocks v a →
    ByDuties c text blocks v b → a ≡ b
by-duties-once c text blocks (verdicts.Lawful duties) a b h k = duties-once c text blocks duties a b h k
by-duties-once c text blocks (verdicts.Times item times) a b (piece, at, said) (piece', at', said') =
    let same = some-same (slice_get (pieces_in c blocks.columns) item) piece piece' at at' in cc
by-duties-once c text blocks (verdicts.Unlawful spot) a b h k = h ∙ sym k
by-duties-once c text blocks (verdicts.Over class used) a b (group, at, said) (group', at', said') =
    let same = some-same (slice_get (groups_in c) class) group group' at at' in cc

-- The verdict on the duties is one, and each verdict either is a reason, of which it says all numbers, or lets the duties pass as one
-- plan, with which both answers go on.
blocks-once : (c : Case) (text : PlanText) (blocks : Plan) (a b : Answered) → AfterBlocks c text blocks a → AfterBlocks c text blocks b →
    a ≡ b
blocks-once c text blocks a b (v, is, rest) (v', is', rest') =
    let P : PlanVerdict → Type 0 = λ w. ByDuties c text blocks w b in
    let same = one-verdict (duties_in c (pieces_in c blocks.columns) false) (duty_lists c blocks.columns text) v v' is is' in
    by-duties-once c text blocks v a b rest (subst P (sym same) rest')

by-blocks-once : (c : Case) (text : PlanText) (v : PlanVerdict) (a b : Answered) → ByBlocks c text v a → ByBlocks c text v b → a ≡ b
by-blocks-once c text (verdicts.Lawful blocks) a b h k = blocks-once c text blocks a b h k
by-blocks-once c text (verdicts.Times item times) a b (fid, at, said) (fid', at', said') =
    let same = some-same (slice_get (fids_in c) item) fid fid' at at' in cc
by-blocks-once c text (verdicts.Unlawful spot) a b h k = h ∙ sym k
by-blocks-once c text (verdicts.Over class used) a b (pool, at, said) (pool', at', said') =
    let same = some-same (slice_get (pools_in c) class) pool pool' at at' in cc

text-once : (c : Case) (text : PlanText) (a b : Answered) → AfterText c text a → AfterText c text b → a ≡ b
text-once c text a b (v, is, rest) (v', is', rest') =
    let P : PlanVerdict → Type 0 = λ w. ByBlocks c text w b in
    let same = one-verdict (blocks_in c false) text.blocks.columns v v' is is' in
    by-blocks-once c text v a b rest (subst P (sym same) rest')

steps-once : (c : Case) (a b : Answered) → InSteps c a → InSteps c b → a ≡ b
steps-once c a b h k =
    one-of-two _ _ _ _ (a ≡ b) h k
    (λ (table, row, is, said) (table', row', is', said').
    let same = err-same (text_in c) (faults.Form table row) (faults.Form table' row') is is' in cc)
    (λ one other. ok-err (text_in c) other.0 (faults.Form one.0 one.1) other.1 one.2)
    (λ other one. ok-err (text_in c) one.0 (faults.Form other.0 other.1) one.1 other.2)
    (λ (text, is, rest) (text', is', rest').
    let P : PlanText → Type 0 = λ t. AfterText c t b in
    text-once c text a b rest (subst P (sym (ok-same (text_in c) text text' is is')) rest'))

-- Two answers go through the same steps: the text that is read is one, each verdict is one, and at the step where one of them ends the
-- other ends too, since what a reason says is the contrary of what is passed.
pub one-answer : (c : Case) → HasOneAnswer c
one-answer c a b is is' = steps-once c a b (answer-steps c a is) (answer-steps c b is')
