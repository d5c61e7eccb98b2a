-- Planning files with a plan and a certificate behind them: what each spells.
use Rattle.std.proofs.Common.{◌≡◌, ℕ, zero, suc, ◌+◌, ◌-◌, ◌<◌, ◌≤◌, ◌^◌, All, IsTrue, List, [], ◌∷◌, ◌++◌, length, refl, sym, ◌∙◌, ap, subst, arith}
use Rattle.std.proofs.lemmas.List.Elements.{All-from_recursion}
use Rattle.std.specs.List.{AllByRecursion}
use Rattle.vdv451_text.specs.declared.table.Table.{Table}
use Rattle.vdv451_text.specs.Faults.{Gives}
use Rattle.vdv451_text.specs.Lines.{lines_of}
use Rattle.vdv451_text.specs.Plain.{are_plain}
use Rattle.vdv451_text.proofs.PlainStates.{reading_plain}
use Rattle.vdv451_text.proofs.Readings.{reads_given}
use Rattle.vdv451_text.proofs.Sizes.{given_sizes}
use Rattle.input_files.specs.declared.stage.Stage.{Stage}
use Rattle.input_files.specs.declared.stage.Stage.TheVariants as stages
use Rattle.input_files.specs.Inputs.{SpellTables}
use Rattle.input_files.specs.Parts.{joined}
use Rattle.input_files.specs.Stages.{most_bytes, most_cert, next_stage, room}
use Rattle.input_files.proofs.JoinLemmas.{all_joined, plain_joined}
use Rattle.accepted_texts.proofs.GivenWords.{given_words}
use Rattle.accepted_texts.proofs.LegNumbers.{both_each}
use Rattle.accepted_texts.proofs.TextsBack.{HasWords, HaveWords, spelled_once}

-- no file may have more bytes than a certificate
abbrev pub IsSmall : Stage → Type 0
IsSmall stage = room stage ≤ most_cert

next_small : (stage : Stage) (bytes : ℕ) → IsSmall stage → IsSmall (next_stage stage bytes)
next_small (stages.Planning zero left) bytes small = omega arith
next_small (stages.Planning (suc more) left) bytes small = omega (arith, small)
next_small stages.Plan bytes small = omega arith
next_small stages.Cert bytes small = omega arith

-- What files spell does not hang on how many bytes they may have.
-- A limit only refuses a text; what a text spells is said of its lines (`spelled_once`). So the tables of the planning files are the
-- same for `plan` and `certify`, which read them alone, and for `check`, which reads them before two other files.
pub one_reading : (s t : Stage) (contents : List (List ℕ)) (xs ys : List (List Table)) → SpellTables s contents xs →
    SpellTables t contents ys → xs ≡ ys
one_reading s t [] xs ys p q = p ∙ sym q
one_reading s t (bytes ∷ files) xs ys p q =
    let first : p.0 ≡ q.0 = spelled_once (lines_of bytes) p.0 q.0 p.2.1 q.2.1 in
    let others : p.1 ≡ q.1 = one_reading (next_stage s (length bytes)) (next_stage t (length bytes)) files p.1 q.1 p.3 q.3 in
    p.4 ∙ ap (λ (ts : List Table). ts ∷ p.1) first ∙ ap (λ (ps : List (List Table)). q.0 ∷ ps) others ∙ sym q.4

pub as_many : (s : Stage) (contents : List (List ℕ)) (parts : List (List Table)) → SpellTables s contents parts →
    length parts ≡ length contents
as_many s [] parts p = ap length p
as_many s (bytes ∷ files) parts p = ap length p.4 ∙ ap suc (as_many (next_stage s (length bytes)) files p.1 p.3)

-- the tables of planning files, of a plan and of a certificate behind them
pub record IsSplit (stage : Stage) (contents : List (List ℕ)) (one other : List ℕ) (parts : List (List Table)) : Type 0 where
  pub front : List (List Table)
  pub plan : List Table
  pub cert : List Table
  pub whole : parts ≡ front ++ plan ∷ cert ∷ []
  pub spelled : SpellTables stage contents front
  pub of_plan : Gives most_cert one plan
  pub of_cert : Gives most_cert other cert

widened : (most : ℕ) (bytes : List ℕ) (tables : List Table) → most ≤ most_cert → Gives most bytes tables → Gives most_cert bytes tables
widened most bytes tables small given = let few = given.0 in (omega (arith, few, small), given.1)

-- What files with a plan and a certificate behind them spell is what the planning files spell, and then what each of the two spells. How
-- many bytes each may have hangs on the files before it, but never is more than a certificate may have.
pub split_parts : (stage : Stage) (contents : List (List ℕ)) (one other : List ℕ) (parts : List (List Table)) → IsSmall stage →
    SpellTables stage (contents ++ one ∷ other ∷ []) parts → IsSplit stage contents one other parts
split_parts stage [] one other parts small p =
    let next : Stage = next_stage stage (length one) in
    let q = p.3 in
    record {
      front = [];
      plan = p.0;
      cert = q.0;
      whole = p.4 ∙ ap (λ (ps : List (List Table)). p.0 ∷ ps) (q.4 ∙ ap (λ (ps : List (List Table)). q.0 ∷ ps) q.3);
      spelled = refl;
      of_plan = widened (room stage) one p.0 small p.2;
      of_cert = widened (room next) other q.0 (next_small stage (length one) small) q.2;
    }
split_parts stage (bytes ∷ files) one other parts small p =
    let next : Stage = next_stage stage (length bytes) in
    let rest = split_parts next files one other p.1 (next_small stage (length bytes) small) p.3 in
    record {
      front = p.0 ∷ rest.front;
      plan = rest.plan;
      cert = rest.cert;
      whole = p.4 ∙ ap (λ (ps : List (List Table)). p.0 ∷ ps) rest.whole;
      spelled = (p.0, rest.front, p.2, rest.spelled, refl);
      of_plan = rest.of_plan;
      of_cert = rest.of_cert;
    }

-- Planning files that are read alone are read in the same way before a plan and a certificate.
-- While planning files are read, the bytes that are left are counted down in the same way, however many files may come; only behind
-- the last one is the next stage another. So the number of files that may come is free on both sides of the induction.
pub same_room : (more other left : ℕ) (contents : List (List ℕ)) (parts : List (List Table)) → length contents ≤ more + 1 →
    length contents ≤ other + 1 →
    SpellTables (stages.Planning more left) contents parts → SpellTables (stages.Planning other left) contents parts
same_room more other left [] parts few few' p = p
same_room more other left (bytes ∷ []) parts few few' p = (p.0, p.1, p.2, p.3, p.4)
same_room zero other left (bytes ∷ next ∷ files) parts few few' p = absurd (omega (arith, few))
same_room (suc more) zero left (bytes ∷ next ∷ files) parts few few' p = absurd (omega (arith, few'))
same_room (suc more) (suc other) left (bytes ∷ next ∷ files) parts few few' p =
    (p.0, p.1, p.2, same_room more other (left - length bytes) (next ∷ files) p.1 (omega (arith, few)) (omega (arith, few')) p.3, p.4)

-- The number of planning files is what the stage expects, so exactly behind the last of them the stage is that of a plan, and then
-- that of a certificate, each with bytes of its own. So two more files that spell tables within these limits may be put behind them.
pub with_both : (more left : ℕ) (contents : List (List ℕ)) (parts : List (List Table)) (one other : List ℕ) (plan cert : List Table) →
    length contents ≡ more + 1 → SpellTables (stages.Planning more left) contents parts → Gives most_bytes one plan →
    Gives most_cert other cert →
    SpellTables (stages.Planning more left) (contents ++ one ∷ other ∷ []) (parts ++ plan ∷ cert ∷ [])
with_both more left [] parts one other plan cert count p of_plan of_cert = absurd (omega (arith, count))
with_both zero left (bytes ∷ []) parts one other plan cert count p of_plan of_cert =
    let ended : SpellTables stages.Plan (one ∷ other ∷ []) (plan ∷ cert ∷ []) =
    (plan, cert ∷ [], of_plan, (cert, [], of_cert, refl, refl), refl) in
    let whole : parts ≡ p.0 ∷ [] = p.4 ∙ ap (λ (ps : List (List Table)). p.0 ∷ ps) p.3 in
    (p.0, plan ∷ cert ∷ [], p.2, ended, ap (λ (ps : List (List Table)). ps ++ plan ∷ cert ∷ []) whole)
with_both (suc more) left (bytes ∷ []) parts one other plan cert count p of_plan of_cert = absurd (omega (arith, count))
with_both zero left (bytes ∷ next ∷ files) parts one other plan cert count p of_plan of_cert = absurd (omega (arith, count))
with_both (suc more) left (bytes ∷ next ∷ files) parts one other plan cert count p of_plan of_cert =
    let rest = with_both more (left - length bytes) (next ∷ files) p.1 one other plan cert (omega (arith, count)) p.3 of_plan of_cert in
    (p.0, p.1 ++ plan ∷ cert ∷ [], p.2, rest, ap (λ (ps : List (List Table)). ps ++ plan ∷ cert ∷ []) p.4)

-- The planning tables are plain, of few rows, and their numbers have 64 bits.
each_plain : (stage : Stage) (contents : List (List ℕ)) (parts : List (List Table)) → SpellTables stage contents parts →
    AllByRecursion (λ (tables : List Table). IsTrue (are_plain tables)) parts
each_plain stage [] parts p = subst (AllByRecursion (λ (tables : List Table). IsTrue (are_plain tables))) (sym p) tt
each_plain stage (bytes ∷ files) parts p =
    let P : List (List Table) → Type 0 = AllByRecursion (λ (tables : List Table). IsTrue (are_plain tables)) in
    let here : P (p.0 ∷ p.1) = (
      reading_plain (room stage) bytes p.0 (reads_given (room stage) bytes p.0 p.2),
      each_plain (next_stage stage (length bytes)) files p.1 p.3,
    ) in
    subst P (sym p.4) here

pub plain_tables : (stage : Stage) (contents : List (List ℕ)) (parts : List (List Table)) → SpellTables stage contents parts →
    IsTrue (are_plain (joined parts))
plain_tables stage contents parts p =
    plain_joined parts (All-from_recursion (λ (tables : List Table). IsTrue (are_plain tables)) parts (each_plain stage contents parts p))

abbrev IsFew : Table → Type 0
IsFew table = length table.rows < 2 ^ 32

each_few : (stage : Stage) (contents : List (List ℕ)) (parts : List (List Table)) → IsSmall stage → SpellTables stage contents parts →
    AllByRecursion (λ (tables : List Table). All IsFew tables) parts
each_few stage [] parts small p = subst (AllByRecursion (λ (tables : List Table). All IsFew tables)) (sym p) tt
each_few stage (bytes ∷ files) parts small p =
    let P : List (List Table) → Type 0 = AllByRecursion (λ (tables : List Table). All IsFew tables) in
    let here : P (p.0 ∷ p.1) = (
      given_sizes (room stage) bytes p.0 (omega (arith, small)) p.2,
      each_few (next_stage stage (length bytes)) files p.1 (next_small stage (length bytes) small) p.3,
    ) in
    subst P (sym p.4) here

pub few_tables : (stage : Stage) (contents : List (List ℕ)) (parts : List (List Table)) → IsSmall stage → SpellTables stage contents parts →
    All (λ (table : Table). length table.rows < 2 ^ 32) (joined parts)
few_tables stage contents parts small p =
    all_joined IsFew parts (All-from_recursion (λ (tables : List Table). All IsFew tables) parts (each_few stage contents parts small p))

pub word_tables : (stage : Stage) (contents : List (List ℕ)) (parts : List (List Table)) → SpellTables stage contents parts →
    HaveWords (joined parts)
word_tables stage [] parts p = subst (λ (ps : List (List Table)). HaveWords (joined ps)) (sym p) tt
word_tables stage (bytes ∷ files) parts p =
    let here : HaveWords (joined (p.0 ∷ p.1)) =
    both_each HasWords p.0 (joined p.1) (given_words (room stage) bytes p.0 p.2)
    (word_tables (next_stage stage (length bytes)) files p.1 p.3) in
    subst (λ (ps : List (List Table)). HaveWords (joined ps)) (sym p.4) here
