-- Where each begun piece has its one duty in an earlier plan, the heads of its duties are what duties may begin with, and a plan of duties
-- that keeps them is one in which no other duty has a begun piece.
use Rattle.std.proofs.Common.{◌≡◌, ℕ, Bool, true, false, ◌&&◌, not, List, [], ◌∷◌, refl, arith}
use Rattle.std.proofs.lemmas.Bool.{and_parts}
use Rattle.cover_core.specs.declared.Column.{Column}
use Rattle.cover_core.specs.Plans.{IsPlan}
use Rattle.cover_rest.specs.Keeping.{AreHeads, KeepsBegun}
use Rattle.day_model.specs.Facts.{DayFacts}
use Rattle.block_cut.specs.Cuts.{pieces_of_plan}
use Rattle.umlauf_write.specs.declared.text.PlanText.{PlanText}
use Rattle.duty_rest.specs.Laws.{has_begun_in}
use Rattle.duty_rest.specs.Laws.{none_begun as none_begun_in}
use Rattle.duty_rest.specs.Rest.{may_begin}
use Rattle.duty_rest.proofs.Apart.{heads-are}
use Rattle.duty_rest.proofs.Belongs.{none-begun}
use Rattle.plan_command.specs.Planning.{duties_over}
use Rattle.replan_command.specs.Begun.{HaveDuties, duty_facts, has_begun_at, none_begun}
use Rattle.replan_command.specs.Replanning.{KeepsDuties, Replan, begun_duties}

-- the heads of the earlier duties are heads of the duties over new blocks, counted or with their costs
pub duty_heads_are : (r : Replan) (blocks : List Column) → HaveDuties r.day r.earlier r.moment blocks → (counts : Bool) →
    AreHeads (duties_over r.day blocks counts) (begun_duties r blocks)
duty_heads_are r blocks have counts =
    let heads = heads-are (duty_facts r.day blocks false) blocks r.earlier r.moment (λ k p x at is. let once =
    have.once k p x at is in omega (arith, once)) in
    record { some = heads.some; below = heads.below; once = heads.once }

-- a list without a begun piece of an earlier duty is one without a begun piece
list-free : (day : DayFacts) (earlier : PlanText) (moment : ℕ) (blocks : List Column) →
    HaveDuties day earlier moment blocks → (list : List ℕ) →
    none_begun_in (duty_facts day blocks false) blocks earlier moment list ≡ true →
    none_begun moment (pieces_of_plan day blocks) list ≡ true
list-free day earlier moment blocks have [] free = refl
list-free day earlier moment blocks have (k ∷ ks) free =
    let d = duty_facts day blocks false in
    let (off, rest) = and_parts (not (has_begun_in d blocks earlier moment k)) (none_begun_in d blocks earlier moment ks) free in
    let after = list-free day earlier moment blocks have ks rest in
    elim (has_begun_at moment (pieces_of_plan day blocks) k) as (λ t. has_begun_at moment (pieces_of_plan day blocks) k ≡ t →
    (not t && none_begun moment (pieces_of_plan day blocks) ks) ≡ true) [
      | false ↦ λ is. after
      | true ↦ λ is. absurd (not-both (has_begun_in d blocks earlier moment k) (have.belongs k is) off)
    ] refl
  where
    not-both : (a : Bool) → a ≡ true → not a ≡ true → ⊥
    not-both true e f = cc
    not-both false e f = cc

-- A plan of the duties that keeps the heads leaves no begun piece to other duties. That a duty without a head has no piece of an
-- earlier duty comes for nothing (`none-begun`); and each piece that has begun is one of an earlier duty (`HaveDuties`). So such a
-- duty has no piece that begins before the moment at all, though the search sets it no such rule.
pub none_begun_kept : (r : Replan) (blocks columns : List Column) → HaveDuties r.day r.earlier r.moment blocks →
    IsPlan (duties_over r.day blocks false) columns →
    KeepsBegun (begun_duties r blocks) may_begin columns → KeepsDuties r blocks columns
none_begun_kept r blocks columns have plan keeps =
    let free = none-begun (duty_facts r.day blocks false) blocks r.earlier r.moment columns plan keeps in
    record {
      plan = plan;
      keeps = record {
        kept = free.kept;
        others = λ j c at others. list-free r.day r.earlier r.moment blocks have c.items (free.others j c at others);
      };
    }

-- and keeping what has begun is keeping the heads
pub kept_weaker : (r : Replan) (blocks columns : List Column) → KeepsDuties r blocks columns →
    KeepsBegun (begun_duties r blocks) may_begin columns
kept_weaker r blocks columns keeps = record { kept = keeps.keeps.kept; others = λ j c at others. refl }
