-- A side that is made over a rest keeps what has begun, and its bounds hold of all plans that do: those are the plans of the rest,
-- written out.
use Rattle.std.proofs.Common.{◌≡◌, ℕ, Bool, List, [], ◌∷◌, length, Some, sym, ap, ◌∙◌, subst, arith}
use Rattle.cover_core.specs.declared.Column.{Column}
use Rattle.cover_core.specs.Cover.{Problem}
use Rattle.cover_core.specs.FirstLeast.{AreCheap}
use Rattle.cover_core.specs.Laws.{IsCountOf}
use Rattle.cover_core.specs.Plans.{HasListedColumns, IsPlan, cost}
use Rattle.price_rounds.specs.Rounds.{IsBoundOf}
use Rattle.cover_plan.specs.Ends.{HasNone, IsCountBoundOf}
use Rattle.day_method.specs.Method.{SidePlan}
use Rattle.umlauf_write.specs.Printed.{printed}
use Rattle.umlauf_write.proofs.Order.{order_plan}
use Rattle.cover_rest.specs.declared.begun.Begun.{Begun}
use Rattle.cover_rest.specs.Rest.{bodies, is_rest_list, rest_of, rest_worth, written, written_plan}
use Rattle.cover_rest.specs.Keeping.{AreHeads, KeepsBegun}
use Rattle.cover_rest.proofs.Counts.{written-cost, written-number}
use Rattle.cover_rest.proofs.Kept.{rest-is-kept}
use Rattle.cover_rest.proofs.Lists.{from-cond, onto-cond}
use Rattle.cover_rest.proofs.Rests.{kept-is-rest}
use Rattle.replan_command.specs.Replanning.{IsKeptSide}
use Rattle.replan_command.proofs.Orders.{order-keeps}

-- the rest of a problem that counts is the rest with costs, counted
pub rest-counts : (p q : Problem) (heads : List Begun) (may : ℕ → List ℕ → Bool) → q.items ≡ p.items → IsCountOf p q →
    IsCountOf (rest_of p heads may) (rest_of q heads may)
rest-counts p q heads may same is =
    let bs : List (List ℕ) = bodies heads p.items in
    let P : ℕ → Type 0 = λ n. (class : ℕ) (list : List ℕ) (worth : ℕ) → rest_worth p heads bs may class list ≡ Some worth →
    rest_worth q heads (bodies heads n) may class list ≡ Some 1 in
    record {
      items = ap (λ n. length (bodies heads n)) same;
      caps = is.caps;
      one = subst P (sym same) (λ class list worth e.
          let (test, there) = from-cond (is_rest_list heads bs may class list) (p.worth class (written bs list)) worth e in
          onto-cond (is_rest_list heads bs may class list) (q.worth class (written bs list)) test
          ∙ is.one class (written bs list) worth there);
    }

-- a plan that keeps what has begun
pub record KeepsOf (p : Problem) (heads : List Begun) (may : ℕ → List ℕ → Bool) (columns : List Column) : Type 0 where
  pub plan : IsPlan p columns
  pub keeps : KeepsBegun heads may columns

module _ (p : Problem) (heads : List Begun) (may : ℕ → List ℕ → Bool) (listed : HasListedColumns p) (are : AreHeads p heads) where
  abbrev rest : Problem
  rest = rest_of p heads may

  -- Each plan that keeps what has begun has as many columns as a plan of the rest, and its cost. A plan that keeps what has begun is a
  -- plan of the rest, written out, and to write it out changes neither how many columns it has nor what they cost.
  in-rest : (columns : List Column) → KeepsOf p heads may columns →
      (found : List Column) × IsPlan rest found × (length columns ≡ length found) × (cost columns ≡ cost found)
  in-rest columns of =
      let (found, plan, is) = kept-is-rest p listed heads may are columns of.plan of.keeps in
      let bs : List (List ℕ) = bodies heads p.items in
      (found, plan, ap length (sym is) ∙ written-number bs found, ap cost (sym is) ∙ written-cost bs found)

  -- The method plans the rest. Its plan, written out, is a plan that keeps what has begun, and stays so in printed order
  -- (`order-keeps`). Bounds are of the rest; any other plan that keeps what has begun has its match there (`in-rest`), so they are
  -- bounds of all such plans.
  pub kept-side : (side : SidePlan) (columns : List Column) → IsPlan rest columns →
      side.columns ≡ printed (written_plan (bodies heads p.items) columns) →
      IsCountBoundOf rest side.count.bound → IsBoundOf rest side.cost.bound → IsKeptSide (KeepsOf p heads may) side
  kept-side side columns plan order number least =
      let kept = rest-is-kept p heads may are columns plan in
      let P : List Column → Type 0 = KeepsOf p heads may in
      record {
        keeps = subst P (sym order) (record {
          plan = order_plan p (written_plan (bodies heads p.items) columns) kept.plan;
          keeps =
              order-keeps heads may (written_plan (bodies heads p.items) columns) kept.keeps;
        });
        number = λ others of. let (found, is, long, dear) = in-rest others of in let bound = number found is in omega (arith, bound, long);
        cost = λ others of. let (found, is, long, dear) = in-rest others of in let bound = least found is in omega (arith, bound, dear);
      }

  -- where the rest has no plan none keeps what has begun
  pub kept-none : HasNone rest → (columns : List Column) → KeepsOf p heads may columns → ⊥
  kept-none none columns of = let (found, is, long, dear) = in-rest columns of in none found is

-- the same of what is said in other words
pub kept-where : (A B : List Column → Type 0) → ((columns : List Column) → A columns → B columns) →
    ((columns : List Column) → B columns → A columns) → (side : SidePlan) → IsKeptSide A side → IsKeptSide B side
kept-where A B onto back side is = record {
  keeps = onto side.columns is.keeps;
  number = λ columns of. is.number columns (back columns of);
  cost = λ columns of. is.cost columns (back columns of);
}

-- columns that are written out cost what they did
pub written-cheap : (bs : List (List ℕ)) (cs : List Column) → AreCheap cs → AreCheap (written_plan bs cs)
written-cheap bs [] cheap = tt
written-cheap bs (c ∷ cs) cheap = (cheap.0, written-cheap bs cs cheap.1)
