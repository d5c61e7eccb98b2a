-- The bounds of lists with a long pause, for all lists.
use Rattle.std.proofs.Common.{◌≡◌, ℕ, ℤ, pos, ◌+ℤ◌, ◌≤ℤ◌, Bool, true, false, cond, List, refl, subst, sym, arith}
use Rattle.std.proofs.lemmas.Int.{ints}
use Rattle.std.specs.Prelude.{nat_le}
use Rattle.plan_core.specs.declared.types.Price.{Price}
use Rattle.cover_core.specs.Plans.{number_at}
use Rattle.plan_params.specs.declared.rows.group.Group.{Group}
use Rattle.duty_network.specs.Duties.{DutyFacts, limits_of}
use Rattle.duty_pricing.specs.Bounds.{AreBounds, IsBoundFrom, IsBoundRow, IsUnder, behind, row_at}
use Rattle.duty_pricing.specs.declared.reach.Reach.{Reach}

-- behind whatever pause the same rows hold
behind-alike : (long time : ℕ) (over : List (List ℤ)) → behind 0 time over over ≡ behind long time over over
behind-alike long time over = alike (nat_le 0 time) (nat_le long time)
  where
    alike : (a b : Bool) → cond a over over ≡ cond b over over
    alike true true = refl
    alike true false = refl
    alike false true = refl
    alike false false = refl

-- A row that holds of lists which may end late holds of those that must end earlier.
all-bound : (d : DutyFacts) (prices : List Price) (g : Group) (r : Reach) (long : ℕ) (last late : ℤ) (over : List (List ℤ)) (k : ℕ)
    (row : List ℤ) → last ≤ℤ late → IsBoundRow d prices g r 0 late over over k row → IsBoundRow d prices g r long last over over k row
all-bound d prices g r long last late over k row earlier bound = record {
  closes = λ p off x few at is ends. bound.closes p off x few at is (omega (arith, ints));
  steps = λ next time x later few is.
      subst (λ rows. IsUnder d prices r rows next x (number_at row x)) (behind-alike long time over) (bound.steps next time x later few is);
}

-- So where rows are those of lists with a long pause, they bound the others too.
pub over-alone : (d : DutyFacts) (prices : List Price) (g : Group) (r : Reach) (latest : ℤ) (place : ℕ) (rows over : List (List ℤ)) →
    rows ≡ over → (latest +ℤ pos (limits_of g).spread) ≤ℤ (latest +ℤ pos 54000) →
    IsBoundFrom d prices g r 0 (latest +ℤ pos 54000) place over over → AreBounds d prices g r latest place rows over
over-alone d prices g r latest place rows over same earlier bound =
    subst (λ (l : List (List ℤ)). AreBounds d prices g r latest place l over) (sym same) (record {
      plain = record {
        are = bound.are;
        bounds = λ k from few. all-bound d prices g r 10800 (latest +ℤ pos (limits_of g).spread) (latest +ℤ pos 54000) over k
            (row_at over k) earlier (bound.bounds k from few);
      };
      long = bound;
      below = λ k x few. omega (arith, ints);
    })
