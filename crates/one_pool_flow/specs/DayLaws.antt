-- Inner: the network of a day rises, and is cheap where its table says so.
use Rattle.std.proofs.Common.{◌≡◌, ℕ, ◌+◌, ◌*◌, ◌<◌, ◌≤◌, true, false, nat_lt, List, length, Option, Some, None, inl, inr, refl, sym, subst, ◌∙◌, arith}
use Rattle.std.specs.Option.{option_map}
use Rattle.std.specs.Prelude.{option_and_then, slice_get}
use Rattle.std.proofs.lemmas.Bool.{cases_lt}
use Rattle.std.proofs.lemmas.Bool.Decides.{nat_tests}
use Rattle.trip_times.specs.declared.trip.Trip.{Trip}
use Rattle.plan_params.specs.declared.rows.pool.Pool.{Pool}
use Rattle.day_model.specs.Facts.{DayFacts, admits}
use Rattle.day_model.specs.Blocks.{link_cost}
use Rattle.day_model.specs.Links.{given, link}
use Rattle.depot_network.specs.Walk.{added, dear_of}
use Rattle.path_cover.specs.Nets.{IsCheap, IsRising}
use Rattle.one_pool_flow.specs.DayNets.{IsLaid, arc_of, net_of}

added_not : (day : DayFacts) (pool : Pool) (t u : ℕ) → nat_lt t u ≡ false → added day pool t u ≡ None
added_not day pool t u test = go (slice_get day.trips t) (slice_get day.trips u)
  where
    go : (a b : Option Trip) →
        option_and_then (λ (trip : Trip). option_and_then
        (λ (next : Trip). given (nat_lt t u)
        (given (admits day next.line pool.typ) (option_map (λ l. link_cost pool next l) (link day pool trip next)))) b) a ≡ None
    go None b = refl
    go (Some trip) None = refl
    go (Some trip) (Some next) = rw test refl

pub day_rising : (day : DayFacts) (pool : Pool) → IsRising (net_of day pool)
day_rising day pool = record { stays = stays; rises = rises }
  where
    stays : arc_of day pool (length day.trips) (length day.trips) ≡ Some 0
    stays = let test : nat_lt (length day.trips) (length day.trips) ≡ false = grind (arith, nat_tests) in rw test refl

    rises : (t u c : ℕ) → t < length day.trips → u < length day.trips → arc_of day pool t u ≡ Some c → t < u
    rises t u c t_in u_in e = elim (cases_lt t u) [
      | inl below ↦ below
      | inr past ↦ absurd (
          let row : nat_lt t (length day.trips) ≡ true = grind (arith, nat_tests) in
          let column : nat_lt u (length day.trips) ≡ true = grind (arith, nat_tests) in
          let after : nat_lt t u ≡ false = grind (arith, nat_tests) in
          let at : arc_of day pool t u ≡ added day pool t u = rw (row, column) refl in
          let bad : None ≡ Some c = sym (at ∙ added_not day pool t u after) ∙ e in
          cc)
    ]

pub day_cheap : (day : DayFacts) (pool : Pool) (n : ℕ) (rows : List (List (Option ℕ))) → n ≡ length day.trips →
    IsLaid day pool n (n + 1) rows → (n + 2) * dear_of pool ≤ 750000000000 → IsCheap (net_of day pool)
day_cheap day pool n rows count laid cheap = (
  dear_of pool,
  λ x v c x_in v_in e.
      let row = laid.each x (omega arith) in
      row.dear v c (omega arith) (row.cells v (omega arith) ∙ e),
  subst (λ (k : ℕ). (k + 2) * dear_of pool ≤ 750000000000) count cheap,
)
