use Rattle.std.proofs.Common.{◌≡◌, ◌≤◌, ◌+◌, ◌-◌, ◌*◌, ℕ, Bool, arith, inl, inr, length, rules, subst, sym, w64}
use Rattle.std.proofs.lemmas.Int.{ints, to_z-of_z}
use Rattle.std.proofs.lemmas.Option.{slice_get_within}
use Rattle.std.specs.Prelude.{FitsSigned}
use Rattle.cover_core.specs.Plans.{number_at}
use Rattle.day_model.specs.Begins.{AreBeginNumbers}
use Rattle.day_model.specs.Facts.{DayFacts}
use Rattle.path_pricing.specs.Points.{DepotAbove, DirectAbove}
use Rattle.path_pricing.specs.Rows.{AreRows}
use Rattle.path_pricing.proofs.Cells.{room_for, row_at}
use Rattle.path_pricing.proofs.Going.{direct_less}
use Rattle.path_pricing.proofs.points.with_point.Goals as goal

pub cell_from-near-requires-clause-room : goal.cell_from-near-requires-clause-room
cell_from-near-requires-clause-room c =
    let count = length c.args.net.now.day.trips in
    let all : length c.trips.result.now ≡ count = search rules in
    let P : ℕ → Type 0 = λ n. (n - c.args.place) * c.args.width + c.args.width ≤ length c.args.passed.now in
    subst P (sym all) (room_for count c.args.t c.args.place c.args.width (length c.args.passed.now) c.requires.after
    c.requires.within c.requires.passed_room)

pub returns-then-head-count-clause-point : goal.returns-then-head-count-clause-point
returns-then-head-count-clause-point c =
    λ numbers by_stand by_pass within are own stood passed. absurd (let all = c.if-head-count.true in search (rules, all, within))

pub returns-then-least-near-clause-point : goal.returns-then-least-near-clause-point
returns-then-least-near-clause-point c = λ numbers by_stand by_pass within are own stood passed.
    let count = length c.args.net.now.day.trips in
    let fits : FitsSigned w64 c.args.least = search rules in
    let back = to_z-of_z w64 c.args.least fits in
    let near_fits : FitsSigned w64 c.cell_from-near.result = search rules in
    let near_back = to_z-of_z w64 c.cell_from-near.result near_fits in
    let all : length c.trips.result.now ≡ count = search rules in
    let P : ℕ → Type 0 = λ n. c.cell_from-near.result ≡ number_at c.args.passed.now ((n - c.args.place) * c.args.width + c.args.number) in
    let near = subst P all c.cell_from-near.ensures in
    inr (λ u trip next later at at' begins same.
    (let after = c.requires.first u trip next later at at' begins in
    let behind : c.args.t + 1 ≤ c.args.place = (let first = c.requires.after in omega (arith, first)) in
    let there = slice_get_within c.args.net.now.day.trips u next at' in
    let row = row_at count c.args.width (c.args.t + 1) c.args.place c.args.number numbers by_pass c.args.passed.now
    behind passed u there same after in
    omega (arith, ints, row, c.if-least-near.true, near, back, near_back)))

pub returns-clause-point : goal.returns-clause-point
returns-clause-point c = λ numbers by_stand by_pass within are own stood passed.
    let net = c.args.net.now in
    let pool = c.args.pool.now in
    let fits : FitsSigned w64 c.with_depot.result = search rules in
    let direct_fits : FitsSigned w64 c.with_direct-direct.result = search rules in
    let back = to_z-of_z w64 c.with_direct-direct.result direct_fits in
    let day_is : c.day-day.result.now ≡ net.day = c.day-day.ensures in
    let counts_is : c.counts-counts.result ≡ net.counts = c.counts-counts.ensures in
    let Are : DayFacts → Type 0 = λ d. AreBeginNumbers d.trips numbers in
    let Stood : DayFacts → Type 0 = λ d. AreRows (length d.trips) c.args.width (c.args.t + 1) numbers by_stand c.args.stood.now in
    let Passed : DayFacts → Type 0 = λ d. AreRows (length d.trips) c.args.width (c.args.t + 1) numbers by_pass c.args.passed.now in
    let are' = subst Are (sym day_is) are in
    let Direct : DayFacts → Type 0 =
    λ d. DirectAbove d c.counts-counts.result pool numbers by_stand c.args.t c.args.number c.with_direct-direct.result in
    let Depot : DayFacts → Type 0 =
    λ d. DepotAbove d c.counts-counts.result pool numbers by_pass c.args.t c.args.number c.with_depot.result in
    let DirectBy : Bool → Type 0 = λ b. DirectAbove net.day b pool numbers by_stand c.args.t c.args.number c.with_direct-direct.result in
    let DepotBy : Bool → Type 0 = λ b. DepotAbove net.day b pool numbers by_pass c.args.t c.args.number c.with_depot.result in
    let direct = subst DirectBy counts_is
    (subst Direct day_is (c.with_direct-direct.ensures.direct numbers by_stand are' own (subst Stood (sym day_is) stood))) in
    let depot = subst DepotBy counts_is
    (subst Depot day_is (c.with_depot.ensures.depot numbers by_pass are' own (subst Passed (sym day_is) passed))) in
    rw (to_z-of_z w64 _ fits)
    (inl (
      direct_less net.day net.counts pool numbers by_stand c.args.t c.args.number c.with_direct-direct.result c.with_depot.result
          (omega (arith, ints, c.with_depot.ensures.low, back)) direct,
      depot,
    ))
