use Rattle.std.proofs.Common.{◌≡◌, ◌/◌, [], ℕ, ℤ, All, List, Option, None, sym, subst, ap, ◌∙◌, rules}
use Rattle.std.specs.Prelude.{option_and_then}
use Rattle.std.specs.Option.{option_map}
use Rattle.std.specs.Int.RustNames.{unsigned_abs}
use Rattle.trip_times.specs.declared.trip.Trip.{Trip}
use Rattle.day_model.specs.Blocks.{block_worth}
use Rattle.day_model.specs.Ranges.{IsDaily}
use Rattle.depot_network.specs.declared.open.OpenBlock.{OpenBlock}
use Rattle.depot_network.specs.Open.{closed_open, opening}
use Rattle.depot_network.proofs.Opens.{opening_tied}
use Rattle.cover_rest.specs.Rest.{written}
use Rattle.block_rest.specs.Low.{IsLow}
use Rattle.rest_labels.proofs.Worths.{tied-worth}
use Rattle.block_rest.proofs.Lows.{opening_low, safe-of}
use Rattle.block_rest.proofs.walk.written_worth.Goals as goal

pub driven_in-requires-clause-low : goal.driven_in-requires-clause-low
driven_in-requires-clause-low c =
    let net = c.args.net.now in
    let pool = c.pool_of-pool.result.now in
    let P : List Trip → Type 0 = All IsDaily in
    let daily : All IsDaily net.day.trips = subst P (search rules) c.trips.ensures.daily in
    safe-of (opening net.day net.counts [] pool) (IsLow net.day) (opening_low net.day net.counts pool daily c.pool_of-pool.ensures.ranges)
    (written c.args.bodies.now c.args.list.now) c.in_ok-open.open (sym c.in_ok-open.ensures.value)

pub returns-in_err-open-clause-value : goal.returns-in_err-open-clause-value
returns-in_err-open-clause-value c =
    let net = c.args.net.now in
    let pool = c.pool_of-pool.result.now in
    let list : List ℕ = written c.args.bodies.now c.args.list.now in
    let none : c.from_residual.result ≡ None = search rules in
    none ∙ ap (λ (o : Option OpenBlock). option_and_then
    (λ (a : OpenBlock). option_map (λ (v : ℤ). unsigned_abs v / 1000) (closed_open net.day net.counts pool a)) o)
    c.in_err-open.ensures.value
    ∙ sym (tied-worth (opening net.day net.counts [] pool) (closed_open net.day net.counts pool)
    (block_worth net.day net.counts c.args.class) list
    (opening_tied net.day net.counts [] pool c.args.class (search rules)))

pub returns-clause-value : goal.returns-clause-value
returns-clause-value c =
    let net = c.args.net.now in
    let pool = c.pool_of-pool.result.now in
    let list : List ℕ = written c.args.bodies.now c.args.list.now in
    c.driven_in.ensures.value
    ∙ ap (λ (o : Option OpenBlock). option_and_then
    (λ (a : OpenBlock). option_map (λ (v : ℤ). unsigned_abs v / 1000) (closed_open net.day net.counts pool a)) o) c.in_ok-open.ensures.value
    ∙ sym (tied-worth (opening net.day net.counts [] pool) (closed_open net.day net.counts pool)
    (block_worth net.day net.counts c.args.class) list
    (opening_tied net.day net.counts [] pool c.args.class (search rules)))
