use Rattle.std.proofs.Common.{◌≡◌, ◌<◌, ◌∙◌, List, ℕ, Some, sym, ap}
use Rattle.cover_core.specs.declared.Column.{Column}
use Rattle.cover_core.specs.Cover.{Problem}
use Rattle.exchange_tests.specs.Five.{five}
use Rattle.exchange_tests.proofs.Offers.{columns_if, cheap_if}
use Rattle.exchange_tests.proofs.plan_round_tests.add.Goals as goal

pub returns-in_ok-items-in-Some-clause-pool : goal.returns-in_ok-items-in-Some-clause-pool
returns-in_ok-items-in-Some-clause-pool c =
    let p : Problem = five c.args.given.now.places c.args.given.now.bar in
    let class = c.args.class in
    let column : Column = record { class = class; worth = c.in-Some.worth; items = c.in_ok-items-in-Some.items } in
    let there : class < 2 = c.requires.class in
    let has : p.worth class c.in_ok-items-in-Some.items ≡ Some c.in-Some.worth =
    ap (λ (l : List ℕ). p.worth class l) c.in_ok-items-in-Some.ensures ∙ sym c.in-Some.ensures.value in
    columns_if p c.args.pool.now column c.add.new.self c.add.result c.requires.pool (there, has) c.add.ensures.pool

pub returns-in_ok-items-in-Some-clause-cheap : goal.returns-in_ok-items-in-Some-clause-cheap
returns-in_ok-items-in-Some-clause-cheap c =
    let column : Column = record { class = c.args.class; worth = c.in-Some.worth; items = c.in_ok-items-in-Some.items } in
    cheap_if c.args.pool.now column c.add.new.self c.add.result c.requires.cheap c.in-Some.ensures.bound c.add.ensures.pool
