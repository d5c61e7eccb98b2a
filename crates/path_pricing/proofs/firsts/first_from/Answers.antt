use Rattle.std.proofs.Common.{◌≡◌, ◌*◌, ◌+◌, ◌≤◌, ℕ, ◌/◌, arith, pos, rules, subst, sym, length}
use Rattle.std.proofs.lemmas.Int.{ints}
use Rattle.day_model.specs.Begins.{IsFirstFrom}
use Rattle.day_model.proofs.Following.{entry_read, first_later}
use Rattle.path_pricing.proofs.Going.{first_none}
use Rattle.path_pricing.proofs.firsts.first_from.Goals as goal

pub returns-then-minute-lt2881-clause-first : goal.returns-then-minute-lt2881-clause-first
returns-then-minute-lt2881-clause-first c =
    let trips = c.args.day.now.trips in
    let firsts = c.args.firsts.now in
    let minute = c.args.time / 60 in
    let few = c.if-minute-lt2881.true in
    let count = c.requires.count in
    let down : 60 * minute ≤ c.args.time = omega arith in
    let P : ℕ → Type 0 = λ k. IsFirstFrom trips (pos c.args.time) k in
    subst P (sym (entry_read firsts minute 0 (omega (arith, few, count))))
    (first_later trips (pos (60 * minute)) (pos c.args.time) _ (omega (arith, ints, down)) (c.requires.first minute few))

pub returns-else-minute-lt2881-clause-first : goal.returns-else-minute-lt2881-clause-first
returns-else-minute-lt2881-clause-first c =
    let trips = c.args.day.now.trips in
    let many = c.if-minute-lt2881.false in
    let late : 172800 + 1 ≤ c.args.time = omega (arith, many) in
    let all : length c.trips.result.now ≡ length trips = search rules in
    let P : ℕ → Type 0 = λ k. IsFirstFrom trips (pos c.args.time) k in
    subst P (sym all) (first_none trips (pos c.args.time) (search rules) (omega (arith, ints, late)))
