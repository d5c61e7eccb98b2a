-- Promise: units of driving that are left of a day's.
use Rattle.std.proofs.Common.{◌≡◌, ℕ, ◌+◌, ◌-◌, ◌/◌, ◌<◌, ◌≤◌, Bool, true, false, sym, subst, arith}
use Rattle.std.proofs.Math.Nat.{add-mul, div-mul-le_self}
use Rattle.std.proofs.lemmas.Nat.{le-div}
use Rattle.plan_params.specs.declared.rows.group.Group.{Group}
use Rattle.eu561_rules.specs.Lawful.{limits_for}
use Rattle.duty_network.specs.Duties.{limits_of}
use Rattle.duty_pricing.specs.Bounds.{IsReach, units_left}
use Rattle.duty_pricing.specs.declared.reach.Reach.{Reach}

pub day-most : (ten reduced : Bool) → (limits_for ten reduced).day ≤ 36000
day-most true reduced = omega arith
day-most false reduced = omega arith

-- a quotient rises with what is divided
div-up : (a b u : ℕ) → 0 < u → a ≤ b → a / u ≤ b / u
div-up a b u some h = let low = div-mul-le_self a u in le-div (a / u) b u some (omega arith)

-- What is left once something is taken off, rounded down, and what is taken off, rounded down, are no more together than what was left.
pub units-taken : (a t u : ℕ) → 0 < u → t ≤ a → (a - t) / u + t / u ≤ a / u
units-taken a t u some h =
    let rest = div-mul-le_self (a - t) u in
    let taken = div-mul-le_self t u in
    let parts = add-mul ((a - t) / u) (t / u) u in
    le-div ((a - t) / u + t / u) a u some (omega arith)

pub units-few : (r : Reach) (g : Group) (total : ℕ) → IsReach r → units_left r g total < r.width
units-few r g total reach =
    let day = day-most g.ten g.reduced in
    let some = reach.some in
    let up = div-up ((limits_of g).day - total) 36000 r.unit some (omega arith) in
    let last = reach.day in
    omega arith

-- the more was driven, the less is left
pub units-fall : (r : Reach) (g : Group) (a b : ℕ) → 0 < r.unit → a ≤ b → units_left r g b ≤ units_left r g a
units-fall r g a b some h = div-up ((limits_of g).day - b) ((limits_of g).day - a) r.unit some (omega arith)

-- with a piece more
pub units-after : (r : Reach) (g : Group) (total driving : ℕ) → 0 < r.unit → total + driving ≤ (limits_of g).day →
    units_left r g (total + driving) + driving / r.unit ≤ units_left r g total
units-after r g total driving some h =
    let left : (limits_of g).day - (total + driving) ≡ ((limits_of g).day - total) - driving = omega arith in
    let P : ℕ → Type 0 = λ n. n / r.unit + driving / r.unit ≤ ((limits_of g).day - total) / r.unit in
    subst P (sym left) (units-taken ((limits_of g).day - total) driving r.unit some (omega arith))
