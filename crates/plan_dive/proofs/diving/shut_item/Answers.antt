use Rattle.std.proofs.Common.{ℤ, pos, neg_ℤ, ◌≤ℤ◌, List, sym, subst, arith}
use Rattle.std.proofs.lemmas.Int.{ints}
use Rattle.plan_core.specs.declared.Price.{Price}
use Rattle.cover_core.specs.FirstLeast.{AllWithin}
use Rattle.cover_core.proofs.Values.{IsWithin}
use Rattle.plan_dive.proofs.Readies.{within_set}
use Rattle.plan_dive.proofs.diving.shut_item.Goals as goal

pub returns-clause-moderate : goal.returns-clause-moderate
returns-clause-moderate c =
    let z : ℤ = neg_ℤ (pos 10000000000000) in
    let x : Price = record { 0 = z } in
    let low : neg_ℤ (pos 10000000000000) ≤ℤ z = omega (arith, ints) in
    let high : z ≤ℤ pos 10000000000000 = omega (arith, ints) in
    let within : IsWithin 10000000000000 x.0 = record { low = low; high = high } in
    let P : List Price → Type 0 = λ l. AllWithin 10000000000000 l in
    subst P (sym c.set.ensures) (within_set 10000000000000 c.args.items.now c.args.item x c.requires.moderate within)
