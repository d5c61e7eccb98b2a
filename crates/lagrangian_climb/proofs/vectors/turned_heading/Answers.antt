use Rattle.std.proofs.Common.{◌≡◌, ℤ, pos, neg_ℤ, ◌≤ℤ◌, List, [], ◌∷◌, ◌++◌, length, sym, ap, ◌∙◌, subst, arith, length-append, to_z, of_z, w64}
use Rattle.std.proofs.lemmas.Int.{ints}
use Rattle.cover_core.proofs.Values.{IsWithin}
use Rattle.lagrangian_climb.specs.Climbs.{AreNear}
use Rattle.lagrangian_climb.proofs.Ranges.{near-push}
use Rattle.lagrangian_climb.proofs.vectors.turned_heading.Goals as goal

pub loop-item-preserved : goal.loop-item-preserved
loop-item-preserved c =
    let z : ℤ = to_z w64 (of_z w64 c.direction-direction.result) in
    let l = c.direction-direction.ensures.low in
    let h = c.direction-direction.ensures.high in
    let low : neg_ℤ (pos 1600000) ≤ℤ z = omega (arith, ints) in
    let high : z ≤ℤ pos 1600000 = omega (arith, ints) in
    let within : IsWithin 1600000 z = record { low = low; high = high } in
    let pushed : c.push.new.self ≡ c.loop-item.directions ++ z ∷ [] = c.in_ok-push.ensures.ok in
    let P : List ℤ → Type 0 = λ l. AreNear 1600000 l in
    let square = c.square-sum.ensures.high in
    record {
      order = omega arith;
      len = ap (λ (l : List ℤ). length l) pushed
          ∙ (omega (arith, length-append c.loop-item.directions (z ∷ []), c.loop-item.invariant.len));
      near = subst P (sym pushed) (near-push 1600000 c.loop-item.directions z c.loop-item.invariant.near within);
      square = omega (arith, c.loop-item.invariant.square);
    }
