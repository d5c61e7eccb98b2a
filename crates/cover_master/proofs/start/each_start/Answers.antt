use Rattle.std.proofs.Common.{◌≡◌, ◌++◌, ◌∷◌, [], ◌*◌, List, ℕ, Option, pos, unwrap_or, length, sym, ap, ◌∙◌, arith, rules, FitsSigned, w64, to_z, of_z, to_z-of_z, length-append, ◌≤ℤ◌, subst}
use Rattle.plan_core.specs.declared.Price.{Price}
use Rattle.std.proofs.lemmas.Int.{ints}
use Rattle.cover_core.specs.Plans.{price_at}
use Rattle.cover_core.specs.FirstLeast.{AllWithin}
use Rattle.cover_core.proofs.Values.{AllWithin-push}
use Rattle.cover_master.specs.Method.{start_price}
use Rattle.cover_master.proofs.Prices.{pushed-more}
use Rattle.cover_master.proofs.start.each_start.Goals as goal

pub loop-item-preserved : goal.loop-item-preserved
loop-item-preserved g c =
    let p = g.C.Columns.problem c.args.columns.now in
    let item = c.loop-item.item in
    let fits : FitsSigned w64 c.start_of-price.result = search rules in
    let price : Price = record { 0 = to_z w64 (of_z w64 c.start_of-price.result) } in
    let value : price.0 ≡ start_price p item =
    to_z-of_z fits ∙ c.start_of-price.ensures.value ∙ ap (λ (o : Option ℕ). pos (1000 * unwrap_or o 0)) c.least_worth.ensures.least in
    let pushed : c.push.new.self ≡ c.loop-item.new ++ price ∷ [] = c.in_ok-push.ensures.ok in
    record {
      len = ap (λ (l : List Price). length l) pushed
          ∙ (omega (arith, length-append c.loop-item.new (price ∷ []), c.loop-item.invariant.len));
      moderate = (let P : List Price → Type 0 = λ l. AllWithin 10000000000000 l in
          let low : pos 0 ≤ℤ price.0 = omega (arith, ints, value) in
          let high = c.start_of-price.ensures.high in
          subst P (sym pushed) (AllWithin-push 10000000000000 c.loop-item.new price c.loop-item.invariant.moderate
          (record { low = omega (arith, ints); high = omega (arith, ints) })));
      start = λ k h. ap (λ (l : List Price). price_at l k) pushed
          ∙ pushed-more (start_price p) c.loop-item.new item price c.loop-item.invariant.len value c.loop-item.invariant.start k h;
    }
