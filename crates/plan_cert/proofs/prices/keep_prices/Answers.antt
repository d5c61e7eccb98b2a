use Rattle.std.proofs.Common.{◌+◌, Bool, length, drop, ap, sym, ◌∙◌, arith}
use Rattle.std.specs.Prelude.{if◌then◌else◌}
use Rattle.plan_cert.specs.declared.slots.Slots.{Slots}
use Rattle.plan_cert.specs.Prices.{count_for, entry_of, slots_in, with_slot}
use Rattle.plan_cert.proofs.Kept.{kept-more, slots-long, wrong-twice}
use Rattle.plan_cert.proofs.Lists.{at-place}
use Rattle.plan_cert.proofs.prices.keep_prices.Goals as goal

pub put-requires : goal.put-requires
put-requires c =
    let count = count_for c.args.kind c.args.shape.now in
    let kept = c.loop-place.invariant in
    let pass = c.in-Some.entry.pass in
    let below = c.in-Some.ensures.within in
    let long = ap (λ (s : Slots). length (slots_in s pass)) kept.slots_are ∙ slots-long count kept.before pass in
    omega arith

pub returns-then-not-put-clause-wrong : goal.returns-then-not-put-clause-wrong
returns-then-not-put-clause-wrong c =
    let say = entry_of c.args.kind c.args.shape.now c.args.columns.now in
    let count = count_for c.args.kind c.args.shape.now in
    let rows = c.args.rows.now in
    let place = c.loop-place.place in
    let row = c.index-rows-place.result in
    let at = at-place rows place row c.loop-place-test.true c.index-rows-place.is in
    let says = sym (c.in-Some.ensures.value ∙ ap say c.as_slice.ensures) in
    wrong-twice say count rows c.loop-place.slots place row (drop (place + 1) rows) c.in-Some.entry c.loop-place.invariant at says
    c.in-Some.ensures.within (sym c.put.ensures.free ∙ c.if-not-put.true)

pub loop-place-preserved : goal.loop-place-preserved
loop-place-preserved c =
    let say = entry_of c.args.kind c.args.shape.now c.args.columns.now in
    let count = count_for c.args.kind c.args.shape.now in
    let rows = c.args.rows.now in
    let place = c.loop-place.place in
    let row = c.index-rows-place.result in
    let entry = c.in-Some.entry in
    let slots = c.loop-place.slots in
    let at = at-place rows place row c.loop-place-test.true c.index-rows-place.is in
    let says = sym (c.in-Some.ensures.value ∙ ap say c.as_slice.ensures) in
    let put = c.put.ensures.put
    ∙ ap (λ (t : Bool). if t then with_slot slots entry.pass entry.number entry.price else slots) c.if-not-put.false in
    kept-more say count rows slots c.put.new.self place row entry c.loop-place.invariant at says c.in-Some.ensures.within
    (sym c.put.ensures.free ∙ c.if-not-put.false) put
