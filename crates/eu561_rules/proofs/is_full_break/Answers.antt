use Rattle.std.proofs.Common.{◌≡◌, ◌<◌, ◌+◌, Bool, false, cond, ◌||◌, length, take, get_or, suc, sym, ap, ◌∙◌, arith}
use Rattle.std.specs.Prelude.{nat_le}
use Rattle.std.proofs.lemmas.List.{length-take-le}
use Rattle.eu561_rules.specs.declared.rules.Drive.{Drive}
use Rattle.eu561_rules.specs.Duty.{completes_break, is_full_break, pause_before}
use Rattle.eu561_rules.proofs.Words.{quarter_at, quarter-next, break-at, pause-is, pause-within, words-from, words-onto}
use Rattle.eu561_rules.proofs.is_full_break.Goals as goal

pub loop-drive-preserved : goal.loop-drive-preserved
loop-drive-preserved c =
    let drives = c.args.drives.now in
    let i = c.loop-drive.drive-index in
    let none : Drive = record { pause = 0; driving = 0 } in
    let inside : i < c.args.place = omega (arith, length-take-le c.args.place drives) in
    let below : i < length drives = omega arith in
    let pause : (get_or (take c.args.place drives) i none).pause ≡ pause_before drives i =
    pause-within drives c.args.place i none inside below in
    let was : c.loop-drive.quarter ≡ quarter_at drives i = c.loop-drive.invariant.quarter_is in
    let break : is_full_break drives i ≡ completes_break (quarter_at drives i) (pause_before drives i) = break-at drives i below in
    let left : Bool = nat_le 900 (pause_before drives i) || quarter_at drives i in
    let next : quarter_at drives (suc i) ≡ cond (completes_break (quarter_at drives i) (pause_before drives i)) false left =
    quarter-next drives i below ∙ ap (λ b. cond b false left) break in
    let up : suc i ≡ i + 1 = omega arith in
    record {
      order = omega arith;
      quarter_is = c.leaves_quarter-quarter.ensures ∙ rw (pause, was) (sym next ∙ ap (quarter_at drives) up);
    }

pub returns : goal.returns
returns c =
    let drives = c.args.drives.now in
    let place = c.args.place in
    let below : place < length drives = c.requires in
    let end : c.loop-drive.drive-index ≡ place = omega (arith, length-take-le place drives) in
    let was : c.loop-drive.quarter ≡ quarter_at drives place = c.loop-drive.invariant.quarter_is ∙ ap (quarter_at drives) end in
    let pause : (get_or drives place (record { pause = 0; driving = 0 })).pause ≡ pause_before drives place =
    pause-is drives place _ below in
    let same : c.completes.result ≡ is_full_break drives place =
    c.completes.ensures ∙ rw (was, pause) (sym (break-at drives place below)) in
    record {
      recursion = same;
      words = (λ yes. words-from drives place below (sym same ∙ yes), λ w. same ∙ words-onto drives place below w);
    }
