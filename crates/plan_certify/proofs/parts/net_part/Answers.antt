use Rattle.std.proofs.Common.{refl}
use Rattle.duty_network.specs.Duties.{duties as duties_of}
use Rattle.plan_certify.proofs.Paid.{never-refused}
use Rattle.plan_certify.proofs.PartsMade.{duty-part-made}
use Rattle.plan_certify.proofs.parts.net_part.Goals as goal

pub make_cover-requires : goal.make_cover-requires
make_cover-requires c = c.requires.prices.1

pub unreachable-requires : goal.unreachable-requires
unreachable-requires c =
    never-refused (duties_of c.args.net.now) (duties_of c.args.net.now) c.args.kept.prices.items c.args.kept.class_prices
    c.as_slice.result.now c.in-Err-Unpaid.field-0 c.in-Err-Unpaid.field-0-0
    refl c.as_slice.ensures c.in-Err-Unpaid.field-0-is c.requires.paid c.in-Err-Unpaid.ensures.unpaid

pub returns-in-Ok : goal.returns-in-Ok
returns-in-Ok c =
    duty-part-made c.args.net.now c.args.kept c.as_slice.result.now c.new.result c.in-Ok.cover c.as_slice.ensures c.new.ensures
    c.in-Ok.ensures.minimal c.in-Ok.ensures.cover
