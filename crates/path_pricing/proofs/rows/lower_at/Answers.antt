use Rattle.std.proofs.Common.{◌≡◌, rules, w64}
use Rattle.std.proofs.lemmas.Int.{to_z-of_z}
use Rattle.std.specs.Prelude.{FitsSigned}
use Rattle.cover_core.specs.Plans.{number_at}
use Rattle.path_pricing.proofs.Cells.{lowered_at, number_read}
use Rattle.path_pricing.proofs.rows.lower_at.Goals as goal

pub returns : goal.returns
returns c =
    let old = c.args.cells.now.items in
    let fits : FitsSigned w64 c.lower-least.result = search rules in
    let value_fits : FitsSigned w64 c.args.value = search rules in
    let vz = to_z-of_z w64 c.args.value value_fits in
    let here_fits : FitsSigned w64 c.index.result.now = search rules in
    let hz = to_z-of_z w64 c.index.result.now here_fits in
    let read = number_read old c.args.place c.index.result.now c.requires in
    let is : c.index.result.now ≡ number_at old c.args.place = search (rules, read) in
    rw (to_z-of_z w64 _ fits)
    (lowered_at old c.args.place c.args.value c.lower-least.result c.requires
    (rw (hz, is) at c.lower-least.ensures.first) (rw vz at c.lower-least.ensures.second) (rw (hz, vz, is) at c.lower-least.ensures.least))
