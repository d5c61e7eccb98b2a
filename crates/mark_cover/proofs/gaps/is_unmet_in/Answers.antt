use Rattle.std.proofs.Common.{not, sym, ap, ◌∙◌}
use Rattle.std.specs.Option.{option_map}
use Rattle.mark_cover.specs.Searches.{is_unmet}
use Rattle.mark_cover.proofs.gaps.is_unmet_in.Goals as goal

pub returns-in-Some : goal.returns-in-Some
returns-in-Some g c =
    let w = g.M.Marks in
    let m = w.marking c.args.m.now in
    let seen = w.seen c.args.m.now in
    let is = ap (option_map seen) c.in-Some.is in
    let (class, last) = c.requires.placed (seen c.in-Some.made) is in
    let same = c.group.ensures (seen c.in-Some.made) class last in
    ap not (c.is_met_in.ensures ∙ same) ∙ sym (ap (is_unmet m c.args.marks.now) is)
