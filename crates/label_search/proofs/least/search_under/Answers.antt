use Rattle.std.proofs.Common.{rules, w64}
use Rattle.std.proofs.lemmas.Int.{to_z-of_z}
use Rattle.std.specs.Prelude.{FitsSigned}
use Rattle.label_search.proofs.Limits.{least-within, above-none, above-least}
use Rattle.label_search.proofs.Rising.{least-rises}
use Rattle.label_search.proofs.least.search_under.Goals as goal

pub returns-in-None-clause-none : goal.returns-in-None-clause-none
returns-in-None-clause-none g c =
    let s = c.args.labels.now in
    let m = g.met.W.Labels in
    let w = g.W.Labels in
    let limit_fits : FitsSigned w64 c.args.limit = search rules in
    let z = to_z-of_z w64 c.args.limit limit_fits in
    let raw = rw z at (rw c.in-None.is at c.in_ok-least_closed.ensures.none) in
    above-none (w.labelling s) (w.good s) (w.close_of s) (w.sound s) (w.may_close s) c.args.limit (m.safe s) (m.hides_none s) raw

pub returns-then-found-limit-clause-found : goal.returns-then-found-limit-clause-found
returns-then-found-limit-clause-found g c =
    let s = c.args.labels.now in
    let m = g.met.W.Labels in
    let w = g.W.Labels in
    let limit_fits : FitsSigned w64 c.args.limit = search rules in
    let z = to_z-of_z w64 c.args.limit limit_fits in
    let raw = rw z at (rw c.in-Some.is at c.in_ok-least_closed.ensures.found) in
    least-within (w.labelling s) (w.good s) (w.close_of s) (w.sound s) (w.may_close s) c.args.limit (m.safe s) (m.hides_none s)
    c.in-Some.found.list c.in-Some.found.value raw (search rules)

pub returns-else-found-limit-clause-none : goal.returns-else-found-limit-clause-none
returns-else-found-limit-clause-none g c =
    let s = c.args.labels.now in
    let m = g.met.W.Labels in
    let w = g.W.Labels in
    let limit_fits : FitsSigned w64 c.args.limit = search rules in
    let z = to_z-of_z w64 c.args.limit limit_fits in
    let raw = rw z at (rw c.in-Some.is at c.in_ok-least_closed.ensures.found) in
    above-least (w.labelling s) (w.good s) (w.close_of s) (w.sound s) (w.may_close s) c.args.limit (m.safe s) (m.hides_none s)
    c.in-Some.found.list c.in-Some.found.value raw (search rules)

pub returns-then-found-limit-clause-rises : goal.returns-then-found-limit-clause-rises
returns-then-found-limit-clause-rises g c =
    let s = c.args.labels.now in
    let m = g.met.W.Labels in
    let w = g.W.Labels in
    let limit_fits : FitsSigned w64 c.args.limit = search rules in
    let z = to_z-of_z w64 c.args.limit limit_fits in
    let raw = rw z at (rw c.in-Some.is at c.in_ok-least_closed.ensures.found) in
    (least-rises (w.labelling s) (w.close_of s) (w.count s) (w.last s) (w.may_close s c.args.limit) (m.stepwise s) c.in-Some.found.list
    c.in-Some.found.value raw).0

pub returns-then-found-limit-clause-items : goal.returns-then-found-limit-clause-items
returns-then-found-limit-clause-items g c =
    let s = c.args.labels.now in
    let m = g.met.W.Labels in
    let w = g.W.Labels in
    let limit_fits : FitsSigned w64 c.args.limit = search rules in
    let z = to_z-of_z w64 c.args.limit limit_fits in
    let raw = rw z at (rw c.in-Some.is at c.in_ok-least_closed.ensures.found) in
    (least-rises (w.labelling s) (w.close_of s) (w.count s) (w.last s) (w.may_close s c.args.limit) (m.stepwise s) c.in-Some.found.list
    c.in-Some.found.value raw).1
