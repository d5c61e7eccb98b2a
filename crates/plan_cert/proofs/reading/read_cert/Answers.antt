use Rattle.std.proofs.Common.{subst}
use Rattle.std.specs.Prelude.{IfOk}
use Rattle.plan_cert.specs.declared.shape.Shape.{Shape}
use Rattle.plan_cert.specs.Laws.{AreParts}
use Rattle.plan_cert.specs.Writing.{HaveClasses}
use Rattle.plan_cert.proofs.HasClasses.{read-classes, read-parts}
use Rattle.plan_cert.proofs.MarkCounts.{few-marks}
use Rattle.plan_cert.proofs.reading.read_cert.Goals as goal

pub returns-clause-parts : goal.returns-clause-parts
returns-clause-parts c =
    let P : Shape → Type 0 = λ s. IfOk c.read_shaped.result (λ cert. AreParts s cert.parts) in
    subst P c.in_ok-shape.ensures.shape (read-parts c.in_ok-shape.shape c.args.tables.now c.read_shaped.result c.read_shaped.ensures)

pub returns-clause-classes : goal.returns-clause-classes
returns-clause-classes c =
    let P : Shape → Type 0 = λ s. IfOk c.read_shaped.result (λ cert. HaveClasses s.classes cert.parts) in
    subst P c.in_ok-shape.ensures.shape (read-classes c.in_ok-shape.shape c.args.tables.now c.read_shaped.result c.read_shaped.ensures)

pub returns-clause-marks : goal.returns-clause-marks
returns-clause-marks c = λ bound all.
    few-marks c.in_ok-shape.shape bound c.args.tables.now c.read_shaped.result all c.read_shaped.ensures
