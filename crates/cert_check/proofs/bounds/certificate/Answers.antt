use Rattle.std.proofs.Common.{◌≡◌, ℕ, subst}
use Rattle.std.specs.Prelude.{Ok, Err}
use Rattle.plan_cert.specs.declared.fault.CertFault.{CertFault}
use Rattle.plan_cert.specs.Laws.{AreParts}
use Rattle.plan_cert.specs.Places.{Gives}
use Rattle.plan_cert.specs.Shapes.{shape_of}
use Rattle.plan_cert.specs.declared.cert.Cert.{Cert}
use Rattle.cert_check.specs.Judging.{Case, cert_in}
use Rattle.cert_check.proofs.bounds.certificate.Goals as goal

pub returns-in-Ok-clause-cert : goal.returns-in-Ok-clause-cert
returns-in-Ok-clause-cert c =
    let Said : Case → ℕ → Type 0 = λ k pieces. cert_in k pieces ≡ Ok c.in-Ok.cert in
    let Parts : Case → ℕ → Type 0 = λ k pieces. AreParts (shape_of k.day pieces) c.in-Ok.cert.parts in
    record {
      has_tables = c.requires.has;
      said = subst (Said c.args.case.now) c.requires.pieces (subst (λ k. Said k c.args.pieces) c.case.view_is c.in-Ok.ensures.read);
      parts = subst (Parts c.args.case.now) c.requires.pieces (subst (λ k. Parts k c.args.pieces) c.case.view_is c.in-Ok.ensures.parts);
    }

pub returns-in-Err-Form-clause-stop : goal.returns-in-Err-Form-clause-stop
returns-in-Err-Form-clause-stop c =
    let Said : Case → ℕ → Type 0 = λ k pieces. cert_in k pieces ≡ Err c.in-Err-Form.at in
    let Told : CertFault → Type 0 =
    λ fault. Gives {A = Cert} (Err fault)
    (cert_in (record {
      day = c.case.inside.day.now;
      rec_frt = c.case.inside.rec_frt.now;
      plan = c.case.inside.plan.now;
      cert =
          c.case.inside.cert.now;
    }) c.args.pieces) in (
      c.args.text.now,
      c.args.blocks.now,
      c.args.duties.now,
      c.requires.has,
      subst (Said c.args.case.now) c.requires.pieces
          (subst (λ k. Said k c.args.pieces) c.case.view_is (subst Told c.in-Err-Form.field-0-is c.in-Err-Form.ensures.read)),
    )
