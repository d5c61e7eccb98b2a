-- Inner: the four parts of a certificate.
use Rattle.std.specs.Prelude.{List, [], ◌∷◌}
use Rattle.plan_cert.specs.declared.cert.CertPart.{CertPart}
use Rattle.cert_check.specs.declared.parts.FourParts.{FourParts}

-- in the order of the passes
abbrev pub listed : FourParts → List CertPart
listed p = p.block_number.now ∷ p.block_cost.now ∷ p.duty_number.now ∷ p.duty_cost.now ∷ []
