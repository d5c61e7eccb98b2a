-- Promise: two days that are alike have the same certificates.
use Rattle.std.specs.Prelude.{ℕ, List}
use Rattle.day_model.specs.Facts.{DayFacts}
use Rattle.plan_command.specs.Planning.{Asked}
use Rattle.plan_certify.specs.Certificate.{IsCertTextOver}

-- the text of a certificate of the one day is one of the other
abbrev pub HaveSameCertificates : DayFacts → DayFacts → Type 0
HaveSameCertificates one other = (asked : Asked) (bytes : List ℕ) → IsCertTextOver one asked bytes → IsCertTextOver other asked bytes
