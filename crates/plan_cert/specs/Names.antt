-- Promise: the names of the tables of a certificate and of their columns.
use Rattle.std.specs.Prelude.{ℕ, List, [], ◌∷◌, codes}
use Rattle.plan_cert.specs.declared.fault.CertTable.{CertTable}
use Rattle.plan_cert.specs.declared.fault.CertTable.TheVariants as which

abbrev pub name_of : CertTable → List ℕ
name_of which.Prices = codes "X_PREIS"
name_of which.ClassPrices = codes "X_KLASSENPREIS"
name_of which.DutyMarks = codes "X_MARKE"
name_of which.BlockMarks = codes "X_UMARKE"

abbrev pub columns_of : CertTable → List (List ℕ)
columns_of which.Prices = codes "ART" ∷ codes "LFD_NR" ∷ codes "PREIS" ∷ []
columns_of which.ClassPrices = codes "ART" ∷ codes "KLASSE" ∷ codes "PREIS" ∷ []
columns_of which.DutyMarks =
    codes "ART" ∷ codes "GRUPPE_NR" ∷ codes "STUECK" ∷ codes "BEGINN" ∷ codes "LENK" ∷ codes "VIERTEL" ∷ codes "GESAMT"
    ∷ codes "DREI" ∷ codes "WERT" ∷ []
columns_of which.BlockMarks = codes "ART" ∷ codes "HOF_NR" ∷ codes "LFD_NR" ∷ codes "LENK" ∷ codes "WERT" ∷ []
