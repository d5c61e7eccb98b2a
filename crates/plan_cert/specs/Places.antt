-- Promise: the first place where tables are no certificate.
use Rattle.std.specs.Prelude.{◌≡◌, ℕ, ◌+◌, List, Option, Some, None, Result, Ok, Err, is_none, position}
use Rattle.std.specs.Borrow.{Bor}
use Rattle.vdv451_text.specs.declared.table.Field.{Field}
use Rattle.vdv451_text.specs.declared.table.Table.{Table}
use Rattle.number_tables.specs.Single.{single_in}
use Rattle.plan_cert.specs.declared.fault.CertTable.{CertTable}
use Rattle.plan_cert.specs.declared.fault.Place.{Place}
use Rattle.plan_cert.specs.declared.fault.CertFault.{CertFault}
use Rattle.plan_cert.specs.declared.fault.CertFault.TheVariants.{Form, Memory}
use Rattle.plan_cert.specs.Names.{name_of}

-- what is made of an answer
infixl 10 ◌>>=◌
abbrev pub ◌>>=◌ : {A B : Type 0} → Result A Place → (A → Result B Place) → Result B Place
(Ok x) >>= f = f x
(Err e) >>= f = Err e

-- what a function answered is what reading gives, unless memory ran out
abbrev pub Gives : {A : Type 0} → Result A CertFault → Result A Place → Type 0
Gives (Ok x) read = read ≡ Ok x
Gives (Err (Form place)) read = read ≡ Err place
Gives (Err Memory) read = Unit {0}

-- the same of an answer that stands behind a reference
abbrev pub GivesTable : Result (Bor Table) CertFault → Result Table Place → Type 0
GivesTable (Ok x) read = read ≡ Ok x.now
GivesTable (Err (Form place)) read = read ≡ Err place
GivesTable (Err Memory) read = Unit {0}

abbrev pub place : CertTable → ℕ → Place
place table row = record { table = table; row = row }

abbrev pub form : CertTable → ℕ → CertFault
form table row = Form (place table row)

-- the table of a name, where it stands once
abbrev pub table_in : CertTable → List Table → Option Table
table_in t tables = single_in (name_of t) tables

-- what is there, or else the table is wrong as a whole
abbrev pub needed : {A : Type 0} → CertTable → Option A → Result A Place
needed t None = Err (place t 0)
needed t (Some x) = Ok x

-- a table stands once
abbrev pub table_of : CertTable → List Table → Result Table Place
table_of t tables = needed t (table_in t tables)

-- no row is wrong
abbrev pub no_wrong : CertTable → Option ℕ → Result (Unit {0}) Place
no_wrong t None = Ok tt
no_wrong t (Some row) = Err (place t (row + 1))

-- where the first row stands that says nothing
abbrev pub first_wrong : {A : Type 0} → (List Field → Option A) → List (List Field) → Option ℕ
first_wrong entry rows = position (λ row. is_none (entry row)) rows
