-- Promise: what a run answers, from what the file holds and from the counts of faults.
use Rattle.std.specs.Prelude.{◌≡◌, ℕ, ◌⊎◌, List, ◌++◌, Option, Some, IfSome, Ok, Err}
use Rattle.plan_core.specs.Outside.{Rose}
use Rattle.vdv451_text.specs.declared.table.Table.{Table}
use Rattle.vdv451_text.specs.declared.fault.TextFault.{TextFault}
use Rattle.vdv451_text.specs.declared.fault.TextKind.{TextKind}
use Rattle.vdv451_text.specs.declared.fault.TextKind.TheVariants as kinds
use Rattle.vdv451_text.specs.Faults.{Gives, HasFault}
use Rattle.plan_rows.specs.declared.fault.RowFault.{RowFault}
use Rattle.plan_rows.specs.declared.fault.RowFault.TheVariants as charts
use Rattle.chart_page.specs.Page.{chart_of}
use Rattle.plan_chart.specs.declared.status.Status.{Status}
use Rattle.plan_chart.specs.declared.status.Status.TheVariants as statuses
use Rattle.input_files.specs.declared.transfer.ReadRefusal.{ReadRefusal}
use Rattle.input_files.specs.declared.transfer.ReadRefusal.TheVariants as refusals
use Rattle.input_files.specs.Taken.{TakesFront}

-- the bytes that a plan may have
abbrev pub most_bytes : ℕ
most_bytes = 67108864

-- the bytes spell the tables of a plan, and this is their page
pub record IsPage (bytes page : List ℕ) : Type 0 where
  pub tables : List Table
  pub spelled : Gives most_bytes bytes tables
  pub drawn : chart_of tables ≡ Ok page

-- why bytes have no page: the first fault of their text, or else the first place of their tables that is not drawn
abbrev pub IsRefusal : List ℕ → Status → Type 0
IsRefusal bytes (statuses.Text fault) = HasFault most_bytes bytes fault.line fault.kind
IsRefusal bytes (statuses.Form place) = (tables : List Table) × Gives most_bytes bytes tables × (chart_of tables ≡ Err place)
IsRefusal bytes statuses.Memory = ⊥
IsRefusal bytes statuses.Ok = ⊥
IsRefusal bytes statuses.Usage = ⊥
IsRefusal bytes statuses.ReadFault = ⊥
IsRefusal bytes statuses.WriteFault = ⊥

-- the same, or memory ran out
abbrev pub IsRefused : List ℕ → Status → Type 0
IsRefused bytes status = (status ≡ statuses.Memory) ⊎ IsRefusal bytes status

-- the whole page was added to what was taken before
pub record TakesPage (bytes : List ℕ) (taken : Option (List ℕ)) (old : List ℕ) : Type 0 where
  pub page : List ℕ
  pub is : IsPage bytes page
  pub whole : taken ≡ Some (old ++ page)

-- an initial part of it was added
pub record TakesFrontOfPage (bytes : List ℕ) (taken : Option (List ℕ)) (old : List ℕ) : Type 0 where
  pub page : List ℕ
  pub is : IsPage bytes page
  pub front : TakesFront old taken page

-- the status for a text with this fault
abbrev pub kind_status : TextFault → TextKind → Status
kind_status fault kinds.Memory = statuses.Memory
kind_status fault kinds.Keyword = statuses.Text fault
kind_status fault kinds.Order = statuses.Text fault
kind_status fault kinds.Field = statuses.Text fault
kind_status fault kinds.Count = statuses.Text fault
kind_status fault kinds.EndCount = statuses.Text fault
kind_status fault kinds.EofCount = statuses.Text fault
kind_status fault kinds.Unended = statuses.Text fault
kind_status fault kinds.TooLarge = statuses.Text fault

abbrev pub text_status : TextFault → Status
text_status fault = kind_status fault fault.kind

-- the status for tables that are not drawn
abbrev pub form_status : RowFault → Status
form_status (charts.Form place) = statuses.Form place
form_status charts.Memory = statuses.Memory

-- the status for a file that is not read
abbrev pub read_status : ReadRefusal → Status
read_status refusals.Fault = statuses.ReadFault
read_status refusals.TooLarge = statuses.Text (record { line = 0; kind = kinds.TooLarge })
read_status refusals.Memory = statuses.Memory

-- why a file has no page: what it holds, where that is told, or a count of faults that rose; running out of memory needs no cause
abbrev pub IsCause : Option (List ℕ) → ℕ → ℕ → Status → Type 0
IsCause held before now statuses.Memory = Unit {0}
IsCause held before now statuses.ReadFault = Rose before now
IsCause held before now (statuses.Text fault) = IfSome held (λ bytes. IsRefusal bytes (statuses.Text fault))
IsCause held before now (statuses.Form place) = IfSome held (λ bytes. IsRefusal bytes (statuses.Form place))
IsCause held before now statuses.Ok = ⊥
IsCause held before now statuses.Usage = ⊥
IsCause held before now statuses.WriteFault = ⊥

-- a page is written whole, or an initial part of it and then the count of faults rose
abbrev pub IsWritten : Option (List ℕ) → Option (List ℕ) → ℕ → ℕ → List ℕ → Status → Type 0
IsWritten old new before now page statuses.Ok = IfSome old (λ bytes. new ≡ Some (bytes ++ page))
IsWritten old new before now page statuses.WriteFault = IfSome old (λ bytes. TakesFront bytes new page) × Rose before now
IsWritten old new before now page statuses.Usage = ⊥
IsWritten old new before now page statuses.Memory = ⊥
IsWritten old new before now page statuses.ReadFault = ⊥
IsWritten old new before now page (statuses.Text fault) = ⊥
IsWritten old new before now page (statuses.Form place) = ⊥
