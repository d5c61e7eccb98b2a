-- Where reading stops: at the first of the five tables that is wrong as a whole, or with what the rows say.
use Rattle.std.proofs.Common.{◌≡◌, ℕ, List, [], ◌∷◌, ◌++◌, ap, ◌∙◌}
use Rattle.std.specs.Prelude.{Some, Result, Ok, Err}
use Rattle.vdv451_text.specs.declared.table.Table.{Table}
use Rattle.vdv452_rows.specs.Rows.{first}
use Rattle.day_model.specs.Facts.{DayFacts}
use Rattle.number_tables.specs.Outlines.{Place as At, whole_faults}
use Rattle.umlauf_write.specs.declared.text.PlanFault.{PlanFault}
use Rattle.umlauf_write.specs.declared.text.PlanFault.TheVariants as plan_faults
use Rattle.umlauf_write.specs.declared.text.PlanText.{PlanText}
use Rattle.umlauf_write.specs.Reading as reading
use Rattle.plan_read.specs.declared.fault.PlanTable.{PlanTable}
use Rattle.plan_read.specs.declared.fault.ReadFault.{ReadFault}
use Rattle.plan_read.specs.declared.fault.ReadFault.TheVariants.{Form, Memory}
use Rattle.plan_read.specs.Located.{FindsPair, FindsTriple, outline}
use Rattle.plan_read.specs.Places.{Gives, IsReadOf, at}
use Rattle.plan_read.specs.Reading.{FindsRows, IsNamed, read_places, wholes}
use Rattle.plan_read.proofs.Same.{fault-named, first-of, read-named, whole-read}

-- the fault is the one place of a list, and the first place of a list
abbrev pub Faults : ReadFault → List At → Type 0
Faults (Form p) ws = ws ≡ at p ∷ []
Faults Memory ws = Unit {0}

abbrev pub Stops : ReadFault → List At → Type 0
Stops (Form p) ws = first ws ≡ Some (at p)
Stops Memory ws = Unit {0}

pub pair-faults : (e : ReadFault) (t : PlanTable) (one two : List ℕ) (ts : List Table) → FindsPair (Err e) t one two ts →
    Faults e (whole_faults (outline t (one ∷ two ∷ [])) ts)
pair-faults (Form p) t one two ts finds = finds
pair-faults Memory t one two ts finds = tt

pub triple-faults : (e : ReadFault) (t : PlanTable) (one two three : List ℕ) (ts : List Table) → FindsTriple (Err e) t one two three ts →
    Faults e (whole_faults (outline t (one ∷ two ∷ three ∷ [])) ts)
triple-faults (Form p) t one two three ts finds = finds
triple-faults Memory t one two three ts finds = tt

pub stop : (e : ReadFault) (ws : List At) → Faults e ws → Stops e ws
stop (Form p) ws fault = ap (λ (l : List At). first l) fault
stop Memory ws fault = tt

pub more : (e : ReadFault) (ws after : List At) → Stops e ws → Stops e (ws ++ after)
more (Form p) ws after stops = first-of ws after (at p) stops
more Memory ws after stops = tt

pub skip : (e : ReadFault) (ws after : List At) → ws ≡ [] → Stops e after → Stops e (ws ++ after)
skip (Form p) ws after none stops = ap (λ (l : List At). first (l ++ after)) none ∙ stops
skip Memory ws after none stops = tt

pub none-both : (a b : List At) → a ≡ [] → b ≡ [] → a ++ b ≡ []
none-both a b na nb = ap (λ (l : List At). l ++ b) na ∙ nb

pub stops-rows : (e : ReadFault) (ts : List Table) → Stops e (wholes ts) → FindsRows (Err e) ts
stops-rows (Form p) ts stops = stops
stops-rows Memory ts stops = tt

-- a table that is wrong as a whole
pub whole-gives : (day : DayFacts) (e : ReadFault) (ts : List Table) → FindsRows (Err e) ts →
    Gives {A = PlanText} (Err e) (read_places day ts)
whole-gives day (Form p) ts found = whole-read day ts (at p) found
whole-gives day Memory ts found = tt

-- what is answered
pub text-read : (day : DayFacts) (ts : List Table) (text : PlanText) → Gives (Ok text) (read_places day ts) →
    IsReadOf (reading.read_of day ts) (Ok text)
text-read day ts text gives = read-named day ts text gives

pub fault-read : (day : DayFacts) (ts : List Table) (e : ReadFault) (fault : PlanFault) → IsNamed e fault →
    Gives {A = PlanText} (Err e) (read_places day ts) → IsReadOf (reading.read_of day ts) (Err fault)
fault-read day ts (Form p) (plan_faults.Form table row) is gives =
    let make : List ℕ → ℕ → Result PlanText PlanFault = λ t r. Err (plan_faults.Form t r) in
    fault-named day ts (at p) gives ∙ (ap (λ (t : List ℕ). make t p.row) is.0 ∙ ap (λ (r : ℕ). make table r) is.1)
fault-read day ts (Form p) plan_faults.Memory is gives = tt
fault-read day ts Memory (plan_faults.Form table row) is gives = absurd is
fault-read day ts Memory plan_faults.Memory is gives = tt
