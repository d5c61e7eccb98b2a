-- Files that are read one after another.
use Rattle.std.proofs.Common.{◌≡◌, ℕ, zero, suc, ◌+◌, ◌-◌, ◌<◌, ◌≤◌, ◌⊎◌, inl, inr, List, [], ◌∷◌, ◌++◌, length, take, drop}
use Rattle.std.proofs.Common.{Option, Some, None, IfSome, All, refl, sym, ◌∙◌, ap, subst, arith, append_assoc, slice_index_or}
use Rattle.std.proofs.lemmas.List.{get_or_default, length-take-le, take_all}
use Rattle.std.proofs.lemmas.List.Elements.{All-append, All-cons, All-nil}
use Rattle.std.proofs.lemmas.Bool.{cases_lt}
use Rattle.std.specs.Option.{option_map, option_and_then}
use Rattle.plan_core.specs.Outside.{Rose}
use Rattle.vdv451_text.specs.declared.table.Table.{Table}
use Rattle.vdv451_text.specs.declared.fault.TextKind.{TextKind}
use Rattle.vdv451_text.specs.Faults.{Gives, HasFault}
use Rattle.input_files.specs.declared.fault.FileFault.{FileFault}
use Rattle.input_files.specs.declared.fault.FileFault.TheVariants as faults
use Rattle.input_files.specs.declared.stage.Stage.{Stage}
use Rattle.input_files.specs.Inputs.{HasTextFault, IsFileCause, IsReadFault, IsUnread, SpellTables, held_under, refused_text}
use Rattle.input_files.specs.Stages.{room, next_stage}

-- What is read of the first i files, of which the first is of the stage `begin`, and the next one of the stage `stage`: what the other
-- files spell completes it to what all spell, and each fault of text in the other files is the first fault of all, and back.
pub record IsReadSo (begin : Stage) (contents : List (List ℕ)) (i : ℕ) (stage : Stage) (parts : List (List Table)) : Type 0 where
  pub forth : (more : List (List Table)) → SpellTables stage (drop i contents) more → SpellTables begin contents (parts ++ more)
  pub back :
      (all : List (List Table)) → SpellTables begin contents all →
      (more : List (List Table)) × SpellTables stage (drop i contents) more × (all ≡ parts ++ more)
  pub fault_forth :
      (file line : ℕ) (kind : TextKind) →
      HasTextFault stage (i + 1) (drop i contents) file line kind → HasTextFault begin 1 contents file line kind
  pub fault_back :
      (file line : ℕ) (kind : TextKind) →
      HasTextFault begin 1 contents file line kind → HasTextFault stage (i + 1) (drop i contents) file line kind

-- Before the first file nothing is read and all files are left, so both directions are the identity. The loop of `read_files` begins
-- here, `more_so` takes it over one file, and `whole_so`, `only_so`, `none_wrong`, `fault_so`, `refused_only` and `refused_exact` read
-- the clauses of the contract off the four fields. Each field is said of ALL tables or faults of what is left, so the loop needs to
-- know nothing of later files.
pub none_so : (begin : Stage) (contents : List (List ℕ)) → IsReadSo begin contents 0 begin []
none_so begin contents = record {
  forth = λ more spell. spell;
  back = λ all spell. (all, spell, refl);
  fault_forth = λ file line kind fault. fault;
  fault_back = λ file line kind fault. fault;
}

-- what one file gives, and nothing else
pub record IsGiven (stage : Stage) (bytes : List ℕ) (first : List Table) : Type 0 where
  pub gives : Gives (room stage) bytes first
  pub only : (tables : List Table) → Gives (room stage) bytes tables → first ≡ tables
  pub none : (line : ℕ) (kind : TextKind) → ¬ HasFault (room stage) bytes line kind

-- One more file is read. Its tables are the next part of whatever all files spell, since it gives no others; and as its text has no
-- fault, the first fault of all is that of the files behind it. The stage behind it is that of as many bytes as the file holds, so what
-- the other files may have is counted from what is held, and not from what was asked for.
-- The proof puts the file's tables before those of the others and asks the field of one file less (`forth`), or cuts the first part
-- off what is left and knows it by `only` (`back`); faults go the same two ways.
pub more_so :
    (begin : Stage) (contents : List (List ℕ)) (i : ℕ) (stage : Stage) (parts : List (List Table)) (first : List Table) (bytes : List ℕ) →
    drop i contents ≡ bytes ∷ drop (i + 1) contents → IsGiven stage bytes first → IsReadSo begin contents i stage parts →
    IsReadSo begin contents (i + 1) (next_stage stage (length bytes)) (parts ++ first ∷ [])
more_so begin contents i stage parts first bytes at given so = record {
  forth = λ more spell.
      let P : List (List ℕ) → Type 0 = λ files. SpellTables stage files (first ∷ more) in
      let whole : SpellTables stage (drop i contents) (first ∷ more) = subst P (sym at) (first, more, given.gives, spell, refl) in
      let Q : List (List Table) → Type 0 = λ all. SpellTables begin contents all in
      subst Q (sym (append_assoc parts (first ∷ []) more)) (so.forth (first ∷ more) whole);
  back = λ all spell.
      let b = so.back all spell in
      let P : List (List ℕ) → Type 0 = λ files. SpellTables stage files b.0 in
      let cut = subst P at b.1 in
      let same : first ≡ cut.0 = given.only cut.0 cut.2 in
      let whole : b.0 ≡ first ∷ cut.1 = cut.4 ∙ ap (λ (t : List Table). t ∷ cut.1) (sym same) in
      (cut.1, cut.3, b.2 ∙ ap (λ (t : List (List Table)). parts ++ t) whole ∙ sym (append_assoc parts (first ∷ []) cut.1));
  fault_forth = λ file line kind fault.
      let P : List (List ℕ) → Type 0 = λ files. HasTextFault stage (i + 1) files file line kind in
      so.fault_forth file line kind (subst P (sym at) (inr (first, given.gives, fault)));
  fault_back = λ file line kind fault.
      let P : List (List ℕ) → Type 0 = λ files. HasTextFault stage (i + 1) files file line kind in
      elim (subst P at (so.fault_back file line kind fault)) [
        | inl now ↦ absurd (given.none line kind now.1)
        | inr later ↦ later.2
      ];
}

-- the first of the names, and the others
held_first :
    (held : List ℕ → Option (List ℕ)) (name : List ℕ) (names contents : List (List ℕ)) →
    held_under held (name ∷ names) ≡ Some contents →
    (bytes : List ℕ) × (more : List (List ℕ)) × (held name ≡ Some bytes) × (held_under held names ≡ Some more) × (contents ≡ bytes ∷ more)
held_first held name names contents told =
    let Goal : Option (List ℕ) → Option (List (List ℕ)) → Type 0 = λ first rest.
    option_and_then (λ (bytes : List ℕ). option_map (λ (more : List (List ℕ)). bytes ∷ more) rest) first ≡ Some contents →
    (bytes : List ℕ) × (more : List (List ℕ)) × (first ≡ Some bytes) × (rest ≡ Some more) × (contents ≡ bytes ∷ more) in
    let split : (first : Option (List ℕ)) (rest : Option (List (List ℕ))) → Goal first rest =
    λ first rest. elim first as (λ f. Goal f rest) [
      | None ↦ λ e. cc
      | Some bytes ↦ elim rest as (λ r. Goal (Some bytes) r) [
        | None ↦ λ e. cc
        | Some more ↦ λ e. (bytes, more, refl, refl, cc)
      ]
    ] in split (held name) (held_under held names) told

-- what is held under the name at a place
held_place :
    (held : List ℕ → Option (List ℕ)) (names contents : List (List ℕ)) (i : ℕ) (d : List ℕ) →
    held_under held names ≡ Some contents → i < length names →
    (bytes : List ℕ) × (held (slice_index_or names i d) ≡ Some bytes) × (drop i contents ≡ bytes ∷ drop (suc i) contents)
held_place held [] contents i d told within = absurd (omega (arith, within))
held_place held (name ∷ names) contents zero d told within =
    let f = held_first held name names contents told in
    let P : List (List ℕ) → Type 0 = λ c. drop 0 c ≡ f.0 ∷ drop (suc 0) c in
    (f.0, f.2, subst P (sym f.4) refl)
held_place held (name ∷ names) contents (suc i) d told within =
    let f = held_first held name names contents told in
    let rest = held_place held names f.1 i d f.3 (omega (arith, within)) in
    let P : List (List ℕ) → Type 0 = λ c. drop (suc i) c ≡ rest.0 ∷ drop (suc (suc i)) c in
    (rest.0, rest.1, subst P (sym f.4) rest.2)

-- Where the bytes under all names are told, what is left after i files begins with the bytes under the name at place i: names and
-- contents are walked together, since all are told only where the first is and the others are (`held_first`). A read changes nothing
-- that is held, so what reading one file answers, in terms of its name and of the files as they are by then, is said of the next of
-- `contents`, as `more_so` asks.
held_at :
    (held now : List ℕ → Option (List ℕ)) (names contents : List (List ℕ)) (i : ℕ) (name : List ℕ) →
    ((other : List ℕ) → now other ≡ held other) → name ≡ slice_index_or names i name → held_under held names ≡ Some contents →
    i < length names → (bytes : List ℕ) × (now name ≡ Some bytes) × (drop i contents ≡ bytes ∷ drop (i + 1) contents)
held_at held now names contents i name same is told within =
    let at = held_place held names contents i name told within in
    let next : suc i ≡ i + 1 = omega arith in
    (at.0, same name ∙ ap held is ∙ at.1, at.2 ∙ ap (λ k. at.0 ∷ drop k contents) next)

-- as many contents as names
pub all_held :
    (held : List ℕ → Option (List ℕ)) (names contents : List (List ℕ)) → held_under held names ≡ Some contents →
    drop (length names) contents ≡ []
all_held held [] contents told = let e : contents ≡ [] = cc in rw e refl
all_held held (name ∷ names) contents told =
    let f = held_first held name names contents told in
    let P : List (List ℕ) → Type 0 = λ c. drop (length (name ∷ names)) c ≡ [] in
    subst P (sym f.4) (all_held held names f.1 f.3)

-- a cause in other words
pub cause_on :
    (T U : ℕ → ℕ → TextKind → Type 0) (R S : ℕ → Type 0) (fault : FileFault) →
    ((file line : ℕ) (kind : TextKind) → T file line kind → U file line kind) → ((file : ℕ) → R file → S file) →
    IsFileCause T R fault → IsFileCause U S fault
cause_on T U R S faults.Memory text read cause = tt
cause_on T U R S (faults.Read file) text read cause = read file cause
cause_on T U R S (faults.Text file fault) text read cause = text file fault.line fault.kind cause

-- a fact for each told content
pub if_told : {A : Type 0} (o : Option A) (P : A → Type 0) → ((x : A) → o ≡ Some x → P x) → IfSome o P
if_told None P all = tt
if_told (Some x) P all = all x refl

-- a fact of a told content
pub of_told : {A : Type 0} (o : Option A) (P : A → Type 0) (x : A) → o ≡ Some x → IfSome o P → P x
of_told {A = A} o P x e all = let Q : Option A → Type 0 = λ o. IfSome o P in let p : Q (Some x) = subst Q e all in p

append_nil : (xs : List (List Table)) → xs ++ [] ≡ xs
append_nil [] = refl
append_nil (x ∷ xs) = ap (λ (t : List (List Table)). x ∷ t) (append_nil xs)

-- At the end no file is left, and no files spell no tables; so by `forth` the tables read are what all files spell. This is the clause
-- `found` of `read_files`.
pub whole_so :
    (begin : Stage) (contents : List (List ℕ)) (i : ℕ) (stage : Stage) (parts : List (List Table)) → drop i contents ≡ [] →
    IsReadSo begin contents i stage parts → SpellTables begin contents parts
whole_so begin contents i stage parts ended so =
    let P : List (List ℕ) → Type 0 = λ files. SpellTables stage files [] in
    let Q : List (List Table) → Type 0 = λ all. SpellTables begin contents all in
    subst Q (append_nil parts) (so.forth [] (subst P (sym ended) refl))

-- Whatever tables all files spell, they are those read and then what no files spell (`back`), which is nothing. So there are no
-- others: the clause `only` of `read_files`, from which callers have that a command's answer rests on one reading of its files.
pub only_so :
    (begin : Stage) (contents : List (List ℕ)) (i : ℕ) (stage : Stage) (parts all : List (List Table)) → drop i contents ≡ [] →
    IsReadSo begin contents i stage parts → SpellTables begin contents all → parts ≡ all
only_so begin contents i stage parts all ended so spell =
    let b = so.back all spell in
    let P : List (List ℕ) → Type 0 = λ files. SpellTables stage files b.0 in
    let none : b.0 ≡ [] = subst P ended b.1 in
    sym (b.2 ∙ ap (λ (t : List (List Table)). parts ++ t) none ∙ append_nil parts)

-- A first fault of text in all files would be one in those that are left (`fault_back`), and none is left. So where every file was
-- read, no fault of text is there to be answered: the clause `exact` of `read_files` with tables as the answer.
none_wrong :
    (begin : Stage) (contents : List (List ℕ)) (i : ℕ) (stage : Stage) (parts : List (List Table)) (file line : ℕ) (kind : TextKind) →
    drop i contents ≡ [] → IsReadSo begin contents i stage parts → ¬ HasTextFault begin 1 contents file line kind
none_wrong begin contents i stage parts file line kind ended so = λ fault.
    let P : List (List ℕ) → Type 0 = λ files. HasTextFault stage (i + 1) files file line kind in
    subst P ended (so.fault_back file line kind fault)

-- A file is refused: its fault is the first one of the files that are left, since these begin with it, and so the first of all
-- (`fault_forth`). The files before it are right, which `HasTextFault` asks; those behind it are not looked at. This is the clause
-- `cause` of `read_files` for a fault of text.
pub fault_so :
    (begin : Stage) (contents : List (List ℕ)) (i : ℕ) (stage : Stage) (parts : List (List Table)) (bytes : List ℕ) (line : ℕ)
    (kind : TextKind) → drop i contents ≡ bytes ∷ drop (i + 1) contents → IsReadSo begin contents i stage parts →
    HasFault (room stage) bytes line kind → HasTextFault begin 1 contents (i + 1) line kind
fault_so begin contents i stage parts bytes line kind at so fault =
    let P : List (List ℕ) → Type 0 = λ files. HasTextFault stage (i + 1) files (i + 1) line kind in
    so.fault_forth (i + 1) line kind (subst P (sym at) (inl (refl, fault)))

-- If this file gives tables only where A holds, all files spell tables only where A holds: what they all spell has, behind the parts
-- read, a part that this file gives (`back`). Where A says that memory ran out or a read failed, this is the clause `only` of
-- `read_files` at a refusal.
pub refused_only :
    (begin : Stage) (contents : List (List ℕ)) (i : ℕ) (stage : Stage) (parts all : List (List Table)) (bytes : List ℕ) (A : Type 0) →
    drop i contents ≡ bytes ∷ drop (i + 1) contents → IsReadSo begin contents i stage parts →
    ((given : List Table) → Gives (room stage) bytes given → A) → SpellTables begin contents all → A
refused_only begin contents i stage parts all bytes A at so only spell =
    let b = so.back all spell in
    let P : List (List ℕ) → Type 0 = λ files. SpellTables stage files b.0 in
    let cut = subst P at b.1 in
    only cut.0 cut.2

-- A file is refused, and its own answer is exact. Where the first fault of all is said to be in it, the answer is that fault; where it
-- is said to be in a later file, this one would give tables, and then it is refused for running out of memory or a failed read alone. So no
-- later file takes anything away from the answer.
-- The proof takes the fault of all back to the files that are left (`fault_back`) and looks in which of these two ways it is one
-- there.
pub refused_exact :
    (begin : Stage) (contents : List (List ℕ)) (i : ℕ) (stage : Stage) (parts : List (List Table)) (bytes : List ℕ) (file line : ℕ)
    (kind : TextKind) (answer : FileFault) → drop i contents ≡ bytes ∷ drop (i + 1) contents → IsReadSo begin contents i stage parts →
    ((given : List Table) → Gives (room stage) bytes given → IsUnread answer) →
    (HasFault (room stage) bytes line kind → IsUnread answer ⊎ (answer ≡ refused_text (i + 1) line kind)) →
    HasTextFault begin 1 contents file line kind → IsUnread answer ⊎ (answer ≡ refused_text file line kind)
refused_exact begin contents i stage parts bytes file line kind answer at so only exact fault =
    let P : List (List ℕ) → Type 0 = λ files. HasTextFault stage (i + 1) files file line kind in
    elim (subst P at (so.fault_back file line kind fault)) [
      | inl now ↦ rw now.0 (exact now.1)
      | inr later ↦ inl (only later.0 later.1)
    ]

-- a file that gave its tables
given_so :
    (now : List ℕ → Option (List ℕ)) (name bytes : List ℕ) (stage : Stage) (size : ℕ) (first : List Table) → now name ≡ Some bytes →
    IfSome (now name) (λ h. (size ≡ length h) × Gives (room stage) h first) →
    ((tables : List Table) → IfSome (now name) (λ h. Gives (room stage) h tables → first ≡ tables)) →
    ((line : ℕ) (kind : TextKind) → IfSome (now name) (λ h. HasFault (room stage) h line kind → ⊥)) →
    (size ≡ length bytes) × IsGiven stage bytes first
given_so now name bytes stage size first told found only exact =
    let f = of_told (now name) (λ h. (size ≡ length h) × Gives (room stage) h first) bytes told found in (
      f.0,
      record {
        gives = f.1;
        only = λ tables. of_told (now name) (λ h. Gives (room stage) h tables → first ≡ tables) bytes told (only tables);
        none = λ line kind. of_told (now name) (λ h. HasFault (room stage) h line kind → ⊥) bytes told (exact line kind);
      },
    )

-- a read that failed later than at the start
rose_since : (before between now : ℕ) → before ≤ between → Rose between now → Rose before now
rose_since before between now h rose = omega (arith, h, rose)

-- A failed read of the file at place i is one of file i + 1: until then no count moved, so the count of its name rose in this call; and
-- the files before it were read whole, so as far as they are told they spell tables, also where some of them alone are told. This is
-- the `order` of a failed read.
pub failed_read :
    (begin : Stage) (held : List ℕ → Option (List ℕ)) (before between now : List ℕ → ℕ) (names : List (List ℕ)) (i file : ℕ)
    (name : List ℕ) → name ≡ slice_index_or names i name → i < length names → ((other : List ℕ) → before other ≤ between other) →
    ((count : ℕ) (contents : List (List ℕ)) → held_under held (take count names) ≡ Some contents → count ≤ i →
    (all : List (List Table)) × SpellTables begin contents all) →
    (file ≡ i + 1) × Rose (between name) (now name) → IsReadFault begin held names before now file
failed_read begin held before between now names i file name is within later spelled (at, rose) =
    let same : slice_index_or names (file - 1) [] ≡ name =
    ap (λ k. slice_index_or names k []) (omega (arith, at)) ∙ get_or_default names i [] name within ∙ sym is in
    record {
      first = omega (arith, at);
      last = omega (arith, at, within);
      rose = rw same (rose_since (before name) (between name) (now name) (later name) rose);
      order = λ count few.
          if_told (held_under held (take count names)) (λ contents. (all : List (List Table)) × SpellTables begin contents all)
          (λ contents told. spelled count contents told (omega (arith, at, few)));
    }

-- the name at a place is among the first names
place_of_first :
    (names : List (List ℕ)) (count i : ℕ) (d : List ℕ) → i < count → i < length names →
    (slice_index_or (take count names) i d ≡ slice_index_or names i d) × (i < length (take count names))
place_of_first [] count i d few within = absurd (omega (arith, within))
place_of_first (name ∷ names) zero i d few within = absurd (omega (arith, few))
place_of_first (name ∷ names) (suc count) zero d few within = (refl, omega arith)
place_of_first (name ∷ names) (suc count) (suc i) d few within =
    let rest = place_of_first names count i d (omega (arith, few)) (omega (arith, within)) in
    let more = rest.1 in
    (rest.0, omega (arith, more))

-- files that spell tables, and have no fault of text
pub record AreRight (begin : Stage) (contents : List (List ℕ)) : Type 0 where
  pub all : List (List Table)
  pub spell : SpellTables begin contents all
  pub none : (file line : ℕ) (kind : TextKind) → ¬ HasTextFault begin 1 contents file line kind

right_so :
    (begin : Stage) (contents : List (List ℕ)) (i : ℕ) (stage : Stage) (parts : List (List Table)) → drop i contents ≡ [] →
    IsReadSo begin contents i stage parts → AreRight begin contents
right_so begin contents i stage parts ended so = record {
  all = parts;
  spell = whole_so begin contents i stage parts ended so;
  none = λ file line kind. none_wrong begin contents i stage parts file line kind ended so;
}

-- What is read of the first i files, beside what the first `count` of them hold: these are being read, or they are right. So it is
-- known of each initial part of the names by itself, and names behind that part may hide what they hold.
-- The contract says of a fault in file n that it is one of the first n files, whatever is held under later names, and these may not be
-- told. So `IsReadSo` for all names at once would be too weak an invariant: the loop keeps this record for EVERY count; `right`
-- answers for the counts that it has passed.
pub record IsReadTo (begin : Stage) (contents : List (List ℕ)) (count i : ℕ) (stage : Stage) (parts : List (List Table)) : Type 0 where
  pub so : i ≤ count → IsReadSo begin contents i stage parts
  pub right : count ≤ i → AreRight begin contents

pub none_to :
    (begin : Stage) (held : List ℕ → Option (List ℕ)) (names contents : List (List ℕ)) (count : ℕ) →
    held_under held (take count names) ≡ Some contents → IsReadTo begin contents count 0 begin []
none_to begin held names contents count told = record {
  so = λ few. none_so begin contents;
  right = λ few.
      let none : count ≡ 0 = omega (arith, few) in
      let P : ℕ → Type 0 = λ k. held_under held (take k names) ≡ Some contents in
      let told_none : Some [] ≡ Some contents = subst P none told in
      let empty : contents ≡ [] = cc in
      let Q : List (List ℕ) → Type 0 = λ c. AreRight begin c in
      subst Q (sym empty) (record { all = []; spell = refl; none = λ file line kind fault. fault });
}

-- of the first names one is at a place
pub held_to :
    (held now : List ℕ → Option (List ℕ)) (names contents : List (List ℕ)) (count i : ℕ) (name : List ℕ) →
    ((other : List ℕ) → now other ≡ held other) → name ≡ slice_index_or names i name →
    held_under held (take count names) ≡ Some contents → i < count → i < length names →
    (bytes : List ℕ) × (now name ≡ Some bytes) × (drop i contents ≡ bytes ∷ drop (i + 1) contents)
held_to held now names contents count i name same is told few within =
    let at = place_of_first names count i name few within in
    held_at held now (take count names) contents i name same (is ∙ sym at.0) told at.1

ended_to :
    (held : List ℕ → Option (List ℕ)) (names contents : List (List ℕ)) (count : ℕ) → held_under held (take count names) ≡ Some contents →
    count ≤ length names → drop count contents ≡ []
ended_to held names contents count told few =
    let all = all_held held (take count names) contents told in
    let P : ℕ → Type 0 = λ k. drop k contents ≡ [] in
    subst P (length-take-le count names few) all

-- One more file is read, beside each initial part of the names. An initial part that ends with this file is right from here on; a shorter
-- one was right before; for a longer one the file's bytes are those held at its place.
-- So the step from `so` to `right` is made once for each count, where nothing of that initial part is left (`right_so`).
pub next_to :
    (begin : Stage) (held now : List ℕ → Option (List ℕ)) (names contents : List (List ℕ)) (count i : ℕ) (stage next : Stage) (size : ℕ)
    (name : List ℕ) (parts : List (List Table)) (first : List Table) →
    ((other : List ℕ) → now other ≡ held other) → name ≡ slice_index_or names i name → i < length names →
    IfSome (now name) (λ h. (size ≡ length h) × Gives (room stage) h first) →
    ((tables : List Table) → IfSome (now name) (λ h. Gives (room stage) h tables → first ≡ tables)) →
    ((line : ℕ) (kind : TextKind) → IfSome (now name) (λ h. HasFault (room stage) h line kind → ⊥)) → next ≡ next_stage stage size →
    held_under held (take count names) ≡ Some contents → IsReadTo begin contents count i stage parts →
    IsReadTo begin contents count (i + 1) next (parts ++ first ∷ [])
next_to begin held now names contents count i stage next size name parts first same is within found only exact behind told to =
    let so : i + 1 ≤ count → IsReadSo begin contents (i + 1) next (parts ++ first ∷ []) = λ few.
    let at = held_to held now names contents count i name same is told (omega (arith, few)) within in
    let given = given_so now name at.0 stage size first at.1 found only exact in
    let stage_is : next ≡ next_stage stage (length at.0) = behind ∙ ap (next_stage stage) given.0 in
    rw stage_is (more_so begin contents i stage parts first at.0 at.2 given.1 (to.so (omega (arith, few)))) in
    record {
      so = so;
      right = λ few. elim (cases_lt i count) [
        | inl more ↦
            let end : count ≡ i + 1 = omega (arith, few, more) in
            let P : ℕ → Type 0 = λ k. drop k contents ≡ [] in
            let ended : drop (i + 1) contents ≡ [] = subst P end (ended_to held names contents count told (omega (arith, end, within))) in
            right_so begin contents (i + 1) next (parts ++ first ∷ []) ended (so (omega (arith, more)))
        | inr before ↦ to.right before
      ];
    }

pub told_whole :
    (held : List ℕ → Option (List ℕ)) (names contents : List (List ℕ)) → held_under held names ≡ Some contents →
    held_under held (take (length names) names) ≡ Some contents
told_whole held names contents told =
    let P : List (List ℕ) → Type 0 = λ ns. held_under held ns ≡ Some contents in
    subst P (sym (take_all (length names) names (omega arith))) told

-- At the end of the names the initial part with all of them is the whole, so what the loop has kept for every count gives, for that
-- one, what `whole_so` and `only_so` start from.
pub whole_to :
    (begin : Stage) (held : List ℕ → Option (List ℕ)) (names contents : List (List ℕ)) (stage : Stage) (parts : List (List Table)) →
    ((count : ℕ) (contents : List (List ℕ)) → held_under held (take count names) ≡ Some contents →
    IsReadTo begin contents count (length names) stage parts) →
    held_under held names ≡ Some contents → IsReadSo begin contents (length names) stage parts
whole_to begin held names contents stage parts to told =
    (to (length names) contents (told_whole held names contents told)).so (omega arith)

-- At the end of the names no initial part has a fault of text. One that was passed is right; one with at least as many names as there
-- are is all of them, and their files were all read (`none_wrong`). So where tables are answered the clause `exact` holds for every
-- number of a file, also for one above the number of the names.
pub right_to :
    (begin : Stage) (held : List ℕ → Option (List ℕ)) (names contents : List (List ℕ)) (count : ℕ) (stage : Stage)
    (parts : List (List Table)) (file line : ℕ) (kind : TextKind) →
    ((count : ℕ) (contents : List (List ℕ)) → held_under held (take count names) ≡ Some contents →
    IsReadTo begin contents count (length names) stage parts) →
    held_under held (take count names) ≡ Some contents → HasTextFault begin 1 contents file line kind → ⊥
right_to begin held names contents count stage parts file line kind to told fault = elim (cases_lt (length names) count) [
  | inl more ↦
      let P : List (List ℕ) → Type 0 = λ ns. held_under held ns ≡ Some contents in
      let told_all : held_under held names ≡ Some contents = subst P (take_all count names (omega (arith, more))) told in
      let so = (to count contents told).so (omega (arith, more)) in
      none_wrong begin contents (length names) stage parts file line kind (all_held held names contents told_all) so fault
  | inr few ↦ ((to count contents told).right few).none file line kind fault
]

-- a fact of each part, and of one more
pub all_more : {A : Type 0} (P : A → Type 0) (xs : List A) (x : A) → All P xs → P x → All P (xs ++ x ∷ [])
all_more P xs x all one = All-append P xs (x ∷ []) all (All-cons P x [] one (All-nil P))
