use Rattle.std.proofs.Common.{◌≡◌, ◌+◌, ◌<◌, ◌^◌, ◌⊎◌, ◌∷◌, [], ℕ, List, Some, Err, inl, inr, length, take, slice_index_or}
use Rattle.std.proofs.Common.{IsTrue, All, refl, sym, subst, ap, ◌∙◌, arith, length-append}
use Rattle.std.proofs.lemmas.Bool.{cases_lt}
use Rattle.vdv451_text.specs.declared.table.Table.{Table}
use Rattle.vdv451_text.specs.Faults.{Gives, HasFault}
use Rattle.vdv451_text.specs.Plain.{are_plain}
use Rattle.input_files.specs.Inputs.{HasTextFault, IsUnread, SpellTables, held_under, refused_text}
use Rattle.input_files.specs.Stages.{room}
use Rattle.input_files.proofs.FileLemmas.{err_same}
use Rattle.input_files.proofs.InputLemmas.{IsReadTo, all_held, all_more, cause_on, failed_read, fault_so, held_to, if_told, next_to, none_to, of_told, only_so, refused_exact, refused_only, right_to, told_whole, whole_so, whole_to}
use Rattle.input_files.proofs.inputs.read_files.Goals as goal

pub loop-place-init : goal.loop-place-init
loop-place-init g c =
    let held = g.F.Files.held c.args.files.now in
    record {
      sound = c.requires.stage;
      plain = rw c.new-parts.ensures (λ k d within. absurd (omega (arith, within)));
      sized = rw c.new-parts.ensures (λ k d within. absurd (omega (arith, within)));
      number = rw c.new-parts.ensures refl;
      quiet = λ other. refl;
      same = λ other. refl;
      to = λ count contents told. rw c.new-parts.ensures (none_to c.args.stage held c.args.names.now contents count told);
    }

pub read_spelled-requires : goal.read_spelled-requires
read_spelled-requires g c = c.room.ensures.bound c.loop-place.invariant.sound

pub loop-place-preserved : goal.loop-place-preserved
loop-place-preserved g c =
    let first = c.in-Ok.field-0.tables in
    let parts = c.loop-place.parts in
    let held = g.F.Files.held c.args.files.now in
    let now = g.F.Files.held c.loop-place.files in
    let names = c.args.names.now in
    let name = c.as_slice.result.now in
    let place = c.loop-place.place in
    let stage = c.loop-place.next in
    let most : c.room.result ≡ room stage = c.room.ensures.bytes in
    let all = c.in_ok-add_part-in-Ok.ensures.ok in
    let number = c.loop-place.invariant.number in
    record {
      sound = c.after-next.ensures.stage c.loop-place.invariant.sound;
      plain = rw all (all_more (λ tables. IsTrue (are_plain tables)) parts first c.loop-place.invariant.plain c.in-Ok.ensures.plain);
      sized = rw all (all_more (λ (tables : List Table). All (λ table. length table.rows < 2 ^ 32) tables) parts first
          c.loop-place.invariant.sized c.in-Ok.ensures.sized);
      number = rw all (omega (arith, number, length-append parts (first ∷ [])));
      quiet = λ other. c.in-Ok.ensures.still (λ file bad. cc) other ∙ c.loop-place.invariant.quiet other;
      same = λ other. c.in-Ok.ensures.same other ∙ c.loop-place.invariant.same other;
      to = λ count contents told.
          let is : name ≡ slice_index_or names place name = cc in
          rw all (next_to c.args.stage held now names contents count place stage c.after-next.result c.in-Ok.field-0.length name parts first
          c.loop-place.invariant.same is c.loop-place-test.true (rw most at c.in-Ok.ensures.found)
          (λ tables. rw most at (c.in-Ok.ensures.only tables)) (λ line kind. rw most at (c.in-Ok.ensures.exact line kind))
          c.after-next.ensures.next told (c.loop-place.invariant.to count contents told));
    }

pub returns-in-Err-clause-only : goal.returns-in-Err-clause-only
returns-in-Err-clause-only g c = λ parts.
    let held = g.F.Files.held c.args.files.now in
    let now = g.F.Files.held c.loop-place.files in
    let names = c.args.names.now in
    let name = c.as_slice.result.now in
    let place = c.loop-place.place in
    let stage = c.loop-place.next in
    let most : c.room.result ≡ room stage = c.room.ensures.bytes in
    if_told (held_under held names) (λ contents. SpellTables c.args.stage contents parts → IsUnread c.in-Err.fault) (λ contents told spell.
    let is : name ≡ slice_index_or names place name = cc in
    let whole = told_whole held names contents told in
    let within = c.loop-place-test.true in
    let at = held_to held now names contents (length names) place name c.loop-place.invariant.same is whole within within in
    refused_only c.args.stage contents place stage c.loop-place.parts parts at.0 (IsUnread c.in-Err.fault) at.2
    ((c.loop-place.invariant.to (length names) contents whole).so (omega (arith, c.loop-place-test.true)))
    (λ given. of_told _ (λ h. Gives (room stage) h given → IsUnread c.in-Err.fault) at.0 at.1 (rw most at (c.in-Err.ensures.only given)))
    spell)

pub returns-in-Err-clause-exact : goal.returns-in-Err-clause-exact
returns-in-Err-clause-exact g c = λ file line kind.
    let held = g.F.Files.held c.args.files.now in
    let now = g.F.Files.held c.loop-place.files in
    let names = c.args.names.now in
    let name = c.as_slice.result.now in
    let place = c.loop-place.place in
    let stage = c.loop-place.next in
    let most : c.room.result ≡ room stage = c.room.ensures.bytes in
    if_told (held_under held (take file names))
    (λ contents. HasTextFault c.args.stage 1 contents file line kind →
    IsUnread c.in-Err.fault ⊎ (c.in-Err.fault ≡ refused_text file line kind))
    (λ contents told fault.
    let is : name ≡ slice_index_or names place name = cc in
    let to = c.loop-place.invariant.to file contents told in
    elim (cases_lt place file) [
      | inl more ↦
          let at = held_to held now names contents file place name c.loop-place.invariant.same is told more c.loop-place-test.true in
          let now_only = λ (given : List Table).
          of_told _ (λ h. Gives (room stage) h given → IsUnread c.in-Err.fault) at.0 at.1 (rw most at (c.in-Err.ensures.only given)) in
          let now_exact = of_told _
          (λ h. HasFault (room stage) h line kind → IsUnread c.in-Err.fault ⊎ (c.in-Err.fault ≡ refused_text (place + 1) line kind))
          at.0 at.1 (rw most at (c.in-Err.ensures.exact line kind)) in
          refused_exact c.args.stage contents place stage c.loop-place.parts at.0 file line kind c.in-Err.fault at.2
          (to.so (omega (arith, more))) now_only now_exact fault
      | inr few ↦ absurd ((to.right few).none file line kind fault)
    ])

pub returns-in-Err-clause-cause : goal.returns-in-Err-clause-cause
returns-in-Err-clause-cause g c =
    let held = g.F.Files.held c.args.files.now in
    let now = g.F.Files.held c.loop-place.files in
    let names = c.args.names.now in
    let name = c.as_slice.result.now in
    let place = c.loop-place.place in
    let stage = c.loop-place.next in
    let most : c.room.result ≡ room stage = c.room.ensures.bytes in
    let is : name ≡ slice_index_or names place name = cc in
    cause_on _ _ _ _ c.in-Err.fault
    (λ file line kind wrong.
    if_told (held_under held (take file names)) (λ contents. HasTextFault c.args.stage 1 contents file line kind) (λ contents told.
    let few : place < file = omega (arith, wrong.0) in
    let at = held_to held now names contents file place name c.loop-place.invariant.same is told few c.loop-place-test.true in
    let so = (c.loop-place.invariant.to file contents told).so (omega (arith, wrong.0)) in
    let P : ℕ → Type 0 = λ k. HasTextFault c.args.stage 1 contents k line kind in
    let there = rw most at wrong.1 in
    subst P (sym wrong.0) (fault_so c.args.stage contents place stage c.loop-place.parts at.0 line kind at.2 so
    (of_told _ (λ h. HasFault (room stage) h line kind) at.0 at.1 there))))
    (λ file rose. failed_read c.args.stage held (g.F.Files.faults c.args.files.now) (g.F.Files.faults c.loop-place.files) _ names place file
    name is c.loop-place-test.true (λ other. let quiet = c.loop-place.invariant.quiet other in omega (arith, quiet))
    (λ count contents told few. let right = (c.loop-place.invariant.to count contents told).right few in (right.all, right.spell)) rose)
    c.in-Err.ensures.cause

pub returns-in-Err-clause-still : goal.returns-in-Err-clause-still
returns-in-Err-clause-still g c = λ none other.
    c.in-Err.ensures.still (λ file bad. none file (ap (λ s. Err s) (err_same _ _ _ refl bad))) other ∙ c.loop-place.invariant.quiet other

pub returns-in-Err-clause-later : goal.returns-in-Err-clause-later
returns-in-Err-clause-later g c = λ other.
    let quiet = c.loop-place.invariant.quiet other in
    let later = c.in-Err.ensures.later other in
    omega (arith, quiet, later)

pub returns-clause-found : goal.returns-clause-found
returns-clause-found g c =
    let held = g.F.Files.held c.args.files.now in
    let names = c.args.names.now in
    if_told (held_under held names) _ (λ contents told.
    let all : c.loop-place.place ≡ length names = omega (arith, c.loop-place.auto.place-end, c.loop-place-test.false) in
    let P : ℕ → Type 0 = λ k. (count : ℕ) (contents : List (List ℕ)) → held_under held (take count names) ≡ Some contents →
    IsReadTo c.args.stage contents count k c.loop-place.next c.loop-place.parts in
    whole_so c.args.stage contents (length names) c.loop-place.next _ (all_held _ names contents told)
    (whole_to c.args.stage held names contents c.loop-place.next c.loop-place.parts (subst P all c.loop-place.invariant.to) told))

pub returns-clause-only : goal.returns-clause-only
returns-clause-only g c = λ parts.
    let held = g.F.Files.held c.args.files.now in
    let names = c.args.names.now in
    if_told (held_under held names) (λ contents. SpellTables c.args.stage contents parts → c.loop-place.parts ≡ parts)
    (λ contents told spell.
    let all : c.loop-place.place ≡ length names = omega (arith, c.loop-place.auto.place-end, c.loop-place-test.false) in
    let P : ℕ → Type 0 = λ k. (count : ℕ) (contents : List (List ℕ)) → held_under held (take count names) ≡ Some contents →
    IsReadTo c.args.stage contents count k c.loop-place.next c.loop-place.parts in
    only_so c.args.stage contents (length names) c.loop-place.next _ parts (all_held _ names contents told)
    (whole_to c.args.stage held names contents c.loop-place.next c.loop-place.parts (subst P all c.loop-place.invariant.to) told) spell)

pub returns-clause-number : goal.returns-clause-number
returns-clause-number g c =
    let number = c.loop-place.invariant.number in
    omega (arith, number, c.loop-place.auto.place-end, c.loop-place-test.false)

pub returns-clause-exact : goal.returns-clause-exact
returns-clause-exact g c = λ file line kind.
    let held = g.F.Files.held c.args.files.now in
    let names = c.args.names.now in
    if_told (held_under held (take file names)) (λ contents. HasTextFault c.args.stage 1 contents file line kind → ⊥)
    (λ contents told fault.
    let all : c.loop-place.place ≡ length names = omega (arith, c.loop-place.auto.place-end, c.loop-place-test.false) in
    let P : ℕ → Type 0 = λ k. (count : ℕ) (contents : List (List ℕ)) → held_under held (take count names) ≡ Some contents →
    IsReadTo c.args.stage contents count k c.loop-place.next c.loop-place.parts in
    right_to c.args.stage held names contents file c.loop-place.next c.loop-place.parts file line kind
    (subst P all c.loop-place.invariant.to) told fault)
