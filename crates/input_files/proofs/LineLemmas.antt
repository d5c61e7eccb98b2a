-- Lines that are written part by part.
use Rattle.std.proofs.Common.{◌≡◌, ℕ, ◌+◌, ◌≤◌, inl, inr, Bool, true, false, List, [], ◌++◌, length, take, Option, Some, None, IfSome, refl, sym, ap, ◌∙◌, subst, append_assoc, arith}
use Rattle.plan_core.specs.Outside.{Rose}
use Rattle.input_files.specs.Taken.{TakesFront}
use Rattle.input_files.specs.Lines.{IsLeft, IsTelling, IsTold}
use Rattle.std.proofs.Math.Seq.{take-append-add, take-length}
use Rattle.std.proofs.lemmas.List.{append-nil, length-append, take-append-le}

-- nothing of the line is written yet
pub telling_begins : (old : Option (List ℕ)) (faults : ℕ) (line : List ℕ) → IsTelling old old faults faults line line true
telling_begins None faults line = (record { done = []; all = refl; taken = tt }, omega arith)
telling_begins (Some o) faults line =
    (record { done = []; all = refl; taken = ap (λ (t : List ℕ). Some t) (sym (append-nil o)) }, omega arith)

-- a further part is written whole
more_taken : (old now next : Option (List ℕ)) (done part : List ℕ) → IfSome old (λ bytes. now ≡ Some (bytes ++ done)) →
    IfSome now (λ bytes. next ≡ Some (bytes ++ part)) → IfSome old (λ bytes. next ≡ Some (bytes ++ (done ++ part)))
more_taken None now next done part so_far more = tt
more_taken (Some o) now next done part so_far more =
    let step : next ≡ Some ((o ++ done) ++ part) = rw so_far at more in
    step ∙ ap (λ (t : List ℕ). Some t) (append_assoc o done part)

-- A further part is written whole. Of the line the parts written so far are `done`, and what is still to be written is `rest`, so a
-- part moves from the one to the other and `done ++ rest` stays the line; nothing has to be known of the line beside this.
-- `write_part` has it as its contract for every line and rest, so a line is proved by naming its parts one after another.
pub part_written : (old now next : Option (List ℕ)) (before f g : ℕ) (line part rest : List ℕ) →
    IsTelling old now before f line (part ++ rest) true → IfSome now (λ bytes. next ≡ Some (bytes ++ part)) → f ≤ g →
    IsTelling old next before g line rest true
part_written old now next before f g line part rest told more later =
    let left : IsLeft old now line (part ++ rest) = told.0 in
    let first = told.1 in (
      record {
        done = left.done ++ part;
        all = append_assoc left.done part rest ∙ left.all;
        taken =
            more_taken old now next left.done part left.taken more;
      },
      omega (arith, first, later),
    )

-- of a further part an initial part is written
front_taken : (old now next : Option (List ℕ)) (line done part rest : List ℕ) → done ++ (part ++ rest) ≡ line →
    IfSome old (λ bytes. now ≡ Some (bytes ++ done)) → IfSome now (λ bytes. TakesFront bytes next part) →
    IfSome old (λ bytes. TakesFront bytes next line)
front_taken None now next line done part rest all so_far front = tt
front_taken (Some o) now next line done part rest all so_far front =
    let step : TakesFront (o ++ done) next part = rw so_far at front in
    let count = step.0 in
    let bound = step.1 in
    let whole : take (length done + count) line ≡ done ++ take count part =
    ap (λ (t : List ℕ). take (length done + count) t) (sym all) ∙ take-append-add done (part ++ rest) count
    ∙ ap (λ (t : List ℕ). done ++ t) (take-append-le count part rest bound) in
    let long : length line ≡ length done + (length part + length rest) =
    ap (λ (t : List ℕ). length t) (sym all) ∙ length-append done (part ++ rest)
    ∙ ap (λ (n : ℕ). length done + n) (length-append part rest) in (
      length done + count,
      omega (arith, bound, long),
      step.2
          ∙ ap (λ (t : List ℕ). Some t) (append_assoc o done (take count part) ∙ ap (λ (t : List ℕ). o ++ t) (sym whole)),
    )

rose_since : (before f g : ℕ) → before ≤ f → Rose f g → Rose before g
rose_since before f g first rose = omega (arith, first, rose)

-- A write of a part failed, and an initial part of it was taken. Behind `done` this is an initial part of the whole line, as long as
-- both together (`front_taken`), and the count of faults rose since the line was begun. No later part changes that: `write_part`
-- writes nothing then.
pub part_failed : (old now next : Option (List ℕ)) (before f g : ℕ) (line part rest : List ℕ) →
    IsTelling old now before f line (part ++ rest) true → IfSome now (λ bytes. TakesFront bytes next part) → Rose f g →
    IsTelling old next before g line rest false
part_failed old now next before f g line part rest told front rose =
    let left : IsLeft old now line (part ++ rest) = told.0 in
    (front_taken old now next line left.done part rest left.all left.taken front, rose_since before f g told.1 rose)

-- all is written, or a part failed
whole_taken : (old new : Option (List ℕ)) (line done : List ℕ) → done ++ [] ≡ line → IfSome old (λ bytes. new ≡ Some (bytes ++ done)) →
    IfSome old (λ bytes. new ≡ Some (bytes ++ line))
whole_taken None new line done all taken = tt
whole_taken (Some o) new line done all taken = taken ∙ ap (λ (t : List ℕ). Some (o ++ t)) (sym (append-nil done) ∙ all)

whole_front : (old new : Option (List ℕ)) (line : List ℕ) → IfSome old (λ bytes. new ≡ Some (bytes ++ line)) →
    IfSome old (λ bytes. TakesFront bytes new line)
whole_front None new line taken = tt
whole_front (Some o) new line taken = (length line, omega arith, taken ∙ ap (λ (t : List ℕ). Some (o ++ t)) (sym (take-length line)))

-- After the last part the rest is empty: either every part was written, and `done` is the line, or one failed, and an initial part is
-- there and the count rose. This is `IsTold`, which `run` promises of the line of a refusal.
pub telling_ends : (old new : Option (List ℕ)) (before now : ℕ) (line : List ℕ) (is_whole : Bool) →
    IsTelling old new before now line [] is_whole → IsTold old new before now line
telling_ends old new before now line true told =
    let left : IsLeft old new line [] = told.0 in
    let taken = whole_taken old new line left.done left.all left.taken in
    (whole_front old new line taken, inl taken)
telling_ends old new before now line false told = (told.0, inr told.1)

-- a part under another name
pub named_part : (old new : Option (List ℕ)) (before now : ℕ) (line part other rest : List ℕ) (is_whole : Bool) → other ≡ part →
    IsTelling old new before now line (part ++ rest) is_whole → IsTelling old new before now line (other ++ rest) is_whole
named_part old new before now line part other rest is_whole same told =
    subst (λ (t : List ℕ). IsTelling old new before now line (t ++ rest) is_whole) (sym same) told
