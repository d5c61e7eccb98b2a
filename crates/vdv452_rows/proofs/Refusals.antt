-- A step that gives up at an initial part of the faults gives up at the first of all.
use Rattle.std.proofs.Common.{◌≡◌, List, [], ◌∷◌, ◌++◌, sym, subst}
use Rattle.vdv452_rows.specs.declared.fault.TableFault.{TableFault}
use Rattle.vdv452_rows.specs.declared.fault.Refusal.{Refusal}
use Rattle.vdv452_rows.specs.declared.fault.Refusal.TheVariants.{Memory, Fault}
use Rattle.vdv452_rows.specs.Answers.{IsRefusal}

-- A fault that heads some faults heads all that begin with these; out of memory may be answered at any time. The faults of all
-- tables are one list, put together in order, and each function refuses with the first of its own part. So with `refusal_after`, by
-- which parts without a fault may stand before, the answer of the innermost function is the first fault of all tables.
pub refusal_front : (front rest : List TableFault) (refusal : Refusal) → IsRefusal front refusal → IsRefusal (front ++ rest) refusal
refusal_front front rest Memory given = tt
refusal_front [] rest (Fault fault) given = cc
refusal_front (x ∷ front) rest (Fault fault) given = given

pub refusal_same : (faults all : List TableFault) (refusal : Refusal) → faults ≡ all → IsRefusal faults refusal → IsRefusal all refusal
refusal_same faults all refusal same given = subst (λ fs. IsRefusal fs refusal) same given

-- where nothing is wrong before
pub refusal_after : (front rest : List TableFault) (refusal : Refusal) → front ≡ [] → IsRefusal rest refusal →
    IsRefusal (front ++ rest) refusal
refusal_after front rest refusal none given = subst (λ fs. IsRefusal (fs ++ rest) refusal) (sym none) given
