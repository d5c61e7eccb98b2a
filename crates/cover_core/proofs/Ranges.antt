-- What the ranges of a problem say of its columns and caps.
use Rattle.std.proofs.Common.{ℕ, ◌<◌, ◌≤◌, List, [], ◌∷◌, length, Option, IfSome, subst}
use Rattle.std.specs.Prelude.{slice_index}
use Rattle.std.proofs.lemmas.List.Elements.{All-get_or}
use Rattle.cover_core.specs.declared.Column.{Column}
use Rattle.cover_core.specs.Cover.{Problem}
use Rattle.cover_core.specs.Plans.{IsColumn, AreColumns}
use Rattle.cover_core.specs.FirstLeast.{AreCheap}
use Rattle.cover_core.specs.Ranges.{HasFewPlaces, HasModestWorths}

-- a class of a problem with few places has at most 10,000
pub few-at : (p : Problem) (class : ℕ) → HasFewPlaces p → class < length p.caps → slice_index p.caps class ≤ 10000
few-at p class few there = All-get_or (λ cap. cap ≤ 10000) p.caps class 0 there few

-- the worth of a column is the problem's worth of its list
pub modest-column : (p : Problem) (c : Column) → HasModestWorths p → IsColumn p c → c.worth ≤ 4000000000
modest-column p c modest is = let Modest : Option ℕ → Type 0 = λ worth. IfSome worth (λ w. w ≤ 4000000000) in
    subst Modest is.1 (modest c.class c.items is.0)

-- the columns of a plan are worth little where all worths are modest
pub modest-columns : (p : Problem) (cs : List Column) → HasModestWorths p → AreColumns p cs → AreCheap cs
modest-columns p [] modest are = tt
modest-columns p (c ∷ cs) modest are = (modest-column p c modest are.0, modest-columns p cs modest are.1)
