-- Promise: the rest of the duties of a day.
use Rattle.std.specs.Prelude.{◌≡◌, ℕ, Bool, true, List, [], ◌∷◌, length}
use Rattle.cover_core.specs.Cover.{Problem}
use Rattle.duty_network.specs.Duties.{DutyFacts, duties}
use Rattle.cover_rest.specs.declared.begun.Begun.{Begun}
use Rattle.cover_rest.specs.Laws.{StandForAll}
use Rattle.cover_rest.specs.Rest.{bodies, rest_of}
use Rattle.duty_rest.specs.declared.head.DutyHead.{DutyHead}

-- heads as what columns begin with
abbrev pub begun_of : List DutyHead → List Begun
begun_of [] = []
begun_of (h ∷ hs) = record { class = h.class; items = h.pieces; finished = h.finished } ∷ begun_of hs

-- a duty without a head may begin at any time: no rule is set for its sign-on
abbrev pub may_begin : ℕ → List ℕ → Bool
may_begin class list = true

-- the rest of the duties: first the heads and then the pieces in no head are items, groups of drivers are classes
abbrev pub rest_duties : DutyFacts → List DutyHead → Problem
rest_duties d heads = rest_of (duties d) (begun_of heads) may_begin

-- what duties are made of, the heads, and the moment
pub record RestFacts : Type 0 where
  pub net : DutyFacts
  pub heads : List DutyHead
  pub moment : ℕ

abbrev pub rests : RestFacts → Problem
rests rest = rest_duties rest.net rest.heads

-- heads as what columns begin with, and what the items of their rest stand for: each piece, once
pub record IsMade (d : DutyFacts) (heads : List DutyHead) (begun : List Begun) (bs : List (List ℕ)) : Type 0 where
  pub same : begun ≡ begun_of heads
  pub stand : bs ≡ bodies (begun_of heads) (length d.pieces)
  pub all : StandForAll (length d.pieces) bs
