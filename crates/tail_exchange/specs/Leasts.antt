-- Inner: the least of candidates that are looked at one after another.
use Rattle.std.specs.Prelude.{cond, List, [], ◌∷◌, Option, Some, None}
use Rattle.std.specs.Ordering.{is_lt}
use Rattle.tail_exchange.specs.declared.candidate.Candidate.{Candidate}
use Rattle.tail_exchange.specs.Order.{candidate_cmp}

-- the new candidate where it comes before the least so far
abbrev pub lesser : Option Candidate → Candidate → Candidate
lesser None c = c
lesser (Some b) c = cond (is_lt (candidate_cmp c b)) c b

-- the least after further candidates
abbrev pub least_from : Option Candidate → List Candidate → Option Candidate
least_from best [] = best
least_from best (c ∷ cs) = least_from (Some (lesser best c)) cs
