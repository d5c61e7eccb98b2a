-- The cover of a matching from which no least cover departs to an earlier column is the first of least cost.
use Rattle.std.proofs.Common.{◌≡◌, ◌≤◌, sym, ◌∙◌, arith}
use Rattle.path_cover.specs.Nets.{Net, successor}
use Rattle.path_cover.specs.Potentials.{IsSlack}
use Rattle.path_cover.specs.Laws.{MatchingIsFirst, StuckIsNone, StuckIsFirst, GreatestAreHigh}
use Rattle.path_cover.specs.Matchings.{AreCoverOf}
use Rattle.path_cover.proofs.Covers.{matching_covers}
use Rattle.path_cover.proofs.Levels.{greatest_high}
use Rattle.path_cover.proofs.Slack.{least_is_slack, slack_is_least}
use Rattle.path_cover.proofs.Trees.{stuck_no_cover, stuck_not_before}

pub matching_is_first : (net : Net) → MatchingIsFirst net
matching_is_first net rising p to from spare room feasible held tight full lists follow firsts =
    let is : AreCoverOf net p to lists = matching_covers net rising p to from spare room held tight full lists follow firsts in (
      is,
      λ departs. record {
        cover = is.cover;
        least = λ others other. slack_is_least net rising p feasible lists others is.cover is.slack other;
        first = λ others other same t within agree.
            let slack : IsSlack net p others = least_is_slack net rising p feasible lists others is.cover is.slack other same in
            let later : to t ≤ successor net.nodes others t =
            departs others other slack t within (λ s before. let at : successor net.nodes lists s ≡ to s =
            is.successors s (omega (arith, before, within)) in sym (agree s before) ∙ at) in
            let at : successor net.nodes lists t ≡ to t = is.successors t within in
            omega arith;
        ordered = is.ordered;
      },
    )

pub stuck_is_none : (net : Net) → StuckIsNone net
stuck_is_none net rising p m a tree held is none_fixed no_limit none lists cover =
    stuck_no_cover net rising p m a tree held is none_fixed no_limit none lists cover

pub stuck_is_first : (net : Net) → StuckIsFirst net
stuck_is_first net rising p feasible m a tree held is after_root far lists cover slack agree =
    stuck_not_before net rising p feasible m a tree held is after_root far lists cover slack agree

pub greatest_are_high : (net : Net) → GreatestAreHigh net
greatest_are_high net rising dear cheap lists cover p greatest = greatest_high net rising dear cheap lists cover p greatest
