use Rattle.std.proofs.Common.{◌∙◌, ap, length, sym, List, ℕ}
use Rattle.command_words.proofs.RequestLemmas.{one_roster}
use Rattle.command_words.proofs.words.week_request.Goals as goal

-- a roster is one word
pub returns-clause-names : goal.returns-clause-names
returns-clause-names c =
    ap (λ (names : List (List ℕ)). length names) c.in_ok-names_of.ensures
    ∙ one_roster _ (sym c.is_roster.ensures ∙ c.if-not-is_roster.false)
