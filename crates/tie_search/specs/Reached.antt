-- Inner: what the search for a value holds.
use Rattle.tie_search.specs.declared.value.Reached.{Reached}

-- the label's numbers fit
abbrev pub IsReached : {L : Type 0} → (L → Type 0) → Reached L → Type 0
IsReached sound reached = sound reached.label
