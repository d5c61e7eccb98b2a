-- Inner: what dives hold.
use Rattle.label_dive.specs.declared.dive.Reached.{Reached}

-- the label's numbers fit
abbrev pub IsReached : {L : Type 0} → (L → Type 0) → Reached L → Type 0
IsReached sound reached = sound reached.label
