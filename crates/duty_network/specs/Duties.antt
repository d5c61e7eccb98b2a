-- Promise: pauses between pieces, and which lists of pieces are lawful duties of a group (Regulation (EC) 561/2006).
use Rattle.std.specs.Prelude.{ℕ, ℤ, pos, ◌+ℤ◌, ◌-ℤ◌, ◌+◌, ◌*◌, Bool, true, false, cond, ◌&&◌, nat_eq, map, List, [], ◌∷◌, length, Option, Some, None, option_and_then, slice_get}
use Rattle.plan_core.specs.declared.types.Piece.{Piece}
use Rattle.cover_core.specs.declared.Worth.{Worth}
use Rattle.cover_core.specs.declared.Worth.TheVariants.{Count, Cost}
use Rattle.cover_core.specs.Cover.{Problem}
use Rattle.plan_params.specs.declared.rows.ParamRows.{ParamRows}
use Rattle.plan_params.specs.declared.rows.group.Group.{Group}
use Rattle.plan_params.specs.LookUps.{way_in}
use Rattle.eu561_rules.specs.declared.rules.Drive.{Drive}
use Rattle.eu561_rules.specs.declared.rules.Limits.{Limits}
use Rattle.eu561_rules.specs.Lawful.{is_lawful, limits_for}
use Rattle.duty_network.specs.Times.{given, rises, seconds}

-- what duties are made of: the pieces and the settings, and whether duties are counted
pub record DutyFacts : Type 0 where
  pub pieces : List Piece
  pub params : ParamRows
  pub counts : Bool

-- whether duties are counted
abbrev pub is_count : Worth → Bool
is_count Count = true
is_count Cost = false

-- the limits of a group, by its allowances
abbrev pub limits_of : Group → Limits
limits_of g = limits_for g.ten g.reduced

-- the second piece follows the first directly in one block
abbrev pub follows : Piece → Piece → Bool
follows p q = nat_eq p.block q.block && nat_eq (p.index + 1) q.index

-- the time between two pieces that is left after the handover and the way
abbrev pub pause_over : DutyFacts → Piece → Piece → Option ℕ → Option ℕ
pause_over d p q way = option_and_then (λ way. seconds (q.begin.0 -ℤ p.end.0 -ℤ pos d.params.settings.handover -ℤ pos way)) way

-- The pause of a piece before another: all the time between them where the other follows directly in one block, else what is left of it
-- after the handover and the driver's way.
abbrev pub pause : DutyFacts → Piece → Piece → Option ℕ
pause d p q = cond (follows p q) (seconds (q.begin.0 -ℤ p.end.0)) (pause_over d p q (way_in d.params p.to q.from))

abbrev pub pieces_at : List Piece → List ℕ → Option (List Piece)
pieces_at pieces [] = Some []
pieces_at pieces (k ∷ ks) = option_and_then (λ p. option_and_then (λ ps. Some (p ∷ ps)) (pieces_at pieces ks)) (slice_get pieces k)

-- the drives after a piece, each with the pause before it
abbrev pub drives_after : DutyFacts → Piece → List Piece → Option (List Drive)
drives_after d p [] = Some []
drives_after d p (q ∷ qs) =
    option_and_then (λ time. option_and_then (λ rest. Some (record { pause = time; driving = q.driving } ∷ rest)) (drives_after d q qs))
    (pause d p q)

-- the drives of pieces, where all pauses are there
abbrev pub drives_of : DutyFacts → List Piece → Option (List Drive)
drives_of d [] = None
drives_of d (p ∷ ps) = option_and_then (λ rest. Some (record { pause = 0; driving = p.driving } ∷ rest)) (drives_after d p ps)

abbrev pub last_piece : Piece → List Piece → Piece
last_piece p [] = p
last_piece p (q ∷ qs) = last_piece q qs

-- the first piece's start less the way from home less the sign-on time
abbrev pub sign_on : DutyFacts → Group → Piece → Option ℤ
sign_on d g p = option_and_then (λ way. Some (p.begin.0 -ℤ pos way -ℤ pos g.sign_on)) (way_in d.params g.home p.from)

-- the last piece's end plus the way home plus the sign-off time
abbrev pub sign_off : DutyFacts → Group → Piece → Option ℤ
sign_off d g p = option_and_then (λ way. Some (p.end.0 +ℤ pos way +ℤ pos g.sign_off)) (way_in d.params p.to g.home)

-- sign-on before the first of some pieces, sign-off after the last
abbrev pub begins : DutyFacts → Group → List Piece → Option ℤ
begins d g [] = None
begins d g (p ∷ ps) = sign_on d g p

abbrev pub ends : DutyFacts → Group → List Piece → Option ℤ
ends d g [] = None
ends d g (p ∷ ps) = sign_off d g (last_piece p ps)

-- a list of pieces as a duty: its group, its drives, sign-on and sign-off, and the spread between the two
pub record Duty : Type 0 where
  pub group : Group
  pub drives : List Drive
  pub on : ℤ
  pub off : ℤ
  pub spread : ℕ

-- a list that is not empty and rises, and whose pauses and ways from and to home are there
abbrev pub duty_of : DutyFacts → ℕ → List ℕ → Option Duty
duty_of d class list =
    given (rises list)
    (option_and_then (λ g. option_and_then (λ ps. option_and_then (λ drives. option_and_then (λ on. option_and_then (λ off.
    option_and_then (λ spread. Some (record { group = g; drives = drives; on = on; off = off; spread = spread }))
    (seconds (off -ℤ on))) (ends d g ps)) (begins d g ps)) (drives_of d ps)) (pieces_at d.pieces list)) (slice_get d.params.groups class))

-- what a duty costs, or 1 where duties are counted
abbrev pub cost_of : Bool → Duty → ℕ
cost_of counts duty = cond counts 1 (duty.group.fixed + duty.group.rate * duty.spread)

-- The worth of a list of pieces as a lawful duty of a group: its fixed cost plus its rate times the spread, or 1 where duties are counted.
-- A list has one where it is a duty that keeps articles 6(1), 7 and 8(2) in the limits of its group.
abbrev pub duty_worth : DutyFacts → ℕ → List ℕ → Option ℕ
duty_worth d class list =
    option_and_then (λ (duty : Duty). given (is_lawful (limits_of duty.group) duty.drives duty.spread) (Some (cost_of d.counts duty)))
    (duty_of d class list)

abbrev pub caps_of : List Group → List ℕ
caps_of groups = map (λ (g : Group). g.cap) groups

-- duties as a set partitioning problem: pieces are items, groups of drivers are classes
abbrev pub duties : DutyFacts → Problem
duties d = record { items = length d.pieces; caps = caps_of d.params.groups; worth = duty_worth d }

-- the duties over some pieces with these settings, counted or with their costs
abbrev pub duties_of : ParamRows → List Piece → Bool → Problem
duties_of params pieces counts = duties (record { pieces = pieces; params = params; counts = counts })

-- The same by numbers.
abbrev pub with_piece : {A : Type 0} → DutyFacts → ℕ → (Piece → Option A) → Option A
with_piece d p f = option_and_then f (slice_get d.pieces p)

abbrev pub with_group : {A : Type 0} → DutyFacts → ℕ → (Group → Option A) → Option A
with_group d class f = option_and_then f (slice_get d.params.groups class)

abbrev pub pause_at : DutyFacts → ℕ → ℕ → Option ℕ
pause_at d p q = with_piece d p (λ a. with_piece d q (λ b. pause d a b))

abbrev pub from_home_at : DutyFacts → ℕ → ℕ → Option ℕ
from_home_at d class p = with_group d class (λ g. with_piece d p (λ a. way_in d.params g.home a.from))

abbrev pub to_home_at : DutyFacts → ℕ → ℕ → Option ℕ
to_home_at d class p = with_group d class (λ g. with_piece d p (λ a. way_in d.params a.to g.home))
