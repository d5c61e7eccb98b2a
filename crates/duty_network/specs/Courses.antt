-- Promise: what is known of a list of pieces once it was walked.
use Rattle.std.specs.Prelude.{◌≡◌, ℕ, ℤ, ◌<◌, ◌≤◌, nat_lt, List, [], ◌∷◌, ◌++◌, ◌-ℤ◌, length, Option, Some, option_and_then, slice_get}
use Rattle.std.specs.Option.{option_map}
use Rattle.plan_core.specs.declared.types.Piece.{Piece}
use Rattle.plan_core.specs.declared.types.Sec.{Sec}
use Rattle.plan_params.specs.declared.rows.group.Group.{Group}
use Rattle.eu561_rules.specs.declared.rules.Drive.{Drive}
use Rattle.eu561_rules.specs.Summary.{StandsFor, Summary}
use Rattle.eu561_rules.specs.declared.rules.Verdict.{Verdict}
use Rattle.eu561_rules.specs.Duty.{Judged}
use Rattle.duty_network.specs.Times.{given, seconds}
use Rattle.duty_network.specs.Duties.{Duty, DutyFacts, duty_of, limits_of, pause_at, sign_off, sign_on}
use Rattle.duty_network.specs.declared.courses.Course.{Course}

abbrev pub drive_of : ℕ → Piece → Drive
drive_of time q = record { pause = time; driving = q.driving }

-- the drives after the piece of a number, where the numbers rise and all pauses are there
abbrev pub drives_on : DutyFacts → ℕ → List ℕ → Option (List Drive)
drives_on d k [] = Some []
drives_on d k (j ∷ js) =
    given (nat_lt k j) (option_and_then
    (λ time. option_and_then (λ q. option_map (λ (ds : List Drive). drive_of time q ∷ ds) (drives_on d j js)) (slice_get d.pieces j))
    (pause_at d k j))

abbrev pub last_number : ℕ → List ℕ → ℕ
last_number k [] = k
last_number k (j ∷ js) = last_number j js

-- after these drives the list goes on with further numbers behind another one
pub record IsWalked (d : DutyFacts) (k : ℕ) (ks : List ℕ) (j : ℕ) (js : List ℕ) (ds : List Drive) : Type 0 where
  pub on : drives_on d k ks ≡ option_map (λ (more : List Drive). ds ++ more) (drives_on d j js)
  pub last : last_number k ks ≡ last_number j js

-- the drives after a first piece are walked, and a tally stands for all
pub record IsTallied (d : DutyFacts) (k : ℕ) (ks : List ℕ) (first : Drive) (last : ℕ) (tally : Summary) : Type 0 where
  pub ds : List Drive
  pub on : drives_on d k ks ≡ Some ds
  pub stands : StandsFor tally (first ∷ ds)
  pub last_is : last ≡ last_number k ks
  pub there : last < length d.pieces

-- the same on the way
pub record IsTallying (d : DutyFacts) (k : ℕ) (ks : List ℕ) (first : Drive) (j : ℕ) (js : List ℕ) (tally : Summary) : Type 0 where
  pub ds : List Drive
  pub walked : IsWalked d k ks j js ds
  pub stands : StandsFor tally (first ∷ ds)
  pub few : length ds ≤ j
  pub there : j < length d.pieces

-- a course is that of a duty of a group
pub record IsCourse (d : DutyFacts) (g : Group) (duty : Duty) (course : Course) : Type 0 where
  pub group : duty.group ≡ g
  pub limits : course.tally.limits ≡ limits_of g
  pub stands : StandsFor course.tally duty.drives
  pub on : course.on ≡ duty.on
  pub off : course.off ≡ duty.off
  pub spread : course.spread ≡ duty.spread

-- sign-on, sign-off and spread between two pieces
pub record IsSpanned (d : DutyFacts) (g : Group) (p q : Piece) (tally : Summary) (course : Course) : Type 0 where
  pub same : tally ≡ course.tally
  pub on : sign_on d g p ≡ Some course.on
  pub off : sign_off d g q ≡ Some course.off
  pub spread : seconds (course.off -ℤ course.on) ≡ Some course.spread

-- no sign-on, no sign-off, or no spread between them
abbrev pub HasNoSpan : DutyFacts → Group → Piece → Piece → Type 0
HasNoSpan d g p q = (on off : ℤ) (time : ℕ) → sign_on d g p ≡ Some on → sign_off d g q ≡ Some off → seconds (off -ℤ on) ≡ Some time → ⊥

-- sign-on and sign-off
abbrev pub span_of : Duty → Sec × Sec
span_of duty = (record { 0 = duty.on }, record { 0 = duty.off })

-- a verdict on a list of pieces as a duty
pub record IsJudged (d : DutyFacts) (class : ℕ) (list : List ℕ) (verdict : Verdict) : Type 0 where
  pub duty : Duty
  pub is : duty_of d class list ≡ Some duty
  pub judged : Judged duty.drives duty.spread (limits_of duty.group) verdict
