-- Inner: duties that are counted are those that have costs, each worth 1.
use Rattle.std.proofs.Common.{◌≡◌, ℕ, ℤ, ◌-ℤ◌, Bool, true, false, List, [], ◌∷◌, Option, Some, None, refl, ap, subst, slice_get}
use Rattle.std.specs.Prelude.{option_and_then}
use Rattle.plan_core.specs.declared.types.Piece.{Piece}
use Rattle.cover_core.specs.Laws.{IsCountOf}
use Rattle.plan_params.specs.declared.rows.ParamRows.{ParamRows}
use Rattle.plan_params.specs.declared.rows.group.Group.{Group}
use Rattle.eu561_rules.specs.declared.rules.Drive.{Drive}
use Rattle.eu561_rules.specs.Lawful.{is_lawful}
use Rattle.duty_network.specs.Times.{given, rises, seconds}
use Rattle.duty_network.specs.Duties.{Duty, DutyFacts, begins, cost_of, drives_after, drives_of, duties_of, duty_of, ends, limits_of, pause, pieces_at}

abbrev worth_of : Bool → Duty → Option ℕ
worth_of counts duty = given (is_lawful (limits_of duty.group) duty.drives duty.spread) (Some (cost_of counts duty))

one_given : (b : Bool) (cost worth : ℕ) → given {A = ℕ} b (Some cost) ≡ Some worth → given {A = ℕ} b (Some 1) ≡ Some 1
one_given true cost worth h = refl
one_given false cost worth h = absurd (cc)

one_worth : (o : Option Duty) (worth : ℕ) → option_and_then (worth_of false) o ≡ Some worth → option_and_then (worth_of true) o ≡ Some 1
one_worth None worth h = absurd (cc)
one_worth (Some duty) worth h = one_given (is_lawful (limits_of duty.group) duty.drives duty.spread) (cost_of false duty) worth h

-- what a list is as a duty does not hang on whether duties are counted
module _ (params : ParamRows) (pieces : List Piece) where
  abbrev facts : Bool → DutyFacts
  facts counts = record { pieces = pieces; params = params; counts = counts }

  drives_same : (p : Piece) (ps : List Piece) → drives_after (facts false) p ps ≡ drives_after (facts true) p ps
  drives_same p [] = refl
  drives_same p (q ∷ qs) =
      ap (λ more. option_and_then
      (λ (time : ℕ). option_and_then (λ (rest : List Drive). Some (record { pause = time; driving = q.driving } ∷ rest)) more)
      (pause (facts false) p q)) (drives_same q qs)

  abbrev timed : Bool → Group → List Piece → List Drive → Option Duty
  timed counts g ps drives =
      option_and_then (λ (on : ℤ). option_and_then
      (λ (off : ℤ). option_and_then (λ (spread : ℕ). Some (record { group = g; drives = drives; on = on; off = off; spread = spread }))
      (seconds (off -ℤ on))) (ends (facts counts) g ps)) (begins (facts counts) g ps)

  abbrev of_pieces : Bool → Group → List Piece → Option Duty
  of_pieces counts g ps = option_and_then (timed counts g ps) (drives_of (facts counts) ps)

  pieces_same : (g : Group) (ps : List Piece) → of_pieces false g ps ≡ of_pieces true g ps
  pieces_same g [] = refl
  pieces_same g (p ∷ ps) =
      ap (λ more. option_and_then (timed false g (p ∷ ps))
      (option_and_then (λ (rest : List Drive). Some (record { pause = 0; driving = p.driving } ∷ rest)) more)) (drives_same p ps)

  found_same : (g : Group) (o : Option (List Piece)) → option_and_then (of_pieces false g) o ≡ option_and_then (of_pieces true g) o
  found_same g None = refl
  found_same g (Some ps) = pieces_same g ps

  group_same : (o : Option Group) (list : List ℕ) →
      option_and_then (λ g. option_and_then (of_pieces false g) (pieces_at pieces list)) o
      ≡ option_and_then (λ g. option_and_then (of_pieces true g) (pieces_at pieces list)) o
  group_same None list = refl
  group_same (Some g) list = found_same g (pieces_at pieces list)

  duty_same : (class : ℕ) (list : List ℕ) → duty_of (facts false) class list ≡ duty_of (facts true) class list
  duty_same class list = ap (given (rises list)) (group_same (slice_get params.groups class) list)

  -- The pieces and the caps are the same, and a list that costs something is counted once.
  pub duties_counted : IsCountOf (duties_of params pieces false) (duties_of params pieces true)
  duties_counted = record {
    items = refl;
    caps = refl;
    one = λ class list worth h.
        let P : Option Duty → Type 0 = λ o. option_and_then (worth_of true) o ≡ Some 1 in
        subst P (duty_same class list) (one_worth (duty_of (facts false) class list) worth h);
  }
