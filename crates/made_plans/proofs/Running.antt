-- The pieces that whole legs are cut into: a piece lasts as long as it is driven, and is near the group's home at both ends.
use Rattle.std.proofs.Common.{◌≡◌, ℕ, ℤ, pos, ◌+◌, ◌≤◌, ◌-ℤ◌, Bool, true, false, cond, All, List, [], ◌∷◌, ◌++◌, Option, Some, None, IfSome, refl, subst, ◌∙◌, arith, nat_le}
use Rattle.std.specs.List.{list_all}
use Rattle.std.proofs.lemmas.Bool.Decides.{nat_tests}
use Rattle.std.proofs.lemmas.Int.{ints}
use Rattle.std.proofs.lemmas.List.Elements.{All-append, All-cons, All-nil}
use Rattle.std.proofs.lemmas.Bool.{and_parts}
use Rattle.plan_core.specs.declared.types.Leg.{Leg}
use Rattle.plan_core.specs.declared.types.Piece.{Piece}
use Rattle.plan_params.specs.declared.rows.group.Group.{Group}
use Rattle.plan_params.specs.declared.rows.pool.Pool.{Pool}
use Rattle.day_model.specs.Facts.{DayFacts}
use Rattle.day_model.specs.Pieces.{driving_seconds, duration, is_cut, is_stand, longest_driving, may_be_driven, parts, piece_of, pieces_from}
use Rattle.block_cut.specs.Cuts.{begun, continued, cut_on, ended, grown, next_index}
use Rattle.block_cut.proofs.Pieces.{cut_whole}
use Rattle.made_plans.specs.Roomy.{IsNear}
use Rattle.made_plans.proofs.Whole.{AreWhole, IsSound}

-- a piece that lasts as long as it is driven, near the home at both ends
pub record IsRunning (day : DayFacts) (group : Group) (way : ℕ) (p : Piece) : Type 0 where
  pub from : IsNear day.params group way p.from
  pub to : IsNear day.params group way p.to
  pub lasts : (p.end.0 -ℤ p.begin.0) ≡ pos p.driving

module _ (day : DayFacts) (pool : Pool) (group : Group) (way : ℕ) where
  abbrev Running : Piece → Type 0
  Running p = IsRunning day group way p

  -- how long a leg that is no cut is driven
  driven : (l : Leg) → IsSound day pool group way l → is_cut day pool l ≡ false →
      (l.end.0 -ℤ l.begin.0) ≡ pos (cond (is_stand l.kind) 0 (duration l))
  driven l sound uncut = by (is_stand l.kind) refl
    where
      by : (b : Bool) → is_stand l.kind ≡ b → (l.end.0 -ℤ l.begin.0) ≡ pos (cond b 0 (duration l))
      by true stands = let cut = sound.cut stands in absurd (cc)
      by false moves = omega (arith, ints, sound.order)

  begun_running : (block index : ℕ) (l : Leg) → IsSound day pool group way l → is_cut day pool l ≡ false → Running (begun block index l)
  begun_running block index l sound uncut = record { from = sound.from; to = sound.to; lasts = driven l sound uncut }

  continued_running : (p : Piece) (l : Leg) → Running p → p.end.0 ≡ l.begin.0 → IsSound day pool group way l →
      is_cut day pool l ≡ false → Running (continued p l)
  continued_running p l running meets sound uncut =
      let before = running.lasts in
      let more = driven l sound uncut in
      record { from = running.from; to = sound.to; lasts = omega (arith, ints, before, more, meets) }

  abbrev Held : ℤ → Option Piece → Type 0
  Held at held = IfSome held (λ p. Running p × (p.end.0 ≡ at))

  ended_running : (held : Option Piece) (at : ℤ) → Held at held → All Running (ended held)
  ended_running None at is = All-nil Running
  ended_running (Some p) at is = All-cons Running p [] is.0 (All-nil Running)

  grown_running : (block index : ℕ) (held : Option Piece) (at : ℤ) (l : Leg) → Held at held → at ≡ l.begin.0 →
      IsSound day pool group way l → is_cut day pool l ≡ false → Held l.end.0 (Some (grown block index held l))
  grown_running block index None at l is meets sound uncut = (begun_running block index l sound uncut, refl)
  grown_running block index (Some p) at l is meets sound uncut = (continued_running p l is.0 (is.1 ∙ meets) sound uncut, refl)

  -- Pieces that are cut from legs with no time between them last as long as they are driven. The cutting rule goes leg by leg with the
  -- piece in hand, which ends where the next leg begins. A leg that is no cut is no stand, so it adds to the piece's driving as much
  -- as to its time; a cut puts the piece out and is itself in none.
  cut_running : (block index : ℕ) (held : Option Piece) (from to : ℤ) (legs : List Leg) →
      AreWhole day pool group way from to legs → Held from held →
      All Running (cut_on day pool block index held legs)
  cut_running block index held from to [] whole is = ended_running held from is
  cut_running block index held from to (l ∷ ls) whole is =
      by (is_cut day pool l) refl (cut_running block (next_index index held) None l.end.0 to ls whole.2 tt)
      (λ uncut. cut_running block index (Some (grown block index held l)) l.end.0 to ls whole.2
      (grown_running block index held from l is whole.0 whole.1 uncut))
    where
      by : (b : Bool) → is_cut day pool l ≡ b → All Running (cut_on day pool block (next_index index held) None ls) →
          (is_cut day pool l ≡ false → All Running (cut_on day pool block index (Some (grown block index held l)) ls)) →
          All Running (cond b (ended held ++ cut_on day pool block (next_index index held) None ls)
          (cut_on day pool block index (Some (grown block index held l)) ls))
      by true cut after on =
          All-append Running (ended held) (cut_on day pool block (next_index index held) None ls) (ended_running held from is) after
      by false uncut after on = on uncut

  pub pieces_running : (block : ℕ) (from to : ℤ) (legs : List Leg) → AreWhole day pool group way from to legs →
      All Running (pieces_from block 1 (parts day pool legs))
  pieces_running block from to legs whole =
      let P : List Piece → Type 0 =
      λ ps. All Running ps in subst P (cut_whole day pool block legs) (cut_running block 1 None from to legs whole tt)

-- a piece that may be driven
abbrev pub IsShort : Piece → Type 0
IsShort p = p.driving ≤ longest_driving

-- The number of a block changes nothing of the driving of its pieces. That a block can be driven was tested on its pieces with the
-- number 1, and the plan's pieces have the block's number: driving depends on the legs alone.
pub pieces_short : (one other index at : ℕ) (ps : List (List Leg)) → list_all may_be_driven (pieces_from one index ps) ≡ true →
    All IsShort (pieces_from other at ps)
pieces_short one other index at [] all = All-nil IsShort
pieces_short one other index at ([] ∷ rest) all = pieces_short one other index at rest all
pieces_short one other index at ((l ∷ ls) ∷ rest) all =
    let (test, others) = and_parts (nat_le (driving_seconds (l ∷ ls)) longest_driving)
    (list_all may_be_driven (pieces_from one (index + 1) rest)) all in
    let low : driving_seconds (l ∷ ls) ≤ longest_driving = grind (arith, nat_tests) in
    All-cons IsShort (piece_of other at l ls) (pieces_from other (at + 1) rest) low
    (pieces_short one other (index + 1) (at + 1) rest others)
