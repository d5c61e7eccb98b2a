-- Promise: the pieces of the blocks of a plan.
use Rattle.std.specs.Prelude.{◌≡◌, ◌⊎◌, ℕ, ℤ, pos, ◌+◌, ◌<◌, ◌<ℤ◌, ◌≤ℤ◌, ◌-ℤ◌, List, [], ◌∷◌, ◌++◌, Option, Some, None, cond, option_and_then, unwrap_or, IfSome}
use Rattle.std.specs.Int.RustNames.{unsigned_abs}
use Rattle.plan_core.specs.declared.types.Leg.{Leg}
use Rattle.plan_core.specs.declared.types.Piece.{Piece}
use Rattle.cover_core.specs.declared.Column.{Column}
use Rattle.plan_params.specs.declared.rows.pool.Pool.{Pool}
use Rattle.plan_params.specs.Settings.{in_order}
use Rattle.day_model.specs.Facts.{DayFacts}
use Rattle.day_model.specs.Links.{with_pool}
use Rattle.day_model.specs.Pieces.{duration, is_cut, is_stand, pieces_of}
use Rattle.block_cut.specs.Legs.{AreTimed}

-- the pieces of a block of this number, by their indexes
abbrev pub block_pieces : DayFacts → ℕ → Column → List Piece
block_pieces day number column = unwrap_or (with_pool day column.class (λ pool. pieces_of day pool number column.items)) []

-- the pieces of blocks that are numbered from one on, block after block
abbrev pub pieces_by_block : DayFacts → ℕ → List Column → List Piece
pieces_by_block day number [] = []
pieces_by_block day number (column ∷ columns) = block_pieces day number column ++ pieces_by_block day (number + 1) columns

-- when a piece begins; none begins before midnight
abbrev pub moment : Piece → ℕ
moment piece = unsigned_abs piece.begin.0

-- The pieces of the blocks of a plan, where blocks are numbered from 1: by start, of those that begin at one moment by block, and of
-- those by index.
abbrev pub pieces_of_plan : DayFacts → List Column → List Piece
pieces_of_plan day columns = in_order moment (pieces_by_block day 1 columns)

-- a piece stands before another by block and index
abbrev pub IsEarlierInBlocks : Piece → Piece → Type 0
IsEarlierInBlocks p q = (p.block < q.block) ⊎ ((p.block ≡ q.block) × (p.index < q.index))

-- a piece stands before another by start, block and index
abbrev pub IsEarlier : Piece → Piece → Type 0
IsEarlier p q = (p.begin.0 <ℤ q.begin.0) ⊎ ((p.begin.0 ≡ q.begin.0) × IsEarlierInBlocks p q)

-- a piece begins at 0 or later, ends not before that and within four days, and drives no longer than it lasts
pub record IsShift (p : Piece) : Type 0 where
  pub begins : pos 0 ≤ℤ p.begin.0
  pub order : p.begin.0 ≤ℤ p.end.0
  pub ends : p.end.0 ≤ℤ pos 345600
  pub driving : pos p.driving ≤ℤ (p.end.0 -ℤ p.begin.0)

-- a piece of one leg
abbrev pub begun : ℕ → ℕ → Leg → Piece
begun block index l =
    record {
      block = block;
      index = index;
      from = l.from;
      begin = l.begin;
      to = l.to;
      end = l.end;
      driving =
          cond (is_stand l.kind) 0 (duration l);
    }

-- a piece with one leg more
abbrev pub continued : Piece → Leg → Piece
continued p l =
    record {
      block = p.block;
      index = p.index;
      from = p.from;
      begin = p.begin;
      to = l.to;
      end = l.end;
      driving =
          p.driving + cond (is_stand l.kind) 0 (duration l);
    }

-- the piece that is begun, with one leg more
abbrev pub grown : ℕ → ℕ → Option Piece → Leg → Piece
grown block index None l = begun block index l
grown block index (Some p) l = continued p l

-- a piece that is begun ends
abbrev pub ended : Option Piece → List Piece
ended None = []
ended (Some p) = p ∷ []

-- the index after a piece, if one is begun
abbrev pub next_index : ℕ → Option Piece → ℕ
next_index index None = index
next_index index (Some p) = index + 1

-- the pieces of legs, where one may be begun already
abbrev pub cut_on : DayFacts → Pool → ℕ → ℕ → Option Piece → List Leg → List Piece
cut_on day pool block index held [] = ended held
cut_on day pool block index held (l ∷ ls) =
    cond (is_cut day pool l) (ended held ++ cut_on day pool block (next_index index held) None ls)
    (cut_on day pool block index (Some (grown block index held l)) ls)

-- how many legs are stands
abbrev pub stands : List Leg → ℕ
stands [] = 0
stands (l ∷ ls) = cond (is_stand l.kind) 1 0 + stands ls

-- legs from a moment on, and a piece that is begun and has ended by then
pub record AreAfter (held : Option Piece) (legs : List Leg) : Type 0 where
  pub from : ℤ
  pub starts : pos 0 ≤ℤ from
  pub timed : AreTimed from (pos 345600) legs
  pub before : IfSome held (λ p. IsShift p × (p.end.0 ≤ℤ from))

-- a leg, and a piece that is begun and has ended when it begins
pub record IsAfter (held : Option Piece) (l : Leg) : Type 0 where
  pub starts : pos 0 ≤ℤ l.begin.0
  pub order : l.begin.0 ≤ℤ l.end.0
  pub ends : l.end.0 ≤ℤ pos 345600
  pub before : IfSome held (λ p. IsShift p × (p.end.0 ≤ℤ l.begin.0))
