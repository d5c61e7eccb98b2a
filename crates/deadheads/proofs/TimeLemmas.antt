-- What is noted of moves is within two days.
use Rattle.std.proofs.Common.{ℕ, suc, Bool, true, false, if◌then◌else◌, List, [], ◌∷◌, All, Some, IfSome, sym, subst, arith}
use Rattle.std.specs.List.{find}
use Rattle.std.specs.Option.{option_map}
use Rattle.indexmap.specs.IndexMap.{IndexMap}
use Rattle.vdv452_tables.specs.declared.keys.MoveKey.{MoveKey}
use Rattle.vdv452_rows.specs.declared.rows.times.DeadRow.{DeadRow}
use Rattle.vdv452_tables.specs.Keys.{dead_key_of, move_key_eq, value_at}
use Rattle.vdv452_tables.specs.Ranges.{IsTime}
use Rattle.deadheads.specs.declared.moves.Ends.{Ends}
use Rattle.deadheads.specs.Entries.{time_at}
use Rattle.deadheads.specs.DeadTimes.{AreTimesOf, key_of}

-- What rows tell is within two days where their times are: the time of a move is that of the first row with its key, or there is
-- none; by induction on the rows, of which each passes the test of the key or leaves the question to those behind. With it the
-- index that `Deadheads::new` makes holds only times within two days, as `dead` promises of every move.
pub told_within : (rows : List DeadRow) (key : MoveKey) → All (λ row. IsTime row.time) rows →
    IfSome (value_at move_key_eq dead_key_of (λ row. row.time) rows key) IsTime
told_within [] key all = tt
told_within (row ∷ rows) key all = by (move_key_eq (dead_key_of row) key) (told_within rows key (λ k d within. all (suc k) d (omega arith)))
  where
    by : (b : Bool) → IfSome (value_at move_key_eq dead_key_of (λ r. r.time) rows key) IsTime →
        IfSome (option_map (λ (r : DeadRow). r.time) (if b then Some row else find (λ r. move_key_eq (dead_key_of r) key) rows)) IsTime
    by true later = all 0 row (omega arith)
    by false later = later

pub noted_within : {S : Type 0} (rows : List DeadRow) (version area group : ℕ) (times : IndexMap Ends ℕ S) →
    All (λ row. IsTime row.time) rows → AreTimesOf rows version area group times → (ends : Ends) →
    IfSome (time_at times.entries ends) IsTime
noted_within rows version area group times all told ends =
    subst (λ found. IfSome found IsTime) (sym (told ends)) (told_within rows (key_of version area group ends) all)
