use Rattle.std.proofs.Common.{◌≡◌, ◌+◌, ℕ, List, length, sym, subst, arith}
use Rattle.std.specs.Prelude.{Some, slice_get}
use Rattle.duty_network.specs.Followers.{facts}
use Rattle.duty_network.specs.Pauses.{IsPauseRow}
use Rattle.duty_network.proofs.Following.{longer, put-last}
use Rattle.duty_network.proofs.pauses.pauses_of.Goals as goal

pub loop-q-preserved : goal.loop-q-preserved
loop-q-preserved c =
    let rows = c.loop-q.rows.items in
    let own = c.in_ok-row_of.field-0 in
    let P : ℕ → List ℕ → Type 0 = λ k row. IsPauseRow (facts c.args.pieces.now c.args.params.now) k row in
    let Q : List (List ℕ) → Type 0 = λ l. (k : ℕ) (row : List ℕ) → slice_get l k ≡ Some row → P k row in
    let N : List (List ℕ) → Type 0 = λ l. length l ≡ c.loop-q.q + 1 in
    let count = c.loop-q.invariant.count in
    let more = c.loop-q-test.true in
    let last : P (length rows) own = (let R : ℕ → Type 0 = λ n. P n own in subst R (sym count) c.in_ok-row_of.ensures) in
    record {
      within = (omega arith);
      count = subst N (sym c.in_ok-push.ensures.items) (let size = longer rows own in omega arith);
      each = subst Q (sym c.in_ok-push.ensures.items) (put-last P rows own c.loop-q.invariant.each last);
    }
