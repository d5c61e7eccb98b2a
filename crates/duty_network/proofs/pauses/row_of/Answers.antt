use Rattle.std.proofs.Common.{◌≡◌, ◌<◌, ◌+◌, ◌∷◌, [], ◌++◌, ◌∙◌, ℕ, List, length, arith, subst, sym}
use Rattle.duty_network.specs.Duties.{pause_at}
use Rattle.duty_network.specs.Followers.{entry_at, facts}
use Rattle.duty_network.specs.Pauses.{told}
use Rattle.duty_network.proofs.Following.{longer}
use Rattle.duty_network.proofs.Pausing.{paused-more}
use Rattle.duty_network.proofs.pauses.row_of.Goals as goal

pub loop-p-preserved : goal.loop-p-preserved
loop-p-preserved c =
    let d = facts c.args.pieces.now c.args.params.now in
    let row = c.loop-p.row in
    let more = c.loop-p-test.true in
    let put : c.push.new.self ≡ row ++ c.cell_of_pause.result ∷ [] = c.in_ok-push.ensures.ok in
    let P : List ℕ → Type 0 = λ l. length l ≡ c.loop-p.p + 1 in
    let Q : List ℕ → Type 0 = λ l. (k : ℕ) → k < c.loop-p.p + 1 → told (entry_at l k) ≡ pause_at d k c.args.q in
    let count = c.loop-p.invariant.count in
    record {
      within = (omega arith);
      count = subst P (sym put) (let size = longer row c.cell_of_pause.result in omega arith);
      each = subst Q (sym put) (paused-more d c.args.q c.loop-p.p c.cell_of_pause.result row count
          (c.cell_of_pause.ensures ∙ c.pause_in.ensures.value) c.loop-p.invariant.each);
    }
