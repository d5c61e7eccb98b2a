-- Trips, one after another.
use Rattle.std.proofs.Common.{◌≡◌, ℕ, suc, ◌+◌, ◌-◌, ◌<◌, List, [], ◌∷◌, ◌++◌, sym, ◌∙◌, ap, arith, append_assoc}
use Rattle.vdv451_text.specs.declared.table.Field.{Field}
use Rattle.day_maker.specs.Made.{fields_of, next_state, rows_of, trip_row, trip_rows}

-- One trip more. It is the step of the loop that draws trips: the rows so far stand before those that the definition makes of the
-- state reached. One trip takes three draws, each from the state before it, and the third state is that of the next trip. So one
-- number gives one table of trips.
pub trip_more : (trips i s a b d : ℕ) (all done now : List (List Field)) → i < trips → a ≡ next_state s →
    b ≡ next_state a → d ≡ next_state b →
    now ≡ done ++ rows_of (trip_row (i + 1) a b d ∷ []) → all ≡ done ++ rows_of (trip_rows (trips - i) (i + 1) s) →
    all ≡ now ++ rows_of (trip_rows (trips - (i + 1)) (i + 1 + 1) d)
trip_more trips i s a b d all done now within is is' is'' pushed so_far =
    let left : trips - i ≡ suc (trips - (i + 1)) = omega arith in
    let b_is : b ≡ next_state (next_state s) = is' ∙ ap next_state is in
    let d_is : d ≡ next_state (next_state (next_state s)) = is'' ∙ ap next_state b_is in
    let first : done ++ rows_of (trip_rows (trips - i) (i + 1) s) ≡ done ++ rows_of (trip_rows (suc (trips - (i + 1))) (i + 1) s) =
    ap (λ (n : ℕ). done ++ rows_of (trip_rows n (i + 1) s)) left in
    let second : done ++ fields_of (trip_row (i + 1) (next_state s) (next_state (next_state s)) (next_state (next_state (next_state s))))
    ∷ rows_of (trip_rows (trips - (i + 1)) (i + 1 + 1) (next_state (next_state (next_state s))))
    ≡ done ++ fields_of (trip_row (i + 1) a b d) ∷ rows_of (trip_rows (trips - (i + 1)) (i + 1 + 1) d) =
    ap (λ (n : ℕ). done ++ fields_of (trip_row (i + 1) n (next_state (next_state s)) (next_state (next_state (next_state s))))
    ∷ rows_of (trip_rows (trips - (i + 1)) (i + 1 + 1) (next_state (next_state (next_state s))))) (sym is)
    ∙ ap (λ (n : ℕ). done ++ fields_of (trip_row (i + 1) a n (next_state (next_state (next_state s))))
    ∷ rows_of (trip_rows (trips - (i + 1)) (i + 1 + 1) (next_state (next_state (next_state s))))) (sym b_is)
    ∙ ap (λ (n : ℕ). done ++ fields_of (trip_row (i + 1) a b n) ∷ rows_of (trip_rows (trips - (i + 1)) (i + 1 + 1) n)) (sym d_is) in
    let third : done ++ fields_of (trip_row (i + 1) a b d) ∷ rows_of (trip_rows (trips - (i + 1)) (i + 1 + 1) d)
    ≡ now ++ rows_of (trip_rows (trips - (i + 1)) (i + 1 + 1) d) =
    sym (append_assoc done (fields_of (trip_row (i + 1) a b d) ∷ []) (rows_of (trip_rows (trips - (i + 1)) (i + 1 + 1) d)))
    ∙ ap (λ (rs : List (List Field)). rs ++ rows_of (trip_rows (trips - (i + 1)) (i + 1 + 1) d)) (sym pushed) in
    so_far ∙ first ∙ second ∙ third
