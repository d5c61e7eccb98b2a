-- The latest row that has begun is the one of the greatest day.
use Rattle.std.proofs.Common.{◌≡◌, ◌<◌, ◌≤◌, ◌↔◌, ℕ, Bool, true, false, if◌then◌else◌, List, [], ◌∷◌, Option, Some, None, nat_le, nat_lt, All, Contains, refl, subst, arith, IsNone, IfSome}
use Rattle.std.proofs.lemmas.Bool.Decides.{nat_tests}
use Rattle.std.proofs.lemmas.List.Elements.{All-cons, All-nil, Contains-append_right, Contains-get_or}
use Rattle.std.specs.Option.{option_map}
use Rattle.vdv452_rows.specs.declared.rows.VersionRow.{VersionRow}
use Rattle.vdv452_tables.specs.Calendar.{IsInForce, begun, later, latest}

abbrev pub Tells : List VersionRow → ℕ → Option VersionRow → Type 0
Tells rows day None = All (λ row. day < row.day) rows
Tells rows day (Some row) = Contains rows row × (row.day ≤ day) × All (λ other. other.day ≤ day → other.day ≤ row.day) rows

-- no begun row is later
abbrev IsLatest : ℕ → VersionRow → VersionRow → Type 0
IsLatest day row other = other.day ≤ day → other.day ≤ row.day

lt_from : (m n : ℕ) → nat_lt m n ≡ true → m < n
lt_from m n e = grind (arith, nat_tests)

not_lt_from : (m n : ℕ) → nat_lt m n ≡ false → n ≤ m
not_lt_from m n e = grind (arith, nat_tests)

le_from : (m n : ℕ) → nat_le m n ≡ true → m ≤ n
le_from m n e = grind (arith, nat_tests)

not_le_from : (m n : ℕ) → nat_le m n ≡ false → n < m
not_le_from m n e = grind (arith, nat_tests)

module _ (row : VersionRow) (rows : List VersionRow) (day : ℕ) where
  head_among : Contains (row ∷ rows) row
  head_among = Contains-get_or (row ∷ rows) 0 row (omega arith)

  later_tells : (found : Option VersionRow) → row.day ≤ day → Tells rows day found → Tells (row ∷ rows) day (Some (later row found))
  later_tells None begins none = (
    head_among,
    begins,
    All-cons (IsLatest day row) row rows (λ _. omega arith)
        (λ k d within begins_too. absurd (omega (arith, none k d within))),
  )
  later_tells (Some other) begins told = by (nat_lt row.day other.day) refl
    where
      by : (b : Bool) → nat_lt row.day other.day ≡ b → Tells (row ∷ rows) day (Some (if b then other else row))
      by true e = (
        Contains-append_right (row ∷ []) rows other told.0,
        told.1,
        All-cons (IsLatest day other) row rows (λ _. omega (arith, lt_from row.day other.day e)) told.2,
      )
      by false e = (
        head_among,
        begins,
        All-cons (IsLatest day row) row rows (λ _. omega arith)
            (λ k d within begun_too. omega (arith, told.2 k d within begun_too, not_lt_from row.day other.day e)),
      )

  early_tells : (found : Option VersionRow) → day < row.day → Tells rows day found → Tells (row ∷ rows) day found
  early_tells None early none = All-cons (λ other. day < other.day) row rows early none
  early_tells (Some other) early told = (
    Contains-append_right (row ∷ []) rows other told.0,
    told.1,
    All-cons (IsLatest day other) row rows (λ begins. absurd (omega arith)) told.2,
  )

-- The latest row that has begun is the one of the greatest day, and none only where all rows begin later. By induction on the rows
-- from the end: a row that has begun is compared with what is found behind it, and stays unless that one is of a later day
-- (`later_tells`); one that has not begun changes nothing (`early_tells`). It is all that `version_at` promises of the version in
-- force and of there being none.
pub latest_tells : (rows : List VersionRow) (day : ℕ) → Tells rows day (latest (begun rows day))
latest_tells [] day = All-nil _
latest_tells (row ∷ rows) day = by (nat_le row.day day) refl (latest_tells rows day)
  where
    by : (b : Bool) → nat_le row.day day ≡ b → Tells rows day (latest (begun rows day)) →
        Tells (row ∷ rows) day (latest (if b then row ∷ begun rows day else begun rows day))
    by true e told = later_tells row rows day (latest (begun rows day)) (le_from row.day day e) told
    by false e told = early_tells row rows day (latest (begun rows day)) (not_le_from row.day day e) told

pub in_force : (rows : List VersionRow) (day : ℕ) (found : Option VersionRow) → Tells rows day found →
    IfSome (option_map (λ row. row.version) found) (IsInForce rows day)
in_force rows day None told = tt
in_force rows day (Some row) told = record { row = row; among = told.0; version_is = refl; has_begun = told.1; is_latest = told.2 }

pub none_in_force : (rows : List VersionRow) (day : ℕ) (found : Option VersionRow) → Tells rows day found →
    IsNone (option_map (λ row. row.version) found) ↔ All (λ row. day < row.day) rows
none_in_force rows day None told = (λ _. told, λ _. refl)
none_in_force rows day (Some row) told = (λ none. absurd cc, λ after. absurd (no_later told.0 after))
  where
    no_later : Contains rows row → All (λ (r : VersionRow). day < r.day) rows → ⊥
    no_later among after = omega (arith, told.1, subst (λ (r : VersionRow). day < r.day) among.2 (after among.0 row among.1))
