-- A row gives the same by halving and by counting as by the look-ups of the definition of a plan's tables.
use Rattle.std.proofs.Common.{◌≡◌, ℕ, ℤ, ◌+◌, ◌&&◌, true, false, if◌then◌else◌, nat_lt, List, [], ◌∷◌, refl, sym, ap, ◌∙◌}
use Rattle.std.specs.Option.{option_map}
use Rattle.std.specs.Prelude.{Option, Some, None, option_and_then}
use Rattle.day_model.specs.Facts.{DayFacts}
use Rattle.number_tables.specs.Outlines.{class_among, counted, word}
use Rattle.umlauf_write.specs.Reading as reading
use Rattle.umlauf_write.specs.Reading.{not_below, own_number, part, two}
use Rattle.plan_read.specs.declared.rows.Counts.{Counts}
use Rattle.plan_read.specs.Entries as entries
use Rattle.plan_read.specs.Numbers.{is_own, known}
use Rattle.plan_read.specs.Told.{◌>>=◌, by_fid}
use Rattle.plan_read.proofs.Numbered.{group-same, own-then, pool-same, trip-same}

trip-both : (o c : Option ℕ) →
    (o >>= λ trip. c >>= λ block. Some (two trip block)) ≡ option_and_then (λ trip. option_map (λ block. two trip block) c) o
trip-both None c = refl
trip-both (Some t) None = refl
trip-both (Some t) (Some b) = refl

pub trip-row : (day : DayFacts) (counts : Counts) (z : List (Option ℤ)) →
    entries.trip_entry (by_fid day.trips) counts z ≡ reading.trip_entry (known day counts) z
trip-row day counts [] = refl
trip-row day counts (fid ∷ []) = refl
trip-row day counts (fid ∷ uid ∷ []) =
    let c = counted counts.blocks uid in
    ap (λ (o : Option ℕ). o >>= λ trip. c >>= λ block. Some (two trip block)) (trip-same day.trips fid)
    ∙ trip-both (class_among (known day counts).fids fid) c
trip-row day counts (fid ∷ uid ∷ more ∷ rest) = refl

pub block-row : (day : DayFacts) (counts : Counts) (row : ℕ) (z : List (Option ℤ)) →
    entries.block_entry day row z ≡ reading.block_entry (known day counts) row z
block-row day counts row [] = refl
block-row day counts row (uid ∷ []) = refl
block-row day counts row (uid ∷ pool ∷ []) =
    ap (λ (o : Option ℕ). if is_own row uid then o else None) (pool-same day.params.pools pool)
    ∙ sym (own-then row uid (class_among (known day counts).pools pool))
block-row day counts row (uid ∷ pool ∷ more ∷ rest) = refl

pub duty-row : (day : DayFacts) (counts : Counts) (row : ℕ) (z : List (Option ℤ)) →
    entries.duty_entry day row z ≡ reading.duty_entry (known day counts) row z
duty-row day counts row [] = refl
duty-row day counts row (duty ∷ []) = refl
duty-row day counts row (duty ∷ group ∷ []) =
    ap (λ (o : Option ℕ). if is_own row duty then o else None) (group-same day.params.groups group)
    ∙ sym (own-then row duty (reading.number_among (known day counts).groups group))
duty-row day counts row (duty ∷ group ∷ more ∷ rest) = refl

part-all : (d b i : Option ℕ) →
    (d >>= λ d. b >>= λ b. i >>= λ i. Some (part d (b + 1) i))
    ≡ option_and_then (λ d. option_and_then (λ b. option_map (λ i. part d (b + 1) i) i) b) d
part-all None b i = refl
part-all (Some d) None i = refl
part-all (Some d) (Some b) None = refl
part-all (Some d) (Some b) (Some i) = refl

pub part-row : (day : DayFacts) (counts : Counts) (z : List (Option ℤ)) →
    entries.part_entry counts z ≡ reading.part_entry (known day counts) z
part-row day counts [] = refl
part-row day counts (duty ∷ []) = refl
part-row day counts (duty ∷ uid ∷ []) = refl
part-row day counts (duty ∷ uid ∷ index ∷ []) = part-all (counted counts.duties duty) (counted counts.blocks uid) (word index)
part-row day counts (duty ∷ uid ∷ index ∷ more ∷ rest) = refl

pub bound-row : (row : ℕ) (z : List (Option ℤ)) → entries.bound_entry row z ≡ reading.bound_entry row z
bound-row row [] = refl
bound-row row (art ∷ []) = refl
bound-row row (art ∷ bound ∷ []) =
    elim (nat_lt row 4) as (λ t. (if t && is_own row art then not_below bound else None)
    ≡ option_and_then (λ own. not_below bound) (if t then own_number row art else None)) [
      | true ↦ sym (own-then row art (not_below bound))
      | false ↦ refl
    ]
bound-row row (art ∷ bound ∷ more ∷ rest) = refl
