-- Rows without a fault are duties of a roster: each row's values are right, and its key is none of a row before. Going down the rows, the
-- keys before a row grow by its own, so that each later row differs from it.
use Rattle.std.proofs.Common.{◌≡◌, ℕ, ◌+◌, All, Bool, true, false, not, ◌&&◌, ◌||◌, if◌then◌else◌, List, [], ◌∷◌, ◌++◌, map, Some, None, refl, sym, ap, ◌∙◌, arith}
use Rattle.std.specs.Prelude.{◌==◌, AllPairs}
use Rattle.std.specs.List.{find, flat_map, list_any}
use Rattle.std.proofs.lemmas.Bool.Decides.{nat_tests}
use Rattle.std.proofs.lemmas.List.Elements.{All-cons, All-nil, All-weaker}
use Rattle.std.proofs.lemmas.List.Folds.{list_any-append}
use Rattle.std.proofs.lemmas.List.Kept.{AllPairs-cons}
use Rattle.vdv452_rows.specs.declared.fault.TableFault.{TableFault}
use Rattle.vdv452_rows.specs.declared.fault.TableKind.TheVariants.{KeyTwice}
use Rattle.vdv452_rows.specs.Rows.{fault, when}
use Rattle.week_check.specs.declared.entry.DriverDay.{DriverDay}
use Rattle.week_check.specs.declared.turn.Turn.{Turn}
use Rattle.week_check.specs.Duties.{AreApart, IsTurn}
use Rattle.week_check.specs.Roster.{RowFields, columns, entry_of, field_of, is_right, key_fault, key_of, kind_of, name_of, roster_name, row_fault, row_faults, row_turn, same_key, value_faults, wrong_column}
use Rattle.week_check.proofs.Entries.{all_right, turn_is}

pub both_none : (xs ys : List TableFault) → xs ++ ys ≡ [] → (xs ≡ []) × (ys ≡ [])
both_none [] ys e = (refl, e)
both_none (x ∷ xs) ys e = absurd cc

pub not_when : (b : Bool) (x : TableFault) → when b x ≡ [] → b ≡ false
not_when true x e = absurd cc
not_when false x e = refl

none_found : {X : Type 0} (fails : X → Bool) (fault_at : X → TableFault) (xs : List X) →
    flat_map (λ x. when (fails x) (fault_at x)) xs ≡ [] → find fails xs ≡ None
none_found fails fault_at [] e = refl
none_found fails fault_at (x ∷ xs) e =
    let parts = both_none (when (fails x) (fault_at x)) (flat_map (λ x. when (fails x) (fault_at x)) xs) e in
    ap (λ b. if b then Some x else find fails xs) (not_when (fails x) (fault_at x) parts.0) ∙ none_found fails fault_at xs parts.1

pub none_wrong : (number : ℕ) (fields : RowFields) → value_faults number fields ≡ [] → wrong_column (entry_of fields) ≡ None
none_wrong number fields e =
    none_found (λ column. not (is_right (entry_of fields) column))
    (λ column. fault (kind_of (field_of fields column)) roster_name (name_of column) number) columns e

abbrev key_of_turn : Turn → DriverDay
key_of_turn t = record { driver = t.driver; day = t.day }

-- the duty's key is none of these
abbrev IsNew : List DriverDay → Turn → Type 0
IsNew before t = list_any (same_key (key_of_turn t)) before ≡ false

neither : (a b : Bool) → a || b ≡ false → (a ≡ false) × (b ≡ false)
neither true b e = absurd cc
neither false b e = (refl, e)

turned : (a b c d : ℕ) → ((a == b) && (c == d)) ≡ false → ((b == a) && (d == c)) ≡ false
turned a b c d e = grind (arith, nat_tests)

one_key : (t : Turn) (key : DriverDay) → list_any (same_key (key_of_turn t)) (key ∷ []) ≡ false → same_key (key_of_turn t) key ≡ false
one_key t key e = (neither (same_key (key_of_turn t) key) _ e).0

older : (before : List DriverDay) (key : DriverDay) (t : Turn) → IsNew (before ++ key ∷ []) t →
    IsNew before t × (same_key (key_of_turn t) key ≡ false)
older before key t new =
    let both = neither (list_any (same_key (key_of_turn t)) before) (list_any (same_key (key_of_turn t)) (key ∷ []))
    (sym (list_any-append (same_key (key_of_turn t)) before (key ∷ [])) ∙ new) in
    (both.0, one_key t key both.1)

pub record AreRows (before : List DriverDay) (turns : List Turn) : Type 0 where
  pub each : All IsTurn turns
  pub apart : AllPairs AreApart turns
  pub new : All (IsNew before) turns

-- By induction down the rows, for any keys before them: the rows behind are new to these keys and to this row's own. The latter says
-- that the row's duty differs in driver or day from each behind it, and the former is handed up to the row before.
pub are_rows : (number : ℕ) (before : List DriverDay) (rows : List RowFields) → row_faults number before rows ≡ [] →
    AreRows before (map row_turn rows)
are_rows number before [] none =
    record { each = All-nil IsTurn; apart = λ i j d order within. absurd (omega arith); new = All-nil (IsNew before) }
are_rows number before (fields ∷ rows) none =
    let key : DriverDay = key_of (entry_of fields) in
    let parts = both_none (row_fault number before fields) (row_faults (number + 1) (before ++ key ∷ []) rows) none in
    let own = both_none (value_faults number fields) (key_fault number before key) parts.0 in
    let rest = are_rows (number + 1) (before ++ key ∷ []) rows parts.1 in
    let turns : List Turn = map row_turn rows in
    let is : IsTurn (row_turn fields) = turn_is (entry_of fields) (all_right (entry_of fields) (none_wrong number fields own.0)) in
    let new : IsNew before (row_turn fields) = not_when (list_any (same_key key) before) (fault KeyTwice roster_name [] number) own.1 in
    record {
      each = All-cons IsTurn (row_turn fields) turns is rest.each;
      apart = AllPairs-cons AreApart (row_turn fields) turns
          (All-weaker (IsNew (before ++ key ∷ [])) (AreApart (row_turn fields))
          (λ t h. turned t.driver key.driver t.day key.day (older before key t h).1) turns rest.new) rest.apart;
      new = All-cons (IsNew before) (row_turn fields) turns new
          (All-weaker (IsNew (before ++ key ∷ [])) (IsNew before) (λ t h. (older before key t h).0) turns rest.new);
    }
