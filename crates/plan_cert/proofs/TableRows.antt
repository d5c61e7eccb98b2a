-- The rows of the tables: one list behind another, and as many fields as columns.
use Rattle.std.proofs.Common.{◌≡◌, ℕ, ℤ, ◌+◌, ◌<◌, true, List, [], ◌∷◌, ◌++◌, length, map, drop, get_or, refl, sym, ap, ◌∙◌, append_assoc, add-one, drop-cons}
use Rattle.std.proofs.lemmas.List.Elements.{All-cons, All-head, All-nil, All-tail}
use Rattle.std.specs.Prelude.{Result, Ok, Err, IfOk, slice_index}
use Rattle.plan_core.specs.declared.types.Price.{Price}
use Rattle.vdv451_text.specs.declared.table.Field.{Field}
use Rattle.vdv451_text.specs.declared.table.Table.{Table}
use Rattle.vdv451_text.specs.Plain.{is_plain_table}
use Rattle.number_tables.specs.Signed.{AreSignedFull, signed_row, signed_rows}
use Rattle.plan_cert.specs.declared.cert.Pass.{Pass}
use Rattle.plan_cert.specs.declared.fault.CertTable.TheVariants as which
use Rattle.plan_cert.specs.Names.{columns_of}
use Rattle.plan_cert.specs.Writing.{Row, class_row, class_rows, price_row, price_rows}

pub rows-both : (a b : List Row) → signed_rows (a ++ b) ≡ signed_rows a ++ signed_rows b
rows-both [] b = refl
rows-both (r ∷ a) b = ap (λ (rows : List (List Field)). signed_row r ∷ rows) (rows-both a b)

pub rows-four : (a b c d : List Row) →
    signed_rows (((a ++ b) ++ c) ++ d) ≡ signed_rows a ++ (signed_rows b ++ (signed_rows c ++ signed_rows d))
rows-four a b c d =
    let sa = signed_rows a in
    let sb = signed_rows b in
    let sc = signed_rows c in
    let sd = signed_rows d in
    rows-both ((a ++ b) ++ c) d
    ∙ (ap (λ (rows : List (List Field)). rows ++ sd) (rows-both (a ++ b) c ∙ ap (λ (rows : List (List Field)). rows ++ sc) (rows-both a b))
    ∙ (append_assoc (sa ++ sb) sc sd ∙ append_assoc sa sb (sc ++ sd)))

-- each row has as many fields as there are columns
pub full-both : (columns : List (List ℕ)) (a b : List Row) → AreSignedFull columns a → AreSignedFull columns b →
    AreSignedFull columns (a ++ b)
full-both columns [] b fa fb = fb
full-both columns (r ∷ a) b fa fb =
    let P : Row → Type 0 = λ row. length row ≡ length columns in
    All-cons P r (a ++ b) (All-head P r a fa) (full-both columns a b (All-tail P r a fa) fb)

pub full-prices : (pass : Pass) (place : ℕ) (ps : List Price) → AreSignedFull (columns_of which.Prices) (price_rows pass place ps)
full-prices pass place [] = All-nil (λ (row : Row). length row ≡ 3)
full-prices pass place (p ∷ ps) =
    All-cons (λ (row : Row). length row ≡ 3) (price_row pass place p) (price_rows pass (place + 1) ps) refl
    (full-prices pass (place + 1) ps)

pub full-classes : (pass : Pass) (numbers : List ℕ) (class : ℕ) (zs : List ℤ) →
    AreSignedFull (columns_of which.ClassPrices) (class_rows pass numbers class zs)
full-classes pass numbers class [] = All-nil (λ (row : Row). length row ≡ 3)
full-classes pass numbers class (z ∷ zs) =
    All-cons (λ (row : Row). length row ≡ 3) (class_row pass (slice_index numbers class) z) (class_rows pass numbers (class + 1) zs) refl
    (full-classes pass numbers (class + 1) zs)

pub full-map : {M : Type 0} (columns : List (List ℕ)) (row_of : M → Row) (ms : List M) → ((m : M) → length (row_of m) ≡ length columns) →
    AreSignedFull columns (map row_of ms)
full-map columns row_of [] full = All-nil (λ (row : Row). length row ≡ length columns)
full-map columns row_of (m ∷ ms) full =
    All-cons (λ (row : Row). length row ≡ length columns) (row_of m) (map row_of ms) (full m) (full-map columns row_of ms full)

-- what is made is plain
pub ok-plain : {E : Type 0} (r : Result Table E) (t : Table) → IfOk r (λ made. made ≡ t) → is_plain_table t ≡ true →
    IfOk r (λ made. is_plain_table made ≡ true)
ok-plain (Ok made) t is plain = ap is_plain_table is ∙ plain
ok-plain (Err e) t is plain = tt

-- the row of a class price more
pub class-more : (rows now all : List (List Field)) (pass : Pass) (numbers : List ℕ) (place : ℕ) (prices : List ℤ) (price d : ℤ) →
    place < length prices → price ≡ get_or prices place d →
    now ≡ rows ++ signed_row (class_row pass (slice_index numbers place) price) ∷ [] →
    rows ++ signed_rows (class_rows pass numbers place (drop place prices)) ≡ all →
    now ++ signed_rows (class_rows pass numbers (place + 1) (drop (place + 1) prices)) ≡ all
class-more rows now all pass numbers place prices price d below is put so_far =
    let more = drop (place + 1) prices in
    let later = signed_rows (class_rows pass numbers (place + 1) more) in
    let row = signed_row (class_row pass (slice_index numbers place) price) in
    let step : drop place prices ≡ get_or prices place d ∷ more = rw add-one (drop-cons prices place d below) in
    let at : drop place prices ≡ price ∷ more = step ∙ ap (λ (z : ℤ). z ∷ more) (sym is) in
    ap (λ (rs : List (List Field)). rs ++ later) put
    ∙ (append_assoc rows (row ∷ []) later
    ∙ (ap (λ (zs : List ℤ). rows ++ signed_rows (class_rows pass numbers place zs)) (sym at) ∙ so_far))
