-- Escaped text.
use Rattle.std.proofs.Common.{◌≡◌, ℕ, ◌==◌, ◌&&◌, not, codes, if◌then◌else◌, Bool, true, false, List, [], ◌∷◌, refl, ap, sym, subst, ◌≢◌, ◌∙◌}
use Rattle.std.specs.List.{list_all}
use Rattle.std.proofs.lemmas.List.Folds.{list_all-append}
use Rattle.chart_page.specs.Bars.{is_markup}
use Rattle.chart_page.specs.Parts.{escaped, escaped_byte}

-- what stands for a byte, by whether it is one of the five
piece_by : (b : ℕ) (amp lt gt quote single : Bool) → (b == 60) ≡ lt → (b == 62) ≡ gt → (b == 34) ≡ quote → (b == 39) ≡ single
    → list_all (λ c. not (is_markup c))
    (if amp then codes "&amp;" else if lt then codes "&lt;" else if gt then codes "&gt;" else if quote then codes "&quot;" else if
    single then codes "&#39;" else b ∷ []) ≡ true
piece_by b true lt gt quote single hl hg hq hs = refl
piece_by b false true gt quote single hl hg hq hs = refl
piece_by b false false true quote single hl hg hq hs = refl
piece_by b false false false true single hl hg hq hs = refl
piece_by b false false false false true hl hg hq hs = refl
piece_by b false false false false false hl hg hq hs = rw (hl, hg, hq, hs) refl

piece_plain : (b : ℕ) → list_all (λ c. not (is_markup c)) (escaped_byte b) ≡ true
piece_plain b = piece_by b (b == 38) (b == 60) (b == 62) (b == 34) (b == 39) refl refl refl refl

-- Each byte of a text is written as itself or as a reference to a character, and neither has a byte that begins or ends markup: of a
-- reference by looking at the five, of a byte since it is then none of them.
-- So no text of the tables can close an attribute or begin an element of the page: all its markup is one of the page's constants.
pub escaped_plain : (text : List ℕ) → list_all (λ c. not (is_markup c)) (escaped text) ≡ true
escaped_plain [] = refl
escaped_plain (b ∷ text) =
    list_all-append (λ c. not (is_markup c)) (escaped_byte b) (escaped text)
    ∙ ap (λ (t : Bool). t && list_all (λ c. not (is_markup c)) (escaped text)) (piece_plain b)
    ∙ escaped_plain text

-- an ampersand does not stand for itself
lone_by : (b : ℕ) → b ≡ 38 → escaped_byte b ≡ b ∷ [] → ⊥
lone_by b same itself =
    let P : ℕ → Type 0 = λ n. escaped_byte n ≡ n ∷ [] → ⊥ in subst P (sym same) (λ (e : escaped_byte 38 ≡ 38 ∷ []). cc) itself

pub lone_byte : (b : ℕ) → escaped_byte b ≡ b ∷ [] → b ≢ 38
lone_byte b itself = λ same. lone_by b same itself
