-- Promise: the tables and columns that are read, after VDV 452, and the tables of this project.
use Rattle.std.specs.Prelude.{ℕ, true, false, List, [], ◌∷◌, codes}
use Rattle.plan_core.specs.Limits.{most_places, most_rate, most_fixed_cost}
use Rattle.vdv452_rows.specs.declared.schema.Column.{Column}
use Rattle.vdv452_rows.specs.declared.schema.Domain.{Domain}
use Rattle.vdv452_rows.specs.declared.schema.Domain.TheVariants.{UpTo, LongUpTo, AnyWord, Unseen}
use Rattle.vdv452_rows.specs.declared.schema.Schema.{Schema}

-- a column of the key
abbrev pub key_of : List ℕ → Domain → Column
key_of name domain = record { name = name; domain = domain; is_key = true; may_be_empty = false; may_be_missing = false }

-- a number of 32 bits in the key
abbrev pub key : List ℕ → Column
key name = key_of name (UpTo 4294967295)

-- the number of a trip in the key
abbrev pub trip_key : List ℕ → Column
trip_key name = key_of name (LongUpTo 1000000000000000000)

-- a name in the key
abbrev pub word_key : List ℕ → Column
word_key name = key_of name AnyWord

-- a column beside the key
abbrev pub plain : List ℕ → Domain → Column
plain name domain = record { name = name; domain = domain; is_key = false; may_be_empty = false; may_be_missing = false }

-- a number of 32 bits
abbrev pub number : List ℕ → Column
number name = plain name (UpTo 4294967295)

-- seconds of the operating day
abbrev pub seconds : List ℕ → Column
seconds name = plain name (UpTo 172800)

-- how many there are
abbrev pub count : List ℕ → Column
count name = plain name (UpTo most_places)

-- cost units for each
abbrev pub fixed_costs : List ℕ → Column
fixed_costs name = plain name (UpTo most_fixed_cost)

-- cost units a second
abbrev pub rate : List ℕ → Column
rate name = plain name (UpTo most_rate)

-- metres, or nothing where they are not known
abbrev pub some_metres : List ℕ → Column
some_metres name = record { name = name; domain = UpTo 1000000; is_key = false; may_be_empty = true; may_be_missing = false }

-- a column that must be there; its values may be anything
abbrev pub unseen : List ℕ → Column
unseen name = record { name = name; domain = Unseen; is_key = false; may_be_empty = true; may_be_missing = false }

-- 0 or 1; 0 where the field is empty or the table lacks the column
abbrev pub flag : List ℕ → Column
flag name = record { name = name; domain = UpTo 1; is_key = false; may_be_empty = true; may_be_missing = true }

abbrev pub needed : List ℕ → List Column → Schema
needed name columns = record { name = name; is_optional = false; columns = columns }

abbrev pub optional : List ℕ → List Column → Schema
optional name columns = record { name = name; is_optional = true; columns = columns }

-- The tables after VDV 452.
abbrev pub versions : Schema
versions = needed (codes "BASIS_VER_GUELTIGKEIT") (key (codes "VER_GUELTIGKEIT") ∷ number (codes "BASIS_VERSION") ∷ [])

abbrev pub days : Schema
days = needed (codes "FIRMENKALENDER") (key (codes "BASIS_VERSION") ∷ key (codes "BETRIEBSTAG") ∷ number (codes "TAGESART_NR") ∷ [])

abbrev pub points : Schema
points = needed (codes "REC_ORT") (key (codes "BASIS_VERSION") ∷ key (codes "ONR_TYP_NR") ∷ key (codes "ORT_NR") ∷ [])

abbrev pub sections : Schema
sections =
    needed
    (codes "REC_SEL")
    (
    key (codes "BASIS_VERSION") ∷ key (codes "BEREICH_NR") ∷ key (codes "ONR_TYP_NR") ∷ key (codes "ORT_NR") ∷ key (codes "SEL_ZIEL")
    ∷ key (codes "SEL_ZIEL_TYP")
    ∷ some_metres (codes "SEL_LAENGE") ∷ []
    )

abbrev pub runs : Schema
runs =
    needed
    (codes "SEL_FZT_FELD")
    (
    key (codes "BASIS_VERSION") ∷ key (codes "BEREICH_NR") ∷ key (codes "FGR_NR") ∷ key (codes "ONR_TYP_NR")
    ∷ key (codes "ORT_NR") ∷ key (codes "SEL_ZIEL")
    ∷ key (codes "SEL_ZIEL_TYP") ∷ seconds (codes "SEL_FZT") ∷ []
    )

abbrev pub group_dwells : Schema
group_dwells =
    optional
    (codes "ORT_HZTF")
    (key (codes "BASIS_VERSION") ∷ key (codes "FGR_NR") ∷ key (codes "ONR_TYP_NR") ∷ key (codes "ORT_NR") ∷ seconds (codes "HP_HZT") ∷ [])

abbrev pub trip_dwells : Schema
trip_dwells =
    optional
    (codes "REC_FRT_HZT")
    (key (codes "BASIS_VERSION") ∷ trip_key (codes "FRT_FID") ∷ key (codes "ONR_TYP_NR") ∷ key (codes "ORT_NR")
    ∷ seconds (codes "FRT_HZT_ZEIT") ∷ [])

abbrev pub lines : Schema
lines = needed (codes "REC_LID")
    (key (codes "BASIS_VERSION") ∷ key (codes "LI_NR") ∷ word_key (codes "STR_LI_VAR") ∷ number (codes "BEREICH_NR") ∷ [])

abbrev pub stops : Schema
stops =
    needed
    (codes "LID_VERLAUF")
    (
    key (codes "BASIS_VERSION") ∷ key (codes "LI_LFD_NR") ∷ key (codes "LI_NR") ∷ word_key (codes "STR_LI_VAR")
    ∷ number (codes "ONR_TYP_NR")
    ∷ number (codes "ORT_NR") ∷ []
    )

abbrev pub trips : Schema
trips =
    needed
    (codes "REC_FRT")
    (
    key (codes "BASIS_VERSION") ∷ trip_key (codes "FRT_FID") ∷ seconds (codes "FRT_START") ∷ number (codes "LI_NR")
    ∷ number (codes "TAGESART_NR")
    ∷ number (codes "FAHRTART_NR") ∷ number (codes "FGR_NR") ∷ plain (codes "STR_LI_VAR") AnyWord ∷ unseen (codes "UM_UID") ∷ []
    )

abbrev pub deads : Schema
deads =
    needed
    (codes "UEB_FZT")
    (
    key (codes "BASIS_VERSION") ∷ key (codes "BEREICH_NR") ∷ key (codes "FGR_NR") ∷ key (codes "ONR_TYP_NR") ∷ key (codes "ORT_NR")
    ∷ key (codes "UEB_ZIEL_TYP") ∷ key (codes "UEB_ZIEL") ∷ seconds (codes "UEB_FAHRZEIT") ∷ []
    )

abbrev pub types : Schema
types = needed (codes "MENGE_FZG_TYP") (key (codes "BASIS_VERSION") ∷ key (codes "FZG_TYP_NR") ∷ [])

-- The tables of this project. X_PLAN has no key.
abbrev pub plan : Schema
plan =
    needed
    (codes "X_PLAN")
    (
    number (codes "UEB_BEREICH_NR") ∷ number (codes "UEB_FGR_NR") ∷ seconds (codes "WENDE_SEK") ∷ seconds (codes "MAX_WARTE_SEK")
    ∷ seconds (codes "UEBERGABE_SEK") ∷ []
    )

abbrev pub depots : Schema
depots =
    needed
    (codes "X_HOF")
    (
    key (codes "HOF_NR") ∷ number (codes "ONR_TYP_NR") ∷ number (codes "ORT_NR") ∷ number (codes "FZG_TYP_NR") ∷ count (codes "ANZAHL")
    ∷ fixed_costs (codes "FIX_KOSTEN") ∷ rate (codes "LEER_SATZ") ∷ rate (codes "STAND_SATZ") ∷ []
    )

abbrev pub line_types : Schema
line_types = optional (codes "X_LINIE_FZG") (key (codes "LI_NR") ∷ key (codes "FZG_TYP_NR") ∷ [])

abbrev pub reliefs : Schema
reliefs = optional (codes "X_ABLOESE") (key (codes "ONR_TYP_NR") ∷ key (codes "ORT_NR") ∷ [])

abbrev pub ways : Schema
ways =
    optional
    (codes "X_WEG")
    (key (codes "ONR_TYP_NR") ∷ key (codes "ORT_NR") ∷ key (codes "ZIEL_TYP") ∷ key (codes "ZIEL_NR") ∷ seconds (codes "WEG_SEK") ∷ [])

abbrev pub drivers : Schema
drivers =
    needed
    (codes "X_FAHRER")
    (
    key (codes "GRUPPE_NR") ∷ number (codes "ONR_TYP_NR") ∷ number (codes "ORT_NR") ∷ count (codes "ANZAHL")
    ∷ fixed_costs (codes "FIX_KOSTEN")
    ∷ rate (codes "SATZ") ∷ seconds (codes "ANMELDE_SEK") ∷ seconds (codes "ABMELDE_SEK") ∷ flag (codes "ZEHN_STD")
    ∷ flag (codes "KURZE_RUHE") ∷ []
    )
