-- Promise: the parts that a page is made of, and their bytes.
use Rattle.std.specs.Prelude.{ℕ, ◌+◌, ◌-◌, ◌/◌, ◌%◌, ◌==◌, nat_lt, List, [], ◌∷◌, ◌++◌, Option, Some, None, if◌then◌else◌, option_and_then, slice_get, codes, decimal}
use Rattle.std.specs.Fmt.{signed_decimal}
use Rattle.std.specs.List.{flat_map, filter_map}
use Rattle.vdv451_text.specs.declared.table.Field.{Field}
use Rattle.vdv451_text.specs.declared.table.Field.TheVariants.{Num, Text, Raw, Empty}
use Rattle.vdv451_text.specs.declared.table.Table.{Table}
use Rattle.vdv452_rows.specs.Rows.{field_at}
use Rattle.chart_page.specs.declared.parts.Bar.{Bar}
use Rattle.chart_page.specs.declared.parts.BarKind.{BarKind}
use Rattle.chart_page.specs.declared.parts.BarKind.TheVariants as kinds
use Rattle.chart_page.specs.declared.parts.Part.{Part}
use Rattle.chart_page.specs.declared.parts.Part.TheVariants.{Own, Number, Clock, Lasting, Shape, Variant}
use Rattle.chart_page.specs.Marks.{text_of}

-- A byte as text of a page: the five bytes that markup is made of as references to characters (HTML, section 13.5).
abbrev pub escaped_byte : ℕ → List ℕ
escaped_byte b =
    if b == 38 then codes "&amp;"
    else if b == 60 then codes "&lt;"
    else if b == 62 then codes "&gt;"
    else if b == 34 then codes "&quot;"
    else if b == 39 then codes "&#39;"
    else b ∷ []

abbrev pub escaped : List ℕ → List ℕ
escaped text = flat_map escaped_byte text

-- a field as text: a number in decimal, other bytes escaped
abbrev pub shown : Option Field → List ℕ
shown None = []
shown (Some (Num n)) = signed_decimal n
shown (Some (Text text)) = escaped text
shown (Some (Raw bytes)) = escaped bytes
shown (Some Empty) = []

-- what the trip at a place among the rows of REC_FRT has in STR_LI_VAR
abbrev pub variant_at : Table → ℕ → Option Field
variant_at table place = option_and_then (λ row. field_at table.columns row (codes "STR_LI_VAR")) (slice_get table.rows place)

-- a number below 100 in two digits
abbrev pub two : ℕ → List ℕ
two n = if nat_lt n 10 then 48 ∷ decimal n else decimal n

-- seconds behind hours and minutes, where there are any
abbrev pub seconds : ℕ → List ℕ
seconds n = if n == 0 then [] else 58 ∷ two n

-- a number of seconds as hours and minutes: 9,900 are 02:45
abbrev pub lasting : ℕ → List ℕ
lasting n = two (n / 3600) ++ 58 ∷ two (n / 60 % 60) ++ seconds (n % 60)

-- A moment as a time of the operating day. Moments count from 280 hours before its midnight, and those before it have a sign.
abbrev pub clock : ℕ → List ℕ
clock moment = if nat_lt moment 1008000 then 45 ∷ lasting (1008000 - moment) else lasting (moment - 1008000)

-- the class of a bar in the style sheet
abbrev pub class_of : BarKind → List ℕ
class_of kinds.PullOut = codes "pull-out"
class_of kinds.Trip = codes "trip"
class_of kinds.Deadhead = codes "deadhead"
class_of kinds.Stand = codes "stand"
class_of kinds.PullIn = codes "pull-in"
class_of kinds.Duty = codes "duty"
class_of kinds.Pause = codes "pause"
class_of kinds.Break = codes "break"
class_of kinds.Piece = codes "piece"

-- along the top of a bar, from its left moment to its right one
abbrev pub sides : Bar → List ℕ
sides bar = decimal bar.left ++ codes " " ++ decimal bar.lane ++ codes ".1H" ++ decimal bar.right

-- down, and back to the left moment
abbrev pub back : ℕ → List ℕ
back left = codes "v.8H" ++ decimal left ++ codes "z'"

-- A bar as a path (SVG, section 9.3): a unit along is a second, a unit down is a lane.
abbrev pub shape : Bar → List ℕ
shape bar = codes "<path class='" ++ class_of bar.kind ++ codes "' d='M" ++ sides bar ++ back bar.left

-- the bytes of a part of a page, where the trips stand in this table
unfoldable pub spelled : Table → Part → List ℕ
spelled table (Own mark) = text_of mark
spelled table (Number n) = decimal n
spelled table (Clock moment) = clock moment
spelled table (Lasting n) = lasting n
spelled table (Shape bar) = shape bar
spelled table (Variant place) = shown (variant_at table place)

-- the bytes of parts, one after another
unfoldable pub written : Table → List Part → List ℕ
written table parts = flat_map (spelled table) parts

-- the bar of a part that is one
abbrev pub bar_in : Part → Option Bar
bar_in (Own mark) = None
bar_in (Number n) = None
bar_in (Clock moment) = None
bar_in (Lasting n) = None
bar_in (Shape bar) = Some bar
bar_in (Variant place) = None

-- the bars among parts
abbrev pub bars_in : List Part → List Bar
bars_in parts = filter_map bar_in parts
