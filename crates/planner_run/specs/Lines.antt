-- Promise: the line on standard error that each refusal has.
use Rattle.std.specs.Prelude.{ℕ, ◌++◌, List, [], ◌∷◌, codes, decimal}
use Rattle.vdv451_text.specs.Names.{name_of as text_kind}
use Rattle.vdv452_rows.specs.Names.{name_of as table_kind}
use Rattle.day_calendar.specs.Names.{name_of as day_kind}
use Rattle.plan_params.specs.Names.{name_of as param_kind}
use Rattle.trip_times.specs.declared.trip.TripFault.{TripFault}
use Rattle.trip_times.specs.declared.trip.TripFault.TheVariants as trips
use Rattle.trip_times.specs.Names.{name_of as trip_kind}
use Rattle.day_method.specs.Names.{name_of as side_name}
use Rattle.cert_check.specs.Names.{name_of as reason_name, number_of as reason_number}
use Rattle.plan_command.specs.declared.fault.ItemName.{ItemName}
use Rattle.plan_command.specs.declared.fault.ItemName.TheVariants as items
use Rattle.planner_run.specs.declared.status.Status.{Status}
use Rattle.planner_run.specs.declared.status.Status.TheVariants as statuses
use Rattle.planner_run.specs.declared.status.InputFault.TheVariants as inputs
use Rattle.input_files.specs.Lines.{joined}

-- behind the name of a fault of a trip, the parts of the words for the section that has no run time
abbrev pub section_words : TripFault → List (List ℕ)
section_words (trips.NoRunTime from to) =
    codes " " ∷ decimal from.typ ∷ codes "/" ∷ decimal from.nr ∷ codes " to " ∷ decimal to.typ ∷ codes "/" ∷ decimal to.nr ∷ []
section_words _ = []

-- the parts of the words for a trip or a piece
abbrev pub item_words : ItemName → List (List ℕ)
item_words (items.Trip fid) = codes "trip " ∷ decimal fid ∷ []
item_words (items.Piece block index) = codes "block " ∷ decimal block ∷ codes " piece " ∷ decimal index ∷ []

-- The line of a refusal, for a day as its word has it.
abbrev pub line_of : List ℕ → Status → List ℕ
line_of day statuses.Ok = []
line_of day (statuses.CheckNo reason) = []
line_of day statuses.Usage = codes "usage: planner trips|day|plan|certify|check|make|replan|week\n"
line_of day (statuses.Input (inputs.Text file fault)) =
    joined (codes "file " ∷ decimal file ∷ codes " line " ∷ decimal fault.line ∷ codes ": " ∷ text_kind fault.kind ∷ codes "\n" ∷ [])
line_of day (statuses.Input (inputs.Table fault)) =
    joined
    (codes "table " ∷ fault.table ∷ codes " column " ∷ fault.column ∷ codes " row " ∷ decimal fault.row ∷ codes ": "
    ∷ table_kind fault.kind ∷ codes "\n" ∷ [])
line_of day (statuses.Input (inputs.Trips count)) = joined (codes "trips: " ∷ decimal count ∷ codes "\n" ∷ [])
line_of day (statuses.Input (inputs.Days first last)) =
    joined (codes "days: " ∷ decimal first ∷ codes " to " ∷ decimal last ∷ codes "\n" ∷ [])
line_of day (statuses.Input (inputs.Params fault)) =
    joined (codes "table " ∷ fault.table ∷ codes " row " ∷ decimal fault.row ∷ codes ": " ∷ param_kind fault.kind ∷ codes "\n" ∷ [])
line_of day (statuses.Input (inputs.Trip fid fault)) =
    joined (codes "trip " ∷ decimal fid ∷ codes ": " ∷ trip_kind fault ∷ (section_words fault ++ codes "\n" ∷ []))
line_of day (statuses.NoPlan side bound places) =
    joined (codes "no plan: " ∷ side_name side ∷ codes " bound " ∷ decimal bound ∷ codes " places " ∷ decimal places ∷ codes "\n" ∷ [])
line_of day (statuses.NotPlaced side item name partial) = joined (codes "not placed: " ∷ (item_words name ++ codes "\n" ∷ []))
line_of day (statuses.OldPlan reason) =
    joined (codes "old plan " ∷ decimal (reason_number reason) ∷ codes " " ∷ reason_name reason ∷ codes "\n" ∷ [])
line_of day (statuses.Day fault) = joined (codes "day " ∷ day ∷ codes ": " ∷ day_kind fault ∷ codes "\n" ∷ [])
line_of day (statuses.ReadFault file) = joined (codes "read fault: file " ∷ decimal file ∷ codes "\n" ∷ [])
line_of day statuses.WriteFault = codes "write fault\n"
line_of day statuses.Memory = codes "out of memory\n"
