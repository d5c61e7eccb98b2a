-- Promise: the words of the command line.
use Rattle.std.specs.Prelude.{ℕ, ◌≡◌, ◌≤◌, Bool, true, false, ◌==◌, ◌&&◌, List, [], ◌∷◌, ◌++◌, drop, length, codes, nat_le, Option, Some, None, if◌then◌else◌}
use Rattle.std.specs.Char.{is_ascii_digit}
use Rattle.std.specs.List.{list_all}
use Rattle.std.specs.Option.{option_and_then, option_map}
use Rattle.std.specs.Str.{bytes_eq}
use Rattle.std.specs.Str.Parse.{digits_value}
use Rattle.plan_core.specs.Limits.{most_items}
use Rattle.price_rounds.specs.declared.effort.Effort.{Effort}
use Rattle.command_words.specs.Options.{plain_of, said, settings_said}
use Rattle.command_words.specs.declared.options.Allowed.{Allowed}
use Rattle.command_words.specs.declared.options.Allowed.TheVariants.{Nothing, Planning, Replanning, Making}
use Rattle.command_words.specs.declared.options.Settings.{Settings}
use Rattle.command_words.specs.declared.command.Command.{Command}
use Rattle.command_words.specs.declared.command.Command.TheVariants as commands
use Rattle.command_words.specs.declared.words.CommandName.{CommandName}
use Rattle.command_words.specs.declared.words.CommandName.TheVariants.{Trips, Day, Plan, Certify, Check, Replan, Make, Week}
use Rattle.command_words.specs.declared.request.Request.{Request}

-- the word that ends the options
abbrev pub ends_options : List ℕ → Bool
ends_options word = bytes_eq word (codes "--")

-- the words before the first `--`
abbrev pub before_end : List (List ℕ) → List (List ℕ)
before_end [] = []
before_end (word ∷ words) = if ends_options word then [] else word ∷ before_end words

-- the words behind it
abbrev pub behind_end : List (List ℕ) → List (List ℕ)
behind_end [] = []
behind_end (word ∷ words) = if ends_options word then words else behind_end words

-- The words that are no option: those before the first `--` that are neither an option nor its value, and all words behind it.
abbrev pub plain_words : List (List ℕ) → List (List ℕ)
plain_words words = plain_of (said (before_end words)) ++ behind_end words

-- eight ASCII digits
abbrev pub day_word : List ℕ → Bool
day_word word = (length word == 8) && list_all is_ascii_digit word

-- the name of a file is not empty
abbrev pub file_word : List ℕ → Bool
file_word [] = false
file_word (b ∷ word) = true

-- a day, and 1 to 64 files
abbrev pub are_day_and_files : List (List ℕ) → Bool
are_day_and_files [] = false
are_day_and_files (day ∷ files) = day_word day && (list_all file_word files && (nat_le 1 (length files) && nat_le (length files) 64))

-- one to nine ASCII digits
abbrev pub seed_word : List ℕ → Bool
seed_word word = list_all is_ascii_digit word && (nat_le 1 (length word) && nat_le (length word) 9)

-- a moment of the operating day: one to six ASCII digits that spell at most 172,800
abbrev pub moment_word : List ℕ → Bool
moment_word word = list_all is_ascii_digit word
    && ((nat_le 1 (length word) && nat_le (length word) 6) && nat_le (digits_value 10 word) 172800)

-- there are no words
abbrev pub no_words : List (List ℕ) → Bool
no_words [] = true
no_words (word ∷ words) = false

-- the number that one word alone gives as a seed
abbrev pub seed_said : List (List ℕ) → Option ℕ
seed_said [] = None
seed_said (seed ∷ others) = if seed_word seed && no_words others then Some (digits_value 10 seed) else None

-- the name of a command that a word is
abbrev pub name_of : List ℕ → Option CommandName
name_of word =
    if bytes_eq word (codes "trips") then Some Trips else
    (if bytes_eq word (codes "day") then Some Day else
    (if bytes_eq word (codes "plan") then Some Plan else
    (if bytes_eq word (codes "certify") then Some Certify else
    (if bytes_eq word (codes "check") then Some Check else
    (if bytes_eq word (codes "replan") then Some Replan else
    (if bytes_eq word (codes "make") then Some Make else
    (if bytes_eq word (codes "week") then Some Week else None)))))))

-- planning takes options, with a certificate too; replanning takes them but the flow; and making a day takes others
abbrev pub allowed_of : CommandName → Allowed
allowed_of Trips = Nothing
allowed_of Day = Nothing
allowed_of Plan = Planning
allowed_of Certify = Planning
allowed_of Check = Nothing
allowed_of Replan = Replanning
allowed_of Make = Making
allowed_of Week = Nothing

-- the first of the words
abbrev pub first_word : List (List ℕ) → List ℕ
first_word [] = []
first_word (word ∷ words) = word

-- the word that stands for the day
abbrev pub day_said : List (List ℕ) → List ℕ
day_said words = first_word (plain_words (drop 1 words))

-- a request for a day and files
abbrev pub day_request : Command → Settings → List (List ℕ) → Option Request
day_request command settings words =
    if are_day_and_files words
    then Some (record {
      command = command;
      effort = settings.effort;
      flow = settings.flow;
      day =
          digits_value 10 (first_word words);
      names = drop 1 words;
    })
    else None

-- A request to check a plan and its certificate: a day, the plan, the certificate, and 1 to 64 files. The files are read first.
abbrev pub check_request : Effort → List (List ℕ) → Option Request
check_request effort [] = None
check_request effort (day ∷ []) = None
check_request effort (day ∷ plan ∷ []) = None
check_request effort (day ∷ plan ∷ cert ∷ files) =
    if are_day_and_files (day ∷ files) && (file_word plan && file_word cert)
    then Some (record {
      command = commands.Check;
      effort = effort;
      flow = false;
      day = digits_value 10 day;
      names =
          files ++ plan ∷ cert ∷ [];
    })
    else None

-- A request to plan the rest of a day anew: a day, a moment, the plan, and 1 to 64 files. The files are read first.
abbrev pub replan_request : Effort → List (List ℕ) → Option Request
replan_request effort [] = None
replan_request effort (day ∷ []) = None
replan_request effort (day ∷ moment ∷ []) = None
replan_request effort (day ∷ moment ∷ plan ∷ files) =
    if are_day_and_files (day ∷ files) && (moment_word moment && file_word plan)
    then Some (record {
      command = commands.Replan (digits_value 10 moment);
      effort = effort;
      flow = false;
      day =
          digits_value 10 day;
      names = files ++ plan ∷ [];
    })
    else None

-- the day of a calendar that is made
abbrev pub made_day : ℕ
made_day = 20260302

-- a request for a day that is made from a seed: no file is read
abbrev pub make_request : Settings → ℕ → Request
make_request settings seed = record {
  command = commands.Make (record { seed = seed; trips = settings.trips; run = settings.run });
  effort = settings.effort;
  flow = false;
  day = made_day;
  names = [];
}

-- one word alone, which is the name of a file
abbrev pub is_roster : List (List ℕ) → Bool
is_roster [] = false
is_roster (file ∷ others) = file_word file && no_words others

-- a request for a roster, which has days of its own
abbrev pub week_request : Effort → List (List ℕ) → Option Request
week_request effort words =
    if is_roster words then Some (record { command = commands.Week; effort = effort; flow = false; day = 0; names = words }) else None

-- a request by the name of its command, what its options set, and its plain words
abbrev pub request_for : CommandName → Settings → List (List ℕ) → Option Request
request_for Trips settings words = day_request commands.Trips settings words
request_for Day settings words = day_request commands.Day settings words
request_for Plan settings words = day_request commands.Plan settings words
request_for Certify settings words = day_request commands.Certify settings words
request_for Check settings words = check_request settings.effort words
request_for Replan settings words = replan_request settings.effort words
request_for Make settings words = option_map (make_request settings) (seed_said words)
request_for Week settings words = week_request settings.effort words

-- what the words behind the name of a command ask for
abbrev pub asked_of : CommandName → List (List ℕ) → Option Request
asked_of name words = option_and_then (λ settings. request_for name settings (plain_words words))
    (settings_said (allowed_of name) (before_end words))

-- What words ask for: a command by the very first of them, then its options in any place, and a day and files, with a plan and its
-- certificate where these are checked, and with a moment and a plan where the rest of a day is planned anew; a seed; or a roster.
abbrev pub asked : List (List ℕ) → Option Request
asked [] = None
asked (word ∷ words) = option_and_then (λ name. asked_of name words) (name_of word)

-- a day that is made has at most 3,000 trips
abbrev pub HasFewTrips : Command → Type 0
HasFewTrips (commands.Make making) = making.trips ≤ most_items
HasFewTrips commands.Trips = Unit {0}
HasFewTrips commands.Day = Unit {0}
HasFewTrips commands.Plan = Unit {0}
HasFewTrips commands.Certify = Unit {0}
HasFewTrips commands.Check = Unit {0}
HasFewTrips (commands.Replan moment) = Unit {0}
HasFewTrips commands.Week = Unit {0}

-- the moment from which the rest of a day is planned anew, in seconds of the operating day, is at most 172,800
abbrev pub HasMoment : Command → Type 0
HasMoment (commands.Replan moment) = moment ≤ 172800
HasMoment commands.Trips = Unit {0}
HasMoment commands.Day = Unit {0}
HasMoment commands.Plan = Unit {0}
HasMoment commands.Certify = Unit {0}
HasMoment commands.Check = Unit {0}
HasMoment (commands.Make making) = Unit {0}
HasMoment commands.Week = Unit {0}

-- How many names a request has: none of a day that is made, one roster, or 1 to 64 files, and beside them a plan and its certificate, or a
-- plan alone.
abbrev pub HasNames : Command → ℕ → Type 0
HasNames (commands.Make making) n = n ≡ 0
HasNames commands.Trips n = (1 ≤ n) × (n ≤ 64)
HasNames commands.Day n = (1 ≤ n) × (n ≤ 64)
HasNames commands.Plan n = (1 ≤ n) × (n ≤ 64)
HasNames commands.Certify n = (1 ≤ n) × (n ≤ 64)
HasNames commands.Check n = (3 ≤ n) × (n ≤ 66)
HasNames (commands.Replan moment) n = (2 ≤ n) × (n ≤ 65)
HasNames commands.Week n = n ≡ 1

-- a command for which 1 to 64 names are right
abbrev pub ReadsFiles : Command → Type 0
ReadsFiles command = (n : ℕ) → 1 ≤ n → n ≤ 64 → HasNames command n
