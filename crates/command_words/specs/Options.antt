-- Promise: the options among the words behind a command.
use Rattle.std.specs.Prelude.{ℕ, Bool, true, false, not, ◌==◌, ◌&&◌, ◌||◌, List, [], ◌∷◌, length, codes, nat_le, Option, Some, None, unwrap_or, if◌then◌else◌}
use Rattle.std.specs.Char.{is_ascii_digit}
use Rattle.std.specs.List.{list_all, list_any}
use Rattle.std.specs.Option.{is_none, option_and_then, option_map}
use Rattle.std.specs.Str.{bytes_eq}
use Rattle.std.specs.Str.Parse.{digits_value}
use Rattle.plan_core.specs.Limits.{most_items}
use Rattle.price_rounds.specs.declared.effort.Effort.{Effort}
use Rattle.command_words.specs.declared.options.Allowed.{Allowed}
use Rattle.command_words.specs.declared.options.Allowed.TheVariants.{Nothing, Planning, Replanning, Making}
use Rattle.command_words.specs.declared.options.Given.{Given}
use Rattle.command_words.specs.declared.options.Settings.{Settings}

-- a word that begins with `-` and is longer than one byte
abbrev pub is_option : List ℕ → Bool
is_option [] = false
is_option (b ∷ []) = false
is_option (b ∷ c ∷ word) = b == 45

-- the three flags: options without a value
abbrev pub is_flag : List ℕ → Bool
is_flag word = bytes_eq word (codes "--run") || (bytes_eq word (codes "--climb") || bytes_eq word (codes "--flow"))

-- an option may have its value behind a `=`
abbrev pub has_mark : List ℕ → Bool
has_mark word = list_any (λ b. b == 61) word

abbrev pub before_mark : List ℕ → List ℕ
before_mark [] = []
before_mark (b ∷ word) = if b == 61 then [] else b ∷ before_mark word

abbrev pub behind_mark : List ℕ → List ℕ
behind_mark [] = []
behind_mark (b ∷ word) = if b == 61 then word else behind_mark word

-- an option without `=` that is no flag takes the word behind it as its value
abbrev pub takes_next : List ℕ → Bool
takes_next word = not (is_flag word) && not (has_mark word)

-- what is said before `--`: a plain word, a flag, or an option and its value
pub data Said : Type 0 where
  Plain : List ℕ → Said
  Flag : List ℕ → Said
  Setting : List ℕ → List ℕ → Said

-- What words say. Here an option waits for its value, or none does.
abbrev pub said_after : Option (List ℕ) → List (List ℕ) → List Said
said_after None [] = []
said_after None (word ∷ words) =
    if is_option word
    then
    (if is_flag word then Flag word ∷ said_after None words else
    (if has_mark word then Setting (before_mark word) (behind_mark word) ∷ said_after None words else said_after (Some word) words))
    else Plain word ∷ said_after None words
said_after (Some name) [] = Setting name [] ∷ []
said_after (Some name) (word ∷ words) = Setting name word ∷ said_after None words

abbrev pub said : List (List ℕ) → List Said
said words = said_after None words

-- the plain words
abbrev pub plain_of : List Said → List (List ℕ)
plain_of [] = []
plain_of (Plain word ∷ more) = word ∷ plain_of more
plain_of (Flag word ∷ more) = plain_of more
plain_of (Setting name value ∷ more) = plain_of more

-- one to four ASCII digits
abbrev pub number_word : List ℕ → Bool
number_word word = list_all is_ascii_digit word && (nat_le 1 (length word) && nat_le (length word) 4)

-- the number of an option that is given once
abbrev pub once : Option ℕ → List ℕ → Option ℕ
once None value = if number_word value then Some (digits_value 10 value) else None
once (Some number) value = None

-- one more option with a value: it is one of these five, and was not given before
abbrev pub with_setting : Given → List ℕ → List ℕ → Option Given
with_setting given name value =
    if bytes_eq name (codes "--workers") then option_map (λ n. record given { workers = Some n }) (once given.workers value) else
    (if bytes_eq name (codes "--rounds") then option_map (λ n. record given { rounds = Some n }) (once given.rounds value) else
    (if bytes_eq name (codes "--lower") then option_map (λ n. record given { lower = Some n }) (once given.lower value) else
    (if bytes_eq name (codes "--exchange") then option_map (λ n. record given { exchange = Some n }) (once given.exchange value) else
    (if bytes_eq name (codes "--trips") then option_map (λ n. record given { trips = Some n }) (once given.trips value) else None))))

-- that a made day is planned, which was not said before
abbrev pub with_run : Given → Option Given
with_run given = if given.run then None else Some (record given { run = true })

-- that plans are found by climbing, which was not said before
abbrev pub with_climb : Given → Option Given
with_climb given = if given.climb then None else Some (record given { climb = true })

-- that the blocks of a day with one pool are those of its flow plan, which was not said before
abbrev pub with_flow : Given → Option Given
with_flow given = if given.flow then None else Some (record given { flow = true })

-- one more flag
abbrev pub with_flag : Given → List ℕ → Option Given
with_flag given word =
    if bytes_eq word (codes "--run") then with_run given else
    (if bytes_eq word (codes "--climb") then with_climb given else
    (if bytes_eq word (codes "--flow") then with_flow given else None))

abbrev pub given_after : Given → List Said → Option Given
given_after given [] = Some given
given_after given (Plain word ∷ more) = given_after given more
given_after given (Flag word ∷ more) = option_and_then (λ next. given_after next more) (with_flag given word)
given_after given (Setting name value ∷ more) = option_and_then (λ next. given_after next more) (with_setting given name value)

-- the options of words, beside those before them and one that waits for its value
abbrev pub given_with : Given → Option (List ℕ) → List (List ℕ) → Option Given
given_with given waiting words = given_after given (said_after waiting words)

abbrev pub none_given : Given
none_given = record { workers = None; rounds = None; lower = None; exchange = None; climb = false; flow = false; trips = None; run = false }

-- no option of planning is given
abbrev pub plans_nothing : Given → Bool
plans_nothing given = is_none given.workers
    && (is_none given.rounds && (is_none given.lower && (is_none given.exchange && (not given.climb && not given.flow))))

-- no option of making a day is given
abbrev pub makes_nothing : Given → Bool
makes_nothing given = is_none given.trips && not given.run

-- a command takes no options, those of planning, those of planning but the flow, or those of making a day: all but the flow
abbrev pub is_allowed : Allowed → Given → Bool
is_allowed Nothing given = plans_nothing given && makes_nothing given
is_allowed Planning given = makes_nothing given
is_allowed Replanning given = makes_nothing given && not given.flow
is_allowed Making given = not given.flow

-- the effort that options ask for: 1 worker, 40 rounds, 20 lowering rounds and 20 exchange steps unless said; and climbing where it is said
abbrev pub effort_of : Given → Effort
effort_of given = record {
  workers = unwrap_or given.workers 1;
  rounds = unwrap_or given.rounds 40;
  lower = unwrap_or given.lower 20;
  exchange = unwrap_or given.exchange 20;
  climb = given.climb;
}

-- 1 to 64 workers, 1 to 200 rounds, 1 to 50 lowering rounds and at most 1,000 exchange steps
abbrev pub in_range : Effort → Bool
in_range effort =
    (nat_le 1 effort.workers && nat_le effort.workers 64)
    && ((nat_le 1 effort.rounds && nat_le effort.rounds 200)
    && ((nat_le 1 effort.lower && nat_le effort.lower 50) && nat_le effort.exchange 1000))

-- what options set: an effort; whether the flow is asked for; 240 trips of a made day unless said; and whether that day is planned
abbrev pub settings_of : Given → Settings
settings_of given = record { effort = effort_of given; flow = given.flow; trips = unwrap_or given.trips 240; run = given.run }

-- an effort in its ranges, and 1 to 3,000 trips
abbrev pub are_in_range : Settings → Bool
are_in_range settings = in_range settings.effort && (nat_le 1 settings.trips && nat_le settings.trips most_items)

abbrev pub settings_if : Allowed → Given → Option Settings
settings_if allowed given = if is_allowed allowed given && are_in_range (settings_of given) then Some (settings_of given) else None

-- What words set, by a command that takes these options.
abbrev pub settings_said : Allowed → List (List ℕ) → Option Settings
settings_said allowed words = option_and_then (settings_if allowed) (given_after none_given (said words))
