-- A request for a day that is made has the day of its calendar, names no file, and has at most 3,000 trips.
use Rattle.std.proofs.Common.{◌≡◌, ℕ, ◌≤◌, ◌&&◌, Bool, true, false, List, [], ◌∷◌, Option, Some, None, refl, subst, arith, if◌then◌else◌, nat_le}
use Rattle.std.specs.Prelude.{drop, option_map}
use Rattle.std.specs.Str.Parse.{digits_value}
use Rattle.std.proofs.lemmas.Bool.Decides.{nat_tests}
use Rattle.std.proofs.lemmas.Option.{same_Some}
use Rattle.std.proofs.lemmas.Bool.{and_parts}
use Rattle.plan_core.proofs.Options.{and_then_some}
use Rattle.price_rounds.specs.declared.effort.Effort.{Effort}
use Rattle.command_words.specs.Options.{are_in_range, given_after, in_range, is_allowed, none_given, said, settings_if, settings_of, settings_said}
use Rattle.command_words.specs.Words.{allowed_of, are_day_and_files, asked, asked_of, before_end, check_request, day_request, file_word, first_word, is_roster, make_request, moment_word, name_of, plain_words, replan_request, request_for, seed_said, week_request}
use Rattle.command_words.specs.declared.command.Command.{Command}
use Rattle.command_words.specs.declared.command.Command.TheVariants as commands
use Rattle.command_words.specs.declared.options.Allowed.{Allowed}
use Rattle.command_words.specs.declared.options.Settings.{Settings}
use Rattle.command_words.specs.declared.request.Request.{Request}
use Rattle.command_words.specs.declared.words.CommandName.{CommandName}
use Rattle.command_words.specs.declared.words.CommandName.TheVariants as names
use Rattle.command_words.specs.MadeRequests.{IsMadeRequest, makes}

if_some : {A : Type 0} (b : Bool) (x y : A) → (if b then Some x else None) ≡ Some y → (b ≡ true) × (x ≡ y)
if_some true x y e = (refl, same_Some x y e)
if_some false x y e = absurd (cc)

-- The request.
-- what options set has at most 3,000 trips
-- A request exists only where the ranges of what its options say were tested, and one of these tests is that there are at most 3,000
-- trips. The proof takes the definition of what options say apart down to that test.
few_said : (allowed : Allowed) (words : List (List ℕ)) (settings : Settings) → settings_said allowed words ≡ Some settings →
    settings.trips ≤ 3000
few_said allowed words settings e =
    let (given, is, made) = and_then_some (settings_if allowed) (given_after none_given (said words)) settings e in
    let (tests, same) = if_some (is_allowed allowed given && are_in_range (settings_of given)) (settings_of given) settings made in
    let ranges = (and_parts (is_allowed allowed given) (are_in_range (settings_of given)) tests).1 in
    let trips = (and_parts (in_range (settings_of given).effort)
    (nat_le 1 (settings_of given).trips && nat_le (settings_of given).trips 3000) ranges).1 in
    let few : nat_le (settings_of given).trips 3000 ≡ true =
    (and_parts (nat_le 1 (settings_of given).trips) (nat_le (settings_of given).trips 3000) trips).1 in
    let low : (settings_of given).trips ≤ 3000 = grind (arith, nat_tests) in
    let P : Settings → Type 0 = λ settings. settings.trips ≤ 3000 in
    subst P same low

-- a request by a command that makes no day makes none
day_makes_none : (command : Command) (settings : Settings) (words : List (List ℕ)) (r : Request) → makes command ≡ false →
    day_request command settings words ≡ Some r → makes r.command ≡ false
day_makes_none command settings words r none e =
    let made : Request = record {
      command = command;
      effort = settings.effort;
      flow = settings.flow;
      day =
          digits_value 10 (first_word words);
      names = drop 1 words;
    } in
    let (test, same) = if_some (are_day_and_files words) made r e in
    let P : Request → Type 0 = λ r. makes r.command ≡ false in
    subst P same none

check_makes_none : (effort : Effort) (words : List (List ℕ)) (r : Request) → check_request effort words ≡ Some r → makes r.command ≡ false
check_makes_none effort [] r e = absurd (cc)
check_makes_none effort (day ∷ []) r e = absurd (cc)
check_makes_none effort (day ∷ plan ∷ []) r e = absurd (cc)
check_makes_none effort (day ∷ plan ∷ cert ∷ files) r e =
    let (test, same) = if_some (are_day_and_files (day ∷ files) && (file_word plan && file_word cert)) _ r e in
    let P : Request → Type 0 = λ r. makes r.command ≡ false in
    subst P same refl

replan_makes_none : (effort : Effort) (words : List (List ℕ)) (r : Request) → replan_request effort words ≡ Some r → makes r.command ≡ false
replan_makes_none effort [] r e = absurd (cc)
replan_makes_none effort (day ∷ []) r e = absurd (cc)
replan_makes_none effort (day ∷ moment ∷ []) r e = absurd (cc)
replan_makes_none effort (day ∷ moment ∷ plan ∷ files) r e =
    let (test, same) = if_some (are_day_and_files (day ∷ files) && (moment_word moment && file_word plan)) _ r e in
    let P : Request → Type 0 = λ r. makes r.command ≡ false in
    subst P same refl

week_makes_none : (effort : Effort) (words : List (List ℕ)) (r : Request) → week_request effort words ≡ Some r → makes r.command ≡ false
week_makes_none effort words r e =
    let (test, same) = if_some (is_roster words) _ r e in
    let P : Request → Type 0 = λ r. makes r.command ≡ false in
    subst P same refl

seeded : (settings : Settings) (o : Option ℕ) (r : Request) → option_map (make_request settings) o ≡ Some r →
    (seed : ℕ) × (make_request settings seed ≡ r)
seeded settings None r e = absurd (cc)
seeded settings (Some seed) r e = (seed, same_Some (make_request settings seed) r e)

named : (name : CommandName) (settings : Settings) (words : List (List ℕ)) (r : Request) → settings.trips ≤ 3000 →
    request_for name settings words ≡ Some r → makes r.command ≡ true → IsMadeRequest r
named names.Trips settings words r few e makes_one = let none = day_makes_none commands.Trips settings words r refl e in absurd (cc)
named names.Day settings words r few e makes_one = let none = day_makes_none commands.Day settings words r refl e in absurd (cc)
named names.Plan settings words r few e makes_one = let none = day_makes_none commands.Plan settings words r refl e in absurd (cc)
named names.Certify settings words r few e makes_one = let none = day_makes_none commands.Certify settings words r refl e in absurd (cc)
named names.Check settings words r few e makes_one = let none = check_makes_none settings.effort words r e in absurd (cc)
named names.Replan settings words r few e makes_one = let none = replan_makes_none settings.effort words r e in absurd (cc)
named names.Week settings words r few e makes_one = let none = week_makes_none settings.effort words r e in absurd (cc)
named names.Make settings words r few e makes_one =
    let (seed, is) = seeded settings (seed_said words) r e in
    let P : Request → Type 0 = λ r. IsMadeRequest r in
    subst P is (record {
      seed = seed;
      trips = settings.trips;
      run = settings.run;
      few = few;
      command_is =
          refl;
      day_is = refl;
      names_are = refl;
    })

-- By the name of the command: each of the others gives requests of its own command, which makes no day; `make` gives one with the day
-- of its calendar, no file, and the number of trips that options say (`few_said`). `run` has from it that nothing can refuse a made
-- day.
pub made_request : (words : List (List ℕ)) (r : Request) → asked words ≡ Some r → makes r.command ≡ true → IsMadeRequest r
made_request [] r e makes_one = absurd (cc)
made_request (word ∷ words) r e makes_one =
    let (name, is_name, e1) = and_then_some (λ (name : CommandName). asked_of name words) (name_of word) r e in
    let (settings, is_said, e2) =
    and_then_some (λ (settings : Settings). request_for name settings (plain_words words))
    (settings_said (allowed_of name) (before_end words)) r e1 in
    named name settings (plain_words words) r (few_said (allowed_of name) (before_end words) settings is_said) e2 makes_one
