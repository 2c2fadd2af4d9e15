-- What an outcome and its status say.
use Rattle.std.proofs.Common.{◌≡◌, ◌⊎◌, ℕ, List, Option, Result, Ok, Err, refl, subst, arith, inl, inr}
use Rattle.std.specs.Io.KnownBytes.{Appends}
use Rattle.clap.specs.Words.{Text}
use Rattle.ee_units.specs.declared.denoms.Denom.{Denom}
use Rattle.ee_value.specs.Chain.{rates_with}
use Rattle.ee_value.specs.declared.rates.Rates.{Rates}
use Rattle.ee_cli_value.specs.Values.{PrintsValue}
use Rattle.ee_cli_value.specs.declared.endings.Outcome as value_outcome
use Rattle.ee_cli_value.specs.declared.endings.Outcome.TheVariants as printed
use Rattle.ee_cli_value.specs.declared.endings.PrintFault.{PrintFault}
use Rattle.ee_cli_value.specs.Printed.{value_line}
use Rattle.ee_cli_actions.specs.declared.faults.Outcome.{Outcome}
use Rattle.ee_cli_actions.specs.declared.faults.Outcome.TheVariants as outcome
use Rattle.ee_cli_actions.specs.declared.faults.RunFault.{RunFault}
use Rattle.ee_cli_commands.specs.CommandLine.{Asked, value}
use Rattle.ee_cli_commands.specs.declared.commands.CommandFault.{CommandFault}
use Rattle.ee_cli_commands.specs.declared.commands.CommandFault.TheVariants as fault
use Rattle.ee_cli_commands.specs.Answer.{AsksForVersion, IsAnswer, IsAsked, IsRefused}
use Rattle.ee_cli_commands.proofs.Lemmas.{asks_for_help_alone, asks_for_version_alone, asks_for_one, asks_unrefused, never_asks_for_both}
use Rattle.ee_cli_program.specs.Statuses.{AsksToShow, Carries, Ends, IsRun, IsStatusFor, IsStatusOf, Refuses, ending_of_print, version_line}
use Rattle.ee_cli_program.specs.Inner.Statuses.{IsAnswered}

-- ---- the words determine what they ask for

one_command : (words : List Text) (asked other : Asked) → IsAsked words (Ok asked) → IsAsked words (Ok other) → asked ≡ other
one_command words asked other is also =
    let same = asks_for_one words (Ok asked) (Ok other) is also in cc

no_name : (words : List Text) (asked : Asked) (name : Text) → IsAsked words (Ok asked) → IsAsked words (Err name) → ⊥
no_name words asked name is bad =
    let same = asks_for_one words (Ok asked) (Err name) is bad in cc

-- the line was bad
abbrev IsBad : List Text → Type 0
IsBad words = ((name : Text) × IsAsked words (Err name)) ⊎ IsRefused words

nothing_asked : (words : List Text) (asked : Asked) → IsBad words → IsAsked words (Ok asked) → ⊥
nothing_asked words asked (inl bad) is = no_name words asked bad.0 is bad.1
nothing_asked words asked (inr refused) is = asks_unrefused words (Ok asked) refused.kind is refused.by

no_command : (words : List Text) (asked : Asked) → AsksToShow words → IsAsked words (Ok asked) → ⊥
no_command words asked (inl help) is = asks_unrefused words (Ok asked) _ is help
no_command words asked (inr version) is = asks_unrefused words (Ok asked) _ is version

nothing_bad : (words : List Text) → AsksToShow words → IsBad words → ⊥
nothing_bad words (inl help) (inl bad) = asks_unrefused words _ _ bad.1 help
nothing_bad words (inr version) (inl bad) = asks_unrefused words _ _ bad.1 version
nothing_bad words (inl help) (inr refused) = asks_for_help_alone words help refused
nothing_bad words (inr version) (inr refused) = asks_for_version_alone words version refused

-- ---- the statuses

-- a command that failed; an unsettled value that couldn't be reported; or words to which memory was refused
abbrev pub Fails : (Result Outcome RunFault → Type 0) → Type 0 → Type 0
Fails Carried Unread = ((fault : RunFault) × Carried (Err fault)) ⊎ (((age : ℕ) × Carried (Ok (outcome.Unsettled age))) ⊎ Unread)

at_three : (Carried : Result Outcome RunFault → Type 0) (Unread : Type 0) (status : ℕ) → Fails Carried Unread → status ≡ 3 → Ends Carried Unread status
at_three Carried Unread status fails three = record {
  done = λ zero. absurd (omega (arith, three, zero));
  refused = λ one. absurd (omega (arith, three, one));
  is_good_line = λ two. absurd (omega (arith, three, two));
  failed = λ _. fails;
}

pub is_failed : (words : List Text) (Carried : Asked → Result Outcome RunFault → Type 0) (Unread : Type 0) (status : ℕ)
    → ((asked : Asked) → IsAsked words (Ok asked) → Fails (Carried asked) Unread) → status ≡ 3 → IsRun words Carried Unread status
is_failed words Carried Unread status fails three = record {
  range = omega (arith, three);
  ends = λ asked is. at_three (Carried asked) Unread status (fails asked is) three;
  shows = λ _. inr three;
  refuses_line = λ bad. inr three;
  done = λ zero. absurd (omega (arith, three, zero));
  refused = λ one. absurd (omega (arith, three, one));
  bad_line = λ two. absurd (omega (arith, three, two));
}

is_done : (words : List Text) (Carried : Asked → Result Outcome RunFault → Type 0) (Unread : Type 0) (asked : Asked) (status : ℕ)
    → IsAsked words (Ok asked) → Carried asked (Ok outcome.Done) → status ≡ 0 → IsRun words Carried Unread status
is_done words Carried Unread asked status is w zero = record {
  range = omega (arith, zero);
  ends = λ other also. record {
    done = λ _. subst (λ (a : Asked). Carried a (Ok outcome.Done)) (one_command words asked other is also) w;
    refused = λ one. absurd (omega (arith, zero, one));
    is_good_line = λ two. absurd (omega (arith, zero, two));
    failed = λ three. absurd (omega (arith, zero, three));
  };
  shows = λ _. inl zero;
  refuses_line = λ bad. absurd (nothing_asked words asked bad is);
  done = λ _. inl (asked, is);
  refused = λ one. absurd (omega (arith, zero, one));
  bad_line = λ two. absurd (omega (arith, zero, two));
}

is_refused : (words : List Text) (Carried : Asked → Result Outcome RunFault → Type 0) (Unread : Type 0) (asked : Asked) (status : ℕ)
    → IsAsked words (Ok asked) → Refuses (Carried asked) → status ≡ 1 → IsRun words Carried Unread status
is_refused words Carried Unread asked status is w one = record {
  range = omega (arith, one);
  ends = λ other also. record {
    done = λ zero. absurd (omega (arith, one, zero));
    refused = λ _. subst (λ (a : Asked). Refuses (Carried a)) (one_command words asked other is also) w;
    is_good_line = λ two. absurd (omega (arith, one, two));
    failed = λ three. absurd (omega (arith, one, three));
  };
  shows = λ show. absurd (no_command words asked show is);
  refuses_line = λ bad. absurd (nothing_asked words asked bad is);
  done = λ zero. absurd (omega (arith, one, zero));
  refused = λ _. (asked, is);
  bad_line = λ two. absurd (omega (arith, one, two));
}

-- a command was carried out
concluded : (words : List Text) (Carried : Asked → Result Outcome RunFault → Type 0) (Unread : Type 0) (asked : Asked) (ended : Outcome) (status : ℕ)
    → IsAsked words (Ok asked) → Carried asked (Ok ended) → IsStatusFor ended status → IsRun words Carried Unread status
concluded words Carried Unread asked outcome.Done status is w h = is_done words Carried Unread asked status is w h
concluded words Carried Unread asked (outcome.Refused refusal) status is w h = is_refused words Carried Unread asked status is (inl (refusal, w)) h
concluded words Carried Unread asked outcome.NoMessage status is w h = is_refused words Carried Unread asked status is (inr (inl w)) h
concluded words Carried Unread asked (outcome.Unsettled age) status is w (inl one) = is_refused words Carried Unread asked status is (inr (inr (age, w))) one
concluded words Carried Unread asked (outcome.Unsettled age) status is w (inr three) =
    is_failed words Carried Unread status (λ other also. inr (inl (age, subst (λ (a : Asked). Carried a (Ok (outcome.Unsettled age))) (one_command words asked other is also) w))) three

-- a command was carried out, or failed
pub settled : (words : List Text) (Carried : Asked → Result Outcome RunFault → Type 0) (Unread : Type 0) (asked : Asked) (ended : Result Outcome RunFault) (status : ℕ)
    → IsAsked words (Ok asked) → Carried asked ended → IsStatusOf ended status → IsRun words Carried Unread status
settled words Carried Unread asked (Ok ended) status is w h = concluded words Carried Unread asked ended status is w h
settled words Carried Unread asked (Err cause) status is w h =
    is_failed words Carried Unread status (λ other also. inl (cause, subst (λ (a : Asked). Carried a (Err cause)) (one_command words asked other is also) w)) h

-- help or the version was asked for
shown_at_zero : (words : List Text) (Carried : Asked → Result Outcome RunFault → Type 0) (Unread : Type 0) (status : ℕ) → AsksToShow words → status ≡ 0 → IsRun words Carried Unread status
shown_at_zero words Carried Unread status show zero = record {
  range = omega (arith, zero);
  ends = λ asked is. absurd (no_command words asked show is);
  shows = λ _. inl zero;
  refuses_line = λ bad. absurd (nothing_bad words show bad);
  done = λ _. inr show;
  refused = λ one. absurd (omega (arith, zero, one));
  bad_line = λ two. absurd (omega (arith, zero, two));
}

pub shown : (words : List Text) (Carried : Asked → Result Outcome RunFault → Type 0) (Unread : Type 0) (status : ℕ) → AsksToShow words → (status ≡ 0) ⊎ (status ≡ 3) → IsRun words Carried Unread status
shown words Carried Unread status show (inl zero) = shown_at_zero words Carried Unread status show zero
shown words Carried Unread status show (inr three) = is_failed words Carried Unread status (λ asked is. absurd (no_command words asked show is)) three

bad_at_two : (words : List Text) (Carried : Asked → Result Outcome RunFault → Type 0) (Unread : Type 0) (status : ℕ) → IsBad words → status ≡ 2 → IsRun words Carried Unread status
bad_at_two words Carried Unread status bad two = record {
  range = omega (arith, two);
  ends = λ asked is. absurd (nothing_asked words asked bad is);
  shows = λ show. absurd (nothing_bad words show bad);
  refuses_line = λ _. inl two;
  done = λ zero. absurd (omega (arith, two, zero));
  refused = λ one. absurd (omega (arith, two, one));
  bad_line = λ _. bad;
}

pub refused_line : (words : List Text) (Carried : Asked → Result Outcome RunFault → Type 0) (Unread : Type 0) (status : ℕ)
    → ((name : Text) × IsAsked words (Err name)) ⊎ IsRefused words → (status ≡ 2) ⊎ (status ≡ 3) → IsRun words Carried Unread status
refused_line words Carried Unread status bad (inl two) = bad_at_two words Carried Unread status bad two
refused_line words Carried Unread status bad (inr three) = is_failed words Carried Unread status (λ asked is. absurd (nothing_asked words asked bad is)) three

-- ---- words that ask for no command

-- what a status says of them
pub answered : (words : List Text) (Carried : Asked → Result Outcome RunFault → Type 0) (Unread : Type 0) (why : CommandFault) (old new : Option (List ℕ)) (status : ℕ)
    → IsAnswer words (Err why) → (new ≡ old → Unread) → IsAnswered why old new status → IsRun words Carried Unread status
answered words Carried Unread (fault.Help text) old new status help unread h = shown words Carried Unread status (inl help) h
answered words Carried Unread fault.Version old new status version unread h = shown words Carried Unread status (inr version) h.0
answered words Carried Unread (fault.Line text) old new status refused unread h = refused_line words Carried Unread status (inr refused) h
answered words Carried Unread (fault.Argument name word) old new status bad unread h = refused_line words Carried Unread status (inl (name.now, bad.0)) h
answered words Carried Unread fault.NoMemory old new status _ unread h = is_failed words Carried Unread status (λ asked is. inr (inr (unread h.1))) h.0

-- of words that ask for the version, status 0 says that its line was printed
pub version_printed : (words : List Text) (why : CommandFault) (old new : Option (List ℕ)) (status : ℕ)
    → IsAnswer words (Err why) → IsAnswered why old new status → AsksForVersion words → status ≡ 0 → Appends old new version_line
version_printed words (fault.Help text) old new status help h version zero = absurd (never_asks_for_both words help version)
version_printed words fault.Version old new status is h version zero = h.1 zero
version_printed words (fault.Line text) old new status refused h version zero = absurd (asks_for_version_alone words version refused)
version_printed words (fault.Argument name word) old new status bad h version zero = absurd (asks_unrefused words _ _ bad.0 version)
version_printed words fault.NoMemory old new status _ h version zero = absurd (omega (arith, h.0, zero))

-- ---- the value's line

-- a value's command that was done printed its line
printed_where_done : (denom : Denom) (issued month : ℕ) (rates : Rates) (old new : Option (List ℕ)) (ended : Result value_outcome.Outcome PrintFault)
    → PrintsValue denom issued month rates old new ended → Ok outcome.Done ≡ ending_of_print ended → Appends old new (value_line denom issued month rates)
printed_where_done denom issued month rates old new (Ok printed.Done) line is = subst (Appends old new) (line.whole refl) line.written
printed_where_done denom issued month rates old new (Ok (printed.Unsettled age)) line is = absurd (cc)
printed_where_done denom issued month rates old new (Err cause) line is = absurd (cc)

-- of a value that was asked for, status 0 says that its line was printed
pub value_printed : (words : List Text) (old new : Option (List ℕ)) (Unread : Type 0) (status : ℕ) → IsRun words (Carries old new) Unread status
    → (denom : Denom) (issued month rate : ℕ) (extension : Option ℕ) → IsAsked words (Ok (value denom issued month rate extension)) → status ≡ 0
    → Appends old new (value_line denom issued month (rates_with rate extension))
value_printed words old new Unread status run denom issued month rate extension is zero =
    let shown = (run.ends (value denom issued month rate extension) is).done zero in
    printed_where_done denom issued month (rates_with rate extension) old new shown.0 shown.1 shown.2
