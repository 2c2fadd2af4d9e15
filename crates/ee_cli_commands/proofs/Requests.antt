-- Words that call for help or for the version are not refused for another cause: a list of faults that has such a call has nothing else.
use Rattle.std.proofs.Common.{◌≡◌, ◌∙◌, ◌||◌, ◌&&◌, ◌+◌, ◌==◌, ◌⊎◌, ℕ, zero, suc, Bool, true, false, not, is_some, List, [], ◌∷◌, length, drop, find, min, Option, Some, None, refl, sym, ap, subst, inl, inr, if◌then◌else◌, nat_lt, codes, slice_get, encode_utf8}
use Rattle.std.specs.Str.{bytes_eq, chars}
use Rattle.std.specs.Option.{option_map_or}
use Rattle.std.specs.List.{list_any}
use Rattle.clap.specs.Lexer.{short_of, long_of}
use Rattle.clap.specs.Matches.{count_text}
use Rattle.clap.specs.Facts.{explicit_source, parser_of_value, unwrap_or_range}
use Rattle.clap.specs.Values.{refused_kind}
use Rattle.clap.specs.ValueTests.{accepts}
use Rattle.clap.specs.Kinds.{Kinds, IsAmong, or_else, range_kinds, request_kinds, value_kinds, values_kinds, check_kinds}
use Rattle.clap.specs.Walk.{Held, Names, Row, Rule, Step, Text, Waiting, Walk, action_of, answers_to, arg_by_id, arg_by_index, arg_by_long, arg_by_short, attached_value, count_of, finished, has_row, idle, is_empty, is_pending, most_values, next, nothing_held, option, positional, reacted, settled, subcommand, subcommand_met, takes_several, takes_values, trailing, value, values_or_missing, walk, walk_from, walked, with_default, word_met}
use Rattle.clap.specs.Simple.{App, Shape, entered, label_of, names_of}
use Rattle.clap.specs.Takes.{is_given}
use Rattle.clap.specs.Faults.{action_fault, bundle_fault, bundle_step_fault, built_fault, check_fault, count_fault, default_fault, defaults_fault, entered_fault, flag_word_fault, flags_fault, level_fault, long_fault, option_fault, other_fault, positional_fault, react_fault, repeat_fault, settle_fault, short_fault, step_fault, stray_fault, turn_fault, use_fault, values_fault, walk_fault, word_fault}
use Rattle.clap.specs.declared.builder.action.ArgAction.{ArgAction}
use Rattle.clap.specs.declared.builder.action.ArgAction.TheVariants.{Set, Append, SetTrue, SetFalse, Count, Help, HelpShort, HelpLong, Version}
use Rattle.clap.specs.declared.builder.value_parser.ValueParser.{ValueParser}
use Rattle.clap.specs.declared.error.kind.ErrorKind.{ErrorKind}
use Rattle.clap.specs.declared.error.kind.ErrorKind.TheVariants as kind

-- a call for help or for the version
abbrev pub IsRequest : ErrorKind → Type 0
IsRequest request = (request ≡ kind.DisplayHelp) ⊎ (request ≡ kind.DisplayVersion)

-- if such a call is among the kinds, it is the only one
abbrev pub IsAlone : Kinds → Type 0
IsAlone kinds = (request : ErrorKind) → IsRequest request → IsAmong request kinds → kinds ≡ request ∷ []

none : IsAlone []
none request is h = absurd h

one : (k : ErrorKind) → IsAlone (k ∷ [])
one k request is (inl e) = ap (λ (x : ErrorKind). x ∷ []) (sym e)
one k request is (inr h) = absurd h

first : (a b : Kinds) → IsAlone a → IsAlone b → IsAlone (or_else a b)
first [] b p q = q
first (k ∷ ks) b p q = p

either : (c : Bool) (a b : Kinds) → IsAlone a → IsAlone b → IsAlone (if c then a else b)
either true a b p q = p
either false a b p q = q

where_some : {X : Type 0} (f : X → Kinds) (o : Option X) → ((x : X) → IsAlone (f x)) → IsAlone (option_map_or f o [])
where_some f None p = none
where_some f (Some x) p = p x

-- ---- one use of an argument

value_alone : (ic : Bool) (p : ValueParser) (t : Text) → IsAlone (value_kinds ic p t)
value_alone ic p t = either (accepts ic p t) [] (refused_kind p ∷ []) none (one (refused_kind p))

values_alone : (ic : Bool) (p : ValueParser) (vs : List Text) → IsAlone (values_kinds ic p vs)
values_alone ic p [] = none
values_alone ic p (v ∷ vs) = first (value_kinds ic p v) (values_kinds ic p vs) (value_alone ic p v) (values_alone ic p vs)

count_alone : (a : Rule) (vs : List Text) (rows : List Row) → IsAlone (count_fault a vs rows)
count_alone a [] rows = value_alone a.ignore_case (parser_of_value a.parser) (count_text (min (count_of a.id rows + 1) 255))
count_alone a (v ∷ vs) rows = values_alone a.ignore_case (parser_of_value a.parser) (v ∷ vs)

request_alone : (action : ArgAction) → IsAlone (request_kinds action)
request_alone Set = none
request_alone SetTrue = none
request_alone SetFalse = none
request_alone Append = none
request_alone Count = none
request_alone Help = one kind.DisplayHelp
request_alone HelpShort = one kind.DisplayHelp
request_alone HelpLong = one kind.DisplayHelp
request_alone Version = one kind.DisplayVersion

set_alone : (again : Bool) (a : Rule) (vs : List Text) (rows : List Row) → IsAlone (or_else (repeat_fault again a.id rows) (values_fault a vs))
set_alone again a vs rows =
    first (repeat_fault again a.id rows) (values_fault a vs) (either (has_row a.id rows && not again) (kind.ArgumentConflict ∷ []) [] (one kind.ArgumentConflict) none)
    (values_alone a.ignore_case (parser_of_value a.parser) vs)

action_alone : (action : ArgAction) (again : Bool) (a : Rule) (vs : List Text) (rows : List Row) → IsAlone (action_fault action again a vs rows)
action_alone Set again a vs rows = set_alone again a vs rows
action_alone SetTrue again a vs rows = set_alone again a vs rows
action_alone SetFalse again a vs rows = set_alone again a vs rows
action_alone Append again a vs rows = values_alone a.ignore_case (parser_of_value a.parser) vs
action_alone Count again a vs rows = count_alone a vs rows
action_alone Help again a vs rows = request_alone Help
action_alone HelpShort again a vs rows = request_alone HelpShort
action_alone HelpLong again a vs rows = request_alone HelpLong
action_alone Version again a vs rows = request_alone Version

range_alone : (least most n : ℕ) → IsAlone (range_kinds least most n)
range_alone least most n = go (nat_lt 0 least && n == 0) (least == most) (least == n) (nat_lt n least) (nat_lt most n)
  where
    go : (nothing exact same few many : Bool) → IsAlone (if nothing then kind.InvalidValue ∷ []
        else (if exact then (if same then [] else kind.WrongNumberOfValues ∷ [])
        else (if few then kind.TooFewValues ∷ [] else (if many then kind.TooManyValues ∷ [] else []))))
    go true exact same few many = one kind.InvalidValue
    go false true true few many = none
    go false true false few many = one kind.WrongNumberOfValues
    go false false same true many = one kind.TooFewValues
    go false false same false true = one kind.TooManyValues
    go false false same false false = none

use_alone : (again : Bool) (a : Rule) (vs : List Text) (rows : List Row) → IsAlone (use_fault again a vs rows)
use_alone again a vs rows =
    first (range_kinds (unwrap_or_range a.range).start_inclusive (most_values a) (length vs)) (action_fault (action_of a) again a (values_or_missing a vs) rows)
    (range_alone (unwrap_or_range a.range).start_inclusive (most_values a) (length vs)) (action_alone (action_of a) again a (values_or_missing a vs) rows)

-- ---- the walk

settle_alone : (c : List Rule) (again : Bool) (h : Held) → IsAlone (settle_fault c again h)
settle_alone c again h = where_some (λ (p : Text × List Text). option_map_or (λ a. use_fault again a p.1 h.rows) (arg_by_id c p.0) []) h.pending
    (λ p. where_some (λ (a : Rule). use_fault again a p.1 h.rows) (arg_by_id c p.0) (λ a. use_alone again a p.1 h.rows))

react_alone : (c : List Rule) (again : Bool) (a : Rule) (vs : List Text) (h : Held) → IsAlone (react_fault c again a vs h)
react_alone c again a vs h = first (settle_fault c again h) (use_fault again a vs (settled c h).rows) (settle_alone c again h) (use_alone again a vs (settled c h).rows)

option_alone : (c : List Rule) (again : Bool) (a : Rule) (v : Option Text) (h : Held) → IsAlone (option_fault c again a v h)
option_alone c again a (Some v) h = react_alone c again a (v ∷ []) h
option_alone c again a None h = settle_alone c again h

long_alone : (c : List Rule) (again : Bool) (o : Option Rule) (v : Option Text) (h : Held) → IsAlone (long_fault c again o v h)
long_alone c again None v h = one kind.UnknownArgument
long_alone c again (Some a) v h = either (takes_values a) (option_fault c again a v h) (if is_some v then kind.TooManyValues ∷ [] else react_fault c again a [] h) (option_alone c again a v h)
    (either (is_some v) (kind.TooManyValues ∷ []) (react_fault c again a [] h) (one kind.TooManyValues) (react_alone c again a [] h))

short_alone : (c : List Rule) (again : Bool) (o : Option Rule) (rest : Text) (h : Held) (more : Held → Kinds) → ((x : Held) → IsAlone (more x)) → IsAlone (short_fault c again o rest h more)
short_alone c again None rest h more p = one kind.UnknownArgument
short_alone c again (Some a) rest h more p =
    either (takes_values a) (option_fault c again a (attached_value rest) h) (or_else (react_fault c again a [] h) (more (reacted c a [] h)))
    (option_alone c again a (attached_value rest) h)
    (first (react_fault c again a [] h) (more (reacted c a [] h)) (react_alone c again a [] h) (p (reacted c a [] h)))

step_of_flags : (c : List Rule) (again : Bool) (x : Option ℕ) (flags : Text) (skip : ℕ) (h : Held) (more : Text → ℕ → Held → Kinds)
    → ((t : Text) (k : ℕ) (y : Held) → IsAlone (more t k y)) → IsAlone (bundle_step_fault c again x flags skip h more)
step_of_flags c again None flags skip h more p = none
step_of_flags c again (Some x) flags zero h more p =
    let rest = drop (length (encode_utf8 x)) flags in
    short_alone c again (arg_by_short c x) rest h (more rest 0) (p rest 0)
step_of_flags c again (Some x) flags (suc skip) h more p = p (drop (length (encode_utf8 x)) flags) skip h

flags_alone : (c : List Rule) (again : Bool) (k : ℕ) (flags : Text) (skip : ℕ) (h : Held) → IsAlone (flags_fault c again k flags skip h)
unfolding flags_fault
flags_alone c again zero flags skip h = none
flags_alone c again (suc k) flags skip h = step_of_flags c again (slice_get (chars flags) 0) flags skip h (flags_fault c again k) (flags_alone c again k)

flag_word_alone : (c : List Rule) (again : Bool) (l : Option (Text × Option Text)) (word : Text) (h : Held) → IsAlone (flag_word_fault c again l word h)
flag_word_alone c again (Some p) word h = long_alone c again (arg_by_long c p.0) p.1 h
flag_word_alone c again None word h =
    where_some (λ (flags : Text). bundle_fault c again flags h) (short_of word) (λ flags. flags_alone c again (length flags) flags h.skip (record h { skip = 0 }))

no_help : (named disabled : Bool) → disabled ≡ true → IsAlone (if named && not disabled then kind.DisplayHelp ∷ kind.InvalidSubcommand ∷ [] else [])
no_help named true e = help_off named
  where
    help_off : (b : Bool) → IsAlone (if b && false then kind.DisplayHelp ∷ kind.InvalidSubcommand ∷ [] else [])
    help_off true = none
    help_off false = none
no_help named false e = cc

-- no subcommand shows help here: that is switched off, or there is none
abbrev pub IsQuiet : Shape → Names → Type 0
IsQuiet s names = (s.disable_help_subcommand ≡ true) ⊎ (names ≡ [])

no_name_alone : (s : Shape) (word : Text) (h : Held) → IsAlone (other_fault s None word h)
no_name_alone s word h = either (bytes_eq word (45 ∷ 45 ∷ [])) [] (flag_word_fault s.rules s.args_override_self (long_of word) word h) none
    (flag_word_alone s.rules s.args_override_self (long_of word) word h)

other_alone : (s : Shape) (o : Option Text) (word : Text) (h : Held) → s.disable_help_subcommand ≡ true → IsAlone (other_fault s o word h)
other_alone s (Some name) word h e = no_help (bytes_eq name (codes "help")) s.disable_help_subcommand e
other_alone s None word h e = no_name_alone s word h

none_met : (w : Waiting) (word : Text) → subcommand_met [] w word ≡ None
none_met idle word = refl
none_met (option id) word = refl
none_met positional word = refl

met_alone : (s : Shape) (names : Names) (w : Waiting) (word : Text) (h : Held) → IsQuiet s names → IsAlone (other_fault s (subcommand_met names w word) word h)
met_alone s names w word h (inl e) = other_alone s (subcommand_met names w word) word h e
met_alone s names w word h (inr e) =
    let met = ap (λ (n : Names). subcommand_met n w word) e ∙ none_met w word in
    subst (λ (o : Option Text). IsAlone (other_fault s o word h)) (sym met) (no_name_alone s word h)

word_alone : (s : Shape) (names : Names) (is_trailing : Bool) (w : Waiting) (word : Text) (h : Held) → IsQuiet s names → IsAlone (word_fault s names is_trailing w word h)
word_alone s names is_trailing w word h q = either is_trailing [] (other_fault s (subcommand_met names w word) word h) none (met_alone s names w word h q)

stray_alone : (s : Shape) → IsAlone (stray_fault s)
stray_alone s = either s.is_leaf (kind.UnknownArgument ∷ []) (kind.UnknownArgument ∷ kind.InvalidSubcommand ∷ []) (one kind.UnknownArgument) two
  where
    two : IsAlone (kind.UnknownArgument ∷ kind.InvalidSubcommand ∷ [])
    two request (inl help) (inl e) = cc
    two request (inl help) (inr (inl e)) = cc
    two request (inr version) (inl e) = cc
    two request (inr version) (inr (inl e)) = cc
    two request is (inr (inr h)) = absurd h

place_alone : (s : Shape) (o : Option Rule) (h : Held) → IsAlone (option_map_or (λ a. positional_fault s.rules s.args_override_self a h) o (stray_fault s))
place_alone s None h = stray_alone s
place_alone s (Some a) h = either (is_pending a h.pending && takes_several a) [] (settle_fault s.rules s.args_override_self h) none (settle_alone s.rules s.args_override_self h)

step_alone : (s : Shape) (position : ℕ) (h : Held) (step : Step) → IsAlone (step_fault s position h step)
step_alone s position h (next waiting) = none
step_alone s position h (trailing p) = none
step_alone s position h (subcommand name) = none
step_alone s position h value = place_alone s (arg_by_index s.rules position) h

turn_alone : (s : Shape) (names : Names) (w : Walk) (word : Text) → IsQuiet s names → IsAlone (turn_fault s names w word)
turn_alone s names w word q =
    let met = word_met s.rules names w.is_trailing w.waiting w.position word w.held in
    either (is_some w.stopped) [] (or_else (word_fault s names w.is_trailing w.waiting word w.held) (step_fault s w.position met.0 met.1)) none
    (first (word_fault s names w.is_trailing w.waiting word w.held) (step_fault s w.position met.0 met.1)
    (word_alone s names w.is_trailing w.waiting word w.held q) (step_alone s w.position met.0 met.1))

walk_alone : (s : Shape) (names : Names) (w : Walk) (words : List Text) → IsQuiet s names → IsAlone (walk_fault s names w words)
unfolding walk_fault
walk_alone s names w [] q = none
walk_alone s names w (word ∷ rest) q =
    first (turn_fault s names w word) (walk_fault s names (walked s.rules names w word) rest) (turn_alone s names w word q) (walk_alone s names (walked s.rules names w word) rest q)

-- ---- after the walk

default_alone : (rows : List Row) (a : Rule) → IsAlone (default_fault rows a)
default_alone rows a = either (has_row a.id rows || is_empty a.defaults) [] (or_else (request_kinds (action_of a)) (values_fault a a.defaults)) none
    (first (request_kinds (action_of a)) (values_fault a a.defaults) (request_alone (action_of a)) (values_alone a.ignore_case (parser_of_value a.parser) a.defaults))

defaults_alone : (rows : List Row) (c : List Rule) → IsAlone (defaults_fault rows c)
unfolding defaults_fault
defaults_alone rows [] = none
defaults_alone rows (a ∷ rest) = first (default_fault rows a) (defaults_fault (with_default rows a) rest) (default_alone rows a) (defaults_alone (with_default rows a) rest)

last_alone : (help wanted missing : Bool) → IsAlone (check_kinds help wanted missing)
last_alone true wanted missing = one kind.DisplayHelpOnMissingArgumentOrSubcommand
last_alone false true missing = one kind.MissingSubcommand
last_alone false false true = one kind.MissingRequiredArgument
last_alone false false false = none

check_alone : (s : Shape) (rows : List Row) (has : Bool) → IsAlone (check_fault s rows has)
check_alone s rows has = last_alone (not has && (s.arg_required_else_help && not (list_any (λ (r : Row). explicit_source r.source) rows))) (not has && s.subcommand_required)
    (not (s.subcommand_negates_reqs && has) && list_any (λ (a : Rule). a.required && not (is_given a.id rows)) s.rules)

level_alone : (s : Shape) (names : Names) (h : Held) (words : List Text) (has : Bool) (below : Kinds) → IsQuiet s names → IsAlone below → IsAlone (level_fault s names h words has below)
level_alone s names h words has below q p =
    let end = (walk s.rules names h words).held in
    let checks = check_fault s (finished s.rules end) has in
    let defaults = defaults_fault (settled s.rules end).rows s.rules in
    let settles = settle_fault s.rules s.args_override_self end in
    first (walk_fault s names (walk_from h) words) (or_else below (or_else settles (or_else defaults checks))) (walk_alone s names (walk_from h) words q)
    (first below (or_else settles (or_else defaults checks)) p
    (first settles (or_else defaults checks) (settle_alone s.rules s.args_override_self end)
    (first defaults checks (defaults_alone (settled s.rules end).rows s.rules) (check_alone s (finished s.rules end) has))))

entered_alone : (a : App) (stop : Option (Text × List Text)) → IsAlone (entered_fault a stop)
entered_alone a stop = where_some (λ (p : Text × List Text). option_map_or (λ s. level_fault s [] nothing_held p.1 false []) (find (λ s. answers_to p.0 (label_of s)) a.subs) []) stop
    (λ p. where_some (λ (s : Shape). level_fault s [] nothing_held p.1 false []) (find (λ s. answers_to p.0 (label_of s)) a.subs) (λ s. level_alone s [] nothing_held p.1 false [] (inr refl) none))

-- if the command has no subcommand that shows help, a call for help or the version is the only fault
pub requests_alone : (a : App) (h : Held) (words : List Text) → a.top.disable_help_subcommand ≡ true → IsAlone (built_fault a h words)
requests_alone a h words e =
    let stop = (walk a.top.rules (names_of a) h words).stopped in
    level_alone a.top (names_of a) h words (is_some (entered a stop)) (entered_fault a stop) (inl e) (entered_alone a stop)
