-- The command line: the rows that clap is asked to match, and what the matched words ask for.
use Rattle.std.specs.Prelude.{ℕ, List, [], ◌∷◌, Option, Some, None, Result, Ok, Err, true, false, codes, option_and_then, option_map, if◌then◌else◌}
use Rattle.std.specs.Option.{ok_or, option_map_or}
use Rattle.std.specs.Borrow.{Bor}
use Rattle.std.specs.Str.{bytes_eq}
use Rattle.std.specs.Str.Parse.{digits_value, without_leading_plus}
use Rattle.clap.specs.Words.{App, Row, Rule, Text, first_of, one_of, new_app, new_rule, subcommand_of, with_rule, with_subcommand}
use Rattle.clap.specs.ValueTests.{is_unsigned_in}
use Rattle.clap.specs.declared.builder.ValueParser.TheVariants as parser
use Rattle.clap.specs.declared.builder.ArgAction.TheVariants.{SetTrue}
use Rattle.ee_units.specs.Spelling.{rate_of, month_of, issue_of, customer_of}
use Rattle.ee_units.specs.Denoms.{denom_of}
use Rattle.ee_units.specs.declared.denoms.Denom.{Denom}
use Rattle.ee_desk_model.specs.Desks.{desk_of}
use Rattle.ee_cli_commands.specs.declared.commands.FileKind.{FileKind}
use Rattle.ee_cli_commands.specs.declared.commands.FileKind.TheVariants as kind
use Rattle.ee_desk_model.specs.Limits.{highest_number}

-- a required positional word
abbrev pub positional : Text → Rule
positional id = record (new_rule id) { required = true }

-- an optional positional word
abbrev pub optional_positional : Text → Rule
optional_positional id = record (positional id) { required = false }

-- a required option `--id VALUE`
abbrev pub option : Text → Rule
option id = record (new_rule id) { long = Some id; required = true }

-- an optional option `--id VALUE`
abbrev pub optional_option : Text → Rule
optional_option id = record (option id) { required = false }

-- a required option `--id NUMBER`, with a whole number from 1 to the given maximum
abbrev pub number_option : Text → ℕ → Rule
number_option id most = record (option id) { parser = Some (parser.Unsigned 1 most) }

-- an optional one
abbrev pub optional_number : Text → ℕ → Rule
optional_number id most = record (number_option id most) { required = false }

-- an optional flag `--id`
abbrev pub flag : Text → Rule
flag id = record (new_rule id) { long = Some id; action = Some SetTrue }

-- a row, which takes `--explain` too
abbrev pub explained : App → App
explained row = with_rule row (flag (codes "explain"))

-- the words for the kinds of files
abbrev pub kind_words : List Text
kind_words = codes "rates" ∷ codes "inventory" ∷ []

abbrev pub most_port : ℕ
most_port = 65535

abbrev pub most_connections : ℕ
most_connections = 1000

-- the number of connections if the line doesn't give one: unlimited
abbrev pub unlimited : ℕ
unlimited = 18446744073709551615

-- value DENOM ISSUED MONTH RATE [EXTENSION]; each row also takes --explain
abbrev pub value_row : App
value_row = explained (with_rule (with_rule (with_rule (with_rule (with_rule (new_app (codes "value")) (positional (codes "denom")))
    (positional (codes "issued"))) (positional (codes "month"))) (positional (codes "rate"))) (optional_positional (codes "extension")))

-- apply --db DB
abbrev pub apply_row : App
apply_row = explained (with_rule (new_app (codes "apply")) (option (codes "db")))

-- import KIND FILE --db DB --number N [--desk K]
abbrev pub import_row : Bor (List (Bor Text)) → App
import_row kinds = explained (with_rule (with_rule (with_rule (with_rule (with_rule (new_app (codes "import"))
    (record (positional (codes "kind")) { parser = Some (parser.Names kinds) }))
    (positional (codes "file"))) (option (codes "db"))) (number_option (codes "number") highest_number)) (optional_option (codes "desk")))

-- export CUSTOMER --db DB
abbrev pub export_row : App
export_row = explained (with_rule (with_rule (new_app (codes "export")) (positional (codes "customer"))) (option (codes "db")))

-- sheet CUSTOMER MONTH --db DB
abbrev pub sheet_row : App
sheet_row = explained (with_rule (with_rule (with_rule (new_app (codes "sheet")) (positional (codes "customer")))
    (positional (codes "month"))) (option (codes "db")))

-- serve --db DB --port P [--connections N]
abbrev pub serve_row : App
serve_row = explained (with_rule (with_rule (with_rule (new_app (codes "serve")) (option (codes "db")))
    (number_option (codes "port") most_port)) (optional_number (codes "connections") most_connections))

-- the program without a row: a line has to name one, only --help asks for help, and --version comes before any row
abbrev pub no_row : App
no_row = record (new_app (codes "ee_cli")) { top = record (new_app (codes "ee_cli")).top { has_version = true; subcommand_required = true; disable_help_subcommand = true } }

abbrev pub first_rows : App
first_rows = with_subcommand (with_subcommand no_row value_row.top) apply_row.top

-- the program's rows, given the words for the kinds of files
abbrev pub program : Bor (List (Bor Text)) → App
program kinds = with_subcommand (with_subcommand (with_subcommand (with_subcommand first_rows (import_row kinds).top) export_row.top) sheet_row.top) serve_row.top

-- what a line asks for
pub data Asked : Type 0 where
  value : Denom → ℕ → ℕ → ℕ → Option ℕ → Asked
  apply : Text → Asked
  imports : FileKind → Text → Text → ℕ → ℕ → Asked
  export : ℕ → Text → Asked
  sheet : ℕ → ℕ → Text → Asked
  serve : Text → ℕ → ℕ → Asked

infixl 10 ◌>>=◌
abbrev pub ◌>>=◌ : {A B : Type 0} → Result A Text → (A → Result B Text) → Result B Text
(Ok x) >>= f = f x
(Err e) >>= f = Err e

-- the value that the word with this name spells, or the name
abbrev pub spelled : {A : Type 0} → Text → (Text → Option A) → List Row → Result A Text
spelled name read rows = ok_or (option_and_then read (first_of name rows)) name

-- the same, or None if there is no such word
abbrev pub spelled_or_none : {A : Type 0} → Text → (Text → Option A) → List Row → Result (Option A) Text
spelled_or_none name read rows = option_map_or (λ word. ok_or (option_map Some (read word)) name) (first_of name rows) (Ok None)

-- the same, or a default if there is no such word
abbrev pub spelled_or : {A : Type 0} → A → Text → (Text → Option A) → List Row → Result A Text
spelled_or otherwise name read rows = option_map_or (λ word. ok_or (read word) name) (first_of name rows) (Ok otherwise)

abbrev pub text_of : Text → Option Text
text_of word = Some word

-- a kind of file
abbrev pub kind_of_file : Text → Option FileKind
kind_of_file word = if bytes_eq word (codes "rates") then Some kind.Rates else (if bytes_eq word (codes "inventory") then Some kind.Inventory else None)

-- a whole number from 1 to the given maximum, as clap reads it
abbrev pub number_word : ℕ → Text → Option ℕ
number_word most word = if is_unsigned_in 1 most word then Some (digits_value 10 (without_leading_plus word)) else None

abbrev pub numbered : Text → ℕ → List Row → Result ℕ Text
numbered name most rows = ok_or (option_and_then (number_word most) (one_of name rows)) name

-- the same, or a default if there is no such word
abbrev pub numbered_or : ℕ → Text → ℕ → List Row → Result ℕ Text
numbered_or otherwise name most rows = option_map_or (λ word. numbered name most rows) (first_of name rows) (Ok otherwise)

unfoldable pub value_asked : List Row → Result Asked Text
value_asked rows = do
  denom ← spelled (codes "denom") denom_of rows
  issued ← spelled (codes "issued") issue_of rows
  month ← spelled (codes "month") month_of rows
  rate ← spelled (codes "rate") rate_of rows
  extension ← spelled_or_none (codes "extension") rate_of rows
  Ok (value denom issued month rate extension)

unfoldable pub apply_asked : List Row → Result Asked Text
apply_asked rows = do
  db ← spelled (codes "db") text_of rows
  Ok (apply db)

unfoldable pub import_asked : List Row → Result Asked Text
import_asked rows = do
  kind ← spelled (codes "kind") kind_of_file rows
  file ← spelled (codes "file") text_of rows
  db ← spelled (codes "db") text_of rows
  number ← numbered (codes "number") highest_number rows
  desk ← spelled_or 0 (codes "desk") desk_of rows
  Ok (imports kind file db desk number)

unfoldable pub export_asked : List Row → Result Asked Text
export_asked rows = do
  customer ← spelled (codes "customer") customer_of rows
  db ← spelled (codes "db") text_of rows
  Ok (export customer db)

unfoldable pub sheet_asked : List Row → Result Asked Text
sheet_asked rows = do
  customer ← spelled (codes "customer") customer_of rows
  month ← spelled (codes "month") month_of rows
  db ← spelled (codes "db") text_of rows
  Ok (sheet customer month db)

unfoldable pub serve_asked : List Row → Result Asked Text
serve_asked rows = do
  db ← spelled (codes "db") text_of rows
  port ← numbered (codes "port") most_port rows
  connections ← numbered_or unlimited (codes "connections") most_connections rows
  Ok (serve db port connections)

-- what a row with this name asks for, or the name of its first word that spells no value
abbrev pub asked : Text × List Row → Result Asked Text
asked row = if bytes_eq row.0 (codes "value") then value_asked row.1
    else (if bytes_eq row.0 (codes "apply") then apply_asked row.1
    else (if bytes_eq row.0 (codes "import") then import_asked row.1
    else (if bytes_eq row.0 (codes "export") then export_asked row.1
    else (if bytes_eq row.0 (codes "sheet") then sheet_asked row.1 else serve_asked row.1))))

abbrev pub asked_by : App → List Text → Option (Result Asked Text)
asked_by app words = option_map asked (subcommand_of app words)
