-- A line that asks for a value: value DENOM ISSUED MONTH RATE [EXTENSION].
use Rattle.std.specs.Prelude.{◌≡◌, ℕ, List, [], ◌∷◌, Option, Some, None, Result, IsSomeAnd, codes, option_and_then, option_map, if◌then◌else◌}
use Rattle.std.specs.Str.{bytes_eq}
use Rattle.ee_units.specs.Denoms.{denom_of}
use Rattle.ee_units.specs.Spelling.{rate_of, month_of, issue_of}
use Rattle.ee_value.specs.Chain.{rates_with}
use Rattle.ee_cli_value.specs.Statuses.{IsStatusOf}
use Rattle.ee_cli_value.specs.Values.{PrintsValue}
use Rattle.ee_cli_value.specs.declared.endings.Outcome.{Outcome}
use Rattle.ee_cli_value.specs.declared.endings.PrintFault.{PrintFault}
use Rattle.ee_cli_value.specs.declared.lines.ValueLine.{ValueLine}

infixl 10 ◌>>=◌
abbrev pub ◌>>=◌ : {A B : Type 0} → Option A → (A → Option B) → Option B
o >>= f = option_and_then f o

-- the extension in the words after the rate: none, or that of one word
abbrev pub extension_of : List (List ℕ) → Option (Option ℕ)
extension_of [] = Some None
extension_of (word ∷ []) = option_map Some (rate_of word)
extension_of (word ∷ more ∷ rest) = None

-- what the words after `value` ask for, each in its place
abbrev pub asked_by : List ℕ → List ℕ → List ℕ → List ℕ → List (List ℕ) → Option ValueLine
asked_by denom issued month rate rest = do
  d ← denom_of denom
  i ← issue_of issued
  m ← month_of month
  r ← rate_of rate
  e ← extension_of rest
  Some (record { denom = d; issued = i; month = m; rates = rates_with r e })

-- what the words of a line ask for; the first word is the program's name
abbrev pub line_of_words : List (List ℕ) → Option ValueLine
line_of_words (name ∷ command ∷ denom ∷ issued ∷ month ∷ rate ∷ rest) =
    if bytes_eq command (codes "value") then asked_by denom issued month rate rest else None
line_of_words words = None

-- the value of the line is printed, or not, and the status says how that ended
abbrev pub RunsValue : ValueLine → Option (List ℕ) → Option (List ℕ) → ℕ → Type 0
RunsValue line old new status =
    (ended : Result Outcome PrintFault) × PrintsValue line.denom line.issued line.month line.rates old new ended × IsStatusOf ended status

-- a line that asks for a value is run, and any other line does nothing
abbrev pub RunsLine : Option ValueLine → Option (List ℕ) → Option (List ℕ) → Option ℕ → Type 0
RunsLine (Some line) old new status = IsSomeAnd status (RunsValue line old new)
RunsLine None old new status = (status ≡ None) × (new ≡ old)
