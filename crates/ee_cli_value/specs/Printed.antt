-- What is printed of a value.
use Rattle.std.specs.Prelude.{ℕ, List, [], ◌∷◌, ◌++◌}
use Rattle.ee_units.specs.Texts.{decimal_text}
use Rattle.ee_units.specs.Denoms.{units_of}
use Rattle.ee_units.specs.declared.denoms.Denom.{Denom}
use Rattle.ee_value.specs.declared.rates.Rates.{Rates}
use Rattle.ee_calculator.specs.Notes.{note_text}
use Rattle.ee_calculator.specs.Rows.{columns_of}
use Rattle.ee_calculator.specs.declared.notes.Note.{Note}

-- a space and the note, if there is one
abbrev pub noted : List ℕ → List ℕ
noted [] = []
noted (b ∷ bs) = 32 ∷ b ∷ bs

-- an amount of cents and a note, on a line
abbrev pub line_of : ℕ → Note → List ℕ
line_of cents note = decimal_text cents ++ (noted (note_text note) ++ 10 ∷ [])

-- the line of a bond's value in a month, of its denomination, issue month and rates
abbrev pub value_line : Denom → ℕ → ℕ → Rates → List ℕ
value_line denom issued month rates =
    let shown = columns_of (units_of denom) issued rates month in line_of shown.value shown.note
