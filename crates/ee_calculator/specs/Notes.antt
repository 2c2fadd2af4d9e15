-- The notes of the Savings Bond Calculator (TreasuryDirect's), by a bond's age.
use Rattle.std.specs.Prelude.{ℕ, List, [], Option, Some, None, codes, nat_lt, if◌then◌else◌}
use Rattle.ee_calculator.specs.declared.notes.Note.{Note}
use Rattle.ee_calculator.specs.declared.notes.Note.TheVariants as note

-- no payment before 12 months, a penalty before 60, no interest from 360 on (31 CFR Part 351)
abbrev pub note_at : Option ℕ → Note
note_at None = note.Ni
note_at (Some age) =
    if nat_lt age 12 then note.Ne
    else if nat_lt age 60 then note.P5
    else if nat_lt age 360 then note.Plain
    else note.Ma

-- how a note is printed (this project's rule)
abbrev pub note_text : Note → List ℕ
note_text note.Ni = codes "NI"
note_text note.Ne = codes "NE"
note_text note.P5 = codes "P5"
note_text note.Ma = codes "MA"
note_text note.Plain = []
