-- What a line asks for besides its command.
use Rattle.std.specs.Prelude.{List, [], ◌∷◌, ◌++◌, codes, if◌then◌else◌}
use Rattle.std.specs.Str.{bytes_eq}
use Rattle.clap.specs.Words.{Text}

-- `help` is read as `--help`, and `help COMMAND` as `COMMAND --help`
abbrev pub help_read : List Text → List Text
help_read (name ∷ word ∷ rest) = if bytes_eq word (codes "help") then name ∷ (rest ++ codes "--help" ∷ []) else name ∷ word ∷ rest
help_read words = words
