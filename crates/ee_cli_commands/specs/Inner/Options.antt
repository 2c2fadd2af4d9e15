-- Definitions that private contracts alone cite; specs/Options.antt has the others.
use Rattle.std.specs.Prelude.{List, ◌∷◌, Bool, false, codes}
use Rattle.std.specs.Str.{bytes_eq}
use Rattle.clap.specs.Words.{Text}

-- the word after the program's name is `help`
abbrev pub asks_for_help : List Text → Bool
asks_for_help (name ∷ word ∷ rest) = bytes_eq word (codes "help")
asks_for_help words = false
