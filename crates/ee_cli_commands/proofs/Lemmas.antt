-- Lemmas that the proofs of crates above use: what the words of a line ask for.
use Rattle.std.proofs.Common.{◌≡◌, List, Result}
use Rattle.clap.specs.Words.{Text}
use Rattle.clap.specs.declared.error.ErrorKind.{ErrorKind}
use Rattle.ee_cli_commands.specs.CommandLine.{Asked}
use Rattle.ee_cli_commands.specs.Answer.{IsAsked, IsRefusedBy, IsRefused, AsksForHelp, AsksForVersion}
use Rattle.ee_cli_commands.proofs.Determined as words

-- words ask for one thing at most
pub asks_for_one : (words : List Text) (r s : Result Asked Text) → IsAsked words r → IsAsked words s → r ≡ s
asks_for_one = words.asks_for_one

-- words that ask for something are not refused, nor do they ask for help or the version
pub asks_unrefused : (words : List Text) (r : Result Asked Text) (kind : ErrorKind) → IsAsked words r → IsRefusedBy kind words → ⊥
asks_unrefused = words.asks_unrefused

-- words that ask for help are not refused for another cause
pub asks_for_help_alone : (words : List Text) → AsksForHelp words → IsRefused words → ⊥
asks_for_help_alone = words.asks_for_help_alone

-- words that ask for the version are not refused for another cause
pub asks_for_version_alone : (words : List Text) → AsksForVersion words → IsRefused words → ⊥
asks_for_version_alone = words.asks_for_version_alone

-- no words ask for help and for the version
pub never_asks_for_both : (words : List Text) → AsksForHelp words → AsksForVersion words → ⊥
never_asks_for_both = words.never_asks_for_both
