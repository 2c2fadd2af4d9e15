-- What clap's contracts say of this program's lines.
use Rattle.std.proofs.Common.{◌≡◌, ◌∙◌, None, String, Global, Bool, true, false, not, List, [], ◌∷◌, Option, Some, Result, Ok, Err, is_some, refl, ap, map, subst, Bor, inl, inr}
use Rattle.clap.specs.Words.{Row, Text, fault_of, first_of, is_simple, is_simple_and_free, subcommand_of, HasKind, IsAmong, Kinds, kind_of}
use Rattle.std.specs.Prelude.{IfSome, string_bytes, option_and_then, option_map, ◌&&◌}
use Rattle.clap.specs.Kinds.{or_else, check_kinds}
use Rattle.clap.specs.Faults.{level_fault, check_fault, walk_fault, settle_fault, defaults_fault, entered_fault}
use Rattle.clap.specs.Simple.{Shape, built, names_of, entered, argument_words}
use Rattle.clap.specs.Walk.{Held, Names, walk, walk_from, settled, finished, nothing_held}
use Rattle.clap.specs.declared.error.Error.{Error}
use Rattle.clap.specs.declared.error.ErrorKind.{ErrorKind}
use Rattle.clap.proofs.OnLiterals.{clap_on_literals}
use Rattle.ee_cli_commands.specs.CommandLine.{asked, program, kind_words}
use Rattle.ee_cli_commands.specs.Answer.{IsAnswer, IsWord, view_of}
use Rattle.ee_cli_commands.specs.Inner.Answer.{Gives, Refuses}
use Rattle.ee_cli_commands.specs.declared.commands.Command.{Command}
use Rattle.ee_cli_commands.specs.declared.commands.CommandFault.{CommandFault}
use Rattle.ee_cli_commands.specs.declared.commands.CommandFault.TheVariants as fault
use Rattle.ee_desk_model.proofs.Lemmas.Books.{some_from_is_some}

pub is_plain : (k : Bor (List (Bor Text))) → is_simple (program k) ≡ true
unfolding clap_on_literals
is_plain k = refl

pub is_free : (k : Bor (List (Bor Text))) → is_simple_and_free (program k) ≡ true
unfolding clap_on_literals
is_free k = refl

last_fault : (x y : Kinds) → or_else x y ≡ [] → y ≡ []
last_fault [] y e = e
last_fault (k ∷ ks) y e = cc

-- if a subcommand is wanted and nothing is wrong, there is one
kinds_want : (help has wanted : Bool) → check_kinds (not has && help) (not has && true) wanted ≡ [] → has ≡ true
kinds_want help true wanted e = refl
kinds_want true false wanted e = cc
kinds_want false false wanted e = cc

level_wants : (s : Shape) (names : Names) (h : Held) (words : List Text) (has : Bool) (below : Kinds) → s.subcommand_required ≡ true → level_fault s names h words has below ≡ [] → has ≡ true
level_wants s names h words has below wants e =
    let end = (walk s.rules names h words).held in
    let five = check_fault s (finished s.rules end) has in
    let four = or_else (defaults_fault (settled s.rules end).rows s.rules) five in
    let three = or_else (settle_fault s.rules s.args_override_self end) four in
    let two = or_else below three in
    let a : two ≡ [] = last_fault (walk_fault s names (walk_from h) words) two e in
    let b : three ≡ [] = last_fault below three a in
    let d : four ≡ [] = last_fault (settle_fault s.rules s.args_override_self end) four b in
    let f : five ≡ [] = last_fault (defaults_fault (settled s.rules end).rows s.rules) five d in
    kinds_want _ has _ (rw wants at f)

-- words with no fault name a row
pub names_row : (k : Bor (List (Bor Text))) (words : List Text) → fault_of (program k) words ≡ [] → is_some (subcommand_of (program k) words) ≡ true
names_row k words e =
    let a = built (program k) in
    let args = argument_words a words in
    let stop = (walk a.top.rules (names_of a) nothing_held args).stopped in
    level_wants a.top (names_of a) nothing_held args (is_some (entered a stop)) (entered_fault a stop) refl e

word_found : (k : Bor (List (Bor Text))) (words : List Text) (name : Text) (row : Text × List Row) (word : Option (String Global)) → map (λ s. s.now) k.now ≡ kind_words
    → subcommand_of (program k) words ≡ Some row → IfSome word (λ w. first_of name row.1 ≡ Some (string_bytes w)) → IfSome word (λ w. IsWord words name (string_bytes w))
word_found k words name row (Some w) known is h = record { kinds = k; kind_words_are = known; found = ap (option_and_then (λ (r : Text × List Row). first_of name r.1)) is ∙ h }
word_found k words name row None known is h = tt

answered : (k : Bor (List (Bor Text))) (words : List Text) (r : Result Command CommandFault) (row : Text × List Row) → map (λ s. s.now) k.now ≡ kind_words → fault_of (program k) words ≡ []
    → subcommand_of (program k) words ≡ Some row → Gives view_of row.1 r (asked row) → IsAnswer words r
answered k words (Ok c) row known none is h = record { kinds = k; kind_words_are = known; read = none; asks = ap (option_map asked) is ∙ ap Some h }
answered k words (Err (fault.Argument name word)) row known none is h = (
  record { kinds = k; kind_words_are = known; read = none; asks = ap (option_map asked) is ∙ ap Some h.0 },
  word_found k words name.now row word known is h.1,
)
answered k words (Err (fault.Help text)) row known none is h = absurd h
answered k words (Err fault.Version) row known none is h = absurd h
answered k words (Err (fault.Line text)) row known none is h = absurd h
answered k words (Err fault.NoMemory) row known none is h = tt

-- what the row that was matched asks for is the answer
pub answers : (k : Bor (List (Bor Text))) (words : List Text) (r : Result Command CommandFault) (found : Option (Text × List Row)) → map (λ s. s.now) k.now ≡ kind_words
    → fault_of (program k) words ≡ [] → found ≡ subcommand_of (program k) words
    → ((name : Text) (rows : List Row) → found ≡ Some (name, rows) → Gives view_of rows r (asked (name, rows))) → IsAnswer words r
answers k words r found known none is h =
    let row = some_from_is_some (subcommand_of (program k) words) (names_row k words none) in
    answered k words r row.0 known none row.1 (h row.0.0 row.0.1 (is ∙ row.1))

-- an error of clap's is an answer
pub refuses : (k : Bor (List (Bor Text))) (words : List Text) (e : Error) (f : CommandFault) → map (λ s. s.now) k.now ≡ kind_words → HasKind (fault_of (program k) words) e → Refuses (kind_of e) f → IsAnswer words (Err f)
refuses k words e (fault.Help text) known (inl memory) h = cc
refuses k words e (fault.Help text) known (inr among) h = record { kinds = k; kind_words_are = known; refused = subst (λ (kind : ErrorKind). IsAmong kind (fault_of (program k) words)) h among }
refuses k words e fault.Version known (inl memory) h = cc
refuses k words e fault.Version known (inr among) h = record { kinds = k; kind_words_are = known; refused = subst (λ (kind : ErrorKind). IsAmong kind (fault_of (program k) words)) h among }
refuses k words e (fault.Line text) known (inl memory) h = absurd (h.0 memory)
refuses k words e (fault.Line text) known (inr among) h = record { kind = kind_of e; by = record { kinds = k; kind_words_are = known; refused = among }; no_help = h.1; no_version = h.2 }
refuses k words e (fault.Argument name word) known kind h = absurd h
refuses k words e fault.NoMemory known kind h = tt
