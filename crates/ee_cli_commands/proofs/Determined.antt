-- The words determine what they ask for. Of the references that represent the kinds of files clap looks at the texts alone:
-- so all lists of references to the same words, wherever they are, make the same program.
use Rattle.std.proofs.Common.{◌≡◌, ◌∙◌, Bool, List, [], ◌∷◌, map, drop, Option, Some, Result, refl, sym, ap, subst, inl, inr, Bor, if◌then◌else◌, option_map}
use Rattle.std.specs.List.{list_any}
use Rattle.clap.specs.Words.{App, Row, Text, fault_of, subcommand_of, same_text, IsAmong, Kinds}
use Rattle.clap.specs.Facts.{parser_of_value}
use Rattle.clap.specs.Values.{reading_of}
use Rattle.clap.specs.Kinds.{value_kinds}
use Rattle.clap.specs.Walk.{nothing_held, texts, stop_after}
use Rattle.clap.specs.Simple.{built, entered, names_of}
use Rattle.clap.specs.Faults.{built_fault}
use Rattle.clap.specs.declared.error.kind.ErrorKind.{ErrorKind}
use Rattle.clap.specs.declared.error.kind.ErrorKind.TheVariants.{DisplayHelp, DisplayVersion, InvalidValue}
use Rattle.clap.specs.declared.builder.value_parser.ValueParser.{ValueParser}
use Rattle.clap.specs.declared.builder.value_parser.ValueParser.TheVariants as parser
use Rattle.clap.proofs.WalkLemmas.{list_any-map}
use Rattle.ee_cli_commands.specs.CommandLine.{Asked, asked, program, kind_words}
use Rattle.ee_cli_commands.specs.Answer.{IsAsked, IsRefusedBy, IsRefused, AsksForHelp, AsksForVersion}
use Rattle.ee_cli_commands.proofs.Requests.{IsAlone, IsRequest, requests_alone}
use Rattle.ee_cli_commands.proofs.Altered.{alter_app, faults_same, entered_same, stop_same}

-- a reference to this text, and one to these, at no place
abbrev bare : Text → Bor Text
bare word = record { ref_ptr = (0, 0); now = word }

abbrev bare_words : List Text → Bor (List (Bor Text))
bare_words words = record { ref_ptr = (0, 0); now = map bare words }

bare_parser : Option ValueParser → Option ValueParser
bare_parser (Some (parser.Names names)) = Some (parser.Names (bare_words (texts names.now)))
bare_parser p = p

reads : (p : Option ValueParser) → reading_of (parser_of_value (bare_parser p)) ≡ reading_of (parser_of_value p)
unfolding bare_parser
reads (Some (parser.Names names)) = refl
reads p = refl

accepted : (ic : Bool) (names : List (Bor Text)) (t : Text) → list_any (λ (n : Bor Text). same_text ic n.now t) (map bare (texts names)) ≡ list_any (λ (n : Bor Text). same_text ic n.now t) names
accepted ic names t =
    sym (list_any-map (λ (n : Bor Text). same_text ic n.now t) bare (texts names))
    ∙ sym (list_any-map (λ (w : Text). same_text ic w t) (λ (n : Bor Text). n.now) names)

tests : (ic : Bool) (p : Option ValueParser) (t : Text) → value_kinds ic (parser_of_value (bare_parser p)) t ≡ value_kinds ic (parser_of_value p) t
unfolding bare_parser
tests ic (Some (parser.Names names)) t = λ i. if accepted ic names.now t i then [] else InvalidValue ∷ []
tests ic p t = refl

abbrev bare_program : List Text → App
bare_program words = program (bare_words words)

built_bare : (k : Bor (List (Bor Text))) → alter_app bare_parser reads tests (built (program k)) ≡ built (bare_program (texts k.now))
unfolding bare_parser
built_bare k = refl

-- any two apps of which one, built, is the other with its parsers bare
fault_moves : (a b : App) (words : List Text) → alter_app bare_parser reads tests a ≡ b → built_fault a nothing_held words ≡ built_fault b nothing_held words
fault_moves a b words e = sym (faults_same bare_parser reads tests a nothing_held words) ∙ ap (λ x. built_fault x nothing_held words) e

abbrev reached : App → List Text → Option (Text × List Row)
reached a words = entered a (stop_after a.top.rules (names_of a) words)

entry_moves : (a b : App) (words : List Text) → alter_app bare_parser reads tests a ≡ b → reached a words ≡ reached b words
entry_moves a b words e =
    sym (ap (entered (alter_app bare_parser reads tests a)) (stop_same bare_parser reads tests a nothing_held words)
    ∙ entered_same bare_parser reads tests a (stop_after a.top.rules (names_of a) words))
    ∙ ap (λ x. reached x words) e

faults_bare : (k : Bor (List (Bor Text))) (words : List Text) → map (λ s. s.now) k.now ≡ kind_words → fault_of (program k) words ≡ fault_of (bare_program kind_words) words
faults_bare k words known =
    fault_moves (built (program k)) (built (bare_program (texts k.now))) (drop 1 words) (built_bare k)
    ∙ ap (λ ws. fault_of (bare_program ws) words) known

entry_bare : (k : Bor (List (Bor Text))) (words : List Text) → map (λ s. s.now) k.now ≡ kind_words → subcommand_of (program k) words ≡ subcommand_of (bare_program kind_words) words
entry_bare k words known =
    entry_moves (built (program k)) (built (bare_program (texts k.now))) (drop 1 words) (built_bare k)
    ∙ ap (λ ws. subcommand_of (bare_program ws) words) known

same_some : (x y z : Option (Text × List Row)) (r s : Result Asked Text) → x ≡ z → y ≡ z → option_map asked x ≡ Some r → option_map asked y ≡ Some s → r ≡ s
same_some x y z r s e f p q =
    let both : Some r ≡ Some s = sym p ∙ ap (option_map asked) (e ∙ sym f) ∙ q in cc

pub asks_for_one : (words : List Text) (r s : Result Asked Text) → IsAsked words r → IsAsked words s → r ≡ s
asks_for_one words r s p q =
    same_some _ _ (subcommand_of (bare_program kind_words) words) r s (entry_bare p.kinds words p.kind_words_are) (entry_bare q.kinds words q.kind_words_are) p.asks q.asks

none_among : (kind : ErrorKind) (x y : Kinds) → x ≡ y → x ≡ [] → IsAmong kind y → ⊥
none_among kind x [] e none among = among
none_among kind x (k ∷ ks) e none among = cc

pub asks_unrefused : (words : List Text) (r : Result Asked Text) (kind : ErrorKind) → IsAsked words r → IsRefusedBy kind words → ⊥
asks_unrefused words r kind p q =
    none_among kind (fault_of (program p.kinds) words) (fault_of (program q.kinds) words)
    (faults_bare p.kinds words p.kind_words_are ∙ sym (faults_bare q.kinds words q.kind_words_are)) p.read q.refused

only_this : (request k : ErrorKind) → IsAmong k (request ∷ []) → k ≡ request
only_this request k (inl e) = e
only_this request k (inr h) = absurd h

one_cause : (x y : Kinds) (request k : ErrorKind) → IsAlone x → IsRequest request → x ≡ y → IsAmong request x → IsAmong k y → k ≡ request
one_cause x y request k alone is e asks among = only_this request k (subst (IsAmong k) (sym e ∙ alone request is asks) among)

-- words that call for help or for the version are refused by no other kind
asks_alone : (words : List Text) (request k : ErrorKind) → IsRequest request → IsRefusedBy request words → IsRefusedBy k words → k ≡ request
asks_alone words request k is p q =
    one_cause (fault_of (program p.kinds) words) (fault_of (program q.kinds) words) request k
    (requests_alone (built (program p.kinds)) nothing_held (drop 1 words) refl) is
    (faults_bare p.kinds words p.kind_words_are ∙ sym (faults_bare q.kinds words q.kind_words_are)) p.refused q.refused

pub asks_for_help_alone : (words : List Text) → AsksForHelp words → IsRefused words → ⊥
asks_for_help_alone words p q = q.no_help (asks_alone words DisplayHelp q.kind (inl refl) p q.by)

pub asks_for_version_alone : (words : List Text) → AsksForVersion words → IsRefused words → ⊥
asks_for_version_alone words p q = q.no_version (asks_alone words DisplayVersion q.kind (inr refl) p q.by)

pub never_asks_for_both : (words : List Text) → AsksForHelp words → AsksForVersion words → ⊥
never_asks_for_both words p q = let same = asks_alone words DisplayHelp DisplayVersion (inl refl) p q in cc
