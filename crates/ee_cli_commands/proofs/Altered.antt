-- Of the parser of an argument clap reads two things: how its values are read, and which of them it refuses. So rules with
-- other parsers, alike in both, are walked alike, and have the same faults.
use Rattle.std.proofs.Common.{◌≡◌, ◌∙◌, ◌&&◌, ◌||◌, ◌==◌, ◌+◌, ℕ, zero, suc, Bool, false, not, is_some, List, [], ◌∷◌, map, length, drop, find, fold, min, Option, Some, None, refl, sym, ap, if◌then◌else◌, option_map, slice_get, encode_utf8}
use Rattle.std.specs.Str.{bytes_eq, chars}
use Rattle.std.specs.Option.{option_map_or}
use Rattle.std.specs.List.{list_any}
use Rattle.std.proofs.lemmas.List.Folds.{fold-map}
use Rattle.clap.specs.Lexer.{short_of, long_of}
use Rattle.clap.specs.Matches.{count_text}
use Rattle.clap.specs.Facts.{explicit_source, parser_of_value, unwrap_or_range}
use Rattle.clap.specs.Values.{reading_of}
use Rattle.clap.specs.Kinds.{Kinds, or_else, range_kinds, request_kinds, value_kinds, values_kinds, check_kinds}
use Rattle.clap.specs.Walk.{Held, Names, Outcome, Row, Rule, Step, Text, Waiting, Walk, action_of, after_flag, after_step, answers_to, arg_by_id, arg_by_index, arg_by_long, arg_by_short, attached_value, bundle, bundle_met, bundle_step, count_of, default_rows, done, finished, flag_met, has_long, has_row, has_short, idle, is_empty, is_multiple, is_pending, long_met, long_or_other, most_values, next, next_position, nothing_held, option, option_met, option_word, plain, plain_word, positional, pushed, reacted, refused, rows_after, settled, settled_rows, short_met, short_or_plain, subcommand, subcommand_met, subcommand_or_other, takes_several, takes_values, to_positional, trailing, used, used_as, used_by_id, value, values_or_missing, waits, walk, walk_from, walked, walked_from, with_default, word_met}
use Rattle.clap.specs.Simple.{App, Shape, entered, label_of, names_of, rows_at}
use Rattle.clap.specs.Takes.{is_given}
use Rattle.clap.specs.Faults.{action_fault, bundle_fault, bundle_step_fault, built_fault, check_fault, count_fault, default_fault, defaults_fault, entered_fault, flag_word_fault, flags_fault, level_fault, long_fault, option_fault, other_fault, positional_fault, react_fault, settle_fault, short_fault, step_fault, turn_fault, stray_fault, repeat_fault, use_fault, walk_fault, word_fault}
use Rattle.clap.specs.declared.builder.action.ArgAction.{ArgAction}
use Rattle.clap.specs.declared.builder.action.ArgAction.TheVariants.{Set, Append, SetTrue, SetFalse, Count, Help, HelpShort, HelpLong, Version}
use Rattle.clap.specs.declared.error.kind.ErrorKind.TheVariants.{TooManyValues}
use Rattle.clap.specs.declared.builder.value_parser.ValueParser.{ValueParser}
use Rattle.clap.proofs.WalkLemmas.{find-map, list_any-map}

module _ (g : Option ValueParser → Option ValueParser)
    (reads : (p : Option ValueParser) → reading_of (parser_of_value (g p)) ≡ reading_of (parser_of_value p))
    (tests : (ic : Bool) (p : Option ValueParser) (t : Text) → value_kinds ic (parser_of_value (g p)) t ≡ value_kinds ic (parser_of_value p) t) where
  abbrev pub alter : Rule → Rule
  alter a = record a { parser = g a.parser }

  abbrev pub alter_shape : Shape → Shape
  alter_shape s = record s { rules = map alter s.rules }

  abbrev pub alter_app : App → App
  alter_app a = record { top = alter_shape a.top; subs = map alter_shape a.subs }

  -- ---- one use of an argument

  by_id : (c : List Rule) (id : Text) → arg_by_id (map alter c) id ≡ option_map alter (arg_by_id c id)
  by_id c id = sym (find-map (λ (a : Rule). bytes_eq a.id id) alter c)

  by_long : (c : List Rule) (name : Text) → arg_by_long (map alter c) name ≡ option_map alter (arg_by_long c name)
  by_long c name = sym (find-map (λ (a : Rule). not (is_some a.index) && has_long a name) alter c)

  by_short : (c : List Rule) (x : ℕ) → arg_by_short (map alter c) x ≡ option_map alter (arg_by_short c x)
  by_short c x = sym (find-map (λ (a : Rule). not (is_some a.index) && has_short a x) alter c)

  by_index : (c : List Rule) (i : ℕ) → arg_by_index (map alter c) i ≡ option_map alter (arg_by_index c i)
  by_index c i = sym (find-map (λ (a : Rule). option_map_or (λ k. k == i) a.index false) alter c)

  used_same : (a : Rule) (vs : List Text) (rows : List Row) → used (alter a) vs rows ≡ used a vs rows
  used_same a [] rows = λ i. used_as (action_of a) a.id (reads a.parser i) a.missing rows
  used_same a (v ∷ vs) rows = λ i. used_as (action_of a) a.id (reads a.parser i) (v ∷ vs) rows

  found_used_same : (o : Option Rule) (vs : List Text) (rows : List Row) → used_by_id (option_map alter o) vs rows ≡ used_by_id o vs rows
  found_used_same None vs rows = refl
  found_used_same (Some a) vs rows = used_same a vs rows

  rows_same : (c : List Rule) (p : Option (Text × List Text)) (rows : List Row) → settled_rows (map alter c) p rows ≡ settled_rows c p rows
  rows_same c None rows = refl
  rows_same c (Some p) rows = ap (λ o. used_by_id o p.1 rows) (by_id c p.0) ∙ found_used_same (arg_by_id c p.0) p.1 rows

  settled_same : (c : List Rule) (h : Held) → settled (map alter c) h ≡ settled c h
  settled_same c h = λ i. record h { rows = rows_same c h.pending h.rows i; pending = None }

  reacted_rows : (c : List Rule) (a : Rule) (vs : List Text) (h : Held) → used (alter a) vs (settled (map alter c) h).rows ≡ used a vs (settled c h).rows
  reacted_rows c a vs h = ap (used (alter a) vs) (rows_same c h.pending h.rows) ∙ used_same a vs (settled_rows c h.pending h.rows)

  reacted_same : (c : List Rule) (a : Rule) (vs : List Text) (h : Held) → reacted (map alter c) (alter a) vs h ≡ reacted c a vs h
  reacted_same c a vs h = λ i. record h { rows = reacted_rows c a vs h i; pending = None }

  -- ---- the walk

  option_same : (c : List Rule) (a : Rule) (v : Option Text) (h : Held) → option_met (map alter c) (alter a) v h ≡ option_met c a v h
  option_same c a (Some v) h = λ i. (reacted_same c a (v ∷ []) h i, done)
  option_same c a None h = λ i. (record (settled_same c h i) { pending = Some (a.id, []) }, waits a.id)

  flag_same : (c : List Rule) (a : Rule) (v : Option Text) (h : Held) → flag_met (map alter c) (alter a) v h ≡ flag_met c a v h
  flag_same c a (Some v) h = refl
  flag_same c a None h = λ i. (reacted_same c a [] h i, done)

  found_long_same : (c : List Rule) (o : Option Rule) (v : Option Text) (h : Held) → long_met (map alter c) (option_map alter o) v h ≡ long_met c o v h
  found_long_same c None v h = refl
  found_long_same c (Some a) v h = λ i. if takes_values a then option_same c a v h i else flag_same c a v h i

  long_same : (c : List Rule) (name : Text) (v : Option Text) (h : Held) → long_met (map alter c) (arg_by_long (map alter c) name) v h ≡ long_met c (arg_by_long c name) v h
  long_same c name v h = ap (λ o. long_met (map alter c) o v h) (by_long c name) ∙ found_long_same c (arg_by_long c name) v h

  found_short_same : (c : List Rule) (o : Option Rule) (rest : Text) (h : Held) (m n : Held → Held × Outcome) → m ≡ n
      → short_met (map alter c) (option_map alter o) rest h m ≡ short_met c o rest h n
  found_short_same c None rest h m n e = refl
  found_short_same c (Some a) rest h m n e = λ i. if takes_values a then option_same c a (attached_value rest) h i else e i (reacted_same c a [] h i)

  step_same : (c : List Rule) (x : Option ℕ) (flags : Text) (skip : ℕ) (so_far : Outcome) (h : Held) (m n : Text → ℕ → Outcome → Held → Held × Outcome) → m ≡ n
      → bundle_step (map alter c) x flags skip so_far h m ≡ bundle_step c x flags skip so_far h n
  step_same c None flags skip so_far h m n e = refl
  step_same c (Some x) flags zero so_far h m n e =
      let rest = drop (length (encode_utf8 x)) flags in
      ap (λ o. short_met (map alter c) o rest h (m rest 0 done)) (by_short c x)
      ∙ found_short_same c (arg_by_short c x) rest h (m rest 0 done) (n rest 0 done) (λ i. e i rest 0 done)
  step_same c (Some x) flags (suc skip) so_far h m n e = λ i. e i (drop (length (encode_utf8 x)) flags) skip so_far h

  flags_same : (c : List Rule) (k : ℕ) → bundle_met (map alter c) k ≡ bundle_met c k
  unfolding bundle_met
  flags_same c zero = refl
  flags_same c (suc k) = λ i flags skip so_far h. step_same c (slice_get (chars flags) 0) flags skip so_far h (bundle_met (map alter c) k) (bundle_met c k) (flags_same c k) i

  bundle_same : (c : List Rule) (flags : Text) (h : Held) → bundle (map alter c) flags h ≡ bundle c flags h
  bundle_same c flags h = λ i. flags_same c (length flags) i flags h.skip plain (record h { skip = 0 })

  option_word_same : (o : Option Rule) (id word : Text) (h : Held) → option_word (option_map alter o) id word h ≡ option_word o id word h
  option_word_same None id word h = refl
  option_word_same (Some a) id word h = refl

  found_word_same : (c : List Rule) (id word : Text) (h : Held) → option_word (arg_by_id (map alter c) id) id word h ≡ option_word (arg_by_id c id) id word h
  found_word_same c id word h = ap (λ o. option_word o id word h) (by_id c id) ∙ option_word_same (arg_by_id c id) id word h

  plain_same : (c : List Rule) (w : Waiting) (word : Text) (h : Held) → plain_word (map alter c) w word h ≡ plain_word c w word h
  plain_same c (option id) word h = λ i. ((found_word_same c id word h i).0, next ((found_word_same c id word h i).1))
  plain_same c idle word h = refl
  plain_same c positional word h = refl

  after_flag_same : (c : List Rule) (w : Waiting) (word : Text) (h : Held) (o : Outcome) → after_flag (map alter c) w word h o ≡ after_flag c w word h o
  after_flag_same c w word h done = refl
  after_flag_same c w word h (waits id) = refl
  after_flag_same c w word h plain = plain_same c w word h
  after_flag_same c w word h refused = plain_same c w word h

  flagged_same : (c : List Rule) (w : Waiting) (word : Text) (m n : Held × Outcome) → m ≡ n → after_flag (map alter c) w word m.0 m.1 ≡ after_flag c w word n.0 n.1
  flagged_same c w word m n e = ap (λ (x : Held × Outcome). after_flag (map alter c) w word x.0 x.1) e ∙ after_flag_same c w word n.0 n.1

  short_or_plain_same : (c : List Rule) (w : Waiting) (word : Text) (s : Option Text) (h : Held) → short_or_plain (map alter c) w word s h ≡ short_or_plain c w word s h
  short_or_plain_same c w word (Some flags) h = flagged_same c w word _ _ (bundle_same c flags h)
  short_or_plain_same c w word None h = plain_same c w word h

  long_or_other_same : (c : List Rule) (w : Waiting) (word : Text) (l : Option (Text × Option Text)) (h : Held) → long_or_other (map alter c) w word l h ≡ long_or_other c w word l h
  long_or_other_same c w word (Some p) h = flagged_same c w word _ _ (long_same c p.0 p.1 h)
  long_or_other_same c w word None h = short_or_plain_same c w word (short_of word) h

  other_same : (c : List Rule) (s : Option Text) (w : Waiting) (position : ℕ) (word : Text) (h : Held) → subcommand_or_other (map alter c) s w position word h ≡ subcommand_or_other c s w position word h
  other_same c (Some name) w position word h = refl
  other_same c None w position word h = λ i. if bytes_eq word (45 ∷ 45 ∷ []) then (h, trailing position) else long_or_other_same c w word (long_of word) h i

  word_same : (c : List Rule) (names : Names) (is_trailing : Bool) (w : Waiting) (position : ℕ) (word : Text) (h : Held)
      → word_met (map alter c) names is_trailing w position word h ≡ word_met c names is_trailing w position word h
  word_same c names is_trailing w position word h = λ i. if is_trailing then (h, value) else other_same c (subcommand_met names w word) w position word h i

  to_positional_same : (c : List Rule) (o : Option Rule) (word : Text) (w : Walk) (h : Held) → to_positional (map alter c) (option_map alter o) word w h ≡ to_positional c o word w h
  to_positional_same c None word w h = refl
  to_positional_same c (Some a) word w h = λ i. record {
    held = pushed a.id word (if is_pending a h.pending && takes_several a then h else settled_same c h i);
    waiting = if is_multiple a then positional else idle;
    position = next_position a w.position;
    is_trailing = w.is_trailing || a.trailing_var_arg;
    stopped = None;
  }

  after_step_same : (c : List Rule) (word : Text) (w : Walk) (h : Held) (s : Step) → after_step (map alter c) word w h s ≡ after_step c word w h s
  after_step_same c word w h (next waiting) = refl
  after_step_same c word w h (trailing position) = refl
  after_step_same c word w h (subcommand name) = refl
  after_step_same c word w h value =
      ap (λ o. to_positional (map alter c) o word w h) (by_index c w.position) ∙ to_positional_same c (arg_by_index c w.position) word w h

  stepped_same : (c : List Rule) (word : Text) (w : Walk) (m n : Held × Step) → m ≡ n → after_step (map alter c) word w m.0 m.1 ≡ after_step c word w n.0 n.1
  stepped_same c word w m n e = ap (λ (x : Held × Step). after_step (map alter c) word w x.0 x.1) e ∙ after_step_same c word w n.0 n.1

  walked_from_same : (c : List Rule) (names : Names) (p : Option (Text × List Text)) (w : Walk) (word : Text) → walked_from (map alter c) names p w word ≡ walked_from c names p w word
  walked_from_same c names (Some p) w word = refl
  walked_from_same c names None w word = stepped_same c word w _ _ (word_same c names w.is_trailing w.waiting w.position word w.held)

  walked_same : (c : List Rule) (names : Names) → walked (map alter c) names ≡ walked c names
  unfolding walked
  walked_same c names = λ i w word. walked_from_same c names w.stopped w word i

  walk_same : (c : List Rule) (names : Names) (h : Held) (words : List Text) → walk (map alter c) names h words ≡ walk c names h words
  walk_same c names h words = λ i. fold (walked_same c names i) (walk_from h) words

  default_same : (rows : List Row) (a : Rule) → with_default rows (alter a) ≡ with_default rows a
  default_same rows a = λ i. if has_row a.id rows then rows else default_rows a.id (reads a.parser i) a.defaults rows

  finished_same : (c : List Rule) (h : Held) → finished (map alter c) h ≡ finished c h
  finished_same c h = fold-map with_default alter (settled (map alter c) h).rows c ∙ λ i. fold (λ rows a. default_same rows a i) (settled_same c h i).rows c

  rows_after_same : (c : List Rule) (names : Names) (words : List Text) → rows_after (map alter c) names words ≡ rows_after c names words
  rows_after_same c names words =
      ap (λ (w : Walk). finished (map alter c) w.held) (walk_same c names nothing_held words) ∙ finished_same c (walk c names nothing_held words).held

  labels_same : (subs : List Shape) → map label_of (map alter_shape subs) ≡ map label_of subs
  labels_same [] = refl
  labels_same (s ∷ ss) = λ i. label_of s ∷ labels_same ss i

  row_at_same : (o : Option Shape) (words : List Text) → option_map (λ s. rows_at s words) (option_map alter_shape o) ≡ option_map (λ s. rows_at s words) o
  row_at_same None words = refl
  row_at_same (Some s) words = λ i. Some (s.name, rows_after_same s.rules [] words i)

  -- the subcommand at which a walk stopped, with its matches
  pub entered_same : (a : App) (stop : Option (Text × List Text)) → entered (alter_app a) stop ≡ entered a stop
  entered_same a None = refl
  entered_same a (Some p) =
      ap (option_map (λ s. rows_at s p.1)) (sym (find-map (λ s. answers_to p.0 (label_of s)) alter_shape a.subs))
      ∙ row_at_same (find (λ s. answers_to p.0 (label_of s)) a.subs) p.1

  pub stop_same : (a : App) (h : Held) (words : List Text) → (walk (alter_app a).top.rules (names_of (alter_app a)) h words).stopped ≡ (walk a.top.rules (names_of a) h words).stopped
  stop_same a h words = λ i. ((walk_same a.top.rules (labels_same a.subs i) h words i).stopped)

  -- ---- faults of one use

  values_same : (ic : Bool) (p : Option ValueParser) (vs : List Text) → values_kinds ic (parser_of_value (g p)) vs ≡ values_kinds ic (parser_of_value p) vs
  values_same ic p [] = refl
  values_same ic p (v ∷ vs) = λ i. or_else (tests ic p v i) (values_same ic p vs i)

  count_same : (a : Rule) (vs : List Text) (rows : List Row) → count_fault (alter a) vs rows ≡ count_fault a vs rows
  count_same a [] rows = tests a.ignore_case a.parser (count_text (min (count_of a.id rows + 1) 255))
  count_same a (v ∷ vs) rows = values_same a.ignore_case a.parser (v ∷ vs)

  action_same : (action : ArgAction) (again : Bool) (a : Rule) (vs : List Text) (rows : List Row) → action_fault action again (alter a) vs rows ≡ action_fault action again a vs rows
  action_same Set again a vs rows = λ i. or_else (repeat_fault again a.id rows) (values_same a.ignore_case a.parser vs i)
  action_same SetTrue again a vs rows = λ i. or_else (repeat_fault again a.id rows) (values_same a.ignore_case a.parser vs i)
  action_same SetFalse again a vs rows = λ i. or_else (repeat_fault again a.id rows) (values_same a.ignore_case a.parser vs i)
  action_same Append again a vs rows = values_same a.ignore_case a.parser vs
  action_same Count again a vs rows = count_same a vs rows
  action_same Help again a vs rows = refl
  action_same HelpShort again a vs rows = refl
  action_same HelpLong again a vs rows = refl
  action_same Version again a vs rows = refl

  given_same : (a : Rule) (vs : List Text) → values_or_missing (alter a) vs ≡ values_or_missing a vs
  given_same a [] = refl
  given_same a (v ∷ vs) = refl

  use_same : (again : Bool) (a : Rule) (vs : List Text) (rows : List Row) → use_fault again (alter a) vs rows ≡ use_fault again a vs rows
  use_same again a vs rows =
      let given = ap (λ xs. action_fault (action_of a) again (alter a) xs rows) (given_same a vs) ∙ action_same (action_of a) again a (values_or_missing a vs) rows in
      λ i. or_else (range_kinds (unwrap_or_range a.range).start_inclusive (most_values a) (length vs)) (given i)

  -- ---- faults of the walk

  found_use_same : (o : Option Rule) (again : Bool) (vs : List Text) (rows : List Row)
      → option_map_or (λ a. use_fault again a vs rows) (option_map alter o) [] ≡ option_map_or (λ a. use_fault again a vs rows) o []
  found_use_same None again vs rows = refl
  found_use_same (Some a) again vs rows = use_same again a vs rows

  pending_same : (c : List Rule) (again : Bool) (p : Text × List Text) (rows : List Row)
      → option_map_or (λ a. use_fault again a p.1 rows) (arg_by_id (map alter c) p.0) [] ≡ option_map_or (λ a. use_fault again a p.1 rows) (arg_by_id c p.0) []
  pending_same c again p rows = ap (λ o. option_map_or (λ a. use_fault again a p.1 rows) o []) (by_id c p.0) ∙ found_use_same (arg_by_id c p.0) again p.1 rows

  settle_same : (c : List Rule) (again : Bool) (h : Held) → settle_fault (map alter c) again h ≡ settle_fault c again h
  settle_same c again h = λ i. option_map_or (λ p. pending_same c again p h.rows i) h.pending []

  react_same : (c : List Rule) (again : Bool) (a : Rule) (vs : List Text) (h : Held) → react_fault (map alter c) again (alter a) vs h ≡ react_fault c again a vs h
  react_same c again a vs h =
      let now = ap (use_fault again (alter a) vs) (rows_same c h.pending h.rows) ∙ use_same again a vs (settled_rows c h.pending h.rows) in
      λ i. or_else (settle_same c again h i) (now i)

  option_fault_same : (c : List Rule) (again : Bool) (a : Rule) (v : Option Text) (h : Held) → option_fault (map alter c) again (alter a) v h ≡ option_fault c again a v h
  option_fault_same c again a (Some v) h = react_same c again a (v ∷ []) h
  option_fault_same c again a None h = settle_same c again h

  found_long_fault : (c : List Rule) (again : Bool) (o : Option Rule) (v : Option Text) (h : Held) → long_fault (map alter c) again (option_map alter o) v h ≡ long_fault c again o v h
  found_long_fault c again None v h = refl
  found_long_fault c again (Some a) v h = λ i. if takes_values a then option_fault_same c again a v h i
      else (if is_some v then TooManyValues ∷ [] else react_same c again a [] h i)

  found_short_fault : (c : List Rule) (again : Bool) (o : Option Rule) (rest : Text) (h : Held) (m n : Held → Kinds) → m ≡ n
      → short_fault (map alter c) again (option_map alter o) rest h m ≡ short_fault c again o rest h n
  found_short_fault c again None rest h m n e = refl
  found_short_fault c again (Some a) rest h m n e = λ i. if takes_values a then option_fault_same c again a (attached_value rest) h i
      else or_else (react_same c again a [] h i) (e i (reacted_same c a [] h i))

  step_fault_same : (c : List Rule) (again : Bool) (x : Option ℕ) (flags : Text) (skip : ℕ) (h : Held) (m n : Text → ℕ → Held → Kinds) → m ≡ n
      → bundle_step_fault (map alter c) again x flags skip h m ≡ bundle_step_fault c again x flags skip h n
  step_fault_same c again None flags skip h m n e = refl
  step_fault_same c again (Some x) flags zero h m n e =
      let rest = drop (length (encode_utf8 x)) flags in
      ap (λ o. short_fault (map alter c) again o rest h (m rest 0)) (by_short c x)
      ∙ found_short_fault c again (arg_by_short c x) rest h (m rest 0) (n rest 0) (λ i. e i rest 0)
  step_fault_same c again (Some x) flags (suc skip) h m n e = λ i. e i (drop (length (encode_utf8 x)) flags) skip h

  flags_fault_same : (c : List Rule) (again : Bool) (k : ℕ) → flags_fault (map alter c) again k ≡ flags_fault c again k
  unfolding flags_fault
  flags_fault_same c again zero = refl
  flags_fault_same c again (suc k) = λ i flags skip h. step_fault_same c again (slice_get (chars flags) 0) flags skip h (flags_fault (map alter c) again k) (flags_fault c again k) (flags_fault_same c again k) i

  bundle_fault_same : (c : List Rule) (again : Bool) (flags : Text) (h : Held) → bundle_fault (map alter c) again flags h ≡ bundle_fault c again flags h
  bundle_fault_same c again flags h = λ i. flags_fault_same c again (length flags) i flags h.skip (record h { skip = 0 })

  flag_fault_same : (c : List Rule) (again : Bool) (l : Option (Text × Option Text)) (word : Text) (h : Held) → flag_word_fault (map alter c) again l word h ≡ flag_word_fault c again l word h
  flag_fault_same c again (Some p) word h = ap (λ o. long_fault (map alter c) again o p.1 h) (by_long c p.0) ∙ found_long_fault c again (arg_by_long c p.0) p.1 h
  flag_fault_same c again None word h = λ i. option_map_or (λ flags. bundle_fault_same c again flags h i) (short_of word) []

  other_fault_same : (s : Shape) (o : Option Text) (word : Text) (h : Held) → other_fault (alter_shape s) o word h ≡ other_fault s o word h
  other_fault_same s (Some name) word h = refl
  other_fault_same s None word h = λ i. if bytes_eq word (45 ∷ 45 ∷ []) then [] else flag_fault_same s.rules s.args_override_self (long_of word) word h i

  word_fault_same : (s : Shape) (names : Names) (is_trailing : Bool) (w : Waiting) (word : Text) (h : Held)
      → word_fault (alter_shape s) names is_trailing w word h ≡ word_fault s names is_trailing w word h
  word_fault_same s names is_trailing w word h = λ i. if is_trailing then [] else other_fault_same s (subcommand_met names w word) word h i

  place_same : (c : List Rule) (again : Bool) (a : Rule) (h : Held) → positional_fault (map alter c) again (alter a) h ≡ positional_fault c again a h
  place_same c again a h = λ i. if is_pending a h.pending && takes_several a then [] else settle_same c again h i

  found_place_same : (s : Shape) (o : Option Rule) (h : Held)
      → option_map_or (λ a. positional_fault (map alter s.rules) s.args_override_self a h) (option_map alter o) (stray_fault s)
      ≡ option_map_or (λ a. positional_fault s.rules s.args_override_self a h) o (stray_fault s)
  found_place_same s None h = refl
  found_place_same s (Some a) h = place_same s.rules s.args_override_self a h

  met_fault_same : (s : Shape) (position : ℕ) (h : Held) (step : Step) → step_fault (alter_shape s) position h step ≡ step_fault s position h step
  met_fault_same s position h (next waiting) = refl
  met_fault_same s position h (trailing p) = refl
  met_fault_same s position h (subcommand name) = refl
  met_fault_same s position h value =
      ap (λ o. option_map_or (λ a. positional_fault (map alter s.rules) s.args_override_self a h) o (stray_fault s)) (by_index s.rules position)
      ∙ found_place_same s (arg_by_index s.rules position) h

  stepped_fault : (s : Shape) (position : ℕ) (m n : Held × Step) → m ≡ n → step_fault (alter_shape s) position m.0 m.1 ≡ step_fault s position n.0 n.1
  stepped_fault s position m n e = ap (λ (x : Held × Step). step_fault (alter_shape s) position x.0 x.1) e ∙ met_fault_same s position n.0 n.1

  turn_same : (s : Shape) (names : Names) (w : Walk) (word : Text) → turn_fault (alter_shape s) names w word ≡ turn_fault s names w word
  turn_same s names w word =
      let met = stepped_fault s w.position _ _ (word_same s.rules names w.is_trailing w.waiting w.position word w.held) in
      λ i. if is_some w.stopped then [] else or_else (word_fault_same s names w.is_trailing w.waiting word w.held i) (met i)

  walk_fault_same : (s : Shape) (names : Names) (w : Walk) (words : List Text) → walk_fault (alter_shape s) names w words ≡ walk_fault s names w words
  unfolding walk_fault
  walk_fault_same s names w [] = refl
  walk_fault_same s names w (word ∷ rest) =
      let more = ap (λ (f : Walk → Text → Walk). walk_fault (alter_shape s) names (f w word) rest) (walked_same s.rules names) ∙ walk_fault_same s names (walked s.rules names w word) rest in
      λ i. or_else (turn_same s names w word i) (more i)

  -- ---- faults after the walk

  default_fault_same : (rows : List Row) (a : Rule) → default_fault rows (alter a) ≡ default_fault rows a
  default_fault_same rows a = λ i. if has_row a.id rows || is_empty a.defaults then [] else or_else (request_kinds (action_of a)) (values_same a.ignore_case a.parser a.defaults i)

  defaults_same : (rows : List Row) (c : List Rule) → defaults_fault rows (map alter c) ≡ defaults_fault rows c
  unfolding defaults_fault
  defaults_same rows [] = refl
  defaults_same rows (a ∷ rest) =
      let more = ap (λ rs. defaults_fault rs (map alter rest)) (default_same rows a) ∙ defaults_same (with_default rows a) rest in
      λ i. or_else (default_fault_same rows a i) (more i)

  check_same : (s : Shape) (rows : List Row) (has : Bool) → check_fault (alter_shape s) rows has ≡ check_fault s rows has
  check_same s rows has =
      let wanted = sym (list_any-map (λ (a : Rule). a.required && not (is_given a.id rows)) alter s.rules) in
      λ i. check_kinds (not has && (s.arg_required_else_help && not (list_any (λ (r : Row). explicit_source r.source) rows)))
      (not has && s.subcommand_required) (not (s.subcommand_negates_reqs && has) && wanted i)

  -- at the end of a walk
  end_same : (s : Shape) (end : Held) (has : Bool)
      → or_else (settle_fault (map alter s.rules) s.args_override_self end)
      (or_else (defaults_fault (settled (map alter s.rules) end).rows (map alter s.rules)) (check_fault (alter_shape s) (finished (map alter s.rules) end) has))
      ≡ or_else (settle_fault s.rules s.args_override_self end) (or_else (defaults_fault (settled s.rules end).rows s.rules) (check_fault s (finished s.rules end) has))
  end_same s end has =
      let defaults = ap (λ rows. defaults_fault rows (map alter s.rules)) (rows_same s.rules end.pending end.rows) ∙ defaults_same (settled_rows s.rules end.pending end.rows) s.rules in
      let checks = ap (λ rows. check_fault (alter_shape s) rows has) (finished_same s.rules end) ∙ check_same s (finished s.rules end) has in
      λ i. or_else (settle_same s.rules s.args_override_self end i) (or_else (defaults i) (checks i))

  abbrev after_walk : Shape → Walk → Bool → Kinds
  after_walk s w has = or_else (settle_fault s.rules s.args_override_self w.held)
      (or_else (defaults_fault (settled s.rules w.held).rows s.rules) (check_fault s (finished s.rules w.held) has))

  level_same : (s : Shape) (names : Names) (h : Held) (words : List Text) (has : Bool) (below : Kinds) → level_fault (alter_shape s) names h words has below ≡ level_fault s names h words has below
  level_same s names h words has below =
      let end = ap (λ (w : Walk). after_walk (alter_shape s) w has) (walk_same s.rules names h words) ∙ end_same s (walk s.rules names h words).held has in
      λ i. or_else (walk_fault_same s names (walk_from h) words i) (or_else below (end i))

  found_level : (o : Option Shape) (words : List Text)
      → option_map_or (λ s. level_fault s [] nothing_held words false []) (option_map alter_shape o) [] ≡ option_map_or (λ s. level_fault s [] nothing_held words false []) o []
  found_level None words = refl
  found_level (Some s) words = level_same s [] nothing_held words false []

  entered_fault_same : (a : App) (stop : Option (Text × List Text)) → entered_fault (alter_app a) stop ≡ entered_fault a stop
  entered_fault_same a None = refl
  entered_fault_same a (Some p) =
      ap (λ o. option_map_or (λ s. level_fault s [] nothing_held p.1 false []) o []) (sym (find-map (λ s. answers_to p.0 (label_of s)) alter_shape a.subs))
      ∙ found_level (find (λ s. answers_to p.0 (label_of s)) a.subs) p.1

  -- the faults of a command that is built
  pub faults_same : (a : App) (h : Held) (words : List Text) → built_fault (alter_app a) h words ≡ built_fault a h words
  faults_same a h words =
      let stop = stop_same a h words in
      let has = ap (λ p. is_some (entered (alter_app a) p)) stop ∙ ap is_some (entered_same a (walk a.top.rules (names_of a) h words).stopped) in
      let below = ap (entered_fault (alter_app a)) stop ∙ entered_fault_same a (walk a.top.rules (names_of a) h words).stopped in
      (λ i. level_fault (alter_shape a.top) (labels_same a.subs i) h words (has i) (below i))
      ∙ level_same a.top (names_of a) h words (is_some (entered a (walk a.top.rules (names_of a) h words).stopped)) (entered_fault a (walk a.top.rules (names_of a) h words).stopped)
