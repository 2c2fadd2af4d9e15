-- A request has no more rows than the body of its message has bytes.
use Rattle.std.proofs.Common.{◌≡◌, ℕ, suc, ◌+◌, ◌≤◌, Bool, true, false, List, [], ◌∷◌, length, codes, bytes_eq, Option, Some, None, option_map, option_and_then, Result, Ok, Err, refl, ap, subst, arith, Less, Equal, Greater}
use Rattle.std.specs.Prelude.{IfOk, IfSome, ⊤, if◌then◌else◌}
use Rattle.std.specs.Option.{ok_or}
use Rattle.std.specs.declared.cmp.Ordering.{Ordering}
use Rattle.std.specs.Ordering.{nat_cmp, match_ordering}
use Rattle.std.specs.Cmp.Lexicographic.{slice_cmp}
use Rattle.std.specs.Str.{is_utf8}
use Rattle.std.proofs.lemmas.List.{length-append}
use Rattle.json.specs.Token.{Token, begin_object, end_object, begin_array, end_array, key, bad}
use Rattle.json.specs.Token as token
use Rattle.json.specs.Lex as lexer
use Rattle.json.specs.Lex.{Lexeme, comma, colon, Class, Mode, Place, fresh, after_value, after_comma, after_key, lex, lex_byte, class, place_token, punctuate, if_allowed, may_begin, may_close, begins_colon, tokens}
use Rattle.json.specs.Json as json
use Rattle.json.specs.Json.{value, if_last}
use Rattle.json.specs.Tree.{json_tokens, items_tokens, members_tokens}
use Rattle.json.proofs.Unique.Spelling.{value-json_tokens_back}
use Rattle.serde_json.specs.Data.{Data, null, boolean, number, string, array, object, Items, no_items, item, Members, no_members, member, put}
use Rattle.serde_json.specs.Read.{number_of, of_json, of_items, of_members, read}
use Rattle.serde_json.specs.Find.{get, get_member, as_array}
use Rattle.ee_desk_model.specs.declared.acts.Act.{Act}
use Rattle.ee_desk_model.specs.declared.acts.Act.TheVariants as act
use Rattle.ee_desk_model.specs.declared.acts.Request.{Request}
use Rattle.ee_desk_model.specs.declared.queries.Query.{Query}
use Rattle.ee_desk_model.specs.Repeats.{Content}
use Rattle.ee_wire_calls.specs.Bodies.{each, rate_row, rate_rows, bond_of, bonds_of, serials_of, add_rates, add_bonds, open_day, close_day, redeem, request_of}
use Rattle.ee_wire_calls.specs.Calls as Calls
use Rattle.ee_wire_calls.specs.Calls.{as_call, posted, called, routed, json_of, decoded}
use Rattle.ee_wire_calls.specs.Fields.{◌>>=◌, field, optional_or, no_other, an_object}
use Rattle.ee_wire_calls.specs.Kinds.{desk_in, number_in, day_in, serial_in, customer_in}
use Rattle.ee_wire_calls.specs.Paths.{query_of}
use Rattle.ee_wire_calls.specs.declared.calls.Call.TheVariants as call
use Rattle.ee_wire_calls.specs.declared.faults.Field.{Field}
use Rattle.ee_wire_calls.specs.declared.faults.Field.TheVariants as at
use Rattle.ee_wire_calls.specs.declared.faults.WireFault.{WireFault}
use Rattle.ee_wire_calls.specs.declared.faults.WireFault.TheVariants.{BadMethod}
use Rattle.ee_wire_calls.specs.declared.routes.Post.{Post}
use Rattle.ee_wire_calls.specs.declared.routes.Post.TheVariants as post
use Rattle.ee_wire_calls.specs.declared.routes.Route.{Route}
use Rattle.ee_wire_calls.specs.declared.routes.Route.TheVariants as route
use Rattle.ee_counter.specs.Answering.{FitsCall}

-- ---- tokens

lexeme_most : (m : Mode) (c : Class) (x : ℕ) (xs : List ℕ) (k : Mode → List Lexeme) (n : ℕ) → ((next : Mode) → length (k next) ≤ n) → length (lex_byte m c x xs k) ≤ suc n
lexeme_most lexer.between lexer.quote x xs k n few = omega (arith, few lexer.in_string)
lexeme_most lexer.between lexer.backslash x xs k n few = omega (arith, few lexer.in_word)
lexeme_most lexer.between lexer.operator x xs k n few = omega (arith, few lexer.between)
lexeme_most lexer.between lexer.space x xs k n few = omega (arith, few lexer.between)
lexeme_most lexer.between lexer.other x xs k n few = omega (arith, few lexer.in_word)
lexeme_most lexer.in_word lexer.quote x xs k n few = omega (arith, few lexer.in_word)
lexeme_most lexer.in_word lexer.backslash x xs k n few = omega (arith, few lexer.in_word)
lexeme_most lexer.in_word lexer.operator x xs k n few = omega (arith, few lexer.between)
lexeme_most lexer.in_word lexer.space x xs k n few = omega (arith, few lexer.between)
lexeme_most lexer.in_word lexer.other x xs k n few = omega (arith, few lexer.in_word)
lexeme_most lexer.in_string lexer.quote x xs k n few = omega (arith, few lexer.between)
lexeme_most lexer.in_string lexer.backslash x xs k n few = omega (arith, few lexer.in_escape)
lexeme_most lexer.in_string lexer.operator x xs k n few = omega (arith, few lexer.in_string)
lexeme_most lexer.in_string lexer.space x xs k n few = omega (arith, few lexer.in_string)
lexeme_most lexer.in_string lexer.other x xs k n few = omega (arith, few lexer.in_string)
lexeme_most lexer.in_escape c x xs k n few = omega (arith, few lexer.in_string)

lex_most : (m : Mode) (xs : List ℕ) → length (lex m xs) ≤ length xs
unfolding lex
lex_most m [] = omega arith
lex_most m (x ∷ xs) = lexeme_most m (class x) x xs (λ next. lex next xs) (length xs) (λ next. lex_most next xs)

allowed_most : (may : Bool) (t : Token) (k : Place → List Token) (next : Place) (n : ℕ) → ((p : Place) → length (k p) ≤ n) → length (if_allowed may t k next) ≤ suc n
allowed_most true t k next n few = omega (arith, few next)
allowed_most false t k next n few = omega arith

token_most : (p : Place) (t : Token) (before : Bool) (k : Place → List Token) (n : ℕ) → ((next : Place) → length (k next) ≤ n) → length (place_token p t before k) ≤ suc n
token_most p begin_object before k n few = allowed_most (may_begin p) begin_object k fresh n few
token_most p end_object before k n few = allowed_most (may_close p) end_object k after_value n few
token_most p begin_array before k n few = allowed_most (may_begin p) begin_array k fresh n few
token_most p end_array before k n few = allowed_most (may_close p) end_array k after_value n few
token_most p (key s) before k n few = omega arith
token_most p (token.string s) true k n few = allowed_most (may_begin p) (key s) k after_key n few
token_most p (token.string s) false k n few = allowed_most (may_begin p) (token.string s) k after_value n few
token_most p (token.number s) before k n few = allowed_most (may_begin p) (token.number s) k after_value n few
token_most p (token.boolean b) before k n few = allowed_most (may_begin p) (token.boolean b) k after_value n few
token_most p token.null before k n few = allowed_most (may_begin p) token.null k after_value n few
token_most p bad before k n few = omega arith

punctuate_most : (p : Place) (ls : List Lexeme) → length (punctuate p ls) ≤ suc (length ls)
unfolding punctuate
punctuate_most fresh [] = omega arith
punctuate_most after_value [] = omega arith
punctuate_most after_comma [] = omega arith
punctuate_most after_key [] = omega arith
punctuate_most fresh (lexer.token t ∷ ls) = token_most fresh t (begins_colon ls) (λ next. punctuate next ls) (suc (length ls)) (λ next. punctuate_most next ls)
punctuate_most after_value (lexer.token t ∷ ls) = token_most after_value t (begins_colon ls) (λ next. punctuate next ls) (suc (length ls)) (λ next. punctuate_most next ls)
punctuate_most after_comma (lexer.token t ∷ ls) = token_most after_comma t (begins_colon ls) (λ next. punctuate next ls) (suc (length ls)) (λ next. punctuate_most next ls)
punctuate_most after_key (lexer.token t ∷ ls) = token_most after_key t (begins_colon ls) (λ next. punctuate next ls) (suc (length ls)) (λ next. punctuate_most next ls)
punctuate_most fresh (comma ∷ ls) = omega arith
punctuate_most after_value (comma ∷ ls) = omega (arith, punctuate_most after_comma ls)
punctuate_most after_comma (comma ∷ ls) = omega arith
punctuate_most after_key (comma ∷ ls) = omega arith
punctuate_most fresh (colon ∷ ls) = omega arith
punctuate_most after_value (colon ∷ ls) = omega arith
punctuate_most after_comma (colon ∷ ls) = omega arith
punctuate_most after_key (colon ∷ ls) = omega (arith, punctuate_most fresh ls)

-- a text has at most one token more than bytes
tokens_most : (text : List ℕ) → length (tokens text) ≤ suc (length text)
tokens_most text = omega (arith, lex_most lexer.between text, punctuate_most fresh (lex lexer.between text))

-- ---- values

-- how many values there are in a value, and it
abbrev mutual
  pub weight : Data → ℕ
  weight null = 1
  weight (boolean b) = 1
  weight (number n) = 1
  weight (string s) = 1
  weight (array ds) = suc (items_weight ds)
  weight (object ms) = suc (members_weight ms)

  pub items_weight : Items → ℕ
  items_weight no_items = 0
  items_weight (item d ds) = weight d + items_weight ds

  pub members_weight : Members → ℕ
  members_weight no_members = 0
  members_weight (member k d ms) = weight d + members_weight ms

pub weight_some : (d : Data) → 1 ≤ weight d
weight_some null = omega arith
weight_some (boolean b) = omega arith
weight_some (number n) = omega arith
weight_some (string s) = omega arith
weight_some (array ds) = omega arith
weight_some (object ms) = omega arith

put_at : (o : Ordering) (k l : List ℕ) (d e : Data) (ms rest : Members) → members_weight rest ≤ weight d + members_weight ms
    → members_weight (match_ordering o (member k d (member l e ms)) (member l d ms) (member l e rest)) ≤ weight d + (weight e + members_weight ms)
put_at Less k l d e ms rest few = omega arith
put_at Equal k l d e ms rest few = omega arith
put_at Greater k l d e ms rest few = omega (arith, few)

put_most : (k : List ℕ) (d : Data) (ms : Members) → members_weight (put k d ms) ≤ weight d + members_weight ms
put_most k d no_members = omega arith
put_most k d (member l e ms) = put_at (slice_cmp nat_cmp k l) k l d e ms (put k d ms) (put_most k d ms)

mapped : {A B : Type 0} (f : A → B) (o : Option A) (Q : A → Type 0) (P : B → Type 0) → ((a : A) → Q a → P (f a)) → IfSome o Q → IfSome (option_map f o) P
mapped f None Q P go it = tt
mapped f (Some a) Q P go it = go a it

followed : {A B : Type 0} (f : A → Option B) (o : Option A) (Q : A → Type 0) (P : B → Type 0) → ((a : A) → Q a → IfSome (f a) P) → IfSome o Q → IfSome (option_and_then f o) P
followed f None Q P go it = tt
followed f (Some a) Q P go it = go a it

any : {A : Type 0} (o : Option A) → IfSome o (λ a. ⊤)
any None = tt
any (Some a) = tt

weaker : {A : Type 0} (o : Option A) (Q P : A → Type 0) → ((a : A) → Q a → P a) → IfSome o Q → IfSome o P
weaker None Q P go it = tt
weaker (Some a) Q P go it = go a it

mutual
  json_most : (j : json.Json) → IfSome (of_json j) (λ d. weight d ≤ length (json_tokens j))
  json_most json.null = omega arith
  json_most (json.boolean b) = omega arith
  json_most (json.number s) = mapped number (number_of s) (λ n. ⊤) (λ d. weight d ≤ 1) (λ n it. omega arith) (any (number_of s))
  json_most (json.string s) = omega arith
  json_most (json.array js) = mapped array (of_items js) (λ ds. items_weight ds ≤ length (items_tokens js)) _ (λ ds few. omega (arith, few)) (items_most js)
  json_most (json.object ms) =
      mapped object (of_members ms no_members) (λ r. members_weight r ≤ 0 + length (members_tokens ms)) _ (λ r few. omega (arith, few)) (members_most ms no_members)

  items_most : (js : json.Items) → IfSome (of_items js) (λ ds. items_weight ds ≤ length (items_tokens js))
  items_most json.no_items = omega arith
  items_most (json.item j js) =
      followed (λ d. option_map (item d) (of_items js)) (of_json j) (λ d. weight d ≤ length (json_tokens j)) _
      (λ d one. mapped (item d) (of_items js) (λ ds. items_weight ds ≤ length (items_tokens js)) _ (λ ds rest. omega (arith, one, rest, length-append (json_tokens j) (items_tokens js))) (items_most js))
      (json_most j)

  members_most : (ms : json.Members) (found : Members) → IfSome (of_members ms found) (λ r. members_weight r ≤ members_weight found + length (members_tokens ms))
  members_most json.no_members found = omega arith
  members_most (json.member k j ms) found =
      followed (λ d. of_members ms (put k d found)) (of_json j) (λ d. weight d ≤ length (json_tokens j)) _
      (λ d one. weaker (of_members ms (put k d found)) _ _ (λ r few. omega (arith, one, few, put_most k d found, length-append (json_tokens j) (members_tokens ms))) (members_most ms (put k d found)))
      (json_most j)

get_at : (o : Ordering) (e : Data) (r : Option Data) (n m : ℕ) → weight e ≤ m → IfSome r (λ d. weight d ≤ n) → n ≤ m → IfSome (match_ordering o r (Some e) r) (λ d. weight d ≤ m)
get_at Less e r n m one rest le = weaker r _ _ (λ d few. omega (arith, few, le)) rest
get_at Equal e r n m one rest le = one
get_at Greater e r n m one rest le = weaker r _ _ (λ d few. omega (arith, few, le)) rest

get_member_most : (k : List ℕ) (ms : Members) → IfSome (get_member k ms) (λ d. weight d ≤ members_weight ms)
get_member_most k no_members = tt
get_member_most k (member l e ms) = get_at (slice_cmp nat_cmp k l) e (get_member k ms) (members_weight ms) (weight e + members_weight ms) (omega arith) (get_member_most k ms) (omega arith)

get_most : (k : List ℕ) (d : Data) → IfSome (get k d) (λ e. weight e ≤ weight d)
get_most k null = tt
get_most k (boolean b) = tt
get_most k (number n) = tt
get_most k (string s) = tt
get_most k (array ds) = tt
get_most k (object ms) = weaker (get_member k ms) _ _ (λ d few. omega (arith, few)) (get_member_most k ms)

read_value : (ts : List Token) (n : ℕ) (o : Option (json.Json × List Token)) → value 127 ts ≡ o → length ts ≤ n → IfSome (option_and_then of_json (option_and_then (λ p. if_last p.0 p.1) o)) (λ d. weight d ≤ n)
read_value ts n None is few = tt
read_value ts n (Some (j, [])) is few =
    let same = ap length (value-json_tokens_back 127 ts [] j is) in
    weaker (of_json j) _ _ (λ d one. omega (arith, one, few, same, length-append (json_tokens j) [])) (json_most j)
read_value ts n (Some (j, t ∷ more)) is few = tt

-- a text has at most one value more than bytes
read_most : (text : List ℕ) → IfSome (read text) (λ d. weight d ≤ suc (length text))
read_most text = read_value (tokens text) (suc (length text)) (value 127 (tokens text)) refl (tokens_most text)

in_text : (is_text : Bool) (text : List ℕ) → IfSome (if is_text then read text else None) (λ d. weight d ≤ suc (length text))
in_text true text = read_most text
in_text false text = tt

-- ---- requests

-- how many rows an act has
abbrev pub rows : Act → ℕ
rows (act.AddRates rates) = length rates
rows (act.AddBonds bonds) = length bonds
rows (act.OpenDay day) = 0
rows (act.Redeem day payee serials) = length serials
rows (act.CloseDay day) = 0

then_ok : {A B : Type 0} (r : Result A Field) (f : A → Result B Field) (Q : A → Type 0) (P : B → Type 0) → IfOk r Q → ((x : A) → Q x → IfOk (f x) P) → IfOk (r >>= f) P
then_ok (Ok x) f Q P it go = go x it
then_ok (Err e) f Q P it go = tt

skip : {A B : Type 0} (r : Result A Field) (f : A → Result B Field) (P : B → Type 0) → ((x : A) → IfOk (f x) P) → IfOk (r >>= f) P
skip (Ok x) f P go = go x
skip (Err e) f P go = tt

pushed : {A : Type 0} (r : Result A Field) (rest : Result (List A) Field) (d : Data) (n : ℕ) → IfOk rest (λ xs. length xs ≤ n)
    → IfOk (r >>= λ x. rest >>= λ xs. Ok (x ∷ xs)) (λ xs. length xs ≤ weight d + n)
pushed (Ok x) (Ok xs) d n few = omega (arith, few, weight_some d)
pushed (Ok x) (Err e) d n few = tt
pushed (Err e) rest d n few = tt

each_most : {A : Type 0} (row : Data → Result A Field) (ds : Items) → IfOk (each row ds) (λ xs. length xs ≤ items_weight ds)
each_most row no_items = omega arith
each_most row (item d ds) = pushed (row d) (each row ds) d (items_weight ds) (each_most row ds)

is_object : (fault : Field) (d : Data) → IfOk (an_object fault d) (λ o. o ≡ d)
is_object fault (object ms) = refl
is_object fault null = tt
is_object fault (boolean b) = tt
is_object fault (number n) = tt
is_object fault (string s) = tt
is_object fault (array ds) = tt

in_array : (found : Option Data) (fault : Field) (n : ℕ) → IfSome found (λ e. weight e ≤ n) → IfOk (ok_or (option_and_then as_array found) fault) (λ ds. items_weight ds ≤ n)
in_array None fault n few = tt
in_array (Some null) fault n few = tt
in_array (Some (boolean b)) fault n few = tt
in_array (Some (number m)) fault n few = tt
in_array (Some (string s)) fault n few = tt
in_array (Some (array ds)) fault n few = omega (arith, few)
in_array (Some (object ms)) fault n few = tt

array_most : (name : List ℕ) (fault : Field) (o d : Data) → o ≡ d → IfOk (field name as_array fault o) (λ ds. items_weight ds ≤ weight d)
array_most name fault o d is = in_array (get name o) fault (weight d) (subst (λ e. IfSome (get name o) (λ x. weight x ≤ weight e)) is (get_most name o))

Few : Data → Request → Type 0
Few d q = rows q.act ≤ weight d

rates_most : (d : Data) → IfOk (add_rates d) (Few d)
unfolding add_rates Few
rates_most d =
    then_ok (an_object at.Body d) _ (λ o. o ≡ d) _ (is_object at.Body d) (λ o is.
    skip (optional_or 0 (codes "desk") desk_in at.Desk o) _ _ (λ desk.
    skip (field (codes "number") number_in at.Number o) _ _ (λ n.
    then_ok (field (codes "rates") as_array at.Rates o) _ (λ ds. items_weight ds ≤ weight d) _ (array_most (codes "rates") at.Rates o d is) (λ ds few.
    then_ok (rate_rows ds) _ (λ xs. length xs ≤ items_weight ds) _ (each_most rate_row ds) (λ xs less.
    skip (no_other (codes "desk" ∷ codes "number" ∷ codes "rates" ∷ []) o) _ _ (λ _. omega (arith, few, less)))))))

bonds_most : (d : Data) → IfOk (add_bonds d) (Few d)
unfolding add_bonds Few
bonds_most d =
    then_ok (an_object at.Body d) _ (λ o. o ≡ d) _ (is_object at.Body d) (λ o is.
    skip (optional_or 0 (codes "desk") desk_in at.Desk o) _ _ (λ desk.
    skip (field (codes "number") number_in at.Number o) _ _ (λ n.
    then_ok (field (codes "bonds") as_array at.Bonds o) _ (λ ds. items_weight ds ≤ weight d) _ (array_most (codes "bonds") at.Bonds o d is) (λ ds few.
    then_ok (bonds_of ds) _ (λ xs. length xs ≤ items_weight ds) _ (each_most bond_of ds) (λ xs less.
    skip (no_other (codes "desk" ∷ codes "number" ∷ codes "bonds" ∷ []) o) _ _ (λ _. omega (arith, few, less)))))))

opens_most : (d : Data) → IfOk (open_day d) (Few d)
unfolding open_day Few
opens_most d =
    skip (an_object at.Body d) _ _ (λ o.
    skip (optional_or 0 (codes "desk") desk_in at.Desk o) _ _ (λ desk.
    skip (field (codes "number") number_in at.Number o) _ _ (λ n.
    skip (field (codes "day") day_in at.Day o) _ _ (λ day.
    skip (no_other (codes "desk" ∷ codes "number" ∷ codes "day" ∷ []) o) _ _ (λ _. omega arith)))))

closes_most : (d : Data) → IfOk (close_day d) (Few d)
unfolding close_day Few
closes_most d =
    skip (an_object at.Body d) _ _ (λ o.
    skip (optional_or 0 (codes "desk") desk_in at.Desk o) _ _ (λ desk.
    skip (field (codes "number") number_in at.Number o) _ _ (λ n.
    skip (field (codes "day") day_in at.Day o) _ _ (λ day.
    skip (no_other (codes "desk" ∷ codes "number" ∷ codes "day" ∷ []) o) _ _ (λ _. omega arith)))))

redeem_most : (d : Data) → IfOk (redeem d) (Few d)
unfolding redeem Few
redeem_most d =
    then_ok (an_object at.Body d) _ (λ o. o ≡ d) _ (is_object at.Body d) (λ o is.
    skip (optional_or 0 (codes "desk") desk_in at.Desk o) _ _ (λ desk.
    skip (field (codes "number") number_in at.Number o) _ _ (λ n.
    skip (field (codes "day") day_in at.Day o) _ _ (λ day.
    skip (field (codes "payee") customer_in at.Payee o) _ _ (λ payee.
    then_ok (field (codes "serials") as_array at.Serials o) _ (λ ds. items_weight ds ≤ weight d) _ (array_most (codes "serials") at.Serials o d is) (λ ds few.
    then_ok (serials_of ds) _ (λ xs. length xs ≤ items_weight ds) _ (each_most (λ e. ok_or (serial_in e) at.Serials) ds) (λ xs less.
    skip (no_other (codes "desk" ∷ codes "number" ∷ codes "day" ∷ codes "payee" ∷ codes "serials" ∷ []) o) _ _ (λ _. omega (arith, few, less)))))))))

request_most : (p : Post) (d : Data) → IfOk (request_of p d) (Few d)
request_most post.Rates d = rates_most d
request_most post.Bonds d = bonds_most d
request_most post.DayOpen d = opens_most d
request_most post.DayClose d = closes_most d
request_most post.Redeem d = redeem_most d

-- ---- messages

module _ (fits : Content → Request → Type 0) (c : Content) (n : ℕ) (short : (q : Request) → rows q.act ≤ n → fits c q) where
  by_request : (d : Data) (r : Result Request Field) → weight d ≤ n → IfOk r (Few d) → FitsCall fits c (as_call call.Request r)
  unfolding Few
  by_request d (Ok q) less few = short q (omega (arith, less, few))
  by_request d (Err f) less few = tt

  by_query : (r : Result Query Field) → FitsCall fits c (as_call call.Query r)
  by_query (Ok q) = tt
  by_query (Err f) = tt

  by_json : (p : Post) (o : Option Data) → IfSome o (λ d. weight d ≤ n) → FitsCall fits c (posted p o)
  by_json p None few = tt
  by_json p (Some d) few = by_request d (request_of p d) few (request_most p d)

  by_post : (is_post : Bool) (p : Post) (o : Option Data) → IfSome o (λ d. weight d ≤ n) → FitsCall fits c (if is_post then posted p o else Err BadMethod)
  by_post true p o few = by_json p o few
  by_post false p o few = tt

  by_get : (is_get : Bool) (r : Result Query Field) → FitsCall fits c (if is_get then as_call call.Query r else Err BadMethod)
  by_get true r = by_query r
  by_get false r = tt

  by_route : (r : Result Route WireFault) (path method body : List ℕ) → IfSome (json_of body) (λ d. weight d ≤ n) → FitsCall fits c (Calls.◌>>=◌ r (λ at_route. called at_route path method body))
  by_route (Ok (route.Post p)) path method body few = by_post (bytes_eq method (codes "POST")) p (json_of body) few
  by_route (Ok (route.Get g)) path method body few = by_get (bytes_eq method (codes "GET")) (query_of g path)
  by_route (Err e) path method body few = tt

  by_path : (r : Result (List ℕ) WireFault) (method body : List ℕ) → IfSome (json_of body) (λ d. weight d ≤ n)
      → FitsCall fits c (Calls.◌>>=◌ r (λ path. Calls.◌>>=◌ (routed path) (λ at_route. called at_route path method body)))
  by_path (Ok path) method body few = by_route (routed path) path method body few
  by_path (Err e) method body few = tt

-- whatever a message asks for has no more rows than one for each byte of its body, and one
pub fits_call : (fits : Content → Request → Type 0) (c : Content) (target method body : List ℕ) → ((q : Request) → rows q.act ≤ suc (length body) → fits c q)
    → FitsCall fits c (decoded target method body)
unfolding decoded
fits_call fits c target method body short = by_path fits c (suc (length body)) short (Calls.in_text target) method body (in_text (is_utf8 body) body)
