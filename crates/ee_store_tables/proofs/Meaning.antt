-- What the statements mean.
use Rattle.std.proofs.Common.{◌≡◌, ℕ, pos, negsuc, List, [], ◌∷◌, codes, length, true, false, Some, None, Option, Ok, Err, Result, refl}
use Rattle.sqlite.specs.declared.types.Value.TheVariants.{Null, Int}
use Rattle.sqlite.specs.Term.{Term, lit, col, op2}
use Rattle.sqlite_sql.specs.declared.ops.BinaryOp.TheVariants.{Compare, Is}
use Rattle.sqlite_sql.specs.declared.ops.CompareOp.TheVariants.{Eq}
use Rattle.sqlite.specs.Collation.TheVariants.{Binary}
use Rattle.sqlite.specs.Query.{Query, inner, end}
use Rattle.sqlite_value.specs.declared.keys.Key.{Key}
use Rattle.sqlite.specs.Source.TheVariants.{Values}
use Rattle.sqlite.specs.Command.{Command}
use Rattle.sqlite.specs.Command.TheVariants.{Insert, Select, Update, InsertOr}
use Rattle.sqlite_schema.specs.declared.command.Returning.{Returning}
use Rattle.sqlite_schema.specs.declared.command.Conflict.TheVariants.{Abort}
use Rattle.sqlite_resolve.specs.declared.compiled.Compiled.{Compiled}
use Rattle.sqlite_resolve.specs.declared.error.CompileError.{CompileError}
use Rattle.sqlite_tied.specs.Compute.{everything}
use Rattle.sqlite.specs.Listing.{understood, reads_listing}
use Rattle.sqlite.proofs.Callers.{IsPlain, command_of}
use Rattle.sqlite.specs.Schema.{Schema}
use Rattle.ee_store_tables.specs.Tables.{with_others}

abbrev pub returning_of : Result Compiled CompileError → Option Returning
returning_of (Ok c) = c.returning
returning_of (Err e) = None

-- the text is one statement that does not read the time, with so many parameters
abbrev pub IsWhole : List ℕ → ℕ → Result Compiled CompileError → Type 0
IsWhole sql count (Ok c) = (c.tail ≡ length sql) × (length c.names ≡ count) × (c.formats ≡ [])
IsWhole sql count (Err e) = ⊥

-- a query of one table by its rowid
abbrev pub by_number : ℕ → List Term → Query
by_number tree project = record {
  from = inner tree end;
  filter = op2 (Compare Eq Binary) (col 1 0) (col 0 0) ∷ [];
  group = None;
  project = project;
  distinct = false;
  collations = [];
  order = [];
  limit = lit (Int (negsuc 0));
  offset = lit (Int (pos 0));
}

-- a query of one table by its first two columns
abbrev pub by_pair : ℕ → List Term → Query
by_pair tree project = record {
  from = inner tree end;
  filter = op2 (Compare Eq Binary) (col 1 1) (col 0 0) ∷ op2 (Compare Eq Binary) (col 1 2) (col 0 1) ∷ [];
  group = None;
  project = project;
  distinct = false;
  collations = [];
  order = [];
  limit = lit (Int (negsuc 0));
  offset = lit (Int (pos 0));
}

-- a query of one table that shows its rows in order
abbrev pub ordered_query : ℕ → List Term → List Term → List (Term × Key) → Term → Query
ordered_query tree terms project order limit = record {
  from = inner tree end;
  filter = terms;
  group = None;
  project = project;
  distinct = false;
  collations = [];
  order = order;
  limit = limit;
  offset = lit (Int (pos 0));
}

abbrev pub no_limit : Term
no_limit = lit (Int (negsuc 0))

abbrev pub by_column : ℕ → Term × Key
by_column at = (col 1 at, record { descending = false; collation = Binary })

-- an insertion of a rate under its period, unless it has one, into the table at this place
abbrev pub insert_rate : ℕ → Command
insert_rate place = InsertOr place Abort (Values (col 0 0 ∷ lit Null ∷ col 0 1 ∷ []) 3) (record { target = Some (0 ∷ []); update = None } ∷ [])

abbrev pub find_bond_text : List ℕ
find_bond_text = codes "SELECT denom, issued, owner, coowner, ticket FROM bonds WHERE letter = ?1 AND number = ?2"

abbrev pub find_bond_query : Query
find_bond_query = by_pair 2 (col 1 3 ∷ col 1 4 ∷ col 1 5 ∷ col 1 6 ∷ col 1 7 ∷ [])

pub find_bond_is : (others : Schema) → (command_of (understood (with_others others) find_bond_text)
    ≡ Select (record { lets = []; body = find_bond_query }) (codes "denom" ∷ codes "issued" ∷ codes "owner" ∷ codes "coowner" ∷ codes "ticket" ∷ [])) × (reads_listing (with_others others) find_bond_text ≡ false)
unfolding understood everything
find_bond_is others = (refl, refl)

pub find_bond_whole : (others : Schema) → IsWhole find_bond_text 2 (understood (with_others others) find_bond_text)
unfolding understood everything
find_bond_whole others = (refl, refl, refl)

pub find_bond_plain : (others : Schema) → IsPlain (understood (with_others others) find_bond_text)
unfolding understood everything
find_bond_plain others = (refl, refl)

abbrev pub mark_bond_text : List ℕ
mark_bond_text = codes "UPDATE bonds SET ticket = ?3 WHERE letter = ?1 AND number = ?2"

abbrev pub mark_bond_query : Query
mark_bond_query = by_pair 2 (col 1 0 ∷ col 1 0 ∷ col 1 1 ∷ col 1 2 ∷ col 1 3 ∷ col 1 4 ∷ col 1 5 ∷ col 1 6 ∷ col 0 2 ∷ [])

pub mark_bond_is : (others : Schema) → command_of (understood (with_others others) mark_bond_text) ≡ Update 2 (record { lets = []; body = mark_bond_query })
unfolding understood everything
mark_bond_is others = refl

pub mark_bond_whole : (others : Schema) → IsWhole mark_bond_text 3 (understood (with_others others) mark_bond_text)
unfolding understood everything
mark_bond_whole others = (refl, refl, refl)

pub mark_bond_plain : (others : Schema) → IsPlain (understood (with_others others) mark_bond_text)
unfolding understood everything
mark_bond_plain others = (refl, refl)

abbrev pub add_paid_text : List ℕ
add_paid_text = codes "INSERT INTO paid (ticket, place, letter, number, cents) VALUES (?1, ?2, ?3, ?4, ?5)"

pub add_paid_is : (others : Schema) → command_of (understood (with_others others) add_paid_text) ≡ Insert 4 (Values (lit Null ∷ col 0 0 ∷ col 0 1 ∷ col 0 2 ∷ col 0 3 ∷ col 0 4 ∷ []) 6)
unfolding understood everything
add_paid_is others = refl

pub add_paid_whole : (others : Schema) → IsWhole add_paid_text 5 (understood (with_others others) add_paid_text)
unfolding understood everything
add_paid_whole others = (refl, refl, refl)

pub add_paid_plain : (others : Schema) → IsPlain (understood (with_others others) add_paid_text)
unfolding understood everything
add_paid_plain others = (refl, refl)

abbrev pub add_four_text : List ℕ
add_four_text = codes "INSERT INTO paid (ticket, place, letter, number, cents) VALUES (?1, ?2, ?3, ?4, ?5), (?1, ?6, ?7, ?8, ?9), (?1, ?10, ?11, ?12, ?13), (?1, ?14, ?15, ?16, ?17)"

abbrev pub four_terms : List Term
four_terms = lit Null ∷ col 0 0 ∷ col 0 1 ∷ col 0 2 ∷ col 0 3 ∷ col 0 4 ∷ lit Null ∷ col 0 0 ∷ col 0 5 ∷ col 0 6 ∷ col 0 7 ∷ col 0 8 ∷ lit Null ∷ col 0 0 ∷ col 0 9 ∷ col 0 10 ∷ col 0 11 ∷ col 0 12
    ∷ lit Null ∷ col 0 0 ∷ col 0 13 ∷ col 0 14 ∷ col 0 15 ∷ col 0 16 ∷ []

pub add_four_is : (others : Schema) → command_of (understood (with_others others) add_four_text) ≡ Insert 4 (Values four_terms 6)
unfolding understood everything
add_four_is others = refl

pub add_four_whole : (others : Schema) → IsWhole add_four_text 17 (understood (with_others others) add_four_text)
unfolding understood everything
add_four_whole others = (refl, refl, refl)

pub add_four_plain : (others : Schema) → IsPlain (understood (with_others others) add_four_text)
unfolding understood everything
add_four_plain others = (refl, refl)

abbrev pub add_ten_text : List ℕ
add_ten_text = codes "INSERT INTO bonds (letter, number, denom, issued, owner, coowner) VALUES (?1, ?2, ?3, ?4, ?5, ?6), (?7, ?8, ?9, ?10, ?11, ?12), (?13, ?14, ?15, ?16, ?17, ?18), (?19, ?20, ?21, ?22, ?23, ?24), (?25, ?26, ?27, ?28, ?29, ?30), (?31, ?32, ?33, ?34, ?35, ?36), (?37, ?38, ?39, ?40, ?41, ?42), (?43, ?44, ?45, ?46, ?47, ?48), (?49, ?50, ?51, ?52, ?53, ?54), (?55, ?56, ?57, ?58, ?59, ?60)"

abbrev pub ten_terms : List Term
ten_terms = lit Null ∷ col 0 0 ∷ col 0 1 ∷ col 0 2 ∷ col 0 3 ∷ col 0 4 ∷ col 0 5 ∷ lit Null ∷ lit Null ∷ col 0 6 ∷ col 0 7 ∷ col 0 8 ∷ col 0 9 ∷ col 0 10 ∷ col 0 11 ∷ lit Null ∷ lit Null ∷ col 0 12 ∷ col 0 13 ∷ col 0 14 ∷ col 0 15 ∷ col 0 16 ∷ col 0 17 ∷ lit Null ∷ lit Null ∷ col 0 18 ∷ col 0 19 ∷ col 0 20 ∷ col 0 21 ∷ col 0 22 ∷ col 0 23 ∷ lit Null ∷ lit Null ∷ col 0 24 ∷ col 0 25 ∷ col 0 26 ∷ col 0 27 ∷ col 0 28 ∷ col 0 29 ∷ lit Null ∷ lit Null ∷ col 0 30 ∷ col 0 31 ∷ col 0 32 ∷ col 0 33 ∷ col 0 34 ∷ col 0 35 ∷ lit Null ∷ lit Null ∷ col 0 36 ∷ col 0 37 ∷ col 0 38 ∷ col 0 39 ∷ col 0 40 ∷ col 0 41 ∷ lit Null ∷ lit Null ∷ col 0 42 ∷ col 0 43 ∷ col 0 44 ∷ col 0 45 ∷ col 0 46 ∷ col 0 47 ∷ lit Null ∷ lit Null ∷ col 0 48 ∷ col 0 49 ∷ col 0 50 ∷ col 0 51 ∷ col 0 52 ∷ col 0 53 ∷ lit Null ∷ lit Null ∷ col 0 54 ∷ col 0 55 ∷ col 0 56 ∷ col 0 57 ∷ col 0 58 ∷ col 0 59 ∷ lit Null ∷ []

pub add_ten_is : (others : Schema) → command_of (understood (with_others others) add_ten_text) ≡ Insert 2 (Values ten_terms 8)
unfolding understood everything
add_ten_is others = refl

pub add_ten_whole : (others : Schema) → IsWhole add_ten_text 60 (understood (with_others others) add_ten_text)
unfolding understood everything
add_ten_whole others = (refl, refl, refl)

pub add_ten_plain : (others : Schema) → IsPlain (understood (with_others others) add_ten_text)
unfolding understood everything
add_ten_plain others = (refl, refl)

abbrev pub find_answer_text : List ℕ
find_answer_text = codes "SELECT act, reply FROM answers WHERE desk = ?1 AND number = ?2"

abbrev pub find_answer_query : Query
find_answer_query = by_pair 13 (col 1 3 ∷ col 1 4 ∷ [])

pub find_answer_is : (others : Schema) → (command_of (understood (with_others others) find_answer_text) ≡ Select (record { lets = []; body = find_answer_query }) (codes "act" ∷ codes "reply" ∷ [])) × (reads_listing (with_others others) find_answer_text ≡ false)
unfolding understood everything
find_answer_is others = (refl, refl)

pub find_answer_whole : (others : Schema) → IsWhole find_answer_text 2 (understood (with_others others) find_answer_text)
unfolding understood everything
find_answer_whole others = (refl, refl, refl)

pub find_answer_plain : (others : Schema) → IsPlain (understood (with_others others) find_answer_text)
unfolding understood everything
find_answer_plain others = (refl, refl)

abbrev pub add_answer_text : List ℕ
add_answer_text = codes "INSERT INTO answers (desk, number, act, reply) VALUES (?1, ?2, ?3, ?4)"

pub add_answer_is : (others : Schema) → command_of (understood (with_others others) add_answer_text) ≡ Insert 7 (Values (lit Null ∷ col 0 0 ∷ col 0 1 ∷ col 0 2 ∷ col 0 3 ∷ []) 5)
unfolding understood everything
add_answer_is others = refl

pub add_answer_whole : (others : Schema) → IsWhole add_answer_text 4 (understood (with_others others) add_answer_text)
unfolding understood everything
add_answer_whole others = (refl, refl, refl)

pub add_answer_plain : (others : Schema) → IsPlain (understood (with_others others) add_answer_text)
unfolding understood everything
add_answer_plain others = (refl, refl)

abbrev pub add_ticket_text : List ℕ
add_ticket_text = codes "INSERT INTO tickets (ticket, day, payee, bonds, total) VALUES (?1, ?2, ?3, ?4, ?5)"

pub add_ticket_is : (others : Schema) → command_of (understood (with_others others) add_ticket_text) ≡ Insert 3 (Values (col 0 0 ∷ lit Null ∷ col 0 1 ∷ col 0 2 ∷ col 0 3 ∷ col 0 4 ∷ []) 6)
unfolding understood everything
add_ticket_is others = refl

pub add_ticket_whole : (others : Schema) → IsWhole add_ticket_text 5 (understood (with_others others) add_ticket_text)
unfolding understood everything
add_ticket_whole others = (refl, refl, refl)

pub add_ticket_plain : (others : Schema) → IsPlain (understood (with_others others) add_ticket_text)
unfolding understood everything
add_ticket_plain others = (refl, refl)

abbrev pub find_desk_text : List ℕ
find_desk_text = codes "SELECT version, day, last_day FROM desk WHERE id = ?1"

abbrev pub find_desk_query : Query
find_desk_query = by_number 0 (col 1 2 ∷ col 1 3 ∷ col 1 4 ∷ [])

pub find_desk_is : (others : Schema) → (command_of (understood (with_others others) find_desk_text) ≡ Select (record { lets = []; body = find_desk_query }) (codes "version" ∷ codes "day" ∷ codes "last_day" ∷ [])) × (reads_listing (with_others others) find_desk_text ≡ false)
unfolding understood everything
find_desk_is others = (refl, refl)

pub find_desk_whole : (others : Schema) → IsWhole find_desk_text 1 (understood (with_others others) find_desk_text)
unfolding understood everything
find_desk_whole others = (refl, refl, refl)

pub find_desk_plain : (others : Schema) → IsPlain (understood (with_others others) find_desk_text)
unfolding understood everything
find_desk_plain others = (refl, refl)

abbrev pub set_day_text : List ℕ
set_day_text = codes "UPDATE desk SET day = ?2, last_day = ?3 WHERE id = ?1"

abbrev pub set_day_query : Query
set_day_query = by_number 0 (col 1 0 ∷ col 1 0 ∷ lit Null ∷ col 1 2 ∷ col 0 1 ∷ col 0 2 ∷ [])

pub set_day_is : (others : Schema) → command_of (understood (with_others others) set_day_text) ≡ Update 0 (record { lets = []; body = set_day_query })
unfolding understood everything
set_day_is others = refl

pub set_day_whole : (others : Schema) → IsWhole set_day_text 3 (understood (with_others others) set_day_text)
unfolding understood everything
set_day_whole others = (refl, refl, refl)

pub set_day_plain : (others : Schema) → IsPlain (understood (with_others others) set_day_text)
unfolding understood everything
set_day_plain others = (refl, refl)

abbrev pub set_version_text : List ℕ
set_version_text = codes "UPDATE desk SET version = ?2 WHERE id = ?1"

abbrev pub set_version_query : Query
set_version_query = by_number 0 (col 1 0 ∷ col 1 0 ∷ lit Null ∷ col 0 1 ∷ col 1 3 ∷ col 1 4 ∷ [])

pub set_version_is : (others : Schema) → command_of (understood (with_others others) set_version_text) ≡ Update 0 (record { lets = []; body = set_version_query })
unfolding understood everything
set_version_is others = refl

pub set_version_whole : (others : Schema) → IsWhole set_version_text 2 (understood (with_others others) set_version_text)
unfolding understood everything
set_version_whole others = (refl, refl, refl)

pub set_version_plain : (others : Schema) → IsPlain (understood (with_others others) set_version_text)
unfolding understood everything
set_version_plain others = (refl, refl)

abbrev pub find_rate_text : List ℕ
find_rate_text = codes "SELECT rate FROM rates WHERE period = ?1"

abbrev pub find_rate_query : Query
find_rate_query = by_number 1 (col 1 2 ∷ [])

pub find_rate_is : (others : Schema) → (command_of (understood (with_others others) find_rate_text) ≡ Select (record { lets = []; body = find_rate_query }) (codes "rate" ∷ [])) × (reads_listing (with_others others) find_rate_text ≡ false)
unfolding understood everything
find_rate_is others = (refl, refl)

pub find_rate_whole : (others : Schema) → IsWhole find_rate_text 1 (understood (with_others others) find_rate_text)
unfolding understood everything
find_rate_whole others = (refl, refl, refl)

pub find_rate_plain : (others : Schema) → IsPlain (understood (with_others others) find_rate_text)
unfolding understood everything
find_rate_plain others = (refl, refl)

abbrev pub add_rate_text : List ℕ
add_rate_text = codes "INSERT INTO rates (period, rate) VALUES (?1, ?2) ON CONFLICT (period) DO NOTHING"

pub add_rate_is : (others : Schema) → command_of (understood (with_others others) add_rate_text) ≡ insert_rate 1
unfolding understood everything
add_rate_is others = refl

pub add_rate_whole : (others : Schema) → IsWhole add_rate_text 2 (understood (with_others others) add_rate_text)
unfolding understood everything
add_rate_whole others = (refl, refl, refl)

pub add_rate_plain : (others : Schema) → IsPlain (understood (with_others others) add_rate_text)
unfolding understood everything
add_rate_plain others = (refl, refl)

abbrev pub find_extension_text : List ℕ
find_extension_text = codes "SELECT rate FROM extensions WHERE period = ?1"

abbrev pub find_extension_query : Query
find_extension_query = by_number 12 (col 1 2 ∷ [])

pub find_extension_is : (others : Schema) → (command_of (understood (with_others others) find_extension_text) ≡ Select (record { lets = []; body = find_extension_query }) (codes "rate" ∷ [])) × (reads_listing (with_others others) find_extension_text ≡ false)
unfolding understood everything
find_extension_is others = (refl, refl)

pub find_extension_whole : (others : Schema) → IsWhole find_extension_text 1 (understood (with_others others) find_extension_text)
unfolding understood everything
find_extension_whole others = (refl, refl, refl)

pub find_extension_plain : (others : Schema) → IsPlain (understood (with_others others) find_extension_text)
unfolding understood everything
find_extension_plain others = (refl, refl)

abbrev pub add_extension_text : List ℕ
add_extension_text = codes "INSERT INTO extensions (period, rate) VALUES (?1, ?2) ON CONFLICT (period) DO NOTHING"

pub add_extension_is : (others : Schema) → command_of (understood (with_others others) add_extension_text) ≡ insert_rate 6
unfolding understood everything
add_extension_is others = refl

pub add_extension_whole : (others : Schema) → IsWhole add_extension_text 2 (understood (with_others others) add_extension_text)
unfolding understood everything
add_extension_whole others = (refl, refl, refl)

pub add_extension_plain : (others : Schema) → IsPlain (understood (with_others others) add_extension_text)
unfolding understood everything
add_extension_plain others = (refl, refl)

abbrev pub add_bond_text : List ℕ
add_bond_text = codes "INSERT INTO bonds (letter, number, denom, issued, owner, coowner) VALUES (?1, ?2, ?3, ?4, ?5, ?6) ON CONFLICT (letter, number) DO NOTHING"

pub add_bond_is : (others : Schema) → command_of (understood (with_others others) add_bond_text) ≡ InsertOr 2 Abort (Values (lit Null ∷ col 0 0 ∷ col 0 1 ∷ col 0 2 ∷ col 0 3 ∷ col 0 4 ∷ col 0 5 ∷ lit Null ∷ []) 8) (record { target = Some (1 ∷ 2 ∷ []); update = None } ∷ [])
unfolding understood everything
add_bond_is others = refl

pub add_bond_whole : (others : Schema) → IsWhole add_bond_text 6 (understood (with_others others) add_bond_text)
unfolding understood everything
add_bond_whole others = (refl, refl, refl)

pub add_bond_plain : (others : Schema) → IsPlain (understood (with_others others) add_bond_text)
unfolding understood everything
add_bond_plain others = (refl, refl)

abbrev pub add_batch_text : List ℕ
add_batch_text = codes "INSERT INTO batches (day, tickets, bonds, total) VALUES (?1, ?2, ?3, ?4)"

pub add_batch_is : (others : Schema) → command_of (understood (with_others others) add_batch_text) ≡ Insert 5 (Values (col 0 0 ∷ lit Null ∷ col 0 1 ∷ col 0 2 ∷ col 0 3 ∷ []) 5)
unfolding understood everything
add_batch_is others = refl

pub add_batch_whole : (others : Schema) → IsWhole add_batch_text 4 (understood (with_others others) add_batch_text)
unfolding understood everything
add_batch_whole others = (refl, refl, refl)

pub add_batch_plain : (others : Schema) → IsPlain (understood (with_others others) add_batch_text)
unfolding understood everything
add_batch_plain others = (refl, refl)

abbrev pub find_ticket_text : List ℕ
find_ticket_text = codes "SELECT day, payee, bonds, total FROM tickets WHERE ticket = ?1"

abbrev pub find_ticket_query : Query
find_ticket_query = by_number 5 (col 1 2 ∷ col 1 3 ∷ col 1 4 ∷ col 1 5 ∷ [])

pub find_ticket_is : (others : Schema) → (command_of (understood (with_others others) find_ticket_text) ≡ Select (record { lets = []; body = find_ticket_query }) (codes "day" ∷ codes "payee" ∷ codes "bonds" ∷ codes "total" ∷ [])) × (reads_listing (with_others others) find_ticket_text ≡ false)
unfolding understood everything
find_ticket_is others = (refl, refl)

pub find_ticket_whole : (others : Schema) → IsWhole find_ticket_text 1 (understood (with_others others) find_ticket_text)
unfolding understood everything
find_ticket_whole others = (refl, refl, refl)

pub find_ticket_plain : (others : Schema) → IsPlain (understood (with_others others) find_ticket_text)
unfolding understood everything
find_ticket_plain others = (refl, refl)

abbrev pub find_batch_text : List ℕ
find_batch_text = codes "SELECT tickets, bonds, total FROM batches WHERE day = ?1"

abbrev pub find_batch_query : Query
find_batch_query = by_number 10 (col 1 2 ∷ col 1 3 ∷ col 1 4 ∷ [])

pub find_batch_is : (others : Schema) → (command_of (understood (with_others others) find_batch_text) ≡ Select (record { lets = []; body = find_batch_query }) (codes "tickets" ∷ codes "bonds" ∷ codes "total" ∷ [])) × (reads_listing (with_others others) find_batch_text ≡ false)
unfolding understood everything
find_batch_is others = (refl, refl)

pub find_batch_whole : (others : Schema) → IsWhole find_batch_text 1 (understood (with_others others) find_batch_text)
unfolding understood everything
find_batch_whole others = (refl, refl, refl)

pub find_batch_plain : (others : Schema) → IsPlain (understood (with_others others) find_batch_text)
unfolding understood everything
find_batch_plain others = (refl, refl)

abbrev pub last_ticket_text : List ℕ
last_ticket_text = codes "SELECT ticket FROM tickets ORDER BY ticket DESC LIMIT 1"

abbrev pub last_ticket_query : Query
last_ticket_query = ordered_query 5 [] (col 1 0 ∷ []) ((col 1 0, record { descending = true; collation = Binary }) ∷ []) (lit (Int (pos 1)))

pub last_ticket_is : (others : Schema) → (command_of (understood (with_others others) last_ticket_text) ≡ Select (record { lets = []; body = last_ticket_query }) (codes "ticket" ∷ [])) × (reads_listing (with_others others) last_ticket_text ≡ false)
unfolding understood everything
last_ticket_is others = (refl, refl)

pub last_ticket_whole : (others : Schema) → IsWhole last_ticket_text 0 (understood (with_others others) last_ticket_text)
unfolding understood everything
last_ticket_whole others = (refl, refl, refl)

pub last_ticket_plain : (others : Schema) → IsPlain (understood (with_others others) last_ticket_text)
unfolding understood everything
last_ticket_plain others = (refl, refl)

abbrev pub day_tickets_text : List ℕ
day_tickets_text = codes "SELECT ticket, bonds, total FROM tickets WHERE day = ?1 ORDER BY ticket"

abbrev pub day_tickets_query : Query
day_tickets_query = ordered_query 5 (op2 (Compare Eq Binary) (col 1 2) (col 0 0) ∷ []) (col 1 0 ∷ col 1 4 ∷ col 1 5 ∷ []) (by_column 0 ∷ []) no_limit

pub day_tickets_is : (others : Schema) → (command_of (understood (with_others others) day_tickets_text) ≡ Select (record { lets = []; body = day_tickets_query }) (codes "ticket" ∷ codes "bonds" ∷ codes "total" ∷ [])) × (reads_listing (with_others others) day_tickets_text ≡ false)
unfolding understood everything
day_tickets_is others = (refl, refl)

pub day_tickets_whole : (others : Schema) → IsWhole day_tickets_text 1 (understood (with_others others) day_tickets_text)
unfolding understood everything
day_tickets_whole others = (refl, refl, refl)

pub day_tickets_plain : (others : Schema) → IsPlain (understood (with_others others) day_tickets_text)
unfolding understood everything
day_tickets_plain others = (refl, refl)

abbrev pub first_ticket_text : List ℕ
first_ticket_text = codes "SELECT ticket FROM tickets WHERE day = ?1 ORDER BY ticket LIMIT 1"

abbrev pub first_ticket_query : Query
first_ticket_query = ordered_query 5 (op2 (Compare Eq Binary) (col 1 2) (col 0 0) ∷ []) (col 1 0 ∷ []) (by_column 0 ∷ []) (lit (Int (pos 1)))

pub first_ticket_is : (others : Schema) → (command_of (understood (with_others others) first_ticket_text) ≡ Select (record { lets = []; body = first_ticket_query }) (codes "ticket" ∷ [])) × (reads_listing (with_others others) first_ticket_text ≡ false)
unfolding understood everything
first_ticket_is others = (refl, refl)

pub first_ticket_whole : (others : Schema) → IsWhole first_ticket_text 1 (understood (with_others others) first_ticket_text)
unfolding understood everything
first_ticket_whole others = (refl, refl, refl)

pub first_ticket_plain : (others : Schema) → IsPlain (understood (with_others others) first_ticket_text)
unfolding understood everything
first_ticket_plain others = (refl, refl)

abbrev pub ticket_lines_text : List ℕ
ticket_lines_text = codes "SELECT place, letter, number, cents FROM paid WHERE ticket = ?1 ORDER BY place"

abbrev pub ticket_lines_query : Query
ticket_lines_query = ordered_query 7 (op2 (Compare Eq Binary) (col 1 1) (col 0 0) ∷ []) (col 1 2 ∷ col 1 3 ∷ col 1 4 ∷ col 1 5 ∷ []) (by_column 2 ∷ []) no_limit

pub ticket_lines_is : (others : Schema) → (command_of (understood (with_others others) ticket_lines_text) ≡ Select (record { lets = []; body = ticket_lines_query }) (codes "place" ∷ codes "letter" ∷ codes "number" ∷ codes "cents" ∷ [])) × (reads_listing (with_others others) ticket_lines_text ≡ false)
unfolding understood everything
ticket_lines_is others = (refl, refl)

pub ticket_lines_whole : (others : Schema) → IsWhole ticket_lines_text 1 (understood (with_others others) ticket_lines_text)
unfolding understood everything
ticket_lines_whole others = (refl, refl, refl)

pub ticket_lines_plain : (others : Schema) → IsPlain (understood (with_others others) ticket_lines_text)
unfolding understood everything
ticket_lines_plain others = (refl, refl)

abbrev pub bonds_of_owner_text : List ℕ
bonds_of_owner_text = codes "SELECT letter, number, denom, issued, owner, coowner FROM bonds WHERE ticket IS NULL AND owner = ?1 ORDER BY letter, number"

abbrev pub bonds_of_owner_query : Query
bonds_of_owner_query = ordered_query 2 (op2 (Is Binary) (col 1 7) (lit Null) ∷ op2 (Compare Eq Binary) (col 1 5) (col 0 0) ∷ []) (col 1 1 ∷ col 1 2 ∷ col 1 3 ∷ col 1 4 ∷ col 1 5 ∷ col 1 6 ∷ [])
    (by_column 1 ∷ by_column 2 ∷ []) no_limit

pub bonds_of_owner_is : (others : Schema) → (command_of (understood (with_others others) bonds_of_owner_text) ≡ Select (record { lets = []; body = bonds_of_owner_query }) (codes "letter" ∷ codes "number" ∷ codes "denom" ∷ codes "issued" ∷ codes "owner" ∷ codes "coowner" ∷ [])) × (reads_listing (with_others others) bonds_of_owner_text ≡ false)
unfolding understood everything
bonds_of_owner_is others = (refl, refl)

pub bonds_of_owner_whole : (others : Schema) → IsWhole bonds_of_owner_text 1 (understood (with_others others) bonds_of_owner_text)
unfolding understood everything
bonds_of_owner_whole others = (refl, refl, refl)

pub bonds_of_owner_plain : (others : Schema) → IsPlain (understood (with_others others) bonds_of_owner_text)
unfolding understood everything
bonds_of_owner_plain others = (refl, refl)
