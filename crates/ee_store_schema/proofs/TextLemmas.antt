-- What each text makes of the tables before it.
use Rattle.std.proofs.Common.{ℕ, List, [], ◌∷◌, codes, refl}
use Rattle.sqlite.specs.Schema.{Schema}
use Rattle.sqlite_catalog.specs.Listing.{automatic}
use Rattle.sqlite_tied.specs.Compute.{everything}
use Rattle.sqlite.specs.Listing.{understood}
use Rattle.ee_store_tables.specs.Tables.{desk, rates, bonds, tickets, paid, batches, extensions, answers, index_on}
use Rattle.ee_store_schema.specs.Forms.{replies, first_tables, earliest_tables}
use Rattle.ee_store_schema.specs.Making.{no_tables}
use Rattle.ee_store_schema.specs.Inner.Making.{register_tables, payment_tables, both_tables, AddsTable, AddsIndex}

abbrev pub desk_text : List ℕ
desk_text = codes "CREATE TABLE desk (id INTEGER NOT NULL PRIMARY KEY, version INTEGER NOT NULL, day INTEGER, last_day INTEGER) STRICT"

abbrev pub rates_text : List ℕ
rates_text = codes "CREATE TABLE rates (period INTEGER NOT NULL PRIMARY KEY, rate INTEGER NOT NULL) STRICT"

abbrev pub bonds_text : List ℕ
bonds_text = codes "CREATE TABLE bonds (letter INTEGER NOT NULL, number INTEGER NOT NULL, denom INTEGER NOT NULL, issued INTEGER NOT NULL, owner INTEGER NOT NULL, coowner INTEGER, ticket INTEGER, PRIMARY KEY (letter, number)) STRICT"

abbrev pub owner_text : List ℕ
owner_text = codes "CREATE INDEX bonds_owner ON bonds (owner, letter, number)"

abbrev pub tickets_text : List ℕ
tickets_text = codes "CREATE TABLE tickets (ticket INTEGER NOT NULL PRIMARY KEY, day INTEGER NOT NULL, payee INTEGER NOT NULL, bonds INTEGER NOT NULL, total INTEGER NOT NULL) STRICT"

abbrev pub day_text : List ℕ
day_text = codes "CREATE INDEX tickets_day ON tickets (day, ticket)"

abbrev pub paid_text : List ℕ
paid_text = codes "CREATE TABLE paid (ticket INTEGER NOT NULL, place INTEGER NOT NULL, letter INTEGER NOT NULL, number INTEGER NOT NULL, cents INTEGER NOT NULL, PRIMARY KEY (ticket, place), UNIQUE (letter, number)) STRICT"

abbrev pub batches_text : List ℕ
batches_text = codes "CREATE TABLE batches (day INTEGER NOT NULL PRIMARY KEY, tickets INTEGER NOT NULL, bonds INTEGER NOT NULL, total INTEGER NOT NULL) STRICT"

abbrev pub replies_text : List ℕ
replies_text = codes "CREATE TABLE replies (number INTEGER NOT NULL PRIMARY KEY, act TEXT NOT NULL, reply TEXT NOT NULL) STRICT"

abbrev pub extensions_text : List ℕ
extensions_text = codes "CREATE TABLE extensions (period INTEGER NOT NULL PRIMARY KEY, rate INTEGER NOT NULL) STRICT"

abbrev pub answers_text : List ℕ
answers_text = codes "CREATE TABLE answers (desk INTEGER NOT NULL, number INTEGER NOT NULL, act TEXT NOT NULL, reply TEXT NOT NULL, PRIMARY KEY (desk, number)) STRICT"

-- ---- the tables between the groups

abbrev pub with_desk : Schema
with_desk = record { tables = desk ∷ []; indexes = []; views = [] }

abbrev pub with_rates : Schema
with_rates = record { tables = desk ∷ rates ∷ []; indexes = []; views = [] }

abbrev pub with_bonds : Schema
with_bonds = record { tables = desk ∷ rates ∷ bonds ∷ []; indexes = automatic bonds 0 (1 ∷ 2 ∷ []) 3 ∷ []; views = [] }

abbrev pub with_tickets : Schema
with_tickets = record register_tables { tables = desk ∷ rates ∷ bonds ∷ tickets ∷ [] }

abbrev pub with_days : Schema
with_days = record with_tickets { indexes = automatic bonds 0 (1 ∷ 2 ∷ []) 3 ∷ index_on (codes "bonds_owner") 4 2 (5 ∷ 1 ∷ 2 ∷ []) ∷ index_on (codes "tickets_day") 6 5 (2 ∷ 0 ∷ []) ∷ [] }

abbrev pub with_batches : Schema
with_batches = record payment_tables { tables = desk ∷ rates ∷ bonds ∷ tickets ∷ paid ∷ batches ∷ [] }

-- ---- each step

unfoldable pub adds_desk : AddsTable no_tables desk_text with_desk
unfolding understood everything
adds_desk = record { command = (refl, refl, refl, refl); table = desk; defined = refl; is = refl; uncounted = refl; free = refl; all_free = refl }

unfoldable pub adds_rates : AddsTable with_desk rates_text with_rates
unfolding understood everything
adds_rates = record { command = (refl, refl, refl, refl); table = record rates { tree = 0 }; defined = refl; is = refl; uncounted = refl; free = refl; all_free = refl }

unfoldable pub adds_bonds : AddsTable with_rates bonds_text with_bonds
unfolding understood everything
adds_bonds = record { command = (refl, refl, refl, refl); table = record bonds { tree = 0 }; defined = refl; is = refl; uncounted = refl; free = refl; all_free = refl }

unfoldable pub adds_owner : AddsIndex with_bonds owner_text register_tables
unfolding understood everything
adds_owner = record { place = 2; command = (refl, refl, refl, refl); table = bonds; over = refl; index = index_on (codes "bonds_owner") 0 2 (5 ∷ 1 ∷ 2 ∷ []); defined = refl; is = refl; free = refl }

unfoldable pub adds_tickets : AddsTable register_tables tickets_text with_tickets
unfolding understood everything
adds_tickets = record { command = (refl, refl, refl, refl); table = record tickets { tree = 0 }; defined = refl; is = refl; uncounted = refl; free = refl; all_free = refl }

unfoldable pub adds_day : AddsIndex with_tickets day_text with_days
unfolding understood everything
adds_day = record { place = 3; command = (refl, refl, refl, refl); table = tickets; over = refl; index = index_on (codes "tickets_day") 0 5 (2 ∷ 0 ∷ []); defined = refl; is = refl; free = refl }

unfoldable pub adds_paid : AddsTable with_days paid_text payment_tables
unfolding understood everything
adds_paid = record { command = (refl, refl, refl, refl); table = record paid { tree = 0 }; defined = refl; is = refl; uncounted = refl; free = refl; all_free = refl }

unfoldable pub adds_batches : AddsTable payment_tables batches_text with_batches
unfolding understood everything
adds_batches = record { command = (refl, refl, refl, refl); table = record batches { tree = 0 }; defined = refl; is = refl; uncounted = refl; free = refl; all_free = refl }

unfoldable pub adds_replies : AddsTable with_batches replies_text earliest_tables
unfolding understood everything
adds_replies = record { command = (refl, refl, refl, refl); table = record replies { tree = 0 }; defined = refl; is = refl; uncounted = refl; free = refl; all_free = refl }

unfoldable pub adds_extensions : AddsTable earliest_tables extensions_text first_tables
unfolding understood everything
adds_extensions = record { command = (refl, refl, refl, refl); table = record extensions { tree = 0 }; defined = refl; is = refl; uncounted = refl; free = refl; all_free = refl }

unfoldable pub adds_answers : AddsTable first_tables answers_text both_tables
unfolding understood everything
adds_answers = record { command = (refl, refl, refl, refl); table = record answers { tree = 0 }; defined = refl; is = refl; uncounted = refl; free = refl; all_free = refl }
