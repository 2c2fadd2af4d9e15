-- What the texts ask for.
use Rattle.std.proofs.Common.{◌≢◌, ℕ, List, [], ◌∷◌, codes, refl}
use Rattle.sqlite.specs.Term.{Term, col}
use Rattle.sqlite.specs.Table.{Table}
use Rattle.sqlite.specs.Schema.{Schema}
use Rattle.sqlite_schema.specs.declared.schema.Index.{Index}
use Rattle.sqlite_schema.specs.declared.schema.View.{View}
use Rattle.sqlite_value.specs.declared.keys.Key.{Key}
use Rattle.sqlite_tied.specs.Compute.{everything}
use Rattle.sqlite_resolve.specs.Compile.{compiled}
use Rattle.ee_store_tables.proofs.Lemmas.Rows.{by_column}
use Rattle.ee_store_schema.specs.declared.forms.Form.{Form}
use Rattle.ee_store_schema.specs.declared.forms.Form.TheVariants.{Current, First, Earliest}
use Rattle.ee_store_schema.specs.Forms.{replies}
use Rattle.ee_store_schema.proofs.Lemmas.Forms.{tables_in}
use Rattle.ee_store_load.specs.Inner.Reading.{whole_table, AsksForAll}
use Rattle.ee_store_load.proofs.TextLemmas.{begun_with, of_each, IsCompiled, asks_for_all}

-- in order of the first column, or of the two that are the key
abbrev pub by_key : List (Term × Key)
by_key = by_column 0 ∷ []

abbrev pub by_pair : List (Term × Key)
by_pair = by_column 1 ∷ by_column 2 ∷ []

-- all rows of a table, with these names of its columns
abbrev pub IsWhole : List ℕ → ℕ → List Term → List (Term × Key) → List (List ℕ) → Schema → Type 0
IsWhole text tree terms order columns schema = IsCompiled text (whole_table tree terms order) columns [] schema

abbrev pub desk_terms : List Term
desk_terms = col 1 0 ∷ col 1 2 ∷ col 1 3 ∷ col 1 4 ∷ []

abbrev desk_columns : List (List ℕ)
desk_columns = codes "id" ∷ codes "version" ∷ codes "day" ∷ codes "last_day" ∷ []

desk_in : (more : List Table) (indexes : List Index) (views : List View) → IsWhole (codes "SELECT id, version, day, last_day FROM desk ORDER BY id") 0 desk_terms by_key desk_columns (begun_with more indexes views)
unfolding compiled everything
desk_in more indexes views = refl

pub whole_desk : (form : Form) (schema : Schema) → IsWhole (codes "SELECT id, version, day, last_day FROM desk ORDER BY id") 0 desk_terms by_key desk_columns (tables_in form schema)
whole_desk = of_each (IsWhole (codes "SELECT id, version, day, last_day FROM desk ORDER BY id") 0 desk_terms by_key desk_columns) desk_in

pub asks_desk : (form : Form) (schema : Schema) → AsksForAll (tables_in form schema) (codes "SELECT id, version, day, last_day FROM desk ORDER BY id") 0 desk_terms by_key
asks_desk form schema = asks_for_all (tables_in form schema) _ 0 desk_terms by_key _ (whole_desk form schema)

abbrev pub rate_terms : List Term
rate_terms = col 1 0 ∷ col 1 2 ∷ []

abbrev rates_columns : List (List ℕ)
rates_columns = codes "period" ∷ codes "rate" ∷ []

rates_in : (more : List Table) (indexes : List Index) (views : List View) → IsWhole (codes "SELECT period, rate FROM rates ORDER BY period") 1 rate_terms by_key rates_columns (begun_with more indexes views)
unfolding compiled everything
rates_in more indexes views = refl

pub whole_rates : (form : Form) (schema : Schema) → IsWhole (codes "SELECT period, rate FROM rates ORDER BY period") 1 rate_terms by_key rates_columns (tables_in form schema)
whole_rates = of_each (IsWhole (codes "SELECT period, rate FROM rates ORDER BY period") 1 rate_terms by_key rates_columns) rates_in

pub asks_rates : (form : Form) (schema : Schema) → AsksForAll (tables_in form schema) (codes "SELECT period, rate FROM rates ORDER BY period") 1 rate_terms by_key
asks_rates form schema = asks_for_all (tables_in form schema) _ 1 rate_terms by_key _ (whole_rates form schema)

abbrev pub bond_terms : List Term
bond_terms = col 1 1 ∷ col 1 2 ∷ col 1 3 ∷ col 1 4 ∷ col 1 5 ∷ col 1 6 ∷ col 1 7 ∷ []

abbrev bonds_columns : List (List ℕ)
bonds_columns = codes "letter" ∷ codes "number" ∷ codes "denom" ∷ codes "issued" ∷ codes "owner" ∷ codes "coowner" ∷ codes "ticket" ∷ []

bonds_in : (more : List Table) (indexes : List Index) (views : List View) → IsWhole (codes "SELECT letter, number, denom, issued, owner, coowner, ticket FROM bonds ORDER BY letter, number") 2 bond_terms by_pair bonds_columns (begun_with more indexes views)
unfolding compiled everything
bonds_in more indexes views = refl

pub whole_bonds : (form : Form) (schema : Schema) → IsWhole (codes "SELECT letter, number, denom, issued, owner, coowner, ticket FROM bonds ORDER BY letter, number") 2 bond_terms by_pair bonds_columns (tables_in form schema)
whole_bonds = of_each (IsWhole (codes "SELECT letter, number, denom, issued, owner, coowner, ticket FROM bonds ORDER BY letter, number") 2 bond_terms by_pair bonds_columns) bonds_in

pub asks_bonds : (form : Form) (schema : Schema) → AsksForAll (tables_in form schema) (codes "SELECT letter, number, denom, issued, owner, coowner, ticket FROM bonds ORDER BY letter, number") 2 bond_terms by_pair
asks_bonds form schema = asks_for_all (tables_in form schema) _ 2 bond_terms by_pair _ (whole_bonds form schema)

abbrev pub rowid_terms : List Term
rowid_terms = col 1 0 ∷ []

abbrev bond_rowids_columns : List (List ℕ)
bond_rowids_columns = codes "rowid" ∷ []

bond_rowids_in : (more : List Table) (indexes : List Index) (views : List View) → IsWhole (codes "SELECT rowid FROM bonds ORDER BY rowid") 2 rowid_terms by_key bond_rowids_columns (begun_with more indexes views)
unfolding compiled everything
bond_rowids_in more indexes views = refl

pub whole_bond_rowids : (form : Form) (schema : Schema) → IsWhole (codes "SELECT rowid FROM bonds ORDER BY rowid") 2 rowid_terms by_key bond_rowids_columns (tables_in form schema)
whole_bond_rowids = of_each (IsWhole (codes "SELECT rowid FROM bonds ORDER BY rowid") 2 rowid_terms by_key bond_rowids_columns) bond_rowids_in

pub asks_bond_rowids : (form : Form) (schema : Schema) → AsksForAll (tables_in form schema) (codes "SELECT rowid FROM bonds ORDER BY rowid") 2 rowid_terms by_key
asks_bond_rowids form schema = asks_for_all (tables_in form schema) _ 2 rowid_terms by_key _ (whole_bond_rowids form schema)

abbrev pub ticket_terms : List Term
ticket_terms = col 1 0 ∷ col 1 2 ∷ col 1 3 ∷ col 1 4 ∷ col 1 5 ∷ []

abbrev tickets_columns : List (List ℕ)
tickets_columns = codes "ticket" ∷ codes "day" ∷ codes "payee" ∷ codes "bonds" ∷ codes "total" ∷ []

tickets_in : (more : List Table) (indexes : List Index) (views : List View) → IsWhole (codes "SELECT ticket, day, payee, bonds, total FROM tickets ORDER BY ticket") 5 ticket_terms by_key tickets_columns (begun_with more indexes views)
unfolding compiled everything
tickets_in more indexes views = refl

pub whole_tickets : (form : Form) (schema : Schema) → IsWhole (codes "SELECT ticket, day, payee, bonds, total FROM tickets ORDER BY ticket") 5 ticket_terms by_key tickets_columns (tables_in form schema)
whole_tickets = of_each (IsWhole (codes "SELECT ticket, day, payee, bonds, total FROM tickets ORDER BY ticket") 5 ticket_terms by_key tickets_columns) tickets_in

pub asks_tickets : (form : Form) (schema : Schema) → AsksForAll (tables_in form schema) (codes "SELECT ticket, day, payee, bonds, total FROM tickets ORDER BY ticket") 5 ticket_terms by_key
asks_tickets form schema = asks_for_all (tables_in form schema) _ 5 ticket_terms by_key _ (whole_tickets form schema)

abbrev pub line_terms : List Term
line_terms = col 1 1 ∷ col 1 2 ∷ col 1 3 ∷ col 1 4 ∷ col 1 5 ∷ []

abbrev lines_columns : List (List ℕ)
lines_columns = codes "ticket" ∷ codes "place" ∷ codes "letter" ∷ codes "number" ∷ codes "cents" ∷ []

lines_in : (more : List Table) (indexes : List Index) (views : List View) → IsWhole (codes "SELECT ticket, place, letter, number, cents FROM paid ORDER BY ticket, place") 7 line_terms by_pair lines_columns (begun_with more indexes views)
unfolding compiled everything
lines_in more indexes views = refl

pub whole_lines : (form : Form) (schema : Schema) → IsWhole (codes "SELECT ticket, place, letter, number, cents FROM paid ORDER BY ticket, place") 7 line_terms by_pair lines_columns (tables_in form schema)
whole_lines = of_each (IsWhole (codes "SELECT ticket, place, letter, number, cents FROM paid ORDER BY ticket, place") 7 line_terms by_pair lines_columns) lines_in

pub asks_lines : (form : Form) (schema : Schema) → AsksForAll (tables_in form schema) (codes "SELECT ticket, place, letter, number, cents FROM paid ORDER BY ticket, place") 7 line_terms by_pair
asks_lines form schema = asks_for_all (tables_in form schema) _ 7 line_terms by_pair _ (whole_lines form schema)

abbrev line_rowids_columns : List (List ℕ)
line_rowids_columns = codes "rowid" ∷ []

line_rowids_in : (more : List Table) (indexes : List Index) (views : List View) → IsWhole (codes "SELECT rowid FROM paid ORDER BY rowid") 7 rowid_terms by_key line_rowids_columns (begun_with more indexes views)
unfolding compiled everything
line_rowids_in more indexes views = refl

pub whole_line_rowids : (form : Form) (schema : Schema) → IsWhole (codes "SELECT rowid FROM paid ORDER BY rowid") 7 rowid_terms by_key line_rowids_columns (tables_in form schema)
whole_line_rowids = of_each (IsWhole (codes "SELECT rowid FROM paid ORDER BY rowid") 7 rowid_terms by_key line_rowids_columns) line_rowids_in

pub asks_line_rowids : (form : Form) (schema : Schema) → AsksForAll (tables_in form schema) (codes "SELECT rowid FROM paid ORDER BY rowid") 7 rowid_terms by_key
asks_line_rowids form schema = asks_for_all (tables_in form schema) _ 7 rowid_terms by_key _ (whole_line_rowids form schema)

abbrev pub batch_terms : List Term
batch_terms = col 1 0 ∷ col 1 2 ∷ col 1 3 ∷ col 1 4 ∷ []

abbrev batches_columns : List (List ℕ)
batches_columns = codes "day" ∷ codes "tickets" ∷ codes "bonds" ∷ codes "total" ∷ []

batches_in : (more : List Table) (indexes : List Index) (views : List View) → IsWhole (codes "SELECT day, tickets, bonds, total FROM batches ORDER BY day") 10 batch_terms by_key batches_columns (begun_with more indexes views)
unfolding compiled everything
batches_in more indexes views = refl

pub whole_batches : (form : Form) (schema : Schema) → IsWhole (codes "SELECT day, tickets, bonds, total FROM batches ORDER BY day") 10 batch_terms by_key batches_columns (tables_in form schema)
whole_batches = of_each (IsWhole (codes "SELECT day, tickets, bonds, total FROM batches ORDER BY day") 10 batch_terms by_key batches_columns) batches_in

pub asks_batches : (form : Form) (schema : Schema) → AsksForAll (tables_in form schema) (codes "SELECT day, tickets, bonds, total FROM batches ORDER BY day") 10 batch_terms by_key
asks_batches form schema = asks_for_all (tables_in form schema) _ 10 batch_terms by_key _ (whole_batches form schema)

abbrev pub reply_terms : List Term
reply_terms = col 1 0 ∷ col 1 2 ∷ col 1 3 ∷ []

abbrev replies_columns : List (List ℕ)
replies_columns = codes "number" ∷ codes "act" ∷ codes "reply" ∷ []

replies_in : (more : List Table) (indexes : List Index) (views : List View) → IsWhole (codes "SELECT number, act, reply FROM replies ORDER BY number") 11 reply_terms by_key replies_columns (begun_with (replies ∷ more) indexes views)
unfolding compiled everything
replies_in more indexes views = refl

pub whole_replies : (form : Form) (schema : Schema) → form ≢ Current → IsWhole (codes "SELECT number, act, reply FROM replies ORDER BY number") 11 reply_terms by_key replies_columns (tables_in form schema)
whole_replies Current schema earlier = absurd (earlier refl)
whole_replies First schema earlier = replies_in _ _ _
whole_replies Earliest schema earlier = replies_in _ _ _

pub asks_replies : (form : Form) (schema : Schema) → form ≢ Current → AsksForAll (tables_in form schema) (codes "SELECT number, act, reply FROM replies ORDER BY number") 11 reply_terms by_key
asks_replies form schema earlier = asks_for_all (tables_in form schema) _ 11 reply_terms by_key _ (whole_replies form schema earlier)

abbrev pub answer_terms : List Term
answer_terms = col 1 1 ∷ col 1 2 ∷ col 1 3 ∷ col 1 4 ∷ []

abbrev answers_columns : List (List ℕ)
answers_columns = codes "desk" ∷ codes "number" ∷ codes "act" ∷ codes "reply" ∷ []

pub whole_answers : (schema : Schema) → IsWhole (codes "SELECT desk, number, act, reply FROM answers ORDER BY desk, number") 13 answer_terms by_pair answers_columns (tables_in Current schema)
unfolding compiled everything
whole_answers schema = refl

pub asks_answers : (schema : Schema) → AsksForAll (tables_in Current schema) (codes "SELECT desk, number, act, reply FROM answers ORDER BY desk, number") 13 answer_terms by_pair
asks_answers schema = asks_for_all (tables_in Current schema) _ 13 answer_terms by_pair _ (whole_answers schema)

abbrev answer_rowids_columns : List (List ℕ)
answer_rowids_columns = codes "rowid" ∷ []

pub whole_answer_rowids : (schema : Schema) → IsWhole (codes "SELECT rowid FROM answers ORDER BY rowid") 13 rowid_terms by_key answer_rowids_columns (tables_in Current schema)
unfolding compiled everything
whole_answer_rowids schema = refl

pub asks_answer_rowids : (schema : Schema) → AsksForAll (tables_in Current schema) (codes "SELECT rowid FROM answers ORDER BY rowid") 13 rowid_terms by_key
asks_answer_rowids schema = asks_for_all (tables_in Current schema) _ 13 rowid_terms by_key _ (whole_answer_rowids schema)

abbrev extensions_columns : List (List ℕ)
extensions_columns = codes "period" ∷ codes "rate" ∷ []

pub whole_extensions : (form : Form) (schema : Schema) → form ≢ Earliest → IsWhole (codes "SELECT period, rate FROM extensions ORDER BY period") 12 rate_terms by_key extensions_columns (tables_in form schema)
unfolding compiled everything
whole_extensions Current schema later = refl
whole_extensions First schema later = refl
whole_extensions Earliest schema later = absurd (later refl)

pub asks_extensions : (form : Form) (schema : Schema) → form ≢ Earliest → AsksForAll (tables_in form schema) (codes "SELECT period, rate FROM extensions ORDER BY period") 12 rate_terms by_key
asks_extensions form schema later = asks_for_all (tables_in form schema) _ 12 rate_terms by_key _ (whole_extensions form schema later)
