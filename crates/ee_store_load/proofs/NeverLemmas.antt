-- Queries that `sqlite` refuses for no rows of these tables.
use Rattle.std.proofs.Common.{◌≢◌, inl, inr, ℕ, List, [], codes, refl, true≢false}
use Rattle.sqlite.specs.Term.{Term}
use Rattle.sqlite.specs.Schema.{Schema}
use Rattle.sqlite_value.specs.declared.keys.Key.{Key}
use Rattle.sqlite.specs.Table.{Table}
use Rattle.sqlite_schema.specs.declared.schema.Index.{Index}
use Rattle.sqlite_schema.specs.declared.schema.View.{View}
use Rattle.ee_store_schema.specs.declared.forms.Form.{Form}
use Rattle.ee_store_schema.specs.declared.forms.Form.TheVariants.{Current, First, Earliest}
use Rattle.ee_store_schema.specs.Inner.Asking.{IsNeverRefused}
use Rattle.ee_store_schema.proofs.Lemmas.Forms.{tables_in}
use Rattle.ee_store_load.specs.Inner.Reading.{whole_table}
use Rattle.ee_store_load.proofs.TextLemmas.{begun_with, of_each, IsCompiled, IsMistyped, NeverOverflows, never_refused}
use Rattle.ee_store_load.proofs.QuestionLemmas.{by_key, by_pair, desk_terms, rate_terms, bond_terms, ticket_terms, line_terms, batch_terms, reply_terms, answer_terms, rowid_terms, whole_desk, whole_rates, whole_bonds, whole_bond_rowids, whole_tickets, whole_lines, whole_line_rowids, whole_batches, whole_replies, whole_answers, whole_answer_rowids, whole_extensions}
use Rattle.ee_store_load.specs.Opening.{version_text, given_id}
use Rattle.ee_store_load.proofs.VersionLemmas.{version_query, version_is}

never_sums : (tree : ℕ) (terms : List Term) (order : List (Term × Key)) → NeverOverflows (whole_table tree terms order) []
never_sums tree terms order trees (inl none) = none
never_sums tree terms order trees (inr some) = some.4

never_whole : (schema : Schema) (text : List ℕ) (tree : ℕ) (terms : List Term) (order : List (Term × Key)) (columns : List (List ℕ))
    → IsCompiled text (whole_table tree terms order) columns [] schema → ¬ IsMistyped (whole_table tree terms order) [] schema → IsNeverRefused schema text []
never_whole schema text tree terms order columns is accepted = never_refused schema text (whole_table tree terms order) columns [] is [] refl accepted (never_sums tree terms order)

-- ---- the texts of this crate

accepted_desk : (more : List Table) (indexes : List Index) (views : List View) → ¬ IsMistyped (whole_table 0 desk_terms by_key) [] (begun_with more indexes views)
accepted_desk more indexes views mistyped = true≢false mistyped

pub never_desk : (form : Form) (schema : Schema) → IsNeverRefused (tables_in form schema) (codes "SELECT id, version, day, last_day FROM desk ORDER BY id") []
never_desk form schema = never_whole (tables_in form schema) _ _ _ _ _ (whole_desk form schema) (of_each (λ s. ¬ IsMistyped (whole_table 0 desk_terms by_key) [] s) accepted_desk form schema)

accepted_rates : (more : List Table) (indexes : List Index) (views : List View) → ¬ IsMistyped (whole_table 1 rate_terms by_key) [] (begun_with more indexes views)
accepted_rates more indexes views mistyped = true≢false mistyped

pub never_rates : (form : Form) (schema : Schema) → IsNeverRefused (tables_in form schema) (codes "SELECT period, rate FROM rates ORDER BY period") []
never_rates form schema = never_whole (tables_in form schema) _ _ _ _ _ (whole_rates form schema) (of_each (λ s. ¬ IsMistyped (whole_table 1 rate_terms by_key) [] s) accepted_rates form schema)

accepted_bonds : (more : List Table) (indexes : List Index) (views : List View) → ¬ IsMistyped (whole_table 2 bond_terms by_pair) [] (begun_with more indexes views)
accepted_bonds more indexes views mistyped = true≢false mistyped

pub never_bonds : (form : Form) (schema : Schema) → IsNeverRefused (tables_in form schema) (codes "SELECT letter, number, denom, issued, owner, coowner, ticket FROM bonds ORDER BY letter, number") []
never_bonds form schema = never_whole (tables_in form schema) _ _ _ _ _ (whole_bonds form schema) (of_each (λ s. ¬ IsMistyped (whole_table 2 bond_terms by_pair) [] s) accepted_bonds form schema)

accepted_bond_rowids : (more : List Table) (indexes : List Index) (views : List View) → ¬ IsMistyped (whole_table 2 rowid_terms by_key) [] (begun_with more indexes views)
accepted_bond_rowids more indexes views mistyped = true≢false mistyped

pub never_bond_rowids : (form : Form) (schema : Schema) → IsNeverRefused (tables_in form schema) (codes "SELECT rowid FROM bonds ORDER BY rowid") []
never_bond_rowids form schema = never_whole (tables_in form schema) _ _ _ _ _ (whole_bond_rowids form schema) (of_each (λ s. ¬ IsMistyped (whole_table 2 rowid_terms by_key) [] s) accepted_bond_rowids form schema)

accepted_tickets : (more : List Table) (indexes : List Index) (views : List View) → ¬ IsMistyped (whole_table 5 ticket_terms by_key) [] (begun_with more indexes views)
accepted_tickets more indexes views mistyped = true≢false mistyped

pub never_tickets : (form : Form) (schema : Schema) → IsNeverRefused (tables_in form schema) (codes "SELECT ticket, day, payee, bonds, total FROM tickets ORDER BY ticket") []
never_tickets form schema = never_whole (tables_in form schema) _ _ _ _ _ (whole_tickets form schema) (of_each (λ s. ¬ IsMistyped (whole_table 5 ticket_terms by_key) [] s) accepted_tickets form schema)

accepted_lines : (more : List Table) (indexes : List Index) (views : List View) → ¬ IsMistyped (whole_table 7 line_terms by_pair) [] (begun_with more indexes views)
accepted_lines more indexes views mistyped = true≢false mistyped

pub never_lines : (form : Form) (schema : Schema) → IsNeverRefused (tables_in form schema) (codes "SELECT ticket, place, letter, number, cents FROM paid ORDER BY ticket, place") []
never_lines form schema = never_whole (tables_in form schema) _ _ _ _ _ (whole_lines form schema) (of_each (λ s. ¬ IsMistyped (whole_table 7 line_terms by_pair) [] s) accepted_lines form schema)

accepted_line_rowids : (more : List Table) (indexes : List Index) (views : List View) → ¬ IsMistyped (whole_table 7 rowid_terms by_key) [] (begun_with more indexes views)
accepted_line_rowids more indexes views mistyped = true≢false mistyped

pub never_line_rowids : (form : Form) (schema : Schema) → IsNeverRefused (tables_in form schema) (codes "SELECT rowid FROM paid ORDER BY rowid") []
never_line_rowids form schema = never_whole (tables_in form schema) _ _ _ _ _ (whole_line_rowids form schema) (of_each (λ s. ¬ IsMistyped (whole_table 7 rowid_terms by_key) [] s) accepted_line_rowids form schema)

accepted_batches : (more : List Table) (indexes : List Index) (views : List View) → ¬ IsMistyped (whole_table 10 batch_terms by_key) [] (begun_with more indexes views)
accepted_batches more indexes views mistyped = true≢false mistyped

pub never_batches : (form : Form) (schema : Schema) → IsNeverRefused (tables_in form schema) (codes "SELECT day, tickets, bonds, total FROM batches ORDER BY day") []
never_batches form schema = never_whole (tables_in form schema) _ _ _ _ _ (whole_batches form schema) (of_each (λ s. ¬ IsMistyped (whole_table 10 batch_terms by_key) [] s) accepted_batches form schema)

accepted_replies : (form : Form) (schema : Schema) → form ≢ Current → ¬ IsMistyped (whole_table 11 reply_terms by_key) [] (tables_in form schema)
accepted_replies Current schema earlier mistyped = earlier refl
accepted_replies First schema earlier mistyped = true≢false mistyped
accepted_replies Earliest schema earlier mistyped = true≢false mistyped

pub never_replies : (form : Form) (schema : Schema) → form ≢ Current → IsNeverRefused (tables_in form schema) (codes "SELECT number, act, reply FROM replies ORDER BY number") []
never_replies form schema earlier = never_whole (tables_in form schema) _ _ _ _ _ (whole_replies form schema earlier) (accepted_replies form schema earlier)

accepted_answers : (schema : Schema) → ¬ IsMistyped (whole_table 13 answer_terms by_pair) [] (tables_in Current schema)
accepted_answers schema mistyped = true≢false mistyped

pub never_answers : (schema : Schema) → IsNeverRefused (tables_in Current schema) (codes "SELECT desk, number, act, reply FROM answers ORDER BY desk, number") []
never_answers schema = never_whole (tables_in Current schema) _ _ _ _ _ (whole_answers schema) (accepted_answers schema)

accepted_answer_rowids : (schema : Schema) → ¬ IsMistyped (whole_table 13 rowid_terms by_key) [] (tables_in Current schema)
accepted_answer_rowids schema mistyped = true≢false mistyped

pub never_answer_rowids : (schema : Schema) → IsNeverRefused (tables_in Current schema) (codes "SELECT rowid FROM answers ORDER BY rowid") []
never_answer_rowids schema = never_whole (tables_in Current schema) _ _ _ _ _ (whole_answer_rowids schema) (accepted_answer_rowids schema)

accepted_extensions : (form : Form) (schema : Schema) → form ≢ Earliest → ¬ IsMistyped (whole_table 12 rate_terms by_key) [] (tables_in form schema)
accepted_extensions Current schema later mistyped = true≢false mistyped
accepted_extensions First schema later mistyped = true≢false mistyped
accepted_extensions Earliest schema later mistyped = later refl

pub never_extensions : (form : Form) (schema : Schema) → form ≢ Earliest → IsNeverRefused (tables_in form schema) (codes "SELECT period, rate FROM extensions ORDER BY period") []
never_extensions form schema later = never_whole (tables_in form schema) _ _ _ _ _ (whole_extensions form schema later) (accepted_extensions form schema later)

-- ---- the version

accepted_version : (more : List Table) (indexes : List Index) (views : List View) → ¬ IsMistyped version_query given_id (begun_with more indexes views)
accepted_version more indexes views mistyped = true≢false mistyped

version_sums : NeverOverflows version_query given_id
version_sums trees (inl none) = none
version_sums trees (inr some) = some.4

pub never_version : (form : Form) (schema : Schema) → IsNeverRefused (tables_in form schema) version_text given_id
never_version form schema = never_refused (tables_in form schema) version_text version_query _ _ (version_is form schema) given_id refl (of_each (λ s. ¬ IsMistyped version_query given_id s) accepted_version form schema) version_sums
