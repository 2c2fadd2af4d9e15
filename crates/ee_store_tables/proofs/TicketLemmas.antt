-- What the statements on `tickets` do.
use Rattle.std.proofs.Common.{◌≡◌, ℕ, pos, List, [], ◌∷◌, true, false, None, Ok, refl, sym, ap, subst, ◌∙◌, arith}
use Rattle.std.specs.FinMap.{insert}
use Rattle.sqlite.specs.declared.types.Value.TheVariants.{Null, Int}
use Rattle.sqlite.specs.Order.{Row}
use Rattle.sqlite.specs.Term.{Term, lit, col}
use Rattle.sqlite.specs.Source.TheVariants.{Values}
use Rattle.sqlite.specs.Command.TheVariants.{Insert}
use Rattle.sqlite.specs.Edit.{edit_of}
use Rattle.sqlite_rules.specs.Edit.{put_all, is_taken, are_fresh}
use Rattle.sqlite.specs.Rowids.TheVariants.{Chosen}
use Rattle.sqlite.specs.Does.{Tally, Does}
use Rattle.sqlite.specs.Rows.{Written}
use Rattle.sqlite.specs.Tree.{Trees, put_row}
use Rattle.sqlite.specs.Effect.{Database, IsDatabase}
use Rattle.sqlite.specs.Listing.{understood}
use Rattle.sqlite.specs.State.{State, mode_of, Executes}
use Rattle.sqlite.proofs.Callers.{statement_of}
use Rattle.ee_store_tables.specs.Tables.{tickets, HasCounterTables, with_others, others_in}
use Rattle.ee_store_tables.specs.Keyed.{row_of, HoldsMap}
use Rattle.ee_store_tables.specs.Rows.{TicketRow, ticket_columns, Rows, Holds, with_ticket}
use Rattle.ee_store_tables.proofs.Meaning.{add_ticket_text, add_ticket_is, add_ticket_plain}
use Rattle.ee_store_tables.proofs.KeyedLemmas.{adds_keyed}
use Rattle.ee_store_tables.proofs.WriteLemmas.{cast_int, cast_null, went, same_value, fresh_one, Same, with_tickets}
use Rattle.ee_store_tables.proofs.OtherLemmas.{one_write, Follows, AllButOne, follows, same_ours}
use Rattle.ee_store_tables.proofs.OurLemmas.{runs_ours}

abbrev pub given_ticket : ℕ → TicketRow → Row
given_ticket n x = Int (pos n) ∷ ticket_columns x

abbrev terms : List Term
terms = col 0 0 ∷ lit Null ∷ col 0 1 ∷ col 0 2 ∷ col 0 3 ∷ col 0 4 ∷ []

pub adds_ticket : (old new : State) (n : ℕ) (x : TicketRow) (count : ℕ) → HasCounterTables old.now.schema → Executes add_ticket_text (given_ticket n x) old new (Ok count)
    → Follows old.now new.now × ((rows : Rows) → Holds old.now.trees rows → Holds new.now.trees (with_ticket rows n x)) × IsDatabase new.now × Same 5 old.now.trees new.now.trees
adds_ticket old new n x count has h =
    let params = given_ticket n x in
    let db = old.now.trees in
    let command = Insert 3 (Values terms 6) in
    let w = runs_ours add_ticket_text params old new has command add_ticket_is add_ticket_plain count h in
    let text = statement_of add_ticket_text (understood (with_others (others_in old.now.schema)) add_ticket_text) in
    let done = went (subst (λ s. Does old.step_limit (mode_of old) params (record old.now { schema = s }) text None command (Ok (w.tally, new.now))) has.ours w.changed) in
    let now = ap (λ (p : Tally × Database). p.1) (same_value (went (went done.2).2).2) in
    let given_rows = went done.1 in
    let written = went (went given_rows.2).2 in
    let counted = went written.2 in
    let trees : done.0.trees ≡ written.0 = ap (λ (it : Written). it.trees) (same_value counted.2) ∙ same_value counted.1 in
    let edit = edit_of db tickets [] Chosen 0 given_rows.0 in
    let applied = one_write (others_in old.now.schema) has.others _ db written.0 edit written.1 in
    let row = row_of ticket_columns (pos n, (n, x)) in
    let news : edit.news ≡ row ∷ [] = ap (λ all. (edit_of db tickets [] Chosen 0 all).news) given_rows.1.1 ∙ rw (cast_null, cast_int n, cast_int x.day, cast_int x.payee, cast_int x.bonds, cast_int x.total) refl in
    let after : new.now.trees ≡ written.0 = ap (λ (d : Database). d.trees) now ∙ trees in
    let put : new.now.trees 5 ≡ put_row row (db 5) = ap (λ (trees : Trees). trees 5) after ∙ applied.rows ∙ ap (put_all (db 5)) news in
    let fresh : is_taken (db 5) row ≡ false = fresh_one _ (subst (λ all. are_fresh (db 5) all ≡ true) news applied.fresh) in
    let kept : AllButOne (others_in old.now.schema) 5 db new.now.trees = subst (AllButOne (others_in old.now.schema) 5 db) (sym after) applied.tables in
    let same : Same 5 db new.now.trees = same_ours (others_in old.now.schema) 5 db new.now.trees kept in (
      follows old.now new.now has 5 (omega arith) (ap (λ (d : Database). d.schema) now) kept,
      λ rows stands. with_tickets db new.now.trees rows stands (insert rows.tickets n x) same (subst (λ rs. HoldsMap ticket_columns rs (insert rows.tickets n x)) (sym put) (adds_keyed ticket_columns n (db 5) rows.tickets stands.tickets x fresh)),
      w.sound,
      same,
    )
