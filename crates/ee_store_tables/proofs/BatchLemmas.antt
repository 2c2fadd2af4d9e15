-- What an insertion into `batches` does.
use Rattle.std.proofs.Common.{◌≡◌, ℕ, pos, List, [], ◌∷◌, true, false, None, Ok, refl, sym, ap, subst, ◌∙◌, arith}
use Rattle.std.specs.FinMap.{insert}
use Rattle.sqlite.specs.declared.types.Value.TheVariants.{Null, Int}
use Rattle.sqlite.specs.Order.{Row}
use Rattle.sqlite.specs.Term.{Term, lit, col}
use Rattle.sqlite.specs.Source.TheVariants.{Values}
use Rattle.sqlite.specs.Command.TheVariants.{Insert}
use Rattle.sqlite.specs.Edit.{edit_of}
use Rattle.sqlite_rules.specs.Edit.{put_all, is_taken, are_fresh}
use Rattle.sqlite.specs.Rowids.TheVariants.{Chosen}
use Rattle.sqlite.specs.Does.{Tally, Does}
use Rattle.sqlite.specs.Rows.{Written}
use Rattle.sqlite.specs.Tree.{Trees, put_row}
use Rattle.sqlite.specs.Effect.{Database, IsDatabase}
use Rattle.sqlite.specs.Listing.{understood}
use Rattle.sqlite.specs.State.{State, mode_of, Executes}
use Rattle.sqlite.proofs.Callers.{statement_of}
use Rattle.ee_store_tables.specs.Tables.{batches, HasCounterTables, with_others, others_in}
use Rattle.ee_store_tables.specs.Keyed.{row_of, HoldsMap}
use Rattle.ee_store_tables.specs.Rows.{BatchRow, batch_columns, Rows, Holds, with_batch}
use Rattle.ee_store_tables.proofs.Meaning.{add_batch_text, add_batch_is, add_batch_plain}
use Rattle.ee_store_tables.proofs.KeyedLemmas.{adds_keyed}
use Rattle.ee_store_tables.proofs.WriteLemmas.{cast_int, cast_null, went, same_value, fresh_one, Same, with_batches}
use Rattle.ee_store_tables.proofs.OtherLemmas.{one_write, Follows, AllButOne, follows, same_ours}
use Rattle.ee_store_tables.proofs.OurLemmas.{runs_ours}

abbrev pub given_batch : ℕ → BatchRow → Row
given_batch n x = Int (pos n) ∷ batch_columns x

abbrev terms : List Term
terms = col 0 0 ∷ lit Null ∷ col 0 1 ∷ col 0 2 ∷ col 0 3 ∷ []

pub adds_batch : (old new : State) (n : ℕ) (x : BatchRow) (count : ℕ) → HasCounterTables old.now.schema → Executes add_batch_text (given_batch n x) old new (Ok count)
    → Follows old.now new.now × ((rows : Rows) → Holds old.now.trees rows → Holds new.now.trees (with_batch rows n x)) × IsDatabase new.now × Same 10 old.now.trees new.now.trees
adds_batch old new n x count has h =
    let params = given_batch n x in
    let db = old.now.trees in
    let command = Insert 5 (Values terms 5) in
    let w = runs_ours add_batch_text params old new has command add_batch_is add_batch_plain count h in
    let text = statement_of add_batch_text (understood (with_others (others_in old.now.schema)) add_batch_text) in
    let done = went (subst (λ s. Does old.step_limit (mode_of old) params (record old.now { schema = s }) text None command (Ok (w.tally, new.now))) has.ours w.changed) in
    let now = ap (λ (p : Tally × Database). p.1) (same_value (went (went done.2).2).2) in
    let given_rows = went done.1 in
    let written = went (went given_rows.2).2 in
    let counted = went written.2 in
    let trees : done.0.trees ≡ written.0 = ap (λ (it : Written). it.trees) (same_value counted.2) ∙ same_value counted.1 in
    let edit = edit_of db batches [] Chosen 0 given_rows.0 in
    let applied = one_write (others_in old.now.schema) has.others _ db written.0 edit written.1 in
    let row = row_of batch_columns (pos n, (n, x)) in
    let news : edit.news ≡ row ∷ [] = ap (λ all. (edit_of db batches [] Chosen 0 all).news) given_rows.1.1 ∙ rw (cast_null, cast_int n, cast_int x.tickets, cast_int x.bonds, cast_int x.total) refl in
    let after : new.now.trees ≡ written.0 = ap (λ (d : Database). d.trees) now ∙ trees in
    let put : new.now.trees 10 ≡ put_row row (db 10) = ap (λ (trees : Trees). trees 10) after ∙ applied.rows ∙ ap (put_all (db 10)) news in
    let fresh : is_taken (db 10) row ≡ false = fresh_one _ (subst (λ all. are_fresh (db 10) all ≡ true) news applied.fresh) in
    let kept : AllButOne (others_in old.now.schema) 10 db new.now.trees = subst (AllButOne (others_in old.now.schema) 10 db) (sym after) applied.tables in
    let same : Same 10 db new.now.trees = same_ours (others_in old.now.schema) 10 db new.now.trees kept in (
      follows old.now new.now has 10 (omega arith) (ap (λ (d : Database). d.schema) now) kept,
      λ rows stands. with_batches db new.now.trees rows stands (insert rows.batches n x) same (subst (λ rs. HoldsMap batch_columns rs (insert rows.batches n x)) (sym put) (adds_keyed batch_columns n (db 10) rows.batches stands.batches x fresh)),
      w.sound,
      same,
    )
