-- What an insertion into `paid` does.
use Rattle.std.proofs.Common.{◌≡◌, ℕ, pos, List, [], ◌∷◌, true, false, None, Ok, refl, sym, ap, subst, ◌∙◌, arith}
use Rattle.std.specs.FinMap.{insert}
use Rattle.sqlite.specs.declared.types.Value.TheVariants.{Null, Int}
use Rattle.sqlite.specs.Order.{Row}
use Rattle.sqlite.specs.Term.{Term, lit, col}
use Rattle.sqlite.specs.Source.TheVariants.{Values}
use Rattle.sqlite.specs.Command.TheVariants.{Insert}
use Rattle.sqlite.specs.Edit.{edit_of}
use Rattle.sqlite_rules.specs.Edit.{next_rowid, put_all, is_taken, are_fresh}
use Rattle.sqlite.specs.Rowids.TheVariants.{Chosen}
use Rattle.sqlite.specs.Does.{Tally, Does}
use Rattle.sqlite.specs.Rows.{Written}
use Rattle.sqlite.specs.Tree.{Trees, put_row}
use Rattle.sqlite.specs.Effect.{Database, IsDatabase}
use Rattle.sqlite.specs.Listing.{understood}
use Rattle.sqlite.specs.State.{State, mode_of, Executes}
use Rattle.sqlite.proofs.Callers.{statement_of}
use Rattle.ee_store_tables.specs.Tables.{paid, HasCounterTables, with_others, others_in}
use Rattle.ee_store_tables.specs.Keyed.{stored, HoldsPairs}
use Rattle.ee_store_tables.specs.Rows.{PaidRow, paid_columns, Rows, Holds, with_paid}
use Rattle.ee_store_tables.proofs.UniqueLemmas.{was_new, all_put}
use Rattle.sqlite_keyed.proofs.RuleLemmas.{first_of_both}
use Rattle.sqlite_schema.specs.declared.schema.Constraint.TheVariants.{Unique}
use Rattle.sqlite_schema.specs.Rules.{passes, clashes}
use Rattle.sqlite_value.specs.Keys.{plain}
use Rattle.std.specs.List.{AllByRecursion}
use Rattle.ee_store_tables.proofs.Meaning.{add_paid_text, add_paid_is, add_paid_plain}
use Rattle.ee_store_tables.proofs.PairLemmas.{alike_itself}
use Rattle.ee_store_tables.proofs.HoldsLemmas.{pair_total, pair_same, adds_row}
use Rattle.ee_store_tables.proofs.WriteLemmas.{cast_int, cast_null, went, same_value, fresh_one, not_so, not_foreign, Same, with_paid as with_paid_rows}
use Rattle.ee_store_tables.proofs.OtherLemmas.{one_write, Follows, AllButOne, follows, same_ours}
use Rattle.ee_store_tables.proofs.OurLemmas.{runs_ours}

abbrev pub given_paid : ℕ × ℕ → PaidRow → Row
given_paid k x = Int (pos k.0) ∷ Int (pos k.1) ∷ paid_columns x

abbrev terms : List Term
terms = lit Null ∷ col 0 0 ∷ col 0 1 ∷ col 0 2 ∷ col 0 3 ∷ col 0 4 ∷ []

pub adds_paid : (old new : State) (k : ℕ × ℕ) (x : PaidRow) (count : ℕ) → HasCounterTables old.now.schema → Executes add_paid_text (given_paid k x) old new (Ok count)
    → Follows old.now new.now × ((rows : Rows) → Holds old.now.trees rows → Holds new.now.trees (with_paid rows k x)) × IsDatabase new.now × Same 7 old.now.trees new.now.trees × (new.now.trees 7 ≡ put_row (stored paid_columns (next_rowid (old.now.trees 7), (k, x))) (old.now.trees 7))
adds_paid old new k x count has h =
    let params = given_paid k x in
    let db = old.now.trees in
    let command = Insert 4 (Values terms 6) in
    let w = runs_ours add_paid_text params old new has command add_paid_is add_paid_plain count h in
    let text = statement_of add_paid_text (understood (with_others (others_in old.now.schema)) add_paid_text) in
    let done = went (subst (λ s. Does old.step_limit (mode_of old) params (record old.now { schema = s }) text None command (Ok (w.tally, new.now))) has.ours w.changed) in
    let now = ap (λ (p : Tally × Database). p.1) (same_value (went (went done.2).2).2) in
    let given_rows = went done.1 in
    let written = went (went given_rows.2).2 in
    let counted = went written.2 in
    let trees : done.0.trees ≡ written.0 = ap (λ (it : Written). it.trees) (same_value counted.2) ∙ same_value counted.1 in
    let edit = edit_of db paid [] Chosen 0 given_rows.0 in
    let applied = one_write (others_in old.now.schema) has.others _ db written.0 edit written.1 in
    let row = stored paid_columns (next_rowid (db 7), (k, x)) in
    let news : edit.news ≡ row ∷ [] = ap (λ all. (edit_of db paid [] Chosen 0 all).news) given_rows.1.1 ∙ rw (cast_null, cast_int k.0, cast_int k.1, cast_int x.letter, cast_int x.number, cast_int x.cents) refl in
    let put : written.0 7 ≡ put_row row (db 7) = applied.rows ∙ ap (put_all (db 7)) news in
    let fresh : is_taken (db 7) row ≡ false = fresh_one _ (subst (λ all. are_fresh (db 7) all ≡ true) news applied.fresh) in
    let unique : passes Unique (with_others (others_in old.now.schema)) written.0 paid row ≡ true = all_put (λ r. passes Unique (with_others (others_in old.now.schema)) written.0 paid r ≡ true) row (db 7) (subst (AllByRecursion (λ r. passes Unique (with_others (others_in old.now.schema)) written.0 paid r ≡ true)) put (applied.fits.rules Unique not_foreign).1.1.1.1.0) in
    let apart : clashes plain (1 ∷ 2 ∷ []) (put_row row (db 7)) row ≡ false = subst (λ rs. clashes plain (1 ∷ 2 ∷ []) rs row ≡ false) put (not_so _ (first_of_both _ _ unique)) in
    let after : new.now.trees ≡ written.0 = ap (λ (d : Database). d.trees) now ∙ trees in
    let kept : AllButOne (others_in old.now.schema) 7 db new.now.trees = subst (AllButOne (others_in old.now.schema) 7 db) (sym after) applied.tables in
    let same : Same 7 db new.now.trees = same_ours (others_in old.now.schema) 7 db new.now.trees kept in (
      follows old.now new.now has 7 (omega arith) (ap (λ (d : Database). d.schema) now) kept,
      λ rows stands.
          let free = was_new paid_columns k x (db 7) rows.paid stands.paid (next_rowid (db 7)) fresh apart in
          with_paid_rows db new.now.trees rows stands (insert rows.paid k x) same (subst (λ rs. HoldsPairs paid_columns rs (insert rows.paid k x)) (sym (ap (λ (trees : Trees). trees 7) after ∙ put))
          (adds_row pair_total pair_same (stored paid_columns) (λ _. refl) k (db 7) rows.paid stands.paid row (next_rowid (db 7)) x (alike_itself row) free fresh)),
      w.sound,
      same,
      ap (λ (trees : Trees). trees 7) after ∙ put,
    )
