-- What the statements on `answers` do.
use Rattle.std.proofs.Common.{◌≡◌, ℕ, ℤ, pos, List, [], ◌∷◌, true, false, Some, None, Option, Ok, refl, sym, ap, subst, ◌∙◌, arith}
use Rattle.std.specs.Prelude.{option_map}
use Rattle.std.specs.Option.{option_to_list}
use Rattle.std.specs.FinMap.{FinMap, get, insert}
use Rattle.sqlite.specs.declared.types.Value.TheVariants.{Null, Int}
use Rattle.sqlite.specs.Order.{Row}
use Rattle.sqlite.specs.Term.{Term, lit, col}
use Rattle.sqlite.specs.Source.TheVariants.{Values}
use Rattle.sqlite.specs.Command.TheVariants.{Insert}
use Rattle.sqlite.specs.Edit.{edit_of}
use Rattle.sqlite_rules.specs.Edit.{next_rowid, put_all, is_taken, are_fresh}
use Rattle.sqlite.specs.Rowids.TheVariants.{Chosen}
use Rattle.sqlite.specs.Does.{Tally, Does}
use Rattle.sqlite.specs.Rows.{Written}
use Rattle.sqlite.specs.Tree.{Trees, put_row}
use Rattle.sqlite.specs.Effect.{Database, IsDatabase}
use Rattle.sqlite.specs.Listing.{understood}
use Rattle.sqlite.specs.State.{State, mode_of, Executes, Shown}
use Rattle.sqlite.specs.Query.{IsAnswer}
use Rattle.sqlite.specs.Program.{overlay}
use Rattle.sqlite.proofs.Callers.{statement_of}
use Rattle.ee_store_tables.specs.Tables.{answers, HasCounterTables, with_others, others_in}
use Rattle.ee_store_tables.specs.Keyed.{pair_cmp, stored, ReadAlike, HoldsPairs}
use Rattle.ee_store_tables.specs.Rows.{ReplyRow, reply_columns, Rows, Holds, with_answer}
use Rattle.ee_store_tables.proofs.UniqueLemmas.{was_new, all_put}
use Rattle.sqlite_keyed.proofs.RuleLemmas.{first_of_both}
use Rattle.sqlite_schema.specs.declared.schema.Constraint.TheVariants.{Unique}
use Rattle.sqlite_schema.specs.Rules.{passes, clashes}
use Rattle.sqlite_value.specs.Keys.{plain}
use Rattle.std.specs.List.{AllByRecursion}
use Rattle.ee_store_tables.proofs.Meaning.{add_answer_text, add_answer_is, add_answer_plain, find_answer_text, find_answer_query, find_answer_is, find_answer_plain}
use Rattle.ee_store_tables.proofs.PairLemmas.{alike_itself}
use Rattle.ee_store_tables.proofs.HoldsLemmas.{pair_total, pair_same, adds_row, hit_row, no_row}
use Rattle.ee_store_tables.proofs.ReadLemmas.{found_by_pair}
use Rattle.ee_store_tables.proofs.BondLemmas.{key_params}
use Rattle.ee_store_tables.proofs.WriteLemmas.{cast_int, cast_null, went, same_value, fresh_one, not_so, not_foreign, Same, with_answers}
use Rattle.ee_store_tables.proofs.OtherLemmas.{one_write, Follows, AllButOne, follows, same_ours}
use Rattle.ee_store_tables.proofs.OurLemmas.{runs_ours, reads_ours}

abbrev pub given_answer : ℕ × ℕ → ReplyRow → Row
given_answer k x = Int (pos k.0) ∷ Int (pos k.1) ∷ reply_columns x

abbrev terms : List Term
terms = lit Null ∷ col 0 0 ∷ col 0 1 ∷ col 0 2 ∷ col 0 3 ∷ []

pub adds_answer : (old new : State) (k : ℕ × ℕ) (x : ReplyRow) (count : ℕ) → HasCounterTables old.now.schema → Executes add_answer_text (given_answer k x) old new (Ok count)
    → Follows old.now new.now × ((rows : Rows) → Holds old.now.trees rows → Holds new.now.trees (with_answer rows k x)) × IsDatabase new.now × Same 13 old.now.trees new.now.trees × (new.now.trees 13 ≡ put_row (stored reply_columns (next_rowid (old.now.trees 13), (k, x))) (old.now.trees 13))
adds_answer old new k x count has h =
    let params = given_answer k x in
    let db = old.now.trees in
    let command = Insert 7 (Values terms 5) in
    let w = runs_ours add_answer_text params old new has command add_answer_is add_answer_plain count h in
    let text = statement_of add_answer_text (understood (with_others (others_in old.now.schema)) add_answer_text) in
    let done = went (subst (λ s. Does old.step_limit (mode_of old) params (record old.now { schema = s }) text None command (Ok (w.tally, new.now))) has.ours w.changed) in
    let now = ap (λ (p : Tally × Database). p.1) (same_value (went (went done.2).2).2) in
    let given_rows = went done.1 in
    let written = went (went given_rows.2).2 in
    let counted = went written.2 in
    let trees : done.0.trees ≡ written.0 = ap (λ (it : Written). it.trees) (same_value counted.2) ∙ same_value counted.1 in
    let edit = edit_of db answers [] Chosen 0 given_rows.0 in
    let applied = one_write (others_in old.now.schema) has.others _ db written.0 edit written.1 in
    let row = stored reply_columns (next_rowid (db 13), (k, x)) in
    let news : edit.news ≡ row ∷ [] = ap (λ all. (edit_of db answers [] Chosen 0 all).news) given_rows.1.1 ∙ rw (cast_null, cast_int k.0, cast_int k.1) refl in
    let put : written.0 13 ≡ put_row row (db 13) = applied.rows ∙ ap (put_all (db 13)) news in
    let fresh : is_taken (db 13) row ≡ false = fresh_one _ (subst (λ all. are_fresh (db 13) all ≡ true) news applied.fresh) in
    let unique : passes Unique (with_others (others_in old.now.schema)) written.0 answers row ≡ true = all_put (λ r. passes Unique (with_others (others_in old.now.schema)) written.0 answers r ≡ true) row (db 13) (subst (AllByRecursion (λ r. passes Unique (with_others (others_in old.now.schema)) written.0 answers r ≡ true)) put (applied.fits.rules Unique not_foreign).1.1.1.1.1.1.1.0) in
    let apart : clashes plain (1 ∷ 2 ∷ []) (put_row row (db 13)) row ≡ false = subst (λ rs. clashes plain (1 ∷ 2 ∷ []) rs row ≡ false) put (not_so _ (first_of_both _ _ unique)) in
    let after : new.now.trees ≡ written.0 = ap (λ (d : Database). d.trees) now ∙ trees in
    let kept : AllButOne (others_in old.now.schema) 13 db new.now.trees = subst (AllButOne (others_in old.now.schema) 13 db) (sym after) applied.tables in
    let same : Same 13 db new.now.trees = same_ours (others_in old.now.schema) 13 db new.now.trees kept in (
      follows old.now new.now has 13 (omega arith) (ap (λ (d : Database). d.schema) now) kept,
      λ rows stands.
          let free = was_new reply_columns k x (db 13) rows.answers stands.answers (next_rowid (db 13)) fresh apart in
          with_answers db new.now.trees rows stands (insert rows.answers k x) same (subst (λ rs. HoldsPairs reply_columns rs (insert rows.answers k x)) (sym (ap (λ (trees : Trees). trees 13) after ∙ put))
          (adds_row pair_total pair_same (stored reply_columns) (λ _. refl) k (db 13) rows.answers stands.answers row (next_rowid (db 13)) x (alike_itself row) free fresh)),
      w.sound,
      same,
      ap (λ (trees : Trees). trees 13) after ∙ put,
    )

pub finds_answer : (old new : State) (k : ℕ × ℕ) (m : FinMap pair_cmp ReplyRow) (rows : List Row) → HasCounterTables old.now.schema → HoldsPairs reply_columns (old.now.trees 13) m
    → Shown find_answer_text (key_params k []) old new rows → rows ≡ option_to_list (option_map reply_columns (get m k))
finds_answer old new k m rows has stands shown = go (get m k) refl
  where
    a : IsAnswer find_answer_query (overlay old.now.trees []) (key_params k []) rows
    a = (reads_ours find_answer_text (key_params k []) old new has _ find_answer_is find_answer_plain rows shown).answer Null

    shows : (r : Row) (p : ℤ × ((ℕ × ℕ) × ReplyRow)) → ReadAlike r (stored reply_columns p) → Rattle.sqlite_sql.specs.Term.eval_all find_answer_query.project (key_params k [] ∷ r ∷ []) ≡ reply_columns p.1.1
    shows r p one = rw (one 3, one 4) refl

    go : (o : Option ReplyRow) → get m k ≡ o → rows ≡ option_to_list (option_map reply_columns o)
    go None is = found_by_pair reply_columns 13 find_answer_query.project (λ p. reply_columns p.1.1) k [] shows old.now.trees m rows refl stands a None (no_row pair_total pair_same (stored reply_columns) (λ _. refl) k (old.now.trees 13) m stands is)
    go (Some x) is =
        let one = hit_row pair_total pair_same (stored reply_columns) (λ _. refl) k (old.now.trees 13) m stands x is in
        found_by_pair reply_columns 13 find_answer_query.project (λ p. reply_columns p.1.1) k [] shows old.now.trees m rows refl stands a (Some (one.0, (k, x))) one.1
