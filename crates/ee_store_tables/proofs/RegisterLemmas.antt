-- What an insertion into `bonds` does.
use Rattle.std.proofs.Common.{◌≡◌, ◌≤◌, ◌⊎◌, inl, inr, ℕ, ℤ, pos, List, [], ◌∷◌, true, false, Some, None, Ok, refl, sym, ap, subst, ◌∙◌, arith}
use Rattle.std.specs.FinMap.{insert}
use Rattle.sqlite.specs.declared.types.Value.TheVariants.{Null, Int}
use Rattle.sqlite.specs.Order.{Row}
use Rattle.sqlite.specs.Term.{Term, lit, col}
use Rattle.sqlite.specs.Source.TheVariants.{Values}
use Rattle.sqlite.specs.Command.TheVariants.{InsertOr}
use Rattle.sqlite.specs.Edit.{edit_of}
use Rattle.sqlite_rules.specs.Edit.{put_all, is_taken, are_fresh, with_rowid, next_rowid}
use Rattle.sqlite_rules.specs.Cast.{cast_row}
use Rattle.sqlite_rules.specs.Keys.{conflicts}
use Rattle.sqlite.specs.Rowids.TheVariants.{Chosen, Given}
use Rattle.sqlite_schema.specs.declared.schema.Keys.TheVariants.{Enforced}
use Rattle.sqlite_schema.specs.declared.command.Conflict.TheVariants.{Abort}
use Rattle.sqlite_schema.specs.Rules.{agree, passes, clashes}
use Rattle.sqlite_value.specs.Keys.{plain}
use Rattle.sqlite.specs.Does.{Tally, Does}
use Rattle.sqlite.specs.Rows.{Task, Written, TriesEach, Tries, count_of, nothing}
use Rattle.sqlite.specs.Tree.{Trees, put_row}
use Rattle.sqlite.specs.Effect.{Database, IsDatabase}
use Rattle.sqlite.specs.Listing.{understood}
use Rattle.sqlite.specs.State.{State, mode_of, Executes}
use Rattle.sqlite.proofs.Callers.{statement_of}
use Rattle.ee_store_tables.specs.Tables.{bonds, HasCounterTables, with_others, others_in}
use Rattle.ee_store_tables.specs.Keyed.{stored, HoldsPairs}
use Rattle.ee_store_tables.specs.Rows.{Rows, Holds, BondRow, bond_columns, optional, with_bond, insert_new}
use Rattle.ee_store_tables.proofs.Meaning.{add_bond_text, add_bond_is, add_bond_plain}
use Rattle.std.specs.Prelude.{◌++◌}
use Rattle.std.specs.List.{AllByRecursion}
use Rattle.std.proofs.Math.Bool.{or-false}
use Rattle.sqlite_keyed.proofs.RuleLemmas.{first_of_both}
use Rattle.sqlite_schema.specs.declared.schema.Constraint.TheVariants.{Unique}
use Rattle.ee_store_tables.proofs.PairLemmas.{alike_itself}
use Rattle.ee_store_tables.proofs.HoldsLemmas.{pair_total, pair_same, adds_row}
use Rattle.ee_store_tables.proofs.UniqueLemmas.{was_new, all_put}
use Rattle.ee_store_tables.proofs.ConflictLemmas.{tried, pair_there, MeetsOrPuts}
use Rattle.ee_store_tables.proofs.WriteLemmas.{cast_int, cast_integer, cast_null, cast_optional, went, same_value, fresh_one, not_so, not_foreign, with_bonds, Same, unaltered}
use Rattle.ee_store_tables.proofs.OtherLemmas.{one_write, Follows, AllButOne, follows, same_ours, unshared, all_unaltered}
use Rattle.ee_store_tables.proofs.OurLemmas.{runs_ours}

-- the parameters; no ticket paid the bond
abbrev pub given_bond : ℕ × ℕ → BondRow → Row
given_bond k x = Int (pos k.0) ∷ Int (pos k.1) ∷ Int (pos x.denom) ∷ Int (pos x.issued) ∷ Int (pos x.owner) ∷ optional x.coowner ∷ []

abbrev terms : List Term
terms = lit Null ∷ col 0 0 ∷ col 0 1 ∷ col 0 2 ∷ col 0 3 ∷ col 0 4 ∷ col 0 5 ∷ lit Null ∷ []

abbrev task_of : State → Row → Task
task_of old params = record { limit = old.step_limit; keys = Enforced; schema = (with_others (others_in old.now.schema)); table = bonds; params = params }

module _ (old : State) (has : HasCounterTables old.now.schema) (k : ℕ × ℕ) (bond : BondRow) (one : Written) (rows : Rows) (stands : Holds old.now.trees rows) where
  abbrev pub unpaid : BondRow
  unpaid = record bond { ticket = None }

  abbrev row : Row
  row = stored bond_columns (next_rowid (old.now.trees 2), (k, unpaid))

  conflicts_is : (r : Row) → conflicts (Some (1 ∷ 2 ∷ [])) (with_others (others_in old.now.schema)).indexes bonds row r ≡ agree plain (1 ∷ 2 ∷ []) r (1 ∷ 2 ∷ []) row
  conflicts_is r = rw (unshared (others_in old.now.schema) has.others (Some (1 ∷ 2 ∷ [])) bonds (omega arith) row r) (or-false _)

  -- the bond goes in, or its serial number has one
  pub bond_written : MeetsOrPuts (task_of old (given_bond k bond)) (Some (1 ∷ 2 ∷ [])) row old.now.trees one → Holds one.trees (with_bond rows (k, unpaid))
  bond_written (inl met) =
      let there = met.2.sound met.0 (inl refl) in
      let known = pair_there bond_columns k (old.now.trees 2) rows.bonds stands.bonds (next_rowid (old.now.trees 2)) unpaid there.0 there.1 (sym (conflicts_is there.0) ∙ there.2) in
      subst (λ trees. Holds trees (with_bond rows (k, unpaid))) (sym met.3) (subst (λ o. Holds old.now.trees (record rows { bonds = insert_new rows.bonds k unpaid o })) (sym known.1) stands)
  bond_written (inr puts) =
      let db = old.now.trees in
      let id = next_rowid (db 2) in
      let put = went puts in
      let edit = edit_of db bonds [] Given 0 (row ∷ []) in
      let applied = one_write (others_in old.now.schema) has.others _ db put.0 edit put.1 in
      let news : edit.news ≡ row ∷ [] = rw (cast_null, cast_integer id, cast_int k.0, cast_int k.1, cast_int bond.denom, cast_int bond.issued, cast_int bond.owner, cast_optional bond.coowner) refl in
      let placed : put.0 2 ≡ put_row row (db 2) = applied.rows ∙ ap (put_all (db 2)) news in
      let fresh : is_taken (db 2) row ≡ false = fresh_one _ (subst (λ all. are_fresh (db 2) all ≡ true) news applied.fresh) in
      let unique : passes Unique (with_others (others_in old.now.schema)) put.0 bonds row ≡ true = all_put (λ r. passes Unique (with_others (others_in old.now.schema)) put.0 bonds r ≡ true) row (db 2) (subst (AllByRecursion (λ r. passes Unique (with_others (others_in old.now.schema)) put.0 bonds r ≡ true)) placed (applied.fits.rules Unique not_foreign).1.1.0) in
      let apart : clashes plain (1 ∷ 2 ∷ []) (put_row row (db 2)) row ≡ false = subst (λ rs. clashes plain (1 ∷ 2 ∷ []) rs row ≡ false) placed (not_so _ (first_of_both _ _ unique)) in
      let trees : one.trees ≡ put.0 = ap (λ (w : Written). w.trees) (same_value put.2) in
      let none = was_new bond_columns k unpaid (db 2) rows.bonds stands.bonds id fresh apart in
      subst (λ trees. Holds trees (with_bond rows (k, unpaid))) (sym trees) (subst (λ o. Holds put.0 (record rows { bonds = insert_new rows.bonds k unpaid o })) (sym none)
      (with_bonds db put.0 rows stands (insert rows.bonds k unpaid) (same_ours (others_in old.now.schema) 2 db put.0 applied.tables) (subst (λ rs. HoldsPairs bond_columns rs (insert rows.bonds k unpaid)) (sym placed)
      (adds_row pair_total pair_same (stored bond_columns) (λ _. refl) k (db 2) rows.bonds stands.bonds row id unpaid (alike_itself row) none fresh))))

low : 2 ≤ 14
low = omega arith

-- each other table stays as it is, and this one has one row more at most
leaves : (old : State) (has : HasCounterTables old.now.schema) (k : ℕ × ℕ) (bond : BondRow) (one : Written)
    → MeetsOrPuts (task_of old (given_bond k bond)) (Some (1 ∷ 2 ∷ [])) (stored bond_columns (next_rowid (old.now.trees 2), (k, record bond { ticket = None }))) old.now.trees one
    → AllButOne (others_in old.now.schema) 2 old.now.trees one.trees × ((one.trees 2 ≡ old.now.trees 2) ⊎ (one.trees 2 ≡ put_row (stored bond_columns (next_rowid (old.now.trees 2), (k, record bond { ticket = None }))) (old.now.trees 2)))
leaves old has k bond one (inl met) = (subst (AllButOne (others_in old.now.schema) 2 old.now.trees) (sym met.3) (all_unaltered (others_in old.now.schema) 2 old.now.trees), inl (ap (λ (trees : Trees). trees 2) met.3))
leaves old has k bond one (inr puts) =
    let db = old.now.trees in
    let id = next_rowid (db 2) in
    let row = stored bond_columns (id, (k, record bond { ticket = None })) in
    let put = went puts in
    let edit = edit_of db bonds [] Given 0 (row ∷ []) in
    let applied = one_write (others_in old.now.schema) has.others _ db put.0 edit put.1 in
    let news : edit.news ≡ row ∷ [] = rw (cast_null, cast_integer id, cast_int k.0, cast_int k.1, cast_int bond.denom, cast_int bond.issued, cast_int bond.owner, cast_optional bond.coowner) refl in
    let after : one.trees ≡ put.0 = ap (λ (w : Written). w.trees) (same_value put.2) in
    (subst (AllButOne (others_in old.now.schema) 2 db) (sym after) applied.tables, inr (ap (λ (trees : Trees). trees 2) after ∙ applied.rows ∙ ap (put_all (db 2)) news))

pub adds_bond : (old new : State) (k : ℕ × ℕ) (bond : BondRow) (count : ℕ) → HasCounterTables old.now.schema → Executes add_bond_text (given_bond k bond) old new (Ok count)
    → Follows old.now new.now × ((rows : Rows) → Holds old.now.trees rows → Holds new.now.trees (with_bond rows (k, record bond { ticket = None }))) × IsDatabase new.now × Same 2 old.now.trees new.now.trees
    × ((new.now.trees 2 ≡ old.now.trees 2) ⊎ (new.now.trees 2 ≡ put_row (stored bond_columns (next_rowid (old.now.trees 2), (k, record bond { ticket = None }))) (old.now.trees 2)))
adds_bond old new k bond count has h =
    let params = given_bond k bond in
    let db = old.now.trees in
    let task = task_of old params in
    let next = record bond { ticket = None } in
    let row = stored bond_columns (next_rowid (db 2), (k, next)) in
    let rules = record { target = Some (1 ∷ 2 ∷ []); update = None } ∷ [] in
    let command = InsertOr 2 Abort (Values terms 8) rules in
    let w = runs_ours add_bond_text params old new has command add_bond_is add_bond_plain count h in
    let text = statement_of add_bond_text (understood (with_others (others_in old.now.schema)) add_bond_text) in
    let done = went (subst (λ s. Does old.step_limit (mode_of old) params (record old.now { schema = s }) text None command (Ok (w.tally, new.now))) has.ours w.changed) in
    let now = ap (λ (p : Tally × Database). p.1) (same_value (went (went done.2).2).2) in
    let given_rows = went done.1 in
    let counter = went given_rows.2 in
    let all = went counter.2 in
    let counted = went all.2 in
    let trees : done.0.trees ≡ all.0.0.trees = ap (λ (it : Written). it.trees) (same_value counted.2) ∙ same_value counted.1 in
    let each = went (subst (λ sources. TriesEach task Abort rules sources (count_of counter.0) (nothing db) (Ok all.0)) given_rows.1.1 all.1) in
    let ended : all.0.0.trees ≡ each.0.trees = ap (λ (p : Written × ℤ). p.0.trees) (same_value each.2) in
    let new_is : with_rowid Chosen (db 2) (cast_row bonds (Null ∷ params ++ Null ∷ [])) ≡ row = rw (cast_null, cast_int k.0, cast_int k.1, cast_int bond.denom, cast_int bond.issued, cast_int bond.owner, cast_optional bond.coowner) refl in
    let one = subst (λ r. Tries task Abort rules r db (Ok each.0)) new_is each.1 in
    let after : new.now.trees ≡ each.0.trees = ap (λ (d : Database). d.trees) now ∙ trees ∙ ended in
    let met = tried task (Some (1 ∷ 2 ∷ [])) row db each.0 one in
    let left = leaves old has k bond each.0 met in
    let kept : AllButOne (others_in old.now.schema) 2 db new.now.trees = subst (AllButOne (others_in old.now.schema) 2 db) (sym after) left.0 in (
      follows old.now new.now has 2 low (ap (λ (d : Database). d.schema) now) kept,
      λ rows stands. subst (λ trees. Holds trees (with_bond rows (k, next))) (sym after) (bond_written old has k bond each.0 rows stands met),
      w.sound,
      same_ours (others_in old.now.schema) 2 db new.now.trees kept,
      subst (λ (trees : Trees). (trees 2 ≡ db 2) ⊎ (trees 2 ≡ put_row row (db 2))) (sym after) left.1,
    )
