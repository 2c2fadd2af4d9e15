-- Why INSERT .. ON CONFLICT (..) DO NOTHING of one row is not refused.
use Rattle.std.proofs.Common.{◌≡◌, inl, inr, ℕ, ◌<◌, ◌^◌, ℤ, pos, List, [], ◌∷◌, Bool, true, false, not, None, Some, Option, Err, refl, sym, ap, subst, ◌∙◌, arith, nat_cmp}
use Rattle.std.specs.Prelude.{◌&&◌, ◌||◌, ◌++◌, codes}
use Rattle.std.specs.List.{AllByRecursion, list_all}
use Rattle.std.specs.Ordering.{is_eq}
use Rattle.std.specs.FinMap.{FinMap}
use Rattle.std.proofs.Math.Bool.{and-true}
use Rattle.std.proofs.lemmas.Bool.{cases_Bool}
use Rattle.std.proofs.lemmas.Cmp.{nat_cmp_total}
use Rattle.sqlite.specs.declared.types.Value.TheVariants.{Null, Int}
use Rattle.sqlite.specs.declared.error.Error.{Error}
use Rattle.sqlite.specs.Order.{Row, value_cmp}
use Rattle.sqlite.specs.Ops.{binary}
use Rattle.sqlite.specs.Tree.{Trees, rowid, with_tree}
use Rattle.sqlite.specs.Term.{lit, col}
use Rattle.sqlite.specs.Source.TheVariants.{Values}
use Rattle.sqlite.specs.Command.TheVariants.{InsertOr}
use Rattle.sqlite.specs.Rows.{Task, Tries, Judged, Meets, Upserts, Clears, Puts, Edited, TriesEach, nothing, count_of}
use Rattle.sqlite_rules.specs.Edit.{Edit, edit_of, edited, next_rowid, id_in, is_taken, with_rowid}
use Rattle.sqlite_rules.specs.Cast.{cast_row}
use Rattle.sqlite_rules.specs.Steps.{IsJudged, is_typed, is_present}
use Rattle.sqlite_rules.specs.Keys.{AreConflicts, conflicts}
use Rattle.sqlite_rules.specs.Lists.{Has}
use Rattle.sqlite_rules.proofs.ListLemmas.{all_from}
use Rattle.sqlite_rules.specs.declared.error.Refusal.{Refusal}
use Rattle.sqlite_rules.specs.declared.error.Refusal.TheVariants.{Violates, Mismatch, NoRowid, BadReference, TooDeep}
use Rattle.sqlite.specs.Rowids.TheVariants.{Chosen, Given}
use Rattle.sqlite.specs.View.{is_int}
use Rattle.sqlite_sql.specs.Ops.{fits_i64}
use Rattle.sqlite_value.specs.Keys.{plain, first_key}
use Rattle.sqlite_schema.specs.declared.command.Conflict.TheVariants.{Abort}
use Rattle.sqlite_schema.specs.declared.command.Upsert.{Upsert}
use Rattle.sqlite_schema.specs.declared.schema.Keys.TheVariants.{Enforced}
use Rattle.sqlite_schema.specs.declared.schema.Constraint.TheVariants.{Datatype, NotNull, Check, PrimaryKey, Unique, ForeignKey}
use Rattle.sqlite_schema.specs.Rules.{Keeps, agree, passes, passes_checks}
use Rattle.sqlite.specs.Does.{AtPlace, OnRows}
use Rattle.sqlite.specs.Effect.{RefusesSource}
use Rattle.sqlite_keyed.proofs.RuleLemmas.{first_of_both}
use Rattle.sqlite_keyed.proofs.ListLemmas.{any_from_none}
use Rattle.sqlite.specs.Schema.{Schema}
use Rattle.ee_store_tables.specs.Tables.{bonds, with_others, AreOthers}
use Rattle.ee_store_tables.specs.Keyed.{row_of, stored, ReadAlike, HoldsMap}
use Rattle.ee_store_tables.specs.Rows.{Rows, Holds, rate_columns, BondRow, bond_columns, optional, Rises}
use Rattle.ee_store_tables.proofs.PairLemmas.{tied, any_alike}
use Rattle.ee_store_tables.proofs.ReadLemmas.{keyed_rows}
use Rattle.ee_store_tables.proofs.SelectLemmas.{equals_holds, cmp_pos, turned_test}
use Rattle.ee_store_tables.proofs.WriteLemmas.{cast_int, cast_integer, cast_null, cast_optional}
use Rattle.ee_store_tables.proofs.Meaning.{insert_rate}
use Rattle.ee_store_tables.proofs.RateLemmas.{given_rate, rate_table, IsRateTable, rates_are, extensions_are, rates_conflict}
use Rattle.ee_store_tables.proofs.CauseLemmas.{NeverStops, changing, never_false}
use Rattle.ee_store_tables.proofs.RefusalLemmas.{passed, no_stop, never_so, never_source, never_sourced, IsAllowed, never_edited, is_bare, bare_storable, one_fits, never_concluded, all_unique, unique_beside, number_fits, task_on}
use Rattle.ee_store_tables.proofs.KeyLemmas.{IsOther, put_apart, same_rowid, bonds_apart, bonds_unique, alike_both}
use Rattle.ee_store_tables.proofs.RoomLemmas.{HasNext, has_next}
use Rattle.ee_store_tables.proofs.OtherLemmas.{no_acts, unshared, unindexed}

-- the row passes each rule of its own
pub record IsWell (task : Task) (new : Row) : Type 0 where
  pub fits : fits_i64 (id_in (rowid new)) ≡ true
  pub keyed : is_int (rowid new) ≡ true
  pub typed : is_typed task.table new ≡ true
  pub present : is_present task.table new ≡ true
  pub checked : passes_checks task.table new ≡ true

module _ (task : Task) (target : Option (List ℕ)) (new : Row) (db : Trees) (well : IsWell task new)
    (puts : ((r : Row) → Has (db task.table.tree) r → conflicts target task.schema.indexes task.table new r ≡ false) → (stop : Option Error) → ¬ Puts task new db (Err stop)) where
  abbrev clauses : List Upsert
  clauses = record { target = target; update = None } ∷ []

  not_judged : (why : Refusal) → ¬ IsJudged task.table new (Some why)
  not_judged Mismatch h = never_so well.keyed h
  not_judged NoRowid h = h
  not_judged BadReference h = h
  not_judged TooDeep h = h
  not_judged (Violates Datatype) h = never_so well.typed h
  not_judged (Violates NotNull) h = never_so well.present h
  not_judged (Violates Check) h = never_so well.checked h
  not_judged (Violates PrimaryKey) h = h
  not_judged (Violates Unique) h = h
  not_judged (Violates ForeignKey) h = h

  cleared : (found : List Row) (stop : Option Error) → Clears task Abort new db found (Err stop) → Puts task new db (Err stop)
  cleared [] stop h = h
  cleared (x ∷ more) stop h = h

  met : (found : List Row) (stop : Option Error) → AreConflicts target task.schema.indexes task.table (db task.table.tree) new found
      → ¬ Meets task (Upserts task Abort new db []) new db (record { target = target; update = None }) found (Err stop)
  met [] stop none h = puts (λ r has. elim (cases_Bool (conflicts target task.schema.indexes task.table new r)) [ inl hit ↦ absurd (none.complete r has hit) | inr miss ↦ miss ]) stop (cleared h.0 stop h.2)
  met (there ∷ more) stop some h = no_stop h

  judged : (verdict : Option Refusal) (stop : Option Error) → IsJudged task.table new verdict → ¬ Judged task Abort clauses new db verdict (Err stop)
  judged None stop it h = met h.0 stop h.1 h.2
  judged (Some why) stop it h = not_judged why it

  pub never_tried : (stop : Option Error) → ¬ Tries task Abort clauses new db (Err stop)
  never_tried stop (inl refused) = never_so well.fits refused.0
  never_tried stop (inr it) = judged it.0 stop it.1 it.2

-- ---- a rate or an extension

module _ (place : ℕ) (name : List ℕ) (tree : ℕ) (known : IsRateTable place name tree) (others : Schema) (them : AreOthers others) (db : Trees) (m : FinMap nat_cmp ℕ) (stands : HoldsMap rate_columns (db tree) m) (unique : Keeps Unique (with_others others) db) (n : ℕ) (low : n < 2 ^ 63) (x : ℕ) where
  abbrev rate_row : Row
  rate_row = row_of rate_columns (pos n, (n, x))

  abbrev rate_edit : List Row → Edit
  rate_edit news = record { table = rate_table name tree; gone = []; news = news }

  abbrev rate_task : Task
  rate_task = task_on others (rate_table name tree) (given_rate n x)

  agrees : (r : Row) (e : ℕ × ℕ) → ReadAlike r (row_of rate_columns (pos e.0, e)) → agree plain (0 ∷ []) r (0 ∷ []) rate_row ≡ tied nat_cmp nat_cmp_total n e
  unfolding binary first_key
  agrees r e one = rw (one 0, equals_holds e.0 n) (and-true _)

  -- a rowid that conflicts with none is new
  rate_fresh : ((r : Row) → Has (db tree) r → conflicts (Some (0 ∷ [])) (with_others others).indexes (rate_table name tree) rate_row r ≡ false) → is_taken (db tree) rate_row ≡ false
  rate_fresh none =
      let are = keyed_rows rate_columns (db tree) stands.table.numbered stands.keyed stands.table.are in
      any_alike (λ e. row_of rate_columns (pos e.0, e)) (λ r. is_eq (value_cmp (rowid r) (Int (pos n)))) (tied nat_cmp nat_cmp_total n) (λ r e one. rw (one 0) (ap is_eq (cmp_pos e.0 n) ∙ turned_test e.0 n)) (db tree) _ are
      ∙ sym (any_alike (λ e. row_of rate_columns (pos e.0, e)) (λ r. agree plain (0 ∷ []) r (0 ∷ []) rate_row) (tied nat_cmp nat_cmp_total n) agrees (db tree) _ are)
      ∙ any_from_none _ (db tree) (all_from (λ r. agree plain (0 ∷ []) r (0 ∷ []) rate_row ≡ false) (db tree) (λ r has. sym (rates_conflict place name tree known others them rate_row r) ∙ none r has))

  rate_allowed : is_taken (db tree) rate_row ≡ false → IsAllowed (with_others others) Enforced db (rate_edit (rate_row ∷ []))
  rate_allowed fresh = record {
    typed = refl;
    present = refl;
    checked = refl;
    fresh = ap (λ b. not b && true) fresh;
    unique = unique_beside others them db tree known.low (edited db (rate_edit (rate_row ∷ []))) unique known.unindexed.0 known.unindexed.1.1.1.0 known.unindexed.1.1.1.1.1.0;
    keyed = refl;
    fits = number_fits n low;
    referred = refl;
    acts = no_acts others them Enforced db (rate_edit (rate_row ∷ []));
    small = one_fits (with_others others) (rate_table name tree) rate_row (bare_storable rate_row refl (omega arith) (omega arith), omega arith) (
      λ e. absurd (known.unindexed.0 e),
      (λ e. absurd (known.unindexed.1.0 e), (λ e. absurd (known.unindexed.1.1.0 e), (λ e. absurd (known.unindexed.1.1.1.0 e), (λ e. absurd (known.unindexed.1.1.1.1.0 e), (λ e. absurd (known.unindexed.1.1.1.1.1.0 e), unindexed others them tree known.low _))))),
    );
  }

  rate_puts : ((r : Row) → Has (db tree) r → conflicts (Some (0 ∷ [])) (with_others others).indexes (rate_table name tree) rate_row r ≡ false) → (stop : Option Error) → ¬ Puts rate_task rate_row db (Err stop)
  rate_puts none stop h =
      let same : edit_of db (rate_table name tree) [] Given 0 (rate_row ∷ []) ≡ rate_edit (rate_row ∷ []) = ap rate_edit (rw (cast_null, cast_int n, cast_int x) refl) in
      let put = passed h (λ s e. never_edited (with_others others) Enforced db (rate_edit (rate_row ∷ [])) (rate_allowed (rate_fresh none)) s (subst (λ edit. Edited (with_others others) Enforced db edit (Err s)) same e)) in
      no_stop put.2

  rate_tried : (stop : Option Error) → ¬ Tries rate_task Abort (record { target = Some (0 ∷ []); update = None } ∷ []) rate_row db (Err stop)
  rate_tried = never_tried rate_task (Some (0 ∷ [])) rate_row db (record { fits = first_of_both _ _ (number_fits n low); keyed = refl; typed = refl; present = refl; checked = refl }) rate_puts

  rate_stays : NeverStops others db (given_rate n x) None (insert_rate place)
  rate_stays text stop h =
      let rules : List Upsert = record { target = Some (0 ∷ []); update = None } ∷ [] in
      let does = subst (λ at. AtPlace (λ table. OnRows (task_on others table (given_rate n x)) changing None (insert_rate place) db) at (Err stop)) (known.there others) h in
      let new_is : with_rowid Chosen (db tree) (cast_row (rate_table name tree) (Int (pos n) ∷ Null ∷ Int (pos x) ∷ [])) ≡ rate_row = rw (cast_null, cast_int n, cast_int x) refl in
      let written = passed does (λ s w.
      let given = passed w (never_sourced (record { schema = (with_others others); trees = db }) (given_rate n x) (Values (col 0 0 ∷ lit Null ∷ col 0 1 ∷ []) 3) (λ e r. never_source never_false r)) in
      let counter = passed given.2 (λ s e. no_stop e) in
      let each = passed counter.2 (λ s e.
      let one = passed (subst (λ sources. TriesEach rate_task Abort rules sources (count_of counter.0) (nothing db) (Err s)) given.1.1 e) (λ s t. rate_tried s (subst (λ r. Tries rate_task Abort rules r db (Err s)) new_is t)) in
      no_stop one.2) in
      let counted = passed each.2 (λ s e. no_stop e) in
      no_stop counted.2) in
      never_concluded others them (rate_table name tree) (given_rate n x) written.0 stop written.2

module _ (others : Schema) (them : AreOthers others) (db : Trees) (rows : Rows) (stands : Holds db rows) (unique : Keeps Unique (with_others others) db) (n : ℕ) (low : n < 2 ^ 63) (x : ℕ) where
  pub add_rate_stays : NeverStops others db (given_rate n x) None (insert_rate 1)
  add_rate_stays = rate_stays 1 (codes "rates") 1 rates_are others them db rows.rates stands.rates unique n low x

  pub add_extension_stays : NeverStops others db (given_rate n x) None (insert_rate 6)
  add_extension_stays = rate_stays 6 (codes "extensions") 12 extensions_are others them db rows.extensions stands.extensions unique n low x

-- ---- a bond

module _ (others : Schema) (them : AreOthers others) (db : Trees) (rows : Rows) (stands : Holds db rows) (unique : Keeps Unique (with_others others) db) (room : Rises 1 1 (db 2)) (k : ℕ × ℕ) (bond : BondRow) where
  abbrev id : ℤ
  id = next_rowid (db 2)

  abbrev given_with : Option ℕ → Row
  given_with o = Int (pos k.0) ∷ Int (pos k.1) ∷ Int (pos bond.denom) ∷ Int (pos bond.issued) ∷ Int (pos bond.owner) ∷ optional o ∷ []

  abbrev row_with : Option ℕ → Row
  row_with o = Int id ∷ Int (pos k.0) ∷ Int (pos k.1) ∷ Int (pos bond.denom) ∷ Int (pos bond.issued) ∷ Int (pos bond.owner) ∷ optional o ∷ Null ∷ []

  abbrev bond_row : Row
  bond_row = row_with bond.coowner

  abbrev bond_edit : List Row → Edit
  bond_edit news = record { table = bonds; gone = []; news = news }

  abbrev bond_task : Task
  bond_task = task_on others bonds (given_with bond.coowner)

  next : HasNext 1 1 (db 2)
  next = has_next 1 1 (db 2) room

  bond_typed : (o : Option ℕ) → (list_all (passes Datatype (with_others others) db bonds) (row_with o ∷ []) ≡ true) × (is_typed bonds (row_with o) ≡ true) × (list_all is_bare (row_with o) ≡ true)
  bond_typed None = (refl, refl, refl)
  bond_typed (Some n) = (refl, refl, refl)

  bond_given : (o : Option ℕ) (e : Error) → ¬ RefusesSource None (record { schema = (with_others others); trees = db }) (given_with o) (Values (lit Null ∷ col 0 0 ∷ col 0 1 ∷ col 0 2 ∷ col 0 3 ∷ col 0 4 ∷ col 0 5 ∷ lit Null ∷ []) 8) e
  bond_given None e r = never_source never_false r
  bond_given (Some n) e r = never_source never_false r

  turned : (r : Row) (p : ℤ × ((ℕ × ℕ) × BondRow)) → ReadAlike r (stored bond_columns p) → (agree plain (1 ∷ 2 ∷ []) r (1 ∷ 2 ∷ []) bond_row || false) ≡ false → IsOther (1 ∷ 2 ∷ []) bond_row (db 2) r
  unfolding binary first_key
  turned r p one apart =
      let is : agree plain (1 ∷ 2 ∷ []) r (1 ∷ 2 ∷ []) bond_row ≡ (is_eq (nat_cmp k.0 p.1.0.0) && (is_eq (nat_cmp k.1 p.1.0.1) && true)) = rw (one 1, one 2, equals_holds p.1.0.0 k.0, equals_holds p.1.0.1 k.1) refl in
      let unlike = neither_one _ apart in
      let h = sym is ∙ unlike in
      (unlike, rw (one 1, one 2, equals_holds k.0 p.1.0.0, equals_holds k.1 p.1.0.1, turned_test p.1.0.0 k.0, turned_test p.1.0.1 k.1) h)
    where
      neither_one : (b : Bool) → (b || false) ≡ false → b ≡ false
      neither_one true h = h
      neither_one false h = h

  all_other : ((r : Row) → Has (db 2) r → conflicts (Some (1 ∷ 2 ∷ [])) (with_others others).indexes bonds bond_row r ≡ false) → AllByRecursion (IsOther (1 ∷ 2 ∷ []) bond_row (db 2)) (db 2)
  all_other none =
      alike_both (stored bond_columns) (λ r. (agree plain (1 ∷ 2 ∷ []) r (1 ∷ 2 ∷ []) bond_row || false) ≡ false) (IsOther (1 ∷ 2 ∷ []) bond_row (db 2)) turned (db 2) stands.bonds.numbered stands.bonds.are
      (all_from (λ r. (agree plain (1 ∷ 2 ∷ []) r (1 ∷ 2 ∷ []) bond_row || false) ≡ false) (db 2) (λ r has. sym (ap (λ b. agree plain (1 ∷ 2 ∷ []) r (1 ∷ 2 ∷ []) bond_row || b) (unshared others them (Some (1 ∷ 2 ∷ [])) bonds (omega arith) bond_row r)) ∙ none r has))

  bond_allowed : AllByRecursion (IsOther (1 ∷ 2 ∷ []) bond_row (db 2)) (db 2) → IsAllowed (with_others others) Enforced db (bond_edit (bond_row ∷ []))
  bond_allowed apart = record {
    typed = (bond_typed bond.coowner).0;
    present = refl;
    checked = refl;
    fresh = ap (λ b. not b && true) (next.fresh bond_row (ap Int next.next));
    unique = all_unique others them db 2 (omega arith) (edited db (bond_edit (bond_row ∷ []))) unique (bonds_unique others them (with_tree db 2 (edited db (bond_edit (bond_row ∷ []))))
        (put_apart (1 ∷ 2 ∷ []) bond_row (db 2) (same_rowid id) apart (bonds_apart others db unique.1.1.0))) unique.1.1.1.1.0 unique.1.1.1.1.1.1.1.0;
    keyed = refl;
    fits = ap (λ i. fits_i64 i && true) next.next ∙ number_fits next.top (omega (arith, next.room));
    referred = refl;
    acts = no_acts others them Enforced db (bond_edit (bond_row ∷ []));
    small = one_fits (with_others others) bonds bond_row (bare_storable bond_row (bond_typed bond.coowner).2 (omega arith) (omega arith), omega arith) (
      λ e. bare_storable (Int (pos k.0) ∷ Int (pos k.1) ∷ Int id ∷ []) refl (omega arith) (omega arith),
      (
        λ e. bare_storable (Int (pos bond.owner) ∷ Int (pos k.0) ∷ Int (pos k.1) ∷ Int id ∷ []) refl (omega arith) (omega arith),
        (λ e. absurd (omega (arith, e)), (λ e. absurd (omega (arith, e)), (λ e. absurd (omega (arith, e)), (λ e. absurd (omega (arith, e)), unindexed others them 2 (omega arith) _)))),
      ),
    );
  }

  bond_puts : ((r : Row) → Has (db 2) r → conflicts (Some (1 ∷ 2 ∷ [])) (with_others others).indexes bonds bond_row r ≡ false) → (stop : Option Error) → ¬ Puts bond_task bond_row db (Err stop)
  bond_puts none stop h =
      let same : edit_of db bonds [] Given 0 (bond_row ∷ []) ≡ bond_edit (bond_row ∷ []) =
      ap bond_edit (rw (cast_null, cast_integer id, cast_int k.0, cast_int k.1, cast_int bond.denom, cast_int bond.issued, cast_int bond.owner, cast_optional bond.coowner) refl) in
      let put = passed h (λ s e. never_edited (with_others others) Enforced db (bond_edit (bond_row ∷ [])) (bond_allowed (all_other none)) s (subst (λ edit. Edited (with_others others) Enforced db edit (Err s)) same e)) in
      no_stop put.2

  bond_tried : (stop : Option Error) → ¬ Tries bond_task Abort (record { target = Some (1 ∷ 2 ∷ []); update = None } ∷ []) bond_row db (Err stop)
  bond_tried =
      never_tried bond_task (Some (1 ∷ 2 ∷ [])) bond_row db
      (record { fits = ap fits_i64 next.next ∙ first_of_both _ _ (number_fits next.top (omega (arith, next.room))); keyed = refl; typed = (bond_typed bond.coowner).1; present = refl; checked = refl }) bond_puts

  pub add_bond_stays : NeverStops others db (given_with bond.coowner) None (InsertOr 2 Abort (Values (lit Null ∷ col 0 0 ∷ col 0 1 ∷ col 0 2 ∷ col 0 3 ∷ col 0 4 ∷ col 0 5 ∷ lit Null ∷ []) 8) (record { target = Some (1 ∷ 2 ∷ []); update = None } ∷ []))
  add_bond_stays text stop h =
      let rules : List Upsert = record { target = Some (1 ∷ 2 ∷ []); update = None } ∷ [] in
      let new_is : with_rowid Chosen (db 2) (cast_row bonds (Null ∷ given_with bond.coowner ++ Null ∷ [])) ≡ bond_row = rw (cast_null, cast_int k.0, cast_int k.1, cast_int bond.denom, cast_int bond.issued, cast_int bond.owner, cast_optional bond.coowner) refl in
      let written = passed h (λ s w.
      let given = passed w (never_sourced (record { schema = (with_others others); trees = db }) (given_with bond.coowner) (Values (lit Null ∷ col 0 0 ∷ col 0 1 ∷ col 0 2 ∷ col 0 3 ∷ col 0 4 ∷ col 0 5 ∷ lit Null ∷ []) 8) (bond_given bond.coowner)) in
      let counter = passed given.2 (λ s e. no_stop e) in
      let each = passed counter.2 (λ s e.
      let one = passed (subst (λ sources. TriesEach bond_task Abort rules sources (count_of counter.0) (nothing db) (Err s)) given.1.1 e) (λ s t. bond_tried s (subst (λ r. Tries bond_task Abort rules r db (Err s)) new_is t)) in
      no_stop one.2) in
      let counted = passed each.2 (λ s e. no_stop e) in
      no_stop counted.2) in
      never_concluded others them bonds (given_with bond.coowner) written.0 stop written.2
