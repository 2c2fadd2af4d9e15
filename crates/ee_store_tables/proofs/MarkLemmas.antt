-- What marking a bond as paid does.
use Rattle.std.proofs.Common.{◌≡◌, ℕ, ℤ, pos, List, [], ◌∷◌, filter, true, false, Some, None, Option, Ok, refl, sym, ap, subst, ◌∙◌, arith}
use Rattle.std.specs.Option.{option_to_list}
use Rattle.std.specs.Prelude.{option_map}
use Rattle.std.specs.FinMap.{get, insert}
use Rattle.sqlite.specs.declared.types.Value.TheVariants.{Null, Int}
use Rattle.sqlite.specs.Order.{Row, value_cmp}
use Rattle.sqlite.specs.Command.TheVariants.{Update}
use Rattle.sqlite.specs.Query.{IsAnswer}
use Rattle.sqlite.specs.Program.{overlay}
use Rattle.sqlite.specs.Edit.{Edit, edit_of, edited}
use Rattle.sqlite_rules.specs.Edit.{is_taken, are_fresh, left_by}
use Rattle.sqlite_rules.specs.Calls.{ids_of}
use Rattle.sqlite.specs.Rowids.TheVariants.{Given}
use Rattle.sqlite.specs.Does.{Tally, Does}
use Rattle.sqlite.specs.Rows.{Written}
use Rattle.sqlite.specs.Tree.{Trees, has_rowid, without_rowid}
use Rattle.sqlite.specs.Effect.{Database, IsDatabase}
use Rattle.sqlite.specs.Listing.{understood}
use Rattle.sqlite.specs.State.{State, mode_of, Executes}
use Rattle.sqlite.proofs.Callers.{statement_of}
use Rattle.ee_store_tables.specs.Tables.{bonds, HasCounterTables, with_others, others_in}
use Rattle.ee_store_tables.specs.Keyed.{stored, ReadAlike, HoldsPairs}
use Rattle.ee_store_tables.specs.Rows.{BondRow, bond_columns, Rows, Holds, marked, marked_as, Rises}
use Rattle.ee_store_tables.proofs.Meaning.{mark_bond_text, mark_bond_query, mark_bond_is, mark_bond_plain}
use Rattle.ee_store_tables.proofs.PairLemmas.{alike_itself, any_alike}
use Rattle.ee_store_tables.proofs.HoldsLemmas.{pair_total, pair_same, has_key, hit_row, any_hit, no_row, replaces_row}
use Rattle.ee_store_tables.proofs.RoomLemmas.{rises_again}
use Rattle.std.specs.List.{list_any}
use Rattle.std.specs.Ordering.{is_eq, int_eq}
use Rattle.std.specs.Cmp.{tied_itself}
use Rattle.std.proofs.lemmas.Cmp.{int_cmp_total}
use Rattle.sqlite_value.proofs.OrderLemmas.{value_cmp-Int}
use Rattle.ee_store_tables.proofs.ReadLemmas.{found_by_pair}
use Rattle.ee_store_tables.proofs.BondLemmas.{Stored, key_params}
use Rattle.ee_store_tables.proofs.WriteLemmas.{cast_int, cast_integer, cast_optional, went, same_value, fresh_one, Same, with_bonds}
use Rattle.ee_store_tables.proofs.OtherLemmas.{one_write, Follows, AllButOne, follows, same_ours}
use Rattle.ee_store_tables.proofs.OurLemmas.{runs_ours}

abbrev mark_row : Stored → ℕ → Row
mark_row p t = Int p.0 ∷ Int p.0 ∷ Int (pos p.1.0.0) ∷ Int (pos p.1.0.1) ∷ bond_columns (record p.1.1 { ticket = Some t })

abbrev mark_params : ℕ × ℕ → ℕ → Row
mark_params k t = key_params k (Int (pos t) ∷ [])

module _ (k : ℕ × ℕ) (t : ℕ) (db : Trees) (rows : Rows) (stands : Holds db rows) (asked : List Row) (a : IsAnswer mark_bond_query (overlay db []) (mark_params k t) asked) where
  shows : (r : Row) (p : Stored) → ReadAlike r (stored bond_columns p) → Rattle.sqlite_sql.specs.Term.eval_all mark_bond_query.project (mark_params k t ∷ r ∷ []) ≡ mark_row p t
  shows r p one = rw (one 0, one 1, one 2, one 3, one 4, one 5, one 6) refl

  answered : (o : Option Stored) → filter (has_key pair_total pair_same (stored bond_columns) (λ _. refl) k (db 2) rows.bonds stands.bonds) stands.bonds.numbered ≡ option_to_list o → asked ≡ option_to_list (option_map (λ p. mark_row p t) o)
  answered = found_by_pair bond_columns 2 mark_bond_query.project (λ p. mark_row p t) k (Int (pos t) ∷ []) shows db rows.bonds asked refl stands.bonds a

  abbrev pub mark_edit : List ℤ → List Row → Edit
  mark_edit gone news = record { table = bonds; gone = gone; news = news }

  -- the bond's row, under the rowid that it has
  abbrev pub marked_row : ℤ → BondRow → Row
  marked_row i x = stored bond_columns (i, (k, record x { ticket = Some t }))

  -- what is written is nothing, or one row in place of another
  pub marks_none : get rows.bonds k ≡ None → edit_of db bonds (ids_of asked) Given 1 asked ≡ mark_edit [] []
  marks_none is = ap (λ all. edit_of db bonds (ids_of all) Given 1 all) (answered None (no_row pair_total pair_same (stored bond_columns) (λ _. refl) k (db 2) rows.bonds stands.bonds is))

  pub marks_one : (x : BondRow) (i : ℤ) → filter (has_key pair_total pair_same (stored bond_columns) (λ _. refl) k (db 2) rows.bonds stands.bonds) stands.bonds.numbered ≡ (i, (k, x)) ∷ []
      → edit_of db bonds (ids_of asked) Given 1 asked ≡ mark_edit (i ∷ []) (marked_row i x ∷ [])
  marks_one x i one =
      ap (λ all. edit_of db bonds (ids_of all) Given 1 all) (answered (Some (i, (k, x))) one)
      ∙ ap (mark_edit (i ∷ [])) (rw (cast_integer i, cast_int k.0, cast_int k.1, cast_int x.denom, cast_int x.issued, cast_int x.owner, cast_optional x.coowner, cast_int t) refl)

-- if the bond is registered
pub bond_there : (k : ℕ × ℕ) (db : Trees) (rows : Rows) (stands : Holds db rows) (x : BondRow) → get rows.bonds k ≡ Some x
    → (i : ℤ) × (filter (has_key pair_total pair_same (stored bond_columns) (λ _. refl) k (db 2) rows.bonds stands.bonds) stands.bonds.numbered ≡ (i, (k, x)) ∷ [])
bond_there k db rows stands x is = hit_row pair_total pair_same (stored bond_columns) (λ _. refl) k (db 2) rows.bonds stands.bonds x is

pub bond_has_rowid : (k : ℕ × ℕ) (db : Trees) (rows : Rows) (stands : Holds db rows) (x : BondRow) (i : ℤ)
    → filter (has_key pair_total pair_same (stored bond_columns) (λ _. refl) k (db 2) rows.bonds stands.bonds) stands.bonds.numbered ≡ (i, (k, x)) ∷ [] → list_any (has_rowid i) (db 2) ≡ true
bond_has_rowid k db rows stands x i one =
    any_alike (stored bond_columns) (has_rowid i) (λ (q : Stored). int_eq q.0 i) (λ r q alike. ap is_eq (ap (λ v. value_cmp v (Int i)) (alike 0) ∙ value_cmp-Int q.0 i)) (db 2) stands.bonds.numbered stands.bonds.are
    ∙ any_hit (has_key pair_total pair_same (stored bond_columns) (λ _. refl) k (db 2) rows.bonds stands.bonds) (λ (q : Stored). int_eq q.0 i) (i, (k, x)) stands.bonds.numbered one (ap is_eq (tied_itself int_cmp_total i))

module _ (k : ℕ × ℕ) (t : ℕ) (db new : Trees) (rows : Rows) (stands : Holds db rows) (same : Same 2 db new) (asked : List Row) (a : IsAnswer mark_bond_query (overlay db []) (mark_params k t) asked)
    (put : new 2 ≡ edited db (edit_of db bonds (ids_of asked) Given 1 asked))
    (fresh : are_fresh (left_by db (edit_of db bonds (ids_of asked) Given 1 asked)) (edit_of db bonds (ids_of asked) Given 1 asked).news ≡ true) where
  pub marked_holds : (o : Option BondRow) → get rows.bonds k ≡ o → Holds new (marked_as rows k t o)
  marked_holds None is = with_bonds db new rows stands rows.bonds same (subst (λ rs. HoldsPairs bond_columns rs rows.bonds) (sym (put ∙ ap (edited db) (marks_none k t db rows stands asked a is))) stands.bonds)
  marked_holds (Some x) is =
      let one = bond_there k db rows stands x is in
      let next = record x { ticket = Some t } in
      let row = stored bond_columns (one.0, (k, next)) in
      let is_edit = marks_one k t db rows stands asked a x one.0 one.1 in
      let free : is_taken (without_rowid one.0 (db 2)) row ≡ false = fresh_one _ (subst (λ (e : Edit). are_fresh (left_by db e) e.news ≡ true) is_edit fresh) in
      with_bonds db new rows stands (insert rows.bonds k next) same
      (subst (λ rs. HoldsPairs bond_columns rs (insert rows.bonds k next)) (sym (put ∙ ap (edited db) is_edit))
      (replaces_row pair_total pair_same (stored bond_columns) (λ _. refl) k (db 2) rows.bonds stands.bonds row x next one.0 one.1 (alike_itself row) free))

  -- the rowids stay
  pub marked_rises : (n : ℕ) → Rises 1 n (db 2) → (o : Option BondRow) → get rows.bonds k ≡ o → Rises 1 n (new 2)
  marked_rises n room None is = subst (Rises 1 n) (sym (put ∙ ap (edited db) (marks_none k t db rows stands asked a is))) room
  marked_rises n room (Some x) is =
      let one = bond_there k db rows stands x is in
      subst (Rises 1 n) (sym (put ∙ ap (edited db) (marks_one k t db rows stands asked a x one.0 one.1)))
      (rises_again n one.0 (stored bond_columns (one.0, (k, record x { ticket = Some t }))) refl (db 2) room (bond_has_rowid k db rows stands x one.0 one.1))

pub marks : (old new : State) (k : ℕ × ℕ) (t : ℕ) (count : ℕ) → HasCounterTables old.now.schema → Executes mark_bond_text (key_params k (Int (pos t) ∷ [])) old new (Ok count)
    → Follows old.now new.now × ((rows : Rows) → Holds old.now.trees rows → Holds new.now.trees (marked rows k t)) × IsDatabase new.now × Same 2 old.now.trees new.now.trees
    × ((rows : Rows) → Holds old.now.trees rows → (n : ℕ) → Rises 1 n (old.now.trees 2) → Rises 1 n (new.now.trees 2))
marks old new k t count has h =
    let params = key_params k (Int (pos t) ∷ []) in
    let db = old.now.trees in
    let command = Update 2 (record { lets = []; body = mark_bond_query }) in
    let w = runs_ours mark_bond_text params old new has command mark_bond_is mark_bond_plain count h in
    let text = statement_of mark_bond_text (understood (with_others (others_in old.now.schema)) mark_bond_text) in
    let done = went (subst (λ s. Does old.step_limit (mode_of old) params (record old.now { schema = s }) text None command (Ok (w.tally, new.now))) has.ours w.changed) in
    let now = ap (λ (p : Tally × Database). p.1) (same_value (went (went done.2).2).2) in
    let asked = went done.1 in
    let written = went asked.2 in
    let trees : done.0.trees ≡ written.0 = ap (λ (it : Written). it.trees) (same_value written.2) in
    let a : IsAnswer mark_bond_query (overlay db []) params asked.0 = asked.1.answer Null in
    let edit = edit_of db bonds (ids_of asked.0) Given 1 asked.0 in
    let applied = one_write (others_in old.now.schema) has.others _ db written.0 edit written.1 in
    let after : new.now.trees ≡ written.0 = ap (λ (d : Database). d.trees) now ∙ trees in
    let put = ap (λ (trees : Trees). trees 2) after ∙ applied.rows in
    let kept : AllButOne (others_in old.now.schema) 2 db new.now.trees = subst (AllButOne (others_in old.now.schema) 2 db) (sym after) applied.tables in
    let same : Same 2 db new.now.trees = same_ours (others_in old.now.schema) 2 db new.now.trees kept in (
      follows old.now new.now has 2 (omega arith) (ap (λ (d : Database). d.schema) now) kept,
      λ rows stands. marked_holds k t db new.now.trees rows stands same asked.0 a put applied.fresh (get rows.bonds k) refl,
      w.sound,
      same,
      λ rows stands n room. marked_rises k t db new.now.trees rows stands same asked.0 a put applied.fresh n room (get rows.bonds k) refl,
    )
