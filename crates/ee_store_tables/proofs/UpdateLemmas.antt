-- Why an update is not refused.
use Rattle.std.proofs.Common.{◌≡◌, ℕ, ℤ, pos, List, [], ◌∷◌, filter, Bool, true, not, None, Some, Option, Err, refl, ap, subst, ◌∙◌, arith}
use Rattle.std.specs.Prelude.{◌&&◌}
use Rattle.std.specs.List.{AllByRecursion, list_all}
use Rattle.std.specs.FinMap.{get}
use Rattle.std.proofs.lemmas.List.Elements.{filter_passes, recursion_from_All}
use Rattle.sqlite.specs.declared.types.Value.TheVariants.{Null, Int}
use Rattle.sqlite.specs.declared.error.Error.{Error}
use Rattle.sqlite.specs.Order.{Row}
use Rattle.sqlite.specs.Query.{IsAnswer}
use Rattle.sqlite.specs.Program.{overlay}
use Rattle.sqlite.specs.Tree.{Trees, has_rowid, without_rowid, with_tree}
use Rattle.sqlite.specs.Command.TheVariants.{Update}
use Rattle.sqlite.specs.Rows.{Edited}
use Rattle.sqlite.specs.Effect.{RefusesQuery}
use Rattle.sqlite_rules.specs.Edit.{Edit, edit_of, edited}
use Rattle.sqlite_rules.specs.Calls.{ids_of}
use Rattle.sqlite.specs.Rowids.TheVariants.{Given}
use Rattle.sqlite_sql.specs.Ops.{fits_i64}
use Rattle.sqlite_schema.specs.declared.schema.Keys.TheVariants.{Enforced}
use Rattle.sqlite_schema.specs.declared.schema.Constraint.TheVariants.{Datatype, Unique}
use Rattle.sqlite_schema.specs.Rules.{Keeps, passes}
use Rattle.sqlite.specs.Schema.{Schema}
use Rattle.ee_store_tables.specs.Tables.{desk, bonds, with_others, AreOthers}
use Rattle.ee_store_tables.specs.Rows.{Rows, Holds, DeskRow, BondRow, optional, Rises, bond_columns}
use Rattle.ee_store_tables.proofs.Meaning.{set_day_query, set_version_query, mark_bond_query}
use Rattle.ee_store_tables.proofs.DeskLemmas.{given_days, sets_none, sets_one}
use Rattle.ee_store_tables.proofs.VersionLemmas.{given_version, version_row, version_none, version_one}
use Rattle.sqlite_keyed.proofs.RuleLemmas.{first_of_both}
use Rattle.sqlite_keyed.proofs.ListLemmas.{all_weaker}
use Rattle.ee_store_tables.specs.Keyed.{stored, AreRows}
use Rattle.ee_store_tables.proofs.PairLemmas.{without_numbered, others_fail}
use Rattle.ee_store_tables.proofs.HoldsLemmas.{pair_total, pair_same, has_key}
use Rattle.ee_store_tables.proofs.BondLemmas.{key_params}
use Rattle.ee_store_tables.proofs.WriteLemmas.{not_so}
use Rattle.ee_store_tables.proofs.MarkLemmas.{marks_none, marks_one, bond_there, bond_has_rowid}
use Rattle.ee_store_tables.proofs.RoomLemmas.{whole_rowid}
use Rattle.ee_store_tables.proofs.KeyLemmas.{IsOther, put_apart, same_rowid, left_apart, bonds_apart, bonds_unique, other_key, all_alike, untied_differs}
use Rattle.ee_store_tables.proofs.CauseLemmas.{NeverStops, never_false, never_refused, no_sums}
use Rattle.ee_store_tables.proofs.RefusalLemmas.{passed, no_stop, never_queried, IsAllowed, never_edited, is_bare, bare_storable, one_fits, never_concluded, all_unique, number_fits, taken_out}
use Rattle.ee_store_tables.proofs.OtherLemmas.{no_acts, referred, unindexed}

module _ (day last_day : Option ℕ) (others : Schema) (them : AreOthers others) (db : Trees) (rows : Rows) (stands : Holds db rows) (unique : Keeps Unique (with_others others) db) where
  day_asked : (day last_day : Option ℕ) (e : Error) → ¬ RefusesQuery None (record { schema = (with_others others); trees = db }) (record { lets = []; body = set_day_query }) (given_days day last_day) e
  day_asked None None e r = never_refused never_false (no_sums _) r
  day_asked None (Some n) e r = never_refused never_false (no_sums _) r
  day_asked (Some m) None e r = never_refused never_false (no_sums _) r
  day_asked (Some m) (Some n) e r = never_refused never_false (no_sums _) r

  abbrev edit_to : List ℤ → List Row → Edit
  edit_to gone news = record { table = desk; gone = gone; news = news }

  abbrev row_with : ℕ → Option ℕ → Option ℕ → Row
  row_with version day last_day = Int (pos 1) ∷ Null ∷ Int (pos version) ∷ optional day ∷ optional last_day ∷ []

  day_typed : (version : ℕ) (day last_day : Option ℕ) → (list_all (passes Datatype (with_others others) db desk) (row_with version day last_day ∷ []) ≡ true) × (list_all is_bare (row_with version day last_day) ≡ true)
  day_typed version None None = (refl, refl)
  day_typed version None (Some n) = (refl, refl)
  day_typed version (Some m) None = (refl, refl)
  day_typed version (Some m) (Some n) = (refl, refl)

  none_allowed : IsAllowed (with_others others) Enforced db (edit_to [] [])
  none_allowed = record {
    typed = refl;
    present = refl;
    checked = refl;
    fresh = refl;
    unique = all_unique others them db 0 (omega arith) (edited db (edit_to [] [])) unique unique.1.1.0 unique.1.1.1.1.0 unique.1.1.1.1.1.1.1.0;
    keyed = refl;
    fits = refl;
    referred = refl;
    acts = no_acts others them Enforced db (edit_to [] []);
    small = λ row h. absurd h;
  }

  one_allowed : (version : ℕ) → IsAllowed (with_others others) Enforced db (edit_to (pos 1 ∷ []) (row_with version day last_day ∷ []))
  one_allowed version = record {
    typed = (day_typed version day last_day).0;
    present = refl;
    checked = refl;
    fresh = ap (λ b. not b && true) (taken_out (pos 1) (db 0) (row_with version day last_day) refl);
    unique = all_unique others them db 0 (omega arith) (edited db (edit_to (pos 1 ∷ []) (row_with version day last_day ∷ []))) unique unique.1.1.0 unique.1.1.1.1.0 unique.1.1.1.1.1.1.1.0;
    keyed = refl;
    fits = refl;
    referred = referred others them (edit_to (pos 1 ∷ []) (row_with version day last_day ∷ [])) refl;
    acts = no_acts others them Enforced db (edit_to (pos 1 ∷ []) (row_with version day last_day ∷ []));
    small = one_fits (with_others others) desk (row_with version day last_day) (bare_storable (row_with version day last_day) (day_typed version day last_day).1 (omega arith) (omega arith), omega arith)
        (λ e. absurd (omega (arith, e)), (λ e. absurd (omega (arith, e)), (λ e. absurd (omega (arith, e)), (λ e. absurd (omega (arith, e)), (λ e. absurd (omega (arith, e)), (λ e. absurd (omega (arith, e)), unindexed others them 0 (omega arith) _))))));
  }

  day_edited : (asked : List Row) (a : IsAnswer set_day_query (overlay db []) (given_days day last_day) asked) (stop : Option Error) (o : Option DeskRow) → get rows.desk 1 ≡ o
      → ¬ Edited (with_others others) Enforced db (edit_of db desk (ids_of asked) Given 1 asked) (Err stop)
  day_edited asked a stop None is h = never_edited (with_others others) Enforced db (edit_to [] []) none_allowed stop (subst (λ e. Edited (with_others others) Enforced db e (Err stop)) (sets_none day last_day db rows stands asked a is) h)
  day_edited asked a stop (Some d) is h =
      never_edited (with_others others) Enforced db (edit_to (pos 1 ∷ []) (row_with d.version day last_day ∷ [])) (one_allowed d.version) stop
      (subst (λ e. Edited (with_others others) Enforced db e (Err stop)) (sets_one day last_day db rows stands asked a d is) h)

  pub set_day_stays : NeverStops others db (given_days day last_day) None (Update 0 (record { lets = []; body = set_day_query }))
  set_day_stays text stop h =
      let written = passed h (λ s w.
      let asked = passed w (never_queried (record { schema = (with_others others); trees = db }) (record { lets = []; body = set_day_query }) (given_days day last_day) (day_asked day last_day)) in
      let edited = passed asked.2 (λ s e. day_edited asked.0 (asked.1.answer Null) s (get rows.desk 1) refl e) in
      no_stop edited.2) in
      never_concluded others them desk (given_days day last_day) written.0 stop written.2

-- ---- the version

module _ (version : ℕ) (others : Schema) (them : AreOthers others) (db : Trees) (rows : Rows) (stands : Holds db rows) (unique : Keeps Unique (with_others others) db) where
  version_edited : (asked : List Row) (a : IsAnswer set_version_query (overlay db []) (given_version version) asked) (stop : Option Error) (o : Option DeskRow) → get rows.desk 1 ≡ o
      → ¬ Edited (with_others others) Enforced db (edit_of db desk (ids_of asked) Given 1 asked) (Err stop)
  version_edited asked a stop None is h =
      never_edited (with_others others) Enforced db (edit_to None None others them db rows stands unique [] []) (none_allowed None None others them db rows stands unique) stop (subst (λ e. Edited (with_others others) Enforced db e (Err stop)) (version_none version db rows stands asked a is) h)
  version_edited asked a stop (Some d) is h =
      never_edited (with_others others) Enforced db (edit_to d.day d.last_day others them db rows stands unique (pos 1 ∷ []) (version_row version db rows stands asked a d ∷ [])) (one_allowed d.day d.last_day others them db rows stands unique version) stop
      (subst (λ e. Edited (with_others others) Enforced db e (Err stop)) (version_one version db rows stands asked a d is) h)

  pub set_version_stays : NeverStops others db (given_version version) None (Update 0 (record { lets = []; body = set_version_query }))
  set_version_stays text stop h =
      let written = passed h (λ s w.
      let asked = passed w (never_queried (record { schema = (with_others others); trees = db }) (record { lets = []; body = set_version_query }) (given_version version) (λ e r. never_refused never_false (no_sums _) r)) in
      let edited = passed asked.2 (λ s e. version_edited asked.0 (asked.1.answer Null) s (get rows.desk 1) refl e) in
      no_stop edited.2) in
      never_concluded others them desk (given_version version) written.0 stop written.2

-- ---- a bond that is marked

module _ (k : ℕ × ℕ) (t : ℕ) (others : Schema) (them : AreOthers others) (db : Trees) (rows : Rows) (stands : Holds db rows) (unique : Keeps Unique (with_others others) db) (room : Rises 1 0 (db 2)) where
  abbrev given_mark : Row
  given_mark = key_params k (Int (pos t) ∷ [])

  abbrev edit_of_bonds : List ℤ → List Row → Edit
  edit_of_bonds gone news = record { table = bonds; gone = gone; news = news }

  abbrev mark_with : ℤ → BondRow → Option ℕ → Row
  mark_with i x o = Int i ∷ Int (pos k.0) ∷ Int (pos k.1) ∷ Int (pos x.denom) ∷ Int (pos x.issued) ∷ Int (pos x.owner) ∷ optional o ∷ Int (pos t) ∷ []

  mark_typed : (i : ℤ) (x : BondRow) (o : Option ℕ) → (list_all (passes Datatype (with_others others) db bonds) (mark_with i x o ∷ []) ≡ true) × (list_all is_bare (mark_with i x o) ≡ true)
  mark_typed i x None = (refl, refl)
  mark_typed i x (Some n) = (refl, refl)

  -- nothing is marked
  unmarked_allowed : IsAllowed (with_others others) Enforced db (edit_of_bonds [] [])
  unmarked_allowed = record {
    typed = refl;
    present = refl;
    checked = refl;
    fresh = refl;
    unique = all_unique others them db 2 (omega arith) (edited db (edit_of_bonds [] [])) unique unique.1.1.0 unique.1.1.1.1.0 unique.1.1.1.1.1.1.1.0;
    keyed = refl;
    fits = refl;
    referred = refl;
    acts = no_acts others them Enforced db (edit_of_bonds [] []);
    small = λ row h. absurd h;
  }

  module _ (x : BondRow) (i : ℤ) (one : filter (has_key pair_total pair_same (stored bond_columns) (λ _. refl) k (db 2) rows.bonds stands.bonds) stands.bonds.numbered ≡ (i, (k, x)) ∷ []) where
    abbrev new_row : Row
    new_row = mark_with i x x.coowner

    abbrev hits : ℤ × ((ℕ × ℕ) × BondRow) → Bool
    hits = has_key pair_total pair_same (stored bond_columns) (λ _. refl) k (db 2) rows.bonds stands.bonds

    left_are : AreRows (stored bond_columns) (without_rowid i (db 2)) (filter (λ p. not (hits p)) stands.bonds.numbered)
    left_are =
        subst (AreRows (stored bond_columns) (without_rowid i (db 2))) (others_fail hits (i, (k, x)) stands.bonds.numbered stands.bonds.apart one) (without_numbered (stored bond_columns) (λ _. refl) i (db 2) stands.bonds.numbered stands.bonds.are)

    left_other : AllByRecursion (λ p. ¬ ((p.1.0.0 ≡ k.0) × (p.1.0.1 ≡ k.1))) (filter (λ p. not (hits p)) stands.bonds.numbered)
    left_other = all_weaker (λ p. not (hits p) ≡ true) (λ p. ¬ ((p.1.0.0 ≡ k.0) × (p.1.0.1 ≡ k.1))) (λ p miss same. untied_differs k p.1.0 (not_so _ miss) same) _ (recursion_from_All _ _ (filter_passes (λ p. not (hits p)) stands.bonds.numbered))

    others_left : AllByRecursion (IsOther (1 ∷ 2 ∷ []) new_row (without_rowid i (db 2))) (without_rowid i (db 2))
    others_left = all_alike (stored bond_columns) (IsOther (1 ∷ 2 ∷ []) new_row (without_rowid i (db 2))) (λ p. ¬ ((p.1.0.0 ≡ k.0) × (p.1.0.1 ≡ k.1)))
        (λ r p alike apart. other_key 1 2 new_row r p.1.0.0 p.1.0.1 k.0 k.1 refl refl (alike 1) (alike 2) apart) (without_rowid i (db 2)) _ left_are left_other

    rowid_fits : fits_i64 i ≡ true
    rowid_fits = let it = whole_rowid 1 0 i (db 2) room (bond_has_rowid k db rows stands x i one) in ap fits_i64 it.1 ∙ first_of_both _ _ (number_fits it.0 it.2)

    marked_allowed : IsAllowed (with_others others) Enforced db (edit_of_bonds (i ∷ []) (new_row ∷ []))
    marked_allowed = record {
      typed = (mark_typed i x x.coowner).0;
      present = refl;
      checked = refl;
      fresh = ap (λ b. not b && true) (taken_out i (db 2) new_row refl);
      unique = all_unique others them db 2 (omega arith) (edited db (edit_of_bonds (i ∷ []) (new_row ∷ []))) unique (bonds_unique others them (with_tree db 2 (edited db (edit_of_bonds (i ∷ []) (new_row ∷ []))))
          (put_apart (1 ∷ 2 ∷ []) new_row (without_rowid i (db 2)) (same_rowid i) others_left (left_apart (1 ∷ 2 ∷ []) (λ r. not (has_rowid i r)) (db 2) (bonds_apart others db unique.1.1.0)))) unique.1.1.1.1.0 unique.1.1.1.1.1.1.1.0;
      keyed = refl;
      fits = ap (λ b. b && true) rowid_fits;
      referred = referred others them (edit_of_bonds (i ∷ []) (new_row ∷ [])) refl;
      acts = no_acts others them Enforced db (edit_of_bonds (i ∷ []) (new_row ∷ []));
      small = one_fits (with_others others) bonds new_row (bare_storable new_row (mark_typed i x x.coowner).1 (omega arith) (omega arith), omega arith) (
        λ e. bare_storable (Int (pos k.0) ∷ Int (pos k.1) ∷ Int i ∷ []) refl (omega arith) (omega arith),
        (
          λ e. bare_storable (Int (pos x.owner) ∷ Int (pos k.0) ∷ Int (pos k.1) ∷ Int i ∷ []) refl (omega arith) (omega arith),
          (λ e. absurd (omega (arith, e)), (λ e. absurd (omega (arith, e)), (λ e. absurd (omega (arith, e)), (λ e. absurd (omega (arith, e)), unindexed others them 2 (omega arith) _)))),
        ),
      );
    }

  mark_edited : (asked : List Row) (a : IsAnswer mark_bond_query (overlay db []) given_mark asked) (stop : Option Error) (o : Option BondRow) → get rows.bonds k ≡ o
      → ¬ Edited (with_others others) Enforced db (edit_of db bonds (ids_of asked) Given 1 asked) (Err stop)
  mark_edited asked a stop None is h = never_edited (with_others others) Enforced db (edit_of_bonds [] []) unmarked_allowed stop (subst (λ e. Edited (with_others others) Enforced db e (Err stop)) (marks_none k t db rows stands asked a is) h)
  mark_edited asked a stop (Some x) is h =
      let one = bond_there k db rows stands x is in
      never_edited (with_others others) Enforced db (edit_of_bonds (one.0 ∷ []) (mark_with one.0 x x.coowner ∷ [])) (marked_allowed x one.0 one.1) stop
      (subst (λ e. Edited (with_others others) Enforced db e (Err stop)) (marks_one k t db rows stands asked a x one.0 one.1) h)

  pub mark_bond_stays : NeverStops others db given_mark None (Update 2 (record { lets = []; body = mark_bond_query }))
  mark_bond_stays text stop h =
      let written = passed h (λ s w.
      let asked = passed w (never_queried (record { schema = (with_others others); trees = db }) (record { lets = []; body = mark_bond_query }) given_mark (λ e r. never_refused never_false (no_sums _) r)) in
      let edited = passed asked.2 (λ s e. mark_edited asked.0 (asked.1.answer Null) s (get rows.bonds k) refl e) in
      no_stop edited.2) in
      never_concluded others them bonds given_mark written.0 stop written.2
