-- Why an insertion into `paid` is not refused.
use Rattle.std.proofs.Common.{◌≡◌, ℕ, ℤ, pos, List, [], ◌∷◌, true, not, None, Option, Err, refl, ap, subst, ◌∙◌, arith}
use Rattle.std.specs.Prelude.{◌&&◌}
use Rattle.std.specs.List.{AllByRecursion}
use Rattle.std.specs.FinMap.{get}
use Rattle.sqlite.specs.declared.types.Value.TheVariants.{Null, Int}
use Rattle.sqlite.specs.declared.error.Error.{Error}
use Rattle.sqlite.specs.Order.{Row}
use Rattle.sqlite.specs.Tree.{Trees, with_tree}
use Rattle.sqlite.specs.Term.{lit, col}
use Rattle.sqlite.specs.Source.TheVariants.{Values}
use Rattle.sqlite.specs.Command.TheVariants.{Insert}
use Rattle.sqlite.specs.Rows.{Edited}
use Rattle.sqlite_rules.specs.Edit.{Edit, edit_of, edited, next_rowid}
use Rattle.sqlite.specs.Rowids.TheVariants.{Chosen}
use Rattle.sqlite_sql.specs.Ops.{fits_i64}
use Rattle.sqlite_schema.specs.declared.schema.Keys.TheVariants.{Enforced}
use Rattle.sqlite_schema.specs.declared.schema.Constraint.TheVariants.{Unique}
use Rattle.sqlite_schema.specs.Rules.{Keeps}
use Rattle.sqlite.specs.Schema.{Schema}
use Rattle.ee_store_tables.specs.Tables.{paid, with_others, AreOthers}
use Rattle.ee_store_tables.specs.Keyed.{stored}
use Rattle.ee_store_tables.specs.Rows.{Rows, Holds, PaidRow, paid_columns, Rises, IsUnpaid}
use Rattle.ee_store_tables.proofs.WriteLemmas.{cast_int, cast_null}
use Rattle.ee_store_tables.proofs.PaidLemmas.{given_paid}
use Rattle.ee_store_tables.proofs.CauseLemmas.{NeverStops, never_false}
use Rattle.ee_store_tables.proofs.RefusalLemmas.{passed, no_stop, never_source, never_sourced, IsAllowed, never_edited, bare_storable, one_fits, never_concluded, all_unique, number_fits}
use Rattle.ee_store_tables.proofs.KeyLemmas.{IsOther, put_apart, same_rowid, places_apart, paid_apart, paid_unique, other_key, all_alike, keys_differ, bonds_differ}
use Rattle.ee_store_tables.proofs.RoomLemmas.{HasNext, has_next}
use Rattle.ee_store_tables.proofs.OtherLemmas.{no_acts, unindexed}

module _ (others : Schema) (them : AreOthers others) (db : Trees) (rows : Rows) (stands : Holds db rows) (unique : Keeps Unique (with_others others) db) (room : Rises 1 1 (db 7)) (k : ℕ × ℕ) (x : PaidRow) (none : get rows.paid k ≡ None) (unpaid : IsUnpaid rows (x.letter, x.number)) where
  abbrev id : ℤ
  id = next_rowid (db 7)

  abbrev row : Row
  row = stored paid_columns (id, (k, x))

  abbrev line_edit : List Row → Edit
  line_edit news = record { table = paid; gone = []; news = news }

  next : HasNext 1 1 (db 7)
  next = has_next 1 1 (db 7) room

  other_places : AllByRecursion (IsOther (1 ∷ 2 ∷ []) row (db 7)) (db 7)
  other_places = all_alike (stored paid_columns) (IsOther (1 ∷ 2 ∷ []) row (db 7)) (λ p. ¬ ((p.1.0.0 ≡ k.0) × (p.1.0.1 ≡ k.1)))
      (λ r p alike apart. other_key 1 2 row r p.1.0.0 p.1.0.1 k.0 k.1 refl refl (alike 1) (alike 2) apart) (db 7) stands.paid.numbered stands.paid.are (keys_differ paid_columns k (db 7) rows.paid stands.paid none)

  other_bonds : AllByRecursion (IsOther (3 ∷ 4 ∷ []) row (db 7)) (db 7)
  other_bonds = all_alike (stored paid_columns) (IsOther (3 ∷ 4 ∷ []) row (db 7)) (λ p. ¬ ((p.1.1.letter ≡ x.letter) × (p.1.1.number ≡ x.number)))
      (λ r p alike apart. other_key 3 4 row r p.1.1.letter p.1.1.number x.letter x.number refl refl (alike 3) (alike 4) apart) (db 7) stands.paid.numbered stands.paid.are (bonds_differ (x.letter, x.number) (db 7) rows.paid stands.paid unpaid)

  line_unique : Keeps Unique (with_others others) (with_tree db 7 (edited db (line_edit (row ∷ []))))
  line_unique = all_unique others them db 7 (omega arith) (edited db (line_edit (row ∷ []))) unique unique.1.1.0 (paid_unique others them (with_tree db 7 (edited db (line_edit (row ∷ []))))
      (put_apart (1 ∷ 2 ∷ []) row (db 7) (same_rowid id) other_places (places_apart others db unique.1.1.1.1.0)) (put_apart (3 ∷ 4 ∷ []) row (db 7) (same_rowid id) other_bonds (paid_apart others db unique.1.1.1.1.0))) unique.1.1.1.1.1.1.1.0

  line_allowed : IsAllowed (with_others others) Enforced db (line_edit (row ∷ []))
  line_allowed = record {
    typed = refl;
    present = refl;
    checked = refl;
    fresh = ap (λ b. not b && true) (next.fresh row (ap Int next.next));
    unique = line_unique;
    keyed = refl;
    fits = ap (λ i. fits_i64 i && true) next.next ∙ number_fits next.top (omega (arith, next.room));
    referred = refl;
    acts = no_acts others them Enforced db (line_edit (row ∷ []));
    small = one_fits (with_others others) paid row (bare_storable row refl (omega arith) (omega arith), omega arith) (
      λ e. absurd (omega (arith, e)),
      (
        λ e. absurd (omega (arith, e)),
        (
          λ e. absurd (omega (arith, e)),
          (
            λ e. bare_storable (Int (pos k.0) ∷ Int (pos k.1) ∷ Int id ∷ []) refl (omega arith) (omega arith),
            (λ e. bare_storable (Int (pos x.letter) ∷ Int (pos x.number) ∷ Int id ∷ []) refl (omega arith) (omega arith), (λ e. absurd (omega (arith, e)), unindexed others them 7 (omega arith) _)),
          ),
        ),
      ),
    );
  }

  line_edited : (sources : List Row) → sources ≡ (Null ∷ Int (pos k.0) ∷ Int (pos k.1) ∷ paid_columns x) ∷ [] → (stop : Option Error) → ¬ Edited (with_others others) Enforced db (edit_of db paid [] Chosen 0 sources) (Err stop)
  line_edited sources is stop h =
      let same : edit_of db paid [] Chosen 0 sources ≡ line_edit (row ∷ []) = ap (λ all. edit_of db paid [] Chosen 0 all) is ∙ ap line_edit (rw (cast_null, cast_int k.0, cast_int k.1, cast_int x.letter, cast_int x.number, cast_int x.cents) refl) in
      never_edited (with_others others) Enforced db (line_edit (row ∷ [])) line_allowed stop (subst (λ e. Edited (with_others others) Enforced db e (Err stop)) same h)

  pub add_paid_stays : NeverStops others db (given_paid k x) None (Insert 4 (Values (lit Null ∷ col 0 0 ∷ col 0 1 ∷ col 0 2 ∷ col 0 3 ∷ col 0 4 ∷ []) 6))
  add_paid_stays text stop h =
      let written = passed h (λ s w.
      let given = passed w (never_sourced (record { schema = (with_others others); trees = db }) (given_paid k x) (Values (lit Null ∷ col 0 0 ∷ col 0 1 ∷ col 0 2 ∷ col 0 3 ∷ col 0 4 ∷ []) 6) (λ e r. never_source never_false r)) in
      let counter = passed given.2 (λ s e. no_stop e) in
      let edited = passed counter.2 (line_edited given.0 given.1.1) in
      let counted = passed edited.2 (λ s e. no_stop e) in
      no_stop counted.2) in
      never_concluded others them paid (given_paid k x) written.0 stop written.2
