-- What an insertion of ten bonds does, and why it isn't refused.
use Rattle.std.proofs.Common.{◌≡◌, ℕ, List, [], ◌∷◌, length, true, false, None, Some, Option, Err, Ok, refl, sym, ap, subst, ◌∙◌, arith}
use Rattle.std.specs.List.{AllByRecursion}
use Rattle.sqlite.specs.declared.error.Error.{Error}
use Rattle.sqlite.specs.Order.{Row}
use Rattle.sqlite.specs.Source.TheVariants.{Values}
use Rattle.sqlite.specs.Command.TheVariants.{Insert}
use Rattle.sqlite.specs.Edit.{edit_of}
use Rattle.sqlite_rules.specs.Edit.{Edit, edited, put_all, are_fresh}
use Rattle.sqlite.specs.Rowids.TheVariants.{Chosen}
use Rattle.sqlite.specs.Does.{Tally, Does}
use Rattle.sqlite.specs.Rows.{Written, Edited}
use Rattle.sqlite.specs.Tree.{Trees, with_tree}
use Rattle.sqlite.specs.Effect.{Database, IsDatabase, IsSource, RefusesSource}
use Rattle.sqlite.specs.Term.{col}
use Rattle.std.proofs.Math.Bool.{and-true}
use Rattle.sqlite.specs.Listing.{understood}
use Rattle.sqlite.specs.State.{State, mode_of, Executes}
use Rattle.sqlite.proofs.Callers.{statement_of}
use Rattle.sqlite_schema.specs.declared.schema.Keys.TheVariants.{Enforced}
use Rattle.sqlite_schema.specs.declared.schema.Constraint.TheVariants.{Unique}
use Rattle.sqlite_schema.specs.Rules.{Keeps, passes, clashes}
use Rattle.sqlite_value.specs.Keys.{plain}
use Rattle.sqlite_keyed.proofs.RuleLemmas.{first_of_both}
use Rattle.sqlite_keyed.proofs.ListLemmas.{all_weaker}
use Rattle.ee_store_tables.specs.declared.records.UnpaidBond.{UnpaidBond}
use Rattle.ee_store_tables.specs.AsRows.{entry_of_unpaid, unpaid_columns}
use Rattle.sqlite.specs.Schema.{Schema}
use Rattle.ee_store_tables.specs.Tables.{bonds, HasCounterTables, with_others, others_in, AreOthers}
use Rattle.ee_store_tables.specs.Keyed.{HoldsPairs}
use Rattle.ee_store_tables.specs.Rows.{Rows, Holds, BondRow, bond_columns, number, optional, with_bond, with_bonds, CanRegisterAll, Rises}
use Rattle.ee_store_tables.proofs.Meaning.{add_ten_text, ten_terms, add_ten_is, add_ten_plain, add_ten_whole}
use Rattle.ee_store_tables.proofs.CauseLemmas.{NeverStops, IsWritten, shows_nothing, never_false}
use Rattle.ee_store_tables.proofs.RefusalLemmas.{passed, no_stop, never_source, never_sourced, IsAllowed, never_edited, never_concluded, all_unique}
use Rattle.ee_store_tables.proofs.KeyLemmas.{bonds_apart, bonds_unique}
use Rattle.ee_store_tables.proofs.NewBondLemmas.{bond_rows, bond_source, bonds_in, numbered_bonds, bonds_hold, PutsBonds, puts_bonds, bonds_typed, bonds_small}
use Rattle.ee_store_tables.proofs.WriteLemmas.{bound_optional, went, same_value, not_so, not_foreign, Same, with_bonds as with_bonds_rows}
use Rattle.std.specs.Prelude.{◌&&◌, ◌++◌, flat_map, map}
use Rattle.std.proofs.lemmas.Simd.{map-map}
use Rattle.sqlite.specs.Values.{bound, bound_value}
use Rattle.sqlite_value.specs.Value.{owned}
use Rattle.sqlite_value.specs.declared.value.ValueRef.{ValueRef}
use Rattle.ee_store_tables.proofs.OtherLemmas.{one_write, Follows, AllButOne, follows, same_ours, no_acts}
use Rattle.ee_store_tables.proofs.OurLemmas.{runs_ours}

-- a whole number or NULL is accepted as a parameter
one_accepted : (others : Schema) (db : Trees) (o : Option ℕ) → IsSource (record { schema = (with_others others); trees = db }) (optional o ∷ []) (Values (col 0 0 ∷ []) 1) ((optional o ∷ []) ∷ [])
one_accepted others db None = (refl, refl)
one_accepted others db (Some n) = (refl, refl)

-- ---- ten bonds by one statement

module _ (a b c d e f g h i j : UnpaidBond) where
  abbrev pub ten : List UnpaidBond
  ten = a ∷ b ∷ c ∷ d ∷ e ∷ f ∷ g ∷ h ∷ i ∷ j ∷ []

  abbrev pub given_ten : Row
  given_ten = flat_map unpaid_columns ten

  pub adds_ten : (old new : State) (count : ℕ) → HasCounterTables old.now.schema → Executes add_ten_text given_ten old new (Ok count)
      → Follows old.now new.now × ((rows : Rows) → Holds old.now.trees rows → Holds new.now.trees (with_bonds rows (map entry_of_unpaid ten))) × IsDatabase new.now × Same 2 old.now.trees new.now.trees
      × (new.now.trees 2 ≡ put_all (old.now.trees 2) (bond_rows (old.now.trees 2) ten))
  adds_ten old new count has h =
      let db = old.now.trees in
      let command = Insert 2 (Values ten_terms 8) in
      let w = runs_ours add_ten_text given_ten old new has command add_ten_is add_ten_plain count h in
      let text = statement_of add_ten_text (understood (with_others (others_in old.now.schema)) add_ten_text) in
      let done = went (subst (λ s. Does old.step_limit (mode_of old) given_ten (record old.now { schema = s }) text None command (Ok (w.tally, new.now))) has.ours w.changed) in
      let now = ap (λ (p : Tally × Database). p.1) (same_value (went (went done.2).2).2) in
      let given_rows = went done.1 in
      let written = went (went given_rows.2).2 in
      let counted = went written.2 in
      let trees : done.0.trees ≡ written.0 = ap (λ (it : Written). it.trees) (same_value counted.2) ∙ same_value counted.1 in
      let edit = edit_of db bonds [] Chosen 0 given_rows.0 in
      let applied = one_write (others_in old.now.schema) has.others _ db written.0 edit written.1 in
      let put_in = bond_rows (db 2) ten in
      let news : edit.news ≡ put_in = ap (λ all. (edit_of db bonds [] Chosen 0 all).news) given_rows.1.1 ∙ numbered_bonds (db 2) ten in
      let put : written.0 2 ≡ put_all (db 2) put_in = applied.rows ∙ ap (put_all (db 2)) news in
      let fresh : are_fresh (db 2) put_in ≡ true = subst (λ all. are_fresh (db 2) all ≡ true) news applied.fresh in
      let unique = subst (AllByRecursion (λ r. passes Unique (with_others (others_in old.now.schema)) written.0 bonds r ≡ true)) put (applied.fits.rules Unique not_foreign).1.1.0 in
      let apart : AllByRecursion (λ r. clashes plain (1 ∷ 2 ∷ []) (put_all (db 2) put_in) r ≡ false) (put_all (db 2) put_in) =
      all_weaker (λ r. passes Unique (with_others (others_in old.now.schema)) written.0 bonds r ≡ true) (λ r. clashes plain (1 ∷ 2 ∷ []) (put_all (db 2) put_in) r ≡ false)
      (λ r one. subst (λ rs. clashes plain (1 ∷ 2 ∷ []) rs r ≡ false) put (not_so _ (first_of_both _ _ one))) (put_all (db 2) put_in) unique in
      let after : new.now.trees ≡ written.0 = ap (λ (d : Database). d.trees) now ∙ trees in
      let kept : AllButOne (others_in old.now.schema) 2 db new.now.trees = subst (AllButOne (others_in old.now.schema) 2 db) (sym after) applied.tables in
      let same : Same 2 db new.now.trees = same_ours (others_in old.now.schema) 2 db new.now.trees kept in (
        follows old.now new.now has 2 (omega arith) (ap (λ (d : Database). d.schema) now) kept,
        λ rows stands.
            with_bonds_rows db new.now.trees rows stands (bonds_in rows.bonds ten) same
            (subst (λ rs. HoldsPairs bond_columns rs (bonds_in rows.bonds ten)) (sym (ap (λ (trees : Trees). trees 2) after ∙ put)) (bonds_hold ten (db 2) rows.bonds stands.bonds fresh apart)),
        w.sound,
        same,
        ap (λ (trees : Trees). trees 2) after ∙ put,
      )

  module _ (others : Schema) (them : AreOthers others) (db : Trees) (rows : Rows) (stands : Holds db rows) (unique : Keeps Unique (with_others others) db) (room : Rises 1 10 (db 2)) (can : CanRegisterAll rows (map entry_of_unpaid ten)) where
    abbrev news : List Row
    news = bond_rows (db 2) ten

    abbrev ten_edit : List Row → Edit
    ten_edit news = record { table = bonds; gone = []; news = news }

    puts : PutsBonds (db 2) news
    puts = puts_bonds ten (db 2) rows.bonds stands.bonds can room (bonds_apart others db unique.1.1.0)

    ten_unique : Keeps Unique (with_others others) (with_tree db 2 (edited db (ten_edit news)))
    ten_unique = all_unique others them db 2 (omega arith) (edited db (ten_edit news)) unique (bonds_unique others them (with_tree db 2 (edited db (ten_edit news))) puts.serials) unique.1.1.1.1.0 unique.1.1.1.1.1.1.1.0

    ten_allowed : IsAllowed (with_others others) Enforced db (ten_edit news)
    ten_allowed = record {
      typed = bonds_typed others db ten (db 2);
      present = refl;
      checked = refl;
      fresh = puts.fresh;
      unique = ten_unique;
      keyed = refl;
      fits = puts.fits;
      referred = refl;
      acts = no_acts others them Enforced db (ten_edit news);
      small = bonds_small others them ten (db 2);
    }

    ten_edited : (sources : List Row) → sources ≡ map bond_source ten → (stop : Option Error) → ¬ Edited (with_others others) Enforced db (edit_of db bonds [] Chosen 0 sources) (Err stop)
    ten_edited sources is stop h =
        let same : edit_of db bonds [] Chosen 0 sources ≡ ten_edit news = ap (λ all. edit_of db bonds [] Chosen 0 all) is ∙ ap ten_edit (numbered_bonds (db 2) ten) in
        never_edited (with_others others) Enforced db (ten_edit news) ten_allowed stop (subst (λ e. Edited (with_others others) Enforced db e (Err stop)) same h)

    ten_source : IsSource (record { schema = (with_others others); trees = db }) given_ten (Values ten_terms 8) (map bond_source ten)
    ten_source =
        let one = λ (o : Option ℕ). sym (and-true _) ∙ (one_accepted others db o).0 in
        (λ q. one a.coowner q && (one b.coowner q && (one c.coowner q && (one d.coowner q && (one e.coowner q && (one f.coowner q && (one g.coowner q && (one h.coowner q && (one i.coowner q && (one j.coowner q && true))))))))), refl)

    ten_given : (e : Error) → ¬ RefusesSource None (record { schema = (with_others others); trees = db }) given_ten (Values ten_terms 8) e
    ten_given e r = never_source (λ refused. never_false (sym ten_source.0 ∙ refused)) r

    pub add_ten_stays : NeverStops others db given_ten None (Insert 2 (Values ten_terms 8))
    add_ten_stays text stop h =
        let written = passed h (λ s w.
        let given = passed w (never_sourced (record { schema = (with_others others); trees = db }) given_ten (Values ten_terms 8) ten_given) in
        let counter = passed given.2 (λ s e. no_stop e) in
        let edited = passed counter.2 (ten_edited given.0 given.1.1) in
        let counted = passed edited.2 (λ s e. no_stop e) in
        no_stop counted.2) in
        never_concluded others them bonds given_ten written.0 stop written.2

-- ---- a list of ten

ten_are : (xs : List UnpaidBond) → length xs ≡ 10 → (a : UnpaidBond) × (b : UnpaidBond) × (c : UnpaidBond) × (d : UnpaidBond) × (e : UnpaidBond) × (f : UnpaidBond) × (g : UnpaidBond) × (h : UnpaidBond) × (i : UnpaidBond) × (j : UnpaidBond) × (xs ≡ a ∷ b ∷ c ∷ d ∷ e ∷ f ∷ g ∷ h ∷ i ∷ j ∷ [])
ten_are [] is = absurd (omega (arith, is))
ten_are (a ∷ []) is = absurd (omega (arith, is))
ten_are (a ∷ b ∷ []) is = absurd (omega (arith, is))
ten_are (a ∷ b ∷ c ∷ []) is = absurd (omega (arith, is))
ten_are (a ∷ b ∷ c ∷ d ∷ []) is = absurd (omega (arith, is))
ten_are (a ∷ b ∷ c ∷ d ∷ e ∷ []) is = absurd (omega (arith, is))
ten_are (a ∷ b ∷ c ∷ d ∷ e ∷ f ∷ []) is = absurd (omega (arith, is))
ten_are (a ∷ b ∷ c ∷ d ∷ e ∷ f ∷ g ∷ []) is = absurd (omega (arith, is))
ten_are (a ∷ b ∷ c ∷ d ∷ e ∷ f ∷ g ∷ h ∷ []) is = absurd (omega (arith, is))
ten_are (a ∷ b ∷ c ∷ d ∷ e ∷ f ∷ g ∷ h ∷ i ∷ []) is = absurd (omega (arith, is))
ten_are (a ∷ b ∷ c ∷ d ∷ e ∷ f ∷ g ∷ h ∷ i ∷ j ∷ []) is = (a, b, c, d, e, f, g, h, i, j, refl)
ten_are (a ∷ b ∷ c ∷ d ∷ e ∷ f ∷ g ∷ h ∷ i ∷ j ∷ k ∷ more) is = absurd (omega (arith, is))

-- what the insertion of bonds leaves
abbrev pub AddsBonds : State → State → List UnpaidBond → Type 0
AddsBonds old new xs =
    Follows old.now new.now × ((rows : Rows) → Holds old.now.trees rows → Holds new.now.trees (with_bonds rows (map entry_of_unpaid xs))) × IsDatabase new.now × Same 2 old.now.trees new.now.trees
    × (new.now.trees 2 ≡ put_all (old.now.trees 2) (bond_rows (old.now.trees 2) xs))

pub adds_bonds : (xs : List UnpaidBond) → length xs ≡ 10 → (old new : State) (count : ℕ) → HasCounterTables old.now.schema → Executes add_ten_text (flat_map unpaid_columns xs) old new (Ok count) → AddsBonds old new xs
adds_bonds xs is old new count has h =
    let t = ten_are xs is in
    subst (λ ys. Executes add_ten_text (flat_map unpaid_columns ys) old new (Ok count) → AddsBonds old new ys) (sym t.10)
    (adds_ten t.0 t.1 t.2 t.3 t.4 t.5 t.6 t.7 t.8 t.9 old new count has) h

pub bonds_stay : (xs : List UnpaidBond) → length xs ≡ 10 → (others : Schema) → AreOthers others → (db : Trees) (rows : Rows) → Holds db rows → Keeps Unique (with_others others) db → Rises 1 10 (db 2) → CanRegisterAll rows (map entry_of_unpaid xs)
    → NeverStops others db (flat_map unpaid_columns xs) None (Insert 2 (Values ten_terms 8))
bonds_stay xs is others them db rows stands unique room can =
    let t = ten_are xs is in
    subst (λ ys. CanRegisterAll rows (map entry_of_unpaid ys) → NeverStops others db (flat_map unpaid_columns ys) None (Insert 2 (Values ten_terms 8))) (sym t.10)
    (add_ten_stays t.0 t.1 t.2 t.3 t.4 t.5 t.6 t.7 t.8 t.9 others them db rows stands unique room) can

pub writes_bonds : (xs : List UnpaidBond) → length xs ≡ 10 → IsWritten add_ten_text (flat_map unpaid_columns xs) None (Insert 2 (Values ten_terms 8))
writes_bonds xs is =
    let t = ten_are xs is in
    subst (λ ys. IsWritten add_ten_text (flat_map unpaid_columns ys) None (Insert 2 (Values ten_terms 8))) (sym t.10)
    (record { is = add_ten_is; shows = λ others. shows_nothing _ (add_ten_plain others); whole = add_ten_whole; change = refl })

-- ---- the parameters

given_bound : (xs : List UnpaidBond) → map bound_value (flat_map unpaid_columns xs) ≡ flat_map unpaid_columns xs
given_bound [] = refl
given_bound (x ∷ xs) =
    λ q. number x.letter ∷ number x.number ∷ number x.denom ∷ number x.issued ∷ number x.owner ∷ bound_optional x.coowner q ∷ given_bound xs q

pub bound_bonds : (vs : List ValueRef) (xs : List UnpaidBond) → map owned vs ≡ flat_map unpaid_columns xs → bound vs ≡ flat_map unpaid_columns xs
bound_bonds vs xs same = sym (map-map bound_value owned vs) ∙ ap (map bound_value) same ∙ given_bound xs

-- ---- some bonds, and then more

pub with_more : (rows : Rows) (xs ys : List ((ℕ × ℕ) × BondRow)) → with_bonds rows (xs ++ ys) ≡ with_bonds (with_bonds rows xs) ys
with_more rows [] ys = refl
with_more rows (x ∷ xs) ys = with_more (with_bond rows x) xs ys

pub can_first : (rows : Rows) (xs ys : List ((ℕ × ℕ) × BondRow)) → CanRegisterAll rows (xs ++ ys) → CanRegisterAll rows xs
can_first rows [] ys can = tt
can_first rows (x ∷ xs) ys can = (can.0, can_first (with_bond rows x) xs ys can.1)

pub can_then : (rows : Rows) (xs ys : List ((ℕ × ℕ) × BondRow)) → CanRegisterAll rows (xs ++ ys) → CanRegisterAll (with_bonds rows xs) ys
can_then rows [] ys can = can
can_then rows (x ∷ xs) ys can = can_then (with_bond rows x) xs ys can.1
