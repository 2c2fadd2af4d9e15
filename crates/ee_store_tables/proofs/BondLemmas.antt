-- What look-ups in `bonds` find.
use Rattle.std.proofs.Common.{◌≡◌, ℕ, ℤ, pos, List, [], ◌∷◌, Some, None, Option, refl}
use Rattle.std.specs.Prelude.{option_map}
use Rattle.std.specs.Option.{option_to_list}
use Rattle.std.specs.FinMap.{FinMap, get}
use Rattle.sqlite.specs.declared.types.Value.TheVariants.{Null, Int}
use Rattle.sqlite.specs.Order.{Row}
use Rattle.sqlite.specs.Query.{IsAnswer}
use Rattle.sqlite.specs.Program.{overlay}
use Rattle.sqlite.specs.State.{State, Shown}
use Rattle.ee_store_tables.specs.Tables.{HasCounterTables}
use Rattle.ee_store_tables.specs.Keyed.{pair_cmp, stored, ReadAlike, HoldsPairs}
use Rattle.ee_store_tables.specs.Rows.{BondRow, bond_columns}
use Rattle.ee_store_tables.proofs.Meaning.{find_bond_text, find_bond_query, find_bond_is, find_bond_plain}
use Rattle.ee_store_tables.proofs.HoldsLemmas.{pair_total, pair_same, hit_row, no_row}
use Rattle.ee_store_tables.proofs.ReadLemmas.{found_by_pair}
use Rattle.ee_store_tables.proofs.OurLemmas.{reads_ours}

abbrev pub Stored : Type 0
Stored = ℤ × ((ℕ × ℕ) × BondRow)

abbrev pub key_params : ℕ × ℕ → Row → Row
key_params k more = Int (pos k.0) ∷ Int (pos k.1) ∷ more

pub finds_bond : (old new : State) (k : ℕ × ℕ) (m : FinMap pair_cmp BondRow) (rows : List Row) → HasCounterTables old.now.schema → HoldsPairs bond_columns (old.now.trees 2) m
    → Shown find_bond_text (key_params k []) old new rows → rows ≡ option_to_list (option_map bond_columns (get m k))
finds_bond old new k m rows has stands shown = go (get m k) refl
  where
    a : IsAnswer find_bond_query (overlay old.now.trees []) (key_params k []) rows
    a = (reads_ours find_bond_text (key_params k []) old new has _ find_bond_is find_bond_plain rows shown).answer Null

    shows : (r : Row) (p : Stored) → ReadAlike r (stored bond_columns p) → Rattle.sqlite_sql.specs.Term.eval_all find_bond_query.project (key_params k [] ∷ r ∷ []) ≡ bond_columns p.1.1
    shows r p one = rw (one 3, one 4, one 5, one 6, one 7) refl

    go : (o : Option BondRow) → get m k ≡ o → rows ≡ option_to_list (option_map bond_columns o)
    go None is = found_by_pair bond_columns 2 find_bond_query.project (λ p. bond_columns p.1.1) k [] shows old.now.trees m rows refl stands a None (no_row pair_total pair_same (stored bond_columns) (λ _. refl) k (old.now.trees 2) m stands is)
    go (Some x) is =
        let one = hit_row pair_total pair_same (stored bond_columns) (λ _. refl) k (old.now.trees 2) m stands x is in
        found_by_pair bond_columns 2 find_bond_query.project (λ p. bond_columns p.1.1) k [] shows old.now.trees m rows refl stands a (Some (one.0, (k, x))) one.1
