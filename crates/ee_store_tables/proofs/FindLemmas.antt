-- What look-ups by a number find.
use Rattle.std.proofs.Common.{◌≡◌, ℕ, pos, List, [], ◌∷◌, refl, nat_cmp}
use Rattle.std.specs.Prelude.{option_map}
use Rattle.std.specs.Option.{option_to_list}
use Rattle.std.specs.FinMap.{FinMap, get}
use Rattle.sqlite.specs.declared.types.Value.TheVariants.{Null, Int}
use Rattle.sqlite.specs.Order.{Row}
use Rattle.sqlite.specs.State.{State, Shown}
use Rattle.ee_store_tables.specs.Tables.{HasCounterTables}
use Rattle.ee_store_tables.specs.Keyed.{HoldsMap}
use Rattle.ee_store_tables.specs.Rows.{DeskRow, desk_columns, rate_columns, TicketRow, ticket_columns, BatchRow, batch_columns}
use Rattle.ee_store_tables.proofs.Meaning.{find_desk_text, find_desk_query, find_desk_is, find_desk_plain, find_rate_text, find_rate_query, find_rate_is, find_rate_plain, find_extension_text, find_extension_query, find_extension_is, find_extension_plain, find_ticket_text, find_ticket_query, find_ticket_is, find_ticket_plain, find_batch_text, find_batch_query, find_batch_is, find_batch_plain}
use Rattle.ee_store_tables.proofs.ReadLemmas.{found_by_number}
use Rattle.ee_store_tables.proofs.OurLemmas.{reads_ours}

pub finds_desk : (old new : State) (n : ℕ) (m : FinMap nat_cmp DeskRow) (rows : List Row) → HasCounterTables old.now.schema → HoldsMap desk_columns (old.now.trees 0) m
    → Shown find_desk_text (Int (pos n) ∷ []) old new rows → rows ≡ option_to_list (option_map desk_columns (get m n))
finds_desk old new n m rows has stands shown =
    found_by_number desk_columns 0 find_desk_query.project n [] (λ e. desk_columns e.1) (λ r e one. rw (one 2, one 3, one 4) refl) old.now.trees m rows refl stands
    ((reads_ours find_desk_text (Int (pos n) ∷ []) old new has _ find_desk_is find_desk_plain rows shown).answer Null)

pub finds_rate : (old new : State) (n : ℕ) (m : FinMap nat_cmp ℕ) (rows : List Row) → HasCounterTables old.now.schema → HoldsMap rate_columns (old.now.trees 1) m
    → Shown find_rate_text (Int (pos n) ∷ []) old new rows → rows ≡ option_to_list (option_map rate_columns (get m n))
finds_rate old new n m rows has stands shown =
    found_by_number rate_columns 1 find_rate_query.project n [] (λ e. rate_columns e.1) (λ r e one. rw (one 2) refl) old.now.trees m rows refl stands
    ((reads_ours find_rate_text (Int (pos n) ∷ []) old new has _ find_rate_is find_rate_plain rows shown).answer Null)

pub finds_extension : (old new : State) (n : ℕ) (m : FinMap nat_cmp ℕ) (rows : List Row) → HasCounterTables old.now.schema → HoldsMap rate_columns (old.now.trees 12) m
    → Shown find_extension_text (Int (pos n) ∷ []) old new rows → rows ≡ option_to_list (option_map rate_columns (get m n))
finds_extension old new n m rows has stands shown =
    found_by_number rate_columns 12 find_extension_query.project n [] (λ e. rate_columns e.1) (λ r e one. rw (one 2) refl) old.now.trees m rows refl stands
    ((reads_ours find_extension_text (Int (pos n) ∷ []) old new has _ find_extension_is find_extension_plain rows shown).answer Null)

pub finds_ticket : (old new : State) (n : ℕ) (m : FinMap nat_cmp TicketRow) (rows : List Row) → HasCounterTables old.now.schema → HoldsMap ticket_columns (old.now.trees 5) m
    → Shown find_ticket_text (Int (pos n) ∷ []) old new rows → rows ≡ option_to_list (option_map ticket_columns (get m n))
finds_ticket old new n m rows has stands shown =
    found_by_number ticket_columns 5 find_ticket_query.project n [] (λ e. ticket_columns e.1) (λ r e one. rw (one 2, one 3, one 4, one 5) refl) old.now.trees m rows refl stands
    ((reads_ours find_ticket_text (Int (pos n) ∷ []) old new has _ find_ticket_is find_ticket_plain rows shown).answer Null)

pub finds_batch : (old new : State) (n : ℕ) (m : FinMap nat_cmp BatchRow) (rows : List Row) → HasCounterTables old.now.schema → HoldsMap batch_columns (old.now.trees 10) m
    → Shown find_batch_text (Int (pos n) ∷ []) old new rows → rows ≡ option_to_list (option_map batch_columns (get m n))
finds_batch old new n m rows has stands shown =
    found_by_number batch_columns 10 find_batch_query.project n [] (λ e. batch_columns e.1) (λ r e one. rw (one 2, one 3, one 4) refl) old.now.trees m rows refl stands
    ((reads_ours find_batch_text (Int (pos n) ∷ []) old new has _ find_batch_is find_batch_plain rows shown).answer Null)
