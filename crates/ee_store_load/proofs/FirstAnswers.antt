-- Replies of version 1, read and put at the first desk.
use Rattle.std.proofs.Common.{◌≡◌, ℕ, List, map, T, sym, ap, subst, ◌∙◌}
use Rattle.std.specs.FinMap.{entries, from_sorted, entries-from_sorted}
use Rattle.std.specs.FinMap.Entries.{is_sorted}
use Rattle.sqlite.specs.Tree.{Trees}
use Rattle.sqlite_keyed.proofs.ListLemmas.{map-map}
use Rattle.ee_store_tables.specs.Keyed.{pair_cmp, HoldsMap}
use Rattle.ee_store_tables.specs.Rows.{ReplyRow, reply_columns}
use Rattle.ee_store_schema.specs.Forms.{HoldsReplies}
use Rattle.ee_store_schema.specs.Migrating.{answer_entry}
use Rattle.ee_store_schema.proofs.Lemmas.Desks.{first_desk_sorted}
use Rattle.ee_store_load.specs.declared.entries.StoredReply.{StoredReply}
use Rattle.ee_store_load.specs.Shown.{answer_map}
use Rattle.ee_store_load.specs.Inner.Shown.{reply_entry, reply_map, first_answer}

abbrev first : ℕ × ReplyRow → (ℕ × ℕ) × ReplyRow
first e = ((0, e.0), e.1)

module _ (all : List StoredReply) (listed : entries (reply_map all) ≡ map reply_entry all) where
  same_entries : map answer_entry (map first_answer all) ≡ map first (entries (reply_map all))
  same_entries = map-map answer_entry first_answer all ∙ sym (map-map first reply_entry all) ∙ ap (map first) (sym listed)

  -- they are those of the table
  pub holds_first : (db : Trees) → HoldsMap reply_columns (db 11) (reply_map all) → HoldsReplies db (answer_map (map first_answer all))
  holds_first db held = record { kept = reply_map all; held = held; first = ap from_sorted same_entries }

  -- and in order
  pub lists_first : entries (answer_map (map first_answer all)) ≡ map answer_entry (map first_answer all)
  lists_first = entries-from_sorted pair_cmp (map answer_entry (map first_answer all)) (subst (λ es. T (is_sorted pair_cmp es)) (sym same_entries) (first_desk_sorted (reply_map all)))
