-- The parts that were made of rows, the rows of kept replies, and the tables of unit values.
use Rattle.std.specs.Prelude.{◌≡◌, map, string_bytes}
use Rattle.std.specs.Ordering.{nat_cmp}
use Rattle.std.specs.FinMap.{FinMap, entries, from_entries}
use Rattle.ee_value.specs.declared.rates.Rates.{Rates}
use Rattle.ee_desk_model.specs.declared.changes.Kept.{Kept}
use Rattle.ee_desk_model.specs.UnitTables.{rates_cmp}
use Rattle.ee_desk_texts.specs.Texts.{act_text, reply_text}
use Rattle.ee_store_books.specs.Standing.{IsKept}
use Rattle.ee_store_schema.specs.declared.answers.StoredAnswer.{StoredAnswer}

-- a row with an act and a reply that is kept
pub record IsAnswerRow (row : StoredAnswer) (kept : Kept) : Type 0 where
  pub is_kept : IsKept (row.desk, row.number) kept
  pub act : string_bytes row.act ≡ act_text kept.act
  pub reply : string_bytes row.reply ≡ reply_text kept.reply

abbrev pub KeepsAnswer : StoredAnswer → Type 0
KeepsAnswer row = (kept : Kept) × IsAnswerRow row kept

-- the tables of unit values for the rates of each period, one for each pair of rates
abbrev pub tables_for : FinMap nat_cmp Rates → FinMap rates_cmp Rates
tables_for rates = from_entries (map (λ e. (e.1, e.1)) (entries rates))
