-- Rows are read back from their columns, and trees hold no two different rows.
use Rattle.std.proofs.Common.{◌≡◌, ℕ, List, nat_cmp}
use Rattle.std.specs.FinMap.{FinMap}
use Rattle.sqlite.specs.Tree.{Trees}
use Rattle.sqlite_value.specs.Order.{Row}
use Rattle.ee_store_tables.specs.Keyed.{pair_cmp, HoldsMap, HoldsPairs}
use Rattle.ee_store_tables.specs.Rows.{Rows, DeskRow, BondRow, TicketRow, PaidRow, BatchRow, ReplyRow, Holds, desk_columns, rate_columns, bond_columns, ticket_columns, paid_columns, batch_columns, reply_columns}
use Rattle.ee_store_tables.proofs.OneLemmas
pub use Rattle.ee_store_tables.proofs.OneLemmas.{un_desk, un_rates, un_bonds, un_tickets, un_lines, un_batches, un_replies}

-- ---- a row is read back from its columns
pub back_desk : (x : DeskRow) → un_desk (desk_columns x) ≡ x
back_desk = OneLemmas.back_desk

pub back_rates : (x : ℕ) → un_rates (rate_columns x) ≡ x
back_rates = OneLemmas.back_rates

pub back_bonds : (x : BondRow) → un_bonds (bond_columns x) ≡ x
back_bonds = OneLemmas.back_bonds

pub back_tickets : (x : TicketRow) → un_tickets (ticket_columns x) ≡ x
back_tickets = OneLemmas.back_tickets

pub back_lines : (x : PaidRow) → un_lines (paid_columns x) ≡ x
back_lines = OneLemmas.back_lines

pub back_batches : (x : BatchRow) → un_batches (batch_columns x) ≡ x
back_batches = OneLemmas.back_batches

pub back_replies : (x : ReplyRow) → un_replies (reply_columns x) ≡ x
back_replies = OneLemmas.back_replies

-- ---- a tree holds one map at most
pub one_desk : (rows : List Row) (a b : FinMap nat_cmp DeskRow) → HoldsMap desk_columns rows a → HoldsMap desk_columns rows b → a ≡ b
one_desk = OneLemmas.one_desk

pub one_rates : (rows : List Row) (a b : FinMap nat_cmp ℕ) → HoldsMap rate_columns rows a → HoldsMap rate_columns rows b → a ≡ b
one_rates = OneLemmas.one_rates

pub one_tickets : (rows : List Row) (a b : FinMap nat_cmp TicketRow) → HoldsMap ticket_columns rows a → HoldsMap ticket_columns rows b → a ≡ b
one_tickets = OneLemmas.one_tickets

pub one_batches : (rows : List Row) (a b : FinMap nat_cmp BatchRow) → HoldsMap batch_columns rows a → HoldsMap batch_columns rows b → a ≡ b
one_batches = OneLemmas.one_batches

pub one_replies : (rows : List Row) (a b : FinMap nat_cmp ReplyRow) → HoldsMap reply_columns rows a → HoldsMap reply_columns rows b → a ≡ b
one_replies = OneLemmas.one_replies

pub one_bonds : (rows : List Row) (a b : FinMap pair_cmp BondRow) → HoldsPairs bond_columns rows a → HoldsPairs bond_columns rows b → a ≡ b
one_bonds = OneLemmas.one_bonds

pub one_lines : (rows : List Row) (a b : FinMap pair_cmp PaidRow) → HoldsPairs paid_columns rows a → HoldsPairs paid_columns rows b → a ≡ b
one_lines = OneLemmas.one_lines

pub one_answers : (rows : List Row) (a b : FinMap pair_cmp ReplyRow) → HoldsPairs reply_columns rows a → HoldsPairs reply_columns rows b → a ≡ b
one_answers = OneLemmas.one_answers

-- trees hold one set of rows at most
pub one_held : (db : Trees) (a b : Rows) → Holds db a → Holds db b → a ≡ b
one_held = OneLemmas.one_held
