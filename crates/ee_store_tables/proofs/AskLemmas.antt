-- What the queries ask.
use Rattle.std.proofs.Common.{ℕ, pos, [], ◌∷◌, codes, None, Some, Option, refl}
use Rattle.sqlite.specs.declared.types.Value.TheVariants.{Null, Int}
use Rattle.sqlite.specs.Term.{lit, col}
use Rattle.sqlite.specs.Source.TheVariants.{Values}
use Rattle.sqlite.specs.Command.TheVariants.{Insert, InsertOr, Update}
use Rattle.sqlite_schema.specs.declared.command.Conflict.TheVariants.{Abort}
use Rattle.ee_store_tables.specs.Rows.{TicketRow, BatchRow, ReplyRow, PaidRow, BondRow}
use Rattle.ee_store_tables.proofs.TicketLemmas.{given_ticket}
use Rattle.ee_store_tables.proofs.BatchLemmas.{given_batch}
use Rattle.ee_store_tables.proofs.AnswerLemmas.{given_answer}
use Rattle.ee_store_tables.proofs.PaidLemmas.{given_paid}
use Rattle.ee_store_tables.proofs.PlacesLemmas.{given_four}
use Rattle.ee_store_tables.proofs.RateLemmas.{given_rate}
use Rattle.ee_store_tables.proofs.RegisterLemmas.{given_bond}
use Rattle.ee_store_tables.proofs.DeskLemmas.{given_days}
use Rattle.ee_store_tables.proofs.VersionLemmas.{given_version}
use Rattle.ee_store_tables.proofs.Meaning.{add_ticket_text, add_ticket_is, add_ticket_plain, add_ticket_whole, add_batch_text, add_batch_is, add_batch_plain, add_batch_whole, add_answer_text, add_answer_is, add_answer_plain, add_answer_whole, add_four_text, four_terms, add_four_is, add_four_plain, add_four_whole, add_paid_text, add_paid_is, add_paid_plain, add_paid_whole, insert_rate, add_rate_text, add_rate_is, add_rate_plain, add_rate_whole, add_extension_text, add_extension_is, add_extension_plain, add_extension_whole, add_bond_text, add_bond_is, add_bond_plain, add_bond_whole, set_day_text, set_day_is, set_day_plain, set_day_whole, set_day_query, set_version_text, set_version_is, set_version_plain, set_version_whole, set_version_query, mark_bond_text, mark_bond_query, mark_bond_is, mark_bond_plain, mark_bond_whole, find_bond_text, find_bond_query, find_bond_is, find_bond_plain, find_bond_whole, find_answer_text, find_answer_query, find_answer_is, find_answer_plain, find_answer_whole, find_desk_text, find_desk_query, find_desk_is, find_desk_plain, find_desk_whole, find_rate_text, find_rate_query, find_rate_is, find_rate_plain, find_rate_whole, find_extension_text, find_extension_query, find_extension_is, find_extension_plain, find_extension_whole, find_ticket_text, find_ticket_query, find_ticket_is, find_ticket_plain, find_ticket_whole, find_batch_text, find_batch_query, find_batch_is, find_batch_plain, find_batch_whole, last_ticket_text, last_ticket_query, last_ticket_is, last_ticket_plain, last_ticket_whole, day_tickets_text, day_tickets_query, day_tickets_is, day_tickets_plain, day_tickets_whole, first_ticket_text, first_ticket_query, first_ticket_is, first_ticket_plain, first_ticket_whole, ticket_lines_text, ticket_lines_query, ticket_lines_is, ticket_lines_plain, ticket_lines_whole, bonds_of_owner_text, bonds_of_owner_query, bonds_of_owner_is, bonds_of_owner_plain, bonds_of_owner_whole}
use Rattle.ee_store_tables.proofs.BondLemmas.{key_params}
use Rattle.ee_store_tables.proofs.CauseLemmas.{IsWritten, shows_nothing, IsAsked, never_refused, never_false, no_sums}

pub asks_find_bond : (n : ℕ) (m : ℕ) → IsAsked find_bond_text (Int (pos n) ∷ Int (pos m) ∷ [])
asks_find_bond n m = record {
  query = record { lets = []; body = find_bond_query };
  names = codes "denom" ∷ codes "issued" ∷ codes "owner" ∷ codes "coowner" ∷ codes "ticket" ∷ [];
  is = find_bond_is;
  plain = find_bond_plain;
  whole = find_bond_whole;
  answered = λ others db e h. never_refused never_false (no_sums _) h;
}

pub asks_find_answer : (n : ℕ) (m : ℕ) → IsAsked find_answer_text (Int (pos n) ∷ Int (pos m) ∷ [])
asks_find_answer n m = record {
  query = record { lets = []; body = find_answer_query };
  names = codes "act" ∷ codes "reply" ∷ [];
  is = find_answer_is;
  plain = find_answer_plain;
  whole = find_answer_whole;
  answered = λ others db e h. never_refused never_false (no_sums _) h;
}

pub asks_find_desk : (n : ℕ) → IsAsked find_desk_text (Int (pos n) ∷ [])
asks_find_desk n = record {
  query = record { lets = []; body = find_desk_query };
  names = codes "version" ∷ codes "day" ∷ codes "last_day" ∷ [];
  is = find_desk_is;
  plain = find_desk_plain;
  whole = find_desk_whole;
  answered = λ others db e h. never_refused never_false (no_sums _) h;
}

pub asks_find_rate : (n : ℕ) → IsAsked find_rate_text (Int (pos n) ∷ [])
asks_find_rate n = record {
  query = record { lets = []; body = find_rate_query };
  names = codes "rate" ∷ [];
  is = find_rate_is;
  plain = find_rate_plain;
  whole = find_rate_whole;
  answered = λ others db e h. never_refused never_false (no_sums _) h;
}

pub asks_find_extension : (n : ℕ) → IsAsked find_extension_text (Int (pos n) ∷ [])
asks_find_extension n = record {
  query = record { lets = []; body = find_extension_query };
  names = codes "rate" ∷ [];
  is = find_extension_is;
  plain = find_extension_plain;
  whole = find_extension_whole;
  answered = λ others db e h. never_refused never_false (no_sums _) h;
}

pub asks_find_ticket : (n : ℕ) → IsAsked find_ticket_text (Int (pos n) ∷ [])
asks_find_ticket n = record {
  query = record { lets = []; body = find_ticket_query };
  names = codes "day" ∷ codes "payee" ∷ codes "bonds" ∷ codes "total" ∷ [];
  is = find_ticket_is;
  plain = find_ticket_plain;
  whole = find_ticket_whole;
  answered = λ others db e h. never_refused never_false (no_sums _) h;
}

pub asks_find_batch : (n : ℕ) → IsAsked find_batch_text (Int (pos n) ∷ [])
asks_find_batch n = record {
  query = record { lets = []; body = find_batch_query };
  names = codes "tickets" ∷ codes "bonds" ∷ codes "total" ∷ [];
  is = find_batch_is;
  plain = find_batch_plain;
  whole = find_batch_whole;
  answered = λ others db e h. never_refused never_false (no_sums _) h;
}

pub asks_last_ticket : IsAsked last_ticket_text ([])
asks_last_ticket = record {
  query = record { lets = []; body = last_ticket_query };
  names = codes "ticket" ∷ [];
  is = last_ticket_is;
  plain = last_ticket_plain;
  whole = last_ticket_whole;
  answered = λ others db e h. never_refused never_false (no_sums _) h;
}

pub asks_day_tickets : (n : ℕ) → IsAsked day_tickets_text (Int (pos n) ∷ [])
asks_day_tickets n = record {
  query = record { lets = []; body = day_tickets_query };
  names = codes "ticket" ∷ codes "bonds" ∷ codes "total" ∷ [];
  is = day_tickets_is;
  plain = day_tickets_plain;
  whole = day_tickets_whole;
  answered = λ others db e h. never_refused never_false (no_sums _) h;
}

pub asks_first_ticket : (n : ℕ) → IsAsked first_ticket_text (Int (pos n) ∷ [])
asks_first_ticket n = record {
  query = record { lets = []; body = first_ticket_query };
  names = codes "ticket" ∷ [];
  is = first_ticket_is;
  plain = first_ticket_plain;
  whole = first_ticket_whole;
  answered = λ others db e h. never_refused never_false (no_sums _) h;
}

pub asks_ticket_lines : (n : ℕ) → IsAsked ticket_lines_text (Int (pos n) ∷ [])
asks_ticket_lines n = record {
  query = record { lets = []; body = ticket_lines_query };
  names = codes "place" ∷ codes "letter" ∷ codes "number" ∷ codes "cents" ∷ [];
  is = ticket_lines_is;
  plain = ticket_lines_plain;
  whole = ticket_lines_whole;
  answered = λ others db e h. never_refused never_false (no_sums _) h;
}

pub asks_bonds_of_owner : (n : ℕ) → IsAsked bonds_of_owner_text (Int (pos n) ∷ [])
asks_bonds_of_owner n = record {
  query = record { lets = []; body = bonds_of_owner_query };
  names = codes "letter" ∷ codes "number" ∷ codes "denom" ∷ codes "issued" ∷ codes "owner" ∷ codes "coowner" ∷ [];
  is = bonds_of_owner_is;
  plain = bonds_of_owner_plain;
  whole = bonds_of_owner_whole;
  answered = λ others db e h. never_refused never_false (no_sums _) h;
}

-- ---- what the writes are

pub writes_ticket : (n : ℕ) (x : TicketRow) → IsWritten add_ticket_text (given_ticket n x) None (Insert 3 (Values (col 0 0 ∷ lit Null ∷ col 0 1 ∷ col 0 2 ∷ col 0 3 ∷ col 0 4 ∷ []) 6))
writes_ticket n x = record { is = add_ticket_is; shows = λ others. shows_nothing _ (add_ticket_plain others); whole = add_ticket_whole; change = refl }

pub writes_batch : (n : ℕ) (x : BatchRow) → IsWritten add_batch_text (given_batch n x) None (Insert 5 (Values (col 0 0 ∷ lit Null ∷ col 0 1 ∷ col 0 2 ∷ col 0 3 ∷ []) 5))
writes_batch n x = record { is = add_batch_is; shows = λ others. shows_nothing _ (add_batch_plain others); whole = add_batch_whole; change = refl }

pub writes_answer : (k : ℕ × ℕ) (x : ReplyRow) → IsWritten add_answer_text (given_answer k x) None (Insert 7 (Values (lit Null ∷ col 0 0 ∷ col 0 1 ∷ col 0 2 ∷ col 0 3 ∷ []) 5))
writes_answer k x = record { is = add_answer_is; shows = λ others. shows_nothing _ (add_answer_plain others); whole = add_answer_whole; change = refl }

pub writes_paid : (k : ℕ × ℕ) (x : PaidRow) → IsWritten add_paid_text (given_paid k x) None (Insert 4 (Values (lit Null ∷ col 0 0 ∷ col 0 1 ∷ col 0 2 ∷ col 0 3 ∷ col 0 4 ∷ []) 6))
writes_paid k x = record { is = add_paid_is; shows = λ others. shows_nothing _ (add_paid_plain others); whole = add_paid_whole; change = refl }

pub writes_four : (t place : ℕ) (a b c d : PaidRow) → IsWritten add_four_text (given_four t place a b c d) None (Insert 4 (Values four_terms 6))
writes_four t place a b c d = record { is = add_four_is; shows = λ others. shows_nothing _ (add_four_plain others); whole = add_four_whole; change = refl }

pub writes_rate : (n x : ℕ) → IsWritten add_rate_text (given_rate n x) None (insert_rate 1)
writes_rate n x = record { is = add_rate_is; shows = λ others. shows_nothing _ (add_rate_plain others); whole = add_rate_whole; change = refl }

pub writes_extension : (n x : ℕ) → IsWritten add_extension_text (given_rate n x) None (insert_rate 6)
writes_extension n x = record { is = add_extension_is; shows = λ others. shows_nothing _ (add_extension_plain others); whole = add_extension_whole; change = refl }

pub writes_bond : (k : ℕ × ℕ) (x : BondRow) → IsWritten add_bond_text (given_bond k x) None (InsertOr 2 Abort (Values (lit Null ∷ col 0 0 ∷ col 0 1 ∷ col 0 2 ∷ col 0 3 ∷ col 0 4 ∷ col 0 5 ∷ lit Null ∷ []) 8) (record { target = Some (1 ∷ 2 ∷ []); update = None } ∷ []))
writes_bond k x = record { is = add_bond_is; shows = λ others. shows_nothing _ (add_bond_plain others); whole = add_bond_whole; change = refl }

pub writes_day : (day last_day : Option ℕ) → IsWritten set_day_text (given_days day last_day) None (Update 0 (record { lets = []; body = set_day_query }))
writes_day day last_day = record { is = set_day_is; shows = λ others. shows_nothing _ (set_day_plain others); whole = set_day_whole; change = refl }

pub writes_version : (version : ℕ) → IsWritten set_version_text (given_version version) None (Update 0 (record { lets = []; body = set_version_query }))
writes_version version = record { is = set_version_is; shows = λ others. shows_nothing _ (set_version_plain others); whole = set_version_whole; change = refl }

pub writes_mark : (k : ℕ × ℕ) (t : ℕ) → IsWritten mark_bond_text (key_params k (Int (pos t) ∷ [])) None (Update 2 (record { lets = []; body = mark_bond_query }))
writes_mark k t = record { is = mark_bond_is; shows = λ others. shows_nothing _ (mark_bond_plain others); whole = mark_bond_whole; change = refl }
