-- Lemmas that the proofs of crates above use: the rows of contents.
use Rattle.std.proofs.Common.{List, Option, Some, filter_map, map, ℕ, ◌++◌, ◌≡◌, IfSome}
use Rattle.std.specs.Cmp.{IsTotalOrder}
use Rattle.std.specs.FinMap.{FinMap, IsAntisymmetric, entries, from_entries, is_sorted}
use Rattle.std.specs.Option.{option_and_then, option_map}
use Rattle.std.specs.Ordering.{nat_cmp}
use Rattle.std.specs.Prelude.{T, flat_map}
use Rattle.std.specs.declared.cmp.Ordering.{Ordering}
use Rattle.ee_desk_model.specs.Numbers.{number_cmp, RequestKey}
use Rattle.ee_desk_model.specs.Seen.{held_as}
use Rattle.ee_desk_model.specs.Serials.{serial_cmp}
use Rattle.ee_desk_model.specs.Lists.{Rising}
use Rattle.ee_desk_model.specs.PlainBooks.{PlainBooks}
use Rattle.ee_desk_model.specs.Sound.{IsDay, IsRightBond, IsSound, NumberedFrom, day_of_batch}
use Rattle.ee_desk_model.specs.declared.changes.Kept.{Kept}
use Rattle.ee_desk_model.specs.declared.replies.Batch.{Batch}
use Rattle.ee_desk_model.specs.declared.replies.Ticket.{Ticket}
use Rattle.ee_calculator.specs.declared.bonds.Bond.{Bond}
use Rattle.ee_desk_model.specs.Repeats.{Content}
use Rattle.ee_store_rows.specs.Rows.{bond_row, key_of}
use Rattle.ee_store_books.specs.Standing.{batch_rows, bond_rows, desk_rows, extension_entry, extension_rows, paid_rows, rate_rows, reply_row, reply_rows, ticket_rows, IsRight, StandAt, rows_of}
use Rattle.ee_units.specs.Spelling.{SerialNumber}
use Rattle.ee_value.specs.Chain.{rates_with, named_extension}
use Rattle.ee_value.specs.declared.rates.Rates.{Rates}
use Rattle.std.specs.FinMap as finite
use Rattle.ee_store_tables.specs.Rows.{ReplyRow, Rows, IsText}
use Rattle.ee_store_books.proofs.DaysInRange
use Rattle.ee_store_books.proofs.Images
use Rattle.ee_store_books.proofs.KeptTexts
use Rattle.ee_store_books.proofs.OneContent
use Rattle.ee_store_books.proofs.Orders
pub use Rattle.ee_store_books.proofs.Orders.{ticket_entry, ticket_lines, batch_entry}
pub use Rattle.ee_store_books.proofs.OneContent.{head_of, tail_of}
pub use Rattle.ee_units.proofs.Lemmas.{same_denom}

-- ---- rows at their keys
-- the row of the desk
pub get_desk_row : (version : ℕ) (day last_day : Option ℕ) → finite.get (desk_rows version day last_day) 1 ≡ Some (record { version = version; day = day; last_day = last_day })
get_desk_row = Images.get_desk

-- the row of a period is that of its rates
pub get_rate_row : (rates : FinMap nat_cmp Rates) (period : ℕ) → finite.get (rate_rows rates) period ≡ option_map (λ rates. rates.fixed)
    (finite.get rates period)
get_rate_row = Images.get_rate

-- the extension of a period is that which its rates name
pub get_extension_row : (rates : FinMap nat_cmp Rates) (period : ℕ) → finite.get (extension_rows rates) period ≡ option_and_then named_extension
    (finite.get rates period)
get_extension_row = Images.get_extension

-- the terms of a period are those of its fixed rate and its extension
pub get_terms : (rates : FinMap nat_cmp Rates) (period : ℕ)
    → finite.get rates period ≡ option_map (λ fixed. rates_with fixed (finite.get (extension_rows rates) period)) (finite.get (rate_rows rates) period)
get_terms = Images.get_terms

-- the row of a serial number is that of its bond, with its ticket
pub get_bond_row : (bonds : FinMap serial_cmp Bond) (tickets : List Ticket) (serial : SerialNumber)
    → finite.get (bond_rows bonds tickets) (key_of serial) ≡ option_map (λ bond. bond_row (held_as tickets serial bond)) (finite.get bonds serial)
get_bond_row = Images.get_bond

-- the row of a desk's number is that of its reply
pub get_reply_row : (kept : FinMap number_cmp Kept) (number : RequestKey) → finite.get (reply_rows kept) number ≡ option_map reply_row (finite.get kept number)
get_reply_row = Images.get_reply

-- ---- rows in order
-- the rows of numbered tickets are theirs, one after the other
pub ticket_entries : (tickets : List Ticket) → NumberedFrom 1 tickets → entries (ticket_rows tickets) ≡ map ticket_entry tickets
ticket_entries = Orders.ticket_entries

-- the rows of their lines are theirs, ticket after ticket
pub paid_entries : (tickets : List Ticket) → NumberedFrom 1 tickets → entries (paid_rows tickets) ≡ flat_map ticket_lines tickets
paid_entries = Orders.paid_entries

-- the rows of extensions are those of the rates that have one
pub extension_entries : (rates : FinMap nat_cmp Rates) → entries (extension_rows rates) ≡ filter_map extension_entry (entries rates)
extension_entries = Images.extension_entries

-- the rows of batches whose days rise are theirs, one after the other
pub batch_entries : (batches : List Batch) → Rising (map day_of_batch batches) → entries (batch_rows batches) ≡ map batch_entry batches
batch_entries = Orders.batch_entries

-- the days of batches rise, whether a day is open or not
pub rising_front : (xs ys : List ℕ) → Rising (xs ++ ys) → Rising xs
rising_front = Orders.rising_front

-- the entries of a map of sorted entries are these
pub sorted_entries : {K X : Type 0} {R : K → K → Ordering} → IsTotalOrder R → IsAntisymmetric R → (es : List (K × X)) → T (is_sorted R es)
    → entries (from_entries {R = R} es) ≡ es
sorted_entries = Images.sorted_entries

-- ---- values
-- the days of sound books are in range
pub days_in_range : (books : PlainBooks) → IsSound books → IfSome books.day IsDay × IfSome books.last_day IsDay
days_in_range = DaysInRange.days_in_range

-- a right bond has the serial number that it stands at
pub right_bond_is_keyed : (rates : FinMap nat_cmp Rates) (s : SerialNumber) (o : Option Bond) → IfSome o (IsRightBond rates s)
    → IfSome o (λ bond. bond.serial ≡ s)
right_bond_is_keyed = OneContent.keyed

-- ---- the texts of a content
-- a row of a kept reply has texts in UTF-8
pub reply_texts : (content : Content) → IsRight content → (n : RequestKey) (row : ReplyRow) → finite.get (reply_rows content.kept) n ≡ Some row → IsText row
reply_texts = KeptTexts.reply_texts

-- the texts that a content keeps are UTF-8
pub kept_texts : (content : Content) → IsRight content → (n : RequestKey) → IfSome (finite.get (rows_of content).answers n) IsText
kept_texts = KeptTexts.kept_texts

-- ---- one content
-- rows represent one content at most
pub one_content : (version : ℕ) (rows : Rows) (one other : Content) → StandAt version rows one → StandAt version rows other → one ≡ other
one_content = OneContent.one_content
