-- Definitions that private contracts alone cite; specs/Known.antt has the others.
use Rattle.std.specs.Prelude.{Result, OnOk}
use Rattle.sqlite.specs.State.{State, HasCleanDisk}
use Rattle.ee_desk_model.specs.declared.acts.Act.{Act}
use Rattle.ee_desk_model.specs.Acts.{books_after}
use Rattle.ee_desk_model.specs.PlainBooks.{PlainBooks}
use Rattle.ee_desk_model.specs.Repeats.{Content}
use Rattle.ee_store_tables.specs.Rows.{IsInside}
use Rattle.ee_store_tables.specs.declared.failures.Failure.{Failure}
use Rattle.ee_store_books.specs.Seen.{SeesContent}
use Rattle.ee_store_delivery.specs.declared.known.DayState.{DayState}
use Rattle.ee_store_delivery.specs.Known.{IsDayState, redeemed_counts}

-- the day state that the next redemption is decided on, after an act on the books
abbrev pub IsDayStateAfter : PlainBooks → Act → DayState → Type 0
IsDayStateAfter books asked day_state = IsDayState day_state (books_after books asked) (redeemed_counts (books_after books asked))

-- if the first held for the books that a transaction sees, the second holds for them now
abbrev pub LearnsIn : {X : Type 0} → State → State → Result X Failure → (PlainBooks → Type 0) → (PlainBooks → Type 0) → Type 0
LearnsIn old new result Before After = HasCleanDisk new → IsInside old → OnOk result ((content : Content) → SeesContent old content → Before content.books → After content.books)
