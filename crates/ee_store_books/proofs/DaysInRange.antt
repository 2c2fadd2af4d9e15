-- The days of sound books are in range.
use Rattle.std.proofs.Common.{ℕ, List, [], ◌∷◌, ◌++◌, map, sym, subst}
use Rattle.std.specs.Prelude.{Option, Some, None, IfSome}
use Rattle.std.specs.List.{AllByRecursion}
use Rattle.ee_desk_model.specs.declared.replies.Batch.{Batch}
use Rattle.ee_desk_model.specs.PlainBooks.{PlainBooks}
use Rattle.ee_desk_model.specs.Sound.{IsDay, IsSound, day_of_batch, last_of, open_days}
use Rattle.ee_store_books.proofs.Orders.{all_front}

all_back : (P : ℕ → Type 0) (xs ys : List ℕ) → AllByRecursion P (xs ++ ys) → AllByRecursion P ys
all_back P [] ys h = h
all_back P (x ∷ xs) ys h = all_back P xs ys h.1

all_days : (day : Option ℕ) → AllByRecursion IsDay (open_days day) → IfSome day IsDay
all_days None h = tt
all_days (Some d) h = h.0

last_fits : (batches : List Batch) → AllByRecursion IsDay (map day_of_batch batches) → IfSome (last_of batches) IsDay
last_fits [] h = tt
last_fits (b ∷ []) h = h.0
last_fits (b ∷ c ∷ batches) h = last_fits (c ∷ batches) h.1

pub days_in_range : (books : PlainBooks) → IsSound books → IfSome books.day IsDay × IfSome books.last_day IsDay
days_in_range books sound = (
  all_days books.day (all_back IsDay (map day_of_batch books.batches) (open_days books.day) sound.in_range),
  subst (λ o. IfSome o IsDay) (sym sound.last) (last_fits books.batches (all_front IsDay (map day_of_batch books.batches) (open_days books.day) sound.in_range)),
)
