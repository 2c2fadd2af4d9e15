-- Requests with repeats, and the same requests without them (this project's rule: a number acts at most once).
use Rattle.std.specs.Prelude.{Bool, ◌||◌, List, [], ◌∷◌, if◌then◌else◌}
use Rattle.std.specs.FinMap as finite
use Rattle.std.specs.FinMap.{FinMap}
use Rattle.ee_desk_model.specs.Numbers.{RequestKey, number_cmp, same_number, number_of}
use Rattle.ee_desk_model.specs.declared.acts.Request.{Request}
use Rattle.ee_desk_model.specs.declared.changes.Kept.{Kept}
use Rattle.ee_desk_model.specs.PlainBooks.{PlainBooks, no_books}

-- books, and the kept replies by request number
pub record Content : Type 0 where
  pub books : PlainBooks
  pub kept : FinMap number_cmp Kept

abbrev pub nothing : Content
nothing = record { books = no_books; kept = finite.empty }

-- the first request of each number that isn't known
abbrev pub firsts : (RequestKey → Bool) → List Request → List Request
firsts known [] = []
firsts known (q ∷ qs) = if known (number_of q) then firsts known qs else q ∷ firsts (λ n. known n || (same_number n (number_of q))) qs

-- the requests without repeats
abbrev pub once : Content → List Request → List Request
once start requests = firsts (λ n. finite.contains_key start.kept n) requests
