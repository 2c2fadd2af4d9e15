-- The books and the content after a list of requests.
use Rattle.std.specs.Prelude.{List, [], ◌∷◌}
use Rattle.std.specs.FinMap as finite
use Rattle.std.specs.FinMap.{FinMap}
use Rattle.ee_desk_model.specs.Numbers.{number_cmp, number_of}
use Rattle.ee_desk_model.specs.declared.acts.Request.{Request}
use Rattle.ee_desk_model.specs.declared.changes.Kept.{Kept}
use Rattle.ee_desk_model.specs.PlainBooks.{PlainBooks}
use Rattle.ee_desk_model.specs.Outcomes.{act}
use Rattle.ee_desk_model.specs.Repeats.{Content, once}

-- the books after the acts of a list of requests, whatever their numbers
abbrev pub acted : PlainBooks → List Request → PlainBooks
acted books [] = books
acted books (q ∷ qs) = acted (act books q.act).books qs

abbrev pub books_after : Content → List Request → PlainBooks
books_after start requests = acted start.books (once start requests)

-- one kept entry for each request: its number, its act and its reply
abbrev pub noted : PlainBooks → FinMap number_cmp Kept → List Request → FinMap number_cmp Kept
noted books kept [] = kept
noted books kept (q ∷ qs) =
    noted (act books q.act).books (finite.insert kept (number_of q) (record { act = q.act; reply = (act books q.act).reply })) qs

abbrev pub content_after : Content → List Request → Content
content_after start requests =
    record { books = books_after start requests; kept = noted start.books start.kept (once start requests) }
