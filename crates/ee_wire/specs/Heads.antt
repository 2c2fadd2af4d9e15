-- The head of a response (RFC 9112, section 4; its headers are this project's rule).
use Rattle.std.specs.Prelude.{ℕ, Bool, if◌then◌else◌, List, [], ◌∷◌, ◌++◌, codes, decimal}
use Rattle.ee_wire.specs.declared.answers.Status.{Status}
use Rattle.ee_wire.specs.declared.answers.Status.TheVariants as status
use Rattle.ee_wire.specs.declared.answers.Kind.{Kind}
use Rattle.ee_wire.specs.declared.answers.Kind.TheVariants as kind

-- a text, followed by CR and LF
unfoldable pub line : List ℕ → List ℕ
line text = text ++ 13 ∷ 10 ∷ []

abbrev pub status_line : Status → List ℕ
status_line status.Ok = codes "HTTP/1.1 200 OK"
status_line status.BadRequest = codes "HTTP/1.1 400 Bad Request"
status_line status.NotFound = codes "HTTP/1.1 404 Not Found"
status_line status.MethodNotAllowed = codes "HTTP/1.1 405 Method Not Allowed"
status_line status.Conflict = codes "HTTP/1.1 409 Conflict"
status_line status.ContentTooLarge = codes "HTTP/1.1 413 Content Too Large"
status_line status.ServiceUnavailable = codes "HTTP/1.1 503 Service Unavailable"

abbrev pub kind_line : Kind → List ℕ
kind_line kind.Json = codes "Content-Type: application/json"
kind_line kind.Text = codes "Content-Type: text/plain"

abbrev pub closing_line : Bool → List ℕ
closing_line closes = if closes then line (codes "Connection: close") else []

-- the head of a response with a body of `length` bytes
unfoldable pub head_text : Status → Kind → ℕ → Bool → List ℕ
head_text status kind length closes =
    line (status_line status)
    ++ line (kind_line kind)
    ++ line (codes "Content-Length: " ++ decimal length)
    ++ closing_line closes
    ++ line []
