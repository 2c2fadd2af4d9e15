-- How a stream of bytes is split into requests: a head by the grammar of HTTP/1.x, and a body with the length that the head states.
use Rattle.std.specs.Prelude.{◌≡◌, ℕ, ◌<◌, ◌≤◌, ◌⊎◌, Bool, ◌&&◌, ◌||◌, ◌==◌, nat_lt, not, if◌then◌else◌, List, [], ◌∷◌, ◌++◌, length, map, codes, bytes_eq, Option, Some, None, Result, Ok, Err}
use Rattle.std.specs.List.{list_all, list_any}
use Rattle.std.specs.Char.{is_ascii_digit, to_ascii_lowercase}
use Rattle.std.specs.Str.Parse.{digits_value}
use Rattle.httparse.specs.Ascii.{line_feed}
use Rattle.httparse.specs.Grammar.{RequestHead, ReadsRequest, NeverHasRequest, print_request}
use Rattle.httparse.specs.Spans.{name_and_value}
use Rattle.ee_wire_framing.specs.declared.FramingFault.{FramingFault}
use Rattle.ee_wire_framing.specs.declared.FramingFault.TheVariants.{BadHead, HeadTooLong, BodyTooLong, BadLength, Truncated}

-- ---- the limits

-- the maximum length of a head in bytes
abbrev pub most_head : ℕ
most_head = 16384

-- the maximum number of fields in a head
abbrev pub most_fields : ℕ
most_fields = 32

-- the maximum length of a body in bytes
abbrev pub most_body : ℕ
most_body = 1048576

-- the maximum number of bytes held: a head, a body, and one read
abbrev pub most_held : ℕ
most_held = 1069056

-- ---- the head

-- the bytes are the head h, of at most 16,384 bytes, followed by rest
abbrev pub BeginsHead : List ℕ → RequestHead → List ℕ → Type 0
BeginsHead bytes h rest = ReadsRequest bytes h rest × (length (print_request h) ≤ most_head)

-- the lines up to some line feed in the first 16,384 bytes begin no head, whatever follows
abbrev pub HasBadHead : List ℕ → Type 0
HasBadHead bytes =
    (lines : List ℕ) × (rest : List ℕ) × (bytes ≡ lines ++ line_feed ∷ rest)
    × (length lines < most_head) × NeverHasRequest (lines ++ line_feed ∷ [])

-- neither holds: the bytes contain no head yet, and may still become one
pub record IsUndecided (bytes : List ℕ) : Type 0 where
  pub no_head : (h : RequestHead) (rest : List ℕ) → ¬ (BeginsHead bytes h rest)
  pub not_bad : ¬ (HasBadHead bytes)

-- ---- the length of the body

-- a field's name and value
abbrev pub Pair : Type 0
Pair = List ℕ × List ℕ

-- the same text, ignoring ASCII case
unfoldable pub same_word : List ℕ → List ℕ → Bool
same_word a b = bytes_eq (map to_ascii_lowercase a) (map to_ascii_lowercase b)

-- the values of the fields with this name
abbrev pub values_of : List ℕ → List Pair → List (List ℕ)
values_of name [] = []
values_of name (f ∷ fs) = if same_word f.0 name then f.1 ∷ values_of name fs else values_of name fs

-- one or more digits, and nothing else
abbrev pub is_digits : List ℕ → Bool
is_digits text = nat_lt 0 (length text) && list_all is_ascii_digit text

abbrev pub checked_length : List ℕ → Result ℕ FramingFault
checked_length text =
    if not (is_digits text) then Err BadLength
    else (if nat_lt most_body (digits_value 10 text) then Err BodyTooLong else Ok (digits_value 10 text))

abbrev pub stated_length : List (List ℕ) → Result ℕ FramingFault
stated_length [] = Ok 0
stated_length (text ∷ []) = checked_length text
stated_length (text ∷ other ∷ others) = Err BadLength

abbrev pub unless_coded : List (List ℕ) → Result ℕ FramingFault → Result ℕ FramingFault
unless_coded [] length = length
unless_coded (coding ∷ codings) length = Err BadLength

-- the length of the body, or the fault of the fields that state it
abbrev pub body_length : List Pair → Result ℕ FramingFault
body_length fields =
    if nat_lt most_fields (length fields) then Err BadHead
    else unless_coded (values_of (codes "transfer-encoding") fields) (stated_length (values_of (codes "content-length") fields))

abbrev pub body_length_of : RequestHead → Result ℕ FramingFault
body_length_of h = body_length (map name_and_value h.fields)

-- a field `Connection: close`
abbrev pub has_close : List Pair → Bool
has_close fields = list_any (λ f. same_word f.0 (codes "connection") && same_word f.1 (codes "close")) fields

-- HTTP/1.0, or that field
abbrev pub asks_to_close : RequestHead → Bool
asks_to_close h = (h.minor == 0) || has_close (map name_and_value h.fields)

-- ---- messages

pub record Message : Type 0 where
  pub method : List ℕ
  pub target : List ℕ
  pub body : List ℕ
  pub closes : Bool

-- the message with this head and body
abbrev pub message_of : RequestHead → List ℕ → Message
message_of h body = record { method = h.method; target = h.target; body = body; closes = asks_to_close h }

-- the bytes begin with this message, followed by rest
pub record BeginsMessage (bytes : List ℕ) (m : Message) (rest : List ℕ) : Type 0 where
  pub head : RequestHead
  pub body : List ℕ
  pub reads : BeginsHead bytes head (body ++ rest)
  pub framed : body_length_of head ≡ Ok (length body)
  pub is : m ≡ message_of head body

-- the bytes begin with no head within the limit, for this cause
abbrev pub LacksHead : List ℕ → FramingFault → Type 0
LacksHead bytes BadHead = HasBadHead bytes
LacksHead bytes HeadTooLong = IsUndecided bytes × (most_head ≤ length bytes)
LacksHead bytes Truncated = IsUndecided bytes × (0 < length bytes) × (length bytes < most_head)
LacksHead bytes BodyTooLong = ⊥
LacksHead bytes BadLength = ⊥

-- the bytes begin with a head whose fields are refused for this cause
abbrev pub HasBadFields : List ℕ → FramingFault → Type 0
HasBadFields bytes fault =
    (h : RequestHead) × (rest : List ℕ) × BeginsHead bytes h rest × (body_length_of h ≡ Err fault)

-- the bytes begin with a head, and lack a part of its body
abbrev pub HasCutBody : List ℕ → Type 0
HasCutBody bytes =
    (h : RequestHead) × (rest : List ℕ) × (n : ℕ) × BeginsHead bytes h rest
    × (body_length_of h ≡ Ok n) × (length rest < n)

-- the bytes begin with no message, for this cause
abbrev pub BeginsFault : List ℕ → FramingFault → Type 0
BeginsFault bytes fault =
    LacksHead bytes fault ⊎ HasBadFields bytes fault ⊎ ((fault ≡ Truncated) × HasCutBody bytes)

-- how the messages end
pub data Ending : Type 0 where
  end : Ending
  fault : FramingFault → Ending

-- ends with this fault, or without one
abbrev pub ending_of : Option FramingFault → Ending
ending_of None = end
ending_of (Some f) = fault f

abbrev pub EndsWith : List ℕ → Ending → Type 0
EndsWith bytes end = bytes ≡ []
EndsWith bytes (fault f) = BeginsFault bytes f

-- the bytes begin with these messages in order, followed by rest
abbrev pub BeginsMessages : List ℕ → List Message → List ℕ → Type 0
BeginsMessages bytes [] rest = bytes ≡ rest
BeginsMessages bytes (m ∷ ms) rest = (after : List ℕ) × BeginsMessage bytes m after × BeginsMessages after ms rest

-- the bytes are these messages, with this ending
pub record Splits (bytes : List ℕ) (messages : List Message) (ending : Ending) : Type 0 where
  pub rest : List ℕ
  pub first : BeginsMessages bytes messages rest
  pub last : EndsWith rest ending
