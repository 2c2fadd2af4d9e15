-- What is known about the front of some bytes.
use Rattle.std.specs.Prelude.{◌≡◌, ◌≢◌, ℕ, ◌<◌, ◌≤◌, List, [], ◌∷◌, ◌++◌, length, take, drop, get_or, Option, Some, None}
use Rattle.httparse.specs.Ascii.{line_feed}
use Rattle.httparse.specs.Grammar.{LineEnd, lf, print_blank, RequestHead, ReadsRequest, print_request}
use Rattle.httparse.specs.Spans.{IsWithin, span_bytes}
use Rattle.ee_wire_framing.specs.declared.head.Head.{Head}
use Rattle.ee_wire_framing.specs.declared.head.Lines.{Lines}
use Rattle.ee_wire_framing.specs.declared.head.Lines.TheVariants as lines
use Rattle.ee_wire_framing.specs.declared.front.Progress.{Progress}
use Rattle.ee_wire_framing.specs.declared.front.Progress.TheVariants as progress
use Rattle.ee_wire_framing.specs.Framing.{most_head, body_length_of, asks_to_close}

-- the bytes begin with the head h, and `found` is its summary
pub record IsHeadAt (bytes : List ℕ) (found : Head) (h : RequestHead) : Type 0 where
  pub reads : ReadsRequest bytes h (drop found.len bytes)
  pub len : found.len ≡ length (print_request h)
  pub in_bytes : found.len ≤ length bytes
  pub method_in : IsWithin found.len found.method
  pub method : span_bytes bytes found.method ≡ h.method
  pub target_in : IsWithin found.len found.target
  pub target : span_bytes bytes found.target ≡ h.target
  pub body : found.body ≡ body_length_of h
  pub closes : found.closes ≡ asks_to_close h

-- the bytes are empty lines, or none
abbrev pub AreEmptyLines : List ℕ → Type 0
AreEmptyLines lines = (ends : List LineEnd) × (lines ≡ print_blank ends)

-- the bytes are all lines of a head except the last, which is empty
abbrev pub AreFieldLines : List ℕ → Type 0
AreFieldLines lines = (h : RequestHead) × ReadsRequest (lines ++ line_feed ∷ []) h [] × (h.last ≡ lf)

-- the last line feed at or after start and before end, if there is one
abbrev pub IsLastLineFeed : List ℕ → ℕ → ℕ → Option ℕ → Type 0
IsLastLineFeed bytes start end None = (k : ℕ) → start ≤ k → k < end → get_or bytes k 0 ≢ line_feed
IsLastLineFeed bytes start end (Some at) =
    (start ≤ at) × (at < end) × (get_or bytes at 0 ≡ line_feed) × ((k : ℕ) → at < k → k < end → get_or bytes k 0 ≢ line_feed)

abbrev pub length_of : Lines → ℕ
length_of (lines.Empty n) = n
length_of (lines.Fields n) = n

-- the bytes begin with these lines
abbrev pub BeginsLines : List ℕ → Lines → Type 0
BeginsLines bytes (lines.Empty n) = AreEmptyLines (take n bytes)
BeginsLines bytes (lines.Fields n) = AreFieldLines (take n bytes)

-- the bytes begin with these lines, without a line feed after them among the first n bytes
pub record AreLinesUpTo (bytes : List ℕ) (tested : Lines) (n : ℕ) : Type 0 where
  pub begins : BeginsLines bytes tested
  pub ordered : length_of tested ≤ n
  pub in_bytes : n ≤ length bytes
  pub limit : n ≤ most_head
  pub none : IsLastLineFeed bytes (length_of tested) n None

-- what earlier tests found in the bytes: lines within the first n bytes, or a head
abbrev pub Knows : List ℕ → Progress → Type 0
Knows bytes (progress.Tested tested n) = AreLinesUpTo bytes tested n
Knows bytes (progress.Found found) = (h : RequestHead) × IsHeadAt bytes found h × (found.len ≤ most_head)
