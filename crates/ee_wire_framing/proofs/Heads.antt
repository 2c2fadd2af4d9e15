-- What the grammar of heads says at a line feed.
use Rattle.std.proofs.Common.{◌≡◌, ◌≢◌, ℕ, ◌+◌, ◌*◌, ◌-◌, ◌<◌, ◌≤◌, min, List, [], ◌∷◌, ◌++◌, length, take, drop, get_or, refl, sym, ap, subst, ◌∙◌, arith, append_assoc, append-nil, length-append, length-take, take-append-drop}
use Rattle.std.specs.Prelude.{All}
use Rattle.std.specs.List.{flat_map}
use Rattle.std.proofs.lemmas.List.{take_at, drop_at, get_or_at, take_more, drop_more, take-take, drop-take}
use Rattle.std.proofs.lemmas.List.Elements.{All-head, All-tail}
use Rattle.httparse.specs.declared.Error.{Error}
use Rattle.httparse.specs.declared.Error.TheVariants.{HeaderName, HeaderValue, NewLine, Status, Token, TooManyHeaders, Version}
use Rattle.httparse.specs.declared.spans.Span.{Span}
use Rattle.httparse.specs.Ascii.{line_feed}
use Rattle.httparse.specs.Grammar.{LineEnd, crlf, lf, print_end, print_blank, print_version, Field, print_field, IsField, RequestHead, print_request, HasNoRequest, NeverHasRequest}
use Rattle.httparse.specs.Spans.{RequestExceeds, IsWithin, span_bytes}
use Rattle.ee_wire_framing.specs.declared.head.Head.{Head}
use Rattle.ee_wire_framing.specs.Framing.{IsUndecided, HasBadHead}
use Rattle.ee_wire_framing.specs.Heads.{IsHeadAt}
use Rattle.ee_wire_framing.specs.Inner.Heads.{IsLines}

-- the lines begin no head, and more bytes may change that
pub record IsOpen (lines : List ℕ) : Type 0 where
  pub no_head : HasNoRequest lines
  pub not_bad : ¬ (NeverHasRequest lines)

-- at each line feed among the first n bytes, the lines so far are open
abbrev pub AreOpen : List ℕ → ℕ → Type 0
AreOpen bytes n = (k : ℕ) → k < n → get_or bytes k 0 ≡ line_feed → IsOpen (take (k + 1) bytes)

-- ---- room for the fields

pub end_length : (e : LineEnd) → 1 ≤ length (print_end e)
end_length crlf = omega arith
end_length lf = omega arith

pub fields_length : (fs : List Field) → All IsField fs → 3 * length fs ≤ length (flat_map print_field fs)
fields_length [] h = omega arith
fields_length (f ∷ fs) h =
    let here = All-head IsField f fs h in
    let rest = fields_length fs (All-tail IsField f fs h) in
    let name : 0 < length f.name = here.name.0 in
    let e = end_length f.end in
    simp length-append (omega arith)

pub request_length : (h : RequestHead) → All IsField h.fields → 3 * length h.fields ≤ length (print_request h)
unfolding print_request
request_length h fields =
    let n = fields_length h.fields fields in simp length-append (omega arith)

-- lines within the limit exceed only a room of fewer headers
pub exceeds_less : (n : ℕ) (lines : List ℕ) → length lines ≤ 16384 → RequestExceeds n lines → n < 5462
exceeds_less n lines short (front, rest, e, h, reads, many) =
    let k = request_length h reads.0.fields in
    let whole : front ++ 10 ∷ [] ≡ print_request h = reads.1 ∙ append-nil _ in
    let a = ap length whole in
    let b = length-append front (10 ∷ []) in
    let c = ap length e in
    let d = length-append front rest in
    omega arith

-- an error other than want of room, or want of room
pub by_error : {P : Type 0} (e : Error) → (e ≢ TooManyHeaders → P) → (e ≡ TooManyHeaders → P) → P
by_error HeaderName f g = f (λ x. cc)
by_error HeaderValue f g = f (λ x. cc)
by_error NewLine f g = f (λ x. cc)
by_error Status f g = f (λ x. cc)
by_error Token f g = f (λ x. cc)
by_error TooManyHeaders f g = g refl
by_error Version f g = f (λ x. cc)

-- ---- the first line feed that decides

-- a head ends with a line feed
pub request_is_lines : (h : RequestHead) → IsLines (print_request h)
unfolding print_request
request_is_lines h = by h.last
  where
    start : List ℕ
    start = print_blank h.blank ++ h.method ++ 32 ∷ h.target ++ 32 ∷ print_version h.minor ++ print_end h.line_end

    by : (e : LineEnd) → IsLines (start ++ (flat_map print_field h.fields ++ print_end e))
    by crlf = (start ++ (flat_map print_field h.fields ++ 13 ∷ []), simp append_assoc)
    by lf = (start ++ flat_map print_field h.fields, simp append_assoc)

-- the line feed at the end of some lines, in the whole
pub line_place : (front rest bytes : List ℕ) → bytes ≡ (front ++ 10 ∷ []) ++ rest
    → (length front < length bytes) × (get_or bytes (length front) 0 ≡ 10) × (take (length front + 1) bytes ≡ front ++ 10 ∷ [])
line_place front rest bytes e = (
  (let k = simp length-append at (ap length e) in omega arith),
  ap (λ l. get_or l (length front) 0) (e ∙ append_assoc front (10 ∷ []) rest) ∙ get_or_at front 10 rest 0 (length front) refl,
  ap (take (length front + 1)) e ∙ take_at (front ++ 10 ∷ []) rest (length front + 1) (simp length-append),
)

pub undecided : (bytes : List ℕ) (n : ℕ) → n ≡ min (length bytes) 16384 → AreOpen bytes n → IsUndecided bytes
undecided bytes n all open_at = record {
  no_head = λ h rest begins.
      let lines = request_is_lines h in
      let whole : bytes ≡ (lines.0 ++ 10 ∷ []) ++ rest = begins.0.1 ∙ ap (λ l. l ++ rest) lines.1 in
      let place = line_place lines.0 rest bytes whole in
      let size = simp length-append at (ap length lines.1) in
      let here = open_at (length lines.0) (omega arith) place.1 in
      here.no_head h [] (begins.0.0, place.2 ∙ sym lines.1 ∙ sym (append-nil (print_request h)));
  not_bad = λ (lines, rest, e, short, never).
      let place = line_place lines rest bytes (e ∙ sym (append_assoc lines (10 ∷ []) rest)) in
      let here = open_at (length lines) (omega arith) place.1 in
      here.not_bad (subst NeverHasRequest (sym place.2) never);
}

-- lines that no head begins with, in the whole
pub bad_in : (bytes : List ℕ) (at : ℕ) → at < length bytes → at < 16384 → get_or bytes at 0 ≡ 10
    → NeverHasRequest (take (at + 1) bytes) → HasBadHead bytes
bad_in bytes at inside short here never =
    let lines : take (at + 1) bytes ≡ take at bytes ++ 10 ∷ [] = take_more bytes at 0 inside ∙ ap (λ b. take at bytes ++ b ∷ []) here in (
      take at bytes,
      drop (at + 1) bytes,
      sym (take-append-drop at bytes) ∙ ap (λ l. take at bytes ++ l) (drop_more bytes at 0 inside ∙ ap (λ b. b ∷ drop (at + 1) bytes) here),
      omega (arith, length-take at bytes),
      subst NeverHasRequest lines never,
    )

pub span_in : (bytes : List ℕ) (n len : ℕ) (s : Span) → len ≤ length (take n bytes) → IsWithin len s → span_bytes (take n bytes) s ≡ span_bytes bytes s
span_in bytes n len s fits within =
    let reach : len ≤ n = omega (arith, length-take n bytes) in
    let split : n ≡ s.start + (n - s.start) = let a = within.0 in let b = within.1 in omega arith in
    ap (λ m. take (s.end - s.start) (drop s.start (take m bytes))) split
    ∙ ap (take (s.end - s.start)) (drop-take s.start (n - s.start) bytes)
    ∙ take-take (s.end - s.start) (n - s.start) (drop s.start bytes) (let b = within.1 in omega arith)

-- a head of a front of the bytes is one of the bytes
pub head_in : (bytes : List ℕ) (n : ℕ) (found : Head) (h : RequestHead) → IsHeadAt (take n bytes) found h → IsHeadAt bytes found h
head_in bytes n found h at =
    let whole : bytes ≡ print_request h ++ (drop found.len (take n bytes) ++ drop n bytes) =
    sym (take-append-drop n bytes) ∙ ap (λ l. l ++ drop n bytes) at.reads.1 ∙ append_assoc (print_request h) _ _ in
    let rest : drop found.len bytes ≡ drop found.len (take n bytes) ++ drop n bytes =
    ap (drop found.len) whole ∙ drop_at (print_request h) _ found.len (sym at.len) in
    record {
      reads = (at.reads.0, whole ∙ ap (λ l. print_request h ++ l) (sym rest));
      len = at.len;
      in_bytes = (let a = at.in_bytes in omega (arith, length-take n bytes));
      method_in = at.method_in;
      method = sym (span_in bytes n found.len found.method at.in_bytes at.method_in) ∙ at.method;
      target_in = at.target_in;
      target = sym (span_in bytes n found.len found.target at.in_bytes at.target_in) ∙ at.target;
      body = at.body;
      closes = at.closes;
    }
