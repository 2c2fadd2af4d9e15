-- What more bytes leave as it was.
use Rattle.std.proofs.Common.{◌≡◌, ℕ, ◌+◌, ◌-◌, ◌≤◌, List, [], ◌∷◌, ◌++◌, length, take, drop, slice_range, Ok, refl, sym, ap, subst, ◌∙◌, inl, inr, arith, append_assoc, length-append, length-drop, length-take-le, take-append-drop}
use Rattle.std.proofs.lemmas.List.{take_at, take-append-le, drop-drop, drop-take, take-take}
use Rattle.httparse.specs.Spans.{span_bytes}
use Rattle.httparse.specs.Grammar.{RequestHead, print_request}
use Rattle.httparse.proofs.GrammarLemmas.{ReadsRequest-append}
use Rattle.ee_wire_framing.specs.declared.FramingFault.{FramingFault}
use Rattle.ee_wire_framing.specs.declared.FramingFault.TheVariants.{BadHead, HeadTooLong}
use Rattle.ee_wire_framing.specs.declared.head.Head.{Head}
use Rattle.ee_wire_framing.specs.Framing.{BeginsHead, HasBadHead, HasBadFields, IsUndecided, BeginsFault, BeginsMessage}
use Rattle.ee_wire_framing.specs.Heads.{IsHeadAt}
use Rattle.ee_wire_framing.specs.Reading.{message_in}
use Rattle.ee_wire_framing.proofs.Heads.{span_in}

pub BeginsHead-append : (bytes more : List ℕ) (h : RequestHead) (rest : List ℕ) → BeginsHead bytes h rest → BeginsHead (bytes ++ more) h (rest ++ more)
BeginsHead-append bytes more h rest begins = (ReadsRequest-append bytes h rest more begins.0, begins.1)

pub HasBadHead-append : (bytes more : List ℕ) → HasBadHead bytes → HasBadHead (bytes ++ more)
HasBadHead-append bytes more (lines, rest, e, short, never) =
    (lines, rest ++ more, ap (λ l. l ++ more) e ∙ append_assoc lines (10 ∷ rest) more, short, never)

pub HasBadFields-append : (bytes more : List ℕ) (f : FramingFault) → HasBadFields bytes f → HasBadFields (bytes ++ more) f
HasBadFields-append bytes more f (h, rest, begins, framed) = (h, rest ++ more, BeginsHead-append bytes more h rest begins, framed)

-- a front that is short enough is one of the bytes so far
pub front_of : (bytes more front rest : List ℕ) → bytes ++ more ≡ front ++ rest → length front ≤ length bytes → bytes ≡ front ++ drop (length front) bytes
front_of bytes more front rest e fits =
    sym (take-append-drop (length front) bytes)
    ∙ ap (λ l. l ++ drop (length front) bytes) (sym (take-append-le (length front) bytes more fits) ∙ ap (take (length front)) e ∙ take_at front rest (length front) refl)

-- past the limit more bytes decide nothing
pub undecided_full : (bytes more : List ℕ) → 16384 ≤ length bytes → IsUndecided bytes → IsUndecided (bytes ++ more)
undecided_full bytes more full open_at = record {
  no_head = λ h rest begins.
      let limit : length (print_request h) ≤ 16384 = begins.1 in
      open_at.no_head h (drop (length (print_request h)) bytes)
      ((begins.0.0, front_of bytes more (print_request h) rest begins.0.1 (omega arith)), limit);
  not_bad = λ (lines, rest, e, short, never).
      let whole : bytes ++ more ≡ (lines ++ 10 ∷ []) ++ rest = e ∙ sym (append_assoc lines (10 ∷ []) rest) in
      let size : length (lines ++ 10 ∷ []) ≡ length lines + 1 = simp length-append in
      let back = front_of bytes more (lines ++ 10 ∷ []) rest whole (omega arith) in
      open_at.not_bad (lines, drop (length (lines ++ 10 ∷ [])) bytes, back ∙ append_assoc lines (10 ∷ []) _, short, never);
}

pub too_long : (bytes more : List ℕ) → 16384 ≤ length bytes → IsUndecided bytes → BeginsFault (bytes ++ more) HeadTooLong
too_long bytes more full open_at = inl (undecided_full bytes more full open_at, (let k = length-append bytes more in omega arith))

pub bad_head : (bytes more : List ℕ) → HasBadHead bytes → BeginsFault (bytes ++ more) BadHead
bad_head bytes more bad = inl (HasBadHead-append bytes more bad)

pub bad_fields : (bytes more : List ℕ) (f : FramingFault) → HasBadFields bytes f → BeginsFault (bytes ++ more) f
bad_fields bytes more f bad = inr (inl (HasBadFields-append bytes more f bad))

-- the summary of a head that stands there
pub begins_at : (bytes : List ℕ) (found : Head) (h : RequestHead) → found.len ≤ 16384 → IsHeadAt bytes found h → BeginsHead bytes h (drop found.len bytes)
begins_at bytes found h limit at = (at.reads, subst (λ n. n ≤ 16384) at.len limit)

pub whole_message : (bytes : List ℕ) (found : Head) (h : RequestHead) (n : ℕ) → found.len ≤ 16384 → IsHeadAt bytes found h
    → found.body ≡ Ok n → found.len + n ≤ length bytes
    → BeginsMessage bytes
    (message_in (take (found.len + n) bytes) (record { method = found.method; target = found.target; body = record { start = found.len; end = found.len + n }; closes = found.closes }))
    (drop (found.len + n) bytes)
whole_message bytes found h n limit at framed fits =
    let end = found.len + n in
    let body = slice_range (take end bytes) found.len end in
    let size : length (take end bytes) ≡ end = length-take-le end bytes fits in
    let count : end - found.len ≡ n = omega arith in
    let same : body ≡ take n (drop found.len bytes) =
    ap (take (end - found.len)) (drop-take found.len n bytes)
    ∙ take-take (end - found.len) n (drop found.len bytes) (omega arith)
    ∙ ap (λ k. take k (drop found.len bytes)) count in
    let split : drop found.len bytes ≡ body ++ drop end bytes =
    sym (take-append-drop n (drop found.len bytes)) ∙ ap (λ l. l ++ drop n (drop found.len bytes)) (sym same) ∙ ap (λ l. body ++ l) (drop-drop n found.len bytes) in
    let room : n ≤ length (drop found.len bytes) = omega (arith, length-drop found.len bytes) in
    let method : span_bytes (take end bytes) found.method ≡ h.method = span_in bytes end found.len found.method (omega arith) at.method_in ∙ at.method in
    let target : span_bytes (take end bytes) found.target ≡ h.target = span_in bytes end found.len found.target (omega arith) at.target_in ∙ at.target in
    record {
      head = h;
      body = body;
      reads = subst (BeginsHead bytes h) split (begins_at bytes found h limit at);
      framed = sym at.body ∙ framed ∙ ap Ok (sym (ap length same ∙ length-take-le n (drop found.len bytes) room));
      is = λ i. record { method = method i; target = target i; body = body; closes = at.closes i };
    }
