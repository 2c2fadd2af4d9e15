-- The fields of a head, one more at a time.
use Rattle.std.proofs.Common.{◌≡◌, ℕ, ◌+◌, ◌*◌, ◌<◌, ◌≤◌, ◌⊎◌, Bool, true, false, cond, ◌&&◌, List, [], ◌∷◌, ◌++◌, map, take, get_or, length, refl, sym, ap, subst, ◌∙◌, arith, append-nil, length-append, bytes_eq, leb}
use Rattle.std.specs.Bool.{Decides}
use Rattle.std.specs.Char.{to_ascii_lowercase, is_ascii_digit, digit_value}
use Rattle.std.specs.List.{list_all}
use Rattle.std.specs.Str.Parse.{digits_value}
use Rattle.std.proofs.lemmas.Bool.Decides.{same_from_decides, nat_tests}
use Rattle.std.proofs.lemmas.Slice.Eq.{bytes_eq-Decides}
use Rattle.std.proofs.lemmas.Int.Digits.{digits_value_push}
use Rattle.httparse.specs.declared.spans.Span.{Span}
use Rattle.httparse.specs.Spans.{IsWithin, span_bytes, IsHeaderWithin, header_bytes}
use Rattle.ee_wire_framing.specs.declared.fields.Values.{Values}
use Rattle.ee_wire_framing.specs.declared.fields.Values.TheVariants as values
use Rattle.std.specs.Prelude.{All, codes}
use Rattle.std.proofs.lemmas.List.{map_more, get_or-map, length-map, take_more}
use Rattle.std.proofs.lemmas.List.Elements.{All-get_or}
use Rattle.std.proofs.lemmas.List.Folds.{list_any_at, list_all-append}
use Rattle.httparse.specs.declared.spans.HeaderSpan.{HeaderSpan}
use Rattle.ee_wire_framing.specs.Framing.{Pair, same_word, values_of, has_close}
use Rattle.ee_wire_framing.specs.Inner.Heads.{AreValues, next}

pub word_test : (r : Bool) (a b : List ℕ) → Decides r (map to_ascii_lowercase a ≡ map to_ascii_lowercase b) → r ≡ same_word a b
unfolding same_word
word_test r a b h = same_from_decides r (bytes_eq (map to_ascii_lowercase a) (map to_ascii_lowercase b)) h (bytes_eq-Decides (map to_ascii_lowercase a) (map to_ascii_lowercase b))

pub values_push : (name : List ℕ) (fs : List Pair) (f : Pair) → values_of name (fs ++ f ∷ []) ≡ values_of name fs ++ cond (same_word f.0 name) (f.1 ∷ []) []
values_push name [] f = by (same_word f.0 name)
  where
    by : (b : Bool) → cond b (f.1 ∷ []) [] ≡ cond b (f.1 ∷ []) []
    by b = refl
values_push name (g ∷ fs) f = by (same_word g.0 name) (values_push name fs f)
  where
    by : (b : Bool) → values_of name (fs ++ f ∷ []) ≡ values_of name fs ++ cond (same_word f.0 name) (f.1 ∷ []) []
        → cond b (g.1 ∷ values_of name (fs ++ f ∷ [])) (values_of name (fs ++ f ∷ [])) ≡ cond b (g.1 ∷ values_of name fs) (values_of name fs) ++ cond (same_word f.0 name) (f.1 ∷ []) []
    by true h = ap (λ l. g.1 ∷ l) h
    by false h = h

pub one_more : (lines : List ℕ) (vs : List (List ℕ)) (found : Values) (s : Span) → IsWithin (length lines) s → AreValues lines vs found
    → AreValues lines (vs ++ span_bytes lines s ∷ []) (next found s)
one_more lines vs values.None s within are = (within, ap (λ l. l ++ span_bytes lines s ∷ []) are)
one_more lines vs (values.One t) s within are = let n = ap length are.1 in omega (arith, length-append vs (span_bytes lines s ∷ []))
one_more lines vs values.Many s within are = let n : 2 ≤ length vs = are in omega (arith, length-append vs (span_bytes lines s ∷ []))

pub values_step : (lines name : List ℕ) (fields : List HeaderSpan) (i : ℕ) (d : HeaderSpan) (b : Bool) (found new : Values) → i < length fields
    → All (IsHeaderWithin (length lines)) fields → b ≡ same_word (span_bytes lines (get_or fields i d).name) name
    → AreValues lines (values_of name (map (header_bytes lines) (take i fields))) found → new ≡ cond b (next found (get_or fields i d).value) found
    → AreValues lines (values_of name (map (header_bytes lines) (take (i + 1) fields))) new
values_step lines name fields i d b found new inside within test are is =
    let here = All-get_or (IsHeaderWithin (length lines)) fields i d inside within in
    let before = map (header_bytes lines) (take i fields) in
    let field = get_or fields i d in
    let more : values_of name (map (header_bytes lines) (take (i + 1) fields)) ≡ values_of name before ++ cond b (span_bytes lines field.value ∷ []) [] =
    ap (values_of name) (map_more (header_bytes lines) fields i d inside) ∙ values_push name before (header_bytes lines field)
    ∙ ap (λ v. values_of name before ++ cond v (span_bytes lines field.value ∷ []) []) (sym test) in
    let stepped : (v : Bool) → AreValues lines (values_of name before ++ cond v (span_bytes lines field.value ∷ []) []) (cond v (next found field.value) found) =
    λ v. elim v as (λ w. AreValues lines (values_of name before ++ cond w (span_bytes lines field.value ∷ []) []) (cond w (next found field.value) found)) [
      | true ↦ one_more lines (values_of name before) found field.value here.1 are
      | false ↦ subst (λ l. AreValues lines l found) (sym (append-nil (values_of name before))) are
    ] in
    subst (λ l. AreValues lines l new) (sym more) (subst (AreValues lines (values_of name before ++ cond b (span_bytes lines field.value ∷ []) [])) (sym is) (stepped b))

pub close_at : (lines : List ℕ) (fields : List HeaderSpan) (i : ℕ) (d : HeaderSpan) → i < length fields
    → same_word (span_bytes lines (get_or fields i d).name) (codes "connection") ≡ true
    → same_word (span_bytes lines (get_or fields i d).value) (codes "close") ≡ true
    → has_close (map (header_bytes lines) fields) ≡ true
close_at lines fields i d inside name value =
    let test : Pair → Bool = λ f. same_word f.0 (codes "connection") && same_word f.1 (codes "close") in
    list_any_at test (map (header_bytes lines) fields) i (header_bytes lines d) (omega (arith, length-map fields (header_bytes lines)))
    (ap test (get_or-map (header_bytes lines) fields i d (header_bytes lines d) inside) ∙ (λ j. name j && value j))

pub digit_small : (b : ℕ) → is_ascii_digit b ≡ true → digit_value b ≤ 9
digit_small b h = grind (arith, nat_tests, h)

-- one more digit: v is the value so far, capped past the limit
pub digit_step : (digits : List ℕ) (b v w : ℕ) → is_ascii_digit b ≡ true
    → (v ≡ digits_value 10 digits) ⊎ ((1048576 < v) × (1048576 < digits_value 10 digits))
    → w ≡ cond (leb v 1048576) (v * 10 + digit_value b) v
    → (w ≡ digits_value 10 (digits ++ b ∷ [])) ⊎ ((1048576 < w) × (1048576 < digits_value 10 (digits ++ b ∷ [])))
digit_step digits b v w digit so is =
    let more = digits_value_push 10 digits b in grind (arith, nat_tests, so, is, more)

pub digits_more : (text : List ℕ) (i : ℕ) → i < length text → is_ascii_digit (get_or text i 0) ≡ true → list_all is_ascii_digit (take i text) ≡ true
    → list_all is_ascii_digit (take (i + 1) text) ≡ true
digits_more text i inside digit all =
    ap (list_all is_ascii_digit) (take_more text i 0 inside) ∙ list_all-append is_ascii_digit (take i text) (get_or text i 0 ∷ []) ∙ (λ j. all j && (digit j && true))
