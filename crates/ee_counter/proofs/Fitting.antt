-- The texts of a message's request, and of the reply to it, are short.
use Rattle.std.proofs.Common.{◌≡◌, ℕ, ◌≤◌, Bool, true, false, List, [], ◌∷◌, length, Result, Ok, Err, refl, subst, sym, arith}
use Rattle.std.specs.Prelude.{IfOk, nat_lt, not, codes, if◌then◌else◌}
use Rattle.std.specs.Str.Parse.{digits_value}
use Rattle.std.proofs.lemmas.Bool.{ltb-false}
use Rattle.ee_wire_framing.specs.Framing.{Message, BeginsMessage, is_digits, stated_length, unless_coded, body_length, values_of, most_body, most_fields, Pair}
use Rattle.ee_wire_framing.specs.declared.FramingFault.{FramingFault}
use Rattle.ee_wire_framing.specs.declared.FramingFault.TheVariants.{BadHead, BodyTooLong, BadLength}
use Rattle.ee_desk_model.specs.declared.acts.Request.{Request}
use Rattle.ee_desk_model.specs.Repeats.{Content}
use Rattle.ee_counter.specs.Answering.{FitsCall, TextsWithin, call_of}
use Rattle.ee_counter.proofs.Sizes.{rows, fits_call}
use Rattle.ee_counter.proofs.Lengths.{texts_most}

-- ---- the length of a body

abbrev IsShort : Result ℕ FramingFault → Type 0
IsShort r = IfOk r (λ n. n ≤ 1048576)

by_value : (over : Bool) (n : ℕ) → nat_lt most_body n ≡ over → IsShort (if over then Err BodyTooLong else Ok n)
by_value true n is = tt
by_value false n is = ltb-false most_body n is

by_digits : (are : Bool) (text : List ℕ) → IsShort (if not are then Err BadLength else (if nat_lt most_body (digits_value 10 text) then Err BodyTooLong else Ok (digits_value 10 text)))
by_digits true text = by_value (nat_lt most_body (digits_value 10 text)) (digits_value 10 text) refl
by_digits false text = tt

stated_short : (texts : List (List ℕ)) → IsShort (stated_length texts)
stated_short [] = omega arith
stated_short (text ∷ []) = by_digits (is_digits text) text
stated_short (text ∷ other ∷ others) = tt

coded_short : (codings : List (List ℕ)) (r : Result ℕ FramingFault) → IsShort r → IsShort (unless_coded codings r)
coded_short [] r short = short
coded_short (coding ∷ codings) r short = tt

fields_short : (many : Bool) (r : Result ℕ FramingFault) → IsShort r → IsShort (if many then Err BadHead else r)
fields_short true r short = tt
fields_short false r short = short

length_short : (fields : List Pair) → IsShort (body_length fields)
length_short fields =
    fields_short (nat_lt most_fields (length fields)) _ (coded_short (values_of (codes "transfer-encoding") fields) _ (stated_short (values_of (codes "content-length") fields)))

-- ---- messages

short_texts : (c : Content) (q : Request) → rows q.act ≤ 1048577 → TextsWithin 900000000 c q
short_texts c q few = omega (arith, few, texts_most c.books q.act)

pub message_fits : (c : Content) (bytes rest : List ℕ) (m : Message) → BeginsMessage bytes m rest → FitsCall (TextsWithin 900000000) c (call_of m)
message_fits c bytes rest m it =
    let short : length it.body ≤ 1048576 = subst IsShort it.framed (length_short _) in
    subst (λ n. FitsCall (TextsWithin 900000000) c (call_of n)) (sym it.is)
    (fits_call (TextsWithin 900000000) c it.head.target it.head.method it.body (λ q few. short_texts c q (omega (arith, few, short))))

-- a file's rows are at most 501
pub file_fits : (c : Content) (q : Request) → rows q.act ≤ 501 → TextsWithin 900000000 c q
file_fits c q few = short_texts c q (omega (arith, few))
