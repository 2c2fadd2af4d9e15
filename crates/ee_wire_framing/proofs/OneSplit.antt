-- A stream is split in one way.
use Rattle.std.proofs.Common.{◌≡◌, ℕ, ◌<◌, List, [], ◌∷◌, ◌++◌, length, Result, Ok, Err, refl, sym, ap, subst, ◌∙◌, inl, inr, arith, append_assoc, length-append, take, drop}
use Rattle.std.proofs.lemmas.List.{take_at, drop_at}
use Rattle.httparse.specs.Grammar.{RequestHead}
use Rattle.httparse.proofs.GrammarLemmas.{request_unique}
use Rattle.ee_wire_framing.specs.declared.FramingFault.{FramingFault}
use Rattle.ee_wire_framing.specs.declared.FramingFault.TheVariants.{BadHead, HeadTooLong, BodyTooLong, BadLength, Truncated}
use Rattle.ee_wire_framing.specs.Framing.{BeginsHead, LacksHead, BeginsFault, BeginsMessage, Message, message_of, body_length_of, Ending, end, fault, EndsWith, BeginsMessages, Splits}
use Rattle.ee_wire_framing.proofs.Heads.{request_is_lines}

-- there is something in a head
pub head_some : (bytes : List ℕ) (h : RequestHead) (rest : List ℕ) → BeginsHead bytes h rest → 0 < length bytes
head_some bytes h rest begins =
    let lines = request_is_lines h in
    let size = simp length-append at (ap length lines.1) in
    let whole = simp length-append at (ap length begins.0.1) in
    omega arith

pub head_excludes : (bytes : List ℕ) (h : RequestHead) (rest : List ℕ) (f : FramingFault) → BeginsHead bytes h rest → LacksHead bytes f → ⊥
head_excludes bytes h rest BadHead begins (lines, after, e, short, never) =
    never after h rest (begins.0.0, append_assoc lines (10 ∷ []) after ∙ sym e ∙ begins.0.1)
head_excludes bytes h rest HeadTooLong begins lacks = lacks.0.no_head h rest begins
head_excludes bytes h rest Truncated begins lacks = lacks.0.no_head h rest begins
head_excludes bytes h rest BodyTooLong begins lacks = absurd lacks
head_excludes bytes h rest BadLength begins lacks = absurd lacks

-- what a head that stands there leaves open
pub same_head : (bytes : List ℕ) (h k : RequestHead) (r q : List ℕ) → BeginsHead bytes h r → BeginsHead bytes k q → (h ≡ k) × (r ≡ q)
same_head bytes h k r q x y = request_unique bytes h k r q x.0 y.0

pub Ok_same : {A B : Type 0} (a b : A) → ◌≡◌ {A = Result A B} (Ok a) (Ok b) → a ≡ b
Ok_same a b e = cc

pub Err_same : {A B : Type 0} (a b : B) → ◌≡◌ {A = Result A B} (Err a) (Err b) → a ≡ b
Err_same a b e = cc

pub Ok_no_Err : {A B : Type 0} (a : A) (b : B) → ◌≡◌ {A = Result A B} (Ok a) (Err b) → ⊥
Ok_no_Err a b e = cc

pub message_excludes : (bytes : List ℕ) (m : Message) (rest : List ℕ) (e : Ending) → BeginsMessage bytes m rest → EndsWith bytes e → ⊥
message_excludes bytes m rest end at none = absurd (let k = head_some bytes at.head (at.body ++ rest) at.reads in let n = ap length none in omega arith)
message_excludes bytes m rest (fault f) at (inl lacks) = head_excludes bytes at.head (at.body ++ rest) f at.reads lacks
message_excludes bytes m rest (fault f) at (inr (inl (h, after, begins, bad))) =
    let same = same_head bytes at.head h (at.body ++ rest) after at.reads begins in
    Ok_no_Err (length at.body) f (sym at.framed ∙ ap body_length_of same.0 ∙ bad)
message_excludes bytes m rest (fault f) at (inr (inr (is, (h, after, n, begins, good, short)))) =
    let same = same_head bytes at.head h (at.body ++ rest) after at.reads begins in
    let size : length at.body ≡ n = Ok_same {B = FramingFault} (length at.body) n (sym at.framed ∙ ap body_length_of same.0 ∙ good) in
    let all = ap length same.1 in
    absurd (omega (arith, length-append at.body rest))

pub same_message : (bytes : List ℕ) (m n : Message) (r q : List ℕ) → BeginsMessage bytes m r → BeginsMessage bytes n q → (m ≡ n) × (r ≡ q)
same_message bytes m n r q x y =
    let same = same_head bytes x.head y.head (x.body ++ r) (y.body ++ q) x.reads y.reads in
    let size : length x.body ≡ length y.body = Ok_same {B = FramingFault} (length x.body) (length y.body) (sym x.framed ∙ ap body_length_of same.0 ∙ y.framed) in
    let body : x.body ≡ y.body = sym (take_at x.body r (length x.body) refl) ∙ ap (take (length x.body)) same.1 ∙ take_at y.body q (length x.body) (sym size) in
    let rest : r ≡ q = sym (drop_at x.body r (length x.body) refl) ∙ ap (drop (length x.body)) same.1 ∙ drop_at y.body q (length x.body) (sym size) in
    (x.is ∙ (λ i. message_of (same.0 i) (body i)) ∙ sym y.is, rest)

pub some_fault : (bytes : List ℕ) (f : FramingFault) → bytes ≡ [] → BeginsFault bytes f → ⊥
some_fault bytes f none (inr (inl (h, after, begins, bad))) = absurd (let k = head_some bytes h after begins in let n = ap length none in omega arith)
some_fault bytes f none (inr (inr (is, (h, after, n, begins, good, short)))) = absurd (let k = head_some bytes h after begins in let n = ap length none in omega arith)
some_fault bytes BadHead none (inl (lines, after, e, short, never)) = absurd (let n = ap length none in let k = simp length-append at (ap length e) in omega arith)
some_fault bytes HeadTooLong none (inl lacks) = absurd (let n = ap length none in let k = lacks.1 in omega arith)
some_fault bytes Truncated none (inl lacks) = absurd (let n = ap length none in let k = lacks.1 in omega arith)
some_fault bytes BodyTooLong none (inl lacks) = absurd lacks
some_fault bytes BadLength none (inl lacks) = absurd lacks

pub same_lack : (bytes : List ℕ) (f g : FramingFault) → LacksHead bytes f → LacksHead bytes g → f ≡ g
same_lack bytes BadHead BadHead x y = refl
same_lack bytes BadHead HeadTooLong x y = absurd (y.0.not_bad x)
same_lack bytes BadHead Truncated x y = absurd (y.0.not_bad x)
same_lack bytes HeadTooLong BadHead x y = absurd (x.0.not_bad y)
same_lack bytes HeadTooLong HeadTooLong x y = refl
same_lack bytes HeadTooLong Truncated x y = absurd (let a = x.1 in let b = y.2 in omega arith)
same_lack bytes Truncated BadHead x y = absurd (x.0.not_bad y)
same_lack bytes Truncated HeadTooLong x y = absurd (let a = y.1 in let b = x.2 in omega arith)
same_lack bytes Truncated Truncated x y = refl
same_lack bytes BodyTooLong g x y = absurd x
same_lack bytes BadLength g x y = absurd x
same_lack bytes BadHead BodyTooLong x y = absurd y
same_lack bytes BadHead BadLength x y = absurd y
same_lack bytes HeadTooLong BodyTooLong x y = absurd y
same_lack bytes HeadTooLong BadLength x y = absurd y
same_lack bytes Truncated BodyTooLong x y = absurd y
same_lack bytes Truncated BadLength x y = absurd y

pub same_fault : (bytes : List ℕ) (f g : FramingFault) → BeginsFault bytes f → BeginsFault bytes g → f ≡ g
same_fault bytes f g (inl x) (inl y) = same_lack bytes f g x y
same_fault bytes f g (inl x) (inr (inl (h, r, begins, bad))) = absurd (head_excludes bytes h r f begins x)
same_fault bytes f g (inl x) (inr (inr (is, (h, r, n, begins, good, short)))) = absurd (head_excludes bytes h r f begins x)
same_fault bytes f g (inr (inl (h, r, begins, bad))) (inl y) = absurd (head_excludes bytes h r g begins y)
same_fault bytes f g (inr (inr (is, (h, r, n, begins, good, short)))) (inl y) = absurd (head_excludes bytes h r g begins y)
same_fault bytes f g (inr (inl (h, r, begins, bad))) (inr (inl (k, q, begins', bad'))) =
    Err_same {A = ℕ} f g (sym bad ∙ ap body_length_of (same_head bytes h k r q begins begins').0 ∙ bad')
same_fault bytes f g (inr (inl (h, r, begins, bad))) (inr (inr (is, (k, q, n, begins', good, short)))) =
    absurd (Ok_no_Err n f (sym good ∙ ap body_length_of (same_head bytes k h q r begins' begins).0 ∙ bad))
same_fault bytes f g (inr (inr (is, (k, q, n, begins', good, short)))) (inr (inl (h, r, begins, bad))) =
    absurd (Ok_no_Err n g (sym good ∙ ap body_length_of (same_head bytes k h q r begins' begins).0 ∙ bad))
same_fault bytes f g (inr (inr (is, x))) (inr (inr (is', y))) = is ∙ sym is'

pub same_ending : (bytes : List ℕ) (d e : Ending) → EndsWith bytes d → EndsWith bytes e → d ≡ e
same_ending bytes end end x y = refl
same_ending bytes end (fault f) x y = absurd (some_fault bytes f x y)
same_ending bytes (fault f) end x y = absurd (some_fault bytes f y x)
same_ending bytes (fault f) (fault g) x y = ap fault (same_fault bytes f g x y)

pub same_split : (bytes : List ℕ) (ms ns : List Message) (d e : Ending) (r q : List ℕ)
    → BeginsMessages bytes ms r → EndsWith r d → BeginsMessages bytes ns q → EndsWith q e → (ms ≡ ns) × (d ≡ e)
same_split bytes [] [] d e r q x xd y ye = (refl, same_ending bytes d e (subst (λ b. EndsWith b d) (sym x) xd) (subst (λ b. EndsWith b e) (sym y) ye))
same_split bytes [] (n ∷ ns) d e r q x xd (after, at, more) ye = absurd (message_excludes bytes n after d at (subst (λ b. EndsWith b d) (sym x) xd))
same_split bytes (m ∷ ms) [] d e r q (after, at, more) xd y ye = absurd (message_excludes bytes m after e at (subst (λ b. EndsWith b e) (sym y) ye))
same_split bytes (m ∷ ms) (n ∷ ns) d e r q (after, at, more) xd (after', at', more') ye =
    let one = same_message bytes m n after after' at at' in
    let rest = same_split after' ms ns d e r q (subst (λ b. BeginsMessages b ms r) one.1 more) xd more' ye in
    ((λ i. one.0 i ∷ rest.0 i), rest.1)

pub split_once : (bytes : List ℕ) (ms ns : List Message) (d e : Ending) → Splits bytes ms d → Splits bytes ns e → (ms ≡ ns) × (d ≡ e)
split_once bytes ms ns d e x y = same_split bytes ms ns d e x.rest y.rest x.first x.last y.first y.last
