-- One turn of a connection after another.
use Rattle.std.proofs.Common.{◌≡◌, ℕ, ◌+◌, ◌<◌, ◌≤◌, ◌||◌, Bool, true, false, ControlFlow, Continue, Break, List, [], ◌∷◌, ◌++◌, length, Option, Some, None, Ok, Err, refl, sym, ap, subst, ◌∙◌, arith, append_assoc, append-nil, length-append, inl, inr}
use Rattle.std.proofs.lemmas.List.{length-map}
use Rattle.std.specs.Prelude.{⊤}
use Rattle.std.specs.ControlFlow.{MatchControlFlow}
use Rattle.std.specs.List.{AllByRecursion}
use Rattle.std.specs.Io.KnownBytes.{Appends, Consumes}
use Rattle.std.proofs.KnownBytes.{Appends-nil, Appends-trans, Consumes-nil, Consumes-trans}
use Rattle.ee_io.specs.Written.{WritesFront}
use Rattle.ee_desk_model.specs.Repeats.{Content}
use Rattle.ee_desk_laws.specs.Attempts.{Attempt, LeadOn}
use Rattle.ee_desk_laws.specs.Events.{Event}
use Rattle.ee_desk_laws.proofs.Lemmas.{lead_further}
use Rattle.ee_keeper.specs.Keeping.{HasAfter}
use Rattle.ee_wire_framing.specs.Stream.{Stream}
use Rattle.ee_wire_framing.specs.Framing.{Message, BeginsMessage, BeginsMessages, EndsWith, end}
use Rattle.ee_wire_framing.specs.Reading.{AreNeeded, message_in, NeedsMore, Settles, ShowsFault, Takes}
use Rattle.ee_wire_framing.specs.declared.buffer.Message as parts
use Rattle.ee_wire_framing.specs.declared.buffer.Next.TheVariants as next
use Rattle.ee_wire_framing.specs.declared.buffer.WireEnd.TheVariants as wire
use Rattle.ee_wire_framing.proofs.Lemmas.{BeginsMessages-append, begins_more}
use Rattle.ee_wire.specs.declared.answers.Answer.{Answer}
use Rattle.ee_wire.specs.Answers.{answer_text}
use Rattle.ee_counter.specs.Answering.{call_of, IsRight}
use Rattle.ee_wire_framing.specs.declared.FramingFault.{FramingFault}
use Rattle.ee_counter.specs.declared.connections.Ended.{Ended}
use Rattle.ee_counter.specs.declared.connections.Why.{Why}
use Rattle.ee_counter.specs.declared.connections.Why.TheVariants.{Closed, Asked, Limit, Fault, ReadFailed, WriteFailed, NoMemory}
use Rattle.ee_counter.specs.Serving.{DeviceFailsOnlyIf, Told, left_by, is_last, text_of, texts, left_by_all, attempts_by, attempts_by_all, AreRight, fault_text, EndsBy, Ends, messages, SoFar, Serves, told_failure, any_told_failure, WereNeeded}
use Rattle.ee_counter.specs.Inner.Serving.{FlowDeviceFailsOnlyIf, AnswersOne, Turns, RefusesBy}

-- a text that was written whole
pub whole : (text : List ℕ) (old new : Option (List ℕ)) → WritesFront old new text true → Appends old new text
whole text old new w = subst (Appends old new) (w.whole refl) w.written

-- the text that was written
pub text_is : (n : ℕ) (m : Message) (answer : Answer) (closing : Bool)
    → closing ≡ is_last n m → answer_text answer closing ≡ text_of n (record { message = m; answer = answer })
text_is n m answer closing x = ap (answer_text answer) x

-- what is held now is what was held, and what was read
held_is : (was is : Stream) (got : List ℕ) → is.shown ≡ [] → is.shown ++ is.held ≡ was.held ++ got → is.held ≡ was.held ++ got
held_is was is got none all = sym (ap (λ l. l ++ is.held) none) ∙ all

-- ---- devices that fail

-- an answer ends no connection by a failed read
pub writer_alone : (read_may write_may : Type 0) (w : Why) → DeviceFailsOnlyIf ⊥ write_may w → DeviceFailsOnlyIf read_may write_may w
writer_alone read_may write_may ReadFailed h = absurd h
writer_alone read_may write_may WriteFailed h = h
writer_alone read_may write_may Closed h = tt
writer_alone read_may write_may Asked h = tt
writer_alone read_may write_may Limit h = tt
writer_alone read_may write_may (Fault f) h = tt
writer_alone read_may write_may NoMemory h = tt

pub writer_in_flow : (read_may write_may : Type 0) (r : ControlFlow Ended Bool) → FlowDeviceFailsOnlyIf ⊥ write_may r → FlowDeviceFailsOnlyIf read_may write_may r
writer_in_flow read_may write_may (Continue failed) h = tt
writer_in_flow read_may write_may (Break e) h = writer_alone read_may write_may e.why h

-- ---- what a call of `next_message` leads to

pub turn_told : (was is : Stream) (before after old new : Option (List ℕ)) (m : parts.Message) (c : Content) (n : ℕ) (failed : Bool) (r : ControlFlow Ended Bool) (Has : Content → List Attempt → Type 0)
    → Takes was before is after → Settles (Ok (next.Message m)) is after → AnswersOne (message_in is.shown m) old new c n failed r Has
    → Turns was.held is.held before after old new c n failed r Has
turn_told was is before after old new m c n failed (Continue now) Has (got, took, all, needed) at p = (
  got,
  took,
  needed,
  (record { message = message_in is.shown m; answer = p.0 }, subst (λ l. BeginsMessage l (message_in is.shown m) is.held) all at, p.1.0, p.1.1, p.2, p.3, p.4),
)
turn_told was is before after old new m c n failed (Break e) Has (got, took, all, needed) at p =
    (got, took, needed, p (was.held ++ got) is.held after (subst (λ l. BeginsMessage l (message_in is.shown m) is.held) all at))

pub turn_closed : (was is : Stream) (before after wrote : Option (List ℕ)) (c : Content) (n : ℕ) (failed : Bool) (Has : Content → List Attempt → Type 0)
    → Takes was before is after → Settles (Ok next.End) is after → Has c []
    → Turns was.held is.held before after wrote wrote c n failed (Break (record { messages = n; store_failed = failed; why = Closed })) Has
turn_closed was is before after wrote c n failed Has (got, took, all, needed) s has =
    (got, took, needed, (None, refl, (subst (λ l. EndsWith l end) (held_is was is got s.0 all) s.1, s.2, Appends-nil wrote, refl, has)))

pub turn_failed : (was is : Stream) (before after wrote : Option (List ℕ)) (c : Content) (n : ℕ) (failed : Bool) (Has : Content → List Attempt → Type 0)
    → Takes was before is after → Settles (Err wire.ReadFailed) is after → Has c []
    → Turns was.held is.held before after wrote wrote c n failed (Break (record { messages = n; store_failed = failed; why = ReadFailed })) Has
turn_failed was is before after wrote c n failed Has (got, took, all, needed) s has =
    (got, took, needed, (None, refl, (subst NeedsMore (held_is was is got s.0 all) s.1, Appends-nil wrote, refl, has)))

pub turn_starved : (was is : Stream) (before after wrote : Option (List ℕ)) (c : Content) (n : ℕ) (failed : Bool) (Has : Content → List Attempt → Type 0)
    → Takes was before is after → Settles (Err wire.NoMemory) is after → Has c []
    → Turns was.held is.held before after wrote wrote c n failed (Break (record { messages = n; store_failed = failed; why = NoMemory })) Has
turn_starved was is before after wrote c n failed Has (got, took, all, needed) s has =
    (got, took, needed, (None, refl, (Appends-nil wrote, refl, inl (subst NeedsMore (held_is was is got s.0 all) s.1), has)))

-- the stream goes on, whatever was answered
pub goes_on : {P : Type 0} (r : ControlFlow Ended Bool) → P → MatchControlFlow r (λ failed. P) (λ ended. ⊤)
goes_on (Continue failed) yet = yet
goes_on (Break e) yet = tt

-- a fault that was answered, or not
refused : (why : Why) (f : FramingFault) (bytes : List ℕ) (remaining old new : Option (List ℕ)) (c : Content) (n count : ℕ) (Has : Content → List Attempt → Type 0)
    → ShowsFault bytes remaining f → RefusesBy why f old new n count → Has c [] → EndsBy why None bytes remaining old new c n count Has
refused (Fault g) f bytes remaining old new c n count Has fault r has =
    (subst (ShowsFault bytes remaining) (sym r.0) fault, subst (λ x. Appends old new (fault_text x)) (sym r.0) r.1, r.2, has)
refused WriteFailed f bytes remaining old new c n count Has fault r has = (r.1, (f, fault, r.0), has)
refused NoMemory f bytes remaining old new c n count Has fault r has = (r.0, r.1, inr (f, fault), has)
refused Closed f bytes remaining old new c n count Has fault r has = absurd r
refused Asked f bytes remaining old new c n count Has fault r has = absurd r
refused Limit f bytes remaining old new c n count Has fault r has = absurd r
refused ReadFailed f bytes remaining old new c n count Has fault r has = absurd r

pub turn_refused : (was is : Stream) (before after old new : Option (List ℕ)) (f : FramingFault) (c : Content) (n : ℕ) (failed : Bool) (e : Ended) (Has : Content → List Attempt → Type 0)
    → Takes was before is after → Settles (Err (wire.Fault f)) is after → RefusesBy e.why f old new n e.messages → e.store_failed ≡ failed → Has c []
    → Turns was.held is.held before after old new c n failed (Break e) Has
turn_refused was is before after old new f c n failed e Has (got, took, all, needed) s r as_before has =
    (got, took, needed, (None, as_before, refused e.why f (was.held ++ got) after old new c n e.messages Has (subst (λ l. ShowsFault l after f) (held_is was is got s.0 all) s.1) r has))

-- ---- one more at the end

messages_more : (ts : List Told) (t : Told) → messages (ts ++ t ∷ []) ≡ messages ts ++ t.message ∷ []
messages_more [] t = refl
messages_more (x ∷ ts) t = ap (λ ms. x.message ∷ ms) (messages_more ts t)

left_more : (c : Content) (ts : List Told) (t : Told) → left_by_all c (ts ++ t ∷ []) ≡ left_by (left_by_all c ts) t
left_more c [] t = refl
left_more c (x ∷ ts) t = left_more (left_by c x) ts t

right_more : (c : Content) (ts : List Told) (t : Told) → AreRight c ts → IsRight (left_by_all c ts) (call_of t.message) t.answer
    → AreRight c (ts ++ t ∷ [])
right_more c [] t all right = (right, tt)
right_more c (x ∷ ts) t all right = (all.0, right_more (left_by c x) ts t all.1 right)

attempts_more : (ts : List Told) (t : Told) → attempts_by_all (ts ++ t ∷ []) ≡ attempts_by_all ts ++ attempts_by t
attempts_more [] t = append-nil (attempts_by t)
attempts_more (x ∷ ts) t = ap (λ l. attempts_by x ++ l) (attempts_more ts t) ∙ sym (append_assoc (attempts_by x) (attempts_by_all ts) (attempts_by t))

texts_more : (n : ℕ) (ts : List Told) (t : Told) → texts n (ts ++ t ∷ []) ≡ texts n ts ++ text_of (n + length ts) t
texts_more n [] t = let same : n ≡ n + 0 = omega arith in append-nil (text_of n t) ∙ ap (λ k. text_of k t) same
texts_more n (x ∷ ts) t =
    let same : n + 1 + length ts ≡ n + length (x ∷ ts) = omega arith in
    ap (λ r. text_of n x ++ r) (texts_more (n + 1) ts t)
    ∙ sym (append_assoc (text_of n x) (texts (n + 1) ts) (text_of (n + 1 + length ts) t))
    ∙ ap (λ k. (text_of n x ++ texts (n + 1) ts) ++ text_of k t) same

texts_at_end : (ts : List Told) (t : Told) → texts 0 (ts ++ t ∷ []) ≡ texts 0 ts ++ text_of (length ts) t
texts_at_end ts t =
    let same : 0 + length ts ≡ length ts = omega arith in
    texts_more 0 ts t ∙ ap (λ k. texts 0 ts ++ text_of k t) same

none_more : (ts : List Told) (t : Told) → AllByRecursion (λ u. u.message.closes ≡ false) ts → t.message.closes ≡ false
    → AllByRecursion (λ u. u.message.closes ≡ false) (ts ++ t ∷ [])
none_more [] t all quiet = (quiet, tt)
none_more (x ∷ ts) t all quiet = (all.0, none_more ts t all.1 quiet)

length_more : (ts : List Told) (t : Told) (n : ℕ) → length ts ≡ n → length (ts ++ t ∷ []) ≡ n + 1
length_more ts t n is = omega (arith, length-append ts (t ∷ []), is)

-- whether one of them told that the store failed
failed_more : (ts : List Told) (t : Told) → any_told_failure (ts ++ t ∷ []) ≡ (told_failure t || any_told_failure ts)
failed_more [] t = refl
failed_more (x ∷ ts) t = ap (λ b. told_failure x || b) (failed_more ts t) ∙ swap (told_failure x) (told_failure t) (any_told_failure ts)
  where
    swap : (a b c : Bool) → (a || (b || c)) ≡ (b || (a || c))
    swap true true c = refl
    swap true false c = refl
    swap false true c = refl
    swap false false c = refl

-- more bytes were read
so_far_read : (bytes held got : List ℕ) (old new : Option (List ℕ)) (c : Content) (ts : List Told) → SoFar bytes held old new c ts → SoFar (bytes ++ got) (held ++ got) old new c ts
so_far_read bytes held got old new c ts s = record {
  begins = BeginsMessages-append bytes got (messages ts) held s.begins;
  right = s.right;
  none_asks = s.none_asks;
  wrote = s.wrote;
}

so_far_more : (bytes rest others : List ℕ) (old mid new : Option (List ℕ)) (c : Content) (ts : List Told) (t : Told)
    → SoFar bytes rest old mid c ts → BeginsMessage rest t.message others → IsRight (left_by_all c ts) (call_of t.message) t.answer
    → t.message.closes ≡ false → Appends mid new (text_of (length ts) t) → SoFar bytes others old new c (ts ++ t ∷ [])
so_far_more bytes rest others old mid new c ts t s at right quiet wrote = record {
  begins = subst (λ (ms : List Message). BeginsMessages bytes ms others) (sym (messages_more ts t)) (begins_more bytes (messages ts) rest t.message others s.begins at);
  right = right_more c ts t s.right right;
  none_asks = none_more ts t s.none_asks quiet;
  wrote = subst (Appends old new) (sym (texts_at_end ts t)) (Appends-trans old mid new _ _ s.wrote wrote);
}

-- ---- what was read

messages_length : (ts : List Told) → length (messages ts) ≡ length ts
messages_length ts = length-map ts (λ t. t.message)

needed_weaker : (Few More : ℕ → Type 0) (bytes : List ℕ) → ((k : ℕ) → Few k → More k) → WereNeeded Few bytes → WereNeeded More bytes
needed_weaker Few More bytes weaker (inl none) = inl none
needed_weaker Few More bytes weaker (inr (early, last, is, few, (done, others, at, needs, k))) =
    inr (early, last, is, few, (done, others, at, needs, weaker (length done) k))

-- so were some more, which a next message needed
needed_more : (Few More : ℕ → Type 0) (bytes held got : List ℕ) (ms : List Message) → BeginsMessages bytes ms held
    → ((k : ℕ) → Few k → More k) → More (length ms) → WereNeeded Few bytes → AreNeeded held got → WereNeeded More (bytes ++ got)
needed_more Few More bytes held got ms at weaker here was (inl none) =
    subst (WereNeeded More) (sym (append-nil bytes) ∙ sym (ap (λ l. bytes ++ l) none)) (needed_weaker Few More bytes weaker was)
needed_more Few More bytes held got ms at weaker here was (inr (early, last, is, needs, few)) =
    inr (bytes ++ early, last, ap (λ l. bytes ++ l) is ∙ sym (append_assoc bytes early last), few, (ms, held ++ early, BeginsMessages-append bytes early ms held at, needs, here))

-- so many messages were read and answered, each read but the last was needed, and these bytes are held; and whether an answer
-- told that the store failed
abbrev pub HasTold : Option (List ℕ) → Option (List ℕ) → List ℕ → Option (List ℕ) → Option (List ℕ) → Content → ℕ → Bool → (Content → List Attempt → Type 0) → Type 0
HasTold before after held old new c n failed Has =
    (bytes : List ℕ) × Consumes before after bytes × WereNeeded (λ k. k < n) bytes
    × ((told : List Told) × (length told ≡ n) × (failed ≡ any_told_failure told) × SoFar bytes held old new c told × Has (left_by_all c told) (attempts_by_all told))

pub none_told : (before wrote : Option (List ℕ)) (held : List ℕ) (c : Content) (Has : Content → List Attempt → Type 0) → held ≡ [] → Has c [] → HasTold before before held wrote wrote c 0 false Has
none_told before wrote held c Has none has =
    ([], Consumes-nil before, inl refl, ([], refl, refl, record { begins = sym none; right = tt; none_asks = tt; wrote = Appends-nil wrote }, has))

-- one turn more
pub turn_more : (before mid after old now new : Option (List ℕ)) (held others : List ℕ) (c : Content) (n : ℕ) (was failed : Bool)
    → (Has After : Content → Type 0) (Before Now Then : Content → List Event → Type 0)
    → HasTold before mid held old now c n was (HasAfter Has Before Now)
    → ((d : Content) → Has d → Turns held others mid after now new d n was (Continue failed) (HasAfter After Now Then))
    → HasTold before after others old new c (n + 1) failed (HasAfter After Before Then)
turn_more before mid after old now new held others c n was failed Has After Before Now Then (bytes, read, needed, s) turn =
    let told = s.0 in
    let x = turn (left_by_all c told) s.4.0 in
    let t = x.3 in
    let as_many : length (messages told) ≡ n = messages_length told ∙ s.1 in
    let wrote = subst (λ k. Appends now new (text_of k t.0)) (sym s.1) t.5 in (
      bytes ++ x.0,
      Consumes-trans before mid after bytes x.0 read x.1,
      needed_more (λ k. k < n) (λ k. k < n + 1) bytes held x.0 (messages told) s.3.begins (λ k less. omega arith) (omega arith) needed x.2,
      (
        told ++ t.0 ∷ [],
        length_more told t.0 n s.1,
        t.6 ∙ ap (λ b. told_failure t.0 || b) s.2 ∙ sym (failed_more told t.0),
        so_far_more (bytes ++ x.0) (held ++ x.0) others old now new c told t.0 (so_far_read bytes held x.0 old now c told s.3) t.1 t.2 t.4 wrote,
        (
          subst After (sym (left_more c told t.0)) t.3.0,
          subst (λ l. LeadOn Before l Then) (sym (attempts_more told t.0)) (lead_further Before Now Then (attempts_by_all told) (attempts_by t.0) s.4.1 t.3.1),
        ),
      ),
    )

-- what is left may say more
ends_more : (why : Why) (last : Option Told) (bytes : List ℕ) (left old new : Option (List ℕ)) (c : Content) (n count : ℕ) (Has After : Content → List Attempt → Type 0)
    → ((d : Content) (attempts : List Attempt) → Has d attempts → After d attempts)
    → EndsBy why last bytes left old new c n count Has → EndsBy why last bytes left old new c n count After
ends_more Closed None bytes left old new c n count Has After more e = (e.0, e.1, e.2, e.3, more c [] e.4)
ends_more Closed (Some t) bytes left old new c n count Has After more e = absurd e
ends_more Asked None bytes left old new c n count Has After more e = absurd e
ends_more Asked (Some t) bytes left old new c n count Has After more e =
    ((e.0.0, e.0.1, more (left_by c t) (attempts_by t) e.0.2), e.1, e.2, e.3)
ends_more Limit None bytes left old new c n count Has After more e = (e.0, e.1, e.2, more c [] e.3)
ends_more Limit (Some t) bytes left old new c n count Has After more e = absurd e
ends_more (Fault f) None bytes left old new c n count Has After more e = (e.0, e.1, e.2, more c [] e.3)
ends_more (Fault f) (Some t) bytes left old new c n count Has After more e = absurd e
ends_more ReadFailed None bytes left old new c n count Has After more e = (e.0, e.1, e.2, more c [] e.3)
ends_more ReadFailed (Some t) bytes left old new c n count Has After more e = absurd e
ends_more NoMemory None bytes left old new c n count Has After more e = (e.0, e.1, e.2, more c [] e.3)
ends_more NoMemory (Some t) bytes left old new c n count Has After more e =
    (e.0, e.1, (e.2.0, e.2.1, more (left_by c t) (attempts_by t) e.2.2))
ends_more WriteFailed None bytes left old new c n count Has After more e = (e.0, e.1, more c [] e.2)
ends_more WriteFailed (Some t) bytes left old new c n count Has After more e =
    (e.0, (e.1.0, e.1.1, more (left_by c t) (attempts_by t) e.1.2), e.2)

pub ends_with : (e : Ended) (was : Bool) (bytes : List ℕ) (left old new : Option (List ℕ)) (c : Content) (n : ℕ) (Has After : Content → List Attempt → Type 0)
    → ((d : Content) (attempts : List Attempt) → Has d attempts → After d attempts)
    → Ends e was bytes left old new c n Has → Ends e was bytes left old new c n After
ends_with e was bytes left old new c n Has After more (last, failed, ends) =
    (last, failed, ends_more e.why last bytes left old new c n e.messages Has After more ends)

-- the last turn
pub serves_ended : (before mid after old now new : Option (List ℕ)) (held others : List ℕ) (c : Content) (n : ℕ) (was : Bool) (e : Ended)
    → (Has After : Content → Type 0) (Before Now Then : Content → List Event → Type 0)
    → HasTold before mid held old now c n was (HasAfter Has Before Now) → n < 1000
    → ((d : Content) → Has d → Turns held others mid after now new d n was (Break e) (HasAfter After Now Then))
    → Serves before after old new c e (HasAfter After Before Then)
serves_ended before mid after old now new held others c n was e Has After Before Now Then (bytes, read, needed, s) few turn =
    let told = s.0 in
    let x = turn (left_by_all c told) s.4.0 in
    let Left : Content → List Attempt → Type 0 = λ left more. HasAfter After Before Then left (attempts_by_all told ++ more) in
    let so = subst (λ b. Ends e b (held ++ x.0) after now new (left_by_all c told) n Left) s.2
    (ends_with e was (held ++ x.0) after now new (left_by_all c told) n (HasAfter After Now Then) Left
    (λ d attempts has. (has.0, lead_further Before Now Then (attempts_by_all told) attempts s.4.1 has.1)) x.3) in
    let as_many : length (messages told) ≡ n = messages_length told ∙ s.1 in
    let all_told : length told ≡ n = s.1 in
    record {
      bytes = bytes ++ x.0;
      read = Consumes-trans before mid after bytes x.0 read x.1;
      told = told;
      needed = needed_more (λ k. k < n) (λ k. (k ≤ length told) × (k < 1000)) bytes held x.0 (messages told) s.3.begins
          (λ k less. (omega arith, omega arith)) (omega arith, omega arith) needed x.2;
      few = inl (subst (λ k. k < 1000) (sym s.1) few);
      rest = held ++ x.0;
      wrote = now;
      so_far = so_far_read bytes held x.0 old now c told s.3;
      ends = subst (λ k. Ends e (any_told_failure told) (held ++ x.0) after now new (left_by_all c told) k Left) (sym s.1) so;
    }

-- no turn more
pub serves_limit : (before after old new : Option (List ℕ)) (held : List ℕ) (c : Content) (n : ℕ) (failed : Bool) (Has : Content → List Attempt → Type 0)
    → n ≡ 1000 → HasTold before after held old new c n failed Has
    → Serves before after old new c (record { messages = 1000; store_failed = failed; why = Limit }) Has
serves_limit before after old new held c n failed Has limit (bytes, read, needed, s) = record {
  bytes = bytes;
  read = read;
  told = s.0;
  needed = needed_weaker (λ k. k < n) (λ k. (k ≤ length s.0) × (k < 1000)) bytes (λ k less. (omega (arith, s.1), omega arith)) needed;
  few = inr (refl, s.1 ∙ limit);
  rest = held;
  wrote = new;
  so_far = s.3;
  ends = (None, s.2, (s.1 ∙ limit, Appends-nil new, sym (s.1 ∙ limit), subst (Has (left_by_all c s.0)) (sym (append-nil (attempts_by_all s.0))) s.4));
}
