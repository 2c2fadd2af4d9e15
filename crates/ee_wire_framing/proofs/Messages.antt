-- Messages one after another.
use Rattle.std.proofs.lemmas.List.{drop-drop}
use Rattle.std.proofs.Common.{◌≡◌, ℕ, ◌+◌, ◌-◌, ◌<◌, ◌≤◌, take, drop, length-drop, append-nil, List, [], ◌∷◌, ◌++◌, length, refl, sym, ap, subst, ◌∙◌, arith, append_assoc, length-append, inl, inr}
use Rattle.ee_wire_framing.specs.Framing.{BeginsHead, BeginsMessage, BeginsMessages, Message, BeginsFault, EndsWith, Ending, end, fault, Splits}
use Rattle.ee_wire_framing.specs.declared.FramingFault.TheVariants.{Truncated}
use Rattle.ee_wire_framing.specs.declared.front.Front.TheVariants as front
use Rattle.ee_wire_framing.specs.declared.buffer.Message as parts
use Rattle.ee_wire_framing.specs.declared.FramingFault.{FramingFault}
use Rattle.ee_wire_framing.specs.Reading.{NeedsMore, message_in}
use Rattle.ee_wire_framing.specs.Inner.Reading.{IsFront}
use Rattle.ee_wire_framing.proofs.Heads.{request_is_lines}
use Rattle.ee_wire_framing.proofs.More.{BeginsHead-append}

-- more bytes follow the rest
pub BeginsMessage-append : (bytes more : List ℕ) (m : Message) (rest : List ℕ) → BeginsMessage bytes m rest → BeginsMessage (bytes ++ more) m (rest ++ more)
BeginsMessage-append bytes more m rest at = record {
  head = at.head;
  body = at.body;
  reads = subst (BeginsHead (bytes ++ more) at.head) (append_assoc at.body rest more) (BeginsHead-append bytes more at.head (at.body ++ rest) at.reads);
  framed = at.framed;
  is = at.is;
}

pub BeginsMessages-append : (bytes more : List ℕ) (ms : List Message) (rest : List ℕ) → BeginsMessages bytes ms rest → BeginsMessages (bytes ++ more) ms (rest ++ more)
BeginsMessages-append bytes more [] rest begins = ap (λ l. l ++ more) begins
BeginsMessages-append bytes more (m ∷ ms) rest (after, at, begins) =
    (after ++ more, BeginsMessage-append bytes more m after at, BeginsMessages-append after more ms rest begins)

-- one message more
pub begins_more : (bytes : List ℕ) (ms : List Message) (rest : List ℕ) (m : Message) (after : List ℕ)
    → BeginsMessages bytes ms rest → BeginsMessage rest m after → BeginsMessages bytes (ms ++ m ∷ []) after
begins_more bytes [] rest m after begins at = (after, subst (λ (xs : List ℕ). BeginsMessage xs m after) (sym begins) at, refl)
begins_more bytes (x ∷ ms) rest m after begins at = (begins.0, begins.1, begins_more begins.0 ms rest m after begins.2 at)

-- a message has some bytes
pub shorter : (bytes : List ℕ) (m : Message) (rest : List ℕ) → BeginsMessage bytes m rest → length rest < length bytes
shorter bytes m rest at =
    let lines = request_is_lines at.head in
    let size = simp length-append at (ap length lines.1) in
    let whole = simp length-append at (ap length at.reads.0.1) in
    omega arith

-- what stands there wants more bytes
pub more_needed : (bytes : List ℕ) → IsFront bytes front.More → NeedsMore bytes
more_needed [] f = inl refl
more_needed (b ∷ bytes) (inl (open_at, short)) = inr (inl (open_at, omega arith, short))
more_needed (b ∷ bytes) (inr cut) = inr (inr (inr (refl, cut)))

-- ---- a place in some bytes, up to which they are messages

abbrev pub HasMessages : List ℕ → ℕ → Type 0
HasMessages bytes at = (ms : List Message) × BeginsMessages bytes ms (drop at bytes)

pub message_at : (bytes rest : List ℕ) (at len : ℕ) (m : parts.Message) → rest ≡ drop at bytes → at ≤ length bytes → HasMessages bytes at
    → IsFront rest (front.Message m len) → (at + len ≤ length bytes) × (0 < len) × HasMessages bytes (at + len)
message_at bytes rest at len m same inside (ms, begins) (fits, next) =
    let size : length rest ≡ length bytes - at = ap length same ∙ length-drop at bytes in
    let less = shorter rest (message_in (take len rest) m) (drop len rest) next in
    let left = length-drop len rest in (
      omega arith,
      omega arith,
      (
        ms ++ message_in (take len rest) m ∷ [],
        begins_more bytes ms (drop at bytes) (message_in (take len rest) m) (drop (at + len) bytes) begins
            (subst (λ l. BeginsMessage l (message_in (take len rest) m) (drop (at + len) bytes)) same
            (subst (BeginsMessage rest (message_in (take len rest) m)) (ap (drop len) same ∙ drop-drop len at bytes) next)),
      ),
    )

ends_at : (bytes rest : List ℕ) (at : ℕ) (e : Ending) → rest ≡ drop at bytes → HasMessages bytes at → EndsWith rest e → (ms : List Message) × Splits bytes ms e
ends_at bytes rest at e same (ms, begins) ends =
    (ms, record { rest = rest; first = subst (BeginsMessages bytes ms) (sym same) begins; last = ends })

pub fault_at : (bytes rest : List ℕ) (at : ℕ) (f : FramingFault) → rest ≡ drop at bytes → HasMessages bytes at → IsFront rest (front.Fault f)
    → (ms : List Message) × Splits bytes ms (fault f)
fault_at bytes rest at f same begins stands = ends_at bytes rest at (fault f) same begins (subst (λ l. BeginsFault l f) (append-nil rest) (stands []))

pub none_at : (bytes rest : List ℕ) (at : ℕ) → rest ≡ drop at bytes → HasMessages bytes at → length rest ≡ 0 → (ms : List Message) × Splits bytes ms end
none_at bytes [] at same begins none = ends_at bytes [] at end same begins refl
none_at bytes (b ∷ rest) at same begins none = absurd (omega (arith, none))

pub cut_at : (bytes rest : List ℕ) (at : ℕ) → rest ≡ drop at bytes → HasMessages bytes at → 0 < length rest → IsFront rest front.More
    → (ms : List Message) × Splits bytes ms (fault Truncated)
cut_at bytes rest at same begins some stands = by (more_needed rest stands)
  where
    by : NeedsMore rest → (ms : List Message) × Splits bytes ms (fault Truncated)
    by (inl none) = absurd (let n = ap length none in omega arith)
    by (inr truncated) = ends_at bytes rest at (fault Truncated) same begins truncated
