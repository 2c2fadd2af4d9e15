-- From what is held to all that is left.
use Rattle.std.proofs.Common.{◌≡◌, ◌≤◌, ℕ, List, [], ◌∷◌, ◌++◌, length, take, drop, Option, Some, None, Ok, Err, IfSome, refl, sym, ap, subst, ◌∙◌, inr, arith, append_assoc, append-nil, take-append-drop}
use Rattle.std.specs.Io.KnownBytes.{Keeps, Consumes, IsAtEnd, prepend_known}
use Rattle.std.proofs.KnownBytes.{Consumes-kept, Consumes-trans}
use Rattle.ee_wire_framing.specs.declared.buffer.Message as parts
use Rattle.ee_wire_framing.specs.declared.buffer.WireEnd.TheVariants as wire
use Rattle.ee_wire_framing.specs.declared.buffer.Next.TheVariants as next
use Rattle.ee_wire_framing.specs.Stream.{Stream}
use Rattle.ee_wire_framing.specs.Framing.{BeginsMessage, Message, EndsWith, end, fault}
use Rattle.ee_wire_framing.specs.Reading.{message_in, left, Gives, NeedsMore, Answer, Answers, AreNeeded, Takes, Settles, most_read}
use Rattle.ee_wire_framing.specs.Inner.Reading.{EndsAt}
use Rattle.ee_wire_framing.proofs.Messages.{BeginsMessage-append}

-- what holds of what is held, whatever follows, holds of all that was left
pub kept_fact : (P : List ℕ → Type 0) (known after : Option (List ℕ)) (held : List ℕ) → Keeps known (prepend_known held after)
    → ((more : List ℕ) → P (held ++ more)) → IfSome known P
kept_fact P None after held kept holds = tt
kept_fact P (Some xs) None held kept holds = absurd kept
kept_fact P (Some xs) (Some ys) held kept holds = subst P kept (holds ys)

-- the same at the end of the reader's bytes
pub end_fact : (P : List ℕ → Type 0) (known after : Option (List ℕ)) (held : List ℕ) → Keeps known (prepend_known held after)
    → IsAtEnd after → P held → IfSome known P
end_fact P None after held kept none holds = tt
end_fact P (Some xs) None held kept none holds = absurd kept
end_fact P (Some xs) (Some ys) held kept none holds = subst P (sym (append-nil held) ∙ ap (λ l. held ++ l) (sym none) ∙ kept) holds

-- bytes that moved from the reader to what is held
pub moved : (known before after : Option (List ℕ)) (held got : List ℕ) → Keeps known (prepend_known held before) → Consumes before after got
    → Keeps known (prepend_known (held ++ got) after)
moved None before after held got kept took = tt
moved (Some xs) None after held got kept took = absurd kept
moved (Some xs) (Some ys) None held got kept took = absurd took
moved (Some xs) (Some ys) (Some zs) held got kept took = append_assoc held got zs ∙ ap (λ l. held ++ l) (sym took) ∙ kept

pub answers_at : (old new : Stream) (before after : Option (List ℕ)) (bytes : List ℕ) (r : Answer)
    → Keeps (left old before) (prepend_known bytes after) → IsAtEnd after → EndsAt bytes r → Answers old before r new after
answers_at old new before after bytes (Ok (next.Message m)) kept none ends = absurd ends
answers_at old new before after bytes (Ok next.End) kept none ends = end_fact (λ b. EndsWith b end) (left old before) after bytes kept none ends
answers_at old new before after bytes (Err (wire.Fault f)) kept none ends = end_fact (λ b. EndsWith b (fault f)) (left old before) after bytes kept none ends.1
answers_at old new before after bytes (Err wire.ReadFailed) kept none ends = absurd ends
answers_at old new before after bytes (Err wire.NoMemory) kept none ends = absurd ends

-- nothing changed
pub same_left : (known before after : Option (List ℕ)) (held : List ℕ) → Keeps known (prepend_known held before) → Keeps before after → Keeps known (prepend_known held after)
same_left None before after held kept same = tt
same_left (Some xs) None after held kept same = absurd kept
same_left (Some xs) (Some ys) None held kept same = absurd same
same_left (Some xs) (Some ys) (Some zs) held kept same = ap (λ l. held ++ l) same ∙ kept

-- a message that is held, in all that was left
pub given : (m : Message) (known after : Option (List ℕ)) (held rest : List ℕ) → Keeps known (prepend_known held after) → BeginsMessage held m rest
    → Gives m known (prepend_known rest after)
given m None after held rest kept at = tt
given m (Some xs) None held rest kept at = absurd kept
given m (Some xs) (Some ys) held rest kept at = subst (λ l. BeginsMessage l m (rest ++ ys)) kept (BeginsMessage-append held ys m rest at)

-- the same for what a call leaves
pub given_shown : (m : parts.Message) (len : ℕ) (known after : Option (List ℕ)) (seen held : List ℕ) (new : Stream) → seen ≡ held
    → new.shown ≡ take len held → new.held ≡ drop len held → Keeps known (prepend_known held after)
    → BeginsMessage seen (message_in (take len seen) m) (drop len seen)
    → Gives (message_in new.shown m) known (left new after)
given_shown m len known after seen held new same shown rest kept at =
    subst (λ s. Gives (message_in s m) known (left new after)) (sym shown)
    (subst (λ r. Gives (message_in (take len held) m) known (prepend_known r after)) (sym rest)
    (given (message_in (take len held) m) known after held (drop len held) kept
    (subst (λ l. BeginsMessage l (message_in (take len l) m) (drop len l)) same at)))

-- ---- what was read

-- bytes that were read since, as they were needed, with which the bytes held begin no longer than they were
abbrev pub HasRead : List ℕ → Option (List ℕ) → List ℕ → Option (List ℕ) → Type 0
HasRead old before held after = (got : List ℕ) × Consumes before after got × (held ≡ old ++ got) × AreNeeded old got

pub read_more : (old held new more : List ℕ) (before mid after : Option (List ℕ)) → HasRead old before held mid → Consumes mid after more → new ≡ held ++ more
    → NeedsMore held → length more ≤ most_read → HasRead old before new after
read_more old held new more before mid after (got, took, is, so_far) again grown needs few = (
  got ++ more,
  Consumes-trans before mid after got more took again,
  grown ∙ ap (λ l. l ++ more) is ∙ append_assoc old got more,
  inr (got, more, refl, subst NeedsMore is needs, few),
)

pub read_kept : (old held : List ℕ) (before mid after : Option (List ℕ)) → HasRead old before held mid → Keeps mid after → HasRead old before held after
read_kept old held before mid after (got, took, is, needed) kept = (got, Consumes-kept before mid after got took kept, is, needed)

-- nothing is shown
pub takes_held : (old new : Stream) (held : List ℕ) (before after : Option (List ℕ)) → HasRead old.held before held after → new.shown ≡ [] → new.held ≡ held
    → Takes old before new after
takes_held old new held before after (got, took, is, needed) none same = (got, took, ap (λ l. l ++ new.held) none ∙ same ∙ is, needed)

-- a front of it is shown
pub takes_shown : (old new : Stream) (held : List ℕ) (before after : Option (List ℕ)) (len : ℕ) → HasRead old.held before held after
    → new.shown ≡ take len held → new.held ≡ drop len held → Takes old before new after
takes_shown old new held before after len (got, took, is, needed) shown rest = (got, took, (λ i. shown i ++ rest i) ∙ take-append-drop len held ∙ is, needed)

pub settles_at : (new : Stream) (after : Option (List ℕ)) (r : Answer) → new.shown ≡ [] → IsAtEnd after → EndsAt new.held r → Settles r new after
settles_at new after (Ok (next.Message m)) shown none ends = absurd ends
settles_at new after (Ok next.End) shown none ends = (shown, ends, none)
settles_at new after (Err (wire.Fault f)) shown none ends = (shown, inr (ends.0, ends.1, none))
settles_at new after (Err wire.ReadFailed) shown none ends = absurd ends
settles_at new after (Err wire.NoMemory) shown none ends = absurd ends

-- a read that brought nothing
pub none_read : (held got new : List ℕ) → length got ≡ 0 → new ≡ held ++ got → NeedsMore held → NeedsMore new
none_read held [] new none is needs = subst NeedsMore (sym (append-nil held) ∙ sym is) needs
none_read held (b ∷ got) new none is needs = absurd (omega (arith, none))
