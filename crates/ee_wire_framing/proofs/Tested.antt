-- What was tested stays tested when more bytes come.
use Rattle.std.proofs.Common.{◌≡◌, ℕ, ◌+◌, ◌<◌, ◌≤◌, ◌⊎◌, inl, inr, min, List, [], ◌++◌, length, take, drop, Some, None, refl, sym, ap, subst, ◌∙◌, arith, append_assoc, length-append, length-take, length-take-le, take-append-drop}
use Rattle.std.proofs.lemmas.List.{take-append-le, drop-append-le, take-take, take_all}
use Rattle.std.proofs.Math.ListN.{get_or-append}
use Rattle.std.proofs.lemmas.Bool.{cases_lt}
use Rattle.httparse.proofs.GrammarLemmas.{ReadsRequest-append}
use Rattle.ee_wire_framing.specs.declared.head.Lines.{Lines}
use Rattle.ee_wire_framing.specs.declared.head.Lines.TheVariants as lines
use Rattle.ee_wire_framing.specs.declared.head.Verdict.{Verdict}
use Rattle.ee_wire_framing.specs.declared.head.Verdict.TheVariants.{Found, Bad, Partial}
use Rattle.ee_wire_framing.specs.declared.front.Progress.{Progress}
use Rattle.ee_wire_framing.specs.declared.front.Progress.TheVariants as progress
use Rattle.ee_wire_framing.specs.Framing.{IsUndecided}
use Rattle.ee_wire_framing.specs.Heads.{AreEmptyLines, AreFieldLines, IsHeadAt, IsLastLineFeed, length_of, BeginsLines, AreLinesUpTo, Knows}
use Rattle.ee_wire_framing.specs.Inner.Heads.{Judges, Finds}
use Rattle.ee_wire_framing.proofs.WholeLines.{open_empty_lines, open_field_lines}
use Rattle.ee_wire_framing.proofs.Heads.{IsOpen, AreOpen, undecided, bad_in, head_in}

-- a front of lines that leave it open leaves it open
pub open_front : (front rest : List ℕ) → IsOpen (front ++ rest) → IsOpen front
open_front front rest open_at = record {
  no_head = λ h after reads. open_at.no_head h (after ++ rest) (ReadsRequest-append front h after rest reads);
  not_bad = λ never. open_at.not_bad (λ more h after reads.
      never (rest ++ more) h after (reads.0, sym (append_assoc front rest more) ∙ reads.1));
}

-- whole lines leave it open
pub open_lines : (text : List ℕ) (tested : Lines) → BeginsLines text tested → length text ≤ length_of tested → IsOpen text
open_lines text (lines.Empty n) begins all = open_empty_lines text (subst AreEmptyLines (take_all n text all) begins)
open_lines text (lines.Fields n) begins all = open_field_lines text (subst AreFieldLines (take_all n text all) begins)

-- the same lines in a front of the bytes
pub begins_front : (bytes : List ℕ) (n : ℕ) (tested : Lines) → length_of tested ≤ n → BeginsLines bytes tested → BeginsLines (take n bytes) tested
begins_front bytes n (lines.Empty m) inside begins = subst AreEmptyLines (sym (take-take m n bytes inside)) begins
begins_front bytes n (lines.Fields m) inside begins = subst AreFieldLines (sym (take-take m n bytes inside)) begins

pub begins_whole : (bytes : List ℕ) (n : ℕ) (tested : Lines) → length_of tested ≤ n → BeginsLines (take n bytes) tested → BeginsLines bytes tested
begins_whole bytes n (lines.Empty m) inside begins = subst AreEmptyLines (take-take m n bytes inside) begins
begins_whole bytes n (lines.Fields m) inside begins = subst AreFieldLines (take-take m n bytes inside) begins

-- lines, and no line feed after them, leave it open at each line feed
pub open_up_to : (bytes : List ℕ) (tested : Lines) (n : ℕ) → AreLinesUpTo bytes tested n → AreOpen bytes n
open_up_to bytes tested n up_to k below here = by (cases_lt k (length_of tested))
  where
    front : List ℕ
    front = take (length_of tested) bytes

    size : length front ≡ length_of tested
    size = let a = up_to.ordered in let b = up_to.in_bytes in length-take-le (length_of tested) bytes (omega arith)

    open_at : IsOpen front
    open_at = open_lines front tested (begins_front bytes (length_of tested) tested (omega arith) up_to.begins) (omega (arith, size))

    by : (k < length_of tested) ⊎ (length_of tested ≤ k) → IsOpen (take (k + 1) bytes)
    by (inl before) = open_front (take (k + 1) bytes) (drop (k + 1) front)
        (subst IsOpen (sym (take-append-drop (k + 1) front) ∙ ap (λ l. l ++ drop (k + 1) front) (take-take (k + 1) (length_of tested) bytes (omega arith))) open_at)
    by (inr after) = absurd (up_to.none k after below here)

pub undecided_up_to : (bytes : List ℕ) (tested : Lines) → AreLinesUpTo bytes tested (min (length bytes) 16384) → IsUndecided bytes
undecided_up_to bytes tested up_to = undecided bytes (min (length bytes) 16384) refl (open_up_to bytes tested (min (length bytes) 16384) up_to)

-- nothing was tested
pub none_tested : (bytes : List ℕ) → AreLinesUpTo bytes (lines.Empty 0) 0
none_tested bytes = record {
  begins = ([], refl);
  ordered = omega arith;
  in_bytes = omega arith;
  limit = omega arith;
  none = λ k from below. absurd (omega arith);
}

-- no line feed came
pub no_line_feed : (bytes : List ℕ) (tested : Lines) (n : ℕ) → AreLinesUpTo bytes tested n
    → IsLastLineFeed bytes n (min (length bytes) 16384) None → AreLinesUpTo bytes tested (min (length bytes) 16384)
no_line_feed bytes tested n up_to none = record {
  begins = up_to.begins;
  ordered = (let a = up_to.ordered in let b = up_to.in_bytes in let c = up_to.limit in omega arith);
  in_bytes = omega arith;
  limit = omega arith;
  none = λ k from below here. elim (cases_lt k n) [ inl before ↦ up_to.none k from before here | inr after ↦ none k after below here ];
}

pub unfound : (bytes : List ℕ) (tested : Lines) (n : ℕ) → AreLinesUpTo bytes tested n
    → IsLastLineFeed bytes n (min (length bytes) 16384) None → Finds bytes (Partial tested)
unfound bytes tested n up_to none =
    let all = no_line_feed bytes tested n up_to none in (undecided_up_to bytes tested all, all)

-- one test at the last line feed
pub judged : (bytes : List ℕ) (n at : ℕ) (v : Verdict) → IsLastLineFeed bytes n (min (length bytes) 16384) (Some at)
    → Judges (take (at + 1) bytes) v → Finds bytes v
judged bytes n at (Found f) last (h, is) =
    (h, head_in bytes (at + 1) f h is, let k = is.in_bytes in let a = last.1 in omega (arith, length-take (at + 1) bytes))
judged bytes n at Bad last never = let a = last.1 in bad_in bytes at (omega arith) (omega arith) last.2 never
judged bytes n at (Partial tested) last (size, begins) =
    let a = last.1 in
    let count : length_of tested ≡ at + 1 = size ∙ length-take-le (at + 1) bytes (omega arith) in
    let all : AreLinesUpTo bytes tested (min (length bytes) 16384) = record {
      begins = begins_whole bytes (at + 1) tested (omega (arith, count)) begins;
      ordered = omega (arith, count);
      in_bytes = omega arith;
      limit = omega arith;
      none = λ k from below. last.3 k (omega (arith, count)) below;
    } in
    (undecided_up_to bytes tested all, all)

-- ---- more bytes

pub begins_more : (bytes more : List ℕ) (tested : Lines) → length_of tested ≤ length bytes → BeginsLines bytes tested → BeginsLines (bytes ++ more) tested
begins_more bytes more (lines.Empty n) inside begins = subst AreEmptyLines (sym (take-append-le n bytes more inside)) begins
begins_more bytes more (lines.Fields n) inside begins = subst AreFieldLines (sym (take-append-le n bytes more inside)) begins

pub up_to_more : (bytes more : List ℕ) (tested : Lines) (n : ℕ) → AreLinesUpTo bytes tested n → AreLinesUpTo (bytes ++ more) tested n
up_to_more bytes more tested n up_to = record {
  begins = (let a = up_to.ordered in let b = up_to.in_bytes in begins_more bytes more tested (omega arith) up_to.begins);
  ordered = up_to.ordered;
  in_bytes = (let b = up_to.in_bytes in let k = length-append bytes more in omega arith);
  limit = up_to.limit;
  none = λ k from below here. up_to.none k from below (sym (get_or-append bytes more 0 k (let b = up_to.in_bytes in omega arith)) ∙ here);
}

pub knows_more : (bytes more : List ℕ) (p : Progress) → Knows bytes p → Knows (bytes ++ more) p
knows_more bytes more (progress.Tested tested n) up_to = up_to_more bytes more tested n up_to
knows_more bytes more (progress.Found found) (h, at, limit) =
    let same : take (length bytes) (bytes ++ more) ≡ bytes = take-append-le (length bytes) bytes more (omega arith) ∙ take_all (length bytes) bytes (omega arith) in
    (h, head_in (bytes ++ more) (length bytes) found h (subst (λ b. IsHeadAt b found h) (sym same) at), limit)

-- the same of what stands behind the bytes that were answered
pub knows_read : (bytes got new : List ℕ) (at : ℕ) (p : Progress) → new ≡ bytes ++ got → at ≤ length bytes → Knows (drop at bytes) p → Knows (drop at new) p
knows_read bytes got new at p is inside knows =
    subst (λ l. Knows l p) (sym (drop-append-le at bytes got inside) ∙ ap (drop at) (sym is)) (knows_more (drop at bytes) got p knows)
