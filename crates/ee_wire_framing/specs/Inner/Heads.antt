-- Definitions that private contracts alone cite; specs/Heads.antt has the others.
use Rattle.std.specs.Prelude.{◌≡◌, ℕ, ◌≤◌, min, List, [], ◌∷◌, ◌++◌, length}
use Rattle.httparse.specs.Ascii.{line_feed}
use Rattle.httparse.specs.Grammar.{RequestHead, NeverHasRequest}
use Rattle.httparse.specs.Spans.{IsWithin, span_bytes}
use Rattle.httparse.specs.declared.spans.Span.{Span}
use Rattle.ee_wire_framing.specs.declared.fields.Values.{Values}
use Rattle.ee_wire_framing.specs.declared.fields.Values.TheVariants as values
use Rattle.ee_wire_framing.specs.declared.head.Lines.TheVariants as lines
use Rattle.ee_wire_framing.specs.declared.head.Verdict.{Verdict}
use Rattle.ee_wire_framing.specs.declared.head.Verdict.TheVariants.{Found, Bad, Partial}
use Rattle.ee_wire_framing.specs.Framing.{most_head, HasBadHead, IsUndecided}
use Rattle.ee_wire_framing.specs.Heads.{IsHeadAt, length_of, BeginsLines, AreLinesUpTo}

-- the bytes end with a line feed
abbrev pub IsLines : List ℕ → Type 0
IsLines bytes = (front : List ℕ) × (bytes ≡ front ++ line_feed ∷ [])

-- `httparse` calls the lines a head, bad, or partial
abbrev pub Judges : List ℕ → Verdict → Type 0
Judges lines (Found found) = (h : RequestHead) × IsHeadAt lines found h
Judges lines Bad = NeverHasRequest lines
Judges lines (Partial tested) = (length_of tested ≡ length lines) × BeginsLines lines tested

-- what the bytes begin with
abbrev pub Finds : List ℕ → Verdict → Type 0
Finds bytes (Found found) = (h : RequestHead) × IsHeadAt bytes found h × (found.len ≤ most_head)
Finds bytes Bad = HasBadHead bytes
Finds bytes (Partial tested) = IsUndecided bytes × AreLinesUpTo bytes tested (min (length bytes) most_head)

-- the values that were found for a name
abbrev pub AreValues : List ℕ → List (List ℕ) → Values → Type 0
AreValues lines vs values.None = vs ≡ []
AreValues lines vs (values.One s) = IsWithin (length lines) s × (vs ≡ span_bytes lines s ∷ [])
AreValues lines vs values.Many = 2 ≤ length vs

-- one more value
abbrev pub next : Values → Span → Values
next values.None s = values.One s
next (values.One t) s = values.Many
next values.Many s = values.Many
