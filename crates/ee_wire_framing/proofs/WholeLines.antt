-- Whole lines of a head, and what may follow them.
use Rattle.std.proofs.Common.{◌≡◌, ℕ, ◌-◌, ◌<◌, ◌≤◌, ◌⊎◌, Bool, ◌&&◌, true, false, List, [], ◌∷◌, ◌++◌, length, take, drop, get_or, refl, sym, ap, subst, ◌∙◌, inl, inr, arith, append_assoc, append-nil, length-append, length-drop, take-append-drop, Result, Ok}
use Rattle.std.specs.Prelude.{All}
use Rattle.std.specs.List.{flat_map, list_all}
use Rattle.std.proofs.lemmas.Bool.{false≢true, false_from_ne_true}
use Rattle.std.proofs.lemmas.List.{append_cancel_right, get_or_at, get_or-append_right, drop-append-le, take_all}
use Rattle.std.proofs.lemmas.List.Elements.{All-nil, All-append}
use Rattle.std.proofs.lemmas.List.Folds.{list_all-append}
use Rattle.std.proofs.lemmas.Grind.{flat_map-append}
use Rattle.httparse.specs.Grammar.{LineEnd, crlf, lf, print_end, print_blank, print_version, is_uri_byte, Field, IsField, print_field, print_section, ReadsSection, HasNoSection, NeverHasSection, MayBecomeSection, RequestHead, IsRequestHead, print_request, ReadsRequest, HasNoRequest, NeverHasRequest, MayBecomeRequest, EndsInTarget}
use Rattle.httparse.specs.Pieces.{Stops, is_newline, BlankLines, Section, RequestStart, Completes}
use Rattle.httparse.specs.declared.Error.{Error}
use Rattle.httparse.specs.declared.Status.{Status}
use Rattle.httparse.specs.declared.Status.TheVariants.{Complete}
use Rattle.httparse.specs.declared.spans.HeaderSpan.{HeaderSpan}
use Rattle.httparse.specs.declared.spans.RequestSpans.{RequestSpans}
use Rattle.httparse.specs.Outcome.{IfComplete}
use Rattle.httparse.specs.Spans.{RequestExceeds, SectionExceeds, IsRequestOf}
use Rattle.httparse.proofs.HeadLemmas.{at_complete}
use Rattle.httparse.proofs.GrammarLemmas.{cons-append, RequestTree, request_tree, request_head, request_pieces, request_from_pieces}
use Rattle.httparse.proofs.PieceLemmas.{RequestStart_deterministic, Section_skip, Stops_token, newline_not_stopped, print_end_unique}
use Rattle.httparse.proofs.OpenLemmas.{Completes_first, line_blank, some_section}
use Rattle.ee_wire_framing.specs.Heads.{AreEmptyLines, AreFieldLines}
use Rattle.ee_wire_framing.specs.Inner.Heads.{IsLines}
use Rattle.ee_wire_framing.proofs.Heads.{IsOpen, end_length, fields_length}
use Rattle.ee_wire_framing.proofs.Cuts.{IsPlain, plain_pass, plain_cons, line_cut, lines_cut, end_body, end_is, end_plain, empty_lines, field_body, field_lines, start_body, start_plain, start_text, request_text}

-- ---- a line feed inside a head

pub end_cut : (e : LineEnd) (inside more : List ℕ) → print_end e ≡ inside ++ 10 ∷ more → more ≡ []
end_cut e inside more is = by (line_cut (end_body e) [] inside more (end_plain e) (sym (end_is e) ∙ is))
  where
    by : ((inside ≡ end_body e) × ([] ≡ more)) ⊎ ((deeper : List ℕ) × (inside ≡ end_body e ++ 10 ∷ deeper) × ([] ≡ deeper ++ 10 ∷ more)) → more ≡ []
    by (inl (same, after)) = sym after
    by (inr (deeper, same, after)) = absurd (let n = ap length after in let k = length-append deeper (10 ∷ more) in omega arith)

pub section_cut : (fields : List Field) (last : LineEnd) (front more : List ℕ) → All IsField fields → print_section fields last ≡ front ++ 10 ∷ more
    → ((gs : List Field) × All IsField gs × (front ++ 10 ∷ [] ≡ flat_map print_field gs)) ⊎ (more ≡ [])
section_cut fields last front more valid e = by (lines_cut print_field field_body IsField field_lines fields (print_end last) front more valid e)
  where
    by : ((gs : List Field) × All IsField gs × (front ++ 10 ∷ [] ≡ flat_map print_field gs))
        ⊎ ((inside : List ℕ) × (front ≡ flat_map print_field fields ++ inside) × (print_end last ≡ inside ++ 10 ∷ more))
        → ((gs : List Field) × All IsField gs × (front ++ 10 ∷ [] ≡ flat_map print_field gs)) ⊎ (more ≡ [])
    by (inl lines) = inl lines
    by (inr (inside, same, after)) = inr (end_cut last inside more after)

-- the lines of a head with these fields
pub lines_of : (h : RequestHead) (gs : List Field) → IsRequestHead h → All IsField gs → AreFieldLines (start_text h ++ flat_map print_field gs)
lines_of h gs valid all =
    let k : RequestHead = record h { fields = gs; last = lf } in (
      k,
      (
        record { method = valid.method; target = valid.target; target_text = valid.target_text; minor = valid.minor; fields = all },
        append_assoc (start_text h) (flat_map print_field gs) (10 ∷ []) ∙ sym (request_text k) ∙ sym (append-nil (print_request k)),
      ),
      refl,
    )

-- a line feed after the empty lines of a head
pub start_cut : (h : RequestHead) (front inside more : List ℕ) → IsRequestHead h → front ≡ print_blank h.blank ++ inside
    → start_body h ++ 10 ∷ print_section h.fields h.last ≡ inside ++ 10 ∷ more → AreFieldLines (front ++ 10 ∷ []) ⊎ (more ≡ [])
start_cut h front inside more valid begins e =
    by (line_cut (start_body h) (print_section h.fields h.last) inside more (start_plain h valid) e)
  where
    join : (a b d : List ℕ) → (a ++ (b ++ 10 ∷ [])) ++ (d ++ 10 ∷ []) ≡ (a ++ (b ++ 10 ∷ d)) ++ 10 ∷ []
    join a b d = simp (append_assoc, cons-append)

    in_fields : (deeper : List ℕ) → inside ≡ start_body h ++ 10 ∷ deeper
        → ((gs : List Field) × All IsField gs × (deeper ++ 10 ∷ [] ≡ flat_map print_field gs)) ⊎ (more ≡ [])
        → AreFieldLines (front ++ 10 ∷ []) ⊎ (more ≡ [])
    in_fields deeper is (inl (gs, all, same)) =
        inl (subst AreFieldLines
        (ap (λ l. start_text h ++ l) (sym same) ∙ join (print_blank h.blank) (start_body h) deeper
        ∙ ap (λ l. (print_blank h.blank ++ l) ++ 10 ∷ []) (sym is) ∙ ap (λ l. l ++ 10 ∷ []) (sym begins))
        (lines_of h gs valid all))
    in_fields deeper is (inr none) = inr none

    by : ((inside ≡ start_body h) × (print_section h.fields h.last ≡ more))
        ⊎ ((deeper : List ℕ) × (inside ≡ start_body h ++ 10 ∷ deeper) × (print_section h.fields h.last ≡ deeper ++ 10 ∷ more))
        → AreFieldLines (front ++ 10 ∷ []) ⊎ (more ≡ [])
    by (inl (is, after)) =
        inl (subst AreFieldLines
        (append-nil (start_text h) ∙ sym (append_assoc (print_blank h.blank) (start_body h) (10 ∷ []))
        ∙ ap (λ l. (print_blank h.blank ++ l) ++ 10 ∷ []) (sym is) ∙ ap (λ l. l ++ 10 ∷ []) (sym begins))
        (lines_of h [] valid (All-nil IsField)))
    by (inr (deeper, is, after)) = in_fields deeper is (section_cut h.fields h.last deeper more valid.fields after)

pub request_cut : (h : RequestHead) (front more : List ℕ) → IsRequestHead h → print_request h ≡ front ++ 10 ∷ more
    → AreEmptyLines (front ++ 10 ∷ []) ⊎ (AreFieldLines (front ++ 10 ∷ []) ⊎ (more ≡ []))
request_cut h front more valid e =
    by (lines_cut print_end end_body (λ (l : LineEnd). l ≡ l) empty_lines h.blank (start_body h ++ 10 ∷ print_section h.fields h.last) front more (λ k d inside. refl) whole)
  where
    whole : print_blank h.blank ++ (start_body h ++ 10 ∷ print_section h.fields h.last) ≡ front ++ 10 ∷ more
    whole =
        ap (λ l. print_blank h.blank ++ l) (sym (append_assoc (start_body h) (10 ∷ []) (print_section h.fields h.last)))
        ∙ sym (append_assoc (print_blank h.blank) (start_body h ++ 10 ∷ []) (print_section h.fields h.last))
        ∙ sym (request_text h) ∙ e

    by : ((ends : List LineEnd) × All (λ (l : LineEnd). l ≡ l) ends × (front ++ 10 ∷ [] ≡ flat_map print_end ends))
        ⊎ ((inside : List ℕ) × (front ≡ flat_map print_end h.blank ++ inside) × (start_body h ++ 10 ∷ print_section h.fields h.last ≡ inside ++ 10 ∷ more))
        → AreEmptyLines (front ++ 10 ∷ []) ⊎ (AreFieldLines (front ++ 10 ∷ []) ⊎ (more ≡ []))
    by (inl (ends, all, same)) = inl (ends, same)
    by (inr (inside, begins, after)) = inr (start_cut h front inside more valid begins after)

-- ---- bytes up to a line feed that leave it open are whole lines

pub last_plain : (a b front : List ℕ) → front ++ 10 ∷ [] ≡ a ++ b → 0 < length b → IsPlain b → ⊥
last_plain a b front e some plain =
    let n = ap length e in
    let p = length-append front (10 ∷ []) in
    let q = length-append a b in
    plain (length front - length a) 0 (omega arith)
    (sym (get_or-append_right a b (length a) (length front) 0 refl (omega arith)) ∙ ap (λ l. get_or l (length front) 0) (sym e)
    ∙ get_or_at front 10 [] 0 (length front) refl)

pub not_in_target : (text : List ℕ) → IsLines text → EndsInTarget text → ⊥
not_in_target text (front, is) (blank, method, target, token, all, ends) =
    last_plain (print_blank blank ++ method) (32 ∷ target) front (sym is ∙ ends) (omega arith)
    (plain_cons 32 target (λ e. omega arith) (plain_pass is_uri_byte target refl all))

pub may_lines : (text : List ℕ) → IsLines text → HasNoRequest text → MayBecomeRequest text → AreEmptyLines text ⊎ AreFieldLines text
may_lines text (front, is) none (inl (more, h, reads)) =
    by (request_cut h front more reads.0 (sym (reads.1 ∙ append-nil (print_request h)) ∙ ap (λ l. l ++ more) is ∙ append_assoc front (10 ∷ []) more))
  where
    by : AreEmptyLines (front ++ 10 ∷ []) ⊎ (AreFieldLines (front ++ 10 ∷ []) ⊎ (more ≡ [])) → AreEmptyLines text ⊎ AreFieldLines text
    by (inl lines) = inl (subst AreEmptyLines (sym is) lines)
    by (inr (inl lines)) = inr (subst AreFieldLines (sym is) lines)
    by (inr (inr end)) = absurd (none h [] (reads.0, sym (append-nil text) ∙ ap (λ l. text ++ l) (sym end) ∙ reads.1))
may_lines text lines none (inr ends) = absurd (not_in_target text lines ends)

pub may_fields : (text : List ℕ) → IsLines text → HasNoSection text → MayBecomeSection text
    → (gs : List Field) × All IsField gs × (text ≡ flat_map print_field gs)
may_fields text (front, is) none (more, fields, last, reads) =
    by (section_cut fields last front more reads.0
    (sym (reads.1 ∙ append-nil (print_section fields last)) ∙ ap (λ l. l ++ more) is ∙ append_assoc front (10 ∷ []) more))
  where
    by : ((gs : List Field) × All IsField gs × (front ++ 10 ∷ [] ≡ flat_map print_field gs)) ⊎ (more ≡ [])
        → (gs : List Field) × All IsField gs × (text ≡ flat_map print_field gs)
    by (inl (gs, all, same)) = (gs, all, is ∙ same)
    by (inr end) = absurd (none fields last [] (reads.0, sym (append-nil text) ∙ ap (λ l. text ++ l) (sym end) ∙ reads.1))

-- ---- what may follow a request line and field lines

pub field_parts : (text : List ℕ) → AreFieldLines text → (h : RequestHead) × IsRequestHead h × (text ≡ start_text h ++ flat_map print_field h.fields)
field_parts text (h, reads, last) = (
  h,
  reads.0,
  append_cancel_right text (start_text h ++ flat_map print_field h.fields) (10 ∷ [])
      (reads.1 ∙ append-nil (print_request h) ∙ request_text h
      ∙ ap (λ e. start_text h ++ (flat_map print_field h.fields ++ print_end e)) last
      ∙ sym (append_assoc (start_text h) (flat_map print_field h.fields) (10 ∷ []))),
)

pub start_append : (h : RequestHead) (rest : List ℕ) → start_text h ++ rest
    ≡ print_blank h.blank ++ (h.method ++ 32 ∷ (h.target ++ 32 ∷ (print_version h.minor ++ (print_end h.line_end ++ rest))))
start_append h rest = regroup (print_blank h.blank) h.method h.target (print_version h.minor) (print_end h.line_end) (end_body h.line_end) rest (end_is h.line_end)
  where
    regroup : (a b c d e f r : List ℕ) → e ≡ f ++ 10 ∷ []
        → (a ++ ((b ++ (32 ∷ (c ++ (32 ∷ (d ++ f))))) ++ 10 ∷ [])) ++ r ≡ a ++ (b ++ 32 ∷ (c ++ 32 ∷ (d ++ (e ++ r))))
    regroup a b c d e f r is = rw is (simp (append_assoc, cons-append))

pub start_pieces : (h : RequestHead) (rest : List ℕ) → IsRequestHead h → RequestStart (request_tree h).0 (start_text h ++ rest) rest
start_pieces h rest valid = (
  _,
  (start_append h rest, Stops_token h.method _ valid.method.0 valid.method.1),
  (
    _,
    (valid.method.0, valid.method.1, refl),
    (_, ((valid.target.0, valid.target.1, refl), valid.target_text), (_, (valid.minor, refl), refl)),
  ),
)

-- after them a head needs a section
pub field_skip : (text r : List ℕ) (k : RequestHead) (rest : List ℕ) → AreFieldLines text → ReadsRequest (text ++ r) k rest
    → (gs : List Field) × (last : LineEnd) × ReadsSection r gs last rest
field_skip text r k rest lines reads =
    let parts = field_parts text lines in
    let h = parts.0 in
    let fields = flat_map print_field h.fields in
    let theirs = request_pieces (text ++ r) k rest reads in
    let mine : RequestStart (request_tree h).0 (text ++ r) (fields ++ r) =
    subst (λ b. RequestStart (request_tree h).0 b (fields ++ r))
    (sym (append_assoc (start_text h) fields r) ∙ ap (λ l. l ++ r) (sym parts.2)) (start_pieces h (fields ++ r) parts.1) in
    let same = RequestStart_deterministic.unique (request_tree h).0 (request_tree k).0 (text ++ r) (fields ++ r) theirs.0 mine theirs.1 in
    let section : Section (k.fields, k.last) (fields ++ r) rest = subst (λ m. Section (k.fields, k.last) m rest) (sym same.1) theirs.2 in
    let skipped = Section_skip h.fields k.fields k.last (fields ++ r) r rest (parts.1.fields, refl) section in
    (skipped.0, k.last, skipped.2)

pub field_never : (text r : List ℕ) → AreFieldLines text → NeverHasSection r → NeverHasRequest (text ++ r)
field_never text r lines never more k rest reads =
    let section = field_skip text (r ++ more) k rest lines (subst (λ b. ReadsRequest b k rest) (append_assoc text r more) reads) in
    never more section.0 section.1 rest section.2

pub field_more : (text : List ℕ) (gs : List Field) → AreFieldLines text → All IsField gs → AreFieldLines (text ++ flat_map print_field gs)
field_more text gs lines all =
    let parts = field_parts text lines in
    let h = parts.0 in
    subst AreFieldLines
    (ap (λ l. start_text h ++ l) (flat_map-append print_field h.fields gs)
    ∙ sym (append_assoc (start_text h) (flat_map print_field h.fields) (flat_map print_field gs))
    ∙ ap (λ l. l ++ flat_map print_field gs) (sym parts.2))
    (lines_of h (h.fields ++ gs) parts.1 (All-append IsField h.fields gs parts.1.fields all))

some_section_bytes : (gs : List Field) (last : LineEnd) (rest : List ℕ) → ReadsSection [] gs last rest → ⊥
some_section_bytes gs last rest reads =
    let n = ap length reads.1 in
    let k = length-append (print_section gs last) rest in
    let m = length-append (flat_map print_field gs) (print_end last) in
    let e = end_length last in
    omega arith

pub open_field_lines : (text : List ℕ) → AreFieldLines text → IsOpen text
open_field_lines text lines = record {
  no_head = λ k rest reads.
      let section = field_skip text [] k rest lines (subst (λ b. ReadsRequest b k rest) (sym (append-nil text)) reads) in
      some_section_bytes section.0 section.1 rest section.2;
  not_bad = λ never. never (10 ∷ []) lines.0 [] lines.1;
}

-- ---- what may follow empty lines

pub blank_skip : (xs ys : List LineEnd) (r mid : List ℕ) → print_blank xs ++ r ≡ print_blank ys ++ mid → Stops is_newline mid
    → (zs : List LineEnd) × (r ≡ print_blank zs ++ mid)
blank_skip [] ys r mid e stops = (ys, e)
blank_skip (x ∷ xs) [] r mid e stops =
    absurd (newline_not_stopped x (print_blank xs ++ r) mid (sym (append_assoc (print_end x) (print_blank xs) r) ∙ e) stops)
blank_skip (x ∷ xs) (y ∷ ys) r mid e stops =
    let heads = print_end_unique x y (print_blank xs ++ r) (print_blank ys ++ mid)
    (sym (append_assoc (print_end x) (print_blank xs) r) ∙ e ∙ append_assoc (print_end y) (print_blank ys) mid) in
    blank_skip xs ys r mid heads.1 stops

-- after them a head is a head still
pub empty_skip : (text r : List ℕ) (k : RequestHead) (rest : List ℕ) → AreEmptyLines text → ReadsRequest (text ++ r) k rest
    → (h : RequestHead) × ReadsRequest r h rest
empty_skip text r k rest (ends, is) reads =
    let theirs = request_pieces (text ++ r) k rest reads in
    let blank = theirs.1.1 in
    let skipped = blank_skip ends k.blank r theirs.1.0 (ap (λ l. l ++ r) (sym is) ∙ blank.0) blank.1 in
    let tree : RequestTree = ((skipped.0, (request_tree k).0.1), (request_tree k).1) in
    (request_head tree, request_from_pieces r tree rest (theirs.0, (theirs.1.0, (skipped.1, blank.1), theirs.1.2), theirs.2))

pub empty_never : (text r : List ℕ) → AreEmptyLines text → NeverHasRequest r → NeverHasRequest (text ++ r)
empty_never text r lines never more k rest reads =
    let head = empty_skip text (r ++ more) k rest lines (subst (λ b. ReadsRequest b k rest) (append_assoc text r more) reads) in
    never more head.0 rest head.1

pub empty_more : (a b : List ℕ) → AreEmptyLines a → AreEmptyLines b → AreEmptyLines (a ++ b)
empty_more a b (xs, is) (ys, is') = (xs ++ ys, (λ i. is i ++ is' i) ∙ sym (flat_map-append print_end xs ys))

pub open_empty_lines : (text : List ℕ) → AreEmptyLines text → IsOpen text
open_empty_lines text lines = record {
  no_head = λ k rest reads.
      let head = empty_skip text [] k rest lines (subst (λ b. ReadsRequest b k rest) (sym (append-nil text)) reads) in
      let n = ap length head.1.1 in
      let m = length-append (print_request head.0) rest in
      let o = ap length (request_text head.0) in
      let p = length-append (start_text head.0) (print_section head.0.fields head.0.last) in
      let q = length-append (flat_map print_field head.0.fields) (print_end head.0.last) in
      let e = end_length head.0.last in
      omega arith;
  not_bad = λ never.
      let blank : Completes BlankLines text = record { more = []; tree = lines.0; reads = λ rest. ap (λ l. l ++ rest) lines.1 } in
      let some = Completes_first (line_blank blank) some_section in
      never (some.more ++ []) (request_head some.tree) [] (request_from_pieces _ some.tree [] (some.reads []));
}

-- ---- line ends alone

pub all_right : (p : ℕ → Bool) (a b : List ℕ) → list_all p (a ++ b) ≡ true → list_all p b ≡ true
all_right p a b e = by (list_all p a) (sym (list_all-append p a b) ∙ e)
  where
    by : (v : Bool) → (v && list_all p b) ≡ true → list_all p b ≡ true
    by true same = same
    by false same = absurd (false≢true same)

pub stops_all : (mid : List ℕ) → Stops is_newline mid → list_all is_newline mid ≡ true → ⊥
stops_all [] stops all = absurd stops
stops_all (b ∷ mid) stops all = false≢true (sym (ap (λ v. v && list_all is_newline mid) stops) ∙ all)

pub head_has_more : (text : List ℕ) (h : RequestHead) (rest : List ℕ) → ReadsRequest text h rest → list_all is_newline text ≡ true → ⊥
head_has_more text h rest reads all =
    let blank = (request_pieces text h rest reads).1.1 in
    let mid = (request_pieces text h rest reads).1.0 in
    stops_all mid blank.1 (all_right is_newline (print_blank h.blank) mid (subst (λ l. list_all is_newline l ≡ true) blank.0 all))

pub field_lines_have_more : (text : List ℕ) → AreFieldLines text → list_all is_newline text ≡ true → ⊥
field_lines_have_more text (h, reads, last) all =
    head_has_more (text ++ 10 ∷ []) h [] reads (list_all-append is_newline text (10 ∷ []) ∙ ap (λ v. v && true) all)

pub blank_newlines : (ends : List LineEnd) → list_all is_newline (print_blank ends) ≡ true
blank_newlines [] = refl
blank_newlines (crlf ∷ ends) = blank_newlines ends
blank_newlines (lf ∷ ends) = blank_newlines ends

pub empty_newlines : (text : List ℕ) → AreEmptyLines text → list_all is_newline text ≡ true
empty_newlines text (ends, is) = ap (list_all is_newline) is ∙ blank_newlines ends

-- ---- room for the fields

pub section_exceeds_less : (n : ℕ) (text : List ℕ) → length text ≤ 16384 → SectionExceeds n text → n < 5462
section_exceeds_less n text short (front, rest, e, fields, reads, many) =
    let k = fields_length fields reads.0 in
    let a = ap length (reads.1 ∙ append-nil (print_section fields lf)) in
    let b = length-append front (10 ∷ []) in
    let c = ap length e in
    let d = length-append front rest in
    let m = length-append (flat_map print_field fields) (10 ∷ []) in
    omega arith

-- ---- a text and its rest

pub lines_drop : (text : List ℕ) (n : ℕ) → n < length text → IsLines text → IsLines (drop n text)
lines_drop text n short (front, is) =
    (drop n front, ap (drop n) is ∙ drop-append-le n front (10 ∷ []) (let k = ap length is in let m = length-append front (10 ∷ []) in omega arith))

-- ---- one test after another

-- a front has the line ends alone that the whole has
pub all_left : (p : ℕ → Bool) (a b : List ℕ) → list_all p (a ++ b) ≡ true → list_all p a ≡ true
all_left p a b e = by (list_all p a) (sym (list_all-append p a b) ∙ e)
  where
    by : (v : Bool) → (v && list_all p b) ≡ true → v ≡ true
    by true same = refl
    by false same = absurd (false≢true same)

-- line ends alone have no headers
pub empty_no_exceeds : (n : ℕ) (text : List ℕ) → list_all is_newline text ≡ true → RequestExceeds n text → ⊥
empty_no_exceeds n text all (front, rest, e, h, reads, many) =
    let here : list_all is_newline front ≡ true = all_left is_newline front rest (ap (list_all is_newline) (sym e) ∙ all) in
    head_has_more (front ++ 10 ∷ []) h [] reads (list_all-append is_newline front (10 ∷ []) ∙ ap (λ v. v && true) here)

pub started_lines : (text : List ℕ) → IsLines text → list_all is_newline text ≡ false → HasNoRequest text → MayBecomeRequest text → AreFieldLines text
started_lines text lines started none may = by (may_lines text lines none may)
  where
    by : AreEmptyLines text ⊎ AreFieldLines text → AreFieldLines text
    by (inl empty) = absurd (false≢true (sym started ∙ empty_newlines text empty))
    by (inr fields) = fields

pub rest_started : (text : List ℕ) (n : ℕ) → list_all is_newline (drop n text) ≡ false → list_all is_newline text ≡ false
rest_started text n started = false_from_ne_true (list_all is_newline text) (λ all.
    false≢true (sym started ∙ all_right is_newline (take n text) (drop n text)
    (ap (list_all is_newline) (take-append-drop n text) ∙ all)))

pub fields_started : (text : List ℕ) (n : ℕ) → AreFieldLines (take n text) → list_all is_newline text ≡ false
fields_started text n lines = false_from_ne_true (list_all is_newline text) (λ all.
    field_lines_have_more (take n text) lines
    (all_left is_newline (take n text) (drop n text) (ap (list_all is_newline) (take-append-drop n text) ∙ all)))

pub no_head_here : (text : List ℕ) (headers : List HeaderSpan) {r : Result (Status RequestSpans) Error} {s : Status RequestSpans} {a : RequestSpans}
    → r ≡ Ok s → s ≡ Complete a → IfComplete r (IsRequestOf text headers) → list_all is_newline text ≡ true → ⊥
no_head_here text headers {a = a} ok complete is all =
    let found = at_complete (IsRequestOf text headers) ok complete is in
    head_has_more text found.0 (drop a.len text) found.1.reads all

pub empty_after : (text : List ℕ) (n : ℕ) → IsLines text → n < length text → AreEmptyLines (take n text) → list_all is_newline (drop n text) ≡ true
    → HasNoRequest (drop n text) → MayBecomeRequest (drop n text) → AreEmptyLines text
empty_after text n lines short tested all none may = by (may_lines (drop n text) (lines_drop text n short lines) none may)
  where
    by : AreEmptyLines (drop n text) ⊎ AreFieldLines (drop n text) → AreEmptyLines text
    by (inl empty) = subst AreEmptyLines (take-append-drop n text) (empty_more (take n text) (drop n text) tested empty)
    by (inr fields) = absurd (field_lines_have_more (drop n text) fields all)

pub fields_after : (text : List ℕ) (n : ℕ) → IsLines text → n < length text → AreFieldLines (take n text)
    → HasNoSection (drop n text) → MayBecomeSection (drop n text) → AreFieldLines text
fields_after text n lines short tested none may =
    let more = may_fields (drop n text) (lines_drop text n short lines) none may in
    subst AreFieldLines (ap (λ l. take n text ++ l) (sym more.2) ∙ take-append-drop n text) (field_more (take n text) more.0 tested more.1)

pub empty_bad : (text : List ℕ) (n : ℕ) → AreEmptyLines (take n text) → NeverHasRequest (drop n text) → NeverHasRequest text
empty_bad text n tested never = subst NeverHasRequest (take-append-drop n text) (empty_never (take n text) (drop n text) tested never)

pub fields_bad : (text : List ℕ) (n : ℕ) → AreFieldLines (take n text) → NeverHasSection (drop n text) → NeverHasRequest text
fields_bad text n tested never = subst NeverHasRequest (take-append-drop n text) (field_never (take n text) (drop n text) tested never)

-- lines that are all of a text
pub whole_fields : (text : List ℕ) → AreFieldLines text → (length text ≡ length text) × AreFieldLines (take (length text) text)
whole_fields text lines = (refl, subst AreFieldLines (sym (take_all (length text) text (omega arith))) lines)

pub whole_empty : (text : List ℕ) → AreEmptyLines text → (length text ≡ length text) × AreEmptyLines (take (length text) text)
whole_empty text lines = (refl, subst AreEmptyLines (sym (take_all (length text) text (omega arith))) lines)

-- a rest, as a slice gives it
pub rest_is : (text : List ℕ) (n : ℕ) → take (length text - n) (drop n text) ≡ drop n text
rest_is text n = take_all (length text - n) (drop n text) (omega (arith, length-drop n text))

pub drop_short : (text : List ℕ) (n : ℕ) → length text ≤ 16384 → length (drop n text) ≤ 16384
drop_short text n short = omega (arith, length-drop n text)
