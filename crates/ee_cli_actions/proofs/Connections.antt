-- One connection more.
use Rattle.std.proofs.Common.{◌≡◌, ◌⊎◌, ◌||◌, Bool, true, false, ℕ, ◌+◌, ◌≤◌, List, [], ◌∷◌, ◌++◌, length, Option, Some, None, Result, Ok, Err, is_ok, refl, sym, ap, subst, ◌∙◌, arith, append_assoc, append-nil, length-append, inl, inr}
use Rattle.std.specs.Io.KnownBytes.{Appends}
use Rattle.std.proofs.KnownBytes.{Appends-nil, Appends-trans}
use Rattle.ee_io.specs.Written.{WritesFront}
use Rattle.std.proofs.Math.Bool.{or-false}
use Rattle.ee_desk_model.specs.Repeats.{Content}
use Rattle.ee_desk_laws.specs.Attempts.{Attempt, LeadOn}
use Rattle.ee_desk_laws.specs.Events.{Event}
use Rattle.ee_desk_laws.proofs.Lemmas.{lead_further}
use Rattle.ee_keeper.specs.Keeping.{HasAfter}
use Rattle.ee_counter.specs.declared.connections.Ended.{Ended}
use Rattle.ee_counter.specs.declared.connections.Why.{Why}
use Rattle.ee_counter.specs.declared.connections.Why.TheVariants.{Closed, Asked, Limit, Fault, ReadFailed, WriteFailed, NoMemory}
use Rattle.ee_counter.specs.Serving.{EndsBy, Told, left_by, left_by_all, attempts_by, attempts_by_all}
use Rattle.ee_cli_actions.specs.Connections.{BreaksOff, Comes, EndsWithFailure, PrintsLines, ServesEach, ServesStream, WritesSome, any_failed}
use Rattle.ee_cli_actions.specs.Inner.Connections.{PrintsLine, ServesNext, WritesNotAll}
use Rattle.ee_cli_actions.specs.declared.faults.Outcome.{Outcome}
use Rattle.ee_cli_actions.specs.declared.faults.RunFault.{RunFault}
use Rattle.ee_cli_actions.specs.declared.faults.RunFault.TheVariants.{Device}
use Rattle.ee_cli_actions.specs.declared.faults.RunFault.TheVariants as fault
use Rattle.ee_cli_actions.specs.Printed.{connection_line, connection_lines}

-- a connection leaves one content, by some attempts
ends_at : (why : Why) (last : Option Told) (bytes : List ℕ) (left old new : Option (List ℕ)) (c : Content) (n count : ℕ) (before : List Attempt) (Has : Content → List Attempt → Type 0)
    → EndsBy why last bytes left old new c n count Has
    → (d : Content) × (these : List Attempt) × EndsBy why last bytes left old new c n count (λ now more. (now ≡ d) × (before ++ more ≡ before ++ these)) × Has d these
ends_at Closed None bytes left old new c n count before Has e = (c, [], (e.0, e.1, e.2, e.3, (refl, refl)), e.4)
ends_at Closed (Some t) bytes left old new c n count before Has e = absurd e
ends_at Asked None bytes left old new c n count before Has e = absurd e
ends_at Asked (Some t) bytes left old new c n count before Has e = (left_by c t, attempts_by t, ((e.0.0, e.0.1, (refl, refl)), e.1, e.2, e.3), e.0.2)
ends_at Limit None bytes left old new c n count before Has e = (c, [], (e.0, e.1, e.2, (refl, refl)), e.3)
ends_at Limit (Some t) bytes left old new c n count before Has e = absurd e
ends_at (Fault f) None bytes left old new c n count before Has e = (c, [], (e.0, e.1, e.2, (refl, refl)), e.3)
ends_at (Fault f) (Some t) bytes left old new c n count before Has e = absurd e
ends_at ReadFailed None bytes left old new c n count before Has e = (c, [], (e.0, e.1, e.2, (refl, refl)), e.3)
ends_at ReadFailed (Some t) bytes left old new c n count before Has e = absurd e
ends_at NoMemory None bytes left old new c n count before Has e = (c, [], (e.0, e.1, e.2, (refl, refl)), e.3)
ends_at NoMemory (Some t) bytes left old new c n count before Has e = (left_by c t, attempts_by t, (e.0, e.1, (e.2.0, e.2.1, (refl, refl))), e.2.2)
ends_at WriteFailed None bytes left old new c n count before Has e = (c, [], (e.0, e.1, (refl, refl)), e.2)
ends_at WriteFailed (Some t) bytes left old new c n count before Has e = (left_by c t, attempts_by t, (e.0, (e.1.0, e.1.1, (refl, refl)), e.2), e.1.2)

serves_at : (sends : Option (List ℕ)) (c : Content) (e : Ended) (Has : Content → List Attempt → Type 0) → ServesStream sends c e Has
    → (d : Content) × (these : List Attempt) × ServesStream sends c e (λ left more. (left ≡ d) × (more ≡ these)) × Has d these
serves_at sends c e Has (left, old, new, s) =
    let before = attempts_by_all s.told in
    let x = ends_at e.why s.ends.0 s.rest left s.wrote new (left_by_all c s.told) (length s.told) e.messages before (λ left more. Has left (before ++ more)) s.ends.2 in (
      x.0,
      before ++ x.1,
      (left, old, new, record { bytes = s.bytes; read = s.read; told = s.told; needed = s.needed; few = s.few; rest = s.rest; wrote = s.wrote; so_far = s.so_far; ends = (s.ends.0, s.ends.1, x.2) }),
      x.3,
    )

-- a content that a connection leaves, and the attempts that led there
pub left_of : (coming others : Option (List (List ℕ))) (c : Content) (e : Ended) (Has : Content → List Attempt → Type 0) → ServesNext coming others c (Ok e) Has
    → (d : Content) × ((these : List Attempt) × Has d these)
left_of coming others c e Has (sends, comes, s) = let x = serves_at sends c e Has s in (x.0, (x.1, x.3))

first_false : (a b : Bool) → (a || b) ≡ false → a ≡ false
first_false true b none = none
first_false false b none = refl

second_false : (a b : Bool) → (a || b) ≡ false → b ≡ false
second_false true b none = absurd (cc)
second_false false b none = none

-- what is left may say more
pub each_with : (coming others : Option (List (List ℕ))) (c : Content) (es : List Ended) (Has After : Content → List Attempt → Type 0)
    → ((d : Content) (attempts : List Attempt) → Has d attempts → After d attempts) → ServesEach coming others c es Has → ServesEach coming others c es After
each_with coming others c [] Has After more (same, has) = (same, more c [] has)
each_with coming others c (x ∷ es) Has After more (next, sends, comes, (d, these, serves, rest)) =
    (next, sends, comes, (d, these, serves, each_with next others d es (λ left l. Has left (these ++ l)) (λ left l. After left (these ++ l)) (λ left l. more left (these ++ l)) rest))

each_more_from : (before : List Attempt) (coming others after : Option (List (List ℕ))) (c : Content) (es : List Ended) (e : Ended) (Has After : Content → Type 0) (Before Now Then : Content → List Event → Type 0)
    → ServesEach coming others c es (λ left l. HasAfter Has Before Now left (before ++ l)) → ((d : Content) → Has d → ServesNext others after d (Ok e) (HasAfter After Now Then))
    → ServesEach coming after c (es ++ e ∷ []) (λ left l. HasAfter After Before Then left (before ++ l))
each_more_from before coming others after c [] e Has After Before Now Then (known, has) next =
    let (sends, comes, stream) = next c has.0 in
    let (d, these, serves, then) = serves_at sends c e (HasAfter After Now Then) stream in
    let same : (before ++ []) ++ these ≡ before ++ (these ++ []) = ap (λ l. l ++ these) (append-nil before) ∙ ap (λ l. before ++ l) (sym (append-nil these)) in (
      after,
      sends,
      subst (λ they. Comes they after sends) known comes,
      (d, these, serves, (refl, (then.0, subst (λ l. LeadOn Before l Then) same (lead_further Before Now Then (before ++ []) these has.1 then.1)))),
    )
each_more_from before coming others after c (x ∷ es) e Has After Before Now Then (first, sends, comes, (d, these, serves, rest)) next =
    let nested = each_with first others d es (λ left l. HasAfter Has Before Now left (before ++ (these ++ l))) (λ left l. HasAfter Has Before Now left ((before ++ these) ++ l))
    (λ left l. subst (HasAfter Has Before Now left) (sym (append_assoc before these l))) rest in
    let more = each_more_from (before ++ these) first others after d es e Has After Before Now Then nested next in
    let last = each_with first after d (es ++ e ∷ []) (λ left l. HasAfter After Before Then left ((before ++ these) ++ l)) (λ left l. HasAfter After Before Then left (before ++ (these ++ l)))
    (λ left l. subst (HasAfter After Before Then left) (append_assoc before these l)) more in
    (first, sends, comes, (d, these, serves, last))

pub each_more : (coming others after : Option (List (List ℕ))) (c : Content) (es : List Ended) (e : Ended) (Has After : Content → Type 0) (Before Now Then : Content → List Event → Type 0)
    → ServesEach coming others c es (HasAfter Has Before Now) → ((d : Content) → Has d → ServesNext others after d (Ok e) (HasAfter After Now Then))
    → ServesEach coming after c (es ++ e ∷ []) (HasAfter After Before Then)
each_more = each_more_from []

-- no connection more
pub each_yet : (coming others : Option (List (List ℕ))) (c : Content) (es : List Ended) (Has After : Content → Type 0) (Before Now Then : Content → List Event → Type 0)
    → ServesEach coming others c es (HasAfter Has Before Now) → ((d : Content) → Has d → HasAfter After Now Then d []) → ServesEach coming others c es (HasAfter After Before Then)
each_yet coming others c es Has After Before Now Then each stays =
    each_with coming others c es (HasAfter Has Before Now) (HasAfter After Before Then)
    (λ d l has. let then = stays d has.0 in (then.0, subst (λ k. LeadOn Before k Then) (append-nil l) (lead_further Before Now Then l [] has.1 then.1))) each

lines_after : (n : ℕ) (es : List Ended) (e : Ended) → connection_lines n (es ++ e ∷ []) ≡ connection_lines n es ++ connection_line (n + length es + 1) e
lines_after n [] e = let same : n + 1 ≡ n + 0 + 1 = omega arith in append-nil (connection_line (n + 1) e) ∙ ap (λ k. connection_line k e) same
lines_after n (x ∷ es) e =
    let same : n + 1 + length es + 1 ≡ n + length (x ∷ es) + 1 = omega arith in
    ap (λ r. connection_line (n + 1) x ++ r) (lines_after (n + 1) es e)
    ∙ sym (append_assoc (connection_line (n + 1) x) (connection_lines (n + 1) es) (connection_line (n + 1 + length es + 1) e))
    ∙ ap (λ k. (connection_line (n + 1) x ++ connection_lines (n + 1) es) ++ connection_line k e) same

pub lines_more : (es : List Ended) (e : Ended) (n : ℕ) → length es ≡ n → connection_lines 0 (es ++ e ∷ []) ≡ connection_lines 0 es ++ connection_line (n + 1) e
lines_more es e n is =
    let same : 0 + length es + 1 ≡ n + 1 = omega (arith, is) in
    lines_after 0 es e ∙ ap (λ k. connection_lines 0 es ++ connection_line k e) same

pub count_more : (es : List Ended) (e : Ended) (n : ℕ) → length es ≡ n → length (es ++ e ∷ []) ≡ n + 1
count_more es e n is = omega (arith, length-append es (e ∷ []), is)

-- a line is printed, or its front
pub printed_line : (old new : Option (List ℕ)) (text : List ℕ) (e : Ended) (n : ℕ) (r : Result (Unit {0}) RunFault)
    → text ≡ connection_line n e → WritesFront old new text (is_ok r) → PrintsLine old new (connection_line n e) r
printed_line old new text e n (Ok u) same w = subst (Appends old new) (w.whole refl ∙ same) w.written
printed_line old new text e n (Err cause) same w = (record { front = w.front; rest = w.rest; parts = sym same ∙ w.parts; written = w.written }, w.cut refl)

-- or nothing of it
pub printed_none : (old : Option (List ℕ)) (e : Ended) (n : ℕ) (r : Result (Unit {0}) RunFault) (cause : RunFault)
    → r ≡ Err cause → PrintsLine old old (connection_line n e) r
printed_none old e n r cause is = subst (PrintsLine old old (connection_line n e)) (sym is) (
  record { front = []; rest = connection_line n e; parts = refl; written = Appends-nil old },
  λ none. absurd (cc),
)

-- one line more was printed
pub printed_more : (old mid new : Option (List ℕ)) (es : List Ended) (e : Ended) (n : ℕ) → length es ≡ n
    → Appends old mid (connection_lines 0 es) → Appends mid new (connection_line (n + 1) e) → Appends old new (connection_lines 0 (es ++ e ∷ []))
printed_more old mid new es e n is a b = subst (Appends old new) (sym (lines_more es e n is)) (Appends-trans old mid new _ _ a b)

-- all of a text is a front of it
some_of : (old new : Option (List ℕ)) (text : List ℕ) → Appends old new text → WritesSome old new text
some_of old new text a = record { front = text; rest = []; parts = sym (append-nil text); written = a }

-- and one that was cut
pub broken_off : (old mid new : Option (List ℕ)) (es : List Ended) (e : Ended) (n : ℕ) → length es ≡ n
    → Appends old mid (connection_lines 0 es) → WritesNotAll mid new (connection_line (n + 1) e) → BreaksOff old new (es ++ e ∷ [])
broken_off old mid new es e n is a w = (
  record {
    front = connection_lines 0 es ++ w.0.front;
    rest = w.0.rest;
    parts = lines_more es e n is ∙ ap (λ x. connection_lines 0 es ++ x) w.0.parts ∙ sym (append_assoc (connection_lines 0 es) w.0.front w.0.rest);
    written = Appends-trans old mid new _ _ a w.0.written;
  },
  λ failed. w.1,
)

-- no line more, if the store failed on no connection
pub breaks_before : (old new : Option (List ℕ)) (es : List Ended) → any_failed es ≡ false → Appends old new (connection_lines 0 es) → BreaksOff old new es
breaks_before old new es none a = (some_of old new (connection_lines 0 es) a, λ failed. let never : false ≡ true = sym none ∙ failed in absurd (cc))

-- if a device or memory failed
pub lines_failed : (most : ℕ) (old new : Option (List ℕ)) (es : List Ended) (r : Result Outcome RunFault) (cause told : RunFault)
    → r ≡ Err cause → cause ≡ told → (told ≡ Device) ⊎ (told ≡ fault.NoMemory)
    → length es ≤ most → BreaksOff old new es → PrintsLines most old new es r
lines_failed most old new es r cause told is same (inl device) few some = subst (PrintsLines most old new es) (sym (is ∙ ap Err (same ∙ device))) (few, some)
lines_failed most old new es r cause told is same (inr memory) few some = subst (PrintsLines most old new es) (sym (is ∙ ap Err (same ∙ memory))) (few, some)

-- ---- whether the store failed

pub failed_more : (es : List Ended) (e : Ended) → any_failed es ≡ false → any_failed (es ++ e ∷ []) ≡ e.store_failed
failed_more [] e none = or-false e.store_failed
failed_more (x ∷ es) e none =
    ap (λ b. b || any_failed (es ++ e ∷ [])) (first_false x.store_failed (any_failed es) none) ∙ failed_more es e (second_false x.store_failed (any_failed es) none)

-- no connection is served after one on which it did
pub until_more : (es : List Ended) (e : Ended) → any_failed es ≡ false → EndsWithFailure (es ++ e ∷ [])
until_more [] e none = tt
until_more (x ∷ []) e none = (first_false x.store_failed false none, tt)
until_more (x ∷ y ∷ es) e none =
    (first_false x.store_failed (any_failed (y ∷ es)) none, until_more (y ∷ es) e (second_false x.store_failed (any_failed (y ∷ es)) none))

pub until_none : (es : List Ended) → any_failed es ≡ false → EndsWithFailure es
until_none [] none = tt
until_none (x ∷ []) none = tt
until_none (x ∷ y ∷ es) none =
    (first_false x.store_failed (any_failed (y ∷ es)) none, until_none (y ∷ es) (second_false x.store_failed (any_failed (y ∷ es)) none))
