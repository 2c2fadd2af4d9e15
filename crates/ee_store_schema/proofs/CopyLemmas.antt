-- Replies that are written one after the other.
use Rattle.std.proofs.Common.{◌≡◌, inl, inr, ◌+◌, ◌<◌, ◌≤◌, ◌^◌, ℕ, suc, add-one, List, [], ◌∷◌, length, map, drop, drop-cons, get_or, cond, Bool, true, false, Some, None, Option, refl, sym, ap, subst, ◌∙◌, arith}
use Rattle.std.specs.Prelude.{◌&&◌, T}
use Rattle.std.proofs.lemmas.Bool.{cases_Bool}
use Rattle.std.specs.Cmp.{tied_itself}
use Rattle.std.specs.Option.{option_or}
use Rattle.std.specs.List.{AllByRecursion}
use Rattle.std.specs.Ordering.{is_eq, is_lt}
use Rattle.std.specs.declared.cmp.Ordering.{Ordering}
use Rattle.std.specs.declared.cmp.Ordering.TheVariants.{Less, Equal, Greater}
use Rattle.std.specs.FinMap.{FinMap, get, insert, empty, entries, entries_sorted, get-entries, get-insert, get-empty, same_map}
use Rattle.std.specs.FinMap.Entries.{find, below_all, is_sorted}
use Rattle.sqlite.specs.Order.{Row}
use Rattle.ee_store_tables.specs.Keyed.{pair_cmp}
use Rattle.ee_store_tables.specs.Rows.{Rows, ReplyRow, Rises, FitsRow}
use Rattle.ee_store_tables.proofs.Lemmas.Causes.{room_in_less}
use Rattle.ee_store_tables.proofs.Lemmas.Rows.{pair_total, pair_same}
use Rattle.ee_store_schema.specs.declared.answers.StoredAnswer.{StoredAnswer}
use Rattle.ee_store_schema.specs.Migrating.{answer_entry, Lists, AnswersFit}
use Rattle.ee_store_schema.specs.Inner.Migrating.{copied, CanAddAll}

abbrev Entry : Type 0
Entry = (ℕ × ℕ) × ReplyRow

both_parts : (a b : Bool) → T (a && b) → T a × T b
both_parts true b h = (tt, h)
both_parts false b h = absurd h

less_apart : (o : Ordering) → T (is_lt o) → is_eq o ≡ false
less_apart Less h = refl
less_apart Equal h = absurd h
less_apart Greater h = absurd h

equal_from : (o : Ordering) → is_eq o ≡ true → o ≡ Equal
equal_from Less h = cc
equal_from Equal h = refl
equal_from Greater h = cc

-- ---- all that a map has, written anew, is the map

-- a key that ties with one below all others is none of them
none_above : (q k : ℕ × ℕ) → pair_cmp q k ≡ Equal → (es : List Entry) → T (below_all pair_cmp k es) → find pair_cmp q es ≡ None
none_above q k same [] below = refl
none_above q k same (e ∷ es) below =
    let two = both_parts _ _ below in
    let apart : is_eq (pair_cmp q e.0) ≡ false = ap is_eq (pair_total.congr q k e.0 same) ∙ less_apart (pair_cmp k e.0) two.0 in
    rw apart (none_above q k same es two.1)

copied_gets : (es : List Entry) (m : FinMap pair_cmp ReplyRow) (q : ℕ × ℕ) → T (is_sorted pair_cmp es) → get (copied m es) q ≡ option_or (find pair_cmp q es) (get m q)
copied_gets [] m q sorted = refl
copied_gets (e ∷ es) m q sorted =
    let two = both_parts _ _ sorted in
    copied_gets es (insert m e.0 e.1) q two.1 ∙ ap (option_or (find pair_cmp q es)) (get-insert pair_total m e.0 e.1 q) ∙ by_case (is_eq (pair_cmp q e.0)) refl two.0
  where
    by_case : (b : Bool) → is_eq (pair_cmp q e.0) ≡ b → T (below_all pair_cmp e.0 es)
        → option_or (find pair_cmp q es) (cond b (Some e.1) (get m q)) ≡ option_or (cond b (Some e.1) (find pair_cmp q es)) (get m q)
    by_case true is below = ap (λ o. option_or o (Some e.1)) (none_above q e.0 (equal_from _ is) es below)
    by_case false is below = refl

or_none : (o : Option ReplyRow) → option_or o None ≡ o
or_none None = refl
or_none (Some x) = refl

copied_entries : (m : FinMap pair_cmp ReplyRow) → copied empty (entries m) ≡ m
copied_entries m = same_map pair_total pair_same _ m (λ q.
    copied_gets (entries m) empty q (entries_sorted m) ∙ ap (option_or (find pair_cmp q (entries m))) (get-empty pair_cmp q) ∙ or_none (find pair_cmp q (entries m)) ∙ sym (get-entries m q))

pub copied_all : (all : List StoredAnswer) (rows : Rows) → Lists all rows → copied empty (map answer_entry all) ≡ rows.answers
copied_all all rows listed = ap (copied empty) (sym listed) ∙ copied_entries rows.answers

-- ---- each of them may be written

abbrev Fit : Entry → Type 0
Fit e = (e.0.0 < 2 ^ 63) × (e.0.1 < 2 ^ 63) × FitsRow e.1

-- the later keys are as new as before
still_new : (m : FinMap pair_cmp ReplyRow) (k : ℕ × ℕ) (x : ReplyRow) (es : List Entry) → T (below_all pair_cmp k es) → AllByRecursion (λ e. get m e.0 ≡ None) es → AllByRecursion (λ e. get (insert m k x) e.0 ≡ None) es
still_new m k x [] below none = tt
still_new m k x (e ∷ es) below none =
    let two = both_parts _ _ below in
    let apart : is_eq (pair_cmp e.0 k) ≡ false = turned e.0 two.0 in
    (get-insert pair_total m k x e.0 ∙ ap (λ b. cond b (Some x) (get m e.0)) apart ∙ none.0, still_new m k x es two.1 none.1)
  where
    turned : (q : ℕ × ℕ) → T (is_lt (pair_cmp k q)) → is_eq (pair_cmp q k) ≡ false
    turned q low = elim (cases_Bool (is_eq (pair_cmp q k))) [
      | inl same ↦ absurd (subst (λ o. T (is_lt o)) (ap (λ j. pair_cmp k j) (pair_same q k (equal_from _ same)) ∙ tied_itself pair_total k) low)
      | inr apart ↦ apart
    ]

can_add_each : (es : List Entry) (m : FinMap pair_cmp ReplyRow) → T (is_sorted pair_cmp es) → AllByRecursion (λ e. get m e.0 ≡ None) es → AllByRecursion Fit es → CanAddAll m es
can_add_each [] m sorted none fit = tt
can_add_each (e ∷ es) m sorted none fit =
    let two = both_parts _ _ sorted in
    ((fit.0.0, fit.0.1, none.0, fit.0.2), can_add_each es (insert m e.0 e.1) two.1 (still_new m e.0 e.1 es two.0 none.1) fit.1)

none_empty : (es : List Entry) → AllByRecursion (λ e. get (empty {X = ReplyRow} {R = pair_cmp}) e.0 ≡ None) es
none_empty [] = tt
none_empty (e ∷ es) = (get-empty pair_cmp e.0, none_empty es)

pub can_add_all : (all : List StoredAnswer) (rows : Rows) → Lists all rows → AnswersFit rows → CanAddAll empty (map answer_entry all)
can_add_all all rows listed fit = subst (CanAddAll empty) listed (can_add_each (entries rows.answers) empty (entries_sorted rows.answers) (none_empty (entries rows.answers)) fit.each)

as_many : (all : List StoredAnswer) → length (map answer_entry all) ≡ length all
as_many [] = refl
as_many (a ∷ all) = ap suc (as_many all)

-- there is a rowid for each
pub all_have_place : (all : List StoredAnswer) (rows : Rows) → Lists all rows → AnswersFit rows → 1 + length all ≤ 2 ^ 63
all_have_place all rows listed fit = let same : length (entries rows.answers) ≡ length all = ap length listed ∙ as_many all in let few = fit.few in omega (arith, same, few)

-- if there is room for more, there is for one
pub place_for_one : (n : ℕ) (rows : List Row) → 1 ≤ n → Rises 1 n rows → Rises 1 1 rows
place_for_one n rows some room = (room_in_less (λ _. rows) 1 n some (room, room, room)).2

-- ---- one after the other

-- the next one and those after it
pub next_answer : (all : List StoredAnswer) (i : ℕ) (answer : StoredAnswer) → i < length all → answer ≡ get_or all i answer → map answer_entry (drop i all) ≡ answer_entry answer ∷ map answer_entry (drop (i + 1) all)
next_answer all i answer below is = ap (map answer_entry) (drop-cons all i answer below) ∙ ap (λ a. answer_entry a ∷ map answer_entry (drop (suc i) all)) (sym is) ∙ ap (λ n. answer_entry answer ∷ map answer_entry (drop n all)) (sym (add-one i))

pub next_count : (all : List StoredAnswer) (i : ℕ) (answer : StoredAnswer) → i < length all → answer ≡ get_or all i answer → length (drop i all) ≡ length (drop (i + 1) all) + 1
next_count all i answer below is =
    let here = as_many (drop i all) in let later = as_many (drop (i + 1) all) in let one = ap length (next_answer all i answer below is) in omega (arith, here, later, one)
