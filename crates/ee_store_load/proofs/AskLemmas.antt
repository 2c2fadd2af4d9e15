-- Texts that write nothing, whatever tables there are, and what is kept if they are asked.
use Rattle.std.proofs.Common.{◌≡◌, inl, inr, ℕ, List, [], ◌∷◌, ◌++◌, codes, Bool, true, false, None, Option, Ok, Err, Result, refl, sym, ap, subst, ◌∙◌}
use Rattle.std.specs.Prelude.{IsSome, if◌then◌else◌, All}
use Rattle.sqlite.specs.Order.{Row}
use Rattle.sqlite.specs.Tree.{Trees}
use Rattle.sqlite.specs.Schema.{Schema}
use Rattle.sqlite.specs.Held.{Held, state}
use Rattle.std.proofs.lemmas.List.Elements.{All-nil, All-cons, All-head, All-tail}
use Rattle.sqlite.specs.Clock.{timed}
use Rattle.sqlite.specs.Effect.{Database}
use Rattle.sqlite.specs.Given.{HasGiven, HasBegun, Returns}
use Rattle.sqlite.specs.Listing.{understood, if_select, reads_listing, listing_schema, IsSourceOf}
use Rattle.sqlite.specs.State.{State, IsUnchanged, Begins, Shown, ShowsRows, Survives, CommitsShowing}
use Rattle.sqlite.proofs.StateLemmas.{survives_weaker}
use Rattle.sqlite.proofs.Callers.{unchanged_then}
use Rattle.sqlite_trees.specs.declared.store.Store.{Ghosts}
use Rattle.sqlite_schema.specs.declared.command.Command.{Command}
use Rattle.sqlite_schema.specs.declared.command.Returning.{Returning}
use Rattle.sqlite_syntax.specs.declared.statement.Parsed.{Parsed}
use Rattle.sqlite_resolve.specs.declared.compiled.Compiled.{Compiled}
use Rattle.sqlite_resolve.specs.declared.error.CompileError.{CompileError}
use Rattle.sqlite_resolve.specs.declared.error.CompileError.TheVariants.{NoSuchTable}
use Rattle.sqlite_resolve.specs.Lowering.{Checked, and_then}
use Rattle.sqlite_resolve.specs.Compile.{first, compiled, planned, meaning, returning, command, with_command, timed as timed_formats}
use Rattle.sqlite_tied.specs.Compute.{everything}
use Rattle.ee_store_load.specs.Inner.Reading.{OnlyAsks}

-- ---- what a text is compiled to

abbrev checked : {A : Type 0} → A → Checked A
checked a = Ok a

value_of : {A : Type 0} (a b : A) → checked a ≡ checked b → a ≡ b
value_of a b is = cc

-- the statement that a text begins with shows nothing of what it writes
abbrev ReturnsNone : Result Parsed CompileError → Type 0
ReturnsNone r = (schema : Schema) (base : ℕ) → and_then r (λ p. returning schema base p.statement) ≡ checked None

meaning_by : (shown : Checked (Option Returning)) (made : Checked Command) (found : Command × Option Returning) → and_then shown (λ s. and_then made (λ c. checked (c, s))) ≡ checked found → shown ≡ checked None → found.1 ≡ None
meaning_by (Ok s) (Ok c) found is none = sym (ap (λ f. f.1) (value_of (c, s) found is)) ∙ value_of s None none
meaning_by (Ok s) (Err e) found is none = absurd cc
meaning_by (Err e) made found is none = absurd cc

meaning_none : (schema : Schema) (p : Parsed) (base : ℕ) → ((base : ℕ) → returning schema base p.statement ≡ Ok None) → (found : Command × Option Returning) → meaning schema p base ≡ Ok found → found.1 ≡ None
unfolding meaning
meaning_none schema p base none found is = meaning_by (returning schema base p.statement) (command schema p.formats base p.statement) found is (none base)

abbrev Plan : Type 0
Plan = List (List ℕ) × (Command × Option Returning)

planned_by : (formats : List (List ℕ)) (r : Checked (Command × Option Returning)) (plan : Plan) → and_then r (λ found. checked (formats, found)) ≡ checked plan → ((found : Command × Option Returning) → r ≡ checked found → found.1 ≡ None) → plan.1.1 ≡ None
planned_by formats (Ok found) plan is none = sym (ap (λ f. f.1.1) (value_of (formats, found) plan is)) ∙ none found refl
planned_by formats (Err e) plan is none = absurd cc

planned_none : (schema : Schema) (p : Parsed) → ((base : ℕ) → returning schema base p.statement ≡ Ok None) → (plan : Plan) → planned schema p ≡ Ok plan → plan.1.1 ≡ None
unfolding planned
planned_none schema p none plan is = planned_by (timed_formats schema p.formats p.statement) _ plan is (meaning_none schema p _ none)

with_plan : (p : Parsed) (r : Checked Plan) (c : Compiled) → and_then r (λ plan. checked (with_command p plan)) ≡ checked c → ((plan : Plan) → r ≡ checked plan → plan.1.1 ≡ None) → c.returning ≡ None
with_plan p (Ok plan) c is none = sym (ap (λ (d : Compiled). d.returning) (value_of (with_command p plan) c is)) ∙ none plan refl
with_plan p (Err e) c is none = absurd cc

compiled_by : (schema : Schema) (r : Result Parsed CompileError) (c : Compiled) → and_then r (λ p. and_then (planned schema p) (λ plan. checked (with_command p plan))) ≡ checked c → ReturnsNone r → c.returning ≡ None
compiled_by schema (Ok p) c is none = with_plan p (planned schema p) c is (planned_none schema p (none schema))
compiled_by schema (Err e) c is none = absurd cc

compiled_none : (schema : Schema) (text : List ℕ) → ReturnsNone (first text) → (c : Compiled) → compiled schema text ≡ Ok c → c.returning ≡ None
unfolding compiled
compiled_none schema text none c is = compiled_by schema (first text) c is none

selected : (r : Result Compiled CompileError) (c : Compiled) → if_select r ≡ Ok c → r ≡ Ok c
selected (Ok d) c is = chosen _ is
  where
    chosen : (b : Bool) → (if b then checked d else Err NoSuchTable) ≡ checked c → checked d ≡ checked c
    chosen true is = is
    chosen false is = absurd cc
selected (Err e) c is = absurd cc

understood_none : (text : List ℕ) → ReturnsNone (first text) → OnlyAsks text
unfolding understood
understood_none text none schema c is = by_listing (reads_listing schema text) is
  where
    by_listing : (b : Bool) → (if b then if_select (compiled listing_schema text) else compiled schema text) ≡ Ok c → c.returning ≡ None
    by_listing true is = compiled_none listing_schema text none c (selected _ c is)
    by_listing false is = compiled_none schema text none c is

-- ---- the texts of this crate

returns_version : ReturnsNone (first (codes "SELECT version FROM desk WHERE id = ?1"))
unfolding first returning everything
returns_version schema base = refl

pub only_version : OnlyAsks (codes "SELECT version FROM desk WHERE id = ?1")
only_version = understood_none _ returns_version

returns_desk : ReturnsNone (first (codes "SELECT id, version, day, last_day FROM desk ORDER BY id"))
unfolding first returning everything
returns_desk schema base = refl

pub only_desk : OnlyAsks (codes "SELECT id, version, day, last_day FROM desk ORDER BY id")
only_desk = understood_none _ returns_desk

returns_rates : ReturnsNone (first (codes "SELECT period, rate FROM rates ORDER BY period"))
unfolding first returning everything
returns_rates schema base = refl

pub only_rates : OnlyAsks (codes "SELECT period, rate FROM rates ORDER BY period")
only_rates = understood_none _ returns_rates

returns_bonds : ReturnsNone (first (codes "SELECT letter, number, denom, issued, owner, coowner, ticket FROM bonds ORDER BY letter, number"))
unfolding first returning everything
returns_bonds schema base = refl

pub only_bonds : OnlyAsks (codes "SELECT letter, number, denom, issued, owner, coowner, ticket FROM bonds ORDER BY letter, number")
only_bonds = understood_none _ returns_bonds

returns_bond_rowids : ReturnsNone (first (codes "SELECT rowid FROM bonds ORDER BY rowid"))
unfolding first returning everything
returns_bond_rowids schema base = refl

pub only_bond_rowids : OnlyAsks (codes "SELECT rowid FROM bonds ORDER BY rowid")
only_bond_rowids = understood_none _ returns_bond_rowids

returns_tickets : ReturnsNone (first (codes "SELECT ticket, day, payee, bonds, total FROM tickets ORDER BY ticket"))
unfolding first returning everything
returns_tickets schema base = refl

pub only_tickets : OnlyAsks (codes "SELECT ticket, day, payee, bonds, total FROM tickets ORDER BY ticket")
only_tickets = understood_none _ returns_tickets

returns_lines : ReturnsNone (first (codes "SELECT ticket, place, letter, number, cents FROM paid ORDER BY ticket, place"))
unfolding first returning everything
returns_lines schema base = refl

pub only_lines : OnlyAsks (codes "SELECT ticket, place, letter, number, cents FROM paid ORDER BY ticket, place")
only_lines = understood_none _ returns_lines

returns_line_rowids : ReturnsNone (first (codes "SELECT rowid FROM paid ORDER BY rowid"))
unfolding first returning everything
returns_line_rowids schema base = refl

pub only_line_rowids : OnlyAsks (codes "SELECT rowid FROM paid ORDER BY rowid")
only_line_rowids = understood_none _ returns_line_rowids

returns_batches : ReturnsNone (first (codes "SELECT day, tickets, bonds, total FROM batches ORDER BY day"))
unfolding first returning everything
returns_batches schema base = refl

pub only_batches : OnlyAsks (codes "SELECT day, tickets, bonds, total FROM batches ORDER BY day")
only_batches = understood_none _ returns_batches

returns_replies : ReturnsNone (first (codes "SELECT number, act, reply FROM replies ORDER BY number"))
unfolding first returning everything
returns_replies schema base = refl

pub only_replies : OnlyAsks (codes "SELECT number, act, reply FROM replies ORDER BY number")
only_replies = understood_none _ returns_replies

returns_answers : ReturnsNone (first (codes "SELECT desk, number, act, reply FROM answers ORDER BY desk, number"))
unfolding first returning everything
returns_answers schema base = refl

pub only_answers : OnlyAsks (codes "SELECT desk, number, act, reply FROM answers ORDER BY desk, number")
only_answers = understood_none _ returns_answers

returns_answer_rowids : ReturnsNone (first (codes "SELECT rowid FROM answers ORDER BY rowid"))
unfolding first returning everything
returns_answer_rowids schema base = refl

pub only_answer_rowids : OnlyAsks (codes "SELECT rowid FROM answers ORDER BY rowid")
only_answer_rowids = understood_none _ returns_answer_rowids

returns_extensions : ReturnsNone (first (codes "SELECT period, rate FROM extensions ORDER BY period"))
unfolding first returning everything
returns_extensions schema base = refl

pub only_extensions : OnlyAsks (codes "SELECT period, rate FROM extensions ORDER BY period")
only_extensions = understood_none _ returns_extensions

-- ---- what asking keeps

never_some : {X : Type 0} (o : Option X) → o ≡ None → ¬ IsSome o
never_some o is some = let none = rw is at some in cc

returns_never : (r : Result Compiled CompileError) → ((c : Compiled) → r ≡ Ok c → c.returning ≡ None) → ¬ Returns r
returns_never (Ok c) none some = never_some c.returning (none c refl) some
returns_never (Err e) none some = some

module _ (text : List ℕ) (asks : OnlyAsks text) (params : Row) where
  never_commits : (s : State) (db : Trees) → ¬ CommitsShowing text params s db
  unfolding CommitsShowing
  never_commits s db h = never_some h.0.returning (asks s.now.schema h.0 h.1.is) h.2

  -- a stop leaves what it could leave before
  pub commits_nothing : (old new : State) → Survives old new (CommitsShowing text params old) → Survives old new (λ _. ⊥)
  commits_nothing old new = survives_weaker old new _ _ (λ _ db. never_commits old db)

  pub begun_asking : {S : Type 0} (g : Ghosts S) (old new : Held S) → HasBegun g text params old new → HasGiven g text params new [] × IsUnchanged (state g old) (state g new)
  begun_asking g old new (inl h) = h
  begun_asking g old new (inr h) = absurd (returns_never (understood old.schema text) (asks old.schema) h.0)

  pub shown_same : (old new : State) (rows : List Row) → Shown text params old new rows → IsUnchanged old new
  unfolding Shown
  shown_same old new rows h = (subst (ShowsRows old new text h.0 _ rows) (asks old.now.schema h.0 h.1.is) h.2).3

  -- and from the state that was the same before
  pub shown_after : (first old new : State) (rows : List Row) → IsUnchanged first old → Shown text params old new rows → Shown text params first new rows
  unfolding Shown
  shown_after first old new rows same h =
      let full = timed params h.0.formats h.1.now in
      let none = asks old.now.schema h.0 h.1.is in
      let shows = subst (ShowsRows old new text h.0 full rows) none h.2 in (
        h.0,
        record { is = subst (λ (d : Database). understood d.schema text ≡ Ok h.0) same.0.now_is h.1.is; whole = h.1.whole; given = h.1.given; now = h.1.now },
        subst (ShowsRows first new text h.0 full rows) (sym none)
            (shows.0, subst (λ (d : Database). IsSourceOf (reads_listing d.schema text) d shows.0) same.0.now_is shows.1, shows.2, unchanged_then first old new same shows.3),
      )

-- ---- rows that an answer begins with

pub begins_before : (text : List ℕ) (params : Row) (first now : State) (rows : List Row) → IsUnchanged first now → Begins text params now rows → Begins text params first rows
unfolding Begins
begins_before text params first now rows same h = (
  h.0,
  record { is = subst (λ (d : Database). understood d.schema text ≡ Ok h.0) same.0.now_is h.1.is; whole = h.1.whole; given = h.1.given; now = h.1.now },
  h.2,
  h.3,
  subst (λ (d : Database). IsSourceOf (reads_listing d.schema text) d h.3) same.0.now_is h.4,
  h.5,
)

module _ (P : Row → Type 0) where
  pub last_of : (xs : List Row) (x : Row) → All P (xs ++ x ∷ []) → P x
  last_of [] x all = All-head P x [] all
  last_of (y ∷ ys) x all = last_of ys x (All-tail P y (ys ++ x ∷ []) all)

  pub front_of : (xs ys : List Row) → All P (xs ++ ys) → All P xs
  front_of [] ys all = All-nil P
  front_of (x ∷ xs) ys all = All-cons P x xs (All-head P x (xs ++ ys) all) (front_of xs ys (All-tail P x (xs ++ ys) all))
