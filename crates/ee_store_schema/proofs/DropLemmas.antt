-- Dropping the table of replies under a number alone.
use Rattle.std.proofs.Common.{◌≡◌, inl, inr, ℕ, List, [], codes, Some, None, Option, Ok, Err, refl, sym, ap, subst, ◌∙◌, arith}
use Rattle.sqlite.specs.declared.error.Error.{Error}
use Rattle.sqlite_schema.specs.declared.schema.Among.{Among}
use Rattle.sqlite_schema.specs.Rules.{Refers}
use Rattle.sqlite.specs.Schema.{Schema}
use Rattle.sqlite.specs.Command.TheVariants.{DropTable}
use Rattle.sqlite_catalog.specs.Change.{KeepsRows}
use Rattle.sqlite.specs.declared.run.Mode.{Mode}
use Rattle.sqlite.specs.Order.{Row}
use Rattle.sqlite.specs.Does.{Tally, Does, Leaves, due}
use Rattle.sqlite_keyed.proofs.RuleLemmas.{each_true}
use Rattle.sqlite.specs.Tree.{Trees}
use Rattle.sqlite.specs.Effect.{Database}
use Rattle.sqlite.specs.Listing.{understood}
use Rattle.sqlite.specs.State.{State, mode_of, Executes, ExecutesInside}
use Rattle.sqlite_tied.specs.Compute.{everything}
use Rattle.sqlite.proofs.Callers.{IsPlain, command_of, statement_of, runs_as}
use Rattle.ee_store_tables.specs.Tables.{counter_schema}
use Rattle.ee_store_tables.proofs.Lemmas.Rows.{went_on, same_ok}
use Rattle.ee_store_tables.proofs.Lemmas.Causes.{no_references}
use Rattle.ee_store_schema.specs.Inner.Asking.{IsOneStatement}
use Rattle.ee_store_schema.specs.Inner.Making.{both_tables, GainsTable, LeavesTables, ReplacesReplies}
use Rattle.ee_store_schema.specs.Forms.{first_tables}
use Rattle.ee_store_schema.proofs.Lemmas.Causes.{Excuses}
use Rattle.ee_store_schema.proofs.Lemmas.Faults.{IsUsable}
use Rattle.ee_store_schema.proofs.DefineLemmas.{AreEmpty, Left, still_empty}
use Rattle.ee_store_schema.proofs.MakeUsable.{statement_usable}
use Rattle.ee_store_schema.proofs.MakeCause.{NeverStops, statement_excused, stopped, never_given}

abbrev pub drop_text : List ℕ
drop_text = codes "DROP TABLE replies"

drop_is : command_of (understood both_tables drop_text) ≡ DropTable 6
unfolding understood everything
drop_is = refl

drop_plain : IsPlain (understood both_tables drop_text)
unfolding understood everything
drop_plain = (refl, refl)

drop_whole : statement_of drop_text (understood both_tables drop_text) ≡ drop_text
unfolding understood everything
drop_whole = refl

abbrev OneDrop : Type 0
OneDrop = IsOneStatement drop_text 0 (understood both_tables drop_text)

one_drop : OneDrop
unfolding understood everything
one_drop = (omega arith, refl, refl, refl)

-- the other tables are left as they were
pub drops : (old new : State) (count : ℕ) → old.now.schema ≡ both_tables → Executes drop_text [] old new (Ok count) → LeavesTables counter_schema old new
drops old new count has h =
    let db = old.now.trees in
    let command = DropTable 6 in
    let w = runs_as drop_text [] old new both_tables has command drop_is drop_plain count h in
    let text = statement_of drop_text (understood both_tables drop_text) in
    let emptied = went_on (subst (λ s. Does old.step_limit (mode_of old) [] (record old.now { schema = s }) text None command (Ok (w.tally, new.now))) has w.changed) in
    let uncounted = went_on emptied.2 in
    let tested = went_on uncounted.2 in
    let left = went_on tested.2 in
    let first : emptied.0 ≡ db = same_ok emptied.1 in
    let second : uncounted.0 ≡ db = same_ok uncounted.1 ∙ first in
    let now : new.now ≡ left.0 = ap (λ (p : Tally × Database). p.1) (same_ok left.2) in
    let same : KeepsRows counter_schema.tables db left.0.trees = subst (λ trees. KeepsRows counter_schema.tables trees left.0.trees) second left.1.1 in
    record {
      schema = ap (λ (d : Database). d.schema) now ∙ left.1.0;
      others = subst (λ (d : Database). KeepsRows counter_schema.tables db d.trees) (sym now) same;
      sound = w.sound;
    }

-- tables with no rows stay so
pub left_none : (old new : State) → LeavesTables counter_schema old new → AreEmpty both_tables.tables old.now.trees → Left new counter_schema
left_none old new leaves none = (
  leaves.schema,
  still_empty counter_schema.tables old.now.trees new.now.trees leaves.others
      (none.0, (none.1.0, (none.1.1.0, (none.1.1.1.0, (none.1.1.1.1.0, (none.1.1.1.1.1.0, none.1.1.1.1.1.1.1)))))),
)

-- the answers, which are none, are in the place of the replies
pub replaces : (old middle new : State) → GainsTable first_tables both_tables old middle → LeavesTables counter_schema middle new → ReplacesReplies old new
replaces old middle new gained left =
    let a = gained.others in
    let b = left.others in
    record {
      schema = left.schema;
      empty = b.1.1.1.1.1.1.1.0 ∙ gained.empty;
      others = (b.0 ∙ a.0, (b.1.0 ∙ a.1.0, (b.1.1.0 ∙ a.1.1.0, (b.1.1.1.0 ∙ a.1.1.1.0, (b.1.1.1.1.0 ∙ a.1.1.1.1.0, (b.1.1.1.1.1.0 ∙ a.1.1.1.1.1.0, (b.1.1.1.1.1.1.0 ∙ a.1.1.1.1.1.1.1.0, tt)))))));
      sound = left.sound;
    }

-- ---- no table refers to another

both_references : (among : Among) (db : Trees) → Refers among both_tables db
both_references among db = (each_true _, (each_true _, (each_true _, (each_true _, (each_true _, (each_true _, (each_true _, (each_true _, (each_true _, tt)))))))))

never_left : (schema : Schema) (db : Trees) (stop : Option Error) → ¬ Leaves schema db (λ _. ⊥) (Err stop)
never_left schema db None h = h
never_left schema db (Some e) h = h

-- so nothing stops it
drop_never : (limit : Option ℕ) (mode : Mode) (params : Row) (db : Database) → NeverStops (Does limit mode params (record db { schema = both_tables }) drop_text None (DropTable 6))
drop_never limit mode params db stop does = elim (stopped stop does) [
  | inl emptied ↦ never_given _ stop emptied
  | inr emptied ↦ elim (stopped stop emptied.2) [
    | inl uncounted ↦ never_given _ stop uncounted
    | inr uncounted ↦ elim (stopped stop uncounted.2) [
      | inl tested ↦ tested.0 (both_references (due mode) uncounted.0, no_references (due mode) uncounted.0)
      | inr tested ↦ elim (stopped stop tested.2) [
        | inl left ↦ never_left counter_schema uncounted.0 stop left
        | inr left ↦ never_given _ stop left.2
      ]
    ]
  ]
]

module _ (old new : State) (e : Error) (has : old.now.schema ≡ both_tables) where
  never : (params : Row) → NeverStops (Does old.step_limit (mode_of old) params old.now drop_text None (DropTable 6))
  never params stop does =
      drop_never old.step_limit (mode_of old) params old.now stop (subst (λ s. Does old.step_limit (mode_of old) params (record old.now { schema = s }) drop_text None (DropTable 6) (Err stop)) has does)

  pub drop_usable : ExecutesInside 0 drop_text [] old new (Err e) → IsUsable e
  drop_usable = statement_usable old new drop_text e both_tables has (DropTable 6) drop_plain drop_is drop_whole (λ params err does. absurd (never params (Some err) does))

  pub drop_excused : ExecutesInside 0 drop_text [] old new (Err e) → Excuses old new e
  drop_excused = statement_excused old new drop_text both_tables has (DropTable 6) one_drop drop_is drop_whole tt (λ c is none. rw (is, none) refl) (never []) e
