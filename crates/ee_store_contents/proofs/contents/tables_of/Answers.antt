use Rattle.std.proofs.Common.{◌≡◌, List, map, sym, ap, ◌∙◌, subst}
use Rattle.std.specs.Prelude.{Result, Ok, Err, IfErr, IsErrAnd}
use Rattle.std.proofs.lemmas.Bool.{not-true, not-false}
use Rattle.ee_desk_model.specs.declared.changes.Held.{Held}
use Rattle.ee_desk_model.specs.Repeats.{Content}
use Rattle.ee_desk_soundness.specs.Checks.{HaveRisingSerials}
use Rattle.ee_desk_soundness.specs.Marks.{bond_of, AreMarked}
use Rattle.ee_store_tables.specs.Rows.{Rows}
use Rattle.ee_store_load.specs.Whole.{AreRead}
use Rattle.ee_store_load.specs.declared.whole.AllRows.{AllRows}
use Rattle.ee_store_books.specs.Standing.{StandAt}
use Rattle.ee_store_schema.specs.Forms.{version_of}
use Rattle.ee_store_contents.specs.Contents.{KeepsAnswer}
use Rattle.ee_store_contents.specs.Inner.Contents.{parts_of_read}
use Rattle.ee_store_contents.specs.declared.contents.ContentFault.{ContentFault}
use Rattle.ee_store_contents.specs.declared.contents.ContentFault.TheVariants.{Unusable}
use Rattle.ee_store_contents.proofs.Founded.{same_parts, no_parts, not_kept, not_sound, tables_founded}
use Rattle.ee_store_contents.proofs.RowsOfBooks.{rows_rise}
use Rattle.ee_store_contents.proofs.contents.tables_of.Goals as goal

handed_on : {A : Type 0} (P : ContentFault → Type 0) (r : Result A ContentFault) (fault : ContentFault) → IsErrAnd r (λ told. told ≡ fault) → P fault → IfErr r P
handed_on P (Ok x) fault is p = tt
handed_on P (Err told) fault is p = subst P (sym is) p

pub returns-then-not-stored-clause-unusable : goal.returns-then-not-stored-clause-unusable
returns-then-not-stored-clause-unusable c is rows read content stands = not_kept c.args.stored rows c.requires read (not-true c.args.stored.replies.pass c.if-not-stored.true) content stands

pub returns-in_err-parts-clause-unusable : goal.returns-in_err-parts-clause-unusable
returns-in_err-parts-clause-unusable c =
    let stored = c.args.stored in
    let rest = c.take_earlier-answers.new.stored in
    handed_on (λ fault. fault ≡ Unusable → (rows : Rows) → AreRead KeepsAnswer stored rows → (content : Content) → StandAt (version_of stored.form) rows content → ⊥) c.from_residual.result c.in_err-parts.field-0.0
    c.from_residual.ensures.1
    (λ is rows read content stands. no_parts stored rows c.requires read (c.in_err-parts.ensures.none is ∙ same_parts stored rest c.take_earlier-answers.ensures.rest) content stands)

pub returns-in_err-indexes-clause-unusable : goal.returns-in_err-indexes-clause-unusable
returns-in_err-indexes-clause-unusable c =
    let stored = c.args.stored in
    let rest = c.take_earlier-answers.new.stored in
    handed_on (λ fault. fault ≡ Unusable → (rows : Rows) → AreRead KeepsAnswer stored rows → (content : Content) → StandAt (version_of stored.form) rows content → ⊥) c.from_residual-in_err-indexes.result c.in_err-indexes.field-0.0
    c.from_residual-in_err-indexes.ensures.1
    (λ is rows read content stands. not_sound stored rows c.requires read (parts_of_read c.in_ok-parts.parts) (c.in_ok-parts.ensures.found ∙ same_parts stored rest c.take_earlier-answers.ensures.rest)
    (λ marked. c.in_err-indexes.ensures.unusable is (subst (AreMarked c.in_ok-parts.parts.tickets.items) (sym (c.in_ok-parts.ensures.rows ∙ ap (λ (r : AllRows). r.bonds.items) c.take_earlier-answers.ensures.rest)) marked)) content stands)

pub returns-clause-ok : goal.returns-clause-ok
returns-clause-ok c rows read =
    let stored = c.args.stored in
    let rest = c.take_earlier-answers.new.stored in
    let made = c.in_ok-indexes.ensures.ok in
    let found = tables_founded stored rows c.requires read (parts_of_read c.in_ok-parts.parts) c.in_ok-indexes.indexes.terms.entries
    (c.in_ok-parts.ensures.found ∙ same_parts stored rest c.take_earlier-answers.ensures.rest) c.in_ok-parts.ensures.fits
    (subst (AreMarked c.in_ok-parts.parts.tickets.items) (c.in_ok-parts.ensures.rows ∙ ap (λ (r : AllRows). r.bonds.items) c.take_earlier-answers.ensures.rest) c.in_ok-indexes.ensures.marked) (not-false stored.replies.pass c.if-not-stored.false) made.sound made.rates in
    (found.0, c.in_ok-tables.ensures ∙ found.1, found.2)

pub indexes_of-requires : goal.indexes_of-requires
indexes_of-requires c =
    subst (λ (rows : List Held). HaveRisingSerials (map bond_of rows)) (sym (c.in_ok-parts.ensures.rows ∙ ap (λ (r : AllRows). r.bonds.items) c.take_earlier-answers.ensures.rest))
    (rows_rise c.args.stored.bonds.items c.requires.bonds)
