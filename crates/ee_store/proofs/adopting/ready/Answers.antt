use Rattle.std.proofs.Common.{rules, ◌≡◌, ◌≢◌, ◌⊎◌, false, inl, inr, IsTrue, IfErr, ap, sym, ◌∙◌, subst}
use Rattle.sqlite.specs.Held.{state}
use Rattle.sqlite.proofs.InsideLemmas.{keeps_then}
use Rattle.sqlite.proofs.StateLemmas.{survives_weaker}
use Rattle.ee_store_tables.specs.Rows.{Rows, Stores}
use Rattle.ee_store_tables.proofs.Lemmas.Transactions.{on_err_from, clean_before}
use Rattle.ee_store_schema.specs.declared.faults.OpenFault.TheVariants.{WrongVersion, Unusable, StoreFailed}
use Rattle.ee_store_schema.specs.declared.forms.Form.{Form}
use Rattle.ee_store_schema.specs.declared.forms.Form.TheVariants.{Current}
use Rattle.sqlite.specs.State.{KeepsCommit}
use Rattle.ee_store_schema.specs.Forms.{version_of, IsOurs, HadIn}
use Rattle.ee_store_schema.specs.Making.{first_rows}
use Rattle.ee_store_load.specs.Whole as whole
use Rattle.ee_store_load.specs.Opening.{AreReadable}
use Rattle.ee_desk_model.specs.Repeats.{Content}
use Rattle.ee_store_contents.specs.Contents.{KeepsAnswer}
use Rattle.ee_store_books.specs.Standing.{rows_at, StandAt}
use Rattle.ee_store_schema.proofs.Lemmas.Faults.{each_fault, two_faults, handed_on}
use Rattle.ee_store_schema.proofs.Lemmas.Causes.{excused_if_open}
use Rattle.ee_store_tables.proofs.Lemmas.Causes.{cause_then}
use Rattle.ee_store_schema.proofs.Lemmas.Forms.{had_form, not_blank}
use Rattle.ee_store_load.proofs.Lemmas.{one_version}
use Rattle.ee_store.specs.Adopted.{HadNone, HadOtherVersion, HadNoOtherVersion, FailsToAdopt}
use Rattle.ee_store.proofs.Opened.{of_nothing, begun_survives, of_version, blank_had_none}
use Rattle.ee_store.proofs.Migrated.{found_form, lists_all, made_of, fits_rows, keeps_content, has_some, stood_for_none, is_ours, not_begun, leaves_as_before, leaves_present, read_then}
use Rattle.ee_store.proofs.Meeting.{goes_on, carries_world, begins_world, stays_stopped}
use Rattle.ee_store_contents.proofs.Lemmas.{readable}
use Rattle.ee_store.proofs.OpenedRoom.{opened_room, room_before}
use Rattle.ee_store.proofs.adopting.ready.Goals as goal

-- ---- the tables are not created
pub returns-in_err-make_tables-clause-kept : goal.returns-in_err-make_tables-clause-kept
returns-in_err-make_tables-clause-kept g c clean = on_err_from c.from_residual.result (c.in_err-make_tables.ensures.failed clean)

pub returns-in_err-make_tables-clause-version : goal.returns-in_err-make_tables-clause-version
returns-in_err-make_tables-clause-version g c clean =
    handed_on _ c.from_residual.result c.in_err-make_tables.field-0.0 c.from_residual.ensures.1 (λ is. absurd (c.in_err-make_tables.ensures.other is))

pub returns-in_err-make_tables-clause-other : goal.returns-in_err-make_tables-clause-other
returns-in_err-make_tables-clause-other g c clean =
    handed_on _ c.from_residual.result c.in_err-make_tables.field-0.0 c.from_residual.ensures.1 (λ is. absurd (c.in_err-make_tables.ensures.other is))

pub returns-in_err-make_tables-clause-unusable : goal.returns-in_err-make_tables-clause-unusable
returns-in_err-make_tables-clause-unusable g c clean =
    let blank = (c.is_blank.ensures.blank c.if-is_blank.true).1 in
    handed_on (λ e. e ≡ Unusable → HadNone (state g.S.Store c.args.conn.now)) c.from_residual.result c.in_err-make_tables.field-0.0 c.from_residual.ensures.1
    (λ is is_open. absurd (c.in_err-make_tables.ensures.usable clean blank is_open is))

pub returns-in_err-make_tables-clause-tested : goal.returns-in_err-make_tables-clause-tested
returns-in_err-make_tables-clause-tested g c clean =
    let blank = (c.is_blank.ensures.blank c.if-is_blank.true).1 in
    handed_on (λ e. e ≡ Unusable → HadNoOtherVersion (state g.S.Store c.args.conn.now)) c.from_residual.result c.in_err-make_tables.field-0.0 c.from_residual.ensures.1
    (λ is is_open. absurd (c.in_err-make_tables.ensures.usable clean blank is_open is))

pub returns-in_err-make_tables-clause-cause : goal.returns-in_err-make_tables-clause-cause
returns-in_err-make_tables-clause-cause g c clean =
    let blank = (c.is_blank.ensures.blank c.if-is_blank.true).1 in
    handed_on (FailsToAdopt (state g.S.Store c.args.conn.now) (state g.S.Store c.make_tables.new.conn)) c.from_residual.result c.in_err-make_tables.field-0.0
    c.from_residual.ensures.1 (λ outside endless any can is. c.in_err-make_tables.ensures.cause clean (outside, blank) endless is)

pub returns-in_err-make_tables-clause-crash : goal.returns-in_err-make_tables-clause-crash
returns-in_err-make_tables-clause-crash g c = begun_survives (state g.S.Store c.args.conn.now) (state g.S.Store c.make_tables.new.conn) c.in_err-make_tables.ensures.crash

pub returns-in_err-make_tables-clause-left : goal.returns-in_err-make_tables-clause-left
returns-in_err-make_tables-clause-left g c clean is_open tables = absurd (tables is_open ((c.is_blank.ensures.blank c.if-is_blank.true).1 is_open))

pub returns-in_err-make_tables-clause-waits : goal.returns-in_err-make_tables-clause-waits
returns-in_err-make_tables-clause-waits g c clean =
    let old = state g.S.Store c.args.conn.now in
    let new = state g.S.Store c.make_tables.new.conn in
    stays_stopped old new c.schema-schema.ensures.live (g.met.S.Store.settled c.args.conn.now.store) (returns-in_err-make_tables-clause-left g c clean)

pub returns-in_err-make_tables-clause-ready : goal.returns-in_err-make_tables-clause-ready
returns-in_err-make_tables-clause-ready g c is = (c.in_err-make_tables.ensures.outside is.0, c.in_err-make_tables.ensures.crash.limit ∙ is.1)

-- ---- they are created
pub returns-then-is_blank-clause-kept : goal.returns-then-is_blank-clause-kept
returns-then-is_blank-clause-kept g c clean = tt

pub returns-then-is_blank-clause-begins : goal.returns-then-is_blank-clause-begins
returns-then-is_blank-clause-begins g c clean blank = of_nothing (state g.S.Store c.make_tables.new.conn) (c.in_ok-make_tables.ensures.made clean blank)

pub returns-then-is_blank-clause-begun : goal.returns-then-is_blank-clause-begun
returns-then-is_blank-clause-begun g c clean =
    let new = state g.S.Store c.make_tables.new.conn in
    let it = c.in_ok-make_tables.ensures in (
      (it.open clean).1,
      λ blank. begins_world new (it.open clean).1 (returns-then-is_blank-clause-begins g c clean blank) (λ db may. subst (λ d. Stores d first_rows) (sym (it.durable clean db may)) (it.stored clean blank)),
    )

pub returns-then-is_blank-clause-found : goal.returns-then-is_blank-clause-found
returns-then-is_blank-clause-found g c clean form content had =
    let blank = (c.is_blank.ensures.blank c.if-is_blank.true).1 in
    absurd (blank_had_none (state g.S.Store c.args.conn.now) blank (c.in_ok-make_tables.ensures.open clean).0 form content had)

pub returns-then-is_blank-clause-present : goal.returns-then-is_blank-clause-present
returns-then-is_blank-clause-present g c clean has =
    absurd (not_blank Current (state g.S.Store c.args.conn.now) has (c.is_blank.ensures.blank c.if-is_blank.true).1 (c.in_ok-make_tables.ensures.open clean).0)

pub returns-then-is_blank-clause-stands : goal.returns-then-is_blank-clause-stands
returns-then-is_blank-clause-stands g c clean =
    let blank = (c.is_blank.ensures.blank c.if-is_blank.true).1 in
    inr (blank, returns-then-is_blank-clause-begins g c clean blank)

pub returns-then-is_blank-clause-left : goal.returns-then-is_blank-clause-left
returns-then-is_blank-clause-left g c clean is_open tables = absurd (tables is_open ((c.is_blank.ensures.blank c.if-is_blank.true).1 is_open))

pub returns-then-is_blank-clause-follows : goal.returns-then-is_blank-clause-follows
returns-then-is_blank-clause-follows g c clean =
    let old = state g.S.Store c.args.conn.now in
    let new = state g.S.Store c.make_tables.new.conn in
    let blank = (c.is_blank.ensures.blank c.if-is_blank.true).1 in
    let is_open = c.in_ok-make_tables.ensures.open clean in
    carries_world old new c.schema-schema.ensures.live c.settled.ensures.live (g.met.S.Store.settled c.args.conn.now.store) (returns-then-is_blank-clause-left g c clean)
    (λ form earlier has. absurd (not_blank form old has blank is_open.0)) (returns-then-is_blank-clause-found g c clean) is_open.0 is_open.1

pub returns-then-is_blank-clause-goes_on : goal.returns-then-is_blank-clause-goes_on
returns-then-is_blank-clause-goes_on g c clean =
    let old = state g.S.Store c.args.conn.now in
    let new = state g.S.Store c.make_tables.new.conn in
    let blank = (c.is_blank.ensures.blank c.if-is_blank.true).1 in
    let is_open = c.in_ok-make_tables.ensures.open clean in
    goes_on old new c.schema-schema.ensures.live c.settled.ensures.live (g.met.S.Store.settled c.args.conn.now.store) (returns-then-is_blank-clause-left g c clean)
    (λ form earlier has. absurd (not_blank form old has blank is_open.0)) (returns-then-is_blank-clause-found g c clean) is_open.0 is_open.1

pub returns-then-is_blank-clause-ready : goal.returns-then-is_blank-clause-ready
returns-then-is_blank-clause-ready g c is = (c.in_ok-make_tables.ensures.ended, c.in_ok-make_tables.ensures.crash.limit ∙ is.1)

pub returns-then-is_blank-clause-room : goal.returns-then-is_blank-clause-room
returns-then-is_blank-clause-room g c clean =
    let old = state g.S.Store c.args.conn.now in
    let new = state g.S.Store c.make_tables.new.conn in
    opened_room old new (c.settled.ensures.committed c.in_ok-make_tables.ensures.ended) c.settled.ensures.live (c.in_ok-make_tables.ensures.made clean)
    (λ n was. absurd (not_blank was.0 old (had_form was.0 old was.1 was.2) (c.is_blank.ensures.blank c.if-is_blank.true).1 (c.in_ok-make_tables.ensures.open clean).0))

pub returns-then-is_blank-clause-crash : goal.returns-then-is_blank-clause-crash
returns-then-is_blank-clause-crash g c = begun_survives (state g.S.Store c.args.conn.now) (state g.S.Store c.make_tables.new.conn) c.in_ok-make_tables.ensures.crash

pub returns-then-is_blank-clause-waits : goal.returns-then-is_blank-clause-waits
returns-then-is_blank-clause-waits g c clean =
    let old = state g.S.Store c.args.conn.now in
    let new = state g.S.Store c.make_tables.new.conn in
    stays_stopped old new c.schema-schema.ensures.live (g.met.S.Store.settled c.args.conn.now.store) (returns-then-is_blank-clause-left g c clean)

-- ---- the rows are not found
pub returns-in_err-all-clause-kept : goal.returns-in_err-all-clause-kept
returns-in_err-all-clause-kept g c clean =
    on_err_from c.from_residual-in_err-all.result (c.in_err-all.ensures.kept clean)

pub returns-in_err-all-clause-version : goal.returns-in_err-all-clause-version
returns-in_err-all-clause-version g c clean =
    let old = state g.S.Store c.args.conn.now in
    handed_on (λ e. e ≡ WrongVersion → HadNone old) c.from_residual-in_err-all.result c.in_err-all.field-0.0 c.from_residual-in_err-all.ensures.1 (λ is is_open. (
      λ form content had. of_version form content (c.in_err-all.ensures.version clean is form (rows_at (version_of form) content) had.rows is_open),
      λ none. elim c.in_err-all.ensures.inside [ inl failed ↦ cc | inr outside ↦ c.is_blank.ensures.tables c.if-is_blank.false outside is_open (none is_open) ],
    ))

pub returns-in_err-all-clause-unusable : goal.returns-in_err-all-clause-unusable
returns-in_err-all-clause-unusable g c clean =
    let old = state g.S.Store c.args.conn.now in
    let told : IfErr c.from_residual-in_err-all.result (λ e. e ≡ Unusable → (form : Form) (rows : Rows) → HadIn form old rows → IsTrue old.is_open → ¬ AreReadable form rows) = search rules in
    let apart : IfErr c.from_residual-in_err-all.result (λ e. (e ≡ StoreFailed) ⊎ (old.in_transaction ≡ false)) = search rules in
    two_faults c.from_residual-in_err-all.result (λ e unread apart is is_open. (
      λ form content had. unread is form (rows_at (version_of form) content) had.rows is_open (readable form content had.right),
      λ none. elim apart [ inl failed ↦ cc | inr outside ↦ c.is_blank.ensures.tables c.if-is_blank.false outside is_open (none is_open) ],
    )) told apart

pub returns-in_err-all-clause-other : goal.returns-in_err-all-clause-other
returns-in_err-all-clause-other g c clean =
    handed_on (λ e. e ≡ WrongVersion → HadOtherVersion (state g.S.Store c.args.conn.now)) c.from_residual-in_err-all.result c.in_err-all.field-0.0 c.from_residual-in_err-all.ensures.1 (λ is is_open. (
      λ form rows had. c.in_err-all.ensures.version clean is form rows had is_open,
      λ had. let it = c.in_err-all.ensures.others clean is_open had.0 in (it.shown is, it.other is),
    ))

pub returns-in_err-all-clause-tested : goal.returns-in_err-all-clause-tested
returns-in_err-all-clause-tested g c clean =
    handed_on (λ e. e ≡ Unusable → HadNoOtherVersion (state g.S.Store c.args.conn.now)) c.from_residual-in_err-all.result c.in_err-all.field-0.0 c.from_residual-in_err-all.ensures.1 (λ is is_open. (
      λ form rows had. c.in_err-all.ensures.tested clean is form rows had is_open,
      λ had. (c.in_err-all.ensures.others clean is_open had.0).tested is,
    ))

pub returns-in_err-all-clause-cause : goal.returns-in_err-all-clause-cause
returns-in_err-all-clause-cause g c clean =
    let old = state g.S.Store c.args.conn.now in
    handed_on (FailsToAdopt old (state g.S.Store c.open_rows.new.conn)) c.from_residual-in_err-all.result c.in_err-all.field-0.0
    c.from_residual-in_err-all.ensures.1 (λ outside endless any can. excused_if_open old (state g.S.Store c.open_rows.new.conn) c.in_err-all.field-0.0 (λ is_open.
    let ours : IsOurs old = elim any [ inl blank ↦ absurd (c.is_blank.ensures.tables c.if-is_blank.false outside is_open (blank is_open)) | inr ours ↦ ours ] in
    c.in_err-all.ensures.cause clean (outside, ours) endless))

pub returns-in_err-all-clause-crash : goal.returns-in_err-all-clause-crash
returns-in_err-all-clause-crash g c = survives_weaker (state g.S.Store c.args.conn.now) (state g.S.Store c.open_rows.new.conn) (λ _. ⊥) _ (λ _ db none. absurd none) c.in_err-all.ensures.crash

pub returns-in_err-all-clause-left : goal.returns-in_err-all-clause-left
returns-in_err-all-clause-left g c clean is_open tables db may = elim (c.in_err-all.ensures.crash.crash clean db may) [ inl before ↦ inl before | inr none ↦ absurd none ]

pub returns-in_err-all-clause-waits : goal.returns-in_err-all-clause-waits
returns-in_err-all-clause-waits g c clean =
    let old = state g.S.Store c.args.conn.now in
    let new = state g.S.Store c.open_rows.new.conn in
    stays_stopped old new c.schema-schema.ensures.live (g.met.S.Store.settled c.args.conn.now.store) (returns-in_err-all-clause-left g c clean)

pub returns-in_err-all-clause-ready : goal.returns-in_err-all-clause-ready
returns-in_err-all-clause-ready g c is = (c.in_err-all.ensures.outside is.0, c.in_err-all.ensures.crash.limit ∙ is.1)

-- ---- they represent no content
pub returns-in_err-tested-clause-kept : goal.returns-in_err-tested-clause-kept
returns-in_err-tested-clause-kept g c clean =
    on_err_from c.from_residual-in_err-tested.result (c.in_ok-all.ensures.kept clean)

pub returns-in_err-tested-clause-version : goal.returns-in_err-tested-clause-version
returns-in_err-tested-clause-version g c clean =
    let told : IfErr c.from_residual-in_err-tested.result (λ e. e ≢ WrongVersion) = search rules in
    each_fault c.from_residual-in_err-tested.result (λ e other is. absurd (other is)) told

pub returns-in_err-tested-clause-other : goal.returns-in_err-tested-clause-other
returns-in_err-tested-clause-other g c clean =
    let told : IfErr c.from_residual-in_err-tested.result (λ e. e ≢ WrongVersion) = search rules in
    each_fault c.from_residual-in_err-tested.result (λ e other is. absurd (other is)) told

pub returns-in_err-tested-clause-unusable : goal.returns-in_err-tested-clause-unusable
returns-in_err-tested-clause-unusable g c clean =
    let old = state g.S.Store c.args.conn.now in
    let middle = state g.S.Store c.open_rows.new.conn in
    let told : IfErr c.from_residual-in_err-tested.result (λ e. e ≡ Unusable → (rows : Rows) → whole.AreRead KeepsAnswer c.in_ok-all.all rows
    → (content : Content) → StandAt (version_of c.in_ok-all.all.form) rows content → ⊥)
    = handed_on _ c.from_residual-in_err-tested.result c.in_err-tested.field-0.0 c.from_residual-in_err-tested.ensures.1 c.in_err-tested.ensures.unusable in
    let it = c.in_ok-all.ensures in
    let is_open = it.open clean in
    let found = it.found clean in
    each_fault c.from_residual-in_err-tested.result (λ e none is. stood_for_none old middle c.in_ok-all.all.form found.0 (it.kept clean) is_open.0 is_open.1 found.1 (none is found.0 found.2)) told

pub returns-in_err-tested-clause-tested : goal.returns-in_err-tested-clause-tested
returns-in_err-tested-clause-tested g c clean =
    let old = state g.S.Store c.args.conn.now in
    let it = c.in_ok-all.ensures in
    let were_open = it.open clean in
    let found = it.found clean in
    let told : IfErr c.from_residual-in_err-tested.result (λ e. e ≢ WrongVersion) = search rules in
    each_fault c.from_residual-in_err-tested.result (λ e _ is is_open. (
      λ form rows had. one_version form rows (it.first clean form rows had is_open),
      λ had. absurd (had.0 (is_ours old (state g.S.Store c.open_rows.new.conn) c.in_ok-all.all.form found.0 (it.kept clean) were_open.0 were_open.1 found.1)),
    )) told

pub returns-in_err-tested-clause-cause : goal.returns-in_err-tested-clause-cause
returns-in_err-tested-clause-cause g c clean =
    let told : IfErr c.from_residual-in_err-tested.result (λ e. e ≢ StoreFailed) = search rules in
    each_fault c.from_residual-in_err-tested.result (λ e settled _ _ _ _ is. absurd (settled is)) told

pub returns-in_err-tested-clause-crash : goal.returns-in_err-tested-clause-crash
returns-in_err-tested-clause-crash g c = survives_weaker (state g.S.Store c.args.conn.now) (state g.S.Store c.open_rows.new.conn) (λ _. ⊥) _ (λ _ db none. absurd none) c.in_ok-all.ensures.crash

pub returns-in_err-tested-clause-left : goal.returns-in_err-tested-clause-left
returns-in_err-tested-clause-left g c clean is_open tables db may = elim (c.in_ok-all.ensures.crash.crash clean db may) [ inl before ↦ inl before | inr none ↦ absurd none ]

pub returns-in_err-tested-clause-waits : goal.returns-in_err-tested-clause-waits
returns-in_err-tested-clause-waits g c clean =
    let old = state g.S.Store c.args.conn.now in
    let new = state g.S.Store c.open_rows.new.conn in
    stays_stopped old new c.schema-schema.ensures.live (g.met.S.Store.settled c.args.conn.now.store) (returns-in_err-tested-clause-left g c clean)

pub returns-in_err-tested-clause-ready : goal.returns-in_err-tested-clause-ready
returns-in_err-tested-clause-ready g c is = (c.in_ok-all.ensures.outside is.0, c.in_ok-all.ensures.crash.limit ∙ is.1)

-- ---- they are not migrated
pub returns-in_err-migrate-clause-kept : goal.returns-in_err-migrate-clause-kept
returns-in_err-migrate-clause-kept g c clean =
    let old = state g.S.Store c.args.conn.now in
    let middle = state g.S.Store c.open_rows.new.conn in
    let new = state g.S.Store c.migrate.new.conn in
    let before = clean_before middle new c.migrate.ensures.crash clean in
    on_err_from c.from_residual-in_err-migrate.result (keeps_then old middle new (c.in_ok-all.ensures.kept before) (c.in_err-migrate.ensures.failed clean))

pub returns-in_err-migrate-clause-version : goal.returns-in_err-migrate-clause-version
returns-in_err-migrate-clause-version g c clean =
    handed_on _ c.from_residual-in_err-migrate.result c.in_err-migrate.field-0.0 c.from_residual-in_err-migrate.ensures.1 (λ is. absurd (c.in_err-migrate.ensures.told.1 is))

pub returns-in_err-migrate-clause-other : goal.returns-in_err-migrate-clause-other
returns-in_err-migrate-clause-other g c clean =
    handed_on _ c.from_residual-in_err-migrate.result c.in_err-migrate.field-0.0 c.from_residual-in_err-migrate.ensures.1 (λ is. absurd (c.in_err-migrate.ensures.told.1 is))

pub returns-in_err-migrate-clause-unusable : goal.returns-in_err-migrate-clause-unusable
returns-in_err-migrate-clause-unusable g c clean =
    handed_on (λ e. e ≡ Unusable → HadNone (state g.S.Store c.args.conn.now)) c.from_residual-in_err-migrate.result c.in_err-migrate.field-0.0
    c.from_residual-in_err-migrate.ensures.1 (λ is. absurd (c.in_err-migrate.ensures.told.0 is))

pub returns-in_err-migrate-clause-tested : goal.returns-in_err-migrate-clause-tested
returns-in_err-migrate-clause-tested g c clean =
    handed_on (λ e. e ≡ Unusable → HadNoOtherVersion (state g.S.Store c.args.conn.now)) c.from_residual-in_err-migrate.result c.in_err-migrate.field-0.0
    c.from_residual-in_err-migrate.ensures.1 (λ is. absurd (c.in_err-migrate.ensures.told.0 is))

pub returns-in_err-migrate-clause-cause : goal.returns-in_err-migrate-clause-cause
returns-in_err-migrate-clause-cause g c clean =
    let old = state g.S.Store c.args.conn.now in
    let middle = state g.S.Store c.open_rows.new.conn in
    let new = state g.S.Store c.migrate.new.conn in
    let before = clean_before middle new c.migrate.ensures.crash clean in
    let it = c.in_ok-all.ensures in
    let found = it.found before in
    let all = c.in_ok-all.all in
    handed_on (FailsToAdopt old new) c.from_residual-in_err-migrate.result c.in_err-migrate.field-0.0 c.from_residual-in_err-migrate.ensures.1
    (λ outside endless any can failed. cause_then old middle new it.crash c.migrate.ensures.crash clean
    (c.in_err-migrate.ensures.cause clean (it.ended before, fits_rows old middle all.form found.0 (it.kept before) (it.open before).0 (it.open before).1 found.1 c.deref.result.now (lists_all c.in_ok-all.all found.0 found.2 c.in_ok-tested.tested.answers c.in_ok-tested.ensures.left c.deref.result.now c.deref.ensures.value) can) (it.crash.limit ∙ endless) failed))

pub returns-in_err-migrate-clause-crash : goal.returns-in_err-migrate-clause-crash
returns-in_err-migrate-clause-crash g c =
    let old = state g.S.Store c.args.conn.now in
    let middle = state g.S.Store c.open_rows.new.conn in
    let new = state g.S.Store c.migrate.new.conn in
    let it = c.in_ok-all.ensures in
    read_then old middle new c.in_ok-all.all.form _ (λ clean.
    let before = clean_before middle new c.migrate.ensures.crash clean in
    not_begun old middle c.in_ok-all.all.form (it.found before).0 (it.kept before) (it.open before).0 (it.open before).1 (it.found before).1)
    it.crash c.migrate.ensures.crash

pub returns-in_err-migrate-clause-left : goal.returns-in_err-migrate-clause-left
returns-in_err-migrate-clause-left g c clean =
    let old = state g.S.Store c.args.conn.now in
    let middle = state g.S.Store c.open_rows.new.conn in
    let new = state g.S.Store c.migrate.new.conn in
    let before = clean_before middle new c.migrate.ensures.crash clean in
    let it = c.in_ok-all.ensures in
    let found = it.found before in
    let some = c.in_ok-tested.ensures.ok found.0 found.2 in
    let all = c.in_ok-all.all in
    leaves_as_before old middle all.form found.0 (it.kept before) (it.open before).0 (it.open before).1 found.1 _ (lists_all c.in_ok-all.all found.0 found.2 c.in_ok-tested.tested.answers c.in_ok-tested.ensures.left c.deref.result.now c.deref.ensures.value) some.0 some.2
    new (it.crash.crash before) (c.migrate.ensures.crash.crash clean)

pub returns-in_err-migrate-clause-waits : goal.returns-in_err-migrate-clause-waits
returns-in_err-migrate-clause-waits g c clean =
    let old = state g.S.Store c.args.conn.now in
    let new = state g.S.Store c.migrate.new.conn in
    stays_stopped old new c.schema-schema.ensures.live (g.met.S.Store.settled c.args.conn.now.store) (returns-in_err-migrate-clause-left g c clean)

pub returns-in_err-migrate-clause-ready : goal.returns-in_err-migrate-clause-ready
returns-in_err-migrate-clause-ready g c is = (c.in_err-migrate.ensures.outside (c.in_ok-all.ensures.outside is.0), c.migrate.ensures.crash.limit ∙ c.in_ok-all.ensures.crash.limit ∙ is.1)

-- ---- the store is opened

pub returns-clause-begins : goal.returns-clause-begins
returns-clause-begins g c clean blank =
    let old = state g.S.Store c.args.conn.now in
    let middle = state g.S.Store c.open_rows.new.conn in
    let new = state g.S.Store c.migrate.new.conn in
    let before = clean_before middle new c.migrate.ensures.crash clean in
    let it = c.in_ok-all.ensures in
    let found = it.found before in
    absurd (not_begun old middle c.in_ok-all.all.form found.0 (it.kept before) (it.open before).0 (it.open before).1 found.1 blank)

pub returns-clause-left : goal.returns-clause-left
returns-clause-left g c clean =
    let old = state g.S.Store c.args.conn.now in
    let middle = state g.S.Store c.open_rows.new.conn in
    let new = state g.S.Store c.migrate.new.conn in
    let before = clean_before middle new c.migrate.ensures.crash clean in
    let it = c.in_ok-all.ensures in
    let found = it.found before in
    let some = c.in_ok-tested.ensures.ok found.0 found.2 in
    let all = c.in_ok-all.all in
    leaves_as_before old middle all.form found.0 (it.kept before) (it.open before).0 (it.open before).1 found.1 _ (lists_all c.in_ok-all.all found.0 found.2 c.in_ok-tested.tested.answers c.in_ok-tested.ensures.left c.deref.result.now c.deref.ensures.value) some.0 some.2
    new (it.crash.crash before) (c.migrate.ensures.crash.crash clean)

pub returns-clause-begun : goal.returns-clause-begun
returns-clause-begun g c clean =
    let old = state g.S.Store c.args.conn.now in
    let middle = state g.S.Store c.open_rows.new.conn in
    let new = state g.S.Store c.migrate.new.conn in
    let before = clean_before middle new c.migrate.ensures.crash clean in
    let it = c.in_ok-all.ensures in
    let found = it.found before in (
      c.in_ok-migrate.ensures.open clean (it.open before).1,
      λ blank. absurd (not_begun old middle c.in_ok-all.all.form found.0 (it.kept before) (it.open before).0 (it.open before).1 found.1 blank),
    )

pub returns-clause-found : goal.returns-clause-found
returns-clause-found g c clean =
    let old = state g.S.Store c.args.conn.now in
    let middle = state g.S.Store c.open_rows.new.conn in
    let new = state g.S.Store c.migrate.new.conn in
    let before = clean_before middle new c.migrate.ensures.crash clean in
    let it = c.in_ok-all.ensures in
    let found = it.found before in
    let all = c.in_ok-all.all in
    keeps_content old middle all.form found.0 (it.kept before) (it.open before).0 (it.open before).1 found.1 new
    (made_of middle new all.form found.0 c.deref.result.now found.1 (lists_all c.in_ok-all.all found.0 found.2 c.in_ok-tested.tested.answers c.in_ok-tested.ensures.left c.deref.result.now c.deref.ensures.value) (λ current. ap (state g.S.Store) (c.migrate.ensures.same current)) (c.in_ok-migrate.ensures.made clean found.0 found.1))

pub returns-clause-present : goal.returns-clause-present
returns-clause-present g c clean has =
    let old = state g.S.Store c.args.conn.now in
    let middle = state g.S.Store c.open_rows.new.conn in
    let new = state g.S.Store c.migrate.new.conn in
    let before = clean_before middle new c.migrate.ensures.crash clean in
    let it = c.in_ok-all.ensures in
    let found = it.found before in
    let all = c.in_ok-all.all in
    let current = found_form old middle all.form found.0 (it.kept before) (it.open before).0 (it.open before).1 found.1 Current has in
    subst (KeepsCommit old) (sym (ap (state g.S.Store) (c.migrate.ensures.same (sym current)))) (it.kept before)

pub returns-clause-stands : goal.returns-clause-stands
returns-clause-stands g c clean =
    let old = state g.S.Store c.args.conn.now in
    let middle = state g.S.Store c.open_rows.new.conn in
    let new = state g.S.Store c.migrate.new.conn in
    let before = clean_before middle new c.migrate.ensures.crash clean in
    let it = c.in_ok-all.ensures in
    let found = it.found before in
    let some = c.in_ok-tested.ensures.ok found.0 found.2 in
    let all = c.in_ok-all.all in
    has_some old middle all.form found.0 (it.kept before) (it.open before).0 (it.open before).1 found.1 new
    (made_of middle new all.form found.0 c.deref.result.now found.1 (lists_all c.in_ok-all.all found.0 found.2 c.in_ok-tested.tested.answers c.in_ok-tested.ensures.left c.deref.result.now c.deref.ensures.value) (λ current. ap (state g.S.Store) (c.migrate.ensures.same current)) (c.in_ok-migrate.ensures.made clean found.0 found.1)) some.0 some.2

-- what was migrated leaves what was committed
pub returns-clause-goes_on : goal.returns-clause-goes_on
returns-clause-goes_on g c clean =
    let old = state g.S.Store c.args.conn.now in
    let middle = state g.S.Store c.open_rows.new.conn in
    let new = state g.S.Store c.migrate.new.conn in
    let before = clean_before middle new c.migrate.ensures.crash clean in
    let it = c.in_ok-all.ensures in
    let found = it.found before in
    goes_on old new c.schema-schema.ensures.live c.settled-3.ensures.live (g.met.S.Store.settled c.args.conn.now.store) (returns-clause-left g c clean)
    (leaves_present old middle c.in_ok-all.all.form found.0 (it.kept before) (it.open before).0 (it.open before).1 found.1 new (c.in_ok-migrate.ensures.durable clean))
    (returns-clause-found g c clean) (it.open before).0 (returns-clause-begun g c clean).0

pub returns-clause-follows : goal.returns-clause-follows
returns-clause-follows g c clean =
    let old = state g.S.Store c.args.conn.now in
    let middle = state g.S.Store c.open_rows.new.conn in
    let new = state g.S.Store c.migrate.new.conn in
    let before = clean_before middle new c.migrate.ensures.crash clean in
    let it = c.in_ok-all.ensures in
    let found = it.found before in
    carries_world old new c.schema-schema.ensures.live c.settled-3.ensures.live (g.met.S.Store.settled c.args.conn.now.store) (returns-clause-left g c clean)
    (leaves_present old middle c.in_ok-all.all.form found.0 (it.kept before) (it.open before).0 (it.open before).1 found.1 new (c.in_ok-migrate.ensures.durable clean))
    (returns-clause-found g c clean) (it.open before).0 (returns-clause-begun g c clean).0

pub returns-clause-ready : goal.returns-clause-ready
returns-clause-ready g c is = (c.in_ok-migrate.ensures.ended, c.migrate.ensures.crash.limit ∙ c.in_ok-all.ensures.crash.limit ∙ is.1)

pub returns-clause-crash : goal.returns-clause-crash
returns-clause-crash g c =
    let old = state g.S.Store c.args.conn.now in
    let middle = state g.S.Store c.open_rows.new.conn in
    let new = state g.S.Store c.migrate.new.conn in
    let it = c.in_ok-all.ensures in
    read_then old middle new c.in_ok-all.all.form _ (λ clean.
    let before = clean_before middle new c.migrate.ensures.crash clean in
    not_begun old middle c.in_ok-all.all.form (it.found before).0 (it.kept before) (it.open before).0 (it.open before).1 (it.found before).1)
    it.crash c.migrate.ensures.crash

pub returns-clause-room : goal.returns-clause-room
returns-clause-room g c clean =
    let old = state g.S.Store c.args.conn.now in
    let middle = state g.S.Store c.open_rows.new.conn in
    let new = state g.S.Store c.migrate.new.conn in
    let before = clean_before middle new c.migrate.ensures.crash clean in
    let it = c.in_ok-all.ensures in
    let found = it.found before in
    let listed = lists_all c.in_ok-all.all found.0 found.2 c.in_ok-tested.tested.answers c.in_ok-tested.ensures.left c.deref.result.now c.deref.ensures.value in
    opened_room old new (c.settled-3.ensures.committed c.in_ok-migrate.ensures.ended) c.settled-3.ensures.live
    (λ blank. absurd (not_begun old middle c.in_ok-all.all.form found.0 (it.kept before) (it.open before).0 (it.open before).1 found.1 blank))
    (room_before old middle new found.0 c.deref.result.now (it.kept before) (c.settled-2.ensures.committed (it.ended before)) c.settled-2.ensures.live (it.open before).1 c.in_ok-all.all.form found.1 listed
    (λ current. ap (state g.S.Store) (c.migrate.ensures.same current)) (c.in_ok-migrate.ensures.room clean found.0 found.1))

pub returns-clause-waits : goal.returns-clause-waits
returns-clause-waits g c clean =
    let old = state g.S.Store c.args.conn.now in
    let new = state g.S.Store c.migrate.new.conn in
    stays_stopped old new c.schema-schema.ensures.live (g.met.S.Store.settled c.args.conn.now.store) (returns-clause-left g c clean)
