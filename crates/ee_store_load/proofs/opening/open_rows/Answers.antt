use Rattle.std.proofs.Common.{rules, inl, inr, refl, sym, subst, ◌∙◌}
use Rattle.std.proofs.lemmas.Bool.{not-true}
use Rattle.std.proofs.lemmas.Result.{on_ok_weaker}
use Rattle.sqlite.specs.Held.{state}
use Rattle.ee_store_schema.proofs.Lemmas.Causes.{excused_if_open}
use Rattle.ee_store_schema.proofs.Lemmas.Forms.{form_found, one_form, had_as, none_found}
use Rattle.ee_store_schema.proofs.Lemmas.Faults.{each_fault}
use Rattle.ee_store_schema.specs.Forms.{HadIn}
use Rattle.ee_store_load.specs.Opening.{IsOfForm, AreReadable}
use Rattle.ee_store_load.proofs.OpenLemmas.{any_fault}
use Rattle.ee_store_load.proofs.ReadLemmas.{both_ok, each_ok}
use Rattle.ee_store_load.proofs.opening.open_rows.Goals as goal

pub returns-in-Some-clause-found : goal.returns-in-Some-clause-found
returns-in-Some-clause-found g c clean =
    let old = state g.S.Store c.args.conn.now in
    let form = c.in-Some.form in
    let ours = form_found old (c.is_autocommit.ensures.settled c.if-not-is_autocommit.false) c.schema.result.now c.schema.ensures.value form ((c.form_of.ensures form).0 c.in-Some.is) in
    let new = state g.S.Store c.read_all.new.conn in
    both_ok c.read_all.result (λ all found is.
    let it = found ours in
    (it.0, subst (λ f. HadIn f new it.0) (sym is) it.1, it.2)) (c.read_all.ensures.found clean) c.read_all.ensures.form

pub returns-in-Some-clause-those : goal.returns-in-Some-clause-those
returns-in-Some-clause-those g c clean =
    let old = state g.S.Store c.args.conn.now in
    let form = c.in-Some.form in
    let ours = form_found old (c.is_autocommit.ensures.settled c.if-not-is_autocommit.false) c.schema.result.now c.schema.ensures.value form ((c.form_of.ensures form).0 c.in-Some.is) in
    each_ok c.read_all.result (λ all those other rows had is_open. those rows (had_as form old rows other ours had) is_open) (c.read_all.ensures.those clean)

pub returns-in-Some-clause-first : goal.returns-in-Some-clause-first
returns-in-Some-clause-first g c clean =
    let old = state g.S.Store c.args.conn.now in
    let form = c.in-Some.form in
    let ours = form_found old (c.is_autocommit.ensures.settled c.if-not-is_autocommit.false) c.schema.result.now c.schema.ensures.value form ((c.form_of.ensures form).0 c.in-Some.is) in
    on_ok_weaker c.read_all.result (λ first other rows had is_open.
    subst (λ f. IsOfForm f rows) (one_form form other old.committed.schema (ours is_open) (had is_open).0) (first rows (had_as form old rows other ours had))) (c.read_all.ensures.first clean)

pub returns-in-Some-clause-version : goal.returns-in-Some-clause-version
returns-in-Some-clause-version g c clean =
    let old = state g.S.Store c.args.conn.now in
    let form = c.in-Some.form in
    let ours = form_found old (c.is_autocommit.ensures.settled c.if-not-is_autocommit.false) c.schema.result.now c.schema.ensures.value form ((c.form_of.ensures form).0 c.in-Some.is) in
    each_fault c.read_all.result (λ e version told other rows had is_open. version told rows (had_as form old rows other ours had)) (c.read_all.ensures.version clean)

pub returns-in-Some-clause-tested : goal.returns-in-Some-clause-tested
returns-in-Some-clause-tested g c clean =
    let old = state g.S.Store c.args.conn.now in
    let form = c.in-Some.form in
    let ours = form_found old (c.is_autocommit.ensures.settled c.if-not-is_autocommit.false) c.schema.result.now c.schema.ensures.value form ((c.form_of.ensures form).0 c.in-Some.is) in
    each_fault c.read_all.result (λ e tested told other rows had is_open. tested told rows (had_as form old rows other ours had) is_open) (c.read_all.ensures.tested clean)

pub returns-in-Some-clause-unusable : goal.returns-in-Some-clause-unusable
returns-in-Some-clause-unusable g c clean =
    let old = state g.S.Store c.args.conn.now in
    let form = c.in-Some.form in
    let ours = form_found old (c.is_autocommit.ensures.settled c.if-not-is_autocommit.false) c.schema.result.now c.schema.ensures.value form ((c.form_of.ensures form).0 c.in-Some.is) in
    each_fault c.read_all.result (λ e usable told other rows had is_open readable.
    usable told rows (had_as form old rows other ours had) is_open (subst (λ f. AreReadable f rows) (sym (one_form form other old.committed.schema (ours is_open) (had is_open).0)) readable)) (c.read_all.ensures.usable clean)

pub returns-in-Some-clause-others : goal.returns-in-Some-clause-others
returns-in-Some-clause-others g c clean =
    let old = state g.S.Store c.args.conn.now in
    let form = c.in-Some.form in
    let ours = form_found old (c.is_autocommit.ensures.settled c.if-not-is_autocommit.false) c.schema.result.now c.schema.ensures.value form ((c.form_of.ensures form).0 c.in-Some.is) in
    each_fault c.read_all.result (λ e _ is_open foreign. absurd (foreign (form, ours))) (c.read_all.ensures.version clean)

pub returns-in-Some-clause-cause : goal.returns-in-Some-clause-cause
returns-in-Some-clause-cause g c clean starts limit =
    let old = state g.S.Store c.args.conn.now in
    let form = c.in-Some.form in
    let ours = form_found old (c.is_autocommit.ensures.settled c.if-not-is_autocommit.false) c.schema.result.now c.schema.ensures.value form ((c.form_of.ensures form).0 c.in-Some.is) in
    c.read_all.ensures.cause clean (starts.0, ours) limit

pub returns-in-None-clause-others : goal.returns-in-None-clause-others
returns-in-None-clause-others g c clean is_open foreign = c.refusal.ensures.told clean

pub returns-in-None-clause-cause : goal.returns-in-None-clause-cause
returns-in-None-clause-cause g c clean starts limit =
    let old = state g.S.Store c.args.conn.now in
    let new = state g.S.Store c.refusal.new.conn in
    let settled = c.is_autocommit.ensures.settled c.if-not-is_autocommit.false in
    excused_if_open old new _ (λ is_open.
    absurd (none_found old settled c.schema.result.now c.schema.ensures.value (λ form is. let e = sym c.in-None.is ∙ (c.form_of.ensures form).1 is in cc) starts.1 is_open))

-- it is read in no transaction
pub returns-in-Some-clause-inside : goal.returns-in-Some-clause-inside
returns-in-Some-clause-inside g c =
    let apart = not-true (state g.S.Store c.args.conn.now).in_transaction (sym c.is_autocommit.ensures.value ∙ c.if-not-is_autocommit.false) in
    any_fault c.read_all.result (λ e. inr apart)

pub returns-in-None-clause-inside : goal.returns-in-None-clause-inside
returns-in-None-clause-inside g c = inr (not-true (state g.S.Store c.args.conn.now).in_transaction (sym c.is_autocommit.ensures.value ∙ c.if-not-is_autocommit.false))

pub returns-then-not-is_autocommit-clause-inside : goal.returns-then-not-is_autocommit-clause-inside
returns-then-not-is_autocommit-clause-inside g c = inl refl

pub returns-then-not-is_autocommit-clause-version : goal.returns-then-not-is_autocommit-clause-version
returns-then-not-is_autocommit-clause-version g c clean told = absurd (cc)

pub returns-then-not-is_autocommit-clause-others : goal.returns-then-not-is_autocommit-clause-others
returns-then-not-is_autocommit-clause-others g c clean is_open foreign = record { shown = λ told. absurd (cc); other = λ told. absurd (cc); tested = λ told. absurd (cc) }

pub returns-then-not-is_autocommit-clause-found : goal.returns-then-not-is_autocommit-clause-found
returns-then-not-is_autocommit-clause-found g c = search rules

pub returns-then-not-is_autocommit-clause-those : goal.returns-then-not-is_autocommit-clause-those
returns-then-not-is_autocommit-clause-those g c = search rules

pub returns-then-not-is_autocommit-clause-order : goal.returns-then-not-is_autocommit-clause-order
returns-then-not-is_autocommit-clause-order g c = search rules

pub returns-then-not-is_autocommit-clause-open : goal.returns-then-not-is_autocommit-clause-open
returns-then-not-is_autocommit-clause-open g c = search rules

pub returns-then-not-is_autocommit-clause-first : goal.returns-then-not-is_autocommit-clause-first
returns-then-not-is_autocommit-clause-first g c = search rules

pub returns-then-not-is_autocommit-clause-tested : goal.returns-then-not-is_autocommit-clause-tested
returns-then-not-is_autocommit-clause-tested g c = search rules

pub returns-then-not-is_autocommit-clause-unusable : goal.returns-then-not-is_autocommit-clause-unusable
returns-then-not-is_autocommit-clause-unusable g c = search rules

pub returns-then-not-is_autocommit-clause-kept : goal.returns-then-not-is_autocommit-clause-kept
returns-then-not-is_autocommit-clause-kept g c = search rules

pub returns-then-not-is_autocommit-clause-ended : goal.returns-then-not-is_autocommit-clause-ended
returns-then-not-is_autocommit-clause-ended g c = search rules

pub returns-then-not-is_autocommit-clause-cause : goal.returns-then-not-is_autocommit-clause-cause
returns-then-not-is_autocommit-clause-cause g c = search rules

pub returns-then-not-is_autocommit-clause-crash : goal.returns-then-not-is_autocommit-clause-crash
returns-then-not-is_autocommit-clause-crash g c = search rules

pub returns-in-None-clause-found : goal.returns-in-None-clause-found
returns-in-None-clause-found g c = search rules

pub returns-in-None-clause-those : goal.returns-in-None-clause-those
returns-in-None-clause-those g c = search rules

pub returns-in-None-clause-order : goal.returns-in-None-clause-order
returns-in-None-clause-order g c = search rules

pub returns-in-None-clause-open : goal.returns-in-None-clause-open
returns-in-None-clause-open g c = search rules

pub returns-in-None-clause-first : goal.returns-in-None-clause-first
returns-in-None-clause-first g c = search rules

pub returns-in-None-clause-version : goal.returns-in-None-clause-version
returns-in-None-clause-version g c = search rules

pub returns-in-None-clause-tested : goal.returns-in-None-clause-tested
returns-in-None-clause-tested g c = search rules

pub returns-in-None-clause-unusable : goal.returns-in-None-clause-unusable
returns-in-None-clause-unusable g c = search rules

pub returns-in-None-clause-ended : goal.returns-in-None-clause-ended
returns-in-None-clause-ended g c = search rules
