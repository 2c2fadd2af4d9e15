use Rattle.std.proofs.Common.{IfErr, rules, arith, refl, sym, subst, inl, [], ◌∷◌, ◌++◌, map, ◌∙◌}
use Rattle.sqlite.specs.Effect.{Database}
use Rattle.sqlite.specs.Held.{state}
use Rattle.sqlite.specs.Given.{HasGiven, IsPlain}
use Rattle.sqlite.specs.Listing.{understood}
use Rattle.sqlite.specs.State.{HasCleanDisk, IsUnchanged, Survives, Shown, CommitsShowing}
use Rattle.sqlite.proofs.StateLemmas.{survives_then}
use Rattle.sqlite.proofs.Callers.{given_begin, unchanged_then}
use Rattle.ee_store_tables.proofs.Lemmas.Transactions.{query_keeps}
use Rattle.ee_store_schema.specs.Faults.{IsExcused}
use Rattle.ee_store_schema.specs.Inner.Asking.{IsNeverRefused}
use Rattle.ee_store_schema.proofs.Lemmas.Faults.{query_usable, told_as, handed_on}
use Rattle.ee_store_load.proofs.TestLemmas.{shown_more}
use Rattle.ee_store_schema.proofs.Lemmas.Causes.{query_excused}
use Rattle.ee_store_tables.proofs.Lemmas.Causes.{cause_then}
use Rattle.ee_store_load.proofs.AskLemmas.{commits_nothing, begun_asking, shown_after, begins_before, last_of}
use Rattle.ee_store_load.proofs.reading.gather_rows.Goals as goal

pub returns-in_err-rows-clause-usable : goal.returns-in_err-rows-clause-usable
returns-in_err-rows-clause-usable g c clean =
    let old = state g.S.Store c.args.conn.now in
    let new = state g.S.Store c.query.follows.lender-at-none in
    let held = rw c.in_err-rows.was at c.query.follows.holds-at-none in
    let fails = held.err clean in
    told_as _ c.from_residual.result c.in_err-rows.field-0.0 c.from_residual.ensures.1 (λ unusable plain. absurd (query_usable old new c.args.sql.now [] _ plain (inl fails) unusable))

pub returns-in_err-rows-clause-only_loads : goal.returns-in_err-rows-clause-only_loads
returns-in_err-rows-clause-only_loads g c = record {
  same = search rules;
  kept = λ clean.
      let old = state g.S.Store c.args.conn.now in
      let new = state g.S.Store c.query.follows.lender-at-none in
      let held = rw c.in_err-rows.was at c.query.follows.holds-at-none in
      let fails = held.err clean in
      query_keeps old new c.args.sql.now [] _ (inl fails);
  outside = (rw c.in_err-rows.was at c.query.follows.holds-at-none).mode;
  other = search rules;
  crash =
      let old = state g.S.Store c.args.conn.now in
      let new = state g.S.Store c.query.follows.lender-at-none in
      let held = c.query.follows.holds-at-none in
      let kept : Survives old new (CommitsShowing c.args.sql.now [] old) = search rules in
      commits_nothing c.args.sql.now c.requires.asks [] old new kept;
}

pub rows-init : goal.rows-init
rows-init g c =
    let made = c.in_ok-rows.ensures in
    (refl, commits_nothing c.args.sql.now c.requires.asks [] _ _ made.survives, made.mode, ([], λ clean. begun_asking c.args.sql.now c.requires.asks [] g.S.Store c.args.conn.now _ (made.begun clean), c.requires.begins))

pub returns-in_err-row-clause-usable : goal.returns-in_err-row-clause-usable
returns-in_err-row-clause-usable g c clean =
    let moved = c.next.follows.holds-at-none in
    let now = c.next.follows.lender-at-none.conn.now in
    let late : HasCleanDisk (state g.S.Store now) = search rules in
    let was = c.rows.invariant.3.1 (omega (arith, moved.survives.clean)) in
    let fails = (rw c.in_err-row.was at (moved.err late)) c.args.sql.now [] _ was.0 in
    told_as _ c.from_residual-in_err-row.result c.in_err-row.field-0.0 c.from_residual-in_err-row.ensures.1 (λ unusable plain.
    absurd (query_usable (state g.S.Store c.rows.rows.conn.now) (state g.S.Store now) c.args.sql.now [] _ (subst (λ (d : Database). IsPlain (understood d.schema c.args.sql.now)) (sym was.1.0.now_is) plain) (inl fails) unusable))

pub returns-in_default-clause-shown : goal.returns-in_default-clause-shown
returns-in_default-clause-shown g c clean =
    let moved = c.next.follows.holds-at-none in
    let now = c.next.follows.lender-at-none.conn.now in
    let late : HasCleanDisk (state g.S.Store now) = search rules in
    let found = c.rows.invariant.3.0 in
    let was = c.rows.invariant.3.1 (omega (arith, moved.survives.clean)) in
    let shown = (rw (c.in_ok-row.was, c.in_default.is) at (moved.ok late)) c.args.sql.now [] _ was.0 in
    let all : Shown c.args.sql.now [] (state g.S.Store c.args.conn.now) (state g.S.Store now) (map g.T.StoredRow.shown found)
    = shown_after c.args.sql.now c.requires.asks [] (state g.S.Store c.args.conn.now) (state g.S.Store c.rows.rows.conn.now) (state g.S.Store now) _ was.1 shown in
    (found, search rules, c.rows.invariant.3.2)

pub returns-in_err-next-clause-usable : goal.returns-in_err-next-clause-usable
returns-in_err-next-clause-usable g c clean =
    let moved = c.next.follows.holds-at-none in
    let old = state g.S.Store c.args.conn.now in
    let middle = state g.S.Store c.rows.rows.conn.now in
    let now = c.next.follows.lender-at-none.conn.now in
    let late : HasCleanDisk (state g.S.Store now) = search rules in
    let was = c.rows.invariant.3.1 (omega (arith, moved.survives.clean)) in
    let given = map g.T.StoredRow.shown c.rows.invariant.3.0 in
    let step = (rw (c.in_ok-row.was, c.in-Some.is) at (moved.ok late)) c.args.sql.now [] given was.0 in
    let same : IsUnchanged middle (state g.S.Store now) = rw c.in_ok-row.was at (moved.same late) in
    let begins = begins_before c.args.sql.now [] old (state g.S.Store now) _ (unchanged_then old middle (state g.S.Store now) was.1 same) (given_begin g.S.Store c.args.sql.now [] now _ step) in
    handed_on _ c.from_residual-in_err-next.result c.in_err-next.field-0.0 c.from_residual-in_err-next.ensures.1 (λ unusable plain. (given ++ c.in-Some.row.now ∷ [], begins, λ all. c.in_err-next.ensures.usable unusable (last_of g.T.StoredRow.is_readable given c.in-Some.row.now all)))

pub rows-preserved : goal.rows-preserved
rows-preserved g c =
    let moved = c.next.follows.holds-at-none in
    let old = state g.S.Store c.args.conn.now in
    let middle = state g.S.Store c.rows.rows.conn.now in
    let now = c.next.follows.lender-at-none.conn.now in
    let before = c.rows.invariant in
    let next = c.in_ok-next.next in (
      moved.same_reference ∙ before.0,
      survives_then old middle (state g.S.Store now) _ _ _ (λ _ db h. h) (λ _ db h. h) before.1 moved.survives,
      λ outside. moved.mode (before.2 outside),
      (
        before.3.0 ++ next ∷ [],
        λ clean.
            let was = before.3.1 (omega (arith, moved.survives.clean)) in
            let step = (rw (c.in_ok-row.was, c.in-Some.is) at (moved.ok clean)) c.args.sql.now [] (map g.T.StoredRow.shown before.3.0) was.0 in
            let same : IsUnchanged middle (state g.S.Store now) = rw c.in_ok-row.was at (moved.same clean) in
            let more = shown_more g.T.StoredRow.shown before.3.0 next c.in-Some.row.now c.in_ok-next.ensures.exact in
            (subst (HasGiven g.S.Store c.args.sql.now [] now) more step, unchanged_then old middle (state g.S.Store now) was.1 same),
        c.in_ok-gathered.ensures.taken before.3.0 before.3.2,
      ),
    )

pub returns-in_err-rows-clause-cause : goal.returns-in_err-rows-clause-cause
returns-in_err-rows-clause-cause g c clean never limit =
    let old = state g.S.Store c.args.conn.now in
    let new = state g.S.Store c.query.follows.lender-at-none in
    let held = rw c.in_err-rows.was at c.query.follows.holds-at-none in
    told_as (IsExcused old new) c.from_residual.result c.in_err-rows.field-0.0 c.from_residual.ensures.1 (query_excused old new c.args.sql.now [] never limit _ (held.err clean))

pub returns-in_err-row-clause-cause : goal.returns-in_err-row-clause-cause
returns-in_err-row-clause-cause g c clean never limit =
    let moved = c.next.follows.holds-at-none in
    let old = state g.S.Store c.args.conn.now in
    let middle = state g.S.Store c.rows.rows.conn.now in
    let now = c.next.follows.lender-at-none.conn.now in
    let late : HasCleanDisk (state g.S.Store now) = search rules in
    let before = c.rows.invariant in
    let was = before.3.1 (omega (arith, moved.survives.clean)) in
    let fails = (rw c.in_err-row.was at (moved.err late)) c.args.sql.now [] _ was.0 in
    let still = subst (λ (d : Database). IsNeverRefused d.schema c.args.sql.now []) (sym was.1.0.now_is) never in
    let why : IfErr c.from_residual-in_err-row.result (IsExcused old (state g.S.Store now))
    = told_as (IsExcused old (state g.S.Store now)) c.from_residual-in_err-row.result c.in_err-row.field-0.0 c.from_residual-in_err-row.ensures.1 (λ told.
    cause_then old middle (state g.S.Store now) before.1 moved.survives late (query_excused middle (state g.S.Store now) c.args.sql.now [] still (before.1.limit ∙ limit) _ fails told)) in
    search rules

pub returns-in_default-clause-made : goal.returns-in_default-clause-made
returns-in_default-clause-made g c = (c.rows.invariant.3.0, c.rows.invariant.3.2)
