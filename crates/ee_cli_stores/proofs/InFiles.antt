-- What a line did over stores, it did over their files.
use Rattle.std.proofs.Common.{◌≡◌, ◌*◌, inl, inr, ℕ, List, [], ◌++◌, Option, Result, Ok, Err, refl, sym, subst, append_assoc}
use Rattle.std.specs.Result.{IsErr}
use Rattle.clap.specs.Words.{Text}
use Rattle.sqlite_disk.specs.declared.Disk.{Ghosts}
use Rattle.sqlite_disk.specs.declared.Files.{Files}
use Rattle.sqlite.specs.Tree.{Trees}
use Rattle.sqlite.specs.declared.FileStore.{FileStore}
use Rattle.sqlite.specs.FileStore.{recovers, state, view}
use Rattle.sqlite.specs.Files.{file_state}
use Rattle.sqlite.specs.Recovery.{Image}
use Rattle.sqlite.specs.State.{HasCleanDisk}
use Rattle.sqlite.specs.View.{IsClean}
use Rattle.sqlite.specs.WalReads.{AreClean}
use Rattle.ee_desk_model.specs.Repeats.{Content}
use Rattle.ee_desk_model.specs.declared.acts.Request.{Request}
use Rattle.ee_desk_laws.specs.Attempts.{Attempt, LeadOn}
use Rattle.ee_keeper.specs.Keeping.{HasAfter}
use Rattle.ee_store_books.specs.Seen.{HasContent}
use Rattle.ee_store_schema.specs.declared.faults.OpenFault.{OpenFault}
use Rattle.ee_store.specs.Ended.{EndsTested, FailsToEnd, RestsIn}
use Rattle.ee_store.specs.declared.keeper.SqlKeeper.{SqlKeeper}
use Rattle.ee_store_delivery.specs.Known.{IsInformed}
use Rattle.ee_store_delivery.specs.Causes.{TextsFit}
use Rattle.ee_store_tables.specs.Rows.{HasRoom}
use Rattle.ee_store.specs.History.{AreFoundAs, HasCome, HasLeft, HoldAtRest, LeavesHistory, RestsAfter, WaitsRefused, stop_and_reopen}
use Rattle.ee_store.specs.NextRun.{IsNumberedStore}
use Rattle.ee_cli_actions.proofs.Lemmas.{applies_with, exports_with, imports_with, serves_all_with, sheets_with}
use Rattle.ee_cli_actions.specs.Actions.{ImportsInto}
use Rattle.ee_cli_actions.specs.Connections.{ServesAll}
use Rattle.ee_cli_actions.specs.declared.faults.RunFault.{RunFault}
use Rattle.ee_cli_actions.specs.declared.faults.Outcome.{Outcome}
use Rattle.ee_cli_actions.specs.declared.faults.Outcome.TheVariants as outcome
use Rattle.ee_cli_commands.specs.CommandLine.{Asked, value, apply, imports, export, sheet, serve}
use Rattle.ee_cli_program.proofs.Lemmas.{tries_with}
use Rattle.ee_cli_program.specs.Stores.{CarriesOver, Over, Since, Tries}
use Rattle.ee_cli_program.specs.Statuses.{HasRun, IsRun}
use Rattle.ee_cli_program.specs.declared.stores.Left.{Left}
use Rattle.ee_cli_program.specs.declared.stores.Left.TheVariants as stores
use Rattle.ee_cli_stores.specs.declared.files.Refused.{Refused}
use Rattle.ee_cli_stores.specs.declared.files.Refused.TheVariants as refused
use Rattle.ee_cli_stores.specs.declared.files.Unclosed.{Unclosed}
use Rattle.ee_cli_stores.specs.Faults.{HandsBack, IsRefused, IsStill, Keeps}
use Rattle.ee_cli_stores.specs.Tested.{WasClean}
use Rattle.ee_cli_stores.specs.Lines.{ClosesLine, LineLeads, LineWaits, WaitsLine}
use Rattle.ee_cli_stores.specs.Running.{Did, DoesInFiles, Led, MayBeFound, MayBeFoundUnopened, MayBeStopped}

-- The line did what its command is to do, if what is left of its stores led to the files, however it ended.
module _ (held found : Image) {O Q S R L : Type 0} (clean : S → Type 0) (Has : S → Content → List Attempt → Type 0)
    (Rests : S → R → Type 0) (Keeps : S → L → Type 0) (Refuses : RunFault → Q → Type 0) (rest : Left O Q R L)
    (given : (o : O) → rest ≡ stores.Given o → found ≡ held)
    (at_rest : (s : S) (files : R) → rest ≡ stores.AtRest files → Rests s files → clean s × ((c : Content) (attempts : List Attempt) → Has s c attempts → Led held found c attempts))
    (unclosed : (s : S) (last : L) → rest ≡ stores.Unclosed last → Keeps s last → clean s × ((c : Content) (attempts : List Attempt) → Has s c attempts → LineLeads held attempts found))
    (unopened : (fault : RunFault) (it : Q) → rest ≡ stores.Refused it → Refuses fault it → LineWaits held found) where
  over_at : (other : Left O Q R L) → rest ≡ other → (FromTo : S → S → Result Outcome RunFault → Type 0)
      → (Carried : (Content → List Attempt → Type 0) → Result Outcome RunFault → Type 0)
      → ((Before After : Content → List Attempt → Type 0) → ((c : Content) (attempts : List Attempt) → Before c attempts → After c attempts)
      → (ended : Result Outcome RunFault) → Carried Before ended → Carried After ended)
      → (old new : Option (List ℕ)) (result : Result Outcome RunFault)
      → Over Rests Keeps Refuses old new result other FromTo (λ s ended. clean s → Carried (Has s) ended)
      → Did held found old new result Carried
  over_at (stores.Given it) is FromTo Carried weaker old new result (inl w) = absurd w.closes
  over_at (stores.Given it) is FromTo Carried weaker old new result (inr (none, same)) = absurd none
  over_at (stores.AtRest files) is FromTo Carried weaker old new result (inl w) =
      let (closed, ends) = w.closes in
      let (was, led) = at_rest w.left files is closed in
      inl (subst (Carried (Led held found)) (sym ends) (weaker (Has w.left) (Led held found) led w.ended (w.carried was)))
  over_at (stores.AtRest files) is FromTo Carried weaker old new result (inr (none, same)) = absurd none
  over_at (stores.Unclosed last) is FromTo Carried weaker old new result (inl w) =
      let (closed, ends) = w.closes in
      let (was, led) = unclosed w.left last is closed in
      inr (inl (w.ended, ends, weaker (Has w.left) (λ content attempts. LineLeads held attempts found) led w.ended (w.carried was)))
  over_at (stores.Unclosed last) is FromTo Carried weaker old new result (inr (none, same)) = absurd none
  over_at (stores.Refused it) is FromTo Carried weaker old new result (inl w) = absurd w.closes
  over_at (stores.Refused it) is FromTo Carried weaker old new result (inr ((fault, fails, refuses), same)) =
      inr (inr (subst IsErr (sym fails) refl, unopened fault it is refuses, same))

  pub carries_in_files : (fits : Content → Request → Type 0) (FromTo : ℕ → Type 0 → S → S → Result Outcome RunFault → Type 0) (c : Content) (files : Text → Option (List ℕ)) (coming : ℕ → Option (List (List ℕ))) (it : O)
      (input left old new : Option (List ℕ)) (asked : Asked) (result : Result Outcome RunFault)
      → CarriesOver clean FromTo fits (λ path s. Has s) Rests Keeps (λ path. Refuses) (λ path. c) files coming it rest input left old new asked result
      → DoesInFiles held found c files coming input left old new asked result
  carries_in_files fits FromTo c files coming it input left old new (value denom issued month rate extension) result is = given it is
  carries_in_files fits FromTo c files coming it input left old new (apply db) result over =
      over_at rest refl _ _ (λ Before After more ended it. applies_with Before After more input left old new c ended it) old new result over
  carries_in_files fits FromTo c files coming it input left old new (imports kind file db desk number) result over =
      over_at rest refl _ (λ Led ended. Tries old new ended (ImportsInto kind (files file) old new (desk, number) c ended Led) (Led c []))
      (λ Before After more ended it. tries_with old new ended (ImportsInto kind (files file) old new (desk, number) c ended Before) (ImportsInto kind (files file) old new (desk, number) c ended After) (Before c []) (After c [])
      (imports_with Before After more kind (files file) old new (desk, number) c ended) (more c []) it) old new result over
  carries_in_files fits FromTo c files coming it input left old new (export customer db) result over =
      over_at rest refl _ _ (λ Before After more ended it. exports_with Before After more old new customer c ended it) old new result over
  carries_in_files fits FromTo c files coming it input left old new (sheet customer month db) result over =
      over_at rest refl _ _ (λ Before After more ended it. sheets_with old new customer month c ended (Before c []) (After c []) (more c []) it) old new result over
  carries_in_files fits FromTo c files coming it input left old new (serve db port connections) result (inl (failed, (is, same))) =
      let stays = given it is in
      inr (inr (subst IsErr (sym failed) refl, (λ start earlier was. subst (HasLeft start earlier) (sym stays) was), same))
  carries_in_files fits FromTo c files coming it input left old new (serve db port connections) result (inr over) =
      over_at rest refl _ (λ Led ended. Tries old new ended (ServesAll (coming port) connections old new c ended Led) (Led c []))
      (λ Before After more ended it. tries_with old new ended (ServesAll (coming port) connections old new c ended Before) (ServesAll (coming port) connections old new c ended After) (Before c []) (After c [])
      (serves_all_with Before After more (coming port) connections old new c ended) (more c []) it) old new result over

-- ---- a keeper over the tables

module _ {D : Type 0} (g : Ghosts D) (closes : ClosesLine g) (at_rest : HoldAtRest g) (leaves : LeavesHistory g) (refuses : WaitsRefused g) (waits : WaitsLine) (held found : Image) where
  -- the keeper has this content, and these attempts led on from what the files held
  abbrev HasLed : SqlKeeper (FileStore D g) → Content → List Attempt → Type 0
  HasLed k = HasAfter (λ d. HasContent (file_state k.conn) d × IsInformed (file_state k.conn) k.known) (λ start events. HasLeft start events held)
      (λ start events. HasCome start events (file_state k.conn) × IsInformed (file_state k.conn) k.known)

  came : (k : SqlKeeper (FileStore D g)) (c : Content) (attempts : List Attempt) → HasLed k c attempts
      → LeadOn (λ start events. HasLeft start events held) attempts (λ start events. HasCome start events (file_state k.conn))
  came k c attempts (content, lead) start earlier more was are = (lead start earlier more was are).0

  led_at_rest : (k : SqlKeeper (FileStore D g)) (files : Files D) → RestsIn k.conn files → AreClean g files.log files.db → AreFoundAs g files found
      → (c : Content) (attempts : List Attempt) → HasLed k c attempts → Led held found c attempts
  led_at_rest k files rests clean finds c attempts it = (
    at_rest files c found (rests clean c it.0.0) finds,
    closes held found attempts k.conn files (came k c attempts it) clean rests finds,
  )

  led_unclosed : (k : SqlKeeper (FileStore D g)) (last : FileStore D g) → ((db : Trees) → recovers last db → (file_state k.conn).may_leave db) → IsNumberedStore last → (state last).may_leave found
      → (c : Content) (attempts : List Attempt) → HasLed k c attempts → LineLeads held attempts found
  led_unclosed k last no_more numbered may c attempts it start earlier more was are =
      subst (λ l. HasLeft start l found) (append_assoc earlier more stop_and_reopen)
      (leaves start (earlier ++ more) k.conn last found (came k c attempts it start earlier more was are) no_more numbered may)

  waited : (cause : OpenFault) (it : Refused D g) → IsStill held cause it → MayBeFoundUnopened held it found → LineWaits held found
  waited cause (refused.Store last) (conn, (no_more, handed), from) (clean, may) start earlier was =
      let (was_clean, numbered) = handed clean in refuses start earlier held cause conn last found was was_clean (from was_clean) no_more numbered may
  waited cause (refused.Files left) kept (clean, numbered, may) start earlier was = waits held found (kept clean numbered found may) start earlier was
  waited cause refused.Nothing still same start earlier was = subst (HasLeft start earlier) (sym same) was

  -- what is known of a keeper from its opening on, by the clauses of a line
  abbrev SinceOpened : ℕ → Type 0 → SqlKeeper (FileStore D g) → SqlKeeper (FileStore D g) → Result Outcome RunFault → Type 0
  SinceOpened = Since (λ (k : SqlKeeper (FileStore D g)). HasCleanDisk (file_state k.conn)) (λ k. (file_state k.conn).IsShielded) (λ k. (file_state k.conn).is_open) (λ k. (file_state k.conn).faults)
      (λ n k. HasRoom (501 * n) (file_state k.conn))

  pub line_in_files : {O : Type 0} (IsLog IsDb : Files D → Type 0) (Tested : SqlKeeper (FileStore D g) → Files D → Type 0)
      (rest : Left O (Refused D g) (Files D) (Unclosed D g)) → MayBeFound held rest found → (c : Content) (files : Text → Option (List ℕ)) (coming : ℕ → Option (List (List ℕ))) (given : O) (input left old new : Option (List ℕ)) (asked : Asked) (result : Result Outcome RunFault)
      → CarriesOver (λ (k : SqlKeeper (FileStore D g)). HasCleanDisk (file_state k.conn)) SinceOpened TextsFit (λ path. HasLed)
      (λ k files. RestsIn k.conn files × RestsAfter k.conn files × WasClean k.conn files × EndsTested k.conn files × Tested k files)
      (λ k it. Keeps k.conn it.store × (IsClean (view it.store) → FailsToEnd k.conn it.store it.failure))
      (λ path fault it. IsRefused IsLog IsDb held fault it) (λ path. c) files coming given rest input left old new asked result
      → DoesInFiles held found c files coming input left old new asked result
  line_in_files {O} IsLog IsDb Tested rest may c files coming given input left old new asked result it =
      let known : (other : Left O (Refused D g) (Files D) (Unclosed D g)) → rest ≡ other → MayBeFound held other found = λ other is. subst (λ it. MayBeFound held it found) is may in
      carries_in_files held found (λ (k : SqlKeeper (FileStore D g)). HasCleanDisk (file_state k.conn)) HasLed
      (λ k files. RestsIn k.conn files × RestsAfter k.conn files × WasClean k.conn files × EndsTested k.conn files × Tested k files)
      (λ k it. Keeps k.conn it.store × (IsClean (view it.store) → FailsToEnd k.conn it.store it.failure))
      (λ fault it. IsRefused IsLog IsDb held fault it) rest
      (λ o is. known (stores.Given o) is)
      (λ k files is rests. let (clean, finds) = known (stores.AtRest files) is in (rests.2 clean, led_at_rest k files rests.0 clean finds))
      (λ k it is keeps. let (clean, numbered, leaves_it) = known (stores.Unclosed it) is in (keeps.0.2 clean, led_unclosed k it.store keeps.0.0 numbered leaves_it))
      (λ fault it is (cause, told, kind, why, still). waited cause it still (known (stores.Refused it) is))
      TextsFit SinceOpened c files coming given input left old new asked result it

  -- the same of a store that is never closed, as its files stopped
  pub line_stopped : {O : Type 0} (Settled : Type 0) → Settled → (rest : Left O (Refused D g) (Unit {0}) (FileStore D g)) → MayBeStopped held rest found → (c : Content) (files : Text → Option (List ℕ)) (coming : ℕ → Option (List (List ℕ))) (given : O) (input left old new : Option (List ℕ)) (asked : Asked) (result : Result Outcome RunFault)
      → CarriesOver (λ (k : SqlKeeper (FileStore D g)). HasCleanDisk (file_state k.conn)) SinceOpened TextsFit (λ path. HasLed)
      (λ k rest. ⊥) (λ k last. HandsBack k.conn last) (λ path fault it. Settled → (cause : OpenFault) × IsStill held cause it) (λ path. c) files coming given rest input left old new asked result
      → DoesInFiles held found c files coming input left old new asked result
  line_stopped {O} Settled settled rest may c files coming given input left old new asked result it =
      let known : (other : Left O (Refused D g) (Unit {0}) (FileStore D g)) → rest ≡ other → MayBeStopped held other found = λ other is. subst (λ it. MayBeStopped held it found) is may in
      carries_in_files held found (λ (k : SqlKeeper (FileStore D g)). HasCleanDisk (file_state k.conn)) HasLed
      (λ k rest. ⊥) (λ k last. HandsBack k.conn last) (λ fault it. Settled → (cause : OpenFault) × IsStill held cause it) rest
      (λ o is. known (stores.Given o) is)
      (λ k files is rests. absurd rests)
      (λ k last is (no_more, handed).
      let (clean, leaves_it) = known (stores.Unclosed last) is in let (was_clean, numbered) = handed clean in (was_clean, led_unclosed k last no_more numbered leaves_it))
      (λ fault it is from. let (cause, still) = from settled in waited cause it still (known (stores.Refused it) is))
      TextsFit SinceOpened c files coming given input left old new asked result it

-- what is said of a command that ended so says more
pub run_with : (words : List Text) (Before After : Asked → Result Outcome RunFault → Type 0) (Unread Same : Type 0) (status : ℕ)
    → ((asked : Asked) (ended : Result Outcome RunFault) → Before asked ended → After asked ended) → (Unread → Same) → IsRun words Before Unread status → IsRun words After Same status
run_with words Before After Unread Same status more same run = record {
  range = run.range;
  ends = λ asked is.
      let ends = run.ends asked is in
      record {
        done = λ zero. more asked (Ok outcome.Done) (ends.done zero);
        refused = λ one. elim (ends.refused one) [
          | inl refused ↦ inl (refused.0, more asked (Ok (outcome.Refused refused.0)) refused.1)
          | inr others ↦ elim others [
            | inl message ↦ inr (inl (more asked (Ok outcome.NoMessage) message))
            | inr unsettled ↦ inr (inr (unsettled.0, more asked (Ok (outcome.Unsettled unsettled.0)) unsettled.1))
          ]
        ];
        is_good_line = ends.is_good_line;
        failed = λ three. elim (ends.failed three) [
          | inl failed ↦ inl (failed.0, more asked (Err failed.0) failed.1)
          | inr others ↦ elim others [
            | inl unsettled ↦ inr (inl (unsettled.0, more asked (Ok (outcome.Unsettled unsettled.0)) unsettled.1))
            | inr unread ↦ inr (inr (same unread))
          ]
        ];
      };
  shows = run.shows;
  refuses_line = run.refuses_line;
  done = run.done;
  refused = run.refused;
  bad_line = run.bad_line;
}

pub ran_with : (words : List Text) (Before After : Asked → Result Outcome RunFault → Type 0) (status : ℕ)
    → ((asked : Asked) (ended : Result Outcome RunFault) → Before asked ended → After asked ended) → HasRun words Before status → HasRun words After status
ran_with words Before After status more ran = record {
  asked = ran.asked;
  is_asked = ran.is_asked;
  ended = ran.ended;
  carried = more ran.asked ran.ended ran.carried;
  has_status = ran.has_status;
}
