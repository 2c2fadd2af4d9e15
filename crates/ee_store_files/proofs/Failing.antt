-- Why calls on two files fail.
use Rattle.std.proofs.Common.{◌≡◌, ◌⊎◌, ◌+◌, ◌≤◌, ◌==◌, ◌∙◌, if◌then◌else◌, ℕ, Bool, true, false, IsTrue, List, length, refl, sym, ap, subst, inl, inr, Result, Ok, Err, arith, le_refl}
use Rattle.std.proofs.lemmas.Bool.{cases_lt}
use Rattle.sqlite_disk.specs.Disk.{CountsFault, MoreFaults}
use Rattle.sqlite_wal.specs.declared.error.Error as log_error
use Rattle.sqlite_wal.specs.declared.error.Error.TheVariants as wal
use Rattle.sqlite_wal.specs.Files.{IsHuge}
use Rattle.sqlite_wal.specs.Opening.{RefusesLog}
use Rattle.sqlite_wal.specs.Outcome.{HasCause, OnlyIf}
use Rattle.sqlite_wal.specs.Recovery.{Image, frame_at, frames_len, IsLogFor, Replays}
use Rattle.sqlite_wal.proofs.PartLemmas.{frames_len-zero, frames_len-le}
use Rattle.sqlite_wal.proofs.RecoveryLemmas.{committed_within}
use Rattle.sqlite_disk.specs.declared.tally.Tally.{Tally}
use Rattle.sqlite_trees.specs.declared.error.StoreError.{StoreError}
use Rattle.sqlite_trees.specs.declared.error.StoreError.TheVariants as stored
use Rattle.sqlite_trees.specs.Tree.{Trees}
use Rattle.sqlite_schema.specs.declared.schema.Schema.{Schema}
use Rattle.sqlite_rules.specs.Calls.{Excuses}
use Rattle.sqlite_catalog.specs.Listing.{IsSound}
use Rattle.sqlite_store.specs.declared.error.OpenError.{OpenError}
use Rattle.sqlite_store.specs.declared.error.OpenError.TheVariants as opening
use Rattle.sqlite_store.specs.Opening as store
use Rattle.sqlite_store.specs.Report.{named}
use Rattle.sqlite.specs.Opening.{reported, FailsAs}
use Rattle.sqlite.specs.Steps as connection
use Rattle.sqlite.specs.State.{store_error, is_disk_error}
use Rattle.sqlite.specs.Files.{HoldsDatabase, IsNothing, IsTooLong}
use Rattle.sqlite.specs.declared.error.Error.{Error}
use Rattle.sqlite.specs.declared.error.Error.TheVariants.{SqliteFailure}
use Rattle.sqlite.specs.declared.error.ErrorCode.TheVariants as code
use Rattle.ee_store_files.specs.Damage.{BeginsAsLog}
use Rattle.ee_store_files.specs.Opening.{Fails, IsToOpen, Refuses, IsForeign}
use Rattle.ee_store_files.specs.Inner.Opening.{error_of_probe, FailsToRead, IsLongFor}
use Rattle.ee_store_files.proofs.Frames.{AreOpen}
use Rattle.ee_store_files.proofs.Stops.{named_size}

-- ---- failed calls

-- calls before and after that failed count as well
pub fails_wider : (a b c d : ℕ) (L L' : Type 0) (e : Error) → a ≤ b → c ≤ d → (L → L') → Fails b c L e → Fails a d L' e
fails_wider a b c d L L' e before after limit (inl memory) = inl memory
fails_wider a b c d L L' e before after limit (inr (inl fault)) = inr (inl (fault.0, omega (arith, fault.1)))
fails_wider a b c d L L' e before after limit (inr (inr full)) = inr (inr (full.0, limit full.1))

-- calls on the other file count as well
pub fails_beside : (a b c d : ℕ) (L : Type 0) (e : Error) → c ≤ d → Fails a b L e → Fails (a + c) (b + d) L e
fails_beside a b c d L e beside (inl memory) = inl memory
fails_beside a b c d L e beside (inr (inl fault)) = inr (inl (fault.0, omega (arith, fault.1)))
fails_beside a b c d L e beside (inr (inr full)) = inr (inr full)

-- a call never lowers the count
pub counts_on : {T E : Type 0} (result : Result T E) (a b : ℕ) → CountsFault result a b → a ≤ b
counts_on (Ok x) a b same = omega (arith, same)
counts_on (Err e) a b more = more.1

-- a failed read gives the error of a failed system call
pub by_fault : (a b : ℕ) (L : Type 0) → MoreFaults a b → Fails a b L (SqliteFailure code.SystemIoFailure)
by_fault a b L more = inr (inl (refl, more))

-- why the probe of a log fails
pub log_fails : (a b page_size : ℕ) (log : List ℕ) (e : log_error.Error) → HasCause a b (RefusesLog page_size log) e
    → Fails a b (IsLongFor page_size log) (error_of_probe e) ⊎ ((error_of_probe e ≡ SqliteFailure code.DatabaseCorrupt) × ((k : ℕ) → ¬ Replays page_size log k))
log_fails a b page_size log (wal.Io x) cause = inl (by_fault a b _ cause)
log_fails a b page_size log wal.OutOfMemory cause = inl (inl refl)
log_fails a b page_size log wal.Full cause = inl (inr (inr (refl, elim cause [ inl bad ↦ let e = bad.0 in absurd (cc) | inr long ↦ long.1 ])))
log_fails a b page_size log wal.Corrupt cause = inr (refl, elim cause [ inl none ↦ none.1 | inr long ↦ let e = long.0 in absurd (cc) ])
log_fails a b page_size log wal.Closed cause = elim cause [ inl none ↦ let e = none.0 in absurd (cc) | inr long ↦ let e = long.0 in absurd (cc) ]
log_fails a b page_size log wal.NoSuchPage cause = elim cause [ inl none ↦ let e = none.0 in absurd (cc) | inr long ↦ let e = long.0 in absurd (cc) ]
log_fails a b page_size log wal.Exists cause = elim cause [ inl none ↦ let e = none.0 in absurd (cc) | inr long ↦ let e = long.0 in absurd (cc) ]

-- reads before it that failed count as well
pub reads_wider : (image : Image) (a b c : ℕ) (e : Error) → a ≤ b → FailsToRead image b c e → FailsToRead image a c e
reads_wider image a b c e before (inl fails) = inl (fails_wider a b c c _ _ e before (le_refl c) (λ long. long) fails)
reads_wider image a b c e before (inr refused) = inr refused

-- why the probe for an unfinished file fails
pub blank_fails : (a b page_size : ℕ) (image : Image) (e : log_error.Error) → HasCause a b (OnlyIf wal.Full (IsLogFor page_size image.log × IsHuge page_size image)) e
    → Fails a b (IsTooLong image) (error_of_probe e)
blank_fails a b page_size image (wal.Io x) cause = by_fault a b _ cause
blank_fails a b page_size image wal.OutOfMemory cause = inl refl
blank_fails a b page_size image wal.Full cause = inr (inr (refl, (page_size, (λ _. sym cause.1.0.1, λ ignored. absurd (cause.1.0.0 ignored)), cause.1.1)))
blank_fails a b page_size image wal.Corrupt cause = let e = cause.0 in absurd (cc)
blank_fails a b page_size image wal.Closed cause = let e = cause.0 in absurd (cc)
blank_fails a b page_size image wal.NoSuchPage cause = let e = cause.0 in absurd (cc)
blank_fails a b page_size image wal.Exists cause = let e = cause.0 in absurd (cc)

-- ---- calls of `sqlite`

-- why no database is created in files that have none
pub create_fails : (a b c : ℕ) (L Wanted : Type 0) (e : OpenError) → a ≤ b → Wanted → store.FailsToOpen b c L Wanted e → Fails a c L (reported e)
create_fails a b c L Wanted opening.OutOfMemory before wanted cause = inl refl
create_fails a b c L Wanted opening.Io before wanted cause = inr (inl (refl, omega arith))
create_fails a b c L Wanted opening.Full before wanted cause = inr (inr (refl, cause))
create_fails a b c L Wanted opening.Refused before wanted cause = absurd (cause wanted)

excused : (a b c : ℕ) (L : Type 0) (cause : StoreError) → a ≤ b → Excuses (MoreFaults b c) ⊥ cause → Fails a c L (store_error cause)
excused a b c L stored.OutOfMemory before why = inl refl
excused a b c L stored.Io before why = inr (inl (refl, omega arith))
excused a b c L stored.Corrupt before why = inr (inl (refl, omega arith))
excused a b c L stored.Full before why = inr (inl (refl, omega arith))
excused a b c L stored.Broken before why = absurd why
excused a b c L stored.Unstorable before why = absurd why

-- why there is no connection over a database
pub connection_fails : (a b c : ℕ) (L : Type 0) (db : Trees) (schema : Schema) (e : Error) → a ≤ b → IsSound schema db → connection.FailsToOpen db (MoreFaults b c) e → Fails a c L e
connection_fails a b c L db schema e before sound (inl refused) = absurd (refused.1 schema sound)
connection_fails a b c L db schema e before sound (inr failed) = rw failed.1 (excused a b c L failed.0 before failed.2)

tells_fault : (caught refused : Bool) → IsTrue (is_disk_error (store_error (if caught then (if refused then stored.Io else stored.Full) else stored.Corrupt)))
tells_fault true true = refl
tells_fault true false = refl
tells_fault false refused = refl

refused_as : (image : Image) (e : Error) → ¬ IsToOpen image → (e ≡ SqliteFailure code.NotADatabase) ⊎ (e ≡ SqliteFailure code.DatabaseCorrupt) → Refuses image e
refused_as image e none (inl other) = inr (inl (other, inr none))
refused_as image e none (inr damaged) = inr (inr (damaged, inr (inr none)))

-- why the database in files that have one isn't opened
pub open_fails : (a b c : ℕ) (L : Type 0) (image : Image) (old new : Tally) (e : Error) → a ≤ b
    → FailsAs (named old new) b c L (((db : Trees) × HoldsDatabase image db) ⊎ IsNothing image) e → Fails a c L e ⊎ Refuses image e
open_fails a b c L image old new e before (inl memory) = inl (inl memory)
open_fails a b c L image old new e before (inr (inl refused)) =
    inr (refused_as image e (λ wanted. elim wanted [ inl nothing ↦ refused.1 (inr nothing) | inr held ↦ refused.1 (inl held) ]) refused.0)
open_fails a b c L image old new e before (inr (inr (inl fault))) =
    inl (inr (inl (ap is_disk_error fault.0 ∙ tells_fault (new.caught == old.caught) (new.refused == old.refused), omega (arith, fault.1))))
open_fails a b c L image old new e before (inr (inr (inr full))) = inl (inr (inr full))

-- ---- the frames of a log

pub next_frame : (page_size i : ℕ) → frame_at page_size (i + 1) ≡ frame_at page_size i + (24 + page_size)
unfolding frames_len
next_frame page_size i = omega arith

pub frames_before : (page_size i j : ℕ) → i ≤ j → frame_at page_size i ≤ frame_at page_size j
frames_before page_size i j order = omega (arith, frames_len-le page_size i j order)

-- the frames that recovery takes lie in the file
pub replayed_within : (page_size k : ℕ) (log : List ℕ) → BeginsAsLog log → Replays page_size log k → frame_at page_size k ≤ length log
replayed_within page_size k log begins (inl ignored) =
    subst (λ n. frame_at page_size n ≤ length log) (sym ignored.1) (omega (arith, begins.0, frames_len-zero page_size))
replayed_within page_size k log begins (inr taken) = committed_within page_size log k taken.0

-- a walk over all numbers that a frame has found as many frames
pub long_by : (page_size from to : ℕ) (log : List ℕ) → 0xffff_ffff ≤ to → AreOpen page_size log from to → frame_at page_size from ≤ length log → IsLongFor page_size log
long_by page_size from to log all are within = elim (cases_lt from 0xffff_ffff) [
  | inl few ↦ (let last = are 0xffff_fffe (omega arith) (omega arith) in omega (arith, last.within))
  | inr many ↦ (let below = frames_before page_size 0xffff_fffe from (omega arith) in omega arith)
]

pub too_long : (page_size : ℕ) (image : Image) → IsLogFor page_size image.log → IsLongFor page_size image.log → IsTooLong image
too_long page_size image named long = (page_size, (λ _. sym named.1, λ ignored. absurd (named.0 ignored)), inl long)

-- a log that recovery refuses
pub foreign_if : (page_size : ℕ) (log : List ℕ) → IsLogFor page_size log → ((k : ℕ) → ¬ Replays page_size log k) → IsForeign log
foreign_if page_size log named none other k valid replays =
    none k (subst (λ n. Replays n log k) (sym (named_size page_size other k log named replays)) replays)
