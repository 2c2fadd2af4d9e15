-- What a stop leaves of a log, and that it isn't damaged.
use Rattle.std.specs.Prelude.{true, ◌≡◌, ◌≢◌, ◌⊎◌, ◌+◌, ◌<◌, ◌≤◌, ℕ, List, slice_index, IsTrue}
use Rattle.sqlite_disk.specs.declared.Disk.{Ghosts}
use Rattle.sqlite_disk.specs.Disk.{Torn, Only}
use Rattle.sqlite_wal.specs.Format.{commit_size, count_page}
use Rattle.sqlite_wal.specs.Gate.{HasZeros, IsFaint}
use Rattle.sqlite_wal.specs.Index.{gate_of, key_of}
use Rattle.sqlite_wal.specs.Log.{state, durable, frames, committed_frames, numbers_of, end_of, IsPending, IsLanded}
use Rattle.sqlite_wal.specs.declared.log.Log.{Log}
use Rattle.sqlite_pages.specs.PageMap.{PageMap}
use Rattle.sqlite_pool.specs.Stored.{is_summed, stored_size, Recovers}
use Rattle.sqlite_store.specs.declared.store.FileStore.{FileStore}
use Rattle.sqlite_store.specs.FileStore.{state as store_state}
use Rattle.sqlite_wal.specs.Recovery.{Image, frame_at, frame, IsCommitted, IsLogFor, Replays}
use Rattle.ee_store_files.specs.Damage.{BeginsAsLog, HasBrokenHeader, HasLostHeader, IsOpenAt, HasTwoMore, HasLaterCount, HasCountBehind, IsUnwritten, number_at, page_at, size_after, IsSummed, HasUnsummed, SaysSums, IsDamaged}

-- A transaction of the frames from k to m was being written over zeros, and only its last frame ends it. Each byte
-- of it and of the gate behind it is 0 or the one that was written.
pub record IsHalfWritten (page_size : ℕ) (log : List ℕ) (k : ℕ) : Type 0 where
  pub m : ℕ
  pub order : k ≤ m
  pub whole : List ℕ
  pub faint : IsFaint whole log (frame_at page_size k) (frame_at page_size m + 9)
  pub inner : (i : ℕ) → k ≤ i → i + 1 < m → commit_size (frame page_size whole i) ≡ 0
  pub behind : slice_index whole (frame_at page_size m + 8) ≡ 0
  pub key : slice_index log 16 ≢ 0

-- The first k frames are whole transactions. Behind them the gate is shut, or one more was being written.
pub record IsStoppedAt (page_size : ℕ) (log : List ℕ) (k : ℕ) : Type 0 where
  pub committed : IsCommitted page_size log k
  pub next : (¬ IsOpenAt page_size log k) ⊎ IsHalfWritten page_size log k

-- the pages that recovery takes of the log were written with their checksums, if the store has them
abbrev pub HasSums : Image → Type 0
HasSums image =
    SaysSums image.db → (page_size k : ℕ) → Replays page_size image.log k
    → (i : ℕ) → i < k → number_at page_size image.log i ≤ size_after page_size image.log k → IsSummed page_size (page_at page_size image.log i)

-- No count stands behind the frame after those that recovery takes: a transaction begins with its count once all frames before it, and
-- the header, were synced.
abbrev pub HasNoLaterCount : Image → Type 0
HasNoLaterCount image = (page_size k : ℕ) → Replays page_size image.log k → ¬ HasCountBehind page_size image k

-- what a stop leaves: a log whose header is still to be written, or one that stops so
pub record IsStopped (image : Image) : Type 0 where
  pub log : ((¬ BeginsAsLog image.log) × (¬ HasLostHeader image.log)) ⊎ ((page_size k : ℕ) × IsStoppedAt page_size image.log k)
  pub counts : HasNoLaterCount image
  pub sums : HasSums image

-- none of that is taken for damage
abbrev pub SparesStopped : Type 0
SparesStopped = (image : Image) → IsStopped image → ¬ IsDamaged image

-- ---- the same of the log and the store that the crates of `sqlite` write

-- the log alone is damaged, whatever its pages hold
abbrev pub IsBroken : List ℕ → Type 0
IsBroken log = HasBrokenHeader log ⊎ ((page_size k : ℕ) × IsLogFor page_size log × Replays page_size log k × HasTwoMore page_size log k)

-- pages that recovery finds with their checksums, as `sqlite_pool` shows of each outcome of a crash
abbrev pub SparesSummed : Type 0
SparesSummed = (size : ℕ) (image : Image) (pages : PageMap) → is_summed size ≡ true → Recovers size image pages
    → (k : ℕ) → Replays (stored_size size) image.log k → ¬ HasUnsummed (stored_size size) image.log k

-- a crash of an open store, whose pages have checksums if its file says so, and whose log has no later count
abbrev pub SparesStore : {D : Type 0} → Ghosts D → Type 0
SparesStore {D} g = (it : FileStore D g) → IsTrue (store_state it).is_open → (image : Image) → (store_state it).may_leave image
    → (SaysSums image.db → is_summed (store_state it).page_size ≡ true) → HasNoLaterCount image → ¬ IsDamaged image

-- a crash of an open log, between the writes of its calls
abbrev pub SparesOpen : {D : Type 0} → Ghosts D → Type 0
SparesOpen {D} g = (it : Log D g) → IsTrue (state it).is_open → (c : List ℕ) → g.may_leave it.log c → ¬ IsBroken c

-- a crash while the gate is opened of frames that were synced
abbrev pub SparesSynced : {D : Type 0} → Ghosts D → Type 0
SparesSynced {D} g =
    (it : Log D g) → IsTrue (state it).is_open → IsPending it → Only (g.seen it.log) (g.may_leave it.log)
    → (before c : List ℕ) → g.may_leave it.log before → Torn (gate_of (durable it)) 1 before c → ¬ IsBroken c

-- a crash while the gate is opened of frames that are synced with it, as `append` left them over zeros
abbrev pub SparesOneSync : {D : Type 0} → Ghosts D → Type 0
SparesOneSync {D} g =
    (old it : Log D g) → committed_frames old ≡ frames old → IsLanded old it → it.page_size ≡ old.page_size → IsTrue (g.is_mixing old.log)
    → key_of (durable old) ≢ 0 → ((c : List ℕ) → g.may_leave old.log c → HasZeros c (end_of old) (end_of it + 9))
    → IsTrue (state it).is_open → IsPending it
    → (before c : List ℕ) → g.may_leave it.log before → Torn (gate_of (durable it)) 1 before c → ¬ IsBroken c

-- ---- a transaction that is being committed brings no later count, if none stands behind its end

-- the pages that it writes, behind the first, have numbers below that of a count
abbrev pub HasPages : {D : Type 0} {g : Ghosts D} → Log D g → Type 0
HasPages it = (i : ℕ) → committed_frames it < i → i < frames it → slice_index (numbers_of it) i < count_page

-- a crash while the gate is opened of frames that were synced
abbrev pub CountsNoneSynced : {D : Type 0} → Ghosts D → Type 0
CountsNoneSynced {D} g =
    (it : Log D g) → IsTrue (state it).is_open → IsPending it → HasPages it → Only (g.seen it.log) (g.may_leave it.log)
    → ¬ HasLaterCount it.page_size (g.seen it.log) (frames it)
    → (before c : List ℕ) → g.may_leave it.log before → Torn (gate_of (durable it)) 1 before c → ¬ HasLaterCount it.page_size c (committed_frames it)

-- a crash while the gate is opened of frames that are synced with it, as `append` left them over zeros
abbrev pub CountsNoneAtOnce : {D : Type 0} → Ghosts D → Type 0
CountsNoneAtOnce {D} g =
    (old it : Log D g) → committed_frames old ≡ frames old → IsLanded old it → it.page_size ≡ old.page_size → IsTrue (g.is_mixing old.log)
    → key_of (durable old) ≢ 0 → ((c : List ℕ) → g.may_leave old.log c → HasZeros c (end_of old) (end_of it + 9))
    → IsTrue (state it).is_open → IsPending it → HasPages it
    → ((c : List ℕ) → g.may_leave it.log c → ¬ HasLaterCount it.page_size c (frames it))
    → (before c : List ℕ) → g.may_leave it.log before → Torn (gate_of (durable it)) 1 before c → ¬ HasLaterCount it.page_size c (committed_frames it)

-- ---- a log that has a first frame, committed or synced, isn't taken for one that has none

-- a crash of an open log with a committed frame, between the writes of its calls and while a gate is opened
abbrev pub Begins : {D : Type 0} → Ghosts D → Type 0
Begins {D} g =
    (it : Log D g) → IsTrue (state it).is_open → 0 < committed_frames it
    → (before c : List ℕ) → g.may_leave it.log before → Torn (gate_of (durable it)) 1 before c → ¬ IsUnwritten c

-- a crash while the gate is opened of frames that were synced
abbrev pub BeginsSynced : {D : Type 0} → Ghosts D → Type 0
BeginsSynced {D} g =
    (it : Log D g) → IsTrue (state it).is_open → IsPending it → Only (g.seen it.log) (g.may_leave it.log)
    → (before c : List ℕ) → g.may_leave it.log before → Torn (gate_of (durable it)) 1 before c → ¬ IsUnwritten c
