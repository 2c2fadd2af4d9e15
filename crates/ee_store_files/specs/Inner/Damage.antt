-- Definitions that private contracts alone cite; specs/Damage.antt has the others.
use Rattle.std.specs.Prelude.{◌≡◌, ◌⊎◌, ◌+◌, ◌<◌, ◌≤◌, ℕ, Bool, List, length, slice_index, IsTrue}
use Rattle.sqlite_wal.specs.Format.{part}
use Rattle.sqlite_wal.specs.Recovery.{frame_at, frame, header}
use Rattle.ee_store_files.specs.Damage.{number_at, IsAnyCountAt, size_after}

-- frame i is in the file, and has this header
pub record IsFrontOf (page_size : ℕ) (log : List ℕ) (i : ℕ) (front : List ℕ) : Type 0 where
  pub within : frame_at page_size i + (24 + page_size) ≤ length log
  pub read : front ≡ part log (frame_at page_size i) 24

-- frame i is in the file, and has these bytes
pub record IsFrameAt (page_size : ℕ) (log : List ℕ) (i : ℕ) (bytes : List ℕ) : Type 0 where
  pub within : frame_at page_size i + (24 + page_size) ≤ length log
  pub read : bytes ≡ frame page_size log i

-- a count with the salt of the log; or, if it is doubted that the header is the log's, one behind more pages than the file has
pub record IsLateCountAt (is_doubted : Bool) (in_file page_size : ℕ) (log : List ℕ) (i : ℕ) : Type 0 where
  pub count : IsAnyCountAt page_size log i
  pub ours : (part (frame page_size log i) 8 8 ≡ part (header log) 16 8) ⊎ (IsTrue is_doubted × (in_file < size_after page_size log i))

-- the first frames have the pages of these numbers
abbrev pub AreNumbersOf : ℕ → List ℕ → List ℕ → Type 0
AreNumbersOf page_size log numbers = (i : ℕ) → i < length numbers → slice_index numbers i ≡ number_at page_size log i

-- a frame behind frame i has its page
abbrev pub IsReplaced : List ℕ → ℕ → Type 0
IsReplaced numbers i = (j : ℕ) × (i < j) × (j < length numbers) × (slice_index numbers j ≡ slice_index numbers i)
