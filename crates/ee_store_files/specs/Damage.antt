-- A log that was damaged, or written by another program: what no stop of this one leaves.
use Rattle.std.specs.Prelude.{◌≡◌, ◌≢◌, ◌⊎◌, ◌+◌, ◌-◌, ◌/◌, ◌<◌, ◌≤◌, ℕ, List, length, slice_index, take}
use Rattle.sqlite_wal.specs.Format.{part, be32, is_big, frame_sum, stored_sum, count_page, IsSigned}
use Rattle.sqlite_wal.specs.Recovery.{Image, frame_at, frame, header, sum_before, Passes, IsLogFor, Replays}
use Rattle.sqlite_pool.specs.Stored.{sealed}

-- the file has room for a header and a frame's header, and its first byte is that of a log
abbrev pub BeginsAsLog : List ℕ → Type 0
BeginsAsLog log = (56 ≤ length log) × (slice_index log 0 ≡ 0x37)

-- The header fails its checksum. Recovery would take the file for no log, and drop all of its frames.
abbrev pub HasBrokenHeader : List ℕ → Type 0
HasBrokenHeader log = BeginsAsLog log × (¬ IsSigned (header log))

-- The first three bytes are not those of a log, in a file with room for a frame. A header that is being written has all but the first.
abbrev pub HasLostHeader : List ℕ → Type 0
HasLostHeader log = (56 ≤ length log) × (slice_index log 0 ≢ 0x37) × ((slice_index log 1 ≢ 0x7f) ⊎ (slice_index log 2 ≢ 0x06))

-- Frame i is in the file, and its gate is open: the first byte of its salt, which is written last, is the header's.
pub record IsOpenAt (page_size : ℕ) (log : List ℕ) (i : ℕ) : Type 0 where
  pub within : frame_at page_size i + (24 + page_size) ≤ length log
  pub gate : slice_index log (frame_at page_size i + 8) ≡ slice_index log 16

-- frame i ends a transaction of this log: it has the header's salt, and a size for the database
pub record EndsOne (page_size : ℕ) (log : List ℕ) (i : ℕ) : Type 0 where
  pub salt : part log (frame_at page_size i + 8) 8 ≡ part log 16 8
  pub size : be32 log (frame_at page_size i + 4) ≢ 0

-- Behind the first k frames, two frames end transactions, and no gate is shut up to the second of them.
pub record HasTwoMore (page_size : ℕ) (log : List ℕ) (k : ℕ) : Type 0 where
  pub first : ℕ
  pub second : ℕ
  pub behind : k ≤ first
  pub later : first < second
  pub is_open : (i : ℕ) → k ≤ i → i ≤ second → IsOpenAt page_size log i
  pub ends_first : EndsOne page_size log first
  pub ends_second : EndsOne page_size log second

-- the number of the page that frame i has
abbrev pub number_at : ℕ → List ℕ → ℕ → ℕ
number_at page_size log i = be32 log (frame_at page_size i)

-- frame i has the salt of the log and a right checksum, computed on from that of the frame before it, and is a count
abbrev pub IsCountAt : ℕ → List ℕ → ℕ → Type 0
IsCountAt page_size log i = Passes page_size log i × (number_at page_size log i ≡ count_page)

-- Such a count stands behind frame k. A transaction begins with its count once all frames before it were synced.
abbrev pub HasLaterCount : ℕ → List ℕ → ℕ → Type 0
HasLaterCount page_size log k = (i : ℕ) × (k < i) × IsCountAt page_size log i

-- frame i is a count, and its checksum is right, computed on from that of the frame before it, whatever its salt is
pub record IsAnyCountAt (page_size : ℕ) (log : List ℕ) (i : ℕ) : Type 0 where
  pub within : frame_at page_size i + (24 + page_size) ≤ length log
  pub sum : frame_sum (is_big (header log)) (sum_before page_size log i) (frame page_size log i) ≡ stored_sum (frame page_size log i) 16
  pub number : number_at page_size log i ≡ count_page

-- the number of pages of the database after the first k frames
abbrev pub size_after : ℕ → List ℕ → ℕ → ℕ
size_after page_size log k = be32 log (frame_at page_size (k - 1) + 4)

-- the first frame's header is zeros, as before the first transaction is written
abbrev pub IsUnwritten : List ℕ → Type 0
IsUnwritten log = (56 ≤ length log) × ((x : ℕ) → x < 24 → slice_index log (32 + x) ≡ 0)

-- The header is older than the frames. Recovery takes none of them, and the first isn't written; yet behind a transaction that leaves more
-- pages than the file has stands a count, which was written after that transaction was synced.
pub record HasOlderHeader (page_size : ℕ) (image : Image) (k : ℕ) : Type 0 where
  pub none : k ≡ 0
  pub unwritten : IsUnwritten image.log
  pub at : ℕ
  pub later : k < at
  pub count : IsAnyCountAt page_size image.log at
  pub more : length image.db / page_size < size_after page_size image.log at

-- a later count of the log, or one of a log whose header is lost
abbrev pub HasCountBehind : ℕ → Image → ℕ → Type 0
HasCountBehind page_size image k = HasLaterCount page_size image.log k ⊎ HasOlderHeader page_size image k

-- the content of that page
abbrev pub page_at : ℕ → List ℕ → ℕ → List ℕ
page_at page_size log i = part log (frame_at page_size i + 24) page_size

-- the page ends in its checksum
abbrev pub IsSummed : ℕ → List ℕ → Type 0
IsSummed page_size page = page ≡ sealed (take (page_size - 8) page)

-- Frame i has a page of the database without its checksum, and no later one of the first k frames has that page.
pub record LacksSum (page_size : ℕ) (log : List ℕ) (k i : ℕ) : Type 0 where
  pub kept : number_at page_size log i ≤ size_after page_size log k
  pub last : (j : ℕ) → i < j → j < k → number_at page_size log j ≢ number_at page_size log i
  pub lacks : ¬ IsSummed page_size (page_at page_size log i)

-- one of the first k frames is such a frame
abbrev pub HasUnsummed : ℕ → List ℕ → ℕ → Type 0
HasUnsummed page_size log k = (i : ℕ) × (i < k) × LacksSum page_size log k i

-- the header of the database file reserves the eight bytes of a checksum in each page
abbrev pub SaysSums : List ℕ → Type 0
SaysSums db = (24 ≤ length db) × (be32 db 20 ≡ 0x0840_2020)

-- two transactions or a count stand behind the first k frames, or one of these has a page that lacks its checksum
abbrev pub IsWrongAt : ℕ → Image → ℕ → Type 0
IsWrongAt page_size image k =
    HasTwoMore page_size image.log k ⊎ (HasCountBehind page_size image k ⊎ (SaysSums image.db × HasUnsummed page_size image.log k))

-- recovery takes k frames of the log, and one of the three holds
pub record IsWrong (page_size : ℕ) (image : Image) : Type 0 where
  pub k : ℕ
  pub named : IsLogFor page_size image.log
  pub replays : Replays page_size image.log k
  pub wrong : IsWrongAt page_size image k

-- the log is not what a stop leaves
abbrev pub IsDamaged : Image → Type 0
IsDamaged image = HasBrokenHeader image.log ⊎ (HasLostHeader image.log ⊎ ((page_size : ℕ) × IsWrong page_size image))
