-- Frames of a log, by their headers.
use Rattle.std.proofs.Common.{◌≡◌, ◌≢◌, ◌⊎◌, ◌↔◌, ◌+◌, ◌-◌, ◌/◌, ◌<◌, ◌≤◌, ◌∙◌, ℕ, suc, Bool, true, false, IsTrue, List, length, slice_index, refl, sym, ap, subst, subst₂, inl, inr, arith, add-zero, add-one}
use Rattle.std.proofs.lemmas.Bool.{cases_lt}
use Rattle.sqlite_wal.specs.Format.{part, be32, is_big, frame_sum, page_number, count_page, stored_sum, IsSigned}
use Rattle.sqlite_wal.specs.Recovery.{Image, frame_at, frame, header, sum_before, IsLogFor, Replays, AreFramesOf}
use Rattle.sqlite_wal.proofs.PartLemmas.{slice_index-part, part-part, frames_len-le}
use Rattle.sqlite_wal.proofs.FormatLemmas.{be32-part}
use Rattle.sqlite_wal.proofs.RecoveryLemmas.{replays_once}
use Rattle.ee_store_files.specs.Damage.{BeginsAsLog, HasLostHeader, IsOpenAt, EndsOne, HasTwoMore, IsCountAt, IsAnyCountAt, IsUnwritten, HasCountBehind, number_at, page_at, IsSummed, LacksSum, size_after, IsWrongAt, IsDamaged}
use Rattle.ee_store_files.specs.Inner.Damage.{IsFrontOf, IsFrameAt, IsLateCountAt, AreNumbersOf, IsReplaced}

module _ {page_size i : ℕ} {log front : List ℕ} (is : IsFrontOf page_size log i front) where
  at : ℕ
  at = frame_at page_size i

  pub gate_of_frame : slice_index front 8 ≡ slice_index log (frame_at page_size i + 8)
  gate_of_frame = ap (λ (b : List ℕ). slice_index b 8) is.read ∙ slice_index-part log (frame_at page_size i) 24 8 (omega arith)

  pub salt_of_frame : part front 8 8 ≡ part log (frame_at page_size i + 8) 8
  salt_of_frame = ap (λ (b : List ℕ). part b 8 8) is.read ∙ part-part log (frame_at page_size i) 24 8 8 (omega (arith, is.within)) (omega arith)

  pub size_of_frame : be32 front 4 ≡ be32 log (frame_at page_size i + 4)
  size_of_frame = ap (λ (b : List ℕ). be32 b 4) is.read ∙ be32-part log (frame_at page_size i) 24 4 (omega arith)

pub key_of_head : (log head : List ℕ) → head ≡ header log → slice_index head 16 ≡ slice_index log 16
key_of_head log head is = ap (λ (b : List ℕ). slice_index b 16) is ∙ slice_index-part log 0 32 16 (omega arith)

pub salt_of_head : (log head : List ℕ) → head ≡ header log → 32 ≤ length log → part head 16 8 ≡ part log 16 8
salt_of_head log head is long = ap (λ (b : List ℕ). part b 16 8) is ∙ part-part log 0 32 16 8 (omega arith) (omega arith)

-- a frame that ends a transaction, by its header
pub ends_by : (page_size i : ℕ) (log front head : List ℕ) → IsFrontOf page_size log i front → head ≡ header log
    → ((part front 8 8 ≡ part head 16 8) × (be32 front 4 ≢ 0)) ↔ EndsOne page_size log i
ends_by page_size i log front head is head_is =
    let salts = salt_of_frame is in
    let ours = salt_of_head log head head_is (omega (arith, is.within)) in
    let size = size_of_frame is in (
      λ both. record { salt = sym salts ∙ both.0 ∙ ours; size = λ none. both.1 (size ∙ none) },
      λ ends. (salts ∙ ends.salt ∙ sym ours, λ none. ends.size (sym size ∙ none)),
    )

-- the gate of a frame, by its header
pub open_by : (page_size i : ℕ) (log front head : List ℕ) → IsFrontOf page_size log i front → head ≡ header log → slice_index front 8 ≡ slice_index head 16 → IsOpenAt page_size log i
open_by page_size i log front head is head_is same = record { within = is.within; gate = sym (gate_of_frame is) ∙ same ∙ key_of_head log head head_is }

pub shut_by : (page_size i : ℕ) (log front head : List ℕ) → IsFrontOf page_size log i front → head ≡ header log → slice_index front 8 ≢ slice_index head 16 → ¬ IsOpenAt page_size log i
shut_by page_size i log front head is head_is other it = other (gate_of_frame is ∙ it.gate ∙ sym (key_of_head log head head_is))

-- ---- a walk over frames

abbrev pub AreOpen : ℕ → List ℕ → ℕ → ℕ → Type 0
AreOpen page_size log from to = (i : ℕ) → from ≤ i → i < to → IsOpenAt page_size log i

-- one of these frames ends a transaction
pub record HasOne (page_size : ℕ) (log : List ℕ) (from to : ℕ) : Type 0 where
  pub at : ℕ
  pub low : from ≤ at
  pub high : at < to
  pub ends : EndsOne page_size log at
  pub alone : (i : ℕ) → from ≤ i → i < to → EndsOne page_size log i → i ≡ at

-- none of these frames ends a transaction, or one does
abbrev pub HasSeen : Bool → ℕ → List ℕ → ℕ → ℕ → Type 0
HasSeen false page_size log from to = (i : ℕ) → from ≤ i → i < to → ¬ EndsOne page_size log i
HasSeen true page_size log from to = HasOne page_size log from to

-- what a walk knows of the frames that it has passed
pub record Walked (has_one : Bool) (page_size : ℕ) (log : List ℕ) (from to : ℕ) : Type 0 where
  pub are_open : AreOpen page_size log from to
  pub seen : HasSeen has_one page_size log from to

pub walk_begins : (page_size : ℕ) (log : List ℕ) (from : ℕ) → Walked false page_size log from from
walk_begins page_size log from = record { are_open = λ i low high. absurd (omega arith); seen = λ i low high. absurd (omega arith) }

opens_more : (page_size : ℕ) (log : List ℕ) (from to : ℕ) → AreOpen page_size log from to → IsOpenAt page_size log to → AreOpen page_size log from (to + 1)
opens_more page_size log from to all here i low high =
    elim (cases_lt i to) [ inl before ↦ all i low before | inr past ↦ (let same : to ≡ i = omega arith in subst (IsOpenAt page_size log) same here) ]

pub walk_passes : (has_one : Bool) (page_size : ℕ) (log : List ℕ) (from to : ℕ) → Walked has_one page_size log from to → IsOpenAt page_size log to → ¬ EndsOne page_size log to
    → Walked has_one page_size log from (to + 1)
walk_passes false page_size log from to it here none = record {
  are_open = opens_more page_size log from to it.are_open here;
  seen = λ i low high ends. elim (cases_lt i to) [ inl before ↦ it.seen i low before ends | inr past ↦ (let same : i ≡ to = omega arith in none (subst (EndsOne page_size log) same ends)) ];
}
walk_passes true page_size log from to it here none =
    let one : HasOne page_size log from to = it.seen in
    record {
      are_open = opens_more page_size log from to it.are_open here;
      seen = record {
        at = one.at;
        low = one.low;
        high = omega (arith, one.high);
        ends = one.ends;
        alone = λ i low high ends. elim (cases_lt i to) [ inl before ↦ one.alone i low before ends | inr past ↦ (let same : i ≡ to = omega arith in absurd (none (subst (EndsOne page_size log) same ends))) ];
      };
    }

pub walk_counts : (page_size : ℕ) (log : List ℕ) (from to : ℕ) → from ≤ to → Walked false page_size log from to → IsOpenAt page_size log to → EndsOne page_size log to
    → Walked true page_size log from (to + 1)
walk_counts page_size log from to order it here ends = record {
  are_open = opens_more page_size log from to it.are_open here;
  seen = record {
    at = to;
    low = order;
    high = omega arith;
    ends = ends;
    alone = λ i low high one. elim (cases_lt i to) [ inl before ↦ absurd (it.seen i low before one) | inr past ↦ omega arith ];
  };
}

pub walk_finds : (page_size : ℕ) (log : List ℕ) (from to : ℕ) → Walked true page_size log from to → IsOpenAt page_size log to → EndsOne page_size log to → HasTwoMore page_size log from
walk_finds page_size log from to it here ends =
    let one : HasOne page_size log from to = it.seen in
    record {
      first = one.at;
      second = to;
      behind = one.low;
      later = one.high;
      is_open = λ i low high. opens_more page_size log from to it.are_open here i low (omega arith);
      ends_first = one.ends;
      ends_second = ends;
    }

ends_none : (has_one : Bool) (page_size : ℕ) (log : List ℕ) (from to : ℕ) → HasSeen has_one page_size log from to → (two : HasTwoMore page_size log from) → ¬ (two.second < to)
ends_none false page_size log from to seen two before = seen two.second (omega (arith, two.behind, two.later)) before two.ends_second
ends_none true page_size log from to seen two before =
    let one : HasOne page_size log from to = seen in
    let a = one.alone two.first two.behind (omega (arith, two.later)) two.ends_first in
    let b = one.alone two.second (omega (arith, two.behind, two.later)) before two.ends_second in
    absurd (omega (arith, a, b, two.later))

pub walk_ends : (has_one : Bool) (page_size : ℕ) (log : List ℕ) (from to : ℕ) → from ≤ to → Walked has_one page_size log from to → ¬ IsOpenAt page_size log to → ¬ HasTwoMore page_size log from
walk_ends has_one page_size log from to order it shut two =
    elim (cases_lt two.second to) [
      | inl low ↦ ends_none has_one page_size log from to it.seen two low
      | inr high ↦ shut (two.is_open to order high)
    ]

-- ---- counts

-- whether a frame is a count, by its bytes and by those of the frame before it
pub count_by : (page_size j : ℕ) (log head before bytes : List ℕ) → IsFrameAt page_size log j before → IsFrameAt page_size log (suc j) bytes → head ≡ header log
    → ((frame_sum (is_big head) (stored_sum before 16) bytes ≡ stored_sum bytes 16) × (be32 bytes 0 ≡ count_page)) ↔ IsAnyCountAt page_size log (suc j)
count_by page_size j log head before bytes was is head_is =
    let number : be32 bytes 0 ≡ number_at page_size log (suc j) =
    ap (λ (b : List ℕ). be32 b 0) is.read ∙ be32-part log (frame_at page_size (suc j)) (24 + page_size) 0 (omega arith) ∙ ap (be32 log) (add-zero (frame_at page_size (suc j))) in
    let there : (frame_sum (is_big head) (stored_sum before 16) bytes ≡ stored_sum bytes 16)
    ≡ (frame_sum (is_big (header log)) (sum_before page_size log (suc j)) (frame page_size log (suc j)) ≡ stored_sum (frame page_size log (suc j)) 16) =
    rw (head_is, was.read, is.read) refl in (
      λ both. record { within = is.within; sum = subst (λ (T : Type 0). T) there both.0; number = sym number ∙ both.1 },
      λ it. (subst (λ (T : Type 0). T) (sym there) it.sum, number ∙ it.number),
    )

-- the same of frame i, behind a frame with this checksum that leaves more pages than the file has if `is_any`
pub count_at : (is_doubted is_any : Bool) (in_file page_size i j : ℕ) (log head before bytes : List ℕ) (sum : ℕ × ℕ) → j + 1 ≡ i → sum ≡ stored_sum before 16
    → IsTrue is_any ↔ (IsTrue is_doubted × (in_file < be32 before 4)) → IsFrameAt page_size log j before → IsFrameAt page_size log i bytes → head ≡ header log
    → ((frame_sum (is_big head) sum bytes ≡ stored_sum bytes 16) × (be32 bytes 0 ≡ count_page) × ((part bytes 8 8 ≡ part head 16 8) ⊎ IsTrue is_any))
    ↔ IsLateCountAt is_doubted in_file page_size log i
count_at is_doubted is_any in_file page_size i j log head before bytes sum next sum_is any was is head_is =
    let at : suc j ≡ i = sym (add-one j) ∙ next in
    let here : IsFrameAt page_size log (suc j) bytes = subst (λ n. IsFrameAt page_size log n bytes) (sym at) is in
    let counts : ((frame_sum (is_big head) sum bytes ≡ stored_sum bytes 16) × (be32 bytes 0 ≡ count_page)) ↔ IsAnyCountAt page_size log i =
    subst₂ (λ (n : ℕ) (s : ℕ × ℕ). ((frame_sum (is_big head) s bytes ≡ stored_sum bytes 16) × (be32 bytes 0 ≡ count_page)) ↔ IsAnyCountAt page_size log n) at (sym sum_is)
    (count_by page_size j log head before bytes was here head_is) in
    let last : i - 1 ≡ j = omega (arith, next) in
    let size : be32 before 4 ≡ size_after page_size log i =
    ap (λ (b : List ℕ). be32 b 4) was.read ∙ be32-part log (frame_at page_size j) (24 + page_size) 4 (omega arith) ∙ ap (λ (n : ℕ). be32 log (frame_at page_size n + 4)) (sym last) in
    let salt : (part bytes 8 8 ≡ part head 16 8) ≡ (part (frame page_size log i) 8 8 ≡ part (header log) 16 8) = rw (head_is, is.read) refl in (
      λ it. record {
        count = counts.0 (it.0, it.1);
        ours = elim it.2 [
          | inl same ↦ inl (subst (λ (T : Type 0). T) salt same)
          | inr yes' ↦ (let both = any.0 yes' in inr (both.0, subst (λ (n : ℕ). in_file < n) size both.1))
        ];
      },
      λ it. let both = counts.1 it.count in (
        both.0,
        both.1,
        elim it.ours [
          | inl same ↦ inl (subst (λ (T : Type 0). T) (sym salt) same)
          | inr more ↦ inr (any.1 (more.0, subst (λ (n : ℕ). in_file < n) (sym size) more.1))
        ],
      ),
    )

-- none of the frames between these two is a late count
abbrev pub AreUncounted : Bool → ℕ → ℕ → List ℕ → ℕ → ℕ → Type 0
AreUncounted is_doubted in_file page_size log from to = (i : ℕ) → from < i → i < to → ¬ IsLateCountAt is_doubted in_file page_size log i

pub counts_none : (is_doubted : Bool) (in_file page_size : ℕ) (log : List ℕ) (from to : ℕ) → AreUncounted is_doubted in_file page_size log from to
    → length log < frame_at page_size to + (24 + page_size) → ¬ ((i : ℕ) × (from < i) × IsLateCountAt is_doubted in_file page_size log i)
counts_none is_doubted in_file page_size log from to none ends (i, late, is) =
    elim (cases_lt i to) [
      | inl low ↦ none i late low is
      | inr high ↦ (let above = frames_len-le page_size to i high in let within = is.count.within in absurd (omega arith))
    ]

-- a count with the log's salt passes
count_passes : (page_size i : ℕ) (log : List ℕ) → IsAnyCountAt page_size log i → part (frame page_size log i) 8 8 ≡ part (header log) 16 8 → IsCountAt page_size log i
count_passes page_size i log it salt =
    let number : page_number (frame page_size log i) ≡ count_page =
    be32-part log (frame_at page_size i) (24 + page_size) 0 (omega arith) ∙ ap (be32 log) (add-zero (frame_at page_size i)) ∙ it.number in
    (record { within = it.within; passes = record { salt = salt; page = omega (arith, number); sum = it.sum } }, it.number)

pub any_count : (page_size i : ℕ) (log : List ℕ) → IsCountAt page_size log i → IsAnyCountAt page_size log i
any_count page_size i log it = record { within = it.0.within; sum = it.0.passes.sum; number = it.1 }

-- the late counts are those that stand behind, if the header is doubted as it should be
pub counts_behind : (is_doubted : Bool) (page_size : ℕ) (image : Image) (k : ℕ) → IsTrue is_doubted ↔ ((k ≡ 0) × IsUnwritten image.log)
    → ((i : ℕ) × (k < i) × IsLateCountAt is_doubted (length image.db / page_size) page_size image.log i) ↔ HasCountBehind page_size image k
counts_behind is_doubted page_size image k doubted = (
  λ late. let (i, past, it) = late in
      elim it.ours [
        | inl salt ↦ inl (i, past, count_passes page_size i image.log it.count salt)
        | inr more ↦ (let why = doubted.0 more.0 in inr (record { none = why.0; unwritten = why.1; at = i; later = past; count = it.count; more = more.1 }))
      ],
  λ behind. elim behind [
    | inl later ↦ (let (i, past, it) = later in (i, past, record { count = any_count page_size i image.log it; ours = inl it.0.passes.salt }))
    | inr older ↦ (older.at, older.later, record { count = older.count; ours = inr (doubted.1 (older.none, older.unwritten), older.more) })
  ],
)

-- ---- pages without checksums

pub lacks_by : (page_size : ℕ) (log numbers : List ℕ) (i : ℕ) → AreNumbersOf page_size log numbers → i < length numbers → slice_index numbers i ≤ size_after page_size log (length numbers)
    → ¬ IsSummed page_size (page_at page_size log i) → ¬ IsReplaced numbers i → LacksSum page_size log (length numbers) i
lacks_by page_size log numbers i are low page unsummed alone = record {
  kept = subst (λ n. n ≤ size_after page_size log (length numbers)) (are i low) page;
  last = λ j high within same. alone (j, high, within, are j within ∙ same ∙ sym (are i low));
  lacks = unsummed;
}

pub not_replaced : (page_size : ℕ) (log numbers : List ℕ) (i : ℕ) → AreNumbersOf page_size log numbers → i < length numbers → LacksSum page_size log (length numbers) i → ¬ IsReplaced numbers i
not_replaced page_size log numbers i are low it (j, high, within, same) = it.last j high within (sym (are j within) ∙ same ∙ are i low)

pub numbers_of : (page_size : ℕ) (log numbers : List ℕ) → AreFramesOf page_size log numbers → AreNumbersOf page_size log numbers
numbers_of page_size log numbers frames i low =
    frames.1 i low ∙ be32-part log (frame_at page_size i) (24 + page_size) 0 (omega arith) ∙ ap (be32 log) (add-zero (frame_at page_size i))

-- ---- the whole log

pub first_byte : (log : List ℕ) → IsSigned (header log) → slice_index log 0 ≡ 0x37
first_byte log signed = sym (slice_index-part log 0 32 0 (omega arith)) ∙ signed.first

pub not_begun : (image : Image) → ¬ BeginsAsLog image.log → ¬ HasLostHeader image.log → ¬ IsDamaged image
not_begun image lacks unlost (inl broken) = lacks broken.0
not_begun image lacks unlost (inr (inl lost)) = unlost lost
not_begun image lacks unlost (inr (inr found')) =
    elim (cases_lt (length image.log) 56) [
      | inl short ↦ found'.1.named.0 (inl short)
      | inr long ↦ found'.1.named.0 (inr (λ signed. lacks (omega arith, first_byte image.log signed)))
    ]

pub named_by : (log : List ℕ) (page_size : ℕ) → BeginsAsLog log → IsSigned (header log) → page_size ≡ be32 (header log) 8 → IsLogFor page_size log
named_by log page_size begins signed size =
    (λ ignored. elim ignored [ inl short ↦ absurd (omega (arith, short, begins.0)) | inr unsigned ↦ unsigned signed ], sym (size ∙ be32-part log 0 32 8 (omega arith)))

pub damaged_if : (page_size : ℕ) (image : Image) (k : ℕ) → IsSigned (header image.log) → IsLogFor page_size image.log → Replays page_size image.log k
    → IsWrongAt page_size image k ↔ IsDamaged image
damaged_if page_size image k signed named replays = (
  λ wrong. inr (inr (page_size, record { k = k; named = named; replays = replays; wrong = wrong })),
  λ damaged. elim damaged [
    | inl broken ↦ absurd (broken.1 signed)
    | inr (inl lost) ↦ absurd (lost.1 (first_byte image.log signed))
    | inr (inr found) ↦
        let size : page_size ≡ found.0 = sym named.1 ∙ found.1.named.1 in
        let there : Replays page_size image.log found.1.k = subst (λ n. Replays n image.log found.1.k) (sym size) found.1.replays in
        let same : found.1.k ≡ k = replays_once page_size image.log found.1.k k there replays in
        subst₂ (λ n j. IsWrongAt n image j) (sym size) same found.1.wrong
  ],
)
