-- What a stop leaves of a log isn't damaged.
use Rattle.std.proofs.Common.{◌≡◌, ◌≢◌, ◌+◌, ◌-◌, ◌<◌, ◌≤◌, ◌∙◌, ℕ, zero, suc, List, length, slice_index, take, Some, refl, sym, ap, ap₂, subst, inl, inr, arith, add-zero, eqb-true, get_or-set_same, get_or-set_other}
use Rattle.std.proofs.lemmas.Bool.{cases_lt, cases_eq, cases_order, and_parts}
use Rattle.sqlite_wal.specs.Format.{be32, page_number}
use Rattle.sqlite_wal.specs.Gate.{IsFaint}
use Rattle.sqlite_wal.specs.Recovery.{Pages, frame_at, header, frame, page_count, pages_after, IsValid, IsCommitted, IsLogFor, Replays}
use Rattle.sqlite_wal.proofs.PartLemmas.{slice_index-part, frames_len-le, frames_len-lt}
use Rattle.sqlite_wal.proofs.FormatLemmas.{be32-part}
use Rattle.sqlite_disk.specs.declared.Disk.{Ghosts}
use Rattle.sqlite_disk.specs.Disk.{Torn}
use Rattle.sqlite_wal.specs.declared.recover.Mark.{Mark}
use Rattle.sqlite_wal.specs.Index.{Index, gate_of, key_of, opened, Shares}
use Rattle.sqlite_wal.specs.Log.{state, durable, newest, end_of}
use Rattle.sqlite_wal.proofs.StateLemmas.{clean_of, ready_of}
use Rattle.sqlite_wal.proofs.LogLemmas.{SeenMayStay, sound_of, durable_frames, log_signed}
use Rattle.sqlite_wal.proofs.FileLemmas.{content-frame, page_latest, pages_inside}
use Rattle.sqlite_pool.specs.Stored.{reserved, stored_size, sealed}
use Rattle.sqlite_pool.specs.Pool.{state as pool_state}
use Rattle.sqlite_pool.proofs.StateLemmas.{settled}
use Rattle.sqlite_wal.proofs.SoundLemmas.{opened_by_key}
use Rattle.sqlite_wal.proofs.RecoveryLemmas.{replays_once, replays_no_fewer, IsCommitted-shares, Shares-torn, Shares-trans, Shares-refl}
use Rattle.ee_store_files.specs.Damage.{IsOpenAt, EndsOne, HasTwoMore, page_at, size_after, HasUnsummed}
use Rattle.ee_store_files.specs.Stops.{IsHalfWritten, IsStoppedAt, SparesStopped, IsBroken, SparesOpen, SparesSynced, SparesOneSync, SparesSummed, SparesStore}
use Rattle.ee_store_files.proofs.Frames.{not_begun, first_byte}

-- a number of four bytes is 0 if each of them is, and only then
zero_bytes : (b : List ℕ) (at i : ℕ) → be32 b at ≡ 0 → i < 4 → slice_index b (at + i) ≡ 0
unfolding be32
zero_bytes b at zero none low = ap (slice_index b) (add-zero at) ∙ omega arith
zero_bytes b at (suc zero) none low = omega arith
zero_bytes b at (suc (suc zero)) none low = omega arith
zero_bytes b at (suc (suc (suc zero))) none low = omega arith
zero_bytes b at (suc (suc (suc (suc i)))) none low = absurd (omega arith)

zero_number : (b : List ℕ) (at : ℕ) → ((i : ℕ) → i < 4 → slice_index b (at + i) ≡ 0) → be32 b at ≡ 0
unfolding be32
zero_number b at all =
    let first : slice_index b at ≡ 0 = ap (slice_index b) (sym (add-zero at)) ∙ all 0 (omega arith) in
    let second : slice_index b (at + 1) ≡ 0 = all 1 (omega arith) in
    let third : slice_index b (at + 2) ≡ 0 = all 2 (omega arith) in
    let fourth : slice_index b (at + 3) ≡ 0 = all 3 (omega arith) in
    omega arith

-- a frame that recovery takes is open
pub opens_if_valid : (page_size : ℕ) (log : List ℕ) (i : ℕ) → IsValid page_size log i → IsOpenAt page_size log i
opens_if_valid page_size log i valid =
    let at = frame_at page_size i in
    let front = slice_index-part (frame page_size log i) 8 8 0 (omega arith) ∙ slice_index-part log at (24 + page_size) 8 (omega arith) in
    let head = slice_index-part (header log) 16 8 0 (omega arith) ∙ slice_index-part log 0 32 16 (omega arith) in
    record { within = valid.within; gate = sym front ∙ ap (λ (b : List ℕ). slice_index b 0) valid.passes.salt ∙ head }

-- where a gate is shut, recovery has stopped
stops_before : (page_size : ℕ) (log : List ℕ) (j m : ℕ) → Replays page_size log j → ¬ IsOpenAt page_size log m → j ≤ m
stops_before page_size log j m (inl ignored) shut = omega (arith, ignored.1)
stops_before page_size log j m (inr taken) shut =
    elim (cases_lt m j) [ inl low ↦ absurd (shut (opens_if_valid page_size log m (taken.0.valid m low))) | inr high ↦ high ]

-- two more transactions end before a gate that is shut
ends_before : (page_size : ℕ) (log : List ℕ) (j m : ℕ) → Replays page_size log j → ¬ IsOpenAt page_size log m → (two : HasTwoMore page_size log j) → two.second < m
ends_before page_size log j m replays shut two =
    elim (cases_lt two.second m) [ inl low ↦ low | inr high ↦ absurd (shut (two.is_open m (stops_before page_size log j m replays shut) high)) ]

faint_at : (whole log : List ℕ) (from to i : ℕ) → IsFaint whole log from to → from ≤ i → i < to → slice_index whole i ≡ 0 → slice_index log i ≡ 0
faint_at whole log from to i faint low high none = elim (faint.each i low high) [ inl zero' ↦ zero' | inr same ↦ same ∙ none ]

half_is_shut : (page_size : ℕ) (log : List ℕ) (k : ℕ) (it : IsHalfWritten page_size log k) → ¬ IsOpenAt page_size log it.m
half_is_shut page_size log k it open' =
    let order = frames_len-le page_size k it.m it.order in
    let none = faint_at it.whole log _ _ (frame_at page_size it.m + 8) it.faint (omega (arith, order)) (omega arith) it.behind in
    it.key (sym open'.gate ∙ none)

-- no frame of it ends a transaction but the last
half_ends_once : (page_size : ℕ) (log : List ℕ) (k i : ℕ) (it : IsHalfWritten page_size log k) → k ≤ i → i + 1 < it.m → ¬ EndsOne page_size log i
half_ends_once page_size log k i it low high ends =
    let at = frame_at page_size i in
    let from = frames_len-le page_size k i low in
    let to = frames_len-lt page_size i it.m (omega arith) in
    let inner : be32 it.whole (at + 4) ≡ 0 = sym (be32-part it.whole at (24 + page_size) 4 (omega arith)) ∙ it.inner i low high in
    ends.size (zero_number log (at + 4) (λ b few. faint_at it.whole log _ _ (at + 4 + b) it.faint (omega (arith, from)) (omega (arith, to)) (zero_bytes it.whole (at + 4) b inner few)))

pub not_two : (page_size : ℕ) (log : List ℕ) (k j : ℕ) → IsStoppedAt page_size log k → Replays page_size log j → ¬ HasTwoMore page_size log j
not_two page_size log k j it replays two =
    let order = replays_no_fewer page_size log k j it.committed replays in
    elim it.next [
      | inl shut ↦ absurd (omega (arith, order, two.behind, two.later, ends_before page_size log j k replays shut two))
      | inr half ↦
          let high = ends_before page_size log j half.m replays (half_is_shut page_size log k half) two in
          half_ends_once page_size log k two.first half (omega (arith, order, two.behind)) (omega (arith, two.later, high)) two.ends_first
    ]

pub spares_stopped : SparesStopped
spares_stopped image it damaged =
    elim it.log [
      | inl unbegun ↦ not_begun image unbegun.0 unbegun.1 damaged
      | inr stopped ↦
          let (page_size, k, at) = stopped in
          elim damaged [
            | inl broken ↦ broken.1 at.committed.head.signed
            | inr (inl lost) ↦ lost.1 (first_byte image.log at.committed.head.signed)
            | inr (inr found) ↦
                let (n, found') = found in
                elim found'.wrong [
                  | inl two ↦
                      let size : n ≡ page_size = sym found'.named.1 ∙ sym (be32-part image.log 0 32 8 (omega arith)) ∙ at.committed.head.size in
                      not_two page_size image.log k found'.k at (subst (λ x. Replays x image.log found'.k) size found'.replays) (subst (λ x. HasTwoMore x image.log found'.k) size two)
                  | inr (inl later) ↦ it.counts n found'.k found'.replays later
                  | inr (inr lack) ↦
                      let (i, low, lacks) = lack.1 in
                      lacks.lacks (it.sums lack.0 n found'.k found'.replays i low lacks.kept)
                ]
          ]
    ]

pub not_broken : (page_size : ℕ) (log : List ℕ) (k : ℕ) → IsStoppedAt page_size log k → ¬ IsBroken log
not_broken page_size log k at (inl broken) = broken.1 at.committed.head.signed
not_broken page_size log k at (inr found) =
    let (n, j, named, replays, two) = found in
    let size : n ≡ page_size = sym named.1 ∙ sym (be32-part log 0 32 8 (omega arith)) ∙ at.committed.head.size in
    not_two page_size log k j at (subst (λ x. Replays x log j) size replays) (subst (λ x. HasTwoMore x log j) size two)

-- ---- the log that is open

key_in : (it : Index) (log c : List ℕ) → Shares it.page_size (length it.numbers) log c → it.head ≡ header log → slice_index c 16 ≡ key_of it
key_in it log c shares head = sym (slice_index-part c 0 32 16 (omega arith)) ∙ ap (λ (b : List ℕ). slice_index b 16) (shares.head ∙ sym head)

-- it shares the frames of the index, and the gate behind them is shut
stops_shut : (it : Index) (log c : List ℕ) → IsCommitted it.page_size log (length it.numbers) → it.head ≡ header log → Shares it.page_size (length it.numbers) log c
    → slice_index c (gate_of it) ≢ key_of it → ¬ IsBroken c
stops_shut it log c committed head shares other =
    not_broken it.page_size c (length it.numbers) (record {
      committed = IsCommitted-shares it.page_size (length it.numbers) log c shares committed;
      next = inl (λ open'. other (open'.gate ∙ key_in it log c shares head));
    })

pub spares_open : {D : Type 0} (g : Ghosts D) → SparesOpen g
spares_open g it is_open c may =
    let s = sound_of it is_open in
    let stops = s.log_safe c may in
    stops_shut (durable it) (g.seen it.log) c s.ready.shown.committed s.ready.shown.head stops.shares stops.shut.differs

pub spares_synced : {D : Type 0} (g : Ghosts D) → SparesSynced g
spares_synced g it is_open pending only before c may torn =
    let s = sound_of it is_open in
    let log = g.seen it.log in
    let now = subst (λ (b : List ℕ). Torn (gate_of (durable it)) 1 b c) (only before may) torn in
    let committed = s.ready.shown.committed in
    let shares = Shares-torn it.page_size (length (durable it).numbers) (gate_of (durable it)) 1 log c committed (omega arith) now in
    elim (cases_eq (slice_index c (gate_of (durable it))) (key_of (durable it))) [
      | inr other ↦ stops_shut (durable it) log c committed s.ready.shown.head shares other
      | inl key ↦
          let whole = opened (durable it) log in
          let same : c ≡ whole = opened_by_key log c _ _ s.ready.shut.within now key in
          let hidden = s.ready.hidden in
          let here = Shares-refl it.page_size (length it.index) whole hidden.committed in
          subst (λ (b : List ℕ). ¬ IsBroken b) (sym same) (stops_shut (newest it) whole whole hidden.committed hidden.head here (pending.1 (clean_of (state it) is_open)).differs)
    ]

pub spares_one_sync : {D : Type 0} (g : Ghosts D) → SparesOneSync g
spares_one_sync g old it clean landed size mixes key zeros is_open pending before c may torn =
    let s = sound_of it is_open in
    let log = g.seen it.log in
    let n = it.page_size in
    let honest = clean_of (state it) is_open in
    let whole = opened (durable it) log in
    let gate = gate_of (durable it) in
    let first : it.durable.frames ≡ length old.index = ap (λ (m : Mark). m.frames) landed.head ∙ clean in
    let k : length (durable it).numbers ≡ length old.index = durable_frames it (ready_of (state it) is_open) ∙ first in
    let was = s.log_safe before may in
    let committed = s.ready.shown.committed in
    let then = IsCommitted-shares n (length (durable it).numbers) log before was.shares committed in
    let shares = Shares-trans n (length (durable it).numbers) log before c was.shares (Shares-torn n (length (durable it).numbers) gate 1 before c then (omega arith) torn) in
    let more = pending.0 in
    let longer : length (durable it).numbers < length it.index = omega (arith, more, first, k) in
    let past = frames_len-lt n _ _ longer in
    let faint = subst (λ (from : ℕ). IsFaint whole before from (end_of it + 9)) (ap₂ frame_at (sym size) (sym k)) (landed.faint honest mixes zeros before may) in
    elim (cases_eq (slice_index c gate) (key_of (durable it))) [
      | inr other ↦ stops_shut (durable it) log c committed s.ready.shown.head shares other
      | inl open' ↦ not_broken n c (length (durable it).numbers) (record {
        committed = IsCommitted-shares n (length (durable it).numbers) log c shares committed;
        next = inr (record {
          m = length it.index;
          order = omega (arith, longer);
          whole = whole;
          faint = record {
            within = omega (arith, faint.within, torn.no_shorter);
            small = faint.small;
            each = λ i from below. elim (cases_order i gate) [
              | inl here ↦ inr (rw here (open' ∙ sym (get_or-set_same log gate (key_of (durable it)) 0 s.ready.shut.within)))
              | inr (inl low) ↦ rw (torn.below i (omega (arith, faint.within)) low) (faint.each i from below)
              | inr (inr high) ↦ rw (torn.above i (omega (arith, faint.within)) (omega arith)) (faint.each i from below)
            ];
          };
          inner = λ i low high. landed.inner honest i (omega (arith, low, k)) high;
          behind = get_or-set_other log gate (gate_of (newest it)) _ 0 (omega (arith, past)) ∙ (landed.tail key).1 _ (omega arith) (omega arith);
          key = λ none. key (sym (ap (λ (m : Mark). slice_index m.head 16) landed.head) ∙ sym (key_in (durable it) log c shares s.ready.shown.head) ∙ none);
        });
      })
    ]

-- ---- the store that is open

count_at : (n : ℕ) (log db : List ℕ) (k : ℕ) → 0 < k → page_count n log db k ≡ size_after n log k
count_at n log db zero some = absurd (omega arith)
count_at n log db (suc j) some =
    let last : suc j - 1 ≡ j = omega arith in
    be32-part log (frame_at n j) (24 + n) 4 (omega arith) ∙ ap (λ (m : ℕ). be32 log (frame_at n m + 4)) (sym last)

numbered : (n : ℕ) (log : List ℕ) (k i : ℕ) → Replays n log k → i < k → 1 ≤ page_number (frame n log i)
numbered n log k i (inl ignored) low = absurd (omega (arith, ignored.1))
numbered n log k i (inr taken) low = let some = (taken.0.valid i low).passes.page in omega arith

pub spares_summed : SparesSummed
spares_summed size image pages summed it k replays (i, low, lacks) =
    let n = stored_size size in
    let log = image.log in
    let number = page_number (frame n log i) in
    let there : it.found.frames ≡ k = replays_once n log it.found.frames k it.found.replays replays in
    let page_of = λ (j : ℕ). be32-part log (frame_at n j) (24 + n) 0 (omega arith) ∙ ap (be32 log) (add-zero (frame_at n j)) in
    let last = λ (j : ℕ) (past : i < j) (in_k : j < k) (same : page_number (frame n log j) ≡ number). lacks.last j past in_k (sym (page_of j) ∙ same ∙ page_of i) in
    let latest = page_latest n log image.db number i k low refl last in
    let count : number ≤ page_count n log image.db k = omega (arith, count_at n log image.db k (omega arith), page_of i, lacks.kept) in
    let some = numbered n log k i replays low in
    let shown : it.stored number ≡ Some (page_at n log i) =
    ap (λ (p : Pages). p number) (sym it.found.gives) ∙ ap (λ (j : ℕ). pages_after n log image.db j number) there
    ∙ pages_inside n log image.db k number some count ∙ ap Some (latest ∙ content-frame n log i) in
    let eight : reserved size ≡ 8 = eqb-true _ _ summed in
    let used : n - 8 ≡ size = rw eight (omega arith) in
    lacks.lacks (subst (λ (m : ℕ). page_at n log i ≡ sealed (take m (page_at n log i))) (sym used) (it.sealed number (page_at n log i) shown))

pub named_size : (n m k : ℕ) (log : List ℕ) → IsLogFor n log → Replays m log k → n ≡ m
named_size n m k log named (inl ignored) = absurd (named.0 ignored.0)
named_size n m k log named (inr taken) = sym named.1 ∙ sym (be32-part log 0 32 8 (omega arith)) ∙ taken.0.head.size

pub spares_store : {D : Type 0} (g : Ghosts D) → SeenMayStay g → SparesStore g
unfolding pool_state
spares_store g stays it is_open image may sums counts damaged =
    let log = it.pool.backing.pager.log in
    let whole = spares_open g log (and_parts _ _ is_open).1 image.log may.1.0 in
    let found = (settled it.pool stays is_open).durable image may in
    elim damaged [
      | inl broken ↦ whole (inl broken)
      | inr (inl lost) ↦ lost.1 (log_signed log (and_parts _ _ is_open).1 image.log may.1.0).1
      | inr (inr both) ↦
          let (n, found') = both in
          elim found'.wrong [
            | inl two ↦ whole (inr (n, found'.k, found'.named, found'.replays, two))
            | inr (inl later) ↦ counts n found'.k found'.replays later
            | inr (inr lack) ↦
                let size = (pool_state it.pool).page_size in
                let same : n ≡ stored_size size = named_size n (stored_size size) found.found.frames image.log found'.named found.found.replays in
                spares_summed size image (pool_state it.pool).committed (sums lack.0) found found'.k
                (subst (λ m. Replays m image.log found'.k) same found'.replays) (subst (λ m. HasUnsummed m image.log found'.k) same lack.1)
          ]
    ]
