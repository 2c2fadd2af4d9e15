-- A transaction that is being committed brings no later count.
use Rattle.std.proofs.Common.{◌≡◌, ◌≢◌, ◌+◌, ◌<◌, ◌≤◌, ◌∙◌, ℕ, zero, suc, List, length, slice_index, slice_set, IsTrue, refl, sym, ap, ap₂, subst, subst₂, inl, inr, arith, add-zero, get_or-set_other, length-set}
use Rattle.std.proofs.lemmas.Bool.{cases_order}
use Rattle.sqlite_disk.specs.declared.Disk.{Ghosts}
use Rattle.sqlite_disk.specs.Disk.{Torn}
use Rattle.sqlite_wal.specs.declared.log.Log.{Log}
use Rattle.sqlite_wal.specs.declared.recover.Mark.{Mark}
use Rattle.sqlite_wal.specs.Format.{be32, count_page, page_number, IsFrame}
use Rattle.sqlite_wal.specs.Files.{IsSound}
use Rattle.sqlite_wal.specs.Gate.{IsFaint}
use Rattle.sqlite_wal.specs.Index.{gate_of, key_of, opened}
use Rattle.sqlite_wal.specs.Log.{state, durable, newest, frames, committed_frames, end_of}
use Rattle.sqlite_wal.specs.Recovery.{frame_at, frame, header, sum_before}
use Rattle.sqlite_wal.proofs.FormatLemmas.{be32-part}
use Rattle.sqlite_wal.proofs.LogLemmas.{sound_of, durable_frames}
use Rattle.sqlite_wal.proofs.PartLemmas.{slice_index-part, part_above, part_below, frames_len-zero, frames_len-lt}
use Rattle.sqlite_wal.proofs.StateLemmas.{clean_of, ready_of}
use Rattle.ee_store_files.specs.Damage.{IsCountAt, IsUnwritten, number_at}
use Rattle.ee_store_files.specs.Stops.{HasPages, CountsNoneSynced, CountsNoneAtOnce, Begins, BeginsSynced}

number_in : (n i : ℕ) (log : List ℕ) → page_number (frame n log i) ≡ number_at n log i
number_in n i log = be32-part log (frame_at n i) (24 + n) 0 (omega arith) ∙ ap (be32 log) (add-zero (frame_at n i))

-- the salt of a count begins with the key
key_of_count : (n i : ℕ) (log : List ℕ) → IsCountAt n log i → slice_index log (frame_at n i + 8) ≡ slice_index log 16
key_of_count n i log it =
    let front = slice_index-part (frame n log i) 8 8 0 (omega arith) ∙ slice_index-part log (frame_at n i) (24 + n) 8 (omega arith) in
    let head = slice_index-part (header log) 16 8 0 (omega arith) ∙ slice_index-part log 0 32 16 (omega arith) in
    sym front ∙ ap (λ (b : List ℕ). slice_index b 0) it.0.passes.salt ∙ head

-- only the gate of frame k changed
module _ (n k : ℕ) (old new : List ℕ) (within : frame_at n k + 9 ≤ length old) (torn : Torn (frame_at n k + 8) 1 old new) where
  same_length : length new ≡ length old
  same_length = omega (arith, within, torn.no_shorter, torn.no_longer)

  same_frame : (i : ℕ) → k < i → frame_at n i + (24 + n) ≤ length old → frame n new i ≡ frame n old i
  same_frame i past there =
      let above = frames_len-lt n k i past in
      part_above old new (frame_at n k + 8) 1 (frame_at n i) (24 + n) torn (omega (arith, above)) there

  same_number : (i : ℕ) → k < i → frame_at n i + (24 + n) ≤ length old → number_at n new i ≡ number_at n old i
  same_number i past there = sym (number_in n i new) ∙ ap page_number (same_frame i past there) ∙ number_in n i old

  -- a count behind the next frame was there
  count_was : (i : ℕ) → k + 1 < i → IsCountAt n new i → IsCountAt n old i
  count_was zero far it = absurd (omega arith)
  count_was (suc j) far it =
      let there : frame_at n (suc j) + (24 + n) ≤ length old = omega (arith, it.0.within, same_length) in
      let up = frames_len-lt n j (suc j) (omega arith) in
      let head : header new ≡ header old = part_below old new (frame_at n k + 8) 1 0 32 torn (omega arith) (omega (arith, within)) in
      let before : frame n new j ≡ frame n old j = same_frame j (omega (arith, far)) (omega (arith, there, up)) in
      let here : frame n new (suc j) ≡ frame n old (suc j) = same_frame (suc j) (omega (arith, far)) there in
      let passes : IsFrame (header new) (sum_before n new (suc j)) (frame n new (suc j)) ≡ IsFrame (header old) (sum_before n old (suc j)) (frame n old (suc j)) = rw (head, before, here) refl in
      (record { within = there; passes = subst (λ (T : Type 0). T) passes it.0.passes }, sym (same_number (suc j) (omega (arith, far)) there) ∙ it.1)

-- a byte that is set
set_is_torn : (log : List ℕ) (at key : ℕ) → at < length log → Torn at 1 log (slice_set log at key)
set_is_torn log at key within =
    let len = length-set log at key in
    record {
      no_shorter = omega (arith, len);
      no_longer = omega (arith, len);
      below = λ i there low. get_or-set_other log at i key 0 (omega (arith, low));
      above = λ i there high. get_or-set_other log at i key 0 (omega (arith, high));
    }

-- a number below that of a count, of which some bytes are 0
faint_number : (whole file : List ℕ) (from to at : ℕ) → IsFaint whole file from to → from ≤ at → at + 4 ≤ to → be32 whole at < count_page → be32 file at ≢ count_page
unfolding be32
faint_number whole file from to at faint low high small is =
    let few = λ (i : ℕ) (past : at ≤ i) (below : i < at + 4).
    let byte : slice_index file i < 256 = elim (faint.each i (omega arith) (omega arith)) [
      | inl none ↦ omega (arith, none)
      | inr same ↦ omega (arith, same, faint.small i (omega arith) (omega arith))
    ] in byte in
    let b = few (at + 1) (omega arith) (omega arith) in
    let c = few (at + 2) (omega arith) (omega arith) in
    let d = few (at + 3) (omega arith) (omega arith) in
    elim (faint.each at low (omega arith)) [ inl none ↦ omega (arith, none, b, c, d, is) | inr same ↦ omega (arith, same, b, c, d, is, small) ]

-- ---- the log that is open

module _ {D : Type 0} {g : Ghosts D} (it : Log D g) (is_open : IsTrue (state it).is_open) where
  s : IsSound (durable it) (newest it) (g.seen it.log) (g.seen it.db) (g.may_leave it.log) (g.may_leave it.db)
  s = sound_of it is_open

  abbrev log : List ℕ
  log = g.seen it.log

  abbrev whole : List ℕ
  whole = opened (durable it) log

  gate_is : gate_of (durable it) ≡ frame_at it.page_size (committed_frames it) + 8
  gate_is = ap (λ (k : ℕ). frame_at it.page_size k + 8) (durable_frames it (ready_of (state it) is_open))

  opens : Torn (gate_of (durable it)) 1 log whole
  opens = set_is_torn log (gate_of (durable it)) (key_of (durable it)) s.ready.shut.within

  -- a frame behind the first that is being committed has the number of its page
  number_of : HasPages it → (i : ℕ) → committed_frames it < i → i < frames it → number_at it.page_size whole i < count_page
  number_of pages i past low = subst (λ (n : ℕ). n < count_page) (s.ready.hidden.numbers i low ∙ number_in it.page_size i whole) (pages i past low)

  hidden_within : (i : ℕ) → i < frames it → frame_at it.page_size i + (24 + it.page_size) ≤ length log
  hidden_within i low = let len = length-set log (gate_of (durable it)) (key_of (durable it)) in omega (arith, (s.ready.hidden.committed.valid i low).within, len)

  key_is : slice_index log 16 ≡ key_of (durable it)
  key_is = sym (slice_index-part log 0 32 16 (omega arith)) ∙ ap (λ (b : List ℕ). slice_index b 16) (sym s.ready.shown.head)

pub none_synced : {D : Type 0} (g : Ghosts D) → CountsNoneSynced g
none_synced g it is_open pending pages only none before c may torn (i, past, is) =
    let sound = s it is_open in
    let n = it.page_size in
    let seen = log it is_open in
    let k = committed_frames it in
    let at = gate_is it is_open in
    let now : Torn (frame_at n k + 8) 1 seen c = subst₂ (λ (a : ℕ) (b : List ℕ). Torn a 1 b c) at (only before may) torn in
    let within : frame_at n k + 9 ≤ length seen = omega (arith, sound.ready.shut.within, at) in
    let len = same_length n k seen c within now in
    let there : frame_at n i + (24 + n) ≤ length seen = omega (arith, is.0.within, len) in
    let behind = frames_len-lt n k i past in
    elim (cases_order i (frames it)) [
      | inl end ↦
          let shut = (pending.1 (clean_of (state it) is_open)).differs in
          let gate : slice_index (whole it is_open) (frame_at n i + 8) ≡ slice_index seen (frame_at n i + 8) =
          (opens it is_open).above (frame_at n i + 8) (omega (arith, there)) (omega (arith, behind, at)) in
          let same : slice_index c (frame_at n i + 8) ≡ slice_index seen (frame_at n i + 8) = now.above (frame_at n i + 8) (omega (arith, there)) (omega (arith, behind)) in
          let key : slice_index c 16 ≡ key_of (durable it) = now.below 16 (omega (arith, there)) (omega arith) ∙ key_is it is_open in
          let is_shut : slice_index (whole it is_open) (frame_at n i + 8) ≢ key_of (durable it) = subst (λ (m : ℕ). slice_index (whole it is_open) (frame_at n m + 8) ≢ key_of (durable it)) (sym end) shut in
          is_shut (gate ∙ sym same ∙ key_of_count n i c is ∙ key)
      | inr (inl inside) ↦
          let same = same_number n k seen c within now i past there in
          let opened_same = same_number n k seen (whole it is_open) within (subst (λ (a : ℕ). Torn a 1 seen (whole it is_open)) at (opens it is_open)) i past there in
          omega (arith, number_of it is_open pages i past inside, same, opened_same, is.1)
      | inr (inr later) ↦ none (i, later, count_was n k seen c within now i (omega (arith, later, pending.0)) is)
    ]

pub none_at_once : {D : Type 0} (g : Ghosts D) → CountsNoneAtOnce g
none_at_once g old it clean landed size mixes key zeros is_open pending pages none before c may torn (i, past, is) =
    let sound = s it is_open in
    let n = it.page_size in
    let seen = log it is_open in
    let k = committed_frames it in
    let at = gate_is it is_open in
    let stops = sound.log_safe before may in
    let now : Torn (frame_at n k + 8) 1 before c = subst (λ (a : ℕ). Torn a 1 before c) at torn in
    let within : frame_at n k + 9 ≤ length before = omega (arith, stops.shut.within, at) in
    let len = same_length n k before c within now in
    let there : frame_at n i + (24 + n) ≤ length before = omega (arith, is.0.within, len) in
    let behind = frames_len-lt n k i past in
    let first : k ≡ frames old = ap (λ (m : Mark). m.frames) landed.head ∙ clean in
    let faint : IsFaint (whole it is_open) before (frame_at n k) (end_of it + 9) =
    subst (λ (from : ℕ). IsFaint (whole it is_open) before from (end_of it + 9)) (ap₂ frame_at (sym size) (sym first)) (landed.faint (clean_of (state it) is_open) mixes zeros before may) in
    elim (cases_order i (frames it)) [
      | inl end ↦
          let ends : frame_at n i ≡ end_of it = ap (frame_at n) end in
          let tail : slice_index seen (frame_at n i + 8) ≡ 0 = (landed.tail key).1 (frame_at n i + 8) (omega (arith, ends)) (omega (arith, ends)) in
          let blank : slice_index (whole it is_open) (frame_at n i + 8) ≡ 0 =
          get_or-set_other seen (gate_of (durable it)) (frame_at n i + 8) (key_of (durable it)) 0 (omega (arith, behind, at)) ∙ tail in
          let shut : slice_index before (frame_at n i + 8) ≡ 0 = elim (faint.each (frame_at n i + 8) (omega (arith, behind)) (omega (arith, ends))) [ inl zero' ↦ zero' | inr same ↦ same ∙ blank ] in
          let same : slice_index c (frame_at n i + 8) ≡ slice_index before (frame_at n i + 8) = now.above (frame_at n i + 8) (omega (arith, there)) (omega (arith, behind)) in
          let head : slice_index before 16 ≡ slice_index seen 16 =
          sym (slice_index-part before 0 32 16 (omega arith)) ∙ ap (λ (b : List ℕ). slice_index b 16) stops.shares.head ∙ slice_index-part seen 0 32 16 (omega arith) in
          let ours : slice_index c 16 ≡ key_of (durable old) =
          now.below 16 (omega (arith, there)) (omega arith) ∙ head ∙ key_is it is_open ∙ ap (λ (m : Mark). slice_index m.head 16) landed.head in
          key (sym ours ∙ sym (key_of_count n i c is) ∙ same ∙ shut)
      | inr (inl inside) ↦
          let same = same_number n k before c within now i past there in
          let below = frames_len-lt n i (frames it) inside in
          faint_number (whole it is_open) before (frame_at n k) (end_of it + 9) (frame_at n i) faint (omega (arith, behind)) (omega (arith, below)) (number_of it is_open pages i past inside) (sym same ∙ is.1)
      | inr (inr later) ↦ none before may (i, later, count_was n k before c within now i (omega (arith, later, pending.0)) is)
    ]

-- ---- the first frame

-- a log whose first frame has the number of a page isn't one whose first frame isn't written
is_written : (n : ℕ) (whole c : List ℕ) → page_number (frame n whole 0) ≢ 0 → ((x : ℕ) → x < 4 → slice_index c (32 + x) ≡ slice_index whole (32 + x)) → ¬ IsUnwritten c
unfolding be32
is_written n whole c page same unwritten =
    let at : frame_at n 0 + 0 ≡ 32 = omega (arith, frames_len-zero n) in
    let number : page_number (frame n whole 0) ≡ be32 whole 32 = be32-part whole (frame_at n 0) (24 + n) 0 (omega arith) ∙ ap (be32 whole) at in
    let zero' = λ (x : ℕ) (low : x < 4). sym (same x low) ∙ unwritten.1 x (omega (arith, low)) in
    page (omega (arith, number, zero' 0 (omega arith), zero' 1 (omega arith), zero' 2 (omega arith), zero' 3 (omega arith)))

module _ {D : Type 0} {g : Ghosts D} (it : Log D g) (is_open : IsTrue (state it).is_open) where
  -- a byte of the first frame's number, before its gate
  number_byte : (x : ℕ) → x < 4 → 32 + x < gate_of (durable it)
  number_byte x low = omega (arith, low, gate_is it is_open)

pub begins : {D : Type 0} (g : Ghosts D) → Begins g
begins g it is_open some before c may torn =
    let sound = s it is_open in
    let n = it.page_size in
    let seen = log it is_open in
    let stops = sound.log_safe before may in
    let k : length (durable it).numbers ≡ committed_frames it = durable_frames it (ready_of (state it) is_open) in
    let first : frame n before 0 ≡ frame n seen 0 = stops.shares.frames 0 (omega (arith, some, k)) in
    let page = (sound.ready.shown.committed.valid 0 (omega (arith, some, k))).passes.page in
    is_written n before c (λ none. page (ap page_number (sym first) ∙ none)) (λ x low. torn.below (32 + x) (omega (arith, low, stops.shut.within, number_byte it is_open x low)) (number_byte it is_open x low))

pub begins_synced : {D : Type 0} (g : Ghosts D) → BeginsSynced g
begins_synced g it is_open pending only before c may torn =
    let sound = s it is_open in
    let n = it.page_size in
    let page = (sound.ready.hidden.committed.valid 0 (omega (arith, pending.0))).passes.page in
    is_written n (whole it is_open) c page (λ x low.
    let below = number_byte it is_open x low in
    let then = torn.below (32 + x) (omega (arith, below, (sound.log_safe before may).shut.within)) below in
    then ∙ ap (λ (b : List ℕ). slice_index b (32 + x)) (only before may) ∙ sym ((opens it is_open).below (32 + x) (omega (arith, below, sound.ready.shut.within)) below))
