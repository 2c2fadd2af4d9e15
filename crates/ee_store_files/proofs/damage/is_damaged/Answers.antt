use Rattle.std.proofs.Common.{◌≡◌, ◌∙◌, ◌↔◌, IsTrue, List, ℕ, length, sym, ap, subst, subst₂, inl, inr, arith, le_refl}
use Rattle.std.proofs.lemmas.Bool.{false≢true, cases_Bool, and_parts}
use Rattle.std.proofs.lemmas.Result.{IfOk-weaker, IfErr-weaker}
use Rattle.sqlite_wal.specs.Format.{be32, IsSigned}
use Rattle.sqlite_wal.specs.Recovery.{header, Replays}
use Rattle.sqlite_wal.specs.PageSize.{bytes_of}
use Rattle.sqlite.specs.Files.{image_of}
use Rattle.ee_store_files.specs.Damage.{IsWrongAt}
use Rattle.ee_store_files.specs.Inner.Damage.{AreNumbersOf}
use Rattle.ee_store_files.proofs.Failing.{fails_beside, fails_wider, foreign_if, log_fails, replayed_within, too_long}
use Rattle.ee_store_files.proofs.Frames.{not_begun, named_by, numbers_of, damaged_if}
use Rattle.ee_store_files.proofs.damage.is_damaged.Goals as goal

pub returns-in-Ok-None-clause-ok : goal.returns-in-Ok-None-clause-ok
returns-in-Ok-None-clause-ok g c clean =
    let log = g.D.Disk.seen c.args.files.now.log in
    let read = (and_parts (g.D.Disk.is_clean c.has_lost_header.new.log) (g.D.Disk.is_clean c.args.files.now.db) clean).0 in
    let lacks = rw c.in-Ok-None.field-0-is at (c.in-Ok-None.ensures.ok (c.has_lost_header.ensures.same.clean read)) in
    let told = rw c.read_header.ensures.same.seen at (c.in-Ok.ensures.ok read) in (
      λ is. inr (inl (told.0 is)),
      λ damaged. elim (cases_Bool c.in-Ok.is_lost) [
        | inl yes' ↦ yes'
        | inr no' ↦ absurd (not_begun (image_of g.D.Disk c.args.files.now) lacks (λ lost. false≢true (sym no' ∙ told.1 lost)) damaged)
      ],
    )

pub is_wrong-requires-clause-numbers : goal.is_wrong-requires-clause-numbers
is_wrong-requires-clause-numbers g c clean =
    let size = bytes_of c.in-Some.size in
    let log = g.D.Disk.seen c.read_header.new.log in
    let numbers = numbers_of size log c.in-Ok-probe_frames.numbers.items (c.in-Ok-probe_frames.ensures.ok clean) in
    subst₂ (λ (l n : List ℕ). AreNumbersOf size l n) (sym c.probe_frames.ensures.same.seen) (sym c.as_slice.ensures.value) numbers

pub returns-in-Ok-probe_frames-clause-ok : goal.returns-in-Ok-probe_frames-clause-ok
returns-in-Ok-probe_frames-clause-ok g c =
    IfOk-weaker c.is_wrong.result _ _ (λ b told clean.
    let both = and_parts (g.D.Disk.is_clean c.is_wrong.new.files.log) (g.D.Disk.is_clean c.is_wrong.new.files.db) clean in
    let size = bytes_of c.in-Some.size in
    let log = g.D.Disk.seen c.args.files.now.log in
    let numbers = c.as_slice.result.now in
    let walked = c.is_wrong.ensures.log.clean both.0 in
    let begun = rw c.in-Ok-Some.field-0-is at (c.in-Ok-Some.ensures.ok (c.probe_frames.ensures.same.clean walked)) in
    let signed : IsSigned (header log) = subst IsSigned begun.1 (c.is_signed.ensures.0 c.if-not-is_signed.false) in
    let value : size ≡ be32 (header log) 8 = c.in-Some.ensures.value ∙ c.be32_at.ensures ∙ ap (λ (h : List ℕ). be32 h 8) begun.1 in
    let replays : Replays size log (length numbers) =
    subst₂ (λ (l n : List ℕ). Replays size l (length n)) c.read_header.ensures.same.seen (sym c.as_slice.ensures.value) (c.in-Ok-probe_frames.ensures.ok walked).0 in
    let same = c.probe_frames.ensures.same.seen ∙ c.read_header.ensures.same.seen in
    let iff = damaged_if size (image_of g.D.Disk c.args.files.now) (length numbers) signed (named_by log size begun.0 signed value) replays in
    let at = subst (λ (l : List ℕ). IsTrue b ↔ IsWrongAt size (record { log = l; db = g.D.Disk.seen c.args.files.now.db }) (length numbers)) same (told clean) in
    (λ is. iff.0 (at.0 is), λ damaged. at.1 (iff.1 damaged))) c.is_wrong.ensures.ok

pub returns-in-Ok-probe_frames-clause-cause : goal.returns-in-Ok-probe_frames-clause-cause
returns-in-Ok-probe_frames-clause-cause g c =
    IfErr-weaker c.is_wrong.result _ _ (λ e why clean.
    let both = and_parts (g.D.Disk.is_clean c.is_wrong.new.files.log) (g.D.Disk.is_clean c.is_wrong.new.files.db) clean in
    let size = bytes_of c.in-Some.size in
    let log = g.D.Disk.seen c.args.files.now.log in
    let numbers = c.as_slice.result.now in
    let walked = c.is_wrong.ensures.log.clean both.0 in
    let begun = rw c.in-Ok-Some.field-0-is at (c.in-Ok-Some.ensures.ok (c.probe_frames.ensures.same.clean walked)) in
    let signed : IsSigned (header log) = subst IsSigned begun.1 (c.is_signed.ensures.0 c.if-not-is_signed.false) in
    let value : size ≡ be32 (header log) 8 = c.in-Some.ensures.value ∙ c.be32_at.ensures ∙ ap (λ (h : List ℕ). be32 h 8) begun.1 in
    let replays : Replays size log (length numbers) =
    subst₂ (λ (l n : List ℕ). Replays size l (length n)) c.read_header.ensures.same.seen (sym c.as_slice.ensures.value) (c.in-Ok-probe_frames.ensures.ok walked).0 in
    let same = c.probe_frames.ensures.same.seen ∙ c.read_header.ensures.same.seen in
    let fails = rw same at (why clean) in
    inl (fails_wider _ _ _ _ _ _ e (omega (arith, c.in-Ok-Some.ensures.faults, c.in-Ok-probe_frames.ensures.cause)) (omega arith)
    (λ long. too_long size (image_of g.D.Disk c.args.files.now) (named_by log size begun.0 signed value) long)
    (fails (replayed_within size (length numbers) log begun.0 replays)))) c.is_wrong.ensures.cause

pub returns-in-Err-probe_frames-clause-cause : goal.returns-in-Err-probe_frames-clause-cause
returns-in-Err-probe_frames-clause-cause g c clean =
    let read = (and_parts (g.D.Disk.is_clean c.probe_frames.new.log) (g.D.Disk.is_clean c.args.files.now.db) clean).0 in
    let size = bytes_of c.in-Some.size in
    let log = g.D.Disk.seen c.args.files.now.log in
    let begun = rw c.in-Ok-Some.field-0-is at (c.in-Ok-Some.ensures.ok (c.probe_frames.ensures.same.clean read)) in
    let signed : IsSigned (header log) = subst IsSigned begun.1 (c.is_signed.ensures.0 c.if-not-is_signed.false) in
    let value : size ≡ be32 (header log) 8 = c.in-Some.ensures.value ∙ c.be32_at.ensures ∙ ap (λ (h : List ℕ). be32 h 8) begun.1 in
    let named = named_by log size begun.0 signed value in
    let why = rw c.read_header.ensures.same.seen at (log_fails _ _ size (g.D.Disk.seen c.read_header.new.log) c.in-Err-probe_frames.error (c.in-Err-probe_frames.ensures.cause.0 read)) in
    rw c.probe_error.ensures.value (elim why [
      | inl fails ↦ inl (fails_beside _ _ _ _ _ _ (le_refl _)
          (fails_wider _ _ _ _ _ _ _ (omega (arith, c.in-Ok-Some.ensures.faults)) (le_refl _) (λ long. too_long size (image_of g.D.Disk c.args.files.now) named long) fails))
      | inr refused ↦ inr (inr (inr (refused.0, inr (inl (foreign_if size log named refused.1)))))
    ])
