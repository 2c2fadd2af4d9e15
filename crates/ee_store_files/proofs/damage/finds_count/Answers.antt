use Rattle.std.proofs.Common.{rules, arith, ◌≡◌, ◌+◌, ◌-◌, ◌<◌, ◌∙◌, length, refl, sym, subst, inl, inr}
use Rattle.std.proofs.lemmas.Bool.{false≢true, cases_lt}
use Rattle.sqlite_wal.specs.Reads.{IsClean}
use Rattle.sqlite_wal.specs.Recovery.{frame_at}
use Rattle.ee_store_files.specs.Inner.Damage.{IsFrameAt}
use Rattle.ee_store_files.specs.Inner.Opening.{IsLongFor}
use Rattle.ee_store_files.proofs.Failing.{frames_before}
use Rattle.ee_store_files.proofs.Frames.{count_at, counts_none}
use Rattle.ee_store_files.proofs.damage.finds_count.Goals as goal

pub returns-in-Ok-false-clause-ok : goal.returns-in-Ok-false-clause-ok
returns-in-Ok-false-clause-ok g c clean =
    let log = g.D.Disk.seen c.args.log.now in
    let size = c.args.page_size in
    let from = c.args.from in
    let ends : length log < frame_at size from + (24 + size) = rw (← c.len.ensures.seen) (c.in-Ok-false.ensures.ends clean c.in-Ok-false.field-0-test) in
    (λ no'. absurd (false≢true no'), λ later. absurd (counts_none c.args.is_doubted c.args.in_file size log from from (λ i low high. absurd (omega arith)) ends later))

pub returns-in-Ok-false-read_frame-clause-ok : goal.returns-in-Ok-false-read_frame-clause-ok
returns-in-Ok-false-read_frame-clause-ok g c clean =
    let log = g.D.Disk.seen c.args.log.now in
    let size = c.args.page_size in
    let inv = c.loop-i.invariant in
    let none = inv.none (c.read_frame-in-loop-i.ensures.same.clean clean) in
    let ends : length log < frame_at size c.loop-i.i + (24 + size) =
    rw (← inv.reads.seen) (c.in-Ok-false-read_frame.ensures.ends clean c.in-Ok-false-read_frame.field-0-test) in
    (λ no'. absurd (false≢true no'), λ later. absurd (counts_none c.args.is_doubted c.args.in_file size log c.args.from c.loop-i.i none ends later))

pub returns-then-is_count-clause-ok : goal.returns-then-is_count-clause-ok
returns-then-is_count-clause-ok g c clean =
    let log = g.D.Disk.seen c.args.log.now in
    let size = c.args.page_size in
    let inv = c.loop-i.invariant in
    let walked = c.read_frame-in-loop-i.ensures.same.clean clean in
    let i = c.loop-i.i in
    let was = inv.before walked (i - 1) (omega (arith, inv.past)) in
    let is : IsFrameAt size log i c.read_frame-in-loop-i.new.frame = rw (← inv.reads.seen) (c.in-Ok-true-read_frame.ensures.read clean c.in-Ok-true-read_frame.field-0-test) in
    let counts = count_at c.args.is_doubted c.leaves_more-is_any.result c.args.in_file size i (i - 1) log c.args.head.now _ _ _ (omega (arith, inv.past)) c.checksum_at-before.ensures c.leaves_more-is_any.ensures was is (c.requires.head (inv.reads.clean walked)) in
    (λ _. (i, inv.past, counts.0 (c.is_count.ensures.0 c.if-is_count.true)), λ _. refl)

pub loop-i-preserved : goal.loop-i-preserved
loop-i-preserved g c =
    let log = g.D.Disk.seen c.args.log.now in
    let size = c.args.page_size in
    let inv = c.loop-i.invariant in
    let i = c.loop-i.i in
    let is = λ (clean : IsClean g.D.Disk c.read_frame-in-loop-i.new.log).
    let here : IsFrameAt size log i c.read_frame-in-loop-i.new.frame = rw (← inv.reads.seen) (c.in-Ok-true-read_frame.ensures.read clean c.in-Ok-true-read_frame.field-0-test) in here in
    record {
      reads = search rules;
      counts = search rules;
      len = search rules;
      room = search rules;
      past = omega (arith, inv.past);
      before = λ clean j next. let same : i ≡ j = omega (arith, next) in subst (λ n. IsFrameAt size log n c.read_frame-in-loop-i.new.frame) same (is clean);
      none = λ clean k low high counted. elim (cases_lt k i) [
        | inl below ↦ inv.none (c.read_frame-in-loop-i.ensures.same.clean clean) k low below counted
        | inr past ↦
            let walked = c.read_frame-in-loop-i.ensures.same.clean clean in
            let same : i ≡ k = omega arith in
            let was = inv.before walked (i - 1) (omega (arith, inv.past)) in
            let counts = count_at c.args.is_doubted c.leaves_more-is_any.result c.args.in_file size i (i - 1) log c.args.head.now _ _ _ (omega (arith, inv.past)) c.checksum_at-before.ensures c.leaves_more-is_any.ensures was (is clean) (c.requires.head (inv.reads.clean walked)) in
            false≢true (sym c.if-is_count.false ∙ c.is_count.ensures.1 (counts.1 (rw same counted)))
      ];
    }

pub returns-clause-cause : goal.returns-clause-cause
returns-clause-cause g c clean =
    let inv = c.loop-i.invariant in
    let size = c.args.page_size in
    let log = g.D.Disk.seen c.args.log.now in
    let i = c.loop-i.i in
    let last = inv.before clean (i - 1) (omega (arith, inv.past)) in
    let order = frames_before size 0xffff_fffe (i - 1) (omega (arith, c.loop-i-test.false)) in
    let long : IsLongFor size log = omega (arith, last.within, order) in
    inr (inr (refl, long))
