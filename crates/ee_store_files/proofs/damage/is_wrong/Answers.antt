use Rattle.std.proofs.Common.{◌∙◌, List, ℕ, length, refl, sym, subst, inl, inr}
use Rattle.std.proofs.lemmas.Bool.{false≢true, iff_false, and_parts, and_from}
use Rattle.std.proofs.lemmas.Result.{IfOk-weaker}
use Rattle.sqlite_wal.specs.PageSize.{bytes_of}
use Rattle.ee_store_files.specs.Damage.{HasTwoMore, HasCountBehind}
use Rattle.ee_store_files.specs.Inner.Damage.{AreNumbersOf}
use Rattle.ee_store_files.proofs.damage.is_wrong.Goals as goal

pub returns-then-branch-clause-ok : goal.returns-then-branch-clause-ok
returns-then-branch-clause-ok g c clean =
    let log = g.D.Disk.seen c.args.files.now.log in
    let more = (c.in_ok-has_two_more.ensures.ok (and_parts (g.D.Disk.is_clean c.has_two_more.new.log) (g.D.Disk.is_clean c.args.files.now.db) clean).0).0 c.if-branch.true in
    let two : HasTwoMore (bytes_of c.args.size) log (length c.args.numbers.now) = subst (λ (n : ℕ). HasTwoMore n log (length c.args.numbers.now)) c.bytes.ensures.value more in
    (λ _. inl two, λ _. refl)

pub returns-then-branch-2-clause-ok : goal.returns-then-branch-2-clause-ok
returns-then-branch-2-clause-ok g c clean =
    let told = (c.in_ok-has_count_behind.ensures.ok clean).0 c.if-branch-2.true in
    let later = subst (λ (log : List ℕ). HasCountBehind (bytes_of c.args.size) (record { log = log; db = g.D.Disk.seen c.args.files.now.db }) (length c.args.numbers.now)) c.has_two_more.ensures.same.seen told in
    (λ _. inr (inl later), λ _. refl)

pub has_unsummed-requires-clause-numbers : goal.has_unsummed-requires-clause-numbers
has_unsummed-requires-clause-numbers g c clean =
    let before = c.has_count_behind.ensures.log.clean clean in
    let numbers = c.requires.numbers (c.has_two_more.ensures.same.clean before) in
    let same = c.has_count_behind.ensures.log.seen ∙ c.has_two_more.ensures.same.seen in
    subst (λ (log : List ℕ). AreNumbersOf (bytes_of c.args.size) log c.args.numbers.now) (sym same) numbers

pub returns-in-Ok-false-clause-ok : goal.returns-in-Ok-false-clause-ok
returns-in-Ok-false-clause-ok g c clean =
    let log = g.D.Disk.seen c.args.files.now.log in
    let both = and_parts (g.D.Disk.is_clean c.has_count_behind.new.files.log) (g.D.Disk.is_clean c.says_sums.new.db) clean in
    let read = and_from (g.D.Disk.is_clean c.has_count_behind.new.files.log) (g.D.Disk.is_clean c.has_count_behind.new.files.db) both.0 (c.says_sums.ensures.same.clean both.1) in
    let none = iff_false (c.in_ok-has_two_more.ensures.ok (c.has_count_behind.ensures.log.clean both.0)) c.if-branch.false in
    let uncounted = iff_false (c.in_ok-has_count_behind.ensures.ok read) c.if-branch-2.false in
    let unsaid = rw c.has_count_behind.ensures.db.seen at (iff_false (c.in-Ok-false.ensures.ok both.1) c.in-Ok-false.field-0-test) in (
      λ no'. absurd (false≢true no'),
      λ wrong. elim wrong [
        | inl two ↦ absurd (none (subst (λ (n : ℕ). HasTwoMore n log (length c.args.numbers.now)) (sym c.bytes.ensures.value) two))
        | inr (inl later) ↦
            absurd (uncounted (subst (λ (l : List ℕ). HasCountBehind (bytes_of c.args.size) (record { log = l; db = g.D.Disk.seen c.args.files.now.db }) (length c.args.numbers.now)) (sym c.has_two_more.ensures.same.seen) later))
        | inr (inr lack) ↦ absurd (unsaid lack.0)
      ],
    )

pub returns-in-Ok-true-clause-ok : goal.returns-in-Ok-true-clause-ok
returns-in-Ok-true-clause-ok g c =
    IfOk-weaker c.has_unsummed.result _ _ (λ b told clean.
    let log = g.D.Disk.seen c.args.files.now.log in
    let both = and_parts (g.D.Disk.is_clean c.has_unsummed.new.log) (g.D.Disk.is_clean c.says_sums.new.db) clean in
    let walked = c.has_unsummed.ensures.same.clean both.0 in
    let read = and_from (g.D.Disk.is_clean c.has_count_behind.new.files.log) (g.D.Disk.is_clean c.has_count_behind.new.files.db) walked (c.says_sums.ensures.same.clean both.1) in
    let none = iff_false (c.in_ok-has_two_more.ensures.ok (c.has_count_behind.ensures.log.clean walked)) c.if-branch.false in
    let uncounted = iff_false (c.in_ok-has_count_behind.ensures.ok read) c.if-branch-2.false in
    let says = rw c.has_count_behind.ensures.db.seen at ((c.in-Ok-true.ensures.ok both.1).0 c.in-Ok-true.field-0-test) in
    let lacks = rw (c.has_count_behind.ensures.log.seen, c.has_two_more.ensures.same.seen) at (told both.0) in (
      λ is. inr (inr (says, lacks.0 is)),
      λ wrong. elim wrong [
        | inl two ↦ absurd (none (subst (λ (n : ℕ). HasTwoMore n log (length c.args.numbers.now)) (sym c.bytes.ensures.value) two))
        | inr (inl later) ↦
            absurd (uncounted (subst (λ (l : List ℕ). HasCountBehind (bytes_of c.args.size) (record { log = l; db = g.D.Disk.seen c.args.files.now.db }) (length c.args.numbers.now)) (sym c.has_two_more.ensures.same.seen) later))
        | inr (inr lack) ↦ lacks.1 lack.1
      ],
    )) c.has_unsummed.ensures.ok
