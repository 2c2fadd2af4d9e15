use Rattle.std.proofs.Common.{sym, ◌∙◌, ap, ap₂, inl, inr}
use Rattle.std.proofs.lemmas.Bool.{false≢true}
use Rattle.std.proofs.lemmas.List.{take_rest}
use Rattle.sqlite_wal.specs.Format.{checksum, is_big}
use Rattle.sqlite_wal.proofs.FormatLemmas.{same_sums, part_front, salts_differ, salts_agree}
use Rattle.ee_store_files.proofs.damage.is_count.Goals.{else-not-is_any-via-then-not-is_any+else-ne, else-not-is_any-via-else-not-is_any}
use Rattle.ee_store_files.proofs.damage.is_count.Goals as goal

pub returns-then-ne : goal.returns-then-ne
returns-then-ne c = (
  λ no'. absurd (false≢true no'),
  λ counts. elim counts.2 [
    | inl salt ↦ absurd (salts_differ _ _ (sym c.if-ne.true ∙ c.ne.ensures) salt)
    | inr any ↦ absurd (false≢true (sym c.if-not-is_any.true ∙ any))
  ],
)

pub returns : goal.returns
returns c =
    let decides = same_sums _ _ _ c.eq.ensures in
    let big = is_big c.args.head.now in
    let front = ap (checksum big c.args.before) (part_front c.args.frame.now 8) ∙ sym c.checksum_of-front.ensures in
    let ours = ap₂ (checksum big) front (sym (take_rest c.args.frame.now 24)) ∙ sym c.checksum_of.ensures in
    let number = sym c.be32_at.ensures ∙ c.if-be32_at-ne-COUNT_PAGE.false in (
      λ same. (
        ours ∙ decides.0 same ∙ c.checksum_at.ensures,
        number,
        elim c.else-not-is_any.branch [
          | else-not-is_any-via-then-not-is_any+else-ne w ↦ inl (salts_agree _ _ w.if-ne.ensures)
          | else-not-is_any-via-else-not-is_any w ↦ inr w.if-not-is_any.false
        ],
      ),
      λ counts. decides.1 (sym ours ∙ counts.0 ∙ sym c.checksum_at.ensures),
    )
