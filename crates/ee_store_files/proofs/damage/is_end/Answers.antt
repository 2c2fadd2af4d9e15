use Rattle.std.proofs.Common.{sym, ◌∙◌, ap, not, eq-eqb, ne_eqb}
use Rattle.std.proofs.lemmas.Bool.{false≢true}
use Rattle.sqlite_wal.proofs.FormatLemmas.{salts_differ, salts_agree}
use Rattle.ee_store_files.proofs.damage.is_end.Goals as goal

pub returns-then-ne : goal.returns-then-ne
returns-then-ne c = (λ no'. absurd (false≢true no'), λ both. absurd (salts_differ _ _ (sym c.if-ne.true ∙ c.ne.ensures) both.0))

pub returns : goal.returns
returns c =
    let same = salts_agree c.args.head.now c.args.front.now c.if-ne.ensures in
    let size = c.be32_at.ensures in (
      λ some. (same, λ none. false≢true (sym (ap not (eq-eqb _ 0 (size ∙ none))) ∙ some)),
      λ both. ap not (ne_eqb _ 0 (λ none. both.1 (sym size ∙ none))),
    )
