use Rattle.std.proofs.lemmas.Result.{MatchResult-weaker}
use Rattle.ee_files.proofs.Taking.{text_is}
use Rattle.ee_files.proofs.fields.text_in.Goals as goal

pub returns : goal.returns
returns c =
    rw (c.in_ok-field.was, c.ok.ensures.value) (text_is c.in_ok-field.field-0.now c.from_utf8.result (MatchResult-weaker c.from_utf8.result c.from_utf8.ensures.cases (λ s h. h) (λ e h. h.0)))
