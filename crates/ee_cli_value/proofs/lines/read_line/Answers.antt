use Rattle.std.proofs.Common.{sym, ap, ◌∙◌, codes}
use Rattle.std.specs.Str.{bytes_eq}
use Rattle.ee_cli_value.proofs.Words.{asked_at}
use Rattle.ee_cli_value.proofs.lines.read_line.Goals as goal

pub returns-then-eq : goal.returns-then-eq
returns-then-eq c =
    let is_value = c.if-eq.ensures ∙ ap (λ w. bytes_eq w (codes "value")) c.as_str.ensures.value in
    let at = asked_at c.args.words.now c.command-item.result c.denom-item.result c.issued-item.result c.month-item.result c.rate-item.result
    c.in-len6-up.len_at_least c.command-item.is c.denom-item.is c.issued-item.is c.month-item.is c.rate-item.is is_value in
    c.asked_by.ensures ∙ rw (c.deref.ensures, c.deref-then-eq.ensures, c.deref-then-eq-2.ensures, c.deref-then-eq-3.ensures) (sym at)
