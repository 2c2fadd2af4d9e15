use Rattle.std.proofs.Common.{rules, ◌++◌, ◌∙◌, ap, subst}
use Rattle.std.proofs.lemmas.Option.{IfSome_then}
use Rattle.std.proofs.lemmas.Fmt.{contents_after_writes}
use Rattle.serde_json.specs.Data.{string}
use Rattle.ee_desk_texts.specs.Inner.Writing.{AddsData}
use Rattle.ee_desk_texts.proofs.writing.write_string.Goals as goal

pub returns-in-Ok : goal.returns-in-Ok
returns-in-Ok g c = IfSome_then (g.D.Display.output c.args.value.now) c.in-Ok.ensures.writes (λ text wrote.
    let written = contents_after_writes _ (λ s. s.bytes) (λ w bs v is. is) c.new-short.result text c.write.new.self wrote ∙ ap (λ b. b ++ text) c.new-short.ensures in
    subst (λ t. AddsData c.string.result c.args.out.now c.string.new.self (string t)) (c.as_str.ensures.value ∙ written) (search rules))
