use Rattle.std.proofs.Common.{rules, ◌≡◌, Some, None, Err, sym, ◌∙◌}
use Rattle.std.proofs.lemmas.Result.{IfOk-weaker}
use Rattle.json.specs.declared.error.Error.TheVariants.{Invalid}
use Rattle.json.specs.Value.{value_view}
use Rattle.ee_desk_texts.proofs.Same.{act_in, act_told}
use Rattle.ee_desk_texts.proofs.act_reading.read_any_act.Goals as goal

pub returns-in-Err-Invalid : goal.returns-in-Err-Invalid
returns-in-Err-Invalid c = λ a fits same.
    let none = act_in c.args.text.now None (let is : c.parse.result ≡ Err Invalid = search rules in c.parse.ensures.invalid is) a fits same in
    cc

pub returns-in-Some : goal.returns-in-Some
returns-in-Some c =
    IfOk-weaker c.if_act.result _ _ (λ o told. act_told c.args.text.now c.in-Some.act o
    (λ a fits same. sym c.in-Some.is ∙ c.in_ok-act.ensures ∙ act_in c.args.text.now (Some (value_view c.in-Ok.value)) c.in-Ok.ensures.ok a fits same) told) c.if_act.ensures

pub returns : goal.returns
returns c = λ a fits same.
    let found = act_in c.args.text.now (Some (value_view c.in-Ok.value)) c.in-Ok.ensures.ok a fits same in
    let no : None ≡ Some a = sym c.in-None.is ∙ c.in_ok-act.ensures ∙ found in
    cc
