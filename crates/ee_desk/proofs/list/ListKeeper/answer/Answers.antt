use Rattle.std.proofs.Common.{ap, sym, ◌∙◌, rules}
use Rattle.std.specs.FinMap as finite
use Rattle.ee_desk_model.specs.Numbers.{number_of}
use Rattle.ee_desk_model.proofs.Lemmas.Requests.{answer_again, answer_new, content_after-kept, get_kept}
use Rattle.std.proofs.lemmas.Result.{IfOk-weaker}
use Rattle.ee_desk.proofs.list.ListKeeper.answer.Goals as goal

pub returns-in-Some-clause-reply : goal.returns-in-Some-clause-reply
returns-in-Some-clause-reply c =
    c.in_ok-reply.ensures ∙ answer_again c.args.self.now c.args.request.now c.in-Some.kept.now
    (ap (λ k. finite.get k.kept (number_of c.args.request.now)) (sym c.self.view_is) ∙ get_kept _ _ ∙ search rules)

pub returns-in-Some-clause-content : goal.returns-in-Some-clause-content
returns-in-Some-clause-content c =
    content_after-kept c.args.self.now c.args.request.now c.in-Some.kept.now
    (ap (λ k. finite.get k.kept (number_of c.args.request.now)) (sym c.self.view_is) ∙ get_kept _ _ ∙ search rules)

pub decide-requires : goal.decide-requires
decide-requires c = ap (λ k. finite.get k.kept (number_of c.args.request.now)) (sym c.self.view_is) ∙ get_kept _ _ ∙ search rules

pub returns-clause-reply : goal.returns-clause-reply
returns-clause-reply c = IfOk-weaker c.decide.result _ _
    (λ r is. is ∙ answer_new c.args.self.now c.args.request.now
    (ap (λ k. finite.get k.kept (number_of c.args.request.now)) (sym c.self.view_is) ∙ get_kept _ _ ∙ search rules))
    c.decide.ensures.reply
