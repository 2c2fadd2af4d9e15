use Rattle.std.proofs.Common.{◌≡◌, ap, ◌∙◌}
use Rattle.std.specs.FinMap as finite
use Rattle.ee_desk_model.specs.declared.changes.Effects.{Effects}
use Rattle.ee_desk_model.specs.declared.replies.Reply.{Reply}
use Rattle.ee_desk_model.specs.Acts.{applied, books_after, reply_to}
use Rattle.ee_desk_model.specs.Repeats.{Content}
use Rattle.ee_desk_model.proofs.Lemmas.Books.{seen_enough, applied_are_books_after}
use Rattle.ee_desk_model.proofs.Lemmas.Requests.{content_after-decided, remove-insert_kept}
use Rattle.ee_desk.specs.Inner.Kept.{kept_in}
use Rattle.ee_desk.proofs.list.ListKeeper.decide.Goals as goal

pub apply-requires : goal.apply-requires
apply-requires c = (c.args.request.now.act, c.in_ok-effects.ensures)

pub returns-in-Ok-clause-reply : goal.returns-in-Ok-clause-reply
returns-in-Ok-clause-reply c =
    c.in_ok-reply.ensures ∙ ap (λ (e : Effects). e.reply) (c.in_ok-effects.ensures ∙ seen_enough c.self.inside.books c.args.request.now.act)
    ∙ ap (λ (S : Content). reply_to S.books c.args.request.now.act) c.self.view_is

pub returns-in-Ok-clause-content : goal.returns-in-Ok-clause-content
returns-in-Ok-clause-content c =
    let reply : c.in_ok-effects.effects.reply ≡ reply_to c.args.self.now.books c.args.request.now.act =
    ap (λ (e : Effects). e.reply) (c.in_ok-effects.ensures ∙ seen_enough c.self.inside.books c.args.request.now.act)
    ∙ ap (λ (S : Content). reply_to S.books c.args.request.now.act) c.self.view_is in
    let kept = c.in_ok-kept.ensures ∙ ap (λ (r : Reply). record { act = c.args.request.now.act; reply = r }) reply in
    content_after-decided c.args.self.now (record { books = c.apply.new.self; kept = kept_in c.keep.new.kept.entries }) c.args.request.now c.requires
    (c.in-Ok.ensures.ok ∙ ap (λ (e : Effects). applied c.self.inside.books e.changes) c.in_ok-effects.ensures ∙ applied_are_books_after c.self.inside.books c.args.request.now.act
    ∙ ap (λ (S : Content). books_after S.books c.args.request.now.act) c.self.view_is)
    (c.in_ok-keep.ensures.ok ∙ (λ i. finite.insert (c.self.view_is i).kept (c.request_number-number.ensures i) (kept i)))

pub returns-clause-err : goal.returns-clause-err
returns-clause-err c =
    let number = c.request_number-number.result in
    let none = ap (λ (S : Content). finite.get S.kept number) c.self.view_is ∙ ap (finite.get c.args.self.now.kept) c.request_number-number.ensures ∙ c.requires in
    let kept = c.forget.ensures ∙ ap (λ m. finite.remove m number) c.in_ok-keep.ensures.ok ∙ remove-insert_kept (kept_in c.self.inside.kept.entries) number c.in_ok-kept.kept none in
    let back : ◌≡◌ {A = Content} (record { books = c.apply.new.self; kept = kept_in c.forget.new.kept.entries }) (record { books = c.self.inside.books; kept = kept_in c.self.inside.kept.entries }) =
    (λ i. record { books = c.in-Err.ensures.err i; kept = kept i }) in
    back ∙ c.self.view_is
