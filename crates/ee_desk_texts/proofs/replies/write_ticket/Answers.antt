use Rattle.std.proofs.Common.{◌≡◌, ◌++◌, [], ◌∷◌, codes, decimal, refl, ap, ◌∙◌, append_assoc}
use Rattle.std.proofs.lemmas.Result.{on_ok_weaker}
use Rattle.json.specs.Token as token
use Rattle.json.specs.Tree.{json_tokens}
use Rattle.serde_json.specs.Written.{outline}
use Rattle.ee_desk_texts.specs.Data.{line_data, list_data}
use Rattle.ee_desk_texts.specs.Writing.{Added}
use Rattle.ee_desk_texts.proofs.Pieces.{and_then}
use Rattle.ee_desk_texts.proofs.replies.write_ticket.Goals as goal

pub returns : goal.returns
returns c =
    let out = c.args.out.now in
    let number : c.from.result ≡ c.args.ticket.now.payee = cc in
    let begun : Added out c.begin_object.new.self (token.begin_object ∷ []) = (c.begin_object.ensures.room.0, c.in_ok-begin_object.ensures.ok) in
    let dated = and_then out c.begin_object.new.self c.write_string_member.new.out _ _ begun c.in_ok-write_string_member.ensures in
    let lines : c.as_slice.result.now ≡ c.args.ticket.now.lines = c.as_slice.ensures in
    let list = c.in_ok-write_list_member.ensures in
    let held : Added c.write_string_member.new.out c.write_list_member.new.out (token.key (codes "lines") ∷ json_tokens (outline (list_data line_data c.args.ticket.now.lines))) =
    (list.0, list.1 ∙ ap (λ ls. c.write_string_member.new.out.tokens ++ token.key (codes "lines") ∷ json_tokens (outline (list_data line_data ls))) lines) in
    let listed = and_then out c.write_string_member.new.out c.write_list_member.new.out _ _ dated held in
    let payee = c.in_ok-write_number_member.ensures in
    let named : Added c.write_list_member.new.out c.write_number_member.new.out (token.key (codes "payee") ∷ token.number (decimal c.args.ticket.now.payee) ∷ []) =
    (payee.0, payee.1 ∙ ap (λ n. c.write_list_member.new.out.tokens ++ token.key (codes "payee") ∷ token.number (decimal n) ∷ []) number) in
    let paid = and_then out c.write_list_member.new.out c.write_number_member.new.out _ _ listed named in
    let numbered = and_then out c.write_number_member.new.out c.write_number_member-2.new.out _ _ paid c.in_ok-write_number_member-2.ensures in
    let added = and_then out c.write_number_member-2.new.out c.write_string_member-2.new.out _ _ numbered c.in_ok-write_string_member-2.ensures in
    on_ok_weaker c.end_object.result (λ ended. (c.end_object.ensures.room.0 ∙ added.0, ended ∙ ap (λ tokens. tokens ++ token.end_object ∷ []) added.1 ∙ simp append_assoc refl)) c.end_object.ensures.ok
