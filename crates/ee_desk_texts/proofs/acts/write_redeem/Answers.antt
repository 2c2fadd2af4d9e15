use Rattle.std.proofs.Common.{◌≡◌, ℕ, ◌++◌, [], ◌∷◌, codes, decimal, ap, ◌∙◌, append_assoc}
use Rattle.std.proofs.lemmas.Result.{on_ok_weaker}
use Rattle.json.specs.Token as token
use Rattle.json.specs.Tree.{json_tokens}
use Rattle.serde_json.specs.Written.{outline}
use Rattle.ee_units.specs.Texts.{day_text}
use Rattle.ee_desk_texts.specs.Data.{serial_data, list_data}
use Rattle.ee_desk_texts.proofs.acts.write_redeem.Goals as goal

pub returns : goal.returns
returns c =
    let day = token.key (codes "day") ∷ token.string (day_text c.args.day) ∷ [] in
    let payee = λ (n : ℕ). token.key (codes "payee") ∷ token.number (decimal n) ∷ [] in
    let serials = token.key (codes "serials") ∷ json_tokens (outline (list_data serial_data c.args.serials.now)) in
    let number : c.from.result ≡ c.args.payee = cc in
    let named = c.in_ok-begin_act.ensures in
    let dated = c.in_ok-write_string_member.ensures in
    let paid = c.in_ok-write_number_member.ensures in
    let listed = c.in_ok-write_list_member.ensures in
    let before = c.end_object.ensures.room.0 ∙ listed.0 ∙ paid.0 ∙ dated.0 ∙ named.0 in
    let to_payee = paid.1 ∙ (λ i. (dated.1 ∙ ap (λ l. l ++ day) named.1) i ++ payee (number i)) in
    let added = listed.1 ∙ ap (λ l. l ++ serials) to_payee in
    on_ok_weaker c.end_object.result (λ ended. (before, ended ∙ ap (λ l. l ++ token.end_object ∷ []) added ∙ simp append_assoc)) c.end_object.ensures.ok
