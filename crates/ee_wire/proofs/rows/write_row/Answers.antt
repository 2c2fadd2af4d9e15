use Rattle.std.proofs.Common.{[], ◌∷◌, ◌++◌, ap, ◌∙◌, codes, decimal}
use Rattle.std.proofs.lemmas.Result.{on_ok_weaker}
use Rattle.json.specs.Token as token
use Rattle.ee_units.specs.Denoms.{dollars}
use Rattle.ee_calculator.specs.Notes.{note_text}
use Rattle.ee_desk_texts.specs.Writing.{Added}
use Rattle.ee_desk_texts.proofs.Lemmas.{and_then}
use Rattle.ee_wire.proofs.rows.write_row.Goals as goal

pub returns : goal.returns
returns c =
    let out = c.args.out.now in
    let begun : Added out c.begin_object.new.self (token.begin_object ∷ []) = (c.begin_object.ensures.room.0, c.in_ok-begin_object.ensures.ok) in
    let denom_added = c.in_ok-write_number_member.ensures in
    let dollars_added : Added c.begin_object.new.self c.write_number_member.new.out (token.key (codes "denom") ∷ token.number (decimal (dollars c.args.row.now.denom)) ∷ []) =
    (denom_added.0, denom_added.1 ∙ ap (λ n. c.begin_object.new.self.tokens ++ token.key (codes "denom") ∷ token.number (decimal n) ∷ []) c.dollars.ensures) in
    let text_added = c.in_ok-write_text_member.ensures in
    let note_added : Added c.write_month_member-2.new.out c.write_text_member.new.out (token.key (codes "note") ∷ token.string (note_text c.args.row.now.note) ∷ []) =
    (text_added.0, text_added.1 ∙ ap (λ t. c.write_month_member-2.new.out.tokens ++ token.key (codes "note") ∷ token.string t ∷ []) c.as_str.ensures.text) in
    let denom = and_then out c.begin_object.new.self c.write_number_member.new.out _ _ begun dollars_added in
    let final = and_then out c.write_number_member.new.out c.write_month_member.new.out _ _ denom c.in_ok-write_month_member.ensures in
    let interest = and_then out c.write_month_member.new.out c.write_string_member.new.out _ _ final c.in_ok-write_string_member.ensures in
    let issued = and_then out c.write_string_member.new.out c.write_string_member-2.new.out _ _ interest c.in_ok-write_string_member-2.ensures in
    let following = and_then out c.write_string_member-2.new.out c.write_month_member-2.new.out _ _ issued c.in_ok-write_month_member-2.ensures in
    let note = and_then out c.write_month_member-2.new.out c.write_text_member.new.out _ _ following note_added in
    let price = and_then out c.write_text_member.new.out c.write_string_member-3.new.out _ _ note c.in_ok-write_string_member-3.ensures in
    let rate = and_then out c.write_string_member-3.new.out c.write_rate_member.new.out _ _ price c.in_ok-write_rate_member.ensures in
    let value = and_then out c.write_rate_member.new.out c.write_string_member-4.new.out _ _ rate c.in_ok-write_string_member-4.ensures in
    on_ok_weaker c.end_object.result (λ ended. and_then out c.write_string_member-4.new.out c.end_object.new.self _ _ value (c.end_object.ensures.room.0, ended)) c.end_object.ensures.ok
