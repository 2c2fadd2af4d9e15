use Rattle.std.proofs.Common.{[], ◌∷◌}
use Rattle.std.proofs.lemmas.Result.{on_ok_weaker}
use Rattle.json.specs.Token as token
use Rattle.ee_desk_texts.specs.Writing.{Added}
use Rattle.ee_desk_texts.proofs.Pieces.{and_then}
use Rattle.ee_desk_texts.proofs.refusals.write_bond.Goals as goal

pub returns : goal.returns
returns c =
    let begun : Added c.args.out.now c.begin_object.new.self (token.begin_object ∷ []) = (c.begin_object.ensures.room.0, c.in_ok-begin_object.ensures.ok) in
    let first = and_then c.args.out.now c.begin_object.new.self c.write_number_member.new.out _ _ begun c.in_ok-write_number_member.ensures in
    let second = and_then c.args.out.now c.write_number_member.new.out c.write_text_member.new.out _ _ first c.in_ok-write_text_member.ensures in
    let third = and_then c.args.out.now c.write_text_member.new.out c.write_string_member.new.out _ _ second c.in_ok-write_string_member.ensures in
    on_ok_weaker c.end_object.result (λ ended. and_then c.args.out.now c.write_string_member.new.out c.end_object.new.self _ _ third (c.end_object.ensures.room.0, ended)) c.end_object.ensures.ok
