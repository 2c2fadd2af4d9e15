use Rattle.ee_desk_texts.proofs.Same.{act_only, reply_only, one_act, one_reply}
use Rattle.ee_desk_texts.proofs.laws.texts_law.Goals as goal

pub returns-clause-acts : goal.returns-clause-acts
returns-clause-acts c = act_only

pub returns-clause-replies : goal.returns-clause-replies
returns-clause-replies c = reply_only

pub returns-clause-one_act : goal.returns-clause-one_act
returns-clause-one_act c = one_act

pub returns-clause-one_reply : goal.returns-clause-one_reply
returns-clause-one_reply c = one_reply
