use Rattle.ee_client.proofs.Ending.{end_to_end, refusals_change_nothing}
use Rattle.ee_client.proofs.Settling.{settles}
use Rattle.ee_client.proofs.laws.end_to_end_law.Goals as goal

pub returns-clause-holds : goal.returns-clause-holds
returns-clause-holds c = end_to_end c.stops_and_retries_law.ensures.survives c.stops_and_retries_law.ensures.acknowledged c.acts_keep_sound_law.ensures.acts

pub returns-clause-refused : goal.returns-clause-refused
returns-clause-refused c = refusals_change_nothing

pub returns-clause-settles : goal.returns-clause-settles
returns-clause-settles c =
    settles (end_to_end c.stops_and_retries_law.ensures.survives c.stops_and_retries_law.ensures.acknowledged c.acts_keep_sound_law.ensures.acts)
