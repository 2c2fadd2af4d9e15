use Rattle.ee_desk_model.proofs.Seeing.{one_view, one_need, refused_by_length}
use Rattle.ee_desk_model.proofs.laws.one_view_law.Goals as goal

pub returns-clause-seen : goal.returns-clause-seen
returns-clause-seen c = one_view

pub returns-clause-needed : goal.returns-clause-needed
returns-clause-needed c = one_need

pub returns-clause-length : goal.returns-clause-length
returns-clause-length c = refused_by_length
