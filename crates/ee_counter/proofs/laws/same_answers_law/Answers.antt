use Rattle.std.proofs.Common.{[], ap}
use Rattle.ee_desk_model.specs.Contents.{content_after}
use Rattle.ee_counter.proofs.Same.{same_answers, all_served}
use Rattle.ee_counter.proofs.laws.same_answers_law.Goals as goal

pub returns-clause-answers : goal.returns-clause-answers
returns-clause-answers c = λ d requests one other x y z w. same_answers d [] requests one other x y z w

pub returns-clause-content : goal.returns-clause-content
returns-clause-content c = λ d requests answers x y. ap (content_after d) (all_served d [] requests answers x y)
