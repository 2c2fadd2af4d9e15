use Rattle.ee_desk_laws.proofs.Leaving.{leaves_new, leaves_kept, leaves_unserved, leaves_as_before, leaves_reopened}
use Rattle.ee_desk_laws.proofs.stores.ties_to_stores_law.Goals as goal

pub returns-clause-new : goal.returns-clause-new
returns-clause-new g c = λ store w q told. leaves_new g.S.StoreOfContents.stands (g.S.StoreOfContents.may_leave store) w q told

pub returns-clause-kept : goal.returns-clause-kept
returns-clause-kept g c = λ old new w q told.
    leaves_kept g.S.StoreOfContents.stands (g.S.StoreOfContents.may_leave old) (g.S.StoreOfContents.may_leave new) w q told

pub returns-clause-unserved : goal.returns-clause-unserved
returns-clause-unserved g c = λ old new w q.
    leaves_unserved g.S.StoreOfContents.stands (g.S.StoreOfContents.may_leave old) (g.S.StoreOfContents.may_leave new) w q

pub returns-clause-as_before : goal.returns-clause-as_before
returns-clause-as_before g c = λ old new w.
    leaves_as_before g.S.StoreOfContents.stands (g.S.StoreOfContents.may_leave old) (g.S.StoreOfContents.may_leave new) w

pub returns-clause-reopened : goal.returns-clause-reopened
returns-clause-reopened g c = λ old new w found.
    leaves_reopened g.S.StoreOfContents.stands (g.S.StoreOfContents.may_leave old) (g.S.StoreOfContents.may_leave new) w found
