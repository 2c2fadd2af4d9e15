-- The tickets of each day, counted.
use Rattle.ee_desk_model.specs.declared.replies.Batch.{Batch}
use Rattle.ee_desk_decide.specs.declared.views.DayCounts.{DayCounts}

-- the counts of a batch
abbrev pub counts_in : Batch → DayCounts
counts_in batch = record { tickets = batch.tickets; bonds = batch.bonds; total = batch.total }
