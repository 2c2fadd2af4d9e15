use Rattle.ee_store_load.proofs.FiveLemmas.{five_decided}
use Rattle.ee_store_load.proofs.ours.has_line_columns.Goals as goal

pub returns : goal.returns
returns c =
    five_decided c.args.columns.now _ _ _ _ _ c.in-len5.len_at_least c.in-len5.len_below c.ticket-item.is c.place-item.is c.letter-item.is c.number-item.is c.cents-item.is
    _ _ _ _ _ _ _ _ _ _ c.is_number.ensures c.is_number-2.ensures c.is_number-3.ensures c.is_number-4.ensures c.is_number-5.ensures
