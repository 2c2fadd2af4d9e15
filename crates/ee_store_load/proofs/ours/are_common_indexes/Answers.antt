use Rattle.std.specs.Fmt.{digits}
use Rattle.ee_store_load.proofs.FiveLemmas.{five_decided}
use Rattle.ee_store_load.proofs.ours.are_common_indexes.Goals as goal

pub returns : goal.returns
unfolding digits
returns c =
    five_decided c.args.indexes.now _ _ _ _ _ c.in-len5.len_at_least c.in-len5.len_below c.bond-item.is c.owner-item.is c.day-item.is c.line-item.is c.payment-item.is
    _ _ _ _ _ _ _ _ _ _ c.is_key.ensures c.is_plain.ensures c.is_plain-2.ensures c.is_key-2.ensures c.is_key-3.ensures
