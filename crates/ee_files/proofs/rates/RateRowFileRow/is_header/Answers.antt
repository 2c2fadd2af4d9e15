use Rattle.ee_files.proofs.rates.RateRowFileRow.is_header.Goals as goal

pub returns : goal.returns
returns c = c.is_rate_header.ensures
