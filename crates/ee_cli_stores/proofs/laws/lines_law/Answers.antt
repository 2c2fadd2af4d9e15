use Rattle.ee_cli_commands.specs.declared.commands.FileKind.TheVariants as kind
use Rattle.ee_cli_stores.proofs.Bank.{accounts_for_lines}
use Rattle.ee_cli_stores.proofs.Lines.{closes_line, leads_in_a_row, waits_line}
use Rattle.ee_cli_stores.proofs.laws.lines_law.Goals as goal

pub returns-clause-opens : goal.returns-clause-opens
returns-clause-opens g c = c.whole_history_law.ensures.opens

pub returns-clause-has : goal.returns-clause-has
returns-clause-has g c = c.whole_history_law.ensures.has

pub returns-clause-closes : goal.returns-clause-closes
returns-clause-closes g c = closes_line g.D.Disk c.whole_history_law.ensures.rests

pub returns-clause-leads : goal.returns-clause-leads
returns-clause-leads g c = leads_in_a_row

pub returns-clause-holds : goal.returns-clause-holds
returns-clause-holds g c = c.whole_history_law.ensures.files

pub returns-clause-waits : goal.returns-clause-waits
returns-clause-waits g c = waits_line c.whole_history_law.ensures.waits

pub returns-clause-tested : goal.returns-clause-tested
returns-clause-tested g c held opened left files from stays ends = ends (stays from.shielded)

pub returns-clause-fit : goal.returns-clause-fit
returns-clause-fit g c = c.short_texts_law.ensures.messages

pub returns-clause-file_fits : goal.returns-clause-file_fits
returns-clause-file_fits g c kind.Rates d key = c.short_texts_law.ensures.rates d key
returns-clause-file_fits g c kind.Inventory d key = c.short_texts_law.ensures.bonds d key

pub returns-clause-at_rest : goal.returns-clause-at_rest
returns-clause-at_rest g c = c.whole_history_law.ensures.at_rest

pub returns-clause-leaves : goal.returns-clause-leaves
returns-clause-leaves g c = c.whole_history_law.ensures.leaves

pub returns-clause-refused : goal.returns-clause-refused
returns-clause-refused g c = c.whole_history_law.ensures.refused

pub returns-clause-accounts : goal.returns-clause-accounts
returns-clause-accounts g c = accounts_for_lines c.whole_history_law.ensures.found leads_in_a_row c.whole_history_law.ensures.files c.stops_and_retries_law.ensures.acknowledged
