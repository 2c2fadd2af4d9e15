use Rattle.std.proofs.Common.{rules, ◌≡◌, Some}
use Rattle.ee_store_contents.specs.Inner.Reading.{each, days_in, rates_in, tickets_in, batch_in}
use Rattle.ee_store_schema.specs.Forms.{version_of}
use Rattle.ee_store_contents.proofs.FoundParts.{parts_found}
use Rattle.ee_store_contents.proofs.contents.parts_in.Goals as goal

pub returns-clause-value : goal.returns-clause-value
returns-clause-value c =
    let stored = c.args.stored in
    let days : days_in (version_of stored.form) stored.desk.items ≡ Some c.in-Some.days = search rules in
    let rates : rates_in stored.rates.items stored.extensions.items ≡ Some c.in-Some-2.rates.items = search rules in
    let tickets : tickets_in stored.tickets.items stored.lines.items ≡ Some c.in-Some-3.tickets.items = search rules in
    let batches : each batch_in stored.batches.items ≡ Some c.in-Some-4.batches.items = search rules in
    parts_found stored c.in-Some.days c.in-Some-2.rates.items c.in-Some-3.tickets.items c.in-Some-4.batches.items days rates tickets batches

pub returns-clause-fits : goal.returns-clause-fits
returns-clause-fits c = search rules

pub returns-in_default-2-clause-fits : goal.returns-in_default-2-clause-fits
returns-in_default-2-clause-fits c = search rules

pub returns-in_default-3-clause-fits : goal.returns-in_default-3-clause-fits
returns-in_default-3-clause-fits c = search rules

pub returns-in_default-4-clause-fits : goal.returns-in_default-4-clause-fits
returns-in_default-4-clause-fits c = search rules

pub returns-in_default-clause-fits : goal.returns-in_default-clause-fits
returns-in_default-clause-fits c = search rules

pub returns-in_err-batches-clause-fits : goal.returns-in_err-batches-clause-fits
returns-in_err-batches-clause-fits c = search rules

pub returns-in_err-batches-clause-value : goal.returns-in_err-batches-clause-value
returns-in_err-batches-clause-value c = search rules

pub returns-in_err-rates-clause-fits : goal.returns-in_err-rates-clause-fits
returns-in_err-rates-clause-fits c = search rules

pub returns-in_err-rates-clause-value : goal.returns-in_err-rates-clause-value
returns-in_err-rates-clause-value c = search rules

pub returns-in_err-tickets-clause-fits : goal.returns-in_err-tickets-clause-fits
returns-in_err-tickets-clause-fits c = search rules

pub returns-in_err-tickets-clause-value : goal.returns-in_err-tickets-clause-value
returns-in_err-tickets-clause-value c = search rules
