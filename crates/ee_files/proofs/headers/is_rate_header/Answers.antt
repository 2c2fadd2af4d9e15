use Rattle.std.proofs.Common.{◌≡◌, ◌∙◌, sym, true, false}
use Rattle.std.proofs.Math.Bool.{or-false}
use Rattle.csv.specs.Records.{fields_of}
use Rattle.ee_files.specs.RateFile.{rate_columns}
use Rattle.ee_files.specs.Rows.{header_of, same_fields}
use Rattle.ee_files.proofs.NamesInPlace.{two_names, three_names}
use Rattle.ee_files.proofs.headers.is_rate_header.Goals as goal

pub returns-then-names_rates : goal.returns-then-names_rates
returns-then-names_rates c =
    let fields = fields_of c.args.fields.now in
    let is : same_fields fields (header_of rate_columns) ≡ true = sym (two_names fields) ∙ sym c.names_rates.ensures ∙ c.if-names_rates.true in
    rw is c.if-names_rates.true

pub returns-else-names_rates : goal.returns-else-names_rates
returns-else-names_rates c =
    let fields = fields_of c.args.fields.now in
    let not : same_fields fields (header_of rate_columns) ≡ false = sym (two_names fields) ∙ sym c.names_rates.ensures ∙ c.if-names_rates.false in
    rw not (c.names_extensions.ensures ∙ three_names fields ∙ sym (or-false _))
