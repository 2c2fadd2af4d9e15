use Rattle.std.proofs.Common.{Some, None, sym, ap, ◌∙◌, subst}
use Rattle.ee_units.specs.Spelling.{SerialNumber}
use Rattle.ee_desk_model.specs.Ranges.{IsSerial}
use Rattle.ee_store_tables.specs.declared.records.UnpaidBond.{UnpaidBond}
use Rattle.ee_store_rows.proofs.Lemmas.{serial_read, serial_fits}
use Rattle.ee_store_queries.proofs.from_rows.bond_shown.Goals as goal

pub returns-in_err-serial-clause-read : goal.returns-in_err-serial-clause-read
returns-in_err-serial-clause-read c bond is fits =
    let never = serial_fits c.args.row.now.letter c.args.row.now.number None c.in_err-serial.ensures
    (subst (λ (row : UnpaidBond). IsSerial (record { letter = row.letter; number = row.number })) (sym is) fits.serial) in
    absurd (cc)

pub returns-in_err-held-clause-read : goal.returns-in_err-held-clause-read
returns-in_err-held-clause-read c bond is fits =
    let never = c.in_err-held.ensures.read (record { bond = bond; ticket = None }) (λ i. record { denom = (is i).denom; issued = (is i).issued; owner = (is i).owner; coowner = (is i).coowner; ticket = None }) fits in
    absurd (cc)

pub returns-clause-shown : goal.returns-clause-shown
returns-clause-shown c =
    let it = serial_read c.args.row.now.letter c.args.row.now.number (Some c.in_ok-serial.serial) c.in_ok-serial.ensures in
    let held = c.in_ok-held.ensures.shown in
    λ i. record {
      letter = (ap (λ (s : SerialNumber). s.letter) held.1 ∙ it.0) i;
      number = (ap (λ (s : SerialNumber). s.number) held.1 ∙ it.1) i;
      denom = (held.0 i).denom;
      issued = (held.0 i).issued;
      owner = (held.0 i).owner;
      coowner = (held.0 i).coowner;
    }
