-- The text of an act, and of a reply, is that of its JSON.
use Rattle.std.proofs.Common.{◌≡◌, ℕ, ◌<◌, ◌≤◌, ◌^◌, List, [], ◌∷◌, ◌++◌, Some, None, Option, IfSome, sym, ap, ◌∙◌, arith, lit<, map, option_and_then, append-nil}
use Rattle.std.specs.Prelude.{codes}
use Rattle.std.specs.List.{AllByRecursion}
use Rattle.json.specs.Lex.{tokens}
use Rattle.json.specs.Json as json
use Rattle.json.specs.Tree as tree
use Rattle.json.proofs.Printed.Tokens.{tokens-print}
use Rattle.json.proofs.Printed.Decimals.{IsNumber-decimal}
use Rattle.json.proofs.Printed.Trees.{value-json_tokens, ArePrintable-json_tokens}
use Rattle.serde_json.specs.Data.{Data, Items, object, member, no_members}
use Rattle.serde_json.specs.View.{items_of}
use Rattle.serde_json.specs.Written.{outline, items_outline, compact_text}
use Rattle.serde_json.proofs.Texts.{print-outline}
use Rattle.ee_units.specs.Spelling.{SerialNumber}
use Rattle.ee_units.specs.Denoms.{dollars}
use Rattle.ee_calculator.specs.declared.bonds.Bond.{Bond}
use Rattle.ee_desk_model.specs.Codes.{code_of, name_of}
use Rattle.ee_value.specs.Chain.{named_extension}
use Rattle.ee_value.specs.declared.rates.RateRow.{RateRow}
use Rattle.ee_desk_model.specs.declared.acts.Act.{Act}
use Rattle.ee_desk_model.specs.declared.acts.Act.TheVariants as act
use Rattle.ee_desk_model.specs.declared.replies.Line.{Line}
use Rattle.ee_desk_model.specs.declared.replies.Ticket.{Ticket}
use Rattle.ee_desk_model.specs.declared.replies.Batch.{Batch}
use Rattle.ee_desk_model.specs.declared.replies.Reply.{Reply}
use Rattle.ee_desk_model.specs.declared.replies.Reply.TheVariants as reply
use Rattle.ee_desk_model.specs.declared.refusals.Refusal.{Refusal}
use Rattle.ee_desk_model.specs.declared.refusals.Refusal.TheVariants as refusal
use Rattle.ee_desk_texts.specs.declared.refusals.Named.{Named}
use Rattle.ee_desk_texts.specs.declared.refusals.Named.TheVariants as named
use Rattle.ee_desk_texts.specs.Data.{number_data, month_data, rate_data, serial_data, with_extension, with_coowner, rate_row_data, bond_data, act_data, line_data, ticket_data, batch_data, names, refused_data, reply_data}
use Rattle.ee_desk_model.specs.Ranges.{IsCustomer, IsSerial, BondFits}
use Rattle.ee_desk_texts.specs.Ranges.{RateRowFits, ActFits, LineFits, TicketFits, BatchFits, NamedFits, ReplyFits}
use Rattle.ee_units.proofs.Lemmas.{dollars_small}

-- what reads back at some depth
pub record ReadsBack (deep : ℕ) (d : Data) : Type 0 where
  pub numbers : tree.HasNumbers (outline d)
  pub level : tree.depth (outline d) ≤ deep

pub record ItemsReadBack (deep : ℕ) (ds : Items) : Type 0 where
  pub numbers : tree.ItemsHaveNumbers (items_outline ds)
  pub level : tree.items_depth (items_outline ds) ≤ deep

pub data_back : (d : Data) → ReadsBack 127 d → json.document (compact_text d) ≡ Some (outline d)
data_back d r =
    let ts = tree.json_tokens (outline d) in
    let text : tokens (compact_text d) ≡ ts ++ [] = ap tokens (sym (print-outline d)) ∙ tokens-print ts (ArePrintable-json_tokens (outline d) r.numbers) ∙ sym (append-nil ts) in
    ap (λ v. option_and_then (λ p. json.if_last p.0 p.1) v)
    (ap (json.value json.max_depth) text ∙ value-json_tokens (outline d) json.max_depth [] (omega (arith, r.level)))

-- a list of rows, each of which reads back
items_back : {A : Type 0} (deep : ℕ) (f : A → Data) (Fits : A → Type 0) → ((x : A) → Fits x → ReadsBack deep (f x))
    → (xs : List A) → AllByRecursion Fits xs → ItemsReadBack deep (items_of (map f xs))
items_back deep f Fits one [] all = record { numbers = tt; level = omega arith }
items_back deep f Fits one (x ∷ xs) all =
    let h = one x all.0 in
    let t = items_back deep f Fits one xs all.1 in
    record {
      numbers = (h.numbers, t.numbers);
      level = omega (arith, h.level, t.level);
    }

-- a customer's number is printed and read as a whole one
pub small : (customer : ℕ) → IsCustomer customer → customer < 2 ^ 64
small customer fits = let wide : 999999999 < 2 ^ 64 = lit< tt in omega (arith, wide, fits.1)

-- ---- acts

rate_object_back : (extension : Option ℕ) (from rate : ℕ)
    → ReadsBack 1 (object (with_extension extension (member (codes "from") (month_data from) (member (codes "rate") (rate_data rate) no_members))))
rate_object_back None from rate = record { numbers = (tt, (tt, tt)); level = omega arith }
rate_object_back (Some extension) from rate = record { numbers = (tt, (tt, (tt, tt))); level = omega arith }

rate_row_back : (row : RateRow) → RateRowFits row → ReadsBack 1 (rate_row_data row)
rate_row_back row fits = rate_object_back (named_extension row.rates) row.from row.rates.fixed

bond_object : Option ℕ → ℕ → ℕ → ℕ → SerialNumber → Data
bond_object coowner denom issued owner serial =
    object (with_coowner coowner (member (codes "denom") (number_data denom) (member (codes "issued") (month_data issued)
    (member (codes "owner") (number_data owner) (member (codes "serial") (serial_data serial) no_members)))))

bond_object_back : (coowner : Option ℕ) (denom issued owner : ℕ) (serial : SerialNumber)
    → IfSome coowner IsCustomer → denom < 2 ^ 64 → owner < 2 ^ 64 → ReadsBack 1 (bond_object coowner denom issued owner serial)
unfolding bond_object
bond_object_back None denom issued owner serial other d o = record {
  numbers = (IsNumber-decimal denom d, (tt, (IsNumber-decimal owner o, (tt, tt))));
  level = omega arith;
}
bond_object_back (Some coowner) denom issued owner serial other d o =
    let c = small coowner other in
    record {
      numbers = (IsNumber-decimal coowner c, (IsNumber-decimal denom d, (tt, (IsNumber-decimal owner o, (tt, tt)))));
      level = omega arith;
    }

bond_back : (bond : Bond) → BondFits bond → ReadsBack 1 (bond_data bond)
unfolding bond_object
bond_back bond fits = bond_object_back bond.coowner (dollars bond.denom) bond.issued bond.owner bond.serial fits.coowner (dollars_small bond.denom) (small bond.owner fits.owner)

serial_back : (serial : SerialNumber) → IsSerial serial → ReadsBack 0 (serial_data serial)
serial_back serial fits = record { numbers = tt; level = omega arith }

pub act_back : (a : Act) → ActFits a → ReadsBack 127 (act_data a)
act_back (act.AddRates rows) fits =
    let rs = items_back 1 rate_row_data RateRowFits rate_row_back rows fits in
    record { numbers = (tt, (rs.numbers, tt)); level = omega (arith, rs.level) }
act_back (act.AddBonds bonds) fits =
    let bs = items_back 1 bond_data BondFits bond_back bonds fits in
    record { numbers = (tt, (bs.numbers, tt)); level = omega (arith, bs.level) }
act_back (act.OpenDay day) fits = record { numbers = (tt, (tt, tt)); level = omega arith }
act_back (act.Redeem day payee serials) fits =
    let ss = items_back 0 serial_data IsSerial serial_back serials fits.2 in
    let p = small payee fits.1 in
    record {
      numbers = (tt, (tt, (IsNumber-decimal payee p, (ss.numbers, tt))));
      level = omega (arith, ss.level);
    }
act_back (act.CloseDay day) fits = record { numbers = (tt, (tt, tt)); level = omega arith }

-- ---- replies

line_back : (line : Line) → LineFits line → ReadsBack 1 (line_data line)
line_back line fits = record { numbers = (tt, (tt, tt)); level = omega arith }

ticket_back : (ticket : Ticket) → TicketFits ticket → ReadsBack 127 (ticket_data ticket)
ticket_back ticket fits =
    let ls = items_back 1 line_data LineFits line_back ticket.lines fits.lines in
    let p = small ticket.payee fits.payee in
    record {
      numbers = (tt, (ls.numbers, (IsNumber-decimal ticket.payee p, (IsNumber-decimal ticket.ticket fits.number, (tt, tt)))));
      level = omega (arith, ls.level);
    }

batch_back : (batch : Batch) → BatchFits batch → ReadsBack 127 (batch_data batch)
batch_back batch fits = record {
  numbers = (IsNumber-decimal batch.bonds fits.bonds, (tt, (IsNumber-decimal batch.tickets fits.tickets, (tt, tt))));
  level = omega arith;
}

refused_back : (code : ℕ) (name : List ℕ) (n : Named) → code < 2 ^ 64 → NamedFits n → ReadsBack 127 (refused_data code name n)
refused_back code name named.Nothing c fits =
    record { numbers = (IsNumber-decimal code c, (tt, tt)); level = omega arith }
refused_back code name (named.Period month) c fits =
    record { numbers = (IsNumber-decimal code c, (tt, (tt, tt))); level = omega arith }
refused_back code name (named.Months age) c fits =
    let wide : 2335 < 2 ^ 64 = lit< tt in
    let a : age < 2 ^ 64 = omega (arith, wide, fits) in
    record {
      numbers = (IsNumber-decimal code c, (IsNumber-decimal age a, (tt, tt)));
      level = omega arith;
    }
refused_back code name (named.Bond serial) c fits =
    record { numbers = (IsNumber-decimal code c, (tt, (tt, tt))); level = omega arith }
refused_back code name (named.Paid serial ticket) c fits = record {
  numbers = (IsNumber-decimal code c, (tt, (tt, (IsNumber-decimal ticket fits.1, tt))));
  level = omega arith;
}

pub code_small : (r : Refusal) → code_of r < 2 ^ 64
code_small refusal.NumberReused = lit< tt
code_small refusal.Empty = lit< tt
code_small refusal.TooMany = lit< tt
code_small (refusal.Repeated serial) = lit< tt
code_small (refusal.SameCoowner serial) = lit< tt
code_small (refusal.NotAnnouncementMonth month) = lit< tt
code_small (refusal.RateConflict month) = lit< tt
code_small (refusal.RateUnsettled age) = lit< tt
code_small (refusal.NoRate serial) = lit< tt
code_small (refusal.SerialConflict serial) = lit< tt
code_small refusal.DayOpen = lit< tt
code_small refusal.DayNotLater = lit< tt
code_small refusal.NoOpenDay = lit< tt
code_small refusal.DayIsOther = lit< tt
code_small refusal.DayFull = lit< tt
code_small (refusal.UnknownSerial serial) = lit< tt
code_small (refusal.NotPayee serial) = lit< tt
code_small (refusal.AlreadyPaid serial ticket) = lit< tt
code_small (refusal.NotIssued serial) = lit< tt
code_small (refusal.NotEligible serial) = lit< tt

pub reply_back : (p : Reply) → ReplyFits p → ReadsBack 127 (reply_data p)
reply_back (reply.Added new same) fits = record {
  numbers = (IsNumber-decimal new fits.0, (IsNumber-decimal same fits.1, tt));
  level = omega arith;
}
reply_back (reply.Opened day) fits = record { numbers = (tt, tt); level = omega arith }
reply_back (reply.Ticket ticket) fits = ticket_back ticket fits
reply_back (reply.Batch batch) fits = batch_back batch fits
reply_back (reply.Refused r) fits = refused_back (code_of r) (name_of r) (names r) (code_small r) fits
