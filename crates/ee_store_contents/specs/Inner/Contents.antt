-- Definitions that private contracts alone cite; specs/Contents.antt has the others.
use Rattle.std.specs.Prelude.{map, IfSome}
use Rattle.std.specs.List.{AllByRecursion}
use Rattle.ee_desk_model.specs.Sound.{IsDay}
use Rattle.ee_desk_soundness.specs.Parts.{Parts}
use Rattle.ee_desk_soundness.specs.Marks.{bond_of}
use Rattle.ee_store_contents.specs.declared.parts.ReadParts.{ReadParts}
use Rattle.ee_desk_model.specs.Ranges.{BondFits}
use Rattle.ee_desk_texts.specs.Ranges.{RateRowFits, TicketFits, BatchFits}

-- the parts that were made of rows
abbrev pub parts_of_read : ReadParts → Parts
parts_of_read read = record {
  rates = read.rates.items;
  bonds = map bond_of read.bonds.items;
  day = read.day;
  last_day = read.last_day;
  tickets = read.tickets.items;
  batches = read.batches.items;
}

-- the plain numbers of parts are in range
pub record PartsFit (parts : Parts) : Type 0 where
  pub day : IfSome parts.day IsDay
  pub last_day : IfSome parts.last_day IsDay
  pub rates : AllByRecursion RateRowFits parts.rates
  pub bonds : AllByRecursion BondFits parts.bonds
  pub tickets : AllByRecursion TicketFits parts.tickets
  pub batches : AllByRecursion BatchFits parts.batches
