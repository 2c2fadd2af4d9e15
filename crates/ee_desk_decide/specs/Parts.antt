-- The view that its parts represent.
use Rattle.std.specs.FinMap as finite
use Rattle.ee_desk_model.specs.Views.{PlainView}
use Rattle.ee_desk_decide.specs.declared.views.ViewParts.{ViewParts}

abbrev pub plain_parts : ViewParts → PlainView
plain_parts parts = record {
  rates = finite.from_entries parts.rates.entries;
  bonds = finite.from_entries parts.bonds.entries;
  day = parts.day;
  last_day = parts.last_day;
  tickets = parts.tickets;
  day_tickets = parts.day_tickets;
  day_bonds = parts.day_bonds;
  day_total = parts.day_total.0;
}
