use Rattle.std.proofs.Common.{◌≡◌, ◌++◌, drop, map}
use Rattle.std.specs.List.{filter_map}
use Rattle.ee_desk_model.specs.Queries.{shown_in_row, row_of}
use Rattle.ee_desk_decide.specs.Noted.{rates_in}
use Rattle.ee_desk_decide.proofs.sheets.rows_of.Given as goal

abbrev pub invariant-loop-bond : goal.invariant-loop-bond
invariant-loop-bond l =
    map shown_in_row l.rows.items ++ filter_map (row_of (rates_in l.terms.entries) l.month) (drop l.bond-index l.bonds)
    ≡ filter_map (row_of (rates_in l.terms.entries) l.month) l.bonds
