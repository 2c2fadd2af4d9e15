use Rattle.std.proofs.Common.{◌≡◌, map, take}
use Rattle.ee_desk_model.specs.Seen.{held_of}
use Rattle.ee_desk_model.specs.Views.{picked}
use Rattle.ee_desk_decide.specs.Noted.{held_in}
use Rattle.ee_desk.proofs.seeing.held_of_bonds.Given as goal

abbrev pub invariant-loop-bond : goal.invariant-loop-bond
invariant-loop-bond l = held_in l.found.entries ≡ picked (held_of l.ledger) (map (λ bond. bond.serial) (take l.bond-index l.bonds))
