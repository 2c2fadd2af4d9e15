use Rattle.std.proofs.Common.{◌≡◌, take}
use Rattle.ee_desk_model.specs.Seen.{held_of}
use Rattle.ee_desk_model.specs.Views.{picked}
use Rattle.ee_desk_decide.specs.Noted.{held_in}
use Rattle.ee_desk.proofs.seeing.held_of_serials.Given as goal

abbrev pub invariant-loop-serial : goal.invariant-loop-serial
invariant-loop-serial l = held_in l.found.entries ≡ picked (held_of l.ledger) (take l.serial-index l.serials)
