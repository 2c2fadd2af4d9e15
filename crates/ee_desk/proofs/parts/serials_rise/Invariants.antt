use Rattle.std.proofs.Common.{◌↔◌, map, drop}
use Rattle.ee_desk_soundness.specs.Checks.{HaveRisingSerials, IsBefore}
use Rattle.ee_desk_soundness.proofs.Lemmas.{Follows}
use Rattle.ee_desk.proofs.parts.serials_rise.Given as goal

abbrev pub invariant-loop-bond : goal.invariant-loop-bond
invariant-loop-bond l = Follows IsBefore l.last (map (λ bond. bond.serial) (drop l.bond-index l.bonds)) ↔ HaveRisingSerials l.bonds
