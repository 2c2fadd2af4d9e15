use Rattle.std.proofs.Common.{arith, ◌<◌, ◌+◌}
use Rattle.std.proofs.lemmas.Str.{encode_ascii}
use Rattle.ee_units.specs.Texts.{serial_text}
use Rattle.ee_units.proofs.serials.SerialDisplay.fmt.Goals as goal

pub returns-clause-writes : goal.returns-clause-writes
unfolding serial_text
returns-clause-writes g c = λ plain ok.
    let small : 64 + c.letter.result < 128 = omega arith in
    rw (← c.letter.ensures.value, ← c.number-number.ensures.value) (rw (c.from-letter.ensures, encode_ascii (64 + c.letter.result) small) at (c.write.ensures.writes plain ok))
