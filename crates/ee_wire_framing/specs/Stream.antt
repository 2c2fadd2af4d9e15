-- What a contract sees of a `Buffer`.
use Rattle.std.specs.Prelude.{ℕ, List, Option}
use Rattle.ee_wire_framing.specs.declared.buffer.Stop.{Stop}

-- the bytes of the last message, the bytes not answered yet, and how the stream ended, if it has
pub record Stream : Type 0 where
  pub shown : List ℕ
  pub held : List ℕ
  pub ended : Option Stop
