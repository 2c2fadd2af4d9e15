-- What holds by how a call ended.
use Rattle.std.proofs.Common.{Result, Ok, Err}
use Rattle.std.specs.Result.{OnOk, OnErr}

pub either_way : {A E : Type 0} {P Q R : Type 0} (r : Result A E) → (P → R) → (Q → R) → OnOk r P → OnErr r Q → R
either_way (Ok x) f g h k = f h
either_way (Err e) f g h k = g k
