use Rattle.std.proofs.Common.{◌≡◌, ◌<◌, ◌≤◌, ◌⊎◌, take, true}
use Rattle.std.specs.List.{list_all}
use Rattle.std.specs.Char.{is_ascii_digit}
use Rattle.std.specs.Str.Parse.{digits_value}
use Rattle.ee_wire_framing.proofs.fields.checked_length.Given as goal

abbrev pub invariant-loop-byte : goal.invariant-loop-byte
invariant-loop-byte l =
    record {
      digits : list_all is_ascii_digit (take l.byte-index l.text) ≡ true;
      small : l.value ≤ 10485769;
      value : (l.value ≡ digits_value 10 (take l.byte-index l.text)) ⊎ ((1048576 < l.value) × (1048576 < digits_value 10 (take l.byte-index l.text)));
    }
