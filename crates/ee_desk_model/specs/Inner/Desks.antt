-- Definitions that private contracts alone cite; specs/Desks.antt has the others.
use Rattle.std.specs.Prelude.{ℕ, Bool, ◌&&◌, List, length, nat_le}
use Rattle.std.specs.Char.{is_ascii_digit}
use Rattle.std.specs.List.{list_all}

-- one to three digits
unfoldable pub is_desk : List ℕ → Bool
is_desk text = nat_le 1 (length text) && (nat_le (length text) 3 && list_all is_ascii_digit text)
