-- Lemmas that the proofs of crates above use.
use Rattle.std.proofs.Common.{List, [], ◌∷◌, ◌++◌, ℕ, ◌≡◌}
use Rattle.ee_wire_framing.specs.Framing.{BeginsMessage, BeginsMessages, Message}
use Rattle.ee_wire_framing.proofs.OneSplit
use Rattle.ee_wire_framing.proofs.Messages

-- ---- messages of a stream
-- bytes begin with one message at most, and leave one rest
pub same_message : (bytes : List ℕ) (m n : Message) (r q : List ℕ) → BeginsMessage bytes m r → BeginsMessage bytes n q → (m ≡ n) × (r ≡ q)
same_message = OneSplit.same_message

-- more bytes follow the rest
pub BeginsMessages-append : (bytes more : List ℕ) (ms : List Message) (rest : List ℕ) → BeginsMessages bytes ms rest → BeginsMessages (bytes ++ more) ms (rest ++ more)
BeginsMessages-append = Messages.BeginsMessages-append

-- one message more
pub begins_more : (bytes : List ℕ) (ms : List Message) (rest : List ℕ) (m : Message) (after : List ℕ)
    → BeginsMessages bytes ms rest → BeginsMessage rest m after → BeginsMessages bytes (ms ++ m ∷ []) after
begins_more = Messages.begins_more
