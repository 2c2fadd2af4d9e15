-- What commands print.
use Rattle.std.specs.Prelude.{ℕ, ◌+◌, Bool, true, false, List, [], ◌∷◌, ◌++◌, codes}
use Rattle.std.specs.Fmt.{decimal}
use Rattle.ee_desk_model.specs.declared.replies.Reply.{Reply}
use Rattle.ee_desk_texts.specs.Texts.{reply_text}
use Rattle.ee_wire_calls.specs.Faults.{code_of}
use Rattle.ee_wire_calls.specs.declared.faults.WireFault.TheVariants.{Framing}
use Rattle.ee_counter.specs.declared.connections.Ended.{Ended}
use Rattle.ee_counter.specs.declared.connections.Why.{Why}
use Rattle.ee_counter.specs.declared.connections.Why.TheVariants as why

-- the text of a reply, on a line
abbrev pub reply_line : Reply → List ℕ
reply_line reply = reply_text reply ++ 10 ∷ []

-- why a connection ended; for a framing fault, its code
abbrev pub why_text : Why → List ℕ
why_text why.Closed = codes "Closed"
why_text why.Asked = codes "Asked"
why_text why.Limit = codes "Limit"
why_text (why.Fault cause) = codes "Fault " ++ decimal (code_of (Framing cause))
why_text why.ReadFailed = codes "ReadFailed"
why_text why.WriteFailed = codes "WriteFailed"
why_text why.NoMemory = codes "NoMemory"

-- what the line adds if an answer said that the store failed
abbrev pub failure_text : Bool → List ℕ
failure_text true = codes ", the store failed"
failure_text false = []

-- `connection I: M messages, WHY`, on a line
abbrev pub connection_line : ℕ → Ended → List ℕ
connection_line number e =
    codes "connection " ++ (decimal number ++ (codes ": " ++ (decimal e.messages ++ (codes " messages, " ++ (why_text e.why ++ (failure_text e.store_failed ++ 10 ∷ []))))))

-- the lines of connections after n others
abbrev pub connection_lines : ℕ → List Ended → List ℕ
connection_lines n [] = []
connection_lines n (e ∷ es) = connection_line (n + 1) e ++ connection_lines (n + 1) es
