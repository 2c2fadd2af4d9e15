use Rattle.std.proofs.Common.{◌≡◌, ◌++◌, map}
use Rattle.ee_store_load.specs.Inner.Shown.{first_answer}
use Rattle.ee_store_load.proofs.tables.with_first_desk.Given as goal

abbrev pub invariant-loop-reply : goal.invariant-loop-reply
invariant-loop-reply l = l.found.items ++ map first_answer l.reply-iterator.rest.items ≡ map first_answer l.fn.replies.items
