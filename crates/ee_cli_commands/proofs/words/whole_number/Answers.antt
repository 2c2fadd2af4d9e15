use Rattle.std.specs.Str.Parse.{ParsesUnsigned, ExplainsUnsignedError, HasUnsignedDigitsIfOk}
use Rattle.clap.specs.Words.{found_of, one_text}
use Rattle.clap.proofs.WalkLemmas.{one_text-rows}
use Rattle.ee_cli_commands.proofs.Numbers.{number_read}
use Rattle.ee_cli_commands.proofs.words.whole_number.Goals as goal

pub returns : goal.returns
returns c =
    let same = one_text-rows (found_of c.args.matches.now) c.args.name.now in
    rw (← same) (number_read c.args.most (λ bs r. ParsesUnsigned 64 10 bs r × ExplainsUnsignedError 10 bs r × HasUnsignedDigitsIfOk bs r)
    (one_text (found_of c.args.matches.now) c.args.name.now) c.get_one.result (λ bs x h. h.0) c.get_one.ensures.none c.get_one.ensures.value)
