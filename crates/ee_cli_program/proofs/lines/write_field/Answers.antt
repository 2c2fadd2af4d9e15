use Rattle.ee_cli_program.proofs.lines.write_field.Goals as goal

pub returns : goal.returns
returns g c = record { writes = λ plain ok. rw (← c.spelling_of_column-spelling.ensures) (c.write.ensures.writes plain ok) }
