use Rattle.std.proofs.Common.{◌≡◌, ◌∙◌, [], ◌∷◌, ◌++◌, ℕ, refl, sym, ap}
use Rattle.std.proofs.lemmas.Result.{IfOk-weaker}
use Rattle.ee_units.specs.Texts.{decimal_text}
use Rattle.ee_calculator.specs.Notes.{note_text}
use Rattle.ee_calculator.specs.declared.notes.Note.{Note}
use Rattle.ee_calculator.specs.declared.notes.Note.TheVariants as note
use Rattle.ee_cli_value.specs.Printed.{line_of}
use Rattle.ee_cli_value.proofs.values.line.Goals as goal

noted_line : (cents : ℕ) (n : Note) → (n ≡ note.Plain → ⊥) → decimal_text cents ++ (32 ∷ (note_text n ++ (10 ∷ []))) ≡ line_of cents n
noted_line cents note.Ni differs = refl
noted_line cents note.Ne differs = refl
noted_line cents note.P5 differs = refl
noted_line cents note.Ma differs = refl
noted_line cents note.Plain differs = absurd (differs refl)

pub returns-in-Plain : goal.returns-in-Plain
returns-in-Plain c = IfOk-weaker c.format.result _ _ (λ s h. h ∙ ap (line_of c.args.value.0) (sym c.in-Plain.is)) c.format.ensures.ok

pub returns-in_default : goal.returns-in_default
returns-in_default c = IfOk-weaker c.format-in_default.result _ _ (λ s h. h ∙ noted_line c.args.value.0 c.args.note c.in_default.not-Plain) c.format-in_default.ensures.ok
