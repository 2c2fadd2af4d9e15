-- Command lines, one after the other.
use Rattle.std.proofs.Common.{◌∙◌, [], ◌∷◌, ◌++◌, Some, None, sym, ap, subst, append_assoc, append-nil}
use Rattle.sqlite_disk.specs.declared.Disk.{Ghosts}
use Rattle.ee_store.specs.History.{HasLeft, RestsHistory, WaitsInFiles, stop_and_reopen}
use Rattle.ee_cli_stores.specs.Lines.{ClosesLine, LeadsInARow, WaitsLine}

pub closes_line : {D : Type 0} (g : Ghosts D) → RestsHistory g → ClosesLine g
closes_line g rests held found attempts left files lead clean at_rest finds start earlier more was are =
    subst (λ l. HasLeft start l found) (append_assoc earlier more stop_and_reopen)
    (rests start (earlier ++ more) left files found (lead start earlier more was are) clean at_rest finds)

pub leads_in_a_row : LeadsInARow
leads_in_a_row held found [] same start earlier more was none =
    subst (HasLeft start (earlier ++ more)) same (subst (λ l. HasLeft start l held) (sym (append-nil earlier) ∙ ap (λ l. earlier ++ l) (sym none)) was)
leads_in_a_row held found (None ∷ lines) (next, waits, rest) start earlier more was are =
    leads_in_a_row next found lines rest start earlier more (waits start earlier was) are
leads_in_a_row held found (Some attempts ∷ lines) (next, leads, rest) start earlier more was (these, those, is, of, others) =
    let line = these ++ stop_and_reopen in
    subst (λ l. HasLeft start l found) (append_assoc earlier line those ∙ ap (λ l. earlier ++ l) (sym is))
    (leads_in_a_row next found lines rest start (earlier ++ line) those (leads start earlier these was of) others)

pub waits_line : WaitsInFiles → WaitsLine
waits_line waits held found on start earlier was = waits start earlier held found was on
