use Rattle.std.proofs.Common.{◌≡◌, ℕ, ◌<◌, List, [], ◌∷◌, map, length, get_or, zero, suc, subst, arith, ◌∙◌}
use Rattle.ee_store_tables.proofs.CauseLemmas.{from_err}
use Rattle.ee_store_tables.proofs.reading.read_each.Goals as goal

-- an item of what is shown is shown of something
shown_at : {A B : Type 0} (show : A → B) (all : List A) (i : ℕ) (item : B) → i < length (map show all) → item ≡ get_or (map show all) i item → (found : A) × (item ≡ show found)
shown_at show [] i item low is = absurd (omega (arith, low))
shown_at show (x ∷ xs) zero item low is = (x, is)
shown_at show (x ∷ xs) (suc i) item low is = shown_at show xs i item (omega (arith, low)) is

pub returns-in_err-next-clause-memory : goal.returns-in_err-next-clause-memory
returns-in_err-next-clause-memory g c =
    from_err c.from_residual-in_err-next.result c.from_residual-in_err-next.ensures.1 (λ failure same all shown.
    let low = subst (λ xs. c.loop-row.row-index < length xs) shown c.loop-row-test.true in
    let it = shown_at g.T.QueryRow.shown all c.loop-row.row-index _ low (subst (λ xs. c.row-item.result ≡ get_or xs c.loop-row.row-index c.row-item.result) shown c.row-item.is) in
    same ∙ c.in_err-next.ensures.memory it.0 it.1)
