-- The texts of answers, put together.
use Rattle.std.proofs.Common.{◌≡◌, ℕ, Bool, true, List, [], ◌++◌, Some, codes, refl, ap, ◌∙◌}
use Rattle.std.specs.Prelude.{decimal}
use Rattle.ee_io.specs.Written.{WritesFront}
use Rattle.ee_wire.specs.Heads.{line, status_line, kind_line, closing_line, head_text}
use Rattle.ee_wire.specs.declared.answers.Status.{Status}
use Rattle.ee_wire.specs.declared.answers.Kind.{Kind}

-- the lines of a head, one after another
pub joined : (status : Status) (kind : Kind) (length : ℕ) (closes : Bool) (a b c d e f : List ℕ)
    → a ≡ [] → b ≡ a ++ line (status_line status) → c ≡ b ++ line (kind_line kind) → d ≡ c ++ line (codes "Content-Length: " ++ decimal length)
    → e ≡ d ++ closing_line closes → f ≡ e ++ line [] → f ≡ head_text status kind length closes
unfolding head_text
joined status kind length closes a b c d e f ha hb hc hd he hf =
    let first = line (status_line status) in
    let second = line (kind_line kind) in
    let third = line (codes "Content-Length: " ++ decimal length) in
    hf ∙ ap (λ l. l ++ line []) (he ∙ ap (λ l. l ++ closing_line closes) (hd ∙ ap (λ l. l ++ third) (hc ∙ ap (λ l. l ++ second) (hb ∙ ap (λ l. l ++ first) ha))))

-- what an empty list took whole
pub taken : (new text : List ℕ) → WritesFront (Some []) (Some new) text true → new ≡ text
taken new text written = written.written ∙ written.whole refl
