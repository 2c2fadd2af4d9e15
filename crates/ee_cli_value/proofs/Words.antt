-- The words of a line, by their places.
use Rattle.std.proofs.Common.{◌≡◌, ◌∙◌, ℕ, suc, ◌-◌, ◌≤◌, true, List, [], ◌∷◌, length, map, take, drop, codes, slice_index_or, String, Global, string_bytes, refl, ap, arith}
use Rattle.std.proofs.Math.Seq.{take-length}
use Rattle.std.specs.Str.{bytes_eq}
use Rattle.ee_cli_value.specs.Lines.{asked_by, line_of_words}

abbrev pub bytes_of : String Global → List ℕ
bytes_of w = string_bytes w

-- the last words of seven and more
last_words : (ws rest : List (String Global)) → length ws ≡ suc (suc (suc (suc (suc (suc (length rest)))))) → drop 6 ws ≡ rest → take (length ws - 6) (drop 6 ws) ≡ rest
last_words ws rest long is =
    let count : length ws - 6 ≡ length rest = omega (arith, long) in
    rw (count, is) (take-length rest)

pub asked_at : (ws : List (String Global)) (c d i m r : String Global) → 6 ≤ length ws
    → c ≡ slice_index_or ws 1 c → d ≡ slice_index_or ws 2 d → i ≡ slice_index_or ws 3 i → m ≡ slice_index_or ws 4 m → r ≡ slice_index_or ws 5 r
    → true ≡ bytes_eq (bytes_of c) (codes "value")
    → line_of_words (map bytes_of ws) ≡ asked_by (bytes_of d) (bytes_of i) (bytes_of m) (bytes_of r) (map bytes_of (take (length ws - 6) (drop 6 ws)))
asked_at [] c d i m r few hc hd hi hm hr is = absurd (omega (arith, few))
asked_at (_ ∷ []) c d i m r few hc hd hi hm hr is = absurd (omega (arith, few))
asked_at (_ ∷ _ ∷ []) c d i m r few hc hd hi hm hr is = absurd (omega (arith, few))
asked_at (_ ∷ _ ∷ _ ∷ []) c d i m r few hc hd hi hm hr is = absurd (omega (arith, few))
asked_at (_ ∷ _ ∷ _ ∷ _ ∷ []) c d i m r few hc hd hi hm hr is = absurd (omega (arith, few))
asked_at (_ ∷ _ ∷ _ ∷ _ ∷ _ ∷ []) c d i m r few hc hd hi hm hr is = absurd (omega (arith, few))
asked_at (n ∷ c' ∷ d' ∷ i' ∷ m' ∷ r' ∷ rest) c d i m r few hc hd hi hm hr is =
    rw (last_words (n ∷ c' ∷ d' ∷ i' ∷ m' ∷ r' ∷ rest) rest refl refl, hd, hi, hm, hr, ← (is ∙ ap (λ w. bytes_eq (bytes_of w) (codes "value")) hc)) refl
