-- The answers to a stream are settled by its bytes.
use Rattle.std.proofs.Common.{◌≡◌, ℕ, zero, suc, ◌+◌, List, [], ◌∷◌, ◌++◌, length, refl, sym, ap, subst, ◌∙◌, arith}
use Rattle.std.specs.Prelude.{⊤}
use Rattle.ee_desk_model.specs.Repeats.{Content}
use Rattle.ee_wire_framing.specs.Framing.{Message, BeginsMessages}
use Rattle.ee_wire_framing.proofs.Lemmas.{same_message}
use Rattle.ee_wire.specs.Answers.{answer_text}
use Rattle.ee_counter.specs.Answering.{call_of, IsAnswer, after_call}
use Rattle.ee_counter.specs.Serving.{Told, AreAnswered, is_last, messages, text_of, texts}
use Rattle.ee_counter.proofs.Texts.{one_text}

text_same : (n : ℕ) (c : Content) (t u : Told) → t.message ≡ u.message
    → IsAnswer c (call_of t.message) t.answer → IsAnswer c (call_of u.message) u.answer → text_of n t ≡ text_of n u
text_same n c t u same x y =
    one_text c (call_of u.message) t.answer u.answer (is_last n t.message) (subst (λ (m : Message). IsAnswer c (call_of m) t.answer) same x) y
    ∙ ap (λ (m : Message). answer_text u.answer (is_last n m)) same

abbrev IsZero : ℕ → Type 0
IsZero zero = ⊤
IsZero (suc n) = ⊥

pub one_stream : (n : ℕ) (c : Content) (bytes rest other_rest : List ℕ) (one other : List Told)
    → BeginsMessages bytes (messages one) rest → BeginsMessages bytes (messages other) other_rest
    → length one ≡ length other → AreAnswered c one → AreAnswered c other → texts n one ≡ texts n other
one_stream n c bytes r q [] [] x y l a b = refl
one_stream n c bytes r q [] (u ∷ us) x y l a b = absurd (subst IsZero l tt)
one_stream n c bytes r q (t ∷ ts) [] x y l a b = absurd (subst IsZero (sym l) tt)
one_stream n c bytes r q (t ∷ ts) (u ∷ us) x y l a b =
    let same = same_message bytes t.message u.message x.0 y.0 x.1 y.1 in
    let more = subst (λ (bs : List ℕ). BeginsMessages bs (messages us) q) (sym same.1) y.2 in
    let answered = subst (λ (m : Message). AreAnswered (after_call c (call_of m)) us) (sym same.0) b.1 in
    let as_many : length ts ≡ length us = omega (arith, l) in
    let first = text_same n c t u same.0 a.0 b.0 in
    let others = one_stream (n + 1) (after_call c (call_of t.message)) x.0 r q ts us x.2 more as_many a.1 answered in
    λ i. first i ++ others i
