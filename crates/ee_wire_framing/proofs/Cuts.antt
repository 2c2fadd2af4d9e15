-- What ends at a line feed inside a head: empty lines, whole lines, or the head.
use Rattle.std.proofs.Common.{◌≡◌, ◌≢◌, ℕ, ◌+◌, ◌⊎◌, Bool, true, false, List, [], ◌∷◌, ◌++◌, refl, sym, ap, subst, ◌∙◌, inl, inr, arith, append_assoc, append-nil}
use Rattle.std.specs.Prelude.{All}
use Rattle.std.specs.List.{flat_map}
use Rattle.std.proofs.lemmas.Bool.{false≢true}
use Rattle.std.proofs.lemmas.List.Elements.{All-head, All-tail, All-nil, All-cons, All-append}
use Rattle.httparse.specs.Grammar.{is_token_byte, is_uri_byte, is_value_byte, AllPass, LineEnd, crlf, lf, print_end, print_blank, print_version, Field, IsField, print_field, print_section, RequestHead, IsRequestHead, print_request}
use Rattle.httparse.proofs.GrammarLemmas.{cons-append, print_request-append}

-- ---- one line

-- the bytes have no line feed
abbrev pub IsPlain : List ℕ → Type 0
IsPlain bytes = All (λ b. b ≢ 10) bytes

pub plain_pass : (test : ℕ → Bool) (bytes : List ℕ) → test 10 ≡ false → AllPass test bytes → IsPlain bytes
plain_pass test bytes stops all k d inside e =
    false≢true (sym stops ∙ subst (λ b. test b ≡ true) e (all k d inside))

-- a line feed stands at the end of the first line, or after it
pub line_cut : (line rest front more : List ℕ) → IsPlain line → line ++ 10 ∷ rest ≡ front ++ 10 ∷ more
    → ((front ≡ line) × (rest ≡ more)) ⊎ ((inside : List ℕ) × (front ≡ line ++ 10 ∷ inside) × (rest ≡ inside ++ 10 ∷ more))
line_cut [] rest [] more plain e = inl (refl, cc)
line_cut [] rest (f ∷ front) more plain e = inr (front, cc, cc)
line_cut (x ∷ line) rest [] more plain e = absurd (All-head (λ b. b ≢ 10) x line plain (cc))
line_cut (x ∷ line) rest (f ∷ front) more plain e =
    by (line_cut line rest front more (All-tail (λ b. b ≢ 10) x line plain) (cc))
  where
    by : ((front ≡ line) × (rest ≡ more)) ⊎ ((inside : List ℕ) × (front ≡ line ++ 10 ∷ inside) × (rest ≡ inside ++ 10 ∷ more))
        → (((f ∷ front) ≡ (x ∷ line)) × (rest ≡ more)) ⊎ ((inside : List ℕ) × ((f ∷ front) ≡ (x ∷ line) ++ 10 ∷ inside) × (rest ≡ inside ++ 10 ∷ more))
    by (inl (same, after)) = inl (cc, after)
    by (inr (inside, same, after)) = inr (inside, cc, after)

-- ---- lines of one kind

-- how the lines of a kind are printed, each with one line feed, at its end
pub record AreLinesOf {X : Type 0} (print body : X → List ℕ) (Valid : X → Type 0) : Type 0 where
  pub ends : (x : X) → print x ≡ body x ++ 10 ∷ []
  pub plain : (x : X) → Valid x → IsPlain (body x)

pub first_line : {X : Type 0} (print body : X → List ℕ) (Valid : X → Type 0) → AreLinesOf print body Valid
    → (x : X) (xs : List X) (tail : List ℕ) → flat_map print (x ∷ xs) ++ tail ≡ body x ++ 10 ∷ (flat_map print xs ++ tail)
first_line print body Valid kind x xs tail =
    append_assoc (print x) (flat_map print xs) tail
    ∙ ap (λ l. l ++ (flat_map print xs ++ tail)) (kind.ends x)
    ∙ append_assoc (body x) (10 ∷ []) (flat_map print xs ++ tail)

pub lines_cut : {X : Type 0} (print body : X → List ℕ) (Valid : X → Type 0) → AreLinesOf print body Valid
    → (xs : List X) (tail front more : List ℕ) → All Valid xs → flat_map print xs ++ tail ≡ front ++ 10 ∷ more
    → ((ys : List X) × All Valid ys × (front ++ 10 ∷ [] ≡ flat_map print ys))
    ⊎ ((inside : List ℕ) × (front ≡ flat_map print xs ++ inside) × (tail ≡ inside ++ 10 ∷ more))
lines_cut print body Valid kind [] tail front more valid e = inr (front, refl, e)
lines_cut {X} print body Valid kind (x ∷ xs) tail front more valid e =
    by (line_cut (body x) (flat_map print xs ++ tail) front more (kind.plain x here) (sym (first_line print body Valid kind x xs tail) ∙ e))
    (λ inside after. lines_cut print body Valid kind xs tail inside more (All-tail Valid x xs valid) after)
  where
    here : Valid x
    here = All-head Valid x xs valid

    Cut : List X → List ℕ → Type 0
    Cut zs begin =
        ((ys : List X) × All Valid ys × (begin ++ 10 ∷ [] ≡ flat_map print ys))
        ⊎ ((inside : List ℕ) × (begin ≡ flat_map print zs ++ inside) × (tail ≡ inside ++ 10 ∷ more))

    later : (inside : List ℕ) → front ≡ body x ++ 10 ∷ inside → Cut xs inside → Cut (x ∷ xs) front
    later inside is (inl (ys, all, same)) =
        inl (
          x ∷ ys,
          All-cons Valid x ys here all,
          ap (λ l. l ++ 10 ∷ []) is ∙ append_assoc (body x) (10 ∷ inside) (10 ∷ [])
              ∙ ap (λ l. body x ++ 10 ∷ l) same ∙ sym (append_assoc (body x) (10 ∷ []) (flat_map print ys))
              ∙ ap (λ l. l ++ flat_map print ys) (sym (kind.ends x)),
        )
    later inside is (inr (deeper, same, after)) =
        inr (deeper, is ∙ ap (λ l. body x ++ 10 ∷ l) same ∙ sym (first_line print body Valid kind x xs deeper), after)

    by : ((front ≡ body x) × (flat_map print xs ++ tail ≡ more)) ⊎ ((inside : List ℕ) × (front ≡ body x ++ 10 ∷ inside) × (flat_map print xs ++ tail ≡ inside ++ 10 ∷ more))
        → ((inside : List ℕ) → flat_map print xs ++ tail ≡ inside ++ 10 ∷ more → Cut xs inside) → Cut (x ∷ xs) front
    by (inl (same, after)) cut =
        inl (x ∷ [], All-cons Valid x [] here (All-nil Valid), ap (λ l. l ++ 10 ∷ []) same ∙ sym (kind.ends x) ∙ sym (append-nil (print x)))
    by (inr (inside, is, after)) cut = later inside is (cut inside after)

-- ---- the lines of a head

abbrev pub end_body : LineEnd → List ℕ
end_body crlf = 13 ∷ []
end_body lf = []

pub end_is : (e : LineEnd) → print_end e ≡ end_body e ++ 10 ∷ []
end_is crlf = refl
end_is lf = refl

pub end_plain : (e : LineEnd) → IsPlain (end_body e)
end_plain crlf = All-cons (λ b. b ≢ 10) 13 [] (λ e. omega arith) (All-nil (λ b. b ≢ 10))
end_plain lf = All-nil (λ b. b ≢ 10)

pub plain_append : (a b : List ℕ) → IsPlain a → IsPlain b → IsPlain (a ++ b)
plain_append a b = All-append (λ v. v ≢ 10) a b

pub plain_cons : (v : ℕ) (a : List ℕ) → v ≢ 10 → IsPlain a → IsPlain (v ∷ a)
plain_cons v a = All-cons (λ w. w ≢ 10) v a

pub token_plain : (bytes : List ℕ) → AllPass is_token_byte bytes → IsPlain bytes
unfolding is_token_byte
token_plain bytes all = plain_pass is_token_byte bytes refl all

pub empty_lines : AreLinesOf print_end end_body (λ e. e ≡ e)
empty_lines = record { ends = end_is; plain = λ e any. end_plain e }

abbrev pub field_body : Field → List ℕ
field_body f = f.name ++ (58 ∷ (f.raw ++ end_body f.end))

regroup : (a b e f : List ℕ) → e ≡ f ++ 10 ∷ [] → a ++ 58 ∷ b ++ e ≡ (a ++ (58 ∷ (b ++ f))) ++ 10 ∷ []
regroup a b e f is = rw is (simp (append_assoc, cons-append))

pub field_lines : AreLinesOf print_field field_body IsField
field_lines = record {
  ends = λ f. regroup f.name f.raw (print_end f.end) (end_body f.end) (end_is f.end);
  plain = λ f valid.
      plain_append f.name _ (token_plain f.name valid.name.1)
      (plain_cons 58 _ (λ e. omega arith) (plain_append f.raw _ (plain_pass is_value_byte f.raw refl valid.raw) (end_plain f.end)));
}

abbrev pub start_body : RequestHead → List ℕ
start_body h = h.method ++ (32 ∷ (h.target ++ (32 ∷ (print_version h.minor ++ end_body h.line_end))))

pub version_plain : (minor : ℕ) → IsPlain (print_version minor)
version_plain minor =
    plain_append (72 ∷ 84 ∷ 84 ∷ 80 ∷ 47 ∷ 49 ∷ 46 ∷ []) ((48 + minor) ∷ [])
    (plain_cons 72 (84 ∷ 84 ∷ 80 ∷ 47 ∷ 49 ∷ 46 ∷ []) (λ e. omega arith) (plain_cons 84 (84 ∷ 80 ∷ 47 ∷ 49 ∷ 46 ∷ []) (λ e. omega arith)
    (plain_cons 84 (80 ∷ 47 ∷ 49 ∷ 46 ∷ []) (λ e. omega arith) (plain_cons 80 (47 ∷ 49 ∷ 46 ∷ []) (λ e. omega arith)
    (plain_cons 47 (49 ∷ 46 ∷ []) (λ e. omega arith) (plain_cons 49 (46 ∷ []) (λ e. omega arith) (plain_cons 46 [] (λ e. omega arith)
    (All-nil (λ b. b ≢ 10)))))))))
    (plain_cons (48 + minor) [] (λ e. omega arith) (All-nil (λ b. b ≢ 10)))

pub start_plain : (h : RequestHead) → IsRequestHead h → IsPlain (start_body h)
start_plain h valid =
    plain_append h.method _ (token_plain h.method valid.method.1)
    (plain_cons 32 _ (λ e. omega arith) (plain_append h.target _ (plain_pass is_uri_byte h.target refl valid.target.1)
    (plain_cons 32 (print_version h.minor ++ end_body h.line_end) (λ e. omega arith) (plain_append (print_version h.minor) (end_body h.line_end) (version_plain h.minor) (end_plain h.line_end)))))

-- the empty lines and the request line
abbrev pub start_text : RequestHead → List ℕ
start_text h = print_blank h.blank ++ (start_body h ++ 10 ∷ [])

pub request_text : (h : RequestHead) → print_request h ≡ start_text h ++ print_section h.fields h.last
request_text h =
    sym (append-nil (print_request h)) ∙ print_request-append h []
    ∙ regroup (print_blank h.blank) h.method h.target (print_version h.minor) (print_end h.line_end) (end_body h.line_end)
    (print_section h.fields h.last) (end_is h.line_end)
  where
    regroup : (a b c d e f s : List ℕ) → e ≡ f ++ 10 ∷ []
        → a ++ (b ++ 32 ∷ (c ++ 32 ∷ (d ++ (e ++ (s ++ []))))) ≡ (a ++ ((b ++ (32 ∷ (c ++ (32 ∷ (d ++ f))))) ++ 10 ∷ [])) ++ s
    regroup a b c d e f s is = rw is (simp (append_assoc, cons-append, append-nil))
