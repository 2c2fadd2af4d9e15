-- Requests one after another.
use Rattle.std.proofs.Common.{◌≡◌, Bool, true, false, cond, ◌||◌, List, [], ◌∷◌, ◌++◌, Option, Some, None, find, true≢false, refl, sym, ap, ◌∙◌}
use Rattle.std.specs.Option.{is_some}
use Rattle.std.specs.FinMap as finite
use Rattle.std.specs.FinMap.{FinMap, get-insert}
use Rattle.ee_desk_model.specs.Numbers.{RequestKey, number_cmp, same_number, number_of}
use Rattle.ee_desk_model.proofs.RequestNumbers.{numbers_total, numbers_tied, number_is}
use Rattle.ee_desk_model.specs.declared.acts.Request.{Request}
use Rattle.ee_desk_model.specs.declared.changes.Kept.{Kept}
use Rattle.ee_desk_model.specs.Outcomes.{act}
use Rattle.ee_desk_model.specs.Repeats.{Content, firsts, once}
use Rattle.ee_desk_model.specs.Contents.{acted, books_after, noted, content_after}
use Rattle.ee_desk_model.specs.Answers.{reply_again, is_of, before, answer_by, answer_for, answer}

-- the content after one request
abbrev pub one : Content → Request → Content
one S q = content_after S (q ∷ [])

pub get_more : (kept : FinMap number_cmp Kept) (n : RequestKey) (k : Kept) (m : RequestKey) → finite.get (finite.insert kept n k) m ≡ cond (same_number m n) (Some k) (finite.get kept m)
get_more kept n k m = get-insert numbers_total kept n k m ∙ ap (λ b. cond b (Some k) (finite.get kept m)) (numbers_tied m n)

some_or : {A : Type 0} (b : Bool) (k : A) (o : Option A) → is_some (cond b (Some k) o) ≡ (is_some o || b)
some_or true k None = refl
some_or true k (Some x) = refl
some_or false k None = refl
some_or false k (Some x) = refl

pub known_more : (kept : FinMap number_cmp Kept) (n : RequestKey) (k : Kept) (m : RequestKey) → finite.contains_key (finite.insert kept n k) m ≡ (finite.contains_key kept m || same_number m n)
known_more kept n k m = ap is_some (get_more kept n k m) ∙ some_or (same_number m n) k (finite.get kept m)

-- the content after requests whose numbers are new and differ
abbrev pub through : Content → List Request → Content
through S L = record { books = acted S.books L; kept = noted S.books S.kept L }

abbrev pub noted_one : Content → Request → Content
noted_one S q = record { books = (act S.books q.act).books; kept = finite.insert S.kept (number_of q) (record { act = q.act; reply = (act S.books q.act).reply }) }

-- a request whose number is kept changes nothing
pub one_known : (S : Content) (q : Request) → finite.contains_key S.kept (number_of q) ≡ true → one S q ≡ S
one_known S q e = ap (λ b. through S (cond b [] (q ∷ []))) e

pub one_new : (S : Content) (q : Request) → finite.contains_key S.kept (number_of q) ≡ false → one S q ≡ noted_one S q
one_new S q e = ap (λ b. through S (cond b [] (q ∷ []))) e

step_known : (S : Content) (q : Request) (L : List Request) → finite.contains_key S.kept (number_of q) ≡ true → content_after S (q ∷ L) ≡ content_after (one S q) L
step_known S q L e =
    ap (λ b. through S (cond b (once S L) (q ∷ firsts (λ n. finite.contains_key S.kept n || same_number n (number_of q)) L))) e
    ∙ ap (λ T. content_after T L) (sym (one_known S q e))

step_new : (S : Content) (q : Request) (L : List Request) → finite.contains_key S.kept (number_of q) ≡ false → content_after S (q ∷ L) ≡ content_after (one S q) L
step_new S q L e =
    ap (λ b. through S (cond b (once S L) (q ∷ firsts (λ n. finite.contains_key S.kept n || same_number n (number_of q)) L))) e
    ∙ ap (λ (f : RequestKey → Bool). through (noted_one S q) (firsts f L)) (λ i n. sym (known_more S.kept (number_of q) (record { act = q.act; reply = (act S.books q.act).reply }) n) i)
    ∙ ap (λ T. content_after T L) (sym (one_new S q e))

-- after a first request, the others go on from what it left
pub content_step : (S : Content) (q : Request) (L : List Request) → content_after S (q ∷ L) ≡ content_after (one S q) L
content_step S q L =
    elim (finite.contains_key S.kept (number_of q)) as (λ b. finite.contains_key S.kept (number_of q) ≡ b → content_after S (q ∷ L) ≡ content_after (one S q) L)
    [ true ↦ step_known S q L | false ↦ step_new S q L ] refl

-- requests after others
pub content_append : (S : Content) (L M : List Request) → content_after (content_after S L) M ≡ content_after S (L ++ M)
content_append S [] M = refl
content_append S (q ∷ L) M =
    ap (λ T. content_after T M) (content_step S q L) ∙ content_append (one S q) L M ∙ sym (content_step S q (L ++ M))

books_step : (S : Content) (q : Request) (L : List Request) → books_after S (q ∷ L) ≡ books_after (one S q) L
books_step S q L = ap (λ T. T.books) (content_step S q L)

-- what a number has after a request of another number, or if it was kept
pub kept_other : (S : Content) (r : Request) (n : RequestKey) → same_number n (number_of r) ≡ false → finite.get (one S r).kept n ≡ finite.get S.kept n
kept_other S r n apart =
    elim (finite.contains_key S.kept (number_of r)) as (λ b. finite.contains_key S.kept (number_of r) ≡ b → finite.get (one S r).kept n ≡ finite.get S.kept n) [
      | true ↦ λ e. ap (λ T. finite.get T.kept n) (one_known S r e)
      | false ↦ λ e. ap (λ T. finite.get T.kept n) (one_new S r e) ∙ get_more S.kept (number_of r) _ n ∙ ap (λ b. cond b (Some (record { act = r.act; reply = (act S.books r.act).reply })) (finite.get S.kept n)) apart
    ] refl

-- what a number that wasn't kept has after its request
pub kept_own : (S : Content) (r : Request) (n : RequestKey) → finite.contains_key S.kept (number_of r) ≡ false → same_number n (number_of r) ≡ true → finite.get (one S r).kept n ≡ Some (record { act = r.act; reply = (act S.books r.act).reply })
kept_own S r n new same =
    ap (λ T. finite.get T.kept n) (one_new S r new) ∙ get_more S.kept (number_of r) (record { act = r.act; reply = (act S.books r.act).reply }) n
    ∙ ap (λ b. cond b (Some (record { act = r.act; reply = (act S.books r.act).reply })) (finite.get S.kept n)) same

-- the answer by a first request of another number than r's
answer_by_step : (S : Content) (r : Request) (L : List Request) (q : Request) (first : Option Request) → same_number (number_of q) (number_of r) ≡ false
    → answer_by S (r ∷ L) q first ≡ answer_by (one S r) L q first
answer_by_step S r L q None apart = ap (λ b. (act b q.act).reply) (books_step S r L)
answer_by_step S r L q (Some f) apart =
    ap (λ b. reply_again f.act (act (books_after S (cond b [] (r ∷ before (number_of q) L))) f.act).reply q.act) apart
    ∙ ap (λ b. reply_again f.act (act b f.act).reply q.act) (books_step S r (before (number_of q) L))

-- the same number: the first request is r
answer_own : (S : Content) (r : Request) (L : List Request) (q : Request) → finite.get S.kept (number_of q) ≡ None → same_number (number_of q) (number_of r) ≡ true → finite.contains_key S.kept (number_of r) ≡ false
    → answer S (r ∷ L) q ≡ answer (one S r) L q
answer_own S r L q none same new =
    ap (answer_for S (r ∷ L) q) none
    ∙ ap (λ b. answer_by S (r ∷ L) q (cond b (Some r) (find (is_of (number_of q)) L))) same
    ∙ ap (λ b. reply_again r.act (act (books_after S (cond b [] (r ∷ before (number_of q) L))) r.act).reply q.act) same
    ∙ sym (ap (answer_for (one S r) L q) (kept_own S r (number_of q) new same))

-- another number
answer_apart : (S : Content) (r : Request) (L : List Request) (q : Request) (kept : Option Kept) → finite.get S.kept (number_of q) ≡ kept → same_number (number_of q) (number_of r) ≡ false
    → answer S (r ∷ L) q ≡ answer (one S r) L q
answer_apart S r L q (Some k) is apart = ap (answer_for S (r ∷ L) q) is ∙ sym (ap (answer_for (one S r) L q) (kept_other S r (number_of q) apart ∙ is))
answer_apart S r L q None is apart =
    ap (answer_for S (r ∷ L) q) is
    ∙ ap (λ b. answer_by S (r ∷ L) q (cond b (Some r) (find (is_of (number_of q)) L))) apart
    ∙ answer_by_step S r L q (find (is_of (number_of q)) L) apart
    ∙ sym (ap (answer_for (one S r) L q) (kept_other S r (number_of q) apart ∙ is))

-- a number that is kept
answer_known : (S : Content) (r : Request) (L : List Request) (q : Request) → finite.contains_key S.kept (number_of r) ≡ true → (k : Kept) → finite.get S.kept (number_of q) ≡ Some k
    → answer S (r ∷ L) q ≡ answer (one S r) L q
answer_known S r L q known k is = ap (answer_for S (r ∷ L) q) is ∙ sym (ap (answer_for (one S r) L q) (ap (λ T. finite.get T.kept (number_of q)) (one_known S r known) ∙ is))

-- a number that isn't kept is another one than a kept one
unkept_apart : (kept : FinMap number_cmp Kept) (m n : RequestKey) → finite.contains_key kept n ≡ true → finite.get kept m ≡ None → (b : Bool) → same_number m n ≡ b → same_number m n ≡ false
unkept_apart kept m n known none true same = absurd (true≢false (sym known ∙ ap (λ k. finite.contains_key kept k) (sym (number_is m n same)) ∙ ap is_some none))
unkept_apart kept m n known none false apart = apart

answer_by_cases : (S : Content) (r : Request) (L : List Request) (q : Request) (known same : Bool) (kept : Option Kept)
    → finite.contains_key S.kept (number_of r) ≡ known → same_number (number_of q) (number_of r) ≡ same → finite.get S.kept (number_of q) ≡ kept
    → answer S (r ∷ L) q ≡ answer (one S r) L q
answer_by_cases S r L q true same (Some k) e d is = answer_known S r L q e k is
answer_by_cases S r L q true same None e d is = answer_apart S r L q None is (unkept_apart S.kept (number_of q) (number_of r) e is same d)
answer_by_cases S r L q false false kept e d is = answer_apart S r L q kept is d
answer_by_cases S r L q false true None e d is = answer_own S r L q is d e
answer_by_cases S r L q false true (Some k) e d is =
    absurd (true≢false (sym (ap is_some is) ∙ ap (λ n. finite.contains_key S.kept n) (number_is (number_of q) (number_of r) d) ∙ e))

answer_step : (S : Content) (r : Request) (L : List Request) (q : Request) → answer S (r ∷ L) q ≡ answer (one S r) L q
answer_step S r L q = answer_by_cases S r L q _ _ _ refl refl refl

-- the answer after requests is that at the content that they leave
pub answer_after : (S : Content) (L : List Request) (q : Request) → answer (content_after S L) [] q ≡ answer S L q
answer_after S [] q = refl
answer_after S (r ∷ L) q = ap (λ T. answer T [] q) (content_step S r L) ∙ answer_after (one S r) L q ∙ sym (answer_step S r L q)
