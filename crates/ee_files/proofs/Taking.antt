use Rattle.std.proofs.Common.{◌≡◌, ◌∙◌, ℕ, Bool, true, false, List, [], ◌∷◌, Option, Some, None, Result, Ok, Err, Bor, refl, sym, ap, inl, inr}
use Rattle.std.specs.Prelude.{MatchResult, IsUtf8, option_map}
use Rattle.std.specs.Result.{result_ok}
use Rattle.std.specs.Str.{is_utf8}
use Rattle.std.proofs.lemmas.Str.{IsUtf8-from_is_utf8, is_utf8-from_IsUtf8}
use Rattle.std.proofs.lemmas.Bool.{cases_Bool}
use Rattle.csv.specs.declared.parser.State.{State}
use Rattle.csv.specs.Machine.{next_record, Read}
use Rattle.std.proofs.lemmas.Option.{none-some, same_Some}
use Rattle.csv.specs.declared.reader.Trim.TheVariants as trim
use Rattle.csv.specs.Reading.{Reached, ReadRecord, Ready, default_config, reader_state, reader_trim, took_first}
use Rattle.csv.proofs.ReadFacts.{rows-more, rows-end}
use Rattle.ee_files.specs.Inner.Left.{HasLeft, TakesNext, TextReader}
use Rattle.ee_files.specs.Fields.{text_of}

-- `from_utf8`, as an option
pub text_is : {E : Type 0} (bytes : List ℕ) (r : Result (Bor (List ℕ)) E) → MatchResult r (λ s. (s.now ≡ bytes) × IsUtf8 bytes) (λ _. ¬ (IsUtf8 bytes)) → option_map (λ s. s.now) (result_ok r) ≡ text_of (Some bytes)
text_is bytes (Ok s) h = rw (is_utf8-from_IsUtf8 bytes h.1) (ap Some h.0)
text_is bytes (Err e) h = elim (cases_Bool (is_utf8 bytes)) [
  | inl holds ↦ absurd (h (IsUtf8-from_is_utf8 bytes holds))
  | inr fails ↦ rw fails refl
]

abbrev over : Bor (List ℕ) → Option (List ℕ)
over s = Some s.now

moved : (s t s2 : State) (xs zs ys : List ℕ) (rest : List (List (List ℕ))) → s ≡ t → xs ≡ zs → Reached default_config s xs rest s2 ys → Reached default_config t zs rest s2 ys
moved s t s2 xs zs ys rest e f h = rw (← e, ← f) h

-- one read takes the next of the records that are left
pub takes_next : (a b : TextReader) (found : Bool) (fields : List (List ℕ)) (rest : List (List (List ℕ))) → HasLeft a rest → ReadRecord over a b found fields → took_first b ≡ true → TakesNext b rest found fields
unfolding Reached
takes_next a b true fields [] h r first =
    let (s2, ys, reached, none) = h.records in
    let (z, source, step) = rows-more over a b fields default_config (reader_state a) h.text h.text [] h.config h.source (refl, refl) r in
    let (p, next, same, after) = step in
    let stuck : next_record default_config (reader_state a) [] [] h.text ≡ None = rw (reached.0, reached.1) none in
    absurd (none-some p (sym stuck ∙ next))
takes_next a b false fields [] h r first = refl
takes_next a b true fields (x ∷ rest) h r first =
    let (s2, ys, reached, none) = h.records in
    let (q, was, is, more) = reached in
    let (z, source, step) = rows-more over a b fields default_config (reader_state a) h.text h.text [] h.config h.source (refl, refl) r in
    let (p, next, same, after) = step in
    let both : p ≡ q = same_Some p q (sym next ∙ was) in (
      refl,
      same ∙ ap (λ (t : Read). t.0) both ∙ sym is,
      record {
        plain = r.3 ∙ h.plain;
        ready = inl first;
        config = r.2 ∙ h.config;
        text = z;
        source = source;
        records = (s2, ys, moved q.1 (reader_state b) s2 q.2 z ys rest (ap (λ (t : Read). t.1) (sym both) ∙ after.0) (ap (λ (t : Read). t.2) (sym both) ∙ after.1) more, none);
      },
    )
takes_next a b false fields (x ∷ rest) h r first =
    let (s2, ys, reached, none) = h.records in
    let (q, was, is, more) = reached in
    let gone = rows-end over a b fields default_config h.text h.config h.source r in
    absurd (none-some q (sym gone ∙ was))

-- a read that is `Ok`
pub takes_if_ok : (a b : TextReader) (fields : List (List ℕ)) (found : Bool) → (reader_trim a ≡ trim.None → Ready a → ReadRecord over a b found fields) → (reader_trim a ≡ trim.None → took_first b ≡ true)
    → (rest : List (List (List ℕ))) → HasLeft a rest → TakesNext b rest found fields
takes_if_ok a b fields found reads first rest h = takes_next a b found fields rest h (reads h.plain h.ready) (first h.plain)
