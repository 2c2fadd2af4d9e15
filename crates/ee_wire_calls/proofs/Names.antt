-- The names of an object's fields.
use Rattle.std.proofs.Common.{◌≡◌, ℕ, Bool, true, false, ◌&&◌, ◌||◌, List, [], ◌∷◌, map, Some, None, Ok, Err, cond, refl, sym, ap, ◌∙◌, String, string_bytes, bytes_eq}
use Rattle.std.specs.Borrow.{Bor}
use Rattle.std.specs.List.{list_all, list_any}
use Rattle.std.specs.declared.alloc.Global.{Global}
use Rattle.std.specs.Map.{keys_of}
use Rattle.serde_json.specs.Data.{Data, null, boolean, number, string, array, object, Members}
use Rattle.serde_json.specs.Find.{as_object}
use Rattle.serde_json.specs.View.{members_view}
use Rattle.serde_json.specs.declared.value.Value.{Value}
use Rattle.ee_wire_calls.specs.declared.faults.Field.TheVariants.{Other}
use Rattle.std.specs.Str.{is_utf8, IsUtf8}
use Rattle.std.proofs.lemmas.Str.{IsUtf8-from_is_utf8, is_utf8-from_IsUtf8}
use Rattle.serde_json.specs.Read.{read}
use Rattle.serde_json.specs.Errors.{IsMemory}
use Rattle.serde_json.specs.declared.error.Error.{Error}
use Rattle.std.specs.Prelude.{◌↔◌, IsTrue}
use Rattle.std.proofs.lemmas.Bool.{false≢true}
use Rattle.ee_wire_calls.specs.Fields.{keys, no_other}
use Rattle.ee_wire_calls.specs.Inner.Views.{text_at}
use Rattle.ee_wire_calls.specs.Calls.{json_of}

pub any_text : (names : List (Bor (List ℕ))) (k : List ℕ) → list_any (λ n. bytes_eq n k) (map text_at names) ≡ list_any (λ n. bytes_eq n.now k) names
any_text [] k = refl
any_text (n ∷ ns) k = ap (λ b. bytes_eq n.now k || b) (any_text ns k)

pub all_named : (names : List (Bor (List ℕ))) (es : List (String Global × Value))
    → list_all (λ k. list_any (λ n. bytes_eq n k) (map text_at names)) (keys (members_view es))
    ≡ list_all (λ k. list_any (λ n. bytes_eq n.now (string_bytes k)) names) (keys_of es)
all_named names [] = refl
all_named names (e ∷ es) = λ i. any_text names (string_bytes e.0) i && all_named names es i

pub of_object : (names : List (List ℕ)) (d : Data) (ms : Members) (b : Bool) → Some ms ≡ as_object d
    → list_all (λ k. list_any (λ n. bytes_eq n k) names) (keys ms) ≡ b → no_other names d ≡ cond b (Ok tt) (Err Other)
of_object names (object os) ms b is all = ap (λ v. cond v (Ok tt) (Err Other)) (ap (λ m. list_all (λ k. list_any (λ n. bytes_eq n k) names) (keys m)) (let k : os ≡ ms = cc in k) ∙ all)
of_object names null ms b is all = absurd (cc)
of_object names (boolean x) ms b is all = absurd (cc)
of_object names (number n) ms b is all = absurd (cc)
of_object names (string s) ms b is all = absurd (cc)
of_object names (array ds) ms b is all = absurd (cc)

pub of_other : (names : List (List ℕ)) (d : Data) → None ≡ as_object d → no_other names d ≡ Ok tt
of_other names (object os) is = absurd (cc)
of_other names null is = refl
of_other names (boolean x) is = refl
of_other names (number n) is = refl
of_other names (string s) is = refl
of_other names (array ds) is = refl

-- ---- JSON from bytes

pub json_some : (body : List ℕ) (d : Data) → IsUtf8 body → read body ≡ Some d → json_of body ≡ Some d
json_some body d text is = ap (λ b. cond b (read body) None) (is_utf8-from_IsUtf8 body text) ∙ is

pub json_none : (body : List ℕ) → (IsUtf8 body → read body ≡ None) → json_of body ≡ None
json_none body none = by (is_utf8 body) (IsUtf8-from_is_utf8 body)
  where
    by : (b : Bool) → (b ≡ true → IsUtf8 body) → cond b (read body) None ≡ None
    by true text = none (text refl)
    by false text = refl

pub not_memory : (e : Error) (b : Bool) → b ≡ false → (IsTrue b ↔ IsMemory e) → ¬ (IsMemory e)
not_memory e b is test memory = false≢true (sym is ∙ test.1 memory)
