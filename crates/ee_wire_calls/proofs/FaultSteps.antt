-- From a body's fault to a message's.
use Rattle.std.proofs.Common.{◌≡◌, ℕ, Bool, true, false, List, Result, Ok, Err, refl, sym, ap, ◌∙◌, cond}
use Rattle.std.specs.Str.{is_utf8, IsUtf8}
use Rattle.std.proofs.lemmas.Str.{IsUtf8-from_is_utf8, is_utf8-from_IsUtf8}
use Rattle.ee_wire_calls.specs.declared.faults.Field.{Field}
use Rattle.ee_desk_model.specs.declared.acts.Request.{Request}
use Rattle.ee_wire_calls.specs.declared.calls.Call.TheVariants as call
use Rattle.ee_wire_calls.specs.declared.faults.BodyFault.{BodyFault}
use Rattle.ee_wire_calls.specs.declared.faults.BodyFault.TheVariants as body
use Rattle.ee_wire_calls.specs.declared.faults.WireFault.{WireFault}
use Rattle.ee_wire_calls.specs.declared.faults.WireFault.TheVariants.{NoRoute}
use Rattle.ee_wire_calls.specs.Inner.Bodies.{Fails}
use Rattle.ee_wire_calls.specs.declared.routes.Route.{Route}
use Rattle.ee_wire_calls.specs.Calls.{IsOfBody, IsUnlessMemory, as_call, in_text, decoded, routed, called, ◌>>=◌}

pub fault_of : (b : BodyFault) (e : WireFault) (meant : Result Request Field) → Fails b meant → IsOfBody b e → IsUnlessMemory (Err e) (as_call call.Request meant)
fault_of (body.Field f) e meant is of = λ _. ap Err of ∙ sym (ap (as_call call.Request) is)
fault_of body.NoMemory e meant is of = λ other. absurd (other (ap Err of))

pub text_of : (path : List ℕ) → IsUtf8 path → in_text path ≡ Ok path
text_of path h = ap (λ b. cond b (Ok path) (Err NoRoute)) (is_utf8-from_IsUtf8 path h)

pub no_text : (path : List ℕ) → ¬ (IsUtf8 path) → in_text path ≡ Err NoRoute
no_text path h = by (is_utf8 path) (IsUtf8-from_is_utf8 path)
  where
    by : (b : Bool) → (b ≡ true → IsUtf8 path) → cond b (Ok path) (Err NoRoute) ≡ Err NoRoute
    by true text = absurd (h (text refl))
    by false text = refl

pub decoded_none : (path method body : List ℕ) → ¬ (IsUtf8 path) → Err NoRoute ≡ decoded path method body
unfolding decoded
decoded_none path method body h = ap (λ x. x >>= λ text. routed text >>= λ route. called route text method body) (sym (no_text path h))

pub decoded_some : (path method body text : List ℕ) (route : Route) → text ≡ path → IsUtf8 path → Ok route ≡ routed text → called route text method body ≡ decoded path method body
unfolding decoded
decoded_some path method body text route same utf8 is =
    ap (λ r. r >>= λ ro. called ro text method body) is
    ∙ ap (λ t. routed t >>= λ ro. called ro t method body) same
    ∙ ap (λ x. x >>= λ t. routed t >>= λ ro. called ro t method body) (sym (text_of path utf8))
