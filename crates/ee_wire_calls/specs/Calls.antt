-- What a message asks for, as a function of its target, its method and its body.
use Rattle.std.specs.Prelude.{◌≡◌, ◌≢◌, ℕ, if◌then◌else◌, List, codes, Option, Some, None, Result, Ok, Err, bytes_eq}
use Rattle.std.specs.Option.{ok_or}
use Rattle.std.specs.Str.{is_utf8}
use Rattle.serde_json.specs.Data.{Data}
use Rattle.serde_json.specs.Read.{read}
use Rattle.ee_wire_calls.specs.Bodies.{request_of}
use Rattle.ee_wire_calls.specs.Paths.{query_of}
use Rattle.ee_wire_calls.specs.Routes.{route_of}
use Rattle.ee_wire_calls.specs.declared.faults.Field.{Field}
use Rattle.ee_wire_calls.specs.declared.calls.Call.{Call}
use Rattle.ee_wire_calls.specs.declared.calls.Call.TheVariants.{Request, Query}
use Rattle.ee_wire_calls.specs.declared.faults.WireFault.{WireFault}
use Rattle.ee_wire_calls.specs.declared.faults.WireFault.TheVariants.{BadJson, BadField, NoRoute, BadMethod, NoMemory}
use Rattle.ee_wire_calls.specs.declared.faults.BodyFault.{BodyFault}
use Rattle.ee_wire_calls.specs.declared.faults.BodyFault.TheVariants as body
use Rattle.ee_wire_calls.specs.declared.routes.Route.{Route}
use Rattle.ee_wire_calls.specs.declared.routes.Route.TheVariants.{Post, Get}
use Rattle.ee_wire_calls.specs.declared.routes.Post as posts
use Rattle.ee_wire_calls.specs.declared.routes.Get as gets

abbrev pub IsOfBody : BodyFault → WireFault → Type 0
IsOfBody (body.Field f) e = e ≡ BadField f
IsOfBody body.NoMemory e = e ≡ NoMemory

-- the result is that of the definition, or memory was refused
abbrev pub IsUnlessMemory : {A : Type 0} → Result A WireFault → Result A WireFault → Type 0
IsUnlessMemory result meant = result ≢ Err NoMemory → result ≡ meant

-- the JSON value of the bytes
abbrev pub json_of : List ℕ → Option Data
json_of body = if is_utf8 body then read body else None

abbrev pub as_call : {A : Type 0} → (A → Call) → Result A Field → Result Call WireFault
as_call call (Ok x) = Ok (call x)
as_call call (Err f) = Err (BadField f)

abbrev pub posted : posts.Post → Option Data → Result Call WireFault
posted post None = Err BadJson
posted post (Some d) = as_call Request (request_of post d)

abbrev pub asked : gets.Get → List ℕ → Result Call WireFault
asked get path = as_call Query (query_of get path)

abbrev pub called : Route → List ℕ → List ℕ → List ℕ → Result Call WireFault
called (Post post) path method body = if bytes_eq method (codes "POST") then posted post (json_of body) else Err BadMethod
called (Get get) path method body = if bytes_eq method (codes "GET") then asked get path else Err BadMethod

abbrev pub routed : List ℕ → Result Route WireFault
routed path = ok_or (route_of path) NoRoute

infixl 10 ◌>>=◌
abbrev pub ◌>>=◌ : {A B : Type 0} → Result A WireFault → (A → Result B WireFault) → Result B WireFault
◌>>=◌ (Ok x) f = f x
◌>>=◌ (Err e) f = Err e

abbrev pub in_text : List ℕ → Result (List ℕ) WireFault
in_text path = if is_utf8 path then Ok path else Err NoRoute

-- the call of a message, or its first fault
unfoldable pub decoded : List ℕ → List ℕ → List ℕ → Result Call WireFault
decoded path method body = do
  text ← in_text path
  route ← routed text
  called route text method body
