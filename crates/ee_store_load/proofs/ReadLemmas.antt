-- What reading several tables in turn gives.
use Rattle.std.proofs.Common.{◌≡◌, ◌≢◌, Ok, Err, Result, IfOk, OnOk, sym, subst}
use Rattle.std.specs.Result.{IsErrAnd}
use Rattle.std.proofs.lemmas.Result.{on_ok_weaker}
use Rattle.sqlite.specs.Effect.{Database, IsDatabase}
use Rattle.sqlite.specs.State.{State, HasCleanDisk, IsUnchanged}
use Rattle.sqlite.proofs.Callers.{unchanged_then}
use Rattle.sqlite.proofs.InsideLemmas.{keeps_then}
use Rattle.ee_store_tables.proofs.Lemmas.Transactions.{clean_before}
use Rattle.ee_store_schema.specs.declared.faults.OpenFault.{OpenFault}
use Rattle.ee_store_schema.specs.declared.faults.OpenFault.TheVariants.{WrongVersion}
use Rattle.ee_store_schema.proofs.Lemmas.Causes.{then_survives}
use Rattle.ee_store_schema.specs.declared.forms.Form.{Form}
use Rattle.ee_store_schema.specs.Forms.{IsIn}
use Rattle.ee_store_schema.specs.Inner.Forms.{SeesForm, HasOurTables}
use Rattle.ee_store_load.specs.Inner.Reading.{IsSoundNow, OnlyLoads}

pub both_ok : {X E : Type 0} {P Q R : X → Type 0} (r : Result X E) → ((x : X) → P x → Q x → R x) → IfOk r P → IfOk r Q → IfOk r R
both_ok (Ok x) f p q = f x p q
both_ok (Err e) f p q = tt

pub sound_after : (a b : State) → IsUnchanged a b → IsSoundNow a → IsSoundNow b
sound_after a b same sound is_open = subst IsDatabase (sym same.0.now_is) (sound same.0.was_open)

pub each_ok : {X E : Type 0} {P Q : X → Type 0} (r : Result X E) → ((x : X) → P x → Q x) → IfOk r P → IfOk r Q
each_ok (Ok x) f p = f x p
each_ok (Err e) f p = tt

pub still_form : (form : Form) (a b : State) → IsUnchanged a b → SeesForm form a → SeesForm form b
still_form form a b same ours is_open = subst (λ (d : Database). IsIn form d.schema) (sym same.0.now_is) (ours same.0.was_open)

pub still_ours : (a b : State) → IsUnchanged a b → HasOurTables a → HasOurTables b
still_ours a b same ours = (ours.0, still_form ours.0 a b same ours.1)

-- ---- premises of results

pub under_ok : {X E A : Type 0} (P : X → Type 0) (r : Result X E) → (A → IfOk r P) → IfOk r (λ x. A → P x)
under_ok P (Ok x) f = f
under_ok P (Err e) f = tt

pub ok_then : {X E Q : Type 0} {P R : X → Type 0} (r : Result X E) → ((x : X) → P x → Q → R x) → IfOk r P → OnOk r Q → IfOk r R
ok_then (Ok x) f p q = f x p q
ok_then (Err e) f p q = tt

-- ---- what calls that read tables leave

-- two calls, one after the other
pub loads_then : {X Y : Type 0} (a b c : State) (x : X) (r : Result Y OpenFault) → OnlyLoads a b (Ok x) → OnlyLoads b c r → OnlyLoads a c r
loads_then a b c x r first next =
    let before : HasCleanDisk c → HasCleanDisk b = clean_before b c next.crash in
    record {
      same = λ clean. on_ok_weaker r (λ same. unchanged_then a b c (first.same (before clean)) same) (next.same clean);
      kept = λ clean. keeps_then a b c (first.kept (before clean)) (next.kept clean);
      outside = λ h. next.outside (first.outside h);
      other = next.other;
      crash = then_survives a b c first.crash next.crash;
    }

-- a value is made of what was read
pub loads_made : {X Y : Type 0} (a b : State) (x : X) (y : Y) → OnlyLoads a b (Ok x) → OnlyLoads a b (Ok y)
loads_made a b x y it = record { same = it.same; kept = it.kept; outside = it.outside; other = tt; crash = it.crash }

-- a fault is handed on
pub loads_failed : {X Y : Type 0} (a b : State) (fault : OpenFault) (r : Result Y OpenFault) → IsErrAnd r (λ f. f ≡ fault) → OnlyLoads {X = X} a b (Err fault) → OnlyLoads a b r
loads_failed a b fault (Ok y) is it = absurd is
loads_failed a b fault (Err f) is it = record { same = λ _. tt; kept = it.kept; outside = it.outside; other = subst (λ e. e ≢ WrongVersion) (sym is) it.other; crash = it.crash }
