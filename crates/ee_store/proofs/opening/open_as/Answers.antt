use Rattle.std.proofs.Common.{Bool, cond, List, [], ◌∷◌, ℕ, ◌≡◌, ◌∙◌, Option, Some, None, inl, inr, sym, ap, ap₂, subst, IfSome, IsSomeAnd}
use Rattle.std.proofs.lemmas.Result.{IfOk-weaker, IfErr-weaker}
use Rattle.sqlite_disk.specs.Events.{Event, replay, settled}
use Rattle.sqlite_disk.specs.History.{MayLeave, Reaches}
use Rattle.sqlite.specs.Recovery.{Image}
use Rattle.sqlite.specs.Held.{Held}
use Rattle.ee_store.specs.Holding.{KeepsHeld}
use Rattle.ee_store.specs.declared.opening.Rest.{Rest}
use Rattle.ee_store.specs.declared.opening.Rest.TheVariants.{Connection, Files}
use Rattle.ee_store.specs.Adopted.{IsOpenedFrom, IsRefusedFrom, IfConnection, IfFiles}
use Rattle.ee_store.proofs.opening.open_as.Goals as goal

abbrev image : List ℕ → List ℕ → Image
image log db = record { log = log; db = db }

abbrev seen : List ℕ → List ℕ → Bool → List Event → List ℕ
seen log db is_log history = (replay (cond is_log log db) history).seen

-- a crash leaves of a file that was just opened what it holds
only_seen : (mixes : Bool) (start : List ℕ) (events : List Event) (key : ℕ) (c : List ℕ) → events ≡ settled key ∷ []
    → MayLeave mixes (replay start events).seen (replay start events).synced (replay start events).steps c → c ≡ (replay start events).seen
only_seen mixes start events key c is may =
    let none : (replay start events).steps ≡ [] = ap (λ (h : List Event). (replay start h).steps) is in
    let synced : (replay start events).synced ≡ (replay start events).seen = ap (λ (h : List Event). (replay start h).synced) is ∙ sym (ap (λ (h : List Event). (replay start h).seen) is) in
    elim may [ inl seen ↦ seen | inr reached ↦ subst (λ steps. Reaches mixes (replay start events).synced steps c) none reached ∙ synced ]

connection_weaker : {S L : Type 0} (rest : Rest S L) (P Q : Held S → Type 0) → ((conn : Held S) → P conn → Q conn) → IfConnection rest P → IfConnection rest Q
connection_weaker (Connection conn) P Q f h = f conn h
connection_weaker (Files left) P Q f h = tt

files_weaker : {S L : Type 0} (rest : Rest S L) (P Q : Option L → Type 0) → ((left : Option L) → P left → Q left) → IfFiles rest P → IfFiles rest Q
files_weaker (Connection conn) P Q f h = tt
files_weaker (Files left) P Q f h = f left h

is_left : {L : Type 0} (left : Option L) (P Q : L → Type 0) → ((x : L) → P x → Q x) → IsSomeAnd left P → IfSome left Q
is_left None P Q f h = tt
is_left (Some x) P Q f h = f x h

is_there : {L X : Type 0} (left : Option L) (P : L → Type 0) → IsSomeAnd left P → left ≡ None → X
is_there None P h none = absurd h
is_there (Some x) P h none = absurd (cc)

pub returns-in-Ok-clause-opened : goal.returns-in-Ok-clause-opened
returns-in-Ok-clause-opened g c =
    let (log, db) = c.in-Ok.ensures.fresh in
    let same = ap₂ image (ap₂ (seen g.F.Start.log g.F.Start.db) log.0 log.1) (ap₂ (seen g.F.Start.log g.F.Start.db) db.0 db.1) in
    IfOk-weaker c.open_on.result _ _ (λ keeper opened clean. subst (λ i. IsOpenedFrom i keeper.conn) same (opened clean)) c.open_on.ensures.opened

pub returns-in-Ok-clause-refused : goal.returns-in-Ok-clause-refused
returns-in-Ok-clause-refused g c =
    let (log, db) = c.in-Ok.ensures.fresh in
    let same = ap₂ image (ap₂ (seen g.F.Start.log g.F.Start.db) log.0 log.1) (ap₂ (seen g.F.Start.log g.F.Start.db) db.0 db.1) in
    IfErr-weaker c.open_on.result _ _ (λ not. connection_weaker not.rest _ _ (λ conn refused clean. subst (λ i. IsRefusedFrom i not.fault conn) same (refused clean))) c.open_on.ensures.refused

each_cause : {C : Type 0} (cause : Option C) (P Q : C → Type 0) → ((x : C) → P x → Q x) → IsSomeAnd cause P → IsSomeAnd cause Q
each_cause None P Q f h = h
each_cause (Some x) P Q f h = f x h

pub returns-in-Ok-clause-cause : goal.returns-in-Ok-clause-cause
returns-in-Ok-clause-cause g c =
    let fresh = c.in-Ok.ensures.fresh in
    IfErr-weaker c.open_on.result _ _ (λ not. files_weaker not.rest _ _ (λ left. is_left left _ _ (λ it. each_cause not.cause _ _ (λ cause why.
    (c.in-Ok.found.0, fresh.0, fresh.1, why))))) c.open_on.ensures.cause

pub returns-in-Ok-clause-left : goal.returns-in-Ok-clause-left
returns-in-Ok-clause-left g c =
    let fresh = c.in-Ok.ensures.fresh in
    IfErr-weaker c.open_on.result _ _ (λ not. files_weaker not.rest _ _ (λ left. is_left left _ _ (λ it leaves. (c.in-Ok.found.0, fresh.0, fresh.1, leaves)))) c.open_on.ensures.left

pub returns-in-Ok-clause-held : goal.returns-in-Ok-clause-held
returns-in-Ok-clause-held g c =
    let (log, db) = c.in-Ok.ensures.fresh in
    let same = ap₂ image (ap₂ (seen g.F.Start.log g.F.Start.db) log.0 log.1) (ap₂ (seen g.F.Start.log g.F.Start.db) db.0 db.1) in
    IfErr-weaker c.open_on.result _ _ (λ not. files_weaker not.rest _ _ (λ left. is_left left _ _ (λ it held clean.
    subst (λ i. KeepsHeld i it) same (held clean (λ found may. ap₂ image (only_seen _ _ _ _ found.log log.1 may.0) (only_seen _ _ _ _ found.db db.1 may.1)))))) c.open_on.ensures.held

pub returns-in-Ok-clause-nothing : goal.returns-in-Ok-clause-nothing
returns-in-Ok-clause-nothing g c = IfErr-weaker c.open_on.result _ _ (λ not. files_weaker not.rest _ _ (λ left some none. is_there left _ some none)) c.open_on.ensures.left
