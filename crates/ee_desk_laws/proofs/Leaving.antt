-- What a keeper's calls ensure, in the words of the events.
use Rattle.std.proofs.Common.{◌≡◌, ◌⊎◌, inl, inr, true, false, cond, List, [], ◌∷◌, refl, sym, subst}
use Rattle.std.specs.List.{Contains}
use Rattle.std.specs.FinMap as finite
use Rattle.ee_desk_model.specs.declared.acts.Request.{Request}
use Rattle.ee_desk_model.specs.Numbers.{number_of}
use Rattle.ee_desk_model.specs.Repeats.{Content}
use Rattle.ee_desk_laws.specs.Events.{Told, World, Happens, one, decided, unserved, stopped}
use Rattle.ee_desk_laws.specs.Events.Event.{Stop_between, Reopen}
use Rattle.ee_desk_laws.specs.Ties.{Leaves}
use Rattle.ee_desk_laws.proofs.Elements.{at_head, in_tail}

pub leaves_new : {Disk : Type 0} (Stands : Disk → Content → Type 0) (may_leave : Disk → Type 0) (w : World) (q : Request) (told : List Told)
    → finite.contains_key w.now.kept (number_of q) ≡ false → ((disk : Disk) → may_leave disk → Stands disk (one w.now q)) → Leaves Stands may_leave (decided w q told)
leaves_new Stands may_leave w q told new h disk may =
    (one w.now q, subst (λ b. Contains (cond b w.may (one w.now q ∷ [])) (one w.now q)) (sym new) (at_head (one w.now q) []), h disk may)

pub leaves_kept : {Disk : Type 0} (Stands : Disk → Content → Type 0) (old new : Disk → Type 0) (w : World) (q : Request) (told : List Told)
    → finite.contains_key w.now.kept (number_of q) ≡ true → ((disk : Disk) → new disk → old disk) → Leaves Stands old w → Leaves Stands new (decided w q told)
leaves_kept Stands old new w q told known h l disk may =
    let c = l disk (h disk may) in (c.0, subst (λ b. Contains (cond b w.may (one w.now q ∷ [])) c.0) (sym known) c.1, c.2)

pub leaves_unserved : {Disk : Type 0} (Stands : Disk → Content → Type 0) (old new : Disk → Type 0) (w : World) (q : Request)
    → ((disk : Disk) → new disk → old disk ⊎ Stands disk (one w.now q)) → Leaves Stands old w → Leaves Stands new (unserved w q)
leaves_unserved {Disk = Disk} Stands old new w q h l disk may = by_case (h disk may)
  where
    by_case : old disk ⊎ Stands disk (one w.now q) → (left : Content) × Contains (one w.now q ∷ w.may) left × Stands disk left
    by_case (inl before) = let c = l disk before in (c.0, in_tail (one w.now q) w.may c.0 c.1, c.2)
    by_case (inr after) = (one w.now q, at_head (one w.now q) w.may, after)

pub leaves_as_before : {Disk : Type 0} (Stands : Disk → Content → Type 0) (old new : Disk → Type 0) (w : World)
    → ((disk : Disk) → new disk → old disk) → Leaves Stands old w → Leaves Stands new w
leaves_as_before Stands old new w h l disk may = l disk (h disk may)

pub leaves_reopened : {Disk : Type 0} (Stands : Disk → Content → Type 0) (old new : Disk → Type 0) (w : World) (found : Disk)
    → old found → ((content : Content) → Stands found content → (disk : Disk) → new disk → Stands disk content) → Leaves Stands old w
    → (v : World) × Happens w (Stop_between ∷ Reopen ∷ []) v × Stands found v.now × Leaves Stands new v
leaves_reopened Stands old new w found may h l =
    let (left, among, stands) = l found may in
    let v : World = record (stopped w left) { up = true } in
    (v, (stopped w left, (left, among, refl), (v, (refl, refl), refl)), stands, λ disk m. (left, at_head left [], h left stands disk m))
