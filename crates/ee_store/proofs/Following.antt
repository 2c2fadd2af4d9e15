-- A store follows what happens to requests.
use Rattle.std.proofs.Common.{◌≡◌, Bool, true, false, List, refl}
use Rattle.std.specs.FinMap as finite
use Rattle.sqlite.specs.Tree.{Trees}
use Rattle.sqlite.specs.State.{State}
use Rattle.ee_desk_model.specs.declared.acts.Request.{Request}
use Rattle.ee_desk_model.specs.Numbers.{number_of}
use Rattle.ee_desk_laws.specs.Events.{World, Told, one, decided}
use Rattle.ee_desk_laws.specs.Ties.{Leaves}
use Rattle.ee_desk_laws.proofs.Lemmas.{leaves_new, leaves_kept}
use Rattle.ee_store_books.specs.Seen.{StandsFor, HasContent}
use Rattle.ee_store.specs.Served.{FollowsWorld}

module _ (old new : State) (q : Request) (w : World) (follows : FollowsWorld old w) where
  leaves_decided : (told : List Told) → (finite.contains_key w.now.kept (number_of q) ≡ false → (db : Trees) → new.may_leave db → StandsFor db (one w.now q))
      → (finite.contains_key w.now.kept (number_of q) ≡ true → (db : Trees) → new.may_leave db → old.may_leave db)
      → (b : Bool) → finite.contains_key w.now.kept (number_of q) ≡ b → Leaves StandsFor new.may_leave (decided w q told)
  leaves_decided told durable again true is = leaves_kept StandsFor old.may_leave new.may_leave w q told is (again is) follows.1
  leaves_decided told durable again false is = leaves_new StandsFor new.may_leave w q told is (durable is)

  pub follows_decided : (told : List Told) → HasContent new (one w.now q)
      → (finite.contains_key w.now.kept (number_of q) ≡ false → (db : Trees) → new.may_leave db → StandsFor db (one w.now q))
      → (finite.contains_key w.now.kept (number_of q) ≡ true → (db : Trees) → new.may_leave db → old.may_leave db)
      → FollowsWorld new (decided w q told)
  follows_decided told has durable again = (has, leaves_decided told durable again (finite.contains_key w.now.kept (number_of q)) refl)
