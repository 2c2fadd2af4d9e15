-- Ending: the file alone represents the content, and opens with it.
use Rattle.std.proofs.Common.{◌≡◌, [], arith, refl, sym, subst}
use Rattle.std.proofs.Math.Logic.{∥∥₁_elim}
use Rattle.sqlite_disk.specs.declared.Disk.{Ghosts}
use Rattle.sqlite_disk.specs.declared.Files.{Files}
use Rattle.sqlite.specs.declared.FileStore.{FileStore}
use Rattle.sqlite_trees.specs.Props.{Trees-set}
use Rattle.sqlite.specs.Recovery.{Image}
use Rattle.sqlite.specs.State.{State, IsLive}
use Rattle.sqlite.specs.Held.{Held}
use Rattle.sqlite.specs.Files.{file_state}
use Rattle.sqlite.specs.Closing.{IsCopied}
use Rattle.ee_store_files.specs.Files.{Finds}
use Rattle.ee_desk_model.specs.Repeats.{Content}
use Rattle.ee_desk_laws.specs.Events.{begun}
use Rattle.ee_store_tables.proofs.Lemmas.Meeting.{stored_has}
use Rattle.ee_store_books.specs.Standing.{rows_of}
use Rattle.ee_store_books.specs.Seen.{HasContent, StandsFor}
use Rattle.ee_store_schema.specs.declared.forms.Form.TheVariants.{Current}
use Rattle.ee_store.specs.Adopted.{GoesOn}
use Rattle.ee_store.proofs.Opened.{stood_now}
use Rattle.ee_store.specs.Ended.{StandsAlone, IsAtRest}

pub at_rest : {D : Type 0} {g : Ghosts D} (c : Held (FileStore D g)) (files : Files D) (content : Content)
    → IsLive (file_state c) → IsCopied c files → HasContent (file_state c) content → IsAtRest g files content
at_rest c files content live copied has =
    let stored = stored_has (file_state c) (rows_of content) copied.was_open (live copied.was_open).1 has.rows in
    let stands : StandsFor (file_state c).committed.trees content = record { right = has.right; stores = stored } in
    record {
      seen = record { db = (file_state c).committed.trees; holds = copied.seen; stands = stands };
      left = λ image may. record { db = (file_state c).committed.trees; holds = copied.left image may; stands = stands };
    }

-- without the log they still do
pub alone_too : (image : Image) (content : Content) → StandsAlone image content → StandsAlone (record image { log = [] }) content
alone_too image content it = record { db = it.db; holds = record { both = it.holds.alone; alone = it.holds.alone }; stands = it.stands }

-- a keeper that goes on from what it finds has that content
pub found_alone : (start : Image) (was now : State) (content : Content) → Finds start was → GoesOn was now → StandsAlone start content → HasContent now content
found_alone start was now content found goes_on it =
    let same : was.committed.trees ≡ it.db = ∥∥₁_elim it.holds.both (Trees-set _ _) (found.holds _) in
    let stands = subst (λ trees. StandsFor trees content) (sym same) it.stands in
    let (v, happens, is, follows) = goes_on Current (begun content) content (0, omega arith, refl) (stood_now was.committed.trees content stands) in
    subst (HasContent now) is follows.0
