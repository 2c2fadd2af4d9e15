-- Lemmas that the proofs of crates above use: what is said of a command is said of it too if less is known of its file, or of the
-- store that it leaves.
use Rattle.std.proofs.Common.{ℕ, List, ◌++◌, Option, Some, Result, Ok, Err, refl, subst}
use Rattle.ee_desk_model.specs.Numbers.{RequestKey}
use Rattle.ee_desk_model.specs.Repeats.{Content}
use Rattle.ee_desk_model.specs.declared.acts.Act.{Act}
use Rattle.ee_desk_model.specs.declared.acts.Act.TheVariants as act
use Rattle.ee_desk_model.specs.declared.replies.Reply.{Reply}
use Rattle.ee_desk_model.specs.declared.refusals.Unserved.{Unserved}
use Rattle.ee_desk_laws.specs.Attempts.{Attempt}
use Rattle.ee_files.specs.RateFile.{rates_of_file}
use Rattle.ee_files.specs.BondFile.{bonds_of_file}
use Rattle.ee_keeper.specs.Keeping.{Shows}
use Rattle.ee_files.specs.Answers.{Gives}
use Rattle.ee_files.specs.declared.faults.FileFault.{FileFault}
use Rattle.ee_counter.specs.Filing.{Imports, Exports, Reading, Reads}
use Rattle.ee_counter.specs.Serving.{Serves, attempts_by_all}
use Rattle.ee_counter.proofs.Lemmas.{ends_with}
use Rattle.ee_counter.specs.declared.connections.Ended.{Ended}
use Rattle.ee_counter.specs.declared.files.ExportFault.{ExportFault}
use Rattle.ee_counter.specs.declared.files.ExportFault.TheVariants as export
use Rattle.ee_counter.specs.declared.files.ImportFault.{ImportFault}
use Rattle.ee_counter.specs.declared.files.ImportFault.TheVariants as import
use Rattle.ee_cli_commands.specs.declared.commands.FileKind.{FileKind}
use Rattle.ee_cli_commands.specs.declared.commands.FileKind.TheVariants as kind
use Rattle.ee_cli_actions.specs.declared.faults.Outcome.{Outcome}
use Rattle.ee_cli_actions.specs.Actions.{Applies, ImportsInto, ExportsFrom, ShowsSheet}
use Rattle.ee_cli_actions.specs.Inner.Actions.{AreOf}
use Rattle.ee_cli_actions.specs.Connections.{ServesAll}
use Rattle.ee_cli_actions.proofs.Connections.{each_with}
use Rattle.ee_cli_actions.specs.declared.faults.RunFault.{RunFault}

gives_known : {A : Type 0} (rows_of : Reading A) (bytes : List ℕ) (known : Option (List ℕ)) (read : Result (List A) FileFault) → AreOf known bytes → Reads rows_of (Some bytes) read → Reads rows_of known read
gives_known rows_of bytes known read are reads = λ source is. subst (λ b. Gives (λ rows. rows) read (rows_of b)) (are source is) (reads bytes refl)

-- what is said of a file of these bytes is said of a reader that gave them, if any are known
rows_known : {A : Type 0} (rows_of : Reading A) (act_of : List A → Act) (bytes : List ℕ) (known : Option (List ℕ)) (number : RequestKey) (c : Content) (answer : Result Reply ImportFault) (Has : Content → List Attempt → Type 0)
    → AreOf known bytes → Imports rows_of act_of (Some bytes) number c answer Has → Imports rows_of act_of known number c answer Has
rows_known rows_of act_of bytes known number c (Ok reply) Has are (rows, reads, delivers) = (rows, gives_known rows_of bytes known (Ok rows) are reads, delivers)
rows_known rows_of act_of bytes known number c (Err (import.File fault)) Has are (reads, has) = (gives_known rows_of bytes known (Err fault) are reads, has)
rows_known rows_of act_of bytes known number c (Err (import.Unserved cause)) Has are (rows, reads, has) = (rows, gives_known rows_of bytes known (Ok rows) are reads, has)

pub bytes_known : (kind : FileKind) (bytes : List ℕ) (known old new : Option (List ℕ)) (number : RequestKey) (c : Content) (result : Result Outcome RunFault) (Has : Content → List Attempt → Type 0)
    → AreOf known bytes → ImportsInto kind (Some bytes) old new number c result Has → ImportsInto kind known old new number c result Has
bytes_known kind.Rates bytes known old new number c result Has are (answer, imports, told) = (answer, rows_known rates_of_file act.AddRates bytes known number c answer Has are imports, told)
bytes_known kind.Inventory bytes known old new number c result Has are (answer, imports, told) = (answer, rows_known bonds_of_file act.AddBonds bytes known number c answer Has are imports, told)

-- ---- what is left of a store

pub shows_with : {A : Type 0} (IsShown : A → Type 0) (r : Result A Unserved) (Stays Now : Type 0) → (Stays → Now) → Shows IsShown r Stays → Shows IsShown r Now
shows_with IsShown (Ok shown) Stays Now more (is, stays) = (is, more stays)
shows_with IsShown (Err unserved) Stays Now more stays = more stays

module _ (Has After : Content → List Attempt → Type 0) (more : (d : Content) (attempts : List Attempt) → Has d attempts → After d attempts) where
  serves_with : (before remaining old new : Option (List ℕ)) (c : Content) (e : Ended) → Serves before remaining old new c e Has → Serves before remaining old new c e After
  serves_with before remaining old new c e s = record {
    bytes = s.bytes;
    read = s.read;
    told = s.told;
    needed = s.needed;
    few = s.few;
    rest = s.rest;
    wrote = s.wrote;
    so_far = s.so_far;
    ends = ends_with e _ s.rest remaining s.wrote new _ _ (λ left these. Has left (attempts_by_all s.told ++ these)) (λ left these. After left (attempts_by_all s.told ++ these))
        (λ d these. more d (attempts_by_all s.told ++ these)) s.ends;
  }

  pub applies_with : (input left old new : Option (List ℕ)) (c : Content) (result : Result Outcome RunFault)
      → Applies input left old new c result Has → Applies input left old new c result After
  applies_with input left old new c result (ended, serves, is) = (ended, serves_with input left old new c ended serves, is)

  rows_with : {A : Type 0} (rows_of : Reading A) (act_of : List A → Act) (known : Option (List ℕ)) (number : RequestKey) (c : Content) (answer : Result Reply ImportFault)
      → Imports rows_of act_of known number c answer Has → Imports rows_of act_of known number c answer After
  rows_with rows_of act_of known number c (Ok reply) (rows, reads, (is, has)) = (rows, reads, (is, more _ _ has))
  rows_with rows_of act_of known number c (Err (import.File fault)) (reads, has) = (reads, more _ _ has)
  rows_with rows_of act_of known number c (Err (import.Unserved cause)) (rows, reads, has) = (rows, reads, more _ _ has)

  pub imports_with : (kind : FileKind) (file old new : Option (List ℕ)) (number : RequestKey) (c : Content) (result : Result Outcome RunFault)
      → ImportsInto kind file old new number c result Has → ImportsInto kind file old new number c result After
  imports_with kind.Rates file old new number c result (answer, imports, told) = (answer, rows_with rates_of_file act.AddRates file number c answer imports, told)
  imports_with kind.Inventory file old new number c result (answer, imports, told) = (answer, rows_with bonds_of_file act.AddBonds file number c answer imports, told)

  rows_out_with : (old new : Option (List ℕ)) (customer : ℕ) (c : Content) (answer : Result ℕ ExportFault) → Exports old new customer c answer Has → Exports old new customer c answer After
  rows_out_with old new customer c (Ok count) (is, wrote, has) = (is, wrote, more _ _ has)
  rows_out_with old new customer c (Err export.WriteFailed) (wrote, has) = (wrote, more _ _ has)
  rows_out_with old new customer c (Err (export.Unserved cause)) (same, has) = (same, more _ _ has)

  pub exports_with : (old new : Option (List ℕ)) (customer : ℕ) (c : Content) (result : Result Outcome RunFault)
      → ExportsFrom old new customer c result Has → ExportsFrom old new customer c result After
  exports_with old new customer c result (answer, exports, is) = (answer, rows_out_with old new customer c answer exports, is)

  pub serves_all_with : (coming : Option (List (List ℕ))) (most : ℕ) (old new : Option (List ℕ)) (c : Content) (result : Result Outcome RunFault)
      → ServesAll coming most old new c result Has → ServesAll coming most old new c result After
  serves_all_with coming most old new c result s =
      record { ended = s.ended; others = s.others; each = each_with coming s.others c s.ended Has After more s.each; until = s.until; printed = s.printed }

pub sheets_with : (old new : Option (List ℕ)) (customer month : ℕ) (c : Content) (result : Result Outcome RunFault) (Stays Now : Type 0) → (Stays → Now)
    → ShowsSheet old new customer month c result Stays → ShowsSheet old new customer month c result Now
sheets_with old new customer month c result Stays Now more (shown, shows, told) = (shown, shows_with _ shown Stays Now more shows, told)
