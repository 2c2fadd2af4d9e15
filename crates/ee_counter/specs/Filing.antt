-- Imports and exports of files.
use Rattle.std.specs.Prelude.{◌≡◌, ◌≤◌, ℕ, List, [], length, Option, Some, Result, Ok, Err, true, false}
use Rattle.ee_io.specs.Written.{WritesFront}
use Rattle.ee_desk_model.specs.declared.acts.Act.{Act}
use Rattle.ee_desk_model.specs.declared.acts.Request.{Request}
use Rattle.ee_desk_model.specs.declared.replies.Reply.{Reply}
use Rattle.ee_desk_model.specs.Numbers.{RequestKey, numbered}
use Rattle.ee_desk_model.specs.Repeats.{Content}
use Rattle.ee_desk_laws.specs.Attempts.{Attempt}
use Rattle.ee_desk_model.specs.Queries.{bonds_of}
use Rattle.ee_keeper.specs.Keeping.{Delivers, attempt_at}
use Rattle.ee_files.specs.Answers.{Gives}
use Rattle.ee_files.specs.BondFile.{inventory_text}
use Rattle.ee_files.specs.declared.faults.FileCode.TheVariants as code
use Rattle.ee_files.specs.declared.faults.FileFault.{FileFault}
use Rattle.ee_counter.specs.declared.files.ImportFault.{ImportFault}
use Rattle.ee_counter.specs.declared.files.ImportFault.TheVariants as import
use Rattle.ee_counter.specs.declared.files.ExportFault.{ExportFault}
use Rattle.ee_counter.specs.declared.files.ExportFault.TheVariants as export

-- how a file is read: the rows of its bytes, or its first fault
abbrev pub Reading : Type 0 → Type 0
Reading A = List ℕ → Result (List A) FileFault

-- the rows of the file that the reader gave, or why it has none; nothing is said if the reader's bytes aren't known
abbrev pub Reads : {A : Type 0} → Reading A → Option (List ℕ) → Result (List A) FileFault → Type 0
Reads rows_of known read = (source : List ℕ) → known ≡ Some source → Gives (λ rows. rows) read (rows_of source)

-- the file's rows were delivered as one request under the desk and number, or nothing was delivered. `Has` is the relation of
-- contents that the keeper then has, and of the attempts that led there.
abbrev pub Imports : {A : Type 0} → Reading A → (List A → Act) → Option (List ℕ) → RequestKey → Content → Result Reply ImportFault → (Content → List Attempt → Type 0) → Type 0
Imports {A} rows_of act_of known number c (Ok reply) Has =
    (rows : List A) × Reads rows_of known (Ok rows)
    × Delivers c (numbered number (act_of rows)) (Ok reply) (λ left. Has left (attempt_at (numbered number (act_of rows)) (Ok reply)))
Imports rows_of act_of known number c (Err (import.File fault)) Has = Reads rows_of known (Err fault) × Has c []
Imports {A} rows_of act_of known number c (Err (import.Unserved cause)) Has =
    (rows : List A) × Reads rows_of known (Ok rows) × Has c (attempt_at {R = Reply} (numbered number (act_of rows)) (Err cause))

-- the file wasn't read, because a read failed
abbrev pub IsFailedRead : ImportFault → Type 0
IsFailedRead (import.File fault) = fault.code ≡ code.ReadFailed
IsFailedRead (import.Unserved cause) = ⊥

-- the file of the customer's unpaid bonds was written; only its front if the writer failed; or nothing
abbrev pub Exports : Option (List ℕ) → Option (List ℕ) → ℕ → Content → Result ℕ ExportFault → (Content → List Attempt → Type 0) → Type 0
Exports old new customer c (Ok count) Has =
    (count ≡ length (bonds_of c.books customer)) × WritesFront old new (inventory_text (bonds_of c.books customer)) true × Has c []
Exports old new customer c (Err export.WriteFailed) Has =
    WritesFront old new (inventory_text (bonds_of c.books customer)) false × Has c []
Exports old new customer c (Err (export.Unserved cause)) Has = (new ≡ old) × Has c []

-- the texts of a request of a file's rows fit the store
abbrev pub FitRows : {A : Type 0} → (Content → Request → Type 0) → Content → RequestKey → (List A → Act) → Type 0
FitRows {A} fits c number act_of = (rows : List A) → length rows ≤ 501 → fits c (numbered number (act_of rows))
