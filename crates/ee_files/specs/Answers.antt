-- The results of calls on a file.
use Rattle.std.specs.Prelude.{◌≡◌, ℕ, List, Option, Result, Ok, Err, true, false}
use Rattle.ee_io.specs.Written.{WritesFront}
use Rattle.ee_files.specs.declared.faults.FileCode.{FileCode}
use Rattle.ee_files.specs.declared.faults.FileCode.TheVariants as code
use Rattle.ee_files.specs.declared.faults.FileFault.{FileFault}
use Rattle.ee_files.specs.declared.faults.WriteFault.{WriteFault}
use Rattle.ee_files.specs.declared.faults.WriteFault.TheVariants as fault

-- a fault is the first of the file; a failed read and want of memory say nothing about the file, and name row 1
abbrev pub Fails : {Y : Type 0} → ℕ → FileCode → Result Y FileFault → Type 0
Fails row code.NoMemory read = row ≡ 1
Fails row code.ReadFailed read = row ≡ 1
Fails row code.BadHeader read = read ≡ Err (record { row = row; code = code.BadHeader })
Fails row code.WrongFieldCount read = read ≡ Err (record { row = row; code = code.WrongFieldCount })
Fails row (code.BadValue column) read = read ≡ Err (record { row = row; code = code.BadValue column })
Fails row code.FileTooLong read = read ≡ Err (record { row = row; code = code.FileTooLong })

-- the result is that of the file, or says that the file couldn't be read
abbrev pub Gives : {X Y : Type 0} → (X → Y) → Result X FileFault → Result Y FileFault → Type 0
Gives view (Ok x) read = read ≡ Ok (view x)
Gives view (Err e) read = Fails e.row e.code read

-- what the writer has taken: the text; only its front if the writer failed; nothing if memory was refused
abbrev pub Unwritten : {W : Type 0} → (W → Option (List ℕ)) → W → W → List ℕ → WriteFault → Type 0
Unwritten contents old new text fault.WriteFailed = WritesFront (contents old) (contents new) text false
Unwritten contents old new text fault.NoMemory = new ≡ old

abbrev pub Writes : {W V : Type 0} → (W → Option (List ℕ)) → W → W → List ℕ → Result V WriteFault → Type 0
Writes contents old new text (Ok v) = WritesFront (contents old) (contents new) text true
Writes contents old new text (Err e) = Unwritten contents old new text e
