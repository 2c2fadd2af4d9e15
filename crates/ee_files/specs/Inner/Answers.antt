-- Definitions that private contracts alone cite; specs/Answers.antt has the others.
use Rattle.std.specs.Prelude.{◌≡◌, ◌≢◌, ⊤}
use Rattle.ee_files.specs.declared.faults.FileCode.{FileCode}
use Rattle.ee_files.specs.declared.faults.FileCode.TheVariants as code
use Rattle.ee_files.specs.declared.faults.FileFault.{FileFault}

-- a failed read, or want of memory
abbrev pub TellsNothing : FileCode → Type 0
TellsNothing code.NoMemory = ⊤
TellsNothing code.ReadFailed = ⊤
TellsNothing code.BadHeader = ⊥
TellsNothing code.WrongFieldCount = ⊥
TellsNothing (code.BadValue column) = ⊥
TellsNothing code.FileTooLong = ⊥

-- the fault is none of a failed read
abbrev pub WasRead : FileFault → Type 0
WasRead e = e.code ≢ code.ReadFailed

abbrev pub Unreadable : FileFault → Type 0
Unreadable e = (e.row ≡ 1) × TellsNothing e.code
