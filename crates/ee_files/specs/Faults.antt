-- The faults of files, by code and text (this project's rule).
use Rattle.std.specs.Prelude.{ℕ, List, ◌++◌, codes}
use Rattle.std.specs.Fmt.{decimal}
use Rattle.ee_files.specs.declared.faults.FileCode.{FileCode}
use Rattle.ee_files.specs.declared.faults.FileCode.TheVariants as code
use Rattle.ee_files.specs.declared.faults.FileFault.{FileFault}

abbrev pub code_of : FileCode → ℕ
code_of code.BadHeader = 70
code_of code.WrongFieldCount = 71
code_of (code.BadValue column) = 72
code_of code.ReadFailed = 73
code_of code.NoMemory = 74
code_of code.FileTooLong = 75

-- row R code C
abbrev pub fault_text : FileFault → List ℕ
fault_text f = codes "row " ++ (decimal f.row ++ (codes " code " ++ decimal (code_of f.code)))
