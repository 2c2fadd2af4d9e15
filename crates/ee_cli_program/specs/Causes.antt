-- Why the system refused a file or a port.
use Rattle.std.specs.Prelude.{List, ℕ, Option, Some, None, codes}
use Rattle.std.specs.declared.io.ErrorKind.{ErrorKind}
use Rattle.std.specs.declared.io.ErrorKind.TheVariants as kind
use Rattle.ee_cli_program.specs.declared.system.SystemCause.{SystemCause}
use Rattle.ee_cli_program.specs.declared.system.SystemCause.TheVariants as cause

-- the cause for a kind of error
abbrev pub cause_of_kind : ErrorKind → Option SystemCause
cause_of_kind kind.NotFound = Some cause.Missing
cause_of_kind kind.PermissionDenied = Some cause.Denied
cause_of_kind kind.IsADirectory = Some cause.Folder
cause_of_kind kind.NotADirectory = Some cause.NoFolder
cause_of_kind kind.ReadOnlyFilesystem = Some cause.ReadOnly
cause_of_kind kind.StorageFull = Some cause.Full
cause_of_kind kind.InvalidFilename = Some cause.LongName
cause_of_kind kind.FilesystemLoop = Some cause.Circle
cause_of_kind kind.BrokenPipe = Some cause.Unread
cause_of_kind kind.AddrInUse = Some cause.AddressInUse
cause_of_kind _ = None

abbrev pub system_text : SystemCause → List ℕ
system_text cause.Missing = codes "no such file or folder"
system_text cause.Denied = codes "permission denied"
system_text cause.Folder = codes "it is a folder"
system_text cause.NoFolder = codes "a part of the path is no folder"
system_text cause.ReadOnly = codes "the file system is read-only"
system_text cause.Full = codes "no space left on the disk"
system_text cause.LongName = codes "a name of the path is too long"
system_text cause.Circle = codes "symbolic links lead in a circle"
system_text cause.Unread = codes "nothing reads it"
system_text cause.AddressInUse = codes "address in use"
