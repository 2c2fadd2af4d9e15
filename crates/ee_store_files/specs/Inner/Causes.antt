-- Definitions that private contracts alone cite; specs/Causes.antt has the others.
use Rattle.std.specs.declared.io.ErrorKind.{ErrorKind}
use Rattle.std.specs.declared.io.ErrorKind.TheVariants as kind
use Rattle.ee_store_files.specs.declared.causes.OpenCause.{OpenCause}
use Rattle.ee_store_files.specs.declared.causes.OpenCause.TheVariants as cause

-- the cause for an error of the system of this kind
abbrev pub cause_of_kind : ErrorKind → OpenCause
cause_of_kind kind.OutOfMemory = cause.NoMemory
cause_of_kind k = cause.System k
