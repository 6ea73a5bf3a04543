-- Why a path can't be opened, by the kind of the error. Own rule: only kinds that a user can act on have a reason of their own.
use Rattle.std.specs.declared.io.ErrorKind.{ErrorKind}
use Rattle.std.specs.declared.io.ErrorKind.TheVariants as kind
use Rattle.leak_program.specs.declared.open_fault.Reason.{Reason}
use Rattle.leak_program.specs.declared.open_fault.Reason.TheVariants.{Missing, Denied, Folder, NotFolder, Name, Links, Other}

-- the reason that the kind of an error tells
abbrev pub reason_of : ErrorKind → Reason
reason_of kind.NotFound = Missing
reason_of kind.PermissionDenied = Denied
reason_of kind.IsADirectory = Folder
reason_of kind.NotADirectory = NotFolder
reason_of kind.InvalidFilename = Name
reason_of kind.FilesystemLoop = Links
reason_of _ = Other
