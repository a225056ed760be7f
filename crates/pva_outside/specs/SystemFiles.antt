-- What is known of the files and the ports of the system: how often they failed.
use Rattle.std.specs.Prelude.{None}
use Rattle.pva_outside.specs.Files.{FilesView}
use Rattle.pva_outside.specs.Makers.{MakerView}
use Rattle.pva_outside.specs.declared.system_files.SystemFiles.{SystemFiles}
use Rattle.pva_outside.specs.declared.file_ports.FilePorts.{FilePorts}

abbrev pub system_files : {R F D : Type 0} → SystemFiles R F D → FilesView
system_files f = record { faults = f.faults; contents = None; asked = None }

-- with a count of 0
abbrev pub new_system_files : FilesView
new_system_files = record { faults = 0; contents = None; asked = None }

abbrev pub file_maker : {R F D : Type 0} → FilePorts R F D → MakerView
file_maker m = record { faults = m.faults; asked = None }

-- with a count of 0
abbrev pub new_file_maker : MakerView
new_file_maker = record { faults = 0; asked = None }
