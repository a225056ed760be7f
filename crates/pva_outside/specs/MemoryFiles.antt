-- What is known of files in memory.
use Rattle.std.specs.Prelude.{ℕ, List, [], Option, Some, map, find, option_map, bytes_eq}
use Rattle.std.specs.String.{string_bytes}
use Rattle.pva_outside.specs.Files.{FilesView, one_more}
use Rattle.pva_outside.specs.declared.files.MemoryFile.{MemoryFile}
use Rattle.pva_outside.specs.declared.files.MemoryFiles.{MemoryFiles}

-- what the first file of this name holds
abbrev pub contents_of : List MemoryFile → List ℕ → Option (List ℕ)
contents_of files name = option_map (λ file. file.bytes.items) (find (λ file. bytes_eq (string_bytes file.name) name) files)

abbrev pub memory_files : MemoryFiles → FilesView
memory_files f = record {
  faults = f.faults;
  contents = Some (contents_of f.files.items);
  asked = Some (map string_bytes f.asked.items);
}

-- these files, before the first call
abbrev pub new_files : List MemoryFile → FilesView
new_files files = record { faults = 0; contents = Some (contents_of files); asked = Some [] }

-- one name more was asked for
abbrev pub and_asked : FilesView → List ℕ → FilesView
and_asked files name = record files { asked = one_more files.asked name }

-- the number of the last call, counted from 1
abbrev pub files_calls : MemoryFiles → ℕ
files_calls f = f.calls

-- the numbers of the calls that fail
abbrev pub failing_reads : MemoryFiles → List ℕ
failing_reads f = f.failing.items
