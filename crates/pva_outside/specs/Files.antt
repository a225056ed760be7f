-- What one read of a file does, by its name.
use Rattle.std.specs.Prelude.{◌≡◌, ℕ, ◌≤◌, ◌<◌, ⊤, List, [], ◌∷◌, ◌++◌, length, Option, None, Some, option_map, IfSome}
use Rattle.pva_outside.specs.Count.{Rose}
use Rattle.pva_outside.specs.declared.files.FileStep.{FileStep}
use Rattle.pva_outside.specs.declared.files.FileStep.TheVariants.{Got, Failed, NoMemory}

-- What contracts see of files: how often a read failed, what stands under each name, and the names asked for, in order
-- (None: not told).
pub record FilesView : Type 0 where
  pub faults : ℕ
  pub contents : Option (List ℕ → Option (List ℕ))
  pub asked : Option (List (List ℕ))

-- Texts asked for, and one more, where they are told.
abbrev pub one_more : Option (List (List ℕ)) → List ℕ → Option (List (List ℕ))
one_more asked text = option_map (λ texts. texts ++ text ∷ []) asked

-- This name was asked for, and what stands under each name is as it was.
pub record IsAsked (old new : FilesView) (name : List ℕ) : Type 0 where
  pub contents : new.contents ≡ old.contents
  pub asked : new.asked ≡ one_more old.asked name

-- These bytes stand under the name, where contents are told.
abbrev pub StandsUnder : FilesView → List ℕ → List ℕ → Type 0
StandsUnder files name bytes = IfSome files.contents (λ contents. contents name ≡ Some bytes)

-- how many bytes a file may have
abbrev pub most_bytes : ℕ
most_bytes = 1048576

-- A file was read, and has these bytes, which aren't too many.
pub record HasRead (old new : FilesView) (name bytes : List ℕ) : Type 0 where
  pub asked : IsAsked old new name
  pub bytes_are : StandsUnder old name bytes
  pub most : length bytes ≤ most_bytes
  pub faults : new.faults ≡ old.faults

-- A file couldn't be read.
pub record HasFailed (old new : FilesView) (name : List ℕ) : Type 0 where
  pub asked : IsAsked old new name
  pub faults : Rose old.faults new.faults

-- There is no file that can be read: none, or one of too many bytes.
abbrev pub Unreadable : Option (List ℕ) → Type 0
Unreadable None = ⊤
Unreadable (Some bytes) = most_bytes < length bytes

-- One read, by its answer.
abbrev pub IsRead : FilesView → FilesView → FileStep → List ℕ → Type 0
IsRead old new (Got bytes) name = HasRead old new name bytes.items
IsRead old new Failed name = HasFailed old new name
IsRead old new NoMemory name = new ≡ old
