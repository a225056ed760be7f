-- What contracts see of a reader.
use Rattle.pva_frames.specs.declared.reader.Reader.{Reader}
use Rattle.pva_frames.specs.Messages.{Unfinished}
use Rattle.pva_frames.specs.Reader.{unfinished_of}

-- what the bytes so far leave
abbrev pub left_of : Reader → Unfinished
left_of reader = unfinished_of reader.mark reader.payload.items
