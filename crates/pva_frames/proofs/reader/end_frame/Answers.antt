use Rattle.pva_frames.proofs.reader.end_frame.Goals as goal

pub unwrap-requires : goal.unwrap-requires
unwrap-requires c = c.push_back.ensures.succeeds c.requires.room
