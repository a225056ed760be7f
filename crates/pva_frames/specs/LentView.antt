-- What contracts see of a message that is lent: the same as of one whose payload was moved out.
use Rattle.pva_frames.specs.declared.event.Lent.{Lent}
use Rattle.pva_frames.specs.declared.event.Whole.{Whole}

abbrev pub whole_of : Lent → Whole
whole_of lent = record { order = lent.order; command = lent.command; payload = lent.payload.now; place = lent.place }
