-- What contracts see of a serving.
use Rattle.pva_wire.specs.declared.order.Order.{Order}
use Rattle.pva_frames.specs.Assembled as assembled
use Rattle.srv_session.specs.State as states
use Rattle.srv_session.specs.Replies.{greeting}
use Rattle.srv_session.specs.Views.{state_of, output_of}
use Rattle.srv_stream.specs.Streams.{View}
use Rattle.srv_stream.specs.declared.serving.Serving.{Serving}

abbrev pub view_of : Serving → View
view_of s = record { state = state_of s.session; stream = s.stream; pending = output_of s.session }

-- at the beginning the greeting is to be written
abbrev pub first_view : Order → View
first_view order = record { state = states.opening order; stream = assembled.opening; pending = greeting order }
