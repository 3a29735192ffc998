-- Why no request was read.
use Rattle.std.specs.Prelude.{Option, Some, None}
use Rattle.sc_model.specs.Messages.{Ending, done, cut, bad_head, too_large}
use Rattle.sc_http.specs.declared.end.MessageEnd.{MessageEnd}
use Rattle.sc_http.specs.declared.end.MessageEnd.TheVariants as ends
use Rattle.sc_http.specs.declared.stopped.Stopped.{Stopped}
use Rattle.sc_http.specs.declared.stopped.Stopped.TheVariants as stops
use Rattle.sc_chunks.specs.declared.error.DecodeError.{DecodeError}
use Rattle.sc_chunks.specs.declared.error.DecodeError.TheVariants as errors

-- how the bytes end, where that is why
abbrev pub ending_of : MessageEnd → Option Ending
ending_of ends.Done = Some done
ending_of ends.Cut = Some cut
ending_of ends.BadHead = Some bad_head
ending_of ends.TooLarge = Some too_large
ending_of ends.ReadFault = None
ending_of ends.Memory = None

-- what it is inside a body that no more bytes came
abbrev pub end_in_body : Stopped → MessageEnd
end_in_body stops.Ended = ends.Cut
end_in_body stops.Failed = ends.ReadFault
end_in_body stops.Memory = ends.Memory

-- what it is that chunks were not decoded
abbrev pub end_of_refusal : DecodeError → MessageEnd
end_of_refusal errors.Malformed = ends.BadHead
end_of_refusal errors.TooLarge = ends.TooLarge
end_of_refusal errors.Memory = ends.Memory
