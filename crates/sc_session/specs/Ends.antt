-- How a connection ends where no request was read.
use Rattle.sc_http.specs.declared.end.MessageEnd.{MessageEnd}
use Rattle.sc_http.specs.declared.end.MessageEnd.TheVariants as reads
use Rattle.sc_session.specs.Connection.{Last, ended, out_of_memory, read_failed}
use Rattle.sc_model.specs.Messages.{done, cut, bad_head, too_large}

-- what comes last where no request was read
abbrev pub last_without_request : MessageEnd → Last
last_without_request reads.Done = ended done
last_without_request reads.Cut = ended cut
last_without_request reads.BadHead = ended bad_head
last_without_request reads.TooLarge = ended too_large
last_without_request reads.ReadFault = read_failed
last_without_request reads.Memory = out_of_memory
