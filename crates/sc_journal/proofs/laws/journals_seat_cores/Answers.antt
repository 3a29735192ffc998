-- The laws are the lemmas on the cores of a legal journal that are down, and on its seats.
use Rattle.sc_journal.proofs.LegalDownLemmas.{down_are_followers}
use Rattle.sc_journal.proofs.SeatLemmas.{seats_are_exchanged, seats_begin_in_order}
use Rattle.sc_journal.proofs.UpLemmas.{comes_up_by_an_entry}
use Rattle.sc_journal.proofs.laws.journals_seat_cores.Goals as goal

pub returns-clause-down : goal.returns-clause-down
returns-clause-down c = down_are_followers

pub returns-clause-seats : goal.returns-clause-seats
returns-clause-seats c = seats_are_exchanged

pub returns-clause-begin : goal.returns-clause-begin
returns-clause-begin c = seats_begin_in_order

pub returns-clause-up : goal.returns-clause-up
returns-clause-up c = comes_up_by_an_entry
