-- Nothing is out of the desk: no bucket, and not the board.
use Rattle.sc_examples.proofs.connection.serve_from.Goals as goal

pub serve-end-requires-clause-nothing_out : goal.serve-end-requires-clause-nothing_out
serve-end-requires-clause-nothing_out g c κs within = λ i. record { bucket = c.requires.out i; board = c.requires.board_out i }
