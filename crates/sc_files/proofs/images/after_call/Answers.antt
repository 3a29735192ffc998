use Rattle.sc_files.proofs.StepLemmas.{write_failed, cut_failed}
use Rattle.sc_files.proofs.images.after_call.Goals as goal

pub returns-then-not-done : goal.returns-then-not-done
returns-then-not-done c = write_failed c.args.call.now c.args.image.bytes c.args.image.is_kept c.in-Write.at c.in-Write.bytes c.in-Write.done c.in-Write.is c.if-not-done.true

pub returns-then-not-done-2 : goal.returns-then-not-done-2
returns-then-not-done-2 c = cut_failed c.args.call.now c.args.image.bytes c.args.image.is_kept c.in-Cut.len c.in-Cut.done c.in-Cut.is c.if-not-done-2.true
