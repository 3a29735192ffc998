-- There are as many ranges as a cut may have.
use Rattle.sc_admin.proofs.read.in_ranges.Goals as goal

pub returns-in-Ok-Some-clause-cut : goal.returns-in-Ok-Some-clause-cut
returns-in-Ok-Some-clause-cut c =
    let number = rw c.in-Ok-Some.field-0-is at c.in-Ok-Some.ensures.number in
    record {
      least = number.0;
      most = number.1;
    }
