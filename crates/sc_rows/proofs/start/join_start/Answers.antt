-- What passes the sieve is the join.
use Rattle.std.proofs.Common.{List, ℕ}
use Rattle.std.proofs.lemmas.Result.{IfOk-weaker}
use Rattle.sc_rows.specs.declared.start.Start.{Start}
use Rattle.sc_rows.specs.Joining.{IsJoin, IsStart}
use Rattle.sc_rows.specs.Sifting.{IsSieve, sifted}
use Rattle.sc_rows.proofs.SiftingLemmas.{IsJoin-sifted}
use Rattle.sc_rows.proofs.start.join_start.Goals as goal

pub returns-in-Some-wanted_of_left : goal.returns-in-Some-wanted_of_left
returns-in-Some-wanted_of_left c =
    let how = c.args.how in
    let left = c.args.left.now in
    let right = c.args.right.now in
    let wanted = c.in-Some-wanted_of_left.wanted in
    let found = rw c.in-Some.is at c.in_ok-sieve.ensures in
    let sieve : IsSieve right c.in-Some.sieve = found.0 in
    let join = IsJoin-sifted how wanted left right c.requires.left c.in-Some-wanted_of_left.ensures in
    IfOk-weaker c.start_of_sifted.result (λ (start : Start). (others : List ℕ) → IsSieve others c.in-Some.sieve → IsStart c.args.most (sifted others wanted left) start)
    (λ (start : Start). (rows : List ℕ) × IsJoin how left right rows × IsStart c.args.most rows start)
    (λ start starts. (sifted right wanted left, join, starts right sieve)) c.start_of_sifted.ensures
