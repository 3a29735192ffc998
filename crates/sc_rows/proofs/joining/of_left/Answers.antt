-- What passes the sieve is the join.
use Rattle.std.proofs.Common.{List, ℕ, ◌++◌, ap, sym, subst, ◌∙◌}
use Rattle.sc_rows.specs.Joining.{IsJoin}
use Rattle.sc_rows.specs.Sifting.{sifted}
use Rattle.sc_rows.proofs.SiftingLemmas.{IsJoin-sifted}
use Rattle.sc_rows.proofs.joining.of_left.Goals as goal

pub returns : goal.returns
returns c =
    let left = c.args.left.now in
    let right = c.args.right.now in
    let found = rw c.in-Some.is at c.in_ok-sieve.ensures in
    let sieve = found.0 in
    let made = c.in_ok-sift.ensures right sieve ∙ ap (λ (rows : List ℕ). rows ++ sifted right c.args.wanted left) c.in_ok-rows.ensures.items in
    subst (IsJoin c.args.how left right) (sym made) (IsJoin-sifted c.args.how c.args.wanted left right c.requires.left c.requires.wanted)
