-- The slice has the values that were read.
use Rattle.std.proofs.Common.{◌≤ℤ◌, ◌∙◌, arith, rules}
use Rattle.std.specs.Prelude.{FitsSigned}
use Rattle.std.specs.Int.{w32}
use Rattle.std.proofs.lemmas.Int.{to_z-of_z}
use Rattle.std.proofs.lemmas.Grind.{common_steps}
use Rattle.sc_frames.proofs.SubLemmas.{sub_found}
use Rattle.sc_frames.proofs.read.sub_of.Goals as goal

pub returns : goal.returns
returns c =
    let low : FitsSigned w32 c.cast_signed-min.result = search rules in
    let high : FitsSigned w32 c.cast_signed-max.result = search rules in
    let least = to_z-of_z w32 c.cast_signed-min.result low in
    let greatest = to_z-of_z w32 c.cast_signed-max.result high in
    let ordered : c.cast_signed-min.result ≤ℤ c.cast_signed-max.result = first_of (search rules, grind (arith, common_steps)) in
    sub_found _ _ _ _ _ _ _ _ _ _ _ _ _ _ _ _ c.in_ok-id.ensures c.in_ok-name.ensures c.in_ok-min.ensures c.in_ok-max.ensures c.in_ok-replicas.ensures
    c.in_ok-node.ensures c.in_ok-name-2.ensures (least ∙ c.cast_signed-min.ensures) (greatest ∙ c.cast_signed-max.ensures)
    (rw (least, greatest) ordered) (omega arith) (omega arith)
