-- Some rows more are copied.
use Rattle.std.proofs.Common.{◌++◌, ◌-◌, List, take, drop, ap, ◌∙◌, arith, append_assoc}
use Rattle.sc_record.specs.Writes.{Write}
use Rattle.sc_snapshot.proofs.PieceLemmas.{take-on}
use Rattle.sc_snapshot.proofs.cutting.Cutting.copy.Goals as goal

pub copying-preserved : goal.copying-preserved
copying-preserved c =
    let i = c.copying.invariant in
    let from = c.args.from in
    let at = c.copying.at in
    let next = c.in_ok-at.at in
    let rows = c.args.rows.now in
    let more = c.in_ok-at.ensures.more in
    record {
      from = omega (arith, i.from, more);
      to = c.in_ok-at.ensures.up_to;
      rows = c.in_ok-at.ensures.rows
          ∙ ap (λ (ws : List Write). ws ++ take (next - at) (drop at rows)) i.rows
          ∙ append_assoc c.args.self.now (take (at - from) (drop from rows)) (take (next - at) (drop at rows))
          ∙ ap (λ (ws : List Write). c.args.self.now ++ ws) (take-on rows from at next i.from (omega (arith, more)));
    }
