-- The split was closed, and each bucket committed.
use Rattle.std.proofs.Common.{map, ap, ◌∙◌}
use Rattle.sc_record.specs.declared.slice.SubSlice.{SubSlice}
use Rattle.sc_seen.specs.Moments.{view_of}
use Rattle.sc_split.specs.declared.end.SplitEnd.TheVariants as ends
use Rattle.sc_split.proofs.CloseLemmas.{finishes-by}
use Rattle.sc_split.proofs.driver.finish.Goals as goal

pub returns-clause-finished : goal.returns-clause-finished
returns-clause-finished g c split entries was named =
    finishes-by (g.D.Desk.layout c.args.desk.now) (g.D.Desk.layout c.close.new.desk) split
    (view_of (g.D.Desk.seen c.args.desk.now) c.args.trail.now.stops) (g.D.Desk.seen c.close.new.desk)
    (view_of (g.D.Desk.seen c.commit_all.new.desk) c.commit_all.new.trail.stops) c.commit_all.result (ends.Done c.args.subs c.from.result)
    c.close.ensures.leaves.layout (c.close.ensures.closed split entries was) c.commit_all.ensures.committed
    (ap (λ names. ends.Done names c.from.result) named
    ∙ ap (ends.Done (map (λ (sub : SubSlice). sub.name) split.plan.subs)) c.from.ensures)
