-- A gate is passed in no step, in one or in two.
use Rattle.std.proofs.Common.{◌≡◌, true, false, drop, subst, sym, ◌∙◌}
use Rattle.sc_seen.specs.Seen.{Layout}
use Rattle.sc_gate.specs.Gates.{KeepsAll}
use Rattle.sc_session.proofs.PassingLemmas.{passes_open, passes_none, passes_twice, where_kept}
use Rattle.sc_session.proofs.ServeLemmas.{gate_moment}
use Rattle.sc_session.proofs.passing.pass_from.Goals.{then-is_open-via-then-is_open, then-is_open-via-else-is_open+then-not-has_made}
use Rattle.sc_session.proofs.passing.pass_from.Goals as goal

pub returns-then-is_open-clause-passes : goal.returns-then-is_open-clause-passes
returns-then-is_open-clause-passes g c =
    let layout = g.D.Desk.layout c.args.desk.now in
    let seen = g.D.Desk.seen c.args.desk.now in
    let gate = g.G.Gate.state c.args.gate.now in
    let stops = drop c.args.from c.args.trail.now.stops in
    elim c.then-is_open.branch [
      | then-is_open-via-then-is_open w ↦ passes_open layout seen gate stops (c.is_open.ensures w.if-is_open.true)
      | then-is_open-via-else-is_open+then-not-has_made w ↦ passes_none layout seen gate stops (w.has_made.ensures.0 w.if-not-has_made.true)
    ]

pub returns-then-has_noted-clause-passes : goal.returns-then-has_noted-clause-passes
returns-then-has_noted-clause-passes g c =
    let layout = g.D.Desk.layout c.args.desk.now in
    let old = gate_moment (g.D.Desk.seen c.args.desk.now) (g.G.Gate.state c.args.gate.now) in
    let between = gate_moment (g.D.Desk.seen c.pass.new.desk) (g.G.Gate.state c.pass.new.self) in
    let new = gate_moment (g.D.Desk.seen c.keep_all.new.desk) (g.G.Gate.state c.keep_all.new.self) in
    let stops = drop c.args.from c.args.trail.now.stops in
    passes_twice layout stops old between new c.keep_all.result (λ nothing. let both : false ≡ true = sym (c.has_made.ensures.1 nothing) ∙ c.if-not-has_made.false in absurd (cc))
    c.pass.ensures.stays c.pass.ensures.met c.pass.ensures.alone (c.in-Ok.ensures.cause.steady (λ failed. absurd (cc))) c.in-Ok.ensures.kept c.in-Ok.ensures.commits
    c.keep_all.ensures.stays c.keep_all.ensures.met c.keep_all.ensures.alone c.keep_all.ensures.cause (λ is. subst (λ (l : Layout). KeepsAll l (g.D.Desk.seen c.pass.new.desk) (g.G.Gate.state c.keep_all.new.self)) c.pass.ensures.layout
    (where_kept c.keep_all.result (KeepsAll (g.D.Desk.layout c.pass.new.desk) (g.D.Desk.seen c.pass.new.desk) (g.G.Gate.state c.keep_all.new.self))
    c.keep_all.ensures.kept is))
