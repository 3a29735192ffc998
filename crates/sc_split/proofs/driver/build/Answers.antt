-- The leaders are made, the board says so, and then the further replicas are.
use Rattle.std.proofs.Common.{Err, [], sym, ap, ◌∙◌, refl, subst}
use Rattle.std.proofs.lemmas.Result.{err_from_is_err_and, on_ok_weaker}
use Rattle.sc_seen.specs.Seen.{Layout}
use Rattle.sc_seen.specs.Moments.{view_of}
use Rattle.sc_seen.specs.declared.board.BoardEntry.TheVariants as board
use Rattle.sc_collection.specs.Known.{known_of, OfBuckets}
use Rattle.sc_cores.specs.Cores.{outside_of}
use Rattle.sc_split.specs.Stages.{OpenSplit, IsOpenIn, IsAtStage, recovering, whole}
use Rattle.sc_split.specs.Steps.{NotesOne}
use Rattle.sc_split.specs.Splits.{split_moment}
use Rattle.sc_split.proofs.BuildLemmas.{builds-led, fault-led, led-owns, led-may-recover, on-layout, stage-noted, builds-followed, whole-followed}
use Rattle.sc_split.proofs.driver.build.Goals as goal

pub returns-in_err-lead-clause-built : goal.returns-in_err-lead-clause-built
returns-in_err-lead-clause-built g c entries begun =
    builds-led (g.D.Desk.layout c.args.desk.now) c.args.plan.now entries c.lead.new.progress.begun (known_of (g.D.Desk.seen c.args.desk.now) (g.D.Desk.keeping c.args.desk.now c.args.keepers.now)) (known_of (g.D.Desk.seen c.lead.new.desk) (g.D.Desk.keeping c.lead.new.desk c.lead.new.keepers))
    c.requires.rests.rest.legal begun c.lead.ensures.leaves.board c.lead.ensures.opened c.lead.ensures.unbegun

pub returns-in_err-lead-clause-cause : goal.returns-in_err-lead-clause-cause
returns-in_err-lead-clause-cause g c =
    let p = err_from_is_err_and c.from_residual.result c.from_residual.ensures.1 in
    rw (p.1, p.2) (fault-led (g.D.Desk.layout c.args.desk.now) (record { plan = c.args.plan.now; base = (known_of (g.D.Desk.seen c.args.desk.now) (g.D.Desk.keeping c.args.desk.now c.args.keepers.now)) }) c.lead.new.progress.begun (known_of (g.D.Desk.seen c.lead.new.desk) (g.D.Desk.keeping c.lead.new.desk c.lead.new.keepers))
    (split_moment (view_of (g.D.Desk.seen c.args.desk.now) [])
    (outside_of (g.H.Hosts.started c.args.hosts.now) (g.H.Hosts.start_faults c.args.hosts.now) (g.H.Hosts.stop_faults c.args.hosts.now) (g.P.Pace.stops c.args.pace.now) (g.H.Hosts.reached c.args.hosts.now)))
    (split_moment (view_of (g.D.Desk.seen c.lead.new.desk) [])
    (outside_of (g.H.Hosts.started c.lead.new.hosts) (g.H.Hosts.start_faults c.lead.new.hosts) (g.H.Hosts.stop_faults c.lead.new.hosts) (g.P.Pace.stops c.lead.new.pace) (g.H.Hosts.reached c.lead.new.hosts)))
    c.in_err-lead.field-0.0 refl refl c.lead.ensures.unbegun
    (λ is. c.lead.ensures.full (c.in_err-lead.was ∙ ap Err is))
    (λ is. (c.lead.ensures.failed (c.in_err-lead.was ∙ ap Err is)).1)
    (λ is. c.lead.ensures.stopped (c.in_err-lead.was ∙ ap Err is)))

pub note_recovering-requires-clause-owns : goal.note_recovering-requires-clause-owns
note_recovering-requires-clause-owns g c =
    led-owns (g.D.Desk.layout c.args.desk.now) (g.D.Desk.layout c.lead.new.desk) c.args.plan.now c.requires.begun.0 (known_of (g.D.Desk.seen c.args.desk.now) (g.D.Desk.keeping c.args.desk.now c.args.keepers.now)) (known_of (g.D.Desk.seen c.lead.new.desk) (g.D.Desk.keeping c.lead.new.desk c.lead.new.keepers)) c.lead.ensures.leaves.layout c.lead.ensures.leaves.board c.requires.begun.1

pub note_recovering-requires-clause-may : goal.note_recovering-requires-clause-may
note_recovering-requires-clause-may g c =
    (c.args.plan.now.parent, led-may-recover (g.D.Desk.layout c.args.desk.now) (g.D.Desk.layout c.lead.new.desk) c.args.plan.now c.requires.begun.0 (known_of (g.D.Desk.seen c.args.desk.now) (g.D.Desk.keeping c.args.desk.now c.args.keepers.now)) (known_of (g.D.Desk.seen c.lead.new.desk) (g.D.Desk.keeping c.lead.new.desk c.lead.new.keepers)) c.lead.ensures.leaves.rest.legal c.lead.ensures.leaves.board c.requires.begun.1)

pub follow-requires-clause-stage : goal.follow-requires-clause-stage
follow-requires-clause-stage g c =
    let split : OpenSplit = record { plan = c.args.plan.now; base = (known_of (g.D.Desk.seen c.args.desk.now) (g.D.Desk.keeping c.args.desk.now c.args.keepers.now)) } in
    let notes : NotesOne (g.D.Desk.layout c.lead.new.desk) (board.Recovering c.args.plan.now.parent) (g.D.Desk.seen c.lead.new.desk) (g.D.Desk.seen c.note_recovering.new.desk) =
    c.note_recovering.ensures.noted c.args.plan.now.parent
    (led-may-recover (g.D.Desk.layout c.args.desk.now) (g.D.Desk.layout c.lead.new.desk) c.args.plan.now c.requires.begun.0 (known_of (g.D.Desk.seen c.args.desk.now) (g.D.Desk.keeping c.args.desk.now c.args.keepers.now)) (known_of (g.D.Desk.seen c.lead.new.desk) (g.D.Desk.keeping c.lead.new.desk c.lead.new.keepers)) c.lead.ensures.leaves.rest.legal c.lead.ensures.leaves.board c.requires.begun.1) in
    let at : OfBuckets 0 (g.D.Desk.layout c.note_recovering.new.desk).buckets (IsAtStage split (recovering c.args.plan.now) (known_of (g.D.Desk.seen c.note_recovering.new.desk) (g.D.Desk.keeping c.note_recovering.new.desk c.lead.new.keepers))) =
    on-layout (IsAtStage split (recovering c.args.plan.now) (known_of (g.D.Desk.seen c.note_recovering.new.desk) (g.D.Desk.keeping c.note_recovering.new.desk c.lead.new.keepers))) (g.D.Desk.layout c.note_recovering.new.desk) (g.D.Desk.layout c.args.desk.now) (sym (c.note_recovering.ensures.leaves.layout ∙ c.lead.ensures.leaves.layout))
    (stage-noted (g.D.Desk.layout c.lead.new.desk) (board.Recovering c.args.plan.now.parent) split (recovering c.args.plan.now) (known_of (g.D.Desk.seen c.lead.new.desk) (g.D.Desk.keeping c.lead.new.desk c.lead.new.keepers)) (known_of (g.D.Desk.seen c.note_recovering.new.desk) (g.D.Desk.keeping c.note_recovering.new.desk c.lead.new.keepers)) (g.D.Desk.layout c.args.desk.now).buckets notes
    (c.note_recovering.ensures.keepers c.lead.new.keepers c.lead.ensures.leaves.fits).1 c.in_ok-lead.ensures.led) in
    (split, sym c.requires.followers, at)

pub returns-clause-built : goal.returns-clause-built
returns-clause-built g c entries begun =
    let split : OpenSplit = record { plan = c.args.plan.now; base = (known_of (g.D.Desk.seen c.args.desk.now) (g.D.Desk.keeping c.args.desk.now c.args.keepers.now)) } in
    let notes : NotesOne (g.D.Desk.layout c.lead.new.desk) (board.Recovering c.args.plan.now.parent) (g.D.Desk.seen c.lead.new.desk) (g.D.Desk.seen c.note_recovering.new.desk) =
    c.note_recovering.ensures.noted c.args.plan.now.parent
    (led-may-recover (g.D.Desk.layout c.args.desk.now) (g.D.Desk.layout c.lead.new.desk) c.args.plan.now c.requires.begun.0 (known_of (g.D.Desk.seen c.args.desk.now) (g.D.Desk.keeping c.args.desk.now c.args.keepers.now)) (known_of (g.D.Desk.seen c.lead.new.desk) (g.D.Desk.keeping c.lead.new.desk c.lead.new.keepers)) c.lead.ensures.leaves.rest.legal c.lead.ensures.leaves.board c.requires.begun.1) in
    let at : OfBuckets 0 (g.D.Desk.layout c.note_recovering.new.desk).buckets (IsAtStage split (recovering c.args.plan.now) (known_of (g.D.Desk.seen c.note_recovering.new.desk) (g.D.Desk.keeping c.note_recovering.new.desk c.lead.new.keepers))) =
    on-layout (IsAtStage split (recovering c.args.plan.now) (known_of (g.D.Desk.seen c.note_recovering.new.desk) (g.D.Desk.keeping c.note_recovering.new.desk c.lead.new.keepers))) (g.D.Desk.layout c.note_recovering.new.desk) (g.D.Desk.layout c.args.desk.now) (sym (c.note_recovering.ensures.leaves.layout ∙ c.lead.ensures.leaves.layout))
    (stage-noted (g.D.Desk.layout c.lead.new.desk) (board.Recovering c.args.plan.now.parent) split (recovering c.args.plan.now) (known_of (g.D.Desk.seen c.lead.new.desk) (g.D.Desk.keeping c.lead.new.desk c.lead.new.keepers)) (known_of (g.D.Desk.seen c.note_recovering.new.desk) (g.D.Desk.keeping c.note_recovering.new.desk c.lead.new.keepers)) (g.D.Desk.layout c.args.desk.now).buckets notes
    (c.note_recovering.ensures.keepers c.lead.new.keepers c.lead.ensures.leaves.fits).1 c.in_ok-lead.ensures.led) in
    let here : NotesOne (g.D.Desk.layout c.args.desk.now) (board.Recovering c.args.plan.now.parent) (g.D.Desk.seen c.lead.new.desk) (g.D.Desk.seen c.note_recovering.new.desk) =
    subst (λ (layout : Layout). NotesOne layout (board.Recovering c.args.plan.now.parent) (g.D.Desk.seen c.lead.new.desk) (g.D.Desk.seen c.note_recovering.new.desk))
    c.lead.ensures.leaves.layout notes in
    builds-followed (g.D.Desk.layout c.args.desk.now) c.args.plan.now entries (known_of (g.D.Desk.seen c.args.desk.now) (g.D.Desk.keeping c.args.desk.now c.args.keepers.now)) (known_of (g.D.Desk.seen c.lead.new.desk) (g.D.Desk.keeping c.lead.new.desk c.lead.new.keepers)) (known_of (g.D.Desk.seen c.note_recovering.new.desk) (g.D.Desk.keeping c.note_recovering.new.desk c.lead.new.keepers)) (known_of (g.D.Desk.seen c.follow.new.desk) (g.D.Desk.keeping c.follow.new.desk c.follow.new.keepers))
    c.requires.rests.rest.legal begun c.lead.ensures.leaves.board here c.follow.ensures.leaves.board c.lead.new.progress.begun c.in_ok-lead.ensures.everywhere
    (on-layout (IsOpenIn split (known_of (g.D.Desk.seen c.follow.new.desk) (g.D.Desk.keeping c.follow.new.desk c.follow.new.keepers))) (g.D.Desk.layout c.args.desk.now) (g.D.Desk.layout c.note_recovering.new.desk) (c.note_recovering.ensures.leaves.layout ∙ c.lead.ensures.leaves.layout)
    (c.follow.ensures.opened split (sym c.requires.followers) at))

pub returns-clause-whole : goal.returns-clause-whole
returns-clause-whole g c =
    let split : OpenSplit = record { plan = c.args.plan.now; base = (known_of (g.D.Desk.seen c.args.desk.now) (g.D.Desk.keeping c.args.desk.now c.args.keepers.now)) } in
    let notes : NotesOne (g.D.Desk.layout c.lead.new.desk) (board.Recovering c.args.plan.now.parent) (g.D.Desk.seen c.lead.new.desk) (g.D.Desk.seen c.note_recovering.new.desk) =
    c.note_recovering.ensures.noted c.args.plan.now.parent
    (led-may-recover (g.D.Desk.layout c.args.desk.now) (g.D.Desk.layout c.lead.new.desk) c.args.plan.now c.requires.begun.0 (known_of (g.D.Desk.seen c.args.desk.now) (g.D.Desk.keeping c.args.desk.now c.args.keepers.now)) (known_of (g.D.Desk.seen c.lead.new.desk) (g.D.Desk.keeping c.lead.new.desk c.lead.new.keepers)) c.lead.ensures.leaves.rest.legal c.lead.ensures.leaves.board c.requires.begun.1) in
    let at : OfBuckets 0 (g.D.Desk.layout c.note_recovering.new.desk).buckets (IsAtStage split (recovering c.args.plan.now) (known_of (g.D.Desk.seen c.note_recovering.new.desk) (g.D.Desk.keeping c.note_recovering.new.desk c.lead.new.keepers))) =
    on-layout (IsAtStage split (recovering c.args.plan.now) (known_of (g.D.Desk.seen c.note_recovering.new.desk) (g.D.Desk.keeping c.note_recovering.new.desk c.lead.new.keepers))) (g.D.Desk.layout c.note_recovering.new.desk) (g.D.Desk.layout c.args.desk.now) (sym (c.note_recovering.ensures.leaves.layout ∙ c.lead.ensures.leaves.layout))
    (stage-noted (g.D.Desk.layout c.lead.new.desk) (board.Recovering c.args.plan.now.parent) split (recovering c.args.plan.now) (known_of (g.D.Desk.seen c.lead.new.desk) (g.D.Desk.keeping c.lead.new.desk c.lead.new.keepers)) (known_of (g.D.Desk.seen c.note_recovering.new.desk) (g.D.Desk.keeping c.note_recovering.new.desk c.lead.new.keepers)) (g.D.Desk.layout c.args.desk.now).buckets notes
    (c.note_recovering.ensures.keepers c.lead.new.keepers c.lead.ensures.leaves.fits).1 c.in_ok-lead.ensures.led) in
    let here : NotesOne (g.D.Desk.layout c.args.desk.now) (board.Recovering c.args.plan.now.parent) (g.D.Desk.seen c.lead.new.desk) (g.D.Desk.seen c.note_recovering.new.desk) =
    subst (λ (layout : Layout). NotesOne layout (board.Recovering c.args.plan.now.parent) (g.D.Desk.seen c.lead.new.desk) (g.D.Desk.seen c.note_recovering.new.desk))
    c.lead.ensures.leaves.layout notes in
    on_ok_weaker c.follow.result
    (λ all entries begun. whole-followed (g.D.Desk.layout c.args.desk.now) c.args.plan.now entries (known_of (g.D.Desk.seen c.args.desk.now) (g.D.Desk.keeping c.args.desk.now c.args.keepers.now)) (known_of (g.D.Desk.seen c.lead.new.desk) (g.D.Desk.keeping c.lead.new.desk c.lead.new.keepers)) (known_of (g.D.Desk.seen c.note_recovering.new.desk) (g.D.Desk.keeping c.note_recovering.new.desk c.lead.new.keepers)) (known_of (g.D.Desk.seen c.follow.new.desk) (g.D.Desk.keeping c.follow.new.desk c.follow.new.keepers))
    c.requires.rests.rest.legal begun c.lead.ensures.leaves.board here c.follow.ensures.leaves.board
    (on-layout (IsAtStage split (whole c.args.plan.now) (known_of (g.D.Desk.seen c.follow.new.desk) (g.D.Desk.keeping c.follow.new.desk c.follow.new.keepers))) (g.D.Desk.layout c.args.desk.now) (g.D.Desk.layout c.note_recovering.new.desk) (c.note_recovering.ensures.leaves.layout ∙ c.lead.ensures.leaves.layout)
    (all split (sym c.requires.followers) at)))
    c.follow.ensures.whole
