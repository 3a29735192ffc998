-- The split begins in each bucket; then its leaders are filled, and are ready.
use Rattle.std.proofs.Common.{ap, sym, arith}
use Rattle.sc_seen.specs.Seen.{Layout}
use Rattle.sc_collection.specs.Known.{known_of, OfBuckets}
use Rattle.sc_split.specs.Stages.{OpenSplit, IsAtStage, building, leaders_filled}
use Rattle.sc_split.proofs.building.lead_all.Goals as goal

pub fill_all-requires-clause-stage : goal.fill_all-requires-clause-stage
fill_all-requires-clause-stage g c =
    let split : OpenSplit = record { plan = c.args.plan.now; base = (known_of (g.D.Desk.seen c.args.desk.now) (g.D.Desk.keeping c.args.desk.now c.args.keepers.now)) } in (
      split,
      building c.args.plan.now,
      sym c.requires.leaders,
      λ b low below. c.begin_all.ensures.opened b low (omega (arith, below, ap (λ (layout : Layout). layout.buckets) c.begin_all.ensures.leaves.layout, c.in_ok-begin_all.ensures.all)),
    )

pub returns-in_err-fill_all-clause-opened : goal.returns-in_err-fill_all-clause-opened
returns-in_err-fill_all-clause-opened g c b low below =
    let split : OpenSplit = record { plan = c.args.plan.now; base = (known_of (g.D.Desk.seen c.args.desk.now) (g.D.Desk.keeping c.args.desk.now c.args.keepers.now)) } in
    let at : OfBuckets 0 (g.D.Desk.layout c.begin_all.new.desk).buckets (IsAtStage split (building c.args.plan.now) (known_of (g.D.Desk.seen c.begin_all.new.desk) (g.D.Desk.keeping c.begin_all.new.desk c.begin_all.new.keepers))) =
    λ b low below. c.begin_all.ensures.opened b low (omega (arith, below, ap (λ (layout : Layout). layout.buckets) c.begin_all.ensures.leaves.layout, c.in_ok-begin_all.ensures.all)) in
    c.fill_all.ensures.opened split (building c.args.plan.now) (sym c.requires.leaders) at b low
    (omega (arith, below, ap (λ (layout : Layout). layout.buckets) c.begin_all.ensures.leaves.layout, c.in_ok-begin_all.ensures.all))

pub ready_all-requires-clause-stage : goal.ready_all-requires-clause-stage
ready_all-requires-clause-stage g c =
    let split : OpenSplit = record { plan = c.args.plan.now; base = (known_of (g.D.Desk.seen c.args.desk.now) (g.D.Desk.keeping c.args.desk.now c.args.keepers.now)) } in
    let at : OfBuckets 0 (g.D.Desk.layout c.begin_all.new.desk).buckets (IsAtStage split (building c.args.plan.now) (known_of (g.D.Desk.seen c.begin_all.new.desk) (g.D.Desk.keeping c.begin_all.new.desk c.begin_all.new.keepers))) =
    λ b low below. c.begin_all.ensures.opened b low (omega (arith, below, ap (λ (layout : Layout). layout.buckets) c.begin_all.ensures.leaves.layout, c.in_ok-begin_all.ensures.all)) in (
      split,
      λ b low below. c.in_ok-fill_all.ensures.filled split (building c.args.plan.now) (sym c.requires.leaders) at b low
          (omega (arith, below, ap (λ (layout : Layout). layout.buckets) c.fill_all.ensures.leaves.layout)),
    )

pub returns-clause-opened : goal.returns-clause-opened
returns-clause-opened g c b low below =
    let split : OpenSplit = record { plan = c.args.plan.now; base = (known_of (g.D.Desk.seen c.args.desk.now) (g.D.Desk.keeping c.args.desk.now c.args.keepers.now)) } in
    let at : OfBuckets 0 (g.D.Desk.layout c.begin_all.new.desk).buckets (IsAtStage split (building c.args.plan.now) (known_of (g.D.Desk.seen c.begin_all.new.desk) (g.D.Desk.keeping c.begin_all.new.desk c.begin_all.new.keepers))) =
    λ b low below. c.begin_all.ensures.opened b low (omega (arith, below, ap (λ (layout : Layout). layout.buckets) c.begin_all.ensures.leaves.layout, c.in_ok-begin_all.ensures.all)) in
    let ready : OfBuckets 0 (g.D.Desk.layout c.fill_all.new.desk).buckets (IsAtStage split (leaders_filled c.args.plan.now) (known_of (g.D.Desk.seen c.fill_all.new.desk) (g.D.Desk.keeping c.fill_all.new.desk c.fill_all.new.keepers))) =
    λ b low below. c.in_ok-fill_all.ensures.filled split (building c.args.plan.now) (sym c.requires.leaders) at b low (omega (arith, below, ap (λ (layout : Layout). layout.buckets) c.fill_all.ensures.leaves.layout)) in
    (c.ready_all.ensures.ready split ready b low
    (omega (arith, below, ap (λ (layout : Layout). layout.buckets) c.begin_all.ensures.leaves.layout, ap (λ (layout : Layout). layout.buckets) c.fill_all.ensures.leaves.layout, c.in_ok-begin_all.ensures.all))).opened

pub returns-clause-led : goal.returns-clause-led
returns-clause-led g c b low below =
    let split : OpenSplit = record { plan = c.args.plan.now; base = (known_of (g.D.Desk.seen c.args.desk.now) (g.D.Desk.keeping c.args.desk.now c.args.keepers.now)) } in
    let at : OfBuckets 0 (g.D.Desk.layout c.begin_all.new.desk).buckets (IsAtStage split (building c.args.plan.now) (known_of (g.D.Desk.seen c.begin_all.new.desk) (g.D.Desk.keeping c.begin_all.new.desk c.begin_all.new.keepers))) =
    λ b low below. c.begin_all.ensures.opened b low (omega (arith, below, ap (λ (layout : Layout). layout.buckets) c.begin_all.ensures.leaves.layout, c.in_ok-begin_all.ensures.all)) in
    let ready : OfBuckets 0 (g.D.Desk.layout c.fill_all.new.desk).buckets (IsAtStage split (leaders_filled c.args.plan.now) (known_of (g.D.Desk.seen c.fill_all.new.desk) (g.D.Desk.keeping c.fill_all.new.desk c.fill_all.new.keepers))) =
    λ b low below. c.in_ok-fill_all.ensures.filled split (building c.args.plan.now) (sym c.requires.leaders) at b low (omega (arith, below, ap (λ (layout : Layout). layout.buckets) c.fill_all.ensures.leaves.layout)) in
    c.ready_all.ensures.ready split ready b low (omega (arith, below, ap (λ (layout : Layout). layout.buckets) c.begin_all.ensures.leaves.layout, ap (λ (layout : Layout). layout.buckets) c.fill_all.ensures.leaves.layout))
