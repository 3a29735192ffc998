-- The first message of the write goes to the core that is given.
use Rattle.std.proofs.Common.{◌≡◌, ◌∙◌, ◌↔◌, IsTrue, Contains, sym, ap, subst}
use Rattle.sc_record.specs.declared.slice.CoreId.{CoreId}
use Rattle.sc_cluster.specs.declared.slice.Slice.{Slice}
use Rattle.sc_cluster.specs.Slices.{node_of}
use Rattle.sc_journal.specs.Seats.{seats}
use Rattle.sc_bucket.specs.declared.message.Message.{Message}
use Rattle.sc_bucket.specs.Events.{CanDetach}
use Rattle.sc_bucket.proofs.TargetLemmas.{core_at, IsTarget-first}
use Rattle.sc_bucket.proofs.bucket.Bucket.next_core.Goals as goal

pub returns : goal.returns
returns c =
    let b = c.args.self.now in
    let (message, first) = c.in_ok-at.ensures in
    let target = c.target.result in
    let same = ap (λ (one : Message). one.core) (sym c.index-as_slice-at.is)
    ∙ core_at c.as_slice.result.now b.flight.messages c.in_ok-at.at c.index-as_slice-at.result message c.as_slice.ensures
    c.index-as_slice-at.is first.found in
    IsTarget-first b c.args.place c.args.nodes c.in_ok-at.at message target c.requires.sound first (c.target.ensures.core ∙ same)
    (subst (λ (name : CoreId). (slice : Slice) → Contains b.map slice → slice.id ≡ name.slice
    → target.node ≡ node_of slice.node (seats b.journal.entries slice.id name.replica) c.args.nodes) same c.target.ensures.node)
    (subst (λ (name : CoreId). IsTrue target.follower ↔ CanDetach b name) same c.target.ensures.follows)
