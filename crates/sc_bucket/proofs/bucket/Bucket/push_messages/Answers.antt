-- One more core of the slice gets a message, where it is not the leader, and not down.
use Rattle.std.proofs.Common.{◌≡◌, length, map, sym, ap, ◌∙◌, true, false, Vec, Global}
use Rattle.std.specs.Arc.{arc_value}
use Rattle.sc_replicas.specs.Cores.{follows}
use Rattle.sc_bucket.specs.declared.message.Message.{Message}
use Rattle.sc_bucket.specs.Flight.{sent_of}
use Rattle.sc_bucket.proofs.SendLemmas.{sent_of-is, sent_to-more, sent_to-same}
use Rattle.sc_bucket.proofs.bucket.Bucket.push_messages.Goals as goal
use Rattle.sc_bucket.proofs.bucket.Bucket.push_messages.Goals.{then-follows+in_ok-try_clone+in_ok-push, else-follows}

pub loop-at-preserved : goal.loop-at-preserved
loop-at-preserved c =
    elim c.if-follows.branch [
      | then-follows+in_ok-try_clone+in_ok-push w ↦
          let test : follows c.args.leader c.args.slice.now c.get-replica.result.now ≡ true = sym c.follows.ensures ∙ w.if-follows.true in
          sent_to-more (follows c.args.leader c.args.slice.now) (length c.args.self.now.journal.entries) (arc_value c.args.write.now)
          c.args.self.now.replicas c.loop-at.at c.get-replica.result.now (map sent_of c.args.messages.now.items) c.loop-at.messages.items
          c.if-follows.messages.items
          (record { place = w.entries.result; core = w.core.result; write = w.in_ok-try_clone.field-0 }) c.get-replica.ensures test c.loop-at.invariant
          (ap (λ (v : Vec Message Global). v.items) w.messages-is ∙ w.in_ok-push.ensures.items)
          (sent_of-is (record { place = w.entries.result; core = w.core.result; write = w.in_ok-try_clone.field-0 }) _ _ _ w.entries.ensures.count w.core.ensures.value w.in_ok-try_clone.ensures)
      | else-follows w ↦
          let test : follows c.args.leader c.args.slice.now c.get-replica.result.now ≡ false = sym c.follows.ensures ∙ w.if-follows.false in
          let same : map sent_of c.if-follows.messages.items ≡ map sent_of c.loop-at.messages.items =
          ap (λ (v : Vec Message Global). map sent_of v.items) w.messages-is in
          sent_to-same (follows c.args.leader c.args.slice.now) (length c.args.self.now.journal.entries) (arc_value c.args.write.now)
          c.args.self.now.replicas c.loop-at.at c.get-replica.result.now (map sent_of c.args.messages.now.items) _ c.get-replica.ensures test
          (same ∙ c.loop-at.invariant)
    ]
