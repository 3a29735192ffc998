-- One more slice's cores get their messages, where the slice takes the write.
use Rattle.std.proofs.Common.{◌≡◌, length, map, List, sym, ap, ◌∙◌, ℤ, Vec, Global, to_z, of_z, w32, arith}
use Rattle.std.specs.Arc.{arc_value}
use Rattle.std.specs.Option.{option_copied}
use Rattle.std.proofs.lemmas.Int.{ints}
use Rattle.std.proofs.lemmas.List.{take_all}
use Rattle.std.proofs.lemmas.Option.{same_Some}
use Rattle.sc_record.specs.declared.slice.CoreId.{CoreId}
use Rattle.sc_record.specs.Writes.{Write}
use Rattle.sc_cluster.specs.declared.slice.Slice.{Slice}
use Rattle.sc_replica.specs.Core.{Core}
use Rattle.sc_bucket.specs.declared.message.Message.{Message}
use Rattle.sc_replicas.specs.Cores.{followers}
use Rattle.sc_bucket.specs.Flight.{sent_of, sent_to}
use Rattle.sc_bucket.proofs.SendLemmas.{takes, followers-more, followers-same}
use Rattle.sc_bucket.proofs.bucket.Bucket.messages_for.Goals as goal
use Rattle.sc_bucket.proofs.bucket.Bucket.messages_for.Goals.{then-takes+in_ok-push_messages, else-takes}

pub loop-at-init : goal.loop-at-init
loop-at-init c = ap (map sent_of) c.new-messages.ensures.items

pub loop-at-preserved : goal.loop-at-preserved
loop-at-preserved c =
    let slice = c.unwrap-slice.result.now in
    let write = arc_value c.args.write.now in
    let there = sym c.get-in-loop-at.ensures.slice ∙ ap option_copied c.unwrap-slice.ensures in
    let back : to_z w32 (of_z w32 c.hash.result) ≡ c.hash.result = omega (arith, ints) in
    let hash : to_z w32 (of_z w32 c.hash.result) ≡ write.hash = back ∙ c.hash.ensures ∙ ap (λ (w : Write). w.hash) c.deref.ensures in
    let same_test : takes write.hash slice ≡ c.takes.result = ap (λ (h : ℤ). takes h slice) (sym hash) ∙ sym c.takes.ensures in
    elim c.if-takes.branch [
      | then-takes+in_ok-push_messages w ↦
          followers-more (length c.args.self.now.journal.entries) write c.args.self.now.map c.args.self.now.replicas write.hash
          c.core-leader.result c.loop-at.at slice c.loop-at.messages.items c.if-takes.messages.items there (same_test ∙ w.if-takes.true) c.loop-at.invariant
          (ap (λ (v : Vec Message Global). map sent_of v.items) w.messages-is ∙ w.in_ok-push_messages.ensures)
      | else-takes w ↦
          followers-same (length c.args.self.now.journal.entries) write c.args.self.now.map c.args.self.now.replicas write.hash
          c.core-leader.result c.loop-at.at slice (map sent_of c.if-takes.messages.items) there (same_test ∙ w.if-takes.false)
          (ap (λ (v : Vec Message Global). map sent_of v.items) w.messages-is ∙ c.loop-at.invariant)
    ]

pub returns : goal.returns
returns c core there =
    let b = c.args.self.now in
    let write = arc_value c.args.write.now in
    let same : c.get.result.now ≡ core = same_Some c.get.result.now core (sym c.get.ensures ∙ there) in
    c.loop-at.invariant
    ∙ ap (λ (slices : List Slice). sent_to (length b.journal.entries) write (followers slices b.replicas write.hash c.core-leader.result))
    (take_all c.loop-at.at b.map (omega (arith, c.loop-at-test.false, c.len-at-end.ensures)))
    ∙ ap (λ (name : CoreId). sent_to (length b.journal.entries) write (followers b.map b.replicas write.hash name))
    (c.core-leader.ensures.value ∙ ap (λ (one : Core). one.core) same)
