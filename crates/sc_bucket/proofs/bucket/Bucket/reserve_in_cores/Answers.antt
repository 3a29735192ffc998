-- Each core that is to get a write has room for one more than all that could be pending for it.
use Rattle.std.proofs.Common.{◌≡◌, List, map, take, All, Contains, Some, slice_get, refl, sym, ap, ◌∙◌, subst, arith}
use Rattle.std.specs.List.{IsDistinct}
use Rattle.std.specs.Prelude.{OnOk}
use Rattle.std.proofs.lemmas.List.{take_all}
use Rattle.std.proofs.lemmas.List.Elements.{All-nil, All-weaker}
use Rattle.std.proofs.lemmas.Option.{slice_get_within}
use Rattle.sc_record.specs.declared.slice.CoreId.{CoreId}
use Rattle.sc_replica.specs.Core.{Core}
use Rattle.sc_bucket.specs.declared.bucket.Bucket.{Bucket}
use Rattle.sc_bucket.specs.declared.message.Message.{Message}
use Rattle.sc_bucket.specs.Kept.{Sent, FeedState}
use Rattle.sc_bucket.specs.Accepting.{HasMore, HasMoreAt}
use Rattle.sc_record.specs.Names.{is_core}
use Rattle.sc_replicas.proofs.CoreLemmas.{AreApart, IsCoreFound, core_is_found, AreApart-from_ascending, AscendByName-same}
use Rattle.sc_bucket.proofs.RoomierLemmas.{roomier-itself, roomier-then, names-roomier, length-roomier, HasMoreAt-roomier, more_at, message_there, mores-push, whatever}
use Rattle.sc_bucket.proofs.bucket.Bucket.reserve_in_cores.Goals as goal

pub loop-message-init : goal.loop-message-init
loop-message-init c = record {
  rest = refl;
  cores = roomier-itself c.args.self.now.replicas;
  more = All-nil (HasMoreAt c.args.self.now.flight.messages c.args.self.now.feeds c.args.self.now.replicas);
}

pub unwrap-core-requires : goal.unwrap-core-requires
unwrap-core-requires c =
    let there = message_there c.args.messages.now c.loop-message.message-index c.message-item.result _ c.requires.there c.loop-message-test.true c.message-item.is in
    core_is_found c.loop-message.self.replicas c.message-item.result.core c.position.result
    (subst (λ (names : List CoreId). Contains names c.message-item.result.core)
    (sym (names-roomier c.args.self.now.replicas c.loop-message.self.replicas c.loop-message.invariant.cores)) there) c.position.ensures

pub reserve_in-requires-clause-within : goal.reserve_in-requires-clause-within
reserve_in-requires-clause-within c =
    let found = subst (IsCoreFound c.loop-message.self.replicas c.message-item.result.core) c.unwrap-core.ensures c.position.ensures in
    slice_get_within c.loop-message.self.replicas c.unwrap-core.result found.0 found.1

pub returns-in_err-reserve_in-clause-cores : goal.returns-in_err-reserve_in-clause-cores
returns-in_err-reserve_in-clause-cores c =
    roomier-then c.args.self.now.replicas c.loop-message.self.replicas c.reserve_in.new.self.replicas c.loop-message.invariant.cores c.reserve_in.ensures.cores

pub loop-message-preserved : goal.loop-message-preserved
loop-message-preserved c =
    let found = subst (IsCoreFound c.loop-message.self.replicas c.message-item.result.core) c.unwrap-core.ensures c.position.ensures in
    let new : List Core = c.reserve_in.new.self.replicas in
    let same_names =
    names-roomier c.args.self.now.replicas c.loop-message.self.replicas c.loop-message.invariant.cores in
    let apart : AreApart c.loop-message.self.replicas =
    AreApart-from_ascending c.loop-message.self.replicas
    (AscendByName-same c.args.self.now.replicas c.loop-message.self.replicas same_names c.requires.ascend) in
    let flight : c.loop-message.self.flight.messages ≡ c.args.self.now.flight.messages =
    ap (λ (b : Bucket). b.flight.messages) c.loop-message.invariant.rest in
    let feeds : c.loop-message.self.feeds ≡ c.args.self.now.feeds =
    ap (λ (b : Bucket). b.feeds) c.loop-message.invariant.rest in
    let more : HasMoreAt c.args.self.now.flight.messages c.args.self.now.feeds new c.message-item.result.core =
    subst (λ (messages : List Sent). HasMoreAt messages c.args.self.now.feeds new c.message-item.result.core) flight
    (subst (λ (these : List FeedState).
    HasMoreAt c.loop-message.self.flight.messages these new c.message-item.result.core) feeds
    (more_at c.loop-message.self.flight.messages c.loop-message.self.feeds c.loop-message.self.replicas new
    c.unwrap-core.result c.message-item.result.core found.0 apart c.reserve_in.ensures.cores found.1 found.2
    c.in_ok-reserve_in.ensures.more)) in
    record {
      rest = c.reserve_in.ensures.rest ∙ ap (λ (b : Bucket). record b { replicas = new }) c.loop-message.invariant.rest;
      cores = roomier-then c.args.self.now.replicas c.loop-message.self.replicas new c.loop-message.invariant.cores c.reserve_in.ensures.cores;
      more = mores-push c.args.self.now.flight.messages c.args.self.now.feeds c.loop-message.self.replicas new
          c.args.messages.now c.loop-message.message-index
          c.message-item.result c.reserve_in.ensures.cores c.loop-message-test.true c.message-item.is c.loop-message.invariant.more more;
    }

pub reserve_in-requires-2-clause-within : goal.reserve_in-requires-2-clause-within
reserve_in-requires-2-clause-within c =
    omega (arith, length-roomier c.args.self.now.replicas c.loop-message.self.replicas c.loop-message.invariant.cores, c.requires.within)

pub returns-clause-cores : goal.returns-clause-cores
returns-clause-cores c =
    roomier-then c.args.self.now.replicas c.loop-message.self.replicas c.reserve_in-2.new.self.replicas c.loop-message.invariant.cores c.reserve_in-2.ensures.cores

pub returns-clause-messages : goal.returns-clause-messages
returns-clause-messages c =
    let new : List Core = c.reserve_in-2.new.self.replicas in
    let sent : List Sent = c.args.self.now.flight.messages in
    let feeds : List FeedState = c.args.self.now.feeds in
    let all : take c.loop-message.message-index c.args.messages.now ≡ c.args.messages.now =
    take_all c.loop-message.message-index c.args.messages.now (omega (arith, c.loop-message-test.false)) in
    let more : All (HasMoreAt sent feeds c.loop-message.self.replicas) (map (λ (m : Message). m.core) c.args.messages.now) =
    subst (λ (ms : List Message). All (HasMoreAt sent feeds c.loop-message.self.replicas) (map (λ (m : Message). m.core) ms))
    all c.loop-message.invariant.more in
    whatever c.reserve_in-2.result
    (All-weaker (HasMoreAt sent feeds c.loop-message.self.replicas) (HasMoreAt sent feeds new)
    (λ name. HasMoreAt-roomier sent feeds c.loop-message.self.replicas new name c.reserve_in-2.ensures.cores) _ more)

pub returns-clause-leader : goal.returns-clause-leader
returns-clause-leader c =
    let flight : c.loop-message.self.flight.messages ≡ c.args.self.now.flight.messages =
    ap (λ (b : Bucket). b.flight.messages) c.loop-message.invariant.rest in
    let feeds : c.loop-message.self.feeds ≡ c.args.self.now.feeds =
    ap (λ (b : Bucket). b.feeds) c.loop-message.invariant.rest in
    let new : List Core = c.reserve_in-2.new.self.replicas in
    subst (λ (messages : List Sent). OnOk c.reserve_in-2.result
    ((core : Core) → slice_get new c.args.leader ≡ Some core → HasMore messages c.args.self.now.feeds core)) flight
    (subst (λ (these : List FeedState). OnOk c.reserve_in-2.result
    ((core : Core) → slice_get new c.args.leader ≡ Some core → HasMore c.loop-message.self.flight.messages these core))
    feeds
    c.reserve_in-2.ensures.more)

pub reserve_in-requires-clause-feeds : goal.reserve_in-requires-clause-feeds
reserve_in-requires-clause-feeds c =
    subst (λ (feeds : List FeedState). IsDistinct is_core (map (λ (feed : FeedState). feed.core) feeds))
    (sym (ap (λ (b : Bucket). b.feeds) c.loop-message.invariant.rest)) c.requires.feeds

pub reserve_in-requires-2-clause-feeds : goal.reserve_in-requires-2-clause-feeds
reserve_in-requires-2-clause-feeds c =
    subst (λ (feeds : List FeedState). IsDistinct is_core (map (λ (feed : FeedState). feed.core) feeds))
    (sym (ap (λ (b : Bucket). b.feeds) c.loop-message.invariant.rest)) c.requires.feeds
