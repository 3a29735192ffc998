-- The core of the name is found, and with a new one in its place the bucket is sound.
use Rattle.std.proofs.Common.{List, ◌∙◌, sym, subst}
use Rattle.std.proofs.lemmas.Option.{slice_get_within}
use Rattle.sc_record.specs.declared.slice.CoreId.{CoreId}
use Rattle.sc_ulog.specs.declared.mode.Mode.TheVariants.{Active}
use Rattle.sc_bucket.specs.Kept.{FeedState}
use Rattle.sc_bucket.specs.Sound.{IsSound}
use Rattle.sc_bucket.proofs.DeliverLemmas.{place_of_core}
use Rattle.sc_handover.specs.Conditions.{IsInMode}
use Rattle.sc_handover.specs.Seats.{Rejoins}
use Rattle.sc_handover.proofs.FollowingLemmas.{core_named}
use Rattle.sc_handover.proofs.LeadLemmas.{core_is_found}
use Rattle.sc_handover.proofs.RejoinedLemmas.{may_rejoin, with_rejoined, IsSound-rejoined}
use Rattle.sc_handover.proofs.RejoinLemmas.{Rejoins-put}
use Rattle.sc_handover.proofs.rejoining.put_rejoined.Goals as goal

pub returns-in_err-push-clause-sound : goal.returns-in_err-push-clause-sound
returns-in_err-push-clause-sound c =
    subst (λ (feeds : List FeedState). IsSound (record c.args.bucket.now { feeds = feeds })) (sym c.in_err-push.ensures.err) c.requires.sound

pub unwrap-at-requires : goal.unwrap-at-requires
unwrap-at-requires c =
    let b = c.args.bucket.now in
    let (name, slice, can, follows, made) = c.requires.made in
    core_is_found b c.core-core.result Active c.position.result
    (subst (λ (n : CoreId). IsInMode b n Active)
    (sym (core_named b name slice c.args.fresh c.args.feed made) ∙ sym c.core-core.ensures.value) can.active)
    c.position.ensures

pub renew-requires : goal.renew-requires
renew-requires c =
    let b = c.args.bucket.now in
    let (core, there, named) = place_of_core b.replicas c.core-core.result c.position.result c.unwrap-at.result c.position.ensures c.unwrap-at.ensures in
    slice_get_within b.replicas c.unwrap-at.result core there

pub returns-clause-sound : goal.returns-clause-sound
returns-clause-sound c =
    let b = c.args.bucket.now in
    let (name, slice, can, follows, made) = c.requires.made in
    let (before, may) =
    may_rejoin b name c.core-core.result slice c.args.fresh c.args.feed c.position.result c.unwrap-at.result c.requires.sound can follows made
    c.core-core.ensures.value c.position.ensures c.unwrap-at.ensures in
    IsSound-rejoined b c.core-core.result slice c.args.fresh c.args.feed c.unwrap-at.result before c.append.new.self c.push.new.self
    c.renew.new.self may c.requires.memory c.requires.room c.append.ensures c.in_ok-push.ensures.ok (c.renew.ensures before may.there)

pub returns-clause-rejoined : goal.returns-clause-rejoined
returns-clause-rejoined c =
    let b = c.args.bucket.now in
    let (name, slice, can, follows, made) = c.requires.made in
    let (before, may) =
    may_rejoin b name c.core-core.result slice c.args.fresh c.args.feed c.position.result c.unwrap-at.result c.requires.sound can follows made
    c.core-core.ensures.value c.position.ensures c.unwrap-at.ensures in
    subst (λ (n : CoreId). Rejoins b n (with_rejoined b c.append.new.self c.push.new.self c.renew.new.self)) c.core-core.ensures.value
    (Rejoins-put b c.core-core.result slice c.args.fresh c.args.feed c.unwrap-at.result before c.append.new.self c.push.new.self
    c.renew.new.self may c.requires.room c.append.ensures c.in_ok-push.ensures.ok (c.renew.ensures before may.there))
