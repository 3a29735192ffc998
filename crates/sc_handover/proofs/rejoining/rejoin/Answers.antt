-- A core that rejoins the bucket with more room for its journal rejoins the bucket.
use Rattle.std.proofs.Common.{◌+◌, ◌≤◌, List, length, sym, ap, subst, arith}
use Rattle.sc_record.specs.declared.slice.CoreId.{CoreId}
use Rattle.sc_record.specs.declared.entry.Entry.{Entry}
use Rattle.sc_journal.specs.Splits.{owed}
use Rattle.sc_bucket.specs.Kept.{JournalState}
use Rattle.sc_bucket.specs.Sound.{IsSound}
use Rattle.sc_handover.specs.Seats.{Rejoins}
use Rattle.sc_handover.proofs.MadeLemmas.{leader_named}
use Rattle.sc_handover.proofs.FollowingLemmas.{core_named}
use Rattle.sc_handover.proofs.ReservedLemmas.{IsSound-reserved}
use Rattle.sc_handover.proofs.RejoinedLemmas.{CanFollow-rejoined}
use Rattle.sc_handover.proofs.RejoinLemmas.{CanRejoin-reserved, Rejoins-reserved}
use Rattle.sc_handover.proofs.rejoining.rejoin.Goals as goal

pub returns-in_err-reserve-clause-sound : goal.returns-in_err-reserve-clause-sound
returns-in_err-reserve-clause-sound c =
    subst (λ (journal : JournalState). IsSound (record c.args.bucket.now { journal = journal }))
    (sym c.in_err-reserve.ensures.err) c.requires.sound

pub follower-requires-clause-sound : goal.follower-requires-clause-sound
follower-requires-clause-sound c =
    IsSound-reserved c.args.bucket.now c.reserve.new.self _ c.in_ok-reserve.ensures.ok c.requires.sound

pub follower-requires-clause-can : goal.follower-requires-clause-can
follower-requires-clause-can c =
    CanFollow-rejoined (record c.args.bucket.now { journal = c.reserve.new.self }) c.args.core
    (IsSound-reserved c.args.bucket.now c.reserve.new.self _ c.in_ok-reserve.ensures.ok c.requires.sound) c.requires.can.follower

pub follower-requires-clause-leads : goal.follower-requires-clause-leads
follower-requires-clause-leads c = leader_named c.args.core.slice c.leader-leader.result c.leader-leader.ensures.slice c.leader-leader.ensures.first

pub returns-in_err-fresh-clause-sound : goal.returns-in_err-fresh-clause-sound
returns-in_err-fresh-clause-sound c =
    IsSound-reserved c.args.bucket.now c.reserve.new.self _ c.in_ok-reserve.ensures.ok c.requires.sound

pub put_rejoined-requires-clause-sound : goal.put_rejoined-requires-clause-sound
put_rejoined-requires-clause-sound c =
    IsSound-reserved c.args.bucket.now c.reserve.new.self _ c.in_ok-reserve.ensures.ok c.requires.sound

pub put_rejoined-requires-clause-made : goal.put_rejoined-requires-clause-made
put_rejoined-requires-clause-made c =
    let b = c.args.bucket.now in
    let (slice, follows) =
    CanFollow-rejoined (record b { journal = c.reserve.new.self }) c.args.core
    (IsSound-reserved b c.reserve.new.self _ c.in_ok-reserve.ensures.ok c.requires.sound) c.requires.can.follower in (
      c.args.core,
      slice,
      CanRejoin-reserved b c.reserve.new.self c.args.core (ap (λ (journal : JournalState). journal.entries) c.in_ok-reserve.ensures.ok)
          c.requires.can,
      follows,
      c.in_ok-fresh.ensures slice follows,
    )

pub put_rejoined-requires-clause-room : goal.put_rejoined-requires-clause-room
put_rejoined-requires-clause-room c =
    let b = c.args.bucket.now in
    let owed_is = c.requires.sound.journal.owed_is in
    subst (λ (entries : List Entry). length entries + owed b.first entries + 2 ≤ b.limit)
    (sym (ap (λ (journal : JournalState). journal.entries) c.in_ok-reserve.ensures.ok))
    (omega (arith, owed_is, c.entries.ensures.count))

pub returns-clause-rejoined : goal.returns-clause-rejoined
returns-clause-rejoined c =
    let b = c.args.bucket.now in
    let (slice, follows) =
    CanFollow-rejoined (record b { journal = c.reserve.new.self }) c.args.core
    (IsSound-reserved b c.reserve.new.self _ c.in_ok-reserve.ensures.ok c.requires.sound) c.requires.can.follower in
    Rejoins-reserved b c.put_rejoined.new.bucket c.reserve.new.self c.args.core
    (ap (λ (journal : JournalState). journal.entries) c.in_ok-reserve.ensures.ok)
    (ap (λ (journal : JournalState). journal.filed) c.in_ok-reserve.ensures.ok)
    (subst (λ (n : CoreId). Rejoins (record b { journal = c.reserve.new.self }) n c.put_rejoined.new.bucket)
    (core_named (record b { journal = c.reserve.new.self }) c.args.core slice c.in_ok-fresh.fresh c.in_ok-fresh.feed
    (c.in_ok-fresh.ensures slice follows)) c.in_ok-put_rejoined.ensures.rejoined)
