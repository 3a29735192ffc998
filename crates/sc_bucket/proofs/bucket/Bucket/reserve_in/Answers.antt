-- The core at the place has room for one more write than all that could be pending for it.
use Rattle.std.proofs.Common.{◌≡◌, ◌+◌, length, sym, ap, ◌∙◌, arith}
use Rattle.sc_record.specs.declared.slice.CoreId.{CoreId}
use Rattle.sc_bucket.specs.Pending.{to_feed}
use Rattle.sc_bucket.proofs.RoomierLemmas.{sum_from_checked, roomier-itself, roomier-reserved, more-reserved}
use Rattle.sc_bucket.proofs.bucket.Bucket.reserve_in.Goals as goal

pub returns-in_err-arriving-clause-cores : goal.returns-in_err-arriving-clause-cores
returns-in_err-arriving-clause-cores c = roomier-itself c.args.self.now.replicas

pub returns-in_err-pending-clause-cores : goal.returns-in_err-pending-clause-cores
returns-in_err-pending-clause-cores c = roomier-itself c.args.self.now.replicas

pub returns-in_err-more-clause-cores : goal.returns-in_err-more-clause-cores
returns-in_err-more-clause-cores c = roomier-itself c.args.self.now.replicas

pub returns-clause-cores : goal.returns-clause-cores
returns-clause-cores c =
    roomier-reserved c.reserve.result c.args.self.now.replicas c.reserve.new.self c.args.at c.in_ok-more.more
    c.requires.within
    c.reserve.ensures.ok c.reserve.ensures.err

pub returns-clause-more : goal.returns-clause-more
returns-clause-more c =
    let arriving : c.in_ok-arriving.arriving ≡ c.len.result + c.buffered.result =
    sum_from_checked c.checked_add.result _ _ _ c.in_ok-arriving.arriving c.checked_add.ensures
    (sym c.ok_or.ensures.value ∙ c.in_ok-arriving.was) in
    let pending : c.in_ok-pending.pending ≡ c.in_ok-arriving.arriving + c.pending_for.result =
    sum_from_checked c.checked_add-2.result _ _ _ c.in_ok-pending.pending c.checked_add-2.ensures
    (sym c.ok_or-2.ensures.value ∙ c.in_ok-pending.was) in
    let more : c.in_ok-more.more ≡ c.in_ok-pending.pending + 1 =
    sum_from_checked c.checked_add-3.result _ _ _ c.in_ok-more.more c.checked_add-3.ensures
    (sym c.ok_or-3.ensures.value ∙ c.in_ok-more.was) in
    let left : c.pending_for.result ≡ length (to_feed c.args.self.now.feeds c.get-replica.result.now.core) =
    c.pending_for.ensures ∙ ap (λ (name : CoreId). length (to_feed c.args.self.now.feeds name)) c.core.ensures.value in
    more-reserved c.reserve.result c.args.self.now.flight.messages c.args.self.now.feeds c.args.self.now.replicas
    c.reserve.new.self c.args.at c.in_ok-more.more c.get-replica.result.now c.get-replica.ensures c.requires.within
    (omega (arith, more, pending, arriving, left, c.len.ensures, c.buffered.ensures.value)) c.reserve.ensures.ok
