-- The promise that every connection keeps.
use Rattle.std.specs.Prelude.{◌≡◌, ◌<◌, ℕ, false, List, ◌++◌, length, Some, IfSome}
use Rattle.std.specs.List.{AllByRecursion}
use Rattle.sc_seen.specs.Seen.{Layout, Extends, AreLegal}
use Rattle.sc_seen.specs.Batches.{GivesTimestamps}
use Rattle.sc_gate.specs.Gates.{StillKeeps}
use Rattle.sc_session.specs.States.{ConnectionState, CountsFault, world_of, situation_in}
use Rattle.sc_session.specs.Connection.{Exchange, Last, kept, AreExchanges, LeaveRest, IsKept, StaysOpen, exchanges_of, stops_of, timestamps_of, IsReadFrom, IsWritten, HasEnd, IsLogFailed}
use Rattle.sc_session.specs.declared.end.End.{End}
use Rattle.sc_session.specs.declared.end.End.TheVariants as ends

-- What these exchanges left: they came one after another, each answered by the journals at its stops. Their stops were kept, and
-- of the entries by which the journals that were seen before went on to those that are seen after, exactly theirs are the
-- connection's own. The clock gave their timestamps, and the rest is as what each came to left it. The gate keeps what each of them made
-- for which it was passed, and what it kept before; where it shows no more of the journals, nothing more was seen.
pub record LeavesTraces {C : Type 0} (gives : C → ℕ → C → Type 0) (layout : Layout) (before after : ConnectionState C) (exchanges : List Exchange) : Type 0 where
  pub each : AreExchanges layout before.moment.view.seen exchanges after.moment.view.seen
  pub rest : LeaveRest layout (situation_in (world_of before)) exchanges (situation_in (world_of after))
  pub journals : Extends layout before.moment.view.seen after.moment.view.seen (stops_of exchanges)
  pub stops : after.moment.view.stops ≡ stops_of exchanges
  pub requests : after.requests ≡ length exchanges
  pub timestamps : GivesTimestamps gives before.moment.clock (timestamps_of exchanges) after.moment.clock
  pub keeps : AllByRecursion (λ (x : Exchange). x.gate ≡ kept → IsKept layout x.seen after.gate x.trace.stops) exchanges
  pub stays : StillKeeps before.gate after.gate
  pub alone : before.gate.meets ≡ false → AllByRecursion (λ (x : Exchange). x.passed ≡ x.seen) exchanges

-- What a connection read and wrote: where its source reports its bytes, it goes on to, and what was read are the requests; where
-- its sink does, it goes on to, and what was written are the replies. It ended so, and a fault was counted exactly where that says so. The
-- gate counted one exactly where it ended as keeping what a request made failed.
pub record CarriesReplies {C : Type 0} (before after : ConnectionState C) (end : End) (exchanges : List Exchange) (last : Last) : Type 0 where
  pub requests : IfSome before.unread (λ bytes. (more : List ℕ) × (after.unread ≡ Some more) × IsReadFrom bytes more exchanges last)
  pub replies : IfSome before.written (λ old. (new : List ℕ) × (after.written ≡ Some new) × IsWritten end exchanges last old new)
  pub end_is : HasEnd end exchanges last
  pub read_faults : CountsFault (end ≡ ends.ReadFault) before.read_faults after.read_faults
  pub write_faults : CountsFault (end ≡ ends.WriteFault) before.write_faults after.write_faults
  pub log_faults : CountsFault (IsLogFailed last) before.gate.faults after.gate.faults
  pub log_fault : end ≡ ends.LogFault → before.gate.faults < after.gate.faults

-- What one connection promises over a collection that is laid out so, from one moment to another: each request up to the end was
-- answered, and what the exchanges left and carried is all that came of them. Each journal that was seen is legal.
pub record IsServed {C : Type 0} (gives : C → ℕ → C → Type 0) (layout : Layout) (before after : ConnectionState C) (end : End) : Type 0 where
  pub exchanges : List Exchange
  pub last : Last
  pub stays_open : StaysOpen exchanges
  pub traces : LeavesTraces gives layout before after (exchanges ++ exchanges_of last)
  pub carries : CarriesReplies before after end exchanges last
  pub legal : AreLegal layout after.moment.view.seen
