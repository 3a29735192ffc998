-- The promise that every worker keeps.
use Rattle.std.specs.Prelude.{◌≡◌, ◌↔◌, ◌≤◌, ℕ, List, [], ◌∷◌, ◌++◌, length, map, Option, Some, IfSome}
use Rattle.std.specs.List.{flat_map}
use Rattle.sc_cores.specs.Cores.{Outside}
use Rattle.sc_seen.specs.Seen.{Layout, Seen, Extends}
use Rattle.sc_seen.specs.Moments.{moment_of}
use Rattle.sc_seen.specs.declared.stop.Stop.{Stop}
use Rattle.sc_gate.specs.Gates.{Gated}
use Rattle.sc_session.specs.Listening.{nothing_kept}
use Rattle.sc_session.specs.Served.{IsServed}
use Rattle.sc_session.specs.States.{ConnectionState, CountsFault}
use Rattle.sc_session.specs.declared.end.End.{End}
use Rattle.sc_session.specs.declared.listener.Link.{Link}
use Rattle.sc_session.specs.declared.listener.Taken.{Taken}
use Rattle.sc_session.specs.declared.worker.WorkEnd.{WorkEnd}
use Rattle.sc_session.specs.declared.worker.WorkEnd.TheVariants as ends

-- how a collection is laid out, and what the sources and sinks of its links report: the bytes that are still to come and those that
-- were written, and how often each has failed
pub record LinkSetting (S W : Type 0) : Type 0 where
  pub layout : Layout
  pub rest : S → Option (List ℕ)
  pub read_faults : S → ℕ
  pub written : W → Option (List ℕ)
  pub write_faults : W → ℕ

-- what stands beside a link: what was seen of the collection, the clock, what is outside of the collection, and what the gate keeps
pub record Surroundings (C : Type 0) : Type 0 where
  pub seen : Seen
  pub clock : C
  pub outside : Outside
  pub gate : Gated

-- what stands beside the connection over a link, by what its trail has kept
abbrev pub over_link : {C S W : Type 0} → LinkSetting S W → Surroundings C → Taken S W → ConnectionState C
over_link setting around one = record {
  moment = moment_of around.seen one.trail.stops around.clock;
  outside = around.outside;
  requests = one.trail.requests;
  unread = setting.rest one.link.source;
  written = setting.written one.link.sink;
  read_faults = setting.read_faults one.link.source;
  write_faults = setting.write_faults one.link.sink;
  gate = around.gate;
}

-- a link that was served: as it was given, and as it was taken back with what its trail kept; how its connection ended; and what
-- stood beside it then
pub record ServedLink (C S W : Type 0) : Type 0 where
  pub given : Link S W
  pub taken : Taken S W
  pub end : End
  pub after : Surroundings C

-- it was served as every connection is, from what stood beside it when it was given, with an empty trail
abbrev pub IsLinkServed : {C S W : Type 0} → (C → ℕ → C → Type 0) → LinkSetting S W → Surroundings C → ServedLink C S W → Type 0
IsLinkServed gives setting before x =
    IsServed gives setting.layout (over_link setting before (record { link = x.given; trail = nothing_kept })) (over_link setting x.after x.taken) x.end

-- links one after another, from what stood before them to what stands after them: each begins with what the one before it left
abbrev pub AreServed : {C S W : Type 0} → (C → ℕ → C → Type 0) → LinkSetting S W → Surroundings C → List (ServedLink C S W) → Surroundings C → Type 0
AreServed gives setting before [] after = after ≡ before
AreServed gives setting before (x ∷ links) after = IsLinkServed gives setting before x × AreServed gives setting x.after links after

-- the stops of links, in order
abbrev pub stops_of_links : {C S W : Type 0} → List (ServedLink C S W) → List Stop
stops_of_links {C} {S} {W} links = flat_map (λ (x : ServedLink C S W). x.taken.trail.stops) links

-- What stands beside a worker between two links: what stands beside a link, and of the listener the links that are still to come and
-- those that were taken back, where it reports them, how often it has failed, and how many links are out.
pub record WorkState (C S W : Type 0) : Type 0 where
  pub around : Surroundings C
  pub coming : Option (List (Link S W))
  pub taken : Option (List (Taken S W))
  pub faults : ℕ
  pub out : ℕ

-- Why a worker ended that was given so many links: they were as many as it was to serve, and then it had enough, and only then; or no
-- link was to come any more, where the listener reports them; or the listener failed, and a fault was counted then and only then.
pub record HasWorkEnd {C S W : Type 0} (most count : ℕ) (before after : WorkState C S W) (end : WorkEnd) : Type 0 where
  pub enough : (end ≡ ends.Enough) ↔ (count ≡ most)
  pub at_most : count ≤ most
  pub no_more : end ≡ ends.NoMore → IfSome before.coming (λ all. after.coming ≡ Some [])
  pub faults : CountsFault (end ≡ ends.ListenerFault) before.faults after.faults

-- What one worker promises over a collection, from one moment to another: each link that it was given was served in turn, and taken
-- back with the stops of its connection. Of the entries by which the journals that were seen before went on to those that are seen
-- after, exactly those of these stops are the worker's own.
pub record IsWorked {C S W : Type 0} (gives : C → ℕ → C → Type 0) (setting : LinkSetting S W) (most : ℕ) (before after : WorkState C S W) (end : WorkEnd) : Type 0 where
  pub links : List (ServedLink C S W)
  pub each : AreServed gives setting before.around links after.around
  pub journals : Extends setting.layout before.around.seen after.around.seen (stops_of_links links)
  pub given : IfSome before.coming (λ all. (more : List (Link S W)) × (all ≡ map (λ (x : ServedLink C S W). x.given) links ++ more) × (after.coming ≡ Some more))
  pub taken_back : IfSome before.taken (λ old. after.taken ≡ Some (old ++ map (λ (x : ServedLink C S W). x.taken) links))
  pub none_out : after.out ≡ before.out
  pub end_is : HasWorkEnd most (length links) before after end
