-- The write is put in, and the bucket is sound again.
use Rattle.std.proofs.Common.{◌≡◌, ◌≤◌, ◌+◌, ◌-◌, ℕ, List, [], ◌∷◌, ◌++◌, length, map, set, Some, slice_get, refl, ap, subst, ◌∙◌, arith}
use Rattle.std.specs.declared.sync.Arc.{Arc}
use Rattle.std.specs.declared.alloc.Global.{Global}
use Rattle.std.proofs.lemmas.List.{length-map}
use Rattle.sc_record.specs.Writes.{Write}
use Rattle.sc_record.specs.declared.entry.Entry.TheVariants as entry
use Rattle.sc_replica.specs.Core.{Core, led}
use Rattle.sc_bucket.specs.declared.bucket.Bucket.{Bucket}
use Rattle.sc_bucket.specs.Kept.{JournalState, PlacesState, Sent, FlightState}
use Rattle.sc_bucket.specs.Flight.{sent_of}
use Rattle.sc_bucket.specs.Accepting.{HasMemory, IsPut}
use Rattle.sc_bucket.proofs.AcceptLemmas.{IsSound-put}
use Rattle.sc_bucket.proofs.bucket.Bucket.put_in.Goals as goal

-- the bucket once the write was put in
abbrev with_write : Bucket → JournalState → PlacesState → FlightState → List Core → Bucket
with_write b journal unsettled flight cores =
    record b { journal = journal; unsettled = unsettled; flight = flight; replicas = cores; owed = b.owed + 1 }

put_into : (b : Bucket) (journal : JournalState) (unsettled : PlacesState) (flight : FlightState) (cores : List Core) (cell share : Arc Write Global)
    (at place : ℕ) (messages : List Sent) → HasMemory b at messages → share.value ≡ cell.value
    → journal ≡ record b.journal { entries = b.journal.entries ++ entry.Write cell ∷ []; room = b.journal.room - 1 }
    → place ≡ length b.journal.entries
    → unsettled ≡ record { places = b.unsettled.places ++ place ∷ []; room = b.unsettled.room - 1 }
    → flight.messages ≡ b.flight.messages ++ messages
    → ((core : Core) → slice_get b.replicas at ≡ Some core → cores ≡ set b.replicas at (led core share.value))
    → IsPut b cell at messages (with_write b journal unsettled flight cores)
put_into b journal unsettled flight cores cell share at place messages memory same journal_is place_is unsettled_is flight_is cores_are = record {
  name = record { first = refl; limit = refl; filed = ap (λ (j : JournalState). j.filed) journal_is };
  split = record { phase = refl; feeds = refl };
  map_is = refl;
  entries = ap (λ (j : JournalState). j.entries) journal_is;
  places = ap (λ (p : PlacesState). p.places) unsettled_is ∙ ap (λ n. b.unsettled.places ++ n ∷ []) place_is;
  owed_is = refl;
  room = let room : journal.room ≡ b.journal.room - 1 = ap (λ (j : JournalState). j.room) journal_is in omega (arith, memory.journal);
  flight_is = flight_is;
  cores = λ core there. cores_are core there ∙ ap (λ (w : Write). set b.replicas at (led core w)) same;
  searchers_are = refl;
}

pub returns-clause-put : goal.returns-clause-put
returns-clause-put c =
    put_into c.args.self.now c.append-2.new.self c.append.new.self c.append-3.new.self c.lead.new.self c.args.entry c.args.cell c.args.leader
    c.len.result (map sent_of c.args.messages.items) c.requires.memory c.requires.shares c.append-2.ensures c.len.ensures c.append.ensures
    (ap (λ (f : FlightState). f.messages) c.append-3.ensures) c.lead.ensures

pub returns-clause-sound : goal.returns-clause-sound
returns-clause-sound c =
    let messages : List Sent = map sent_of c.args.messages.items in
    let put : IsPut c.args.self.now c.args.entry c.args.leader messages
    (with_write c.args.self.now c.append-2.new.self c.append.new.self c.append-3.new.self c.lead.new.self) =
    put_into c.args.self.now c.append-2.new.self c.append.new.self c.append-3.new.self c.lead.new.self c.args.entry c.args.cell c.args.leader
    c.len.result messages c.requires.memory c.requires.shares c.append-2.ensures c.len.ensures c.append.ensures
    (ap (λ (f : FlightState). f.messages) c.append-3.ensures) c.lead.ensures in
    IsSound-put c.args.self.now (with_write c.args.self.now c.append-2.new.self c.append.new.self c.append-3.new.self c.lead.new.self)
    c.args.entry c.args.leader messages put refl c.requires.next c.requires.room c.requires.memory c.requires.leader
    (c.requires.sent c.requires.leader.core c.requires.leader.found)
    (c.requires.above c.requires.leader.core c.requires.leader.found) c.requires.sound

pub append-requires : goal.append-requires
append-requires c = c.requires.memory.unsettled

pub append-requires-2 : goal.append-requires-2
append-requires-2 c = omega (arith, c.requires.memory.journal)

pub append-requires-3 : goal.append-requires-3
append-requires-3 c =
    subst (λ n. n ≤ c.args.self.now.flight.room) (length-map c.args.messages.items sent_of) c.requires.memory.flight

pub lead-requires-clause-room : goal.lead-requires-clause-room
lead-requires-clause-room c core there = omega (arith, c.requires.memory.one_more core there)
