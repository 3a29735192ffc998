-- What is made of a core and of a journal where only the keeper's part of them is looked at, and what leaves it.
use Rattle.std.proofs.Common.{◌≡◌, ◌∙◌, ℕ, Bool, true, false, cond, List, [], ◌∷◌, ◌++◌, length, map, All, refl, sym, ap}
use Rattle.std.proofs.lemmas.List.{append-nil, append_cancel_left}
use Rattle.std.proofs.lemmas.List.Elements.{filter-append}
use Rattle.sc_record.specs.Names.{is_core}
use Rattle.sc_record.specs.declared.slice.CoreId.{CoreId}
use Rattle.sc_record.specs.Writes.{Write}
use Rattle.sc_record.specs.declared.entry.Entry.{Entry}
use Rattle.sc_cluster.proofs.ListLemmas.{map-map_kept, none_from_filter}
use Rattle.sc_ulog.specs.declared.mode.Mode.{Mode}
use Rattle.sc_ulog.specs.declared.mode.Mode.TheVariants.{Active, Buffering, Replaying}
use Rattle.sc_replica.specs.Core.{Core, fed, fed_all, received, received_in}
use Rattle.sc_replica.specs.Deliveries.{received_all}
use Rattle.sc_bucket.specs.Kept.{Sent}
use Rattle.sc_bucket.specs.Flight.{in_flight, received_by, delivered, delivered_all, arrived}
use Rattle.sc_bucket.specs.Events.{AreSameCores, HasSameSplit, detached}
use Rattle.sc_bucket.specs.declared.bucket.Bucket.{Bucket}
use Rattle.sc_bucket.proofs.SoundLemmas.{map-same_cores}
use Rattle.sc_keeper.specs.declared.part.CorePart.{CorePart}
use Rattle.sc_keeper.specs.Part.{is_of_keeper, keeper_entries, left_in, part_of_core, part_of_feed, part_of}

-- the parts of the cores
abbrev pub parts_of : List Core → List CorePart
parts_of cores = map part_of_core cores

-- with the same map, phase and feeds, where the parts of the cores and the keeper's entries are the same, the part is
pub part_of-same : (old new : Bucket) → HasSameSplit old new → new.map ≡ old.map → parts_of new.replicas ≡ parts_of old.replicas
    → keeper_entries new.journal.entries ≡ keeper_entries old.journal.entries → part_of new ≡ part_of old
part_of-same old new split slices cores entries = λ i. record {
  map = slices i;
  phase = split.phase i;
  cores = cores i;
  feeds = map part_of_feed (split.feeds i);
  entries = entries i;
}

-- cores that are the same but for their room have the same parts
pub parts-same_cores : (old new : List Core) → AreSameCores old new → parts_of new ≡ parts_of old
parts-same_cores old new same = map-same_cores part_of_core old new same

-- a buffering core has nothing to replay, whatever it holds
left-buffering : (mode : Mode) (held more : ℕ) → mode ≡ Buffering → left_in mode held ≡ left_in mode more
left-buffering Active held more is = refl
left-buffering Buffering held more is = refl
left-buffering Replaying held more is = cc

-- the part of a core stays as it receives a write
part-received : (core : Core) (write : Write) → part_of_core (received core write) ≡ part_of_core core
part-received core write = by core.mode refl where
  by : (mode : Mode) → core.mode ≡ mode → part_of_core (received_in mode core write) ≡ part_of_core core
  by Active is = refl
  by Replaying is = refl
  by Buffering is =
      ap (λ (left : ℕ). record { name = core.core; number = core.number; mode = core.mode; left = left })
      (left-buffering core.mode (length (core.buffer ++ write ∷ [])) (length core.buffer) is)

-- and as it receives one after another
part-received_all : (core : Core) (writes : List Write) → part_of_core (received_all core writes) ≡ part_of_core core
part-received_all core [] = refl
part-received_all core (write ∷ writes) = part-received_all (received core write) writes ∙ part-received core write

-- and as it is fed
pub part-fed_all : (core : Core) (writes : List Write) → part_of_core (fed_all core writes) ≡ part_of_core core
part-fed_all core [] = refl
part-fed_all core (write ∷ writes) = part-fed_all (fed core write) writes

-- the parts of the cores stay as a message is delivered
pub parts-delivered : (message : Sent) (cores : List Core) → parts_of (delivered message cores) ≡ parts_of cores
parts-delivered message cores = map-map_kept part_of_core (received_by message.core message.write) each cores where
  each : (core : Core) → part_of_core (received_by message.core message.write core) ≡ part_of_core core
  each core = by (is_core message.core core.core) where
    by : (b : Bool) → part_of_core (cond b (received core message.write) core) ≡ part_of_core core
    by true = part-received core message.write
    by false = refl

-- as one after another is
pub parts-delivered_all : (messages : List Sent) (cores : List Core) → parts_of (delivered_all messages cores) ≡ parts_of cores
parts-delivered_all [] cores = refl
parts-delivered_all (message ∷ messages) cores =
    parts-delivered_all messages (delivered message cores) ∙ parts-delivered message cores

-- the part of a core stays whether it receives the writes or not
pub part-received_where : (b : Bool) (core : Core) (writes : List Write)
    → part_of_core (cond b (received_all core writes) core) ≡ part_of_core core
part-received_where true core writes = part-received_all core writes
part-received_where false core writes = refl

-- so those of all stay as all comes that is in flight to a core
pub parts-arrived : (messages : List Sent) (name : CoreId) (cores : List Core)
    → parts_of (map (arrived messages name) cores) ≡ parts_of cores
parts-arrived messages name cores =
    map-map_kept part_of_core (arrived messages name)
    (λ (core : Core). part-received_where (is_core name core.core) core (in_flight messages name)) cores

-- and as one is marked as down
pub parts-detached : (name : CoreId) (cores : List Core) → parts_of (map (detached name) cores) ≡ parts_of cores
parts-detached name cores = map-map_kept part_of_core (detached name) each cores where
  each : (core : Core) → part_of_core (detached name core) ≡ part_of_core core
  each core = by (is_core name core.core) where
    by : (b : Bool) → part_of_core (cond b (record core { down = true }) core) ≡ part_of_core core
    by true = refl
    by false = refl

-- an entry more is one of the keeper's entries
pub keeper_entries-own : (old new : List Entry) (one : Entry) → is_of_keeper one ≡ true → new ≡ old ++ one ∷ []
    → keeper_entries new ≡ keeper_entries old ++ one ∷ []
keeper_entries-own old new one own longer =
    ap keeper_entries longer ∙ filter-append is_of_keeper old (one ∷ [])
    ∙ ap (λ (b : Bool). keeper_entries old ++ cond b (one ∷ []) []) own

-- or not
pub keeper_entries-other : (old new : List Entry) (one : Entry) → is_of_keeper one ≡ false → new ≡ old ++ one ∷ []
    → keeper_entries new ≡ keeper_entries old
keeper_entries-other old new one other longer =
    ap keeper_entries longer ∙ filter-append is_of_keeper old (one ∷ [])
    ∙ ap (λ (b : Bool). keeper_entries old ++ cond b (one ∷ []) []) other ∙ append-nil (keeper_entries old)

-- where the keeper's entries of a longer journal are those of the shorter one, no entry between is one of them
pub none_between : (journal more : List Entry) → keeper_entries (journal ++ more) ≡ keeper_entries journal
    → All (λ (one : Entry). is_of_keeper one ≡ false) more
none_between journal more same =
    none_from_filter is_of_keeper more
    (append_cancel_left (keeper_entries journal) (keeper_entries more) []
    (sym (filter-append is_of_keeper journal more) ∙ same ∙ sym (append-nil (keeper_entries journal))))
