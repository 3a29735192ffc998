-- What becomes of the cores once all that is in flight to one of them came there.
use Rattle.std.proofs.Common.{◌≡◌, Bool, true, false, cond, List, [], ◌∷◌, map, filter, refl, sym, ap, ◌∙◌}
use Rattle.std.proofs.Math.Path.{fun_ext}
use Rattle.std.proofs.lemmas.List.{map-id}
use Rattle.std.proofs.lemmas.Simd.{map-map}
use Rattle.sc_record.specs.declared.slice.CoreId.{CoreId}
use Rattle.sc_record.specs.Writes.{Write}
use Rattle.sc_replica.specs.Core.{Core, received}
use Rattle.sc_replica.specs.Deliveries.{received_all}
use Rattle.sc_bucket.specs.Kept.{Sent}
use Rattle.sc_record.specs.Names.{is_core}
use Rattle.sc_bucket.specs.Flight.{in_flight, is_to, received_by, delivered_all, arrived}
use Rattle.sc_bucket.specs.Events.{DeliversAllTo}
use Rattle.sc_bucket.specs.declared.bucket.Bucket.{Bucket}
use Rattle.sc_replicas.proofs.CoreLemmas.{is_core-Decides}
use Rattle.sc_bucket.proofs.DeliverLemmas.{name-received}
use Rattle.sc_bucket.proofs.DeliverAllLemmas.{DeliversAll}

-- the core of this name once it received these writes; any other core stays
abbrev taken_by : CoreId → List Write → Core → Core
taken_by name writes core = cond (is_core name core.core) (received_all core writes) core

-- one write, and then the others
taken_by-first : (name : CoreId) (write : Write) (writes : List Write) (core : Core)
    → taken_by name writes (received_by name write core) ≡ taken_by name (write ∷ writes) core
taken_by-first name write writes core = by (is_core name core.core) refl where
  by : (b : Bool) → is_core name core.core ≡ b
      → taken_by name writes (cond b (received core write) core) ≡ cond b (received_all core (write ∷ writes)) core
  by true is =
      ap (λ b. cond b (received_all (received core write) writes) (received core write))
      (ap (is_core name) (name-received core write) ∙ is)
  by false is = ap (λ b. cond b (received_all core writes) core) is

-- messages that are all to one core are delivered to it alone
delivered_all-to : (name : CoreId) (messages : List Sent) (cores : List Core)
    → delivered_all (filter (is_to name) messages) cores ≡ map (arrived messages name) cores
delivered_all-to name [] cores = sym (ap (λ f. map f cores) (fun_ext none) ∙ map-id cores) where
  none : (core : Core) → arrived [] name core ≡ core
  none core = elim (is_core name core.core) as (λ b. cond b core core ≡ core) [ true ↦ refl | false ↦ refl ]
delivered_all-to name (message ∷ messages) cores =
    by (is_core name message.core) refl (delivered_all-to name messages)
  where
    rest : List Sent
    rest = filter (is_to name) messages

    by : (b : Bool) → is_core name message.core ≡ b
        → ((others : List Core) → delivered_all rest others ≡ map (arrived messages name) others)
        → delivered_all (cond b (message ∷ rest) rest) cores
        ≡ map (taken_by name (map (λ (m : Sent). m.write) (cond b (message ∷ rest) rest))) cores
    by true is after =
        ap (λ core. delivered_all rest (map (received_by core message.write) cores))
        (sym ((is_core-Decides name message.core).0 is))
        ∙ after (map (received_by name message.write) cores)
        ∙ map-map (arrived messages name) (received_by name message.write) cores
        ∙ ap (λ f. map f cores) (fun_ext (taken_by-first name message.write (in_flight messages name)))
    by false is after = after cores

-- so the bucket is as it has to be
pub DeliversAllTo-all : (old : Bucket) (name : CoreId) (new : Bucket) → DeliversAll old (is_to name) new
    → DeliversAllTo old name new
DeliversAllTo-all old name new all = record {
  name = all.name;
  split = all.split;
  map_is = all.map_is;
  entries = all.entries;
  messages = all.messages;
  cores = all.cores ∙ delivered_all-to name old.flight.messages old.replicas;
  searchers_are = all.searchers_are;
}
