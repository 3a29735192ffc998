-- Which cores orders noted as down, and which nodes could not be reached meanwhile.
use Rattle.std.specs.Prelude.{◌≡◌, ◌⊎◌, ◌≤◌, ℕ, ◌+◌, nat_eq, List, [], ◌∷◌, ◌++◌, length, filter_map, find, slice_get, Option, Some, None, IfSome, ⊤}
use Rattle.std.specs.Option.{option_map, option_and_then}
use Rattle.sc_record.specs.declared.slice.CoreId.{CoreId}
use Rattle.sc_record.specs.declared.entry.Entry.{Entry}
use Rattle.sc_record.specs.declared.entry.Entry.TheVariants as entry
use Rattle.sc_cluster.specs.declared.slice.Slice.{Slice}
use Rattle.sc_cluster.specs.Slices.{node_of}
use Rattle.sc_io.specs.Hosts.{Reached}
use Rattle.sc_journal.specs.Splits.{map_after}
use Rattle.sc_journal.specs.Seats.{seats}
use Rattle.sc_seen.specs.Seen.{Layout, Seen, journal_at}
use Rattle.sc_seen.specs.declared.stop.Stop.{Stop}

-- the first list is the second, or the second without some of its members
abbrev pub IsSublist : {A : Type 0} → List A → List A → Type 0
IsSublist [] all = ⊤
IsSublist (one ∷ some) [] = ⊥
IsSublist (one ∷ some) (other ∷ all) = ((one ≡ other) × IsSublist some all) ⊎ IsSublist (one ∷ some) all

-- the core that the entry says is down
abbrev pub downed : Entry → Option CoreId
downed (entry.Down core) = Some core
downed _ = None

-- the node of the core that sits in this one's seat after the journal
abbrev pub node_in : Layout → List Entry → CoreId → Option ℕ
node_in layout journal core =
    option_map (λ (slice : Slice). node_of slice.node (seats journal slice.id core.replica) layout.nodes)
    (find (λ (slice : Slice). nat_eq slice.id.0 core.slice.0) (map_after layout.first journal))

-- of the core that the stop's entry says is down the node, as the journal at the stop has it
abbrev pub node_down : Layout → Seen → Stop → Option ℕ
node_down layout seen down =
    option_and_then (node_in layout (journal_at seen down)) (option_and_then downed (slice_get (seen.journals down.lock) down.place))

-- Reaching these nodes failed, in order, as the hosts count and report it. Of the cores that were noted as down the nodes are, in order, among
-- these.
pub record NotesDowns (layout : Layout) (seen : Seen) (downs : List Stop) (old new : Reached) : Type 0 where
  pub failed : List ℕ
  pub count : old.faults + length failed ≤ new.faults
  pub steady : failed ≡ [] → new ≡ old
  pub told : IfSome old.nodes (λ nodes. new.nodes ≡ Some (nodes ++ failed))
  pub few : length downs ≤ length failed
  pub among : IsSublist (filter_map (node_down layout seen) downs) failed
