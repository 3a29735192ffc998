-- The leader of the slice that serves the hash is there.
use Rattle.std.proofs.Common.{map, Contains, refl, arith}
use Rattle.sc_record.specs.declared.slice.SliceId.{SliceId}
use Rattle.sc_record.specs.declared.slice.CoreId.{CoreId}
use Rattle.std.proofs.lemmas.Int.{to_z-of_z}
use Rattle.std.proofs.lemmas.List.Elements.{All-contains}
use Rattle.sc_cluster.specs.declared.slice.Slice.{Slice}
use Rattle.sc_replicas.specs.Cores.{core_key}
use Rattle.sc_replicas.proofs.CoreLemmas.{leader_is_found, leader_at, IsLeaderAt-within}
use Rattle.sc_bucket.proofs.bucket.Bucket.leader.Goals as goal

-- the name of a slice's leader
abbrev leader_of : SliceId → CoreId
leader_of slice = record { slice = slice; replica = 1; counted = omega arith }

pub unwrap-requires : goal.unwrap-requires
unwrap-requires c =
    let b = c.args.self.now in
    let leads = c.leads-slice.ensures.leads in
    let first = All-contains (λ (slice : Slice). Contains (map core_key b.replicas) (slice.id.0, 1)) b.map leads.0
    c.requires.cores.leaders leads.1.there in
    leader_is_found b.replicas leads.0.id (leader_of c.leads-slice.result) c.position.result first leads.2 refl
    c.position.ensures

pub returns-clause-leader : goal.returns-clause-leader
returns-clause-leader c =
    let b = c.args.self.now in
    let fits = c.ranges.hash in
    let leads = simp to_z-of_z at c.leads-slice.ensures.leads in
    leader_at b.map b.replicas c.args.hash leads.0 (leader_of c.leads-slice.result) c.position.result c.unwrap.result leads.1 leads.2 refl c.position.ensures c.unwrap.ensures

pub returns-clause-within : goal.returns-clause-within
returns-clause-within c =
    let b = c.args.self.now in
    let leads = c.leads-slice.ensures.leads in
    IsLeaderAt-within b.map b.replicas _ c.unwrap.result
    (leader_at b.map b.replicas _ leads.0 (leader_of c.leads-slice.result) c.position.result c.unwrap.result leads.1 leads.2 refl c.position.ensures c.unwrap.ensures)
