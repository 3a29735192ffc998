-- A collection, its passes and a worker may go from thread to thread, told from the inside out: a `search` that goes down through all of one
-- runs out of steps.
use denote.Param.Send.{IsSend, IsSync, sendable}
use denote.RattleType.{RattleType}
use denote.Ref.{NamedLft}
use Rattle.std.proofs.Crossing.{crosses}
use Rattle.atomic_table.proofs.badge.Badge.TheSendSync as badge
use Rattle.atomic_table.proofs.owned.Table.TheSendSync as table
use Rattle.atomic_table.proofs.shared.Seat.TheSendSync as seat
use Rattle.http_server.proofs.log.Log.TheSendSync as log
use Rattle.sc_board.specs.contracts.leaders.Leaders as Leaders
use Rattle.sc_bucket.specs.contracts.bucket.Bucket as Bucket
use Rattle.sc_bucket.specs.contracts.feeds.Feeds as Feeds
use Rattle.sc_bucket.specs.contracts.flight.Flight as Flight
use Rattle.sc_bucket.specs.contracts.journal.Journal as Journal
use Rattle.sc_bucket.specs.contracts.lists.Lists as Lists
use Rattle.sc_replicas.specs.contracts.replicas.Replicas as Replicas
use Rattle.sc_replicas.specs.contracts.standing.Standing as Standing
use Rattle.sc_cluster.specs.contracts.map.ClusterMap as ClusterMap
use Rattle.sc_collection.specs.contracts.opened.OpenedWith as OpenedWith
use Rattle.sc_values.specs.contracts.text.Text as Text
use Rattle.sc_record.specs.contracts.write.Write as Write
use Rattle.sc_shared.specs.contracts.board.KeptBoard as KeptBoard
use Rattle.sc_shared.specs.contracts.collection.Collection as Collection
use Rattle.sc_shared.specs.contracts.numbered.Numbered as Numbered
use Rattle.sc_shared.specs.contracts.passes.Passes as Passes
use Rattle.sc_server.specs.contracts.worker.Worker as Worker
use Rattle.sc_snapshot.specs.contracts.plain.Rows as Rows
use Rattle.sc_snapshot.specs.contracts.snapshot.Snapshot as Snapshot
use Rattle.sc_snapshot.specs.contracts.term_key.TermKey as TermKey

text_send : IsSend (Text.the_field).row
text_send = search (crosses, sendable) depth 100

text_sync : IsSync (Text.the_field).row
text_sync = search (crosses, sendable) depth 100

write_send : IsSend (Write.the_field).row
write_send = let a = text_send in let b = text_sync in search (crosses, sendable) depth 100

write_sync : IsSync (Write.the_field).row
write_sync = let a = text_send in let b = text_sync in search (crosses, sendable) depth 100

key_send : IsSend (TermKey.the_field).row
key_send = let a = text_send in let b = text_sync in search (crosses, sendable) depth 100

key_sync : IsSync (TermKey.the_field).row
key_sync = let a = text_send in let b = text_sync in search (crosses, sendable) depth 100

rows_send : IsSend (Rows.the_field).row
rows_send = let a = write_send in let b = write_sync in search (crosses, sendable) depth 100 fits 20000

rows_sync : IsSync (Rows.the_field).row
rows_sync = let a = write_send in let b = write_sync in search (crosses, sendable) depth 100 fits 20000

snapshot_send : IsSend (Snapshot.the_field).row
snapshot_send = let a = rows_send in let b = key_send in let c = key_sync in search (crosses, sendable) depth 100 fits 20000

snapshot_sync : IsSync (Snapshot.the_field).row
snapshot_sync = let a = rows_sync in let b = key_send in let c = key_sync in search (crosses, sendable) depth 100 fits 20000

map_send : IsSend (ClusterMap.the_field).row
map_send = let a = text_send in search (crosses, sendable) depth 100 fits 20000

lists_send : IsSend (Lists.the_field).row
lists_send = let a = write_send in let b = write_sync in let c = text_send in search (log.the_send, crosses, sendable) depth 100 fits 20000

journal_send : IsSend (Journal.the_field).row
journal_send = let a = lists_send in search (crosses, sendable) depth 100 fits 20000

replicas_send : IsSend (Replicas.the_field).row
replicas_send = let a = write_send in let b = write_sync in search (crosses, sendable) depth 100 fits 20000

flight_send : IsSend (Flight.the_field).row
flight_send = let a = write_send in let b = write_sync in search (crosses, sendable) depth 100 fits 20000

feeds_send : IsSend (Feeds.the_field).row
feeds_send = let a = write_send in let b = write_sync in let c = rows_send in let d = rows_sync in search (crosses, sendable) depth 100 fits 20000

standing_send : IsSend (Standing.the_field).row
standing_send = let a = snapshot_send in let b = snapshot_sync in search (crosses, sendable) depth 100 fits 20000

bucket_send : IsSend (Bucket.the_field).row
bucket_send =
    let a = map_send in let b = journal_send in let c = replicas_send in let d = flight_send in let e = feeds_send in let f = standing_send in
    search (crosses, sendable) depth 100 fits 20000

numbered_send : IsSend (Numbered.the_field).row
numbered_send = let a = bucket_send in search (crosses, sendable) depth 100 fits 20000

leaders_send : IsSend (Leaders.the_field).row
leaders_send = search (crosses, sendable) depth 100 fits 20000

opened_send : IsSend (OpenedWith.the_field).row
opened_send = search (log.the_send, crosses, sendable) depth 100 fits 20000

board_send : IsSend (KeptBoard.the_field).row
board_send =
    let a = numbered_send in let b = map_send in let c = leaders_send in let d = opened_send in
    search (seat.the_send, badge.the_send, crosses, sendable) depth 100 fits 20000

map_sync : IsSync (ClusterMap.the_field).row
map_sync = let a = text_sync in search (crosses, sendable) depth 100 fits 20000

pub collection_sync : IsSync (Collection.the_field).row
collection_sync = let a = numbered_send in let b = board_send in let c = map_sync in search (table.the_field_sync, crosses, sendable) depth 100 fits 20000

pub passes_send : IsSend (Passes.the_field).row
passes_send = let a = numbered_send in let b = board_send in search (seat.the_send, crosses, sendable) depth 100 fits 20000

pub worker_send : (κ : NamedLft) (R C H P L : RattleType) → IsSync R → IsSend C → IsSend H → IsSend P → IsSend L → IsSend (Worker.the_row κ R C H P L)
worker_send κ R C H P L r c h p l = let a = collection_sync in let b = passes_send in search (crosses, sendable) depth 100 fits 20000
