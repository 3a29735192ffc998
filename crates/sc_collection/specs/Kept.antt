-- What a trail keeps of a connection, and when a connection has had enough.
use Rattle.std.specs.Prelude.{ℕ, ◌+◌, ◌*◌, Bool, ◌||◌, List, length, nat_le}
use Rattle.sc_record.specs.Orders.{order_limit}
use Rattle.sc_router.specs.Route.{most_buckets}
use Rattle.sc_seen.specs.declared.stop.Stop.{Stop}

-- the stops that were kept, in order, and how many requests were answered
pub record Kept : Type 0 where
  pub stops : List Stop
  pub requests : ℕ

-- the most requests of a connection
abbrev pub request_limit : ℕ
request_limit = 1000

-- the number of stops after which a connection takes no further request
abbrev pub stop_limit : ℕ
stop_limit = 65536

-- The most stops of one request, which is the greatest sum of all that one may do: an update's orders, of five stops each (the write, three
-- cores noted as down, the settling); a sweep, which looks at each bucket first, and then at as many ids as an update may have, each at one
-- stop or deleted at five; and the commit of each bucket.
abbrev pub stops_of_request : ℕ
stops_of_request = 10 * order_limit + 2 * most_buckets

-- how many stops a trail has room for: those after which no further request is taken, and those of one request more
abbrev pub trail_room : ℕ
trail_room = stop_limit + stops_of_request

-- so many requests and stops are as many as a connection may have
abbrev pub are_enough : (requests stops : ℕ) → Bool
are_enough requests stops = nat_le request_limit requests || nat_le stop_limit stops

-- a connection takes no further request: it has had its requests or its stops
abbrev pub is_full : Kept → Bool
is_full kept = are_enough kept.requests (length kept.stops)
