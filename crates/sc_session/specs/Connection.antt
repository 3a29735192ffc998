-- What a whole connection is: its requests, their answers and how it ends.
use Rattle.std.specs.Prelude.{◌≡◌, ◌≢◌, ◌⊎◌, ℕ, Bool, true, false, List, [], ◌∷◌, ◌++◌, length, map, if◌then◌else◌, Option, Some, None, is_some, Contains, ⊤}
use Rattle.std.specs.List.{AllByRecursion, flat_map}
use mathlib.Core.List.{IsPrefix}
use Rattle.sc_session.specs.Requests.{asked}
use Rattle.sc_reply.specs.Refusals as refusals
use Rattle.sc_model.specs.Replies.{Reply, text_of}
use Rattle.sc_model.specs.Messages.{ReadsMessage, HasNoMessage, Ending, done, cut, bad_head, too_large, EndsSo, ReadsMessages}
use Rattle.sc_cores.specs.Cores.{Outside}
use Rattle.sc_seen.specs.Seen.{Layout, Seen, Extends, EndAtLast, FromNowOn}
use Rattle.sc_seen.specs.Batches.{WritesOnce}
use Rattle.sc_seen.specs.declared.stop.Stop.{Stop}
use Rattle.sc_collection.specs.Kept.{are_enough}
use Rattle.sc_gate.specs.Gates.{Gated, IsOfBoard, KeepsStops, KeepsCommits, KeepsAll, SeesOnly}
use Rattle.sc_session.specs.Answers.{Answer, replied, ran_out, Trace, IsAnswer, refusal_reply, memory_reply}
use Rattle.sc_model.specs.declared.message.Incoming.{Incoming}
use Rattle.sc_session.specs.Commands.{Situation, situation, ended_stops, Leaves}
use Rattle.sc_session.specs.declared.end.End.{End}
use Rattle.sc_session.specs.declared.end.End.TheVariants as ends

-- what came of the gate that is passed between the answer to a request and its reply
pub data GateOutcome : Type 0 where
  -- what the request made is kept
  kept : GateOutcome
  -- keeping it failed
  log_failed : GateOutcome
  -- memory ran out as it was to be kept
  no_memory : GateOutcome

-- A request with the trace that it left and what it was answered, and what was seen of the collection and was outside of it once it was;
-- and what came of the gate, and what was seen once that was passed.
pub record Exchange : Type 0 where
  pub request : Incoming
  pub trace : Trace
  pub answer : Answer
  pub seen : Seen
  pub outside : Outside
  pub gate : GateOutcome
  pub passed : Seen

-- what stands once the request of an exchange was answered
abbrev pub situation_after : Exchange → Situation
situation_after x = situation x.seen x.outside

-- what stands once an exchange is over, and its gate passed
abbrev pub situation_passed : Exchange → Situation
situation_passed x = situation x.passed x.outside

-- no hold at these stops made an entry
abbrev pub MakeNothing : List Stop → Type 0
MakeNothing stops = AllByRecursion (λ (stop : Stop). stop.made ≡ false) stops

-- One exchange, after this was seen. What was seen went on by its stops: of each bucket the last is at the end of what was seen
-- there, of those of which that is said. It is answered as was asked, by all that is seen from then on, and of the entries that its
-- stops made the writes are those of the orders that it accepted. Passing the gate showed no more than what others wrote to buckets; a request that made nothing
-- passes none.
pub record IsExchange (layout : Layout) (old : Seen) (x : Exchange) : Type 0 where
  pub extends : Extends layout old x.seen x.trace.stops
  pub last : EndAtLast layout x.seen (ended_stops x.trace.command x.trace.stops)
  pub answered : FromNowOn x.seen (λ later. IsAnswer layout later (asked x.request) x.trace x.answer)
  pub once : FromNowOn x.seen (λ later. WritesOnce layout later x.trace.stops x.trace.answers)
  pub met : SeesOnly x.seen x.passed
  pub unasked : MakeNothing x.trace.stops → (x.gate ≡ kept) × (x.passed ≡ x.seen)

-- exchanges one after another, from what was seen before them to what is seen after them
abbrev pub AreExchanges : Layout → Seen → List Exchange → Seen → Type 0
AreExchanges layout old [] new = new ≡ old
AreExchanges layout old (x ∷ exchanges) new = IsExchange layout old x × AreExchanges layout x.passed exchanges new

-- exchanges one after another, from what stood before them to what stands after them: the rest is as what each came to left it
abbrev pub LeaveRest : Layout → Situation → List Exchange → Situation → Type 0
LeaveRest layout old [] new = new ≡ old
LeaveRest layout old (x ∷ exchanges) new =
    Leaves layout x.trace.answers x.trace.stops x.trace.command old (situation_after x) × LeaveRest layout (situation_passed x) exchanges new

-- What a gate keeps of a request, once what it made is kept: what its stops made in buckets, what they committed, and where one noted
-- something on the board all that had been seen of the buckets.
pub record IsKept (layout : Layout) (seen : Seen) (gate : Gated) (stops : List Stop) : Type 0 where
  pub entries : KeepsStops layout seen gate stops
  pub commits : KeepsCommits layout seen gate stops
  pub all : (stop : Stop) → Contains stops stop → IsOfBoard layout stop → KeepsAll layout seen gate

-- the stops of exchanges, in order
abbrev pub stops_of : List Exchange → List Stop
stops_of exchanges = flat_map (λ (x : Exchange). x.trace.stops) exchanges

-- the timestamps that were read for exchanges, in order
abbrev pub timestamps_of : List Exchange → List ℕ
timestamps_of exchanges = flat_map (λ (x : Exchange). x.trace.timestamps) exchanges

-- the reply that is written to a request that was answered so, by what came of the gate
abbrev pub gated_reply : Answer → GateOutcome → Reply
gated_reply ran_out gate = memory_reply
gated_reply (replied reply) kept = reply
gated_reply (replied reply) log_failed = refusal_reply refusals.log_failed
gated_reply (replied reply) no_memory = memory_reply

-- the reply that is written in an exchange
abbrev pub reply_of_exchange : Exchange → Reply
reply_of_exchange x = gated_reply x.answer x.gate

-- these exchanges have reached a limit of their connection
abbrev pub is_at_limit : List Exchange → Bool
is_at_limit exchanges = are_enough (length exchanges) (length (stops_of exchanges))

-- how a connection ends after a request, if it does: memory ran out, what it made could not be kept, the request asked for it, or it was
-- the last that may be
abbrev pub end_after : Answer → GateOutcome → (close full : Bool) → Option End
end_after ran_out gate close full = Some ends.Memory
end_after (replied reply) no_memory close full = Some ends.Memory
end_after (replied reply) log_failed close full = Some ends.LogFault
end_after (replied reply) kept close full = if close then Some ends.Closed else (if full then Some ends.Limit else None)

-- how the connection ends after an exchange that comes after these, if it does
abbrev pub end_at : List Exchange → Exchange → Option End
end_at before x = end_after x.answer x.gate x.request.close (is_at_limit (before ++ x ∷ []))

-- each exchange leaves the connection open
abbrev pub StaysOpen : List Exchange → Type 0
StaysOpen exchanges = (before : List Exchange) (x : Exchange) (after : List Exchange) → exchanges ≡ before ++ x ∷ after → end_at before x ≡ None

-- the bytes of replies after which the connection stays open
abbrev pub texts_of : List Exchange → List ℕ
texts_of exchanges = flat_map (λ (x : Exchange). text_of (reply_of_exchange x) false) exchanges

-- what comes after the last exchange that left the connection open
pub data Last : Type 0 where
  -- no request more: the bytes end so
  ended : Ending → Last
  -- one more exchange
  answered : Exchange → Last
  -- memory ran out while a request was read
  out_of_memory : Last
  -- the source failed
  read_failed : Last

-- the bytes of the last reply, with which a connection is closed; none where the bytes end at a message's border or inside one
abbrev pub last_text : List Exchange → Last → List ℕ
last_text before (ended done) = []
last_text before (ended cut) = []
last_text before (ended bad_head) = text_of (refusal_reply refusals.bad_head) true
last_text before (ended too_large) = text_of (refusal_reply refusals.too_large) true
last_text before (answered x) = text_of (reply_of_exchange x) (is_some (end_at before x))
last_text before out_of_memory = text_of memory_reply true
last_text before read_failed = []

-- the end of a connection, once its last reply is written; an exchange with which it stays open is not the last
abbrev pub end_of : List Exchange → Last → Option End
end_of before (ended done) = Some ends.Done
end_of before (ended cut) = Some ends.Cut
end_of before (ended bad_head) = Some ends.BadHead
end_of before (ended too_large) = Some ends.TooLarge
end_of before (answered x) = end_at before x
end_of before out_of_memory = Some ends.Memory
end_of before read_failed = Some ends.ReadFault

-- the exchange that came last, if one did
abbrev pub exchanges_of : Last → List Exchange
exchanges_of (answered x) = x ∷ []
exchanges_of last = []

-- the connection ended as keeping what its last request made failed
abbrev pub IsLogFailed : Last → Type 0
IsLogFailed (answered x) = x.gate ≡ log_failed
IsLogFailed last = ⊥

-- After the exchanges, the bytes are what came last says. `more` is what the source has not given yet: where it failed,
-- no request is whole in what it gave.
abbrev pub EndsWith : List ℕ → Last → List ℕ → Type 0
EndsWith bytes (ended ending) more = EndsSo bytes ending
EndsWith bytes (answered x) more = (rest : List ℕ) × ReadsMessage bytes x.request rest
EndsWith bytes out_of_memory more = ⊤
EndsWith bytes read_failed more = (taken : List ℕ) × (bytes ≡ taken ++ more) × HasNoMessage taken

-- the bytes that a source has to give are the requests of the exchanges, and then what came last
pub record IsReadFrom (bytes more : List ℕ) (exchanges : List Exchange) (last : Last) : Type 0 where
  pub rest : List ℕ
  pub requests : ReadsMessages bytes (map (λ (x : Exchange). x.request) exchanges) rest
  pub end : EndsWith rest last more

-- the end is that of what came last, or the sink failed
abbrev pub HasEnd : End → List Exchange → Last → Type 0
HasEnd end before last = (end_of before last ≡ Some end) ⊎ (end ≡ ends.WriteFault)

-- each reply was written, or the sink failed after a prefix of the last one
abbrev pub IsWritten : End → List Exchange → Last → List ℕ → List ℕ → Type 0
IsWritten end before last old new =
    ((end ≢ ends.WriteFault) × (new ≡ old ++ texts_of before ++ last_text before last))
    ⊎ ((end ≡ ends.WriteFault) × ((part : List ℕ) × IsPrefix part (last_text before last) × (new ≡ old ++ texts_of before ++ part)))
