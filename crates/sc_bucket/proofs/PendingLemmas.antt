-- How many writes are pending for a core, and which.
use Rattle.std.proofs.Common.{◌≡◌, ℕ, suc, ◌+◌, ◌≤◌, ◌⊎◌, inl, inr, Bool, true, false, cond, List, [], ◌∷◌, ◌++◌, length, map, filter, All, Contains, refl, sym, ap, ◌∙◌, subst, arith}
use Rattle.std.specs.List.{IsDistinct}
use Rattle.std.proofs.lemmas.List.{length-append, map-append, get_or_append_left, get_or-append-add}
use Rattle.std.proofs.lemmas.List.Elements.{All-nil, All-cons, All-head, All-tail, All-append, All-from_recursion, filter-append, Contains-append_left, Contains-append_right, Contains-append_cases}
use Rattle.std.proofs.lemmas.Map.Keys.{IsDistinct-head, IsDistinct-tail}
use Rattle.sc_cluster.proofs.ListLemmas.{Contains-map, Contains-filter}
use Rattle.sc_record.specs.declared.slice.CoreId.{CoreId}
use Rattle.sc_record.specs.Writes.{Write}
use Rattle.sc_replica.specs.Core.{Core}
use Rattle.sc_bucket.specs.Kept.{Sent, FeedState}
use Rattle.sc_record.specs.Names.{is_core}
use Rattle.sc_bucket.specs.Flight.{sent_to, in_flight, is_to}
use Rattle.sc_bucket.specs.Pending.{to_feed, pending}
use Rattle.sc_replicas.proofs.CoreLemmas.{is_core-Decides, is_core-itself}

-- the core that a message goes to
abbrev pub goes_to : Sent → CoreId
goes_to message = message.core

-- what is in flight to a core, in two parts
pub in_flight-append : (some more : List Sent) (name : CoreId) → in_flight (some ++ more) name ≡ in_flight some name ++ in_flight more name
in_flight-append some more name =
    ap (map (λ (message : Sent). message.write)) (filter-append (is_to name) some more)
    ∙ map-append (λ (message : Sent). message.write) (filter (is_to name) some) (filter (is_to name) more)

-- no more than all that is in flight
pub length-in_flight : (messages : List Sent) (name : CoreId) → length (in_flight messages name) ≤ length messages
length-in_flight [] name = omega arith
length-in_flight (message ∷ messages) name = by (is_to name message) (length-in_flight messages name) where
  by : (b : Bool) → length (in_flight messages name) ≤ length messages
      → length (map (λ (m : Sent). m.write) (cond b (message ∷ filter (is_to name) messages) (filter (is_to name) messages))) ≤ length (message ∷ messages)
  by true rest = omega arith
  by false rest = omega arith

-- where no message goes to a core nothing is in flight to it
pub in_flight-none : (messages : List Sent) (name : CoreId) → All (λ other. is_core name other ≡ false) (map goes_to messages)
    → in_flight messages name ≡ []
in_flight-none [] name none = refl
in_flight-none (message ∷ messages) name none =
    let first : is_core name message.core ≡ false = All-head (λ other. is_core name other ≡ false) message.core (map goes_to messages) none in
    rw first (in_flight-none messages name (All-tail (λ other. is_core name other ≡ false) message.core (map goes_to messages) none))

-- where no two go to one core at most one is in flight to it
pub in_flight-once : (messages : List Sent) (name : CoreId) → IsDistinct is_core (map goes_to messages) → length (in_flight messages name) ≤ 1
in_flight-once [] name apart = omega arith
in_flight-once (message ∷ messages) name apart =
    by (is_core name message.core) refl (in_flight-once messages name (IsDistinct-tail is_core message.core (map goes_to messages) apart)) where
      rest : List CoreId
      rest = map goes_to messages

      by : (b : Bool) → is_core name message.core ≡ b → length (in_flight messages name) ≤ 1
          → length (map (λ (m : Sent). m.write) (cond b (message ∷ filter (is_to name) messages) (filter (is_to name) messages))) ≤ 1
      by false other most = most
      by true here most =
          let same : name ≡ message.core = (is_core-Decides name message.core).0 here in
          let differ : All (λ other. is_core message.core other ≡ false) rest =
          All-from_recursion (λ other. is_core message.core other ≡ false) rest (IsDistinct-head is_core message.core rest apart) in
          let none : All (λ other. is_core name other ≡ false) rest =
          subst (λ (n : CoreId). All (λ other. is_core n other ≡ false) rest) (sym same) differ in
          let empty = in_flight-none messages name none in
          omega (arith, ap length empty)

-- something is in flight to a core, or no message goes to it
pub in_flight-cases : (messages : List Sent) (name : CoreId)
    → (length (in_flight messages name) ≡ 0) ⊎ ((other : CoreId) × Contains (map goes_to messages) other × (is_core name other ≡ true))
in_flight-cases [] name = inl refl
in_flight-cases (message ∷ messages) name = by (is_core name message.core) refl (in_flight-cases messages name) where
  Goes : List Sent → Type 0
  Goes sent = (other : CoreId) × Contains (map goes_to sent) other × (is_core name other ≡ true)

  by : (b : Bool) → is_core name message.core ≡ b → (length (in_flight messages name) ≡ 0) ⊎ Goes messages
      → (length (map (λ (m : Sent). m.write) (cond b (message ∷ filter (is_to name) messages) (filter (is_to name) messages))) ≡ 0)
      ⊎ Goes (message ∷ messages)
  by true here rest = inr (message.core, (0, omega arith, refl), here)
  by false other (inl none) = inl none
  by false other (inr (one, (k, below, is), same)) = inr (one, (suc k, omega arith, is), same)

-- what arrives at a core: what is in flight to it, and what it keeps in its buffer
abbrev pub arriving : List Sent → Core → List Write
arriving messages core = in_flight messages core.core ++ core.buffer

-- how much is pending for a core
pub length-pending : (messages : List Sent) (feeds : List FeedState) (core : Core)
    → length (pending messages feeds core)
    ≡ length (in_flight messages core.core) + length core.buffer + length (to_feed feeds core.core)
length-pending messages feeds core =
    let all = length-append (arriving messages core) (to_feed feeds core.core) in
    let some = length-append (in_flight messages core.core) core.buffer in
    omega (arith, all, some)

-- and once more was sent
pub length-pending_more : (some more : List Sent) (feeds : List FeedState) (core : Core)
    → length (pending (some ++ more) feeds core)
    ≡ length (pending some feeds core) + length (in_flight more core.core)
length-pending_more some more feeds core =
    let before = length-pending some feeds core in
    let after = length-pending (some ++ more) feeds core in
    let sent = length-append (in_flight some core.core) (in_flight more core.core) in
    let both = ap length (in_flight-append some more core.core) in
    omega (arith, before, after, sent, both)

-- what is in flight to a core, in its buffer, or still to be fed is pending for it
pub pending-in_flight : (messages : List Sent) (feeds : List FeedState) (core : Core) (write : Write)
    → Contains (in_flight messages core.core) write → Contains (pending messages feeds core) write
pending-in_flight messages feeds core write sent =
    Contains-append_left (arriving messages core) (to_feed feeds core.core) write
    (Contains-append_left (in_flight messages core.core) core.buffer write sent)

pub pending-buffered : (messages : List Sent) (feeds : List FeedState) (core : Core) (write : Write)
    → Contains core.buffer write → Contains (pending messages feeds core) write
pending-buffered messages feeds core write kept =
    Contains-append_left (arriving messages core) (to_feed feeds core.core) write
    (Contains-append_right (in_flight messages core.core) core.buffer write kept)

pub pending-to_feed : (messages : List Sent) (feeds : List FeedState) (core : Core) (write : Write)
    → Contains (to_feed feeds core.core) write → Contains (pending messages feeds core) write
pending-to_feed messages feeds core write left =
    Contains-append_right (arriving messages core) (to_feed feeds core.core) write left

-- and nothing else is
pub pending-cases : (messages : List Sent) (feeds : List FeedState) (core : Core) (write : Write)
    → Contains (pending messages feeds core) write
    → Contains (in_flight messages core.core) write
    ⊎ (Contains core.buffer write ⊎ Contains (to_feed feeds core.core) write)
pending-cases messages feeds core write there =
    by (Contains-append_cases (arriving messages core) (to_feed feeds core.core) write there) where
      Cases : Type 0
      Cases = Contains (in_flight messages core.core) write
          ⊎ (Contains core.buffer write ⊎ Contains (to_feed feeds core.core) write)

      by : Contains (arriving messages core) write ⊎ Contains (to_feed feeds core.core) write → Cases
      by (inr left) = inr (inr left)
      by (inl comes) = some (Contains-append_cases (in_flight messages core.core) core.buffer write comes) where
        some : Contains (in_flight messages core.core) write ⊎ Contains core.buffer write → Cases
        some (inl sent) = inl sent
        some (inr kept) = inr (inl kept)

-- the writes of a write's messages are it
pub All-in_flight_sent : (P : Write → Type 0) (place : ℕ) (write : Write) (names : List CoreId) (name : CoreId)
    → ((other : CoreId) → Contains names other → is_core name other ≡ true → P write) → All P (in_flight (sent_to place write names) name)
All-in_flight_sent P place write [] name holds = All-nil P
All-in_flight_sent P place write (first ∷ names) name holds =
    by (is_core name first) refl (All-in_flight_sent P place write names name (λ other there same. holds other (suc there.0, omega (arith, there.1), there.2) same)) where
      one : Sent
      one = record { place = place; core = first; write = write }

      rest : List Sent
      rest = filter (is_to name) (sent_to place write names)

      by : (b : Bool) → is_core name first ≡ b → All P (in_flight (sent_to place write names) name)
          → All P (map (λ (m : Sent). m.write) (cond b (one ∷ rest) rest))
      by true here all = All-cons P write (map (λ (m : Sent). m.write) rest) (holds first (0, omega arith, refl) here) all
      by false other all = all

-- what is said of each element of two lists is said of each of either
All-append_parts : {X : Type 0} (P : X → Type 0) (xs ys : List X) → All P (xs ++ ys) → All P xs × All P ys
All-append_parts P xs ys all = (
  λ k d below. subst P (get_or_append_left xs ys d k below) (all k d (omega (arith, length-append xs ys))),
  λ k d below. subst P (get_or-append-add xs ys k d) (all (length xs + k) d (omega (arith, length-append xs ys))),
)

-- what is said of each write that is pending for a core is said of each that is in flight to it, in its buffer, and
-- still to be fed
pub All-pending : (P : Write → Type 0) (messages : List Sent) (feeds : List FeedState) (core : Core)
    → All P (in_flight messages core.core) → All P core.buffer → All P (to_feed feeds core.core)
    → All P (pending messages feeds core)
All-pending P messages feeds core sent kept left =
    All-append P (arriving messages core) (to_feed feeds core.core)
    (All-append P (in_flight messages core.core) core.buffer sent kept) left

pub All-pending_parts : (P : Write → Type 0) (messages : List Sent) (feeds : List FeedState) (core : Core)
    → All P (pending messages feeds core)
    → All P (in_flight messages core.core) × All P core.buffer × All P (to_feed feeds core.core)
All-pending_parts P messages feeds core all =
    let outer = All-append_parts P (arriving messages core) (to_feed feeds core.core) all in
    let inner = All-append_parts P (in_flight messages core.core) core.buffer outer.0 in
    (inner.0, inner.1, outer.1)

-- so it is once a write was sent that it may be said of
pub All-pending_sent : (P : Write → Type 0) (messages : List Sent) (place : ℕ) (write : Write) (names : List CoreId)
    (feeds : List FeedState) (core : Core) → All P (pending messages feeds core)
    → ((other : CoreId) → Contains names other → is_core core.core other ≡ true → P write)
    → All P (pending (messages ++ sent_to place write names) feeds core)
All-pending_sent P messages place write names feeds core all holds =
    let before : List Write = in_flight messages core.core in
    let sent : List Write = in_flight (sent_to place write names) core.core in
    let parts = All-pending_parts P messages feeds core all in
    All-pending P (messages ++ sent_to place write names) feeds core
    (subst (All P) (sym (in_flight-append messages (sent_to place write names) core.core))
    (All-append P before sent parts.0 (All-in_flight_sent P place write names core.core holds))) parts.1 parts.2

-- what is pending for a core stays so when more is sent
pub pending-stays : (some more : List Sent) (feeds : List FeedState) (core : Core) (write : Write)
    → Contains (pending some feeds core) write → Contains (pending (some ++ more) feeds core) write
pending-stays some more feeds core write there = by (pending-cases some feeds core write there) where
  by : Contains (in_flight some core.core) write
      ⊎ (Contains core.buffer write ⊎ Contains (to_feed feeds core.core) write)
      → Contains (pending (some ++ more) feeds core) write
  by (inr (inl kept)) = pending-buffered (some ++ more) feeds core write kept
  by (inr (inr left)) = pending-to_feed (some ++ more) feeds core write left
  by (inl sent) =
      pending-in_flight (some ++ more) feeds core write
      (subst (λ (ws : List Write). Contains ws write) (sym (in_flight-append some more core.core))
      (Contains-append_left (in_flight some core.core) (in_flight more core.core) write sent))

-- and a write is pending for a core that it is sent to
pub pending-sent : (messages : List Sent) (place : ℕ) (write : Write) (names : List CoreId) (feeds : List FeedState)
    (core : Core) → Contains names core.core
    → Contains (pending (messages ++ sent_to place write names) feeds core) write
pending-sent messages place write names feeds core there =
    let send : CoreId → Sent = λ name. record { place = place; core = name; write = write } in
    let message : Contains (sent_to place write names) (send core.core) =
    Contains-map (λ (name : CoreId). record { place = place; core = name; write = write }) names core.core there in
    let arrives =
    Contains-filter (is_to core.core) (sent_to place write names) (send core.core) message (is_core-itself core.core) in
    let here : Contains (in_flight (sent_to place write names) core.core) write =
    Contains-map (λ (m : Sent). m.write) (filter (is_to core.core) (sent_to place write names)) (send core.core) arrives in
    pending-in_flight (messages ++ sent_to place write names) feeds core write
    (subst (λ (ws : List Write). Contains ws write)
    (sym (in_flight-append messages (sent_to place write names) core.core))
    (Contains-append_right (in_flight messages core.core) (in_flight (sent_to place write names) core.core) write here))
