-- What is in flight once the messages to one core were left out: to that core nothing, and to each other core what was.
use Rattle.std.proofs.Common.{◌≡◌, ◌+◌, Bool, true, false, cond, not, List, [], ◌∷◌, ◌++◌, length, filter, All, refl, sym, ap, ◌∙◌, subst, arith}
use Rattle.std.proofs.lemmas.List.Elements.{All-nil}
use Rattle.sc_record.specs.declared.slice.CoreId.{CoreId}
use Rattle.sc_record.specs.Writes.{Write}
use Rattle.sc_record.specs.Names.{is_core}
use Rattle.sc_replica.specs.Core.{Core}
use Rattle.sc_bucket.specs.Kept.{Sent, FeedState}
use Rattle.sc_bucket.specs.Flight.{in_flight, is_to}
use Rattle.sc_bucket.specs.Pending.{to_feed, pending}
use Rattle.sc_bucket.specs.Sound.{HasSpare}
use Rattle.sc_replicas.proofs.CoreLemmas.{is_core-Decides}
use Rattle.sc_bucket.proofs.PendingLemmas.{length-pending, All-pending, All-pending_parts}
use Rattle.sc_bucket.proofs.FlightLemmas.{in_flight-own, in_flight-other}

-- the messages that are not to this core
abbrev pub left_out : CoreId → List Sent → List Sent
left_out name messages = filter (λ (message : Sent). not (is_to name message)) messages

-- names that differ do so both ways
pub apart_too : (one other : CoreId) → is_core one other ≡ false → is_core other one ≡ false
apart_too one other apart = by (is_core other one) refl where
  by : (b : Bool) → is_core other one ≡ b → is_core other one ≡ false
  by false is = is
  by true is =
      let yes : is_core one other ≡ true = (is_core-Decides one other).1 (sym ((is_core-Decides other one).0 is)) in
      let both : true ≡ false = sym yes ∙ apart in
      absurd (cc)

-- nothing is in flight to the core
pub left_out-own : (name : CoreId) (messages : List Sent) → in_flight (left_out name messages) name ≡ []
left_out-own name [] = refl
left_out-own name (message ∷ messages) = by (is_core name message.core) refl (left_out-own name messages) where
  by : (b : Bool) → is_core name message.core ≡ b → in_flight (left_out name messages) name ≡ []
      → in_flight (cond (not b) (message ∷ left_out name messages) (left_out name messages)) name ≡ []
  by true own rest = rest
  by false other rest = in_flight-other message (left_out name messages) name other ∙ rest

-- and to another what was
pub left_out-other : (name : CoreId) (messages : List Sent) (other : CoreId) → is_core name other ≡ false
    → in_flight (left_out name messages) other ≡ in_flight messages other
left_out-other name [] other apart = refl
left_out-other name (message ∷ messages) other apart =
    by (is_core name message.core) refl (is_core other message.core) refl (left_out-other name messages other apart)
  where
    by : (b : Bool) → is_core name message.core ≡ b → (c : Bool) → is_core other message.core ≡ c
        → in_flight (left_out name messages) other ≡ in_flight messages other
        → in_flight (cond (not b) (message ∷ left_out name messages) (left_out name messages)) other
        ≡ in_flight (message ∷ messages) other
    by true own true to rest =
        let same : name ≡ other = (is_core-Decides name message.core).0 own ∙ sym ((is_core-Decides other message.core).0 to) in
        let yes : is_core name other ≡ true = (is_core-Decides name other).1 same in
        let both : true ≡ false = sym yes ∙ apart in
        absurd (cc)
    by true own false to rest = rest ∙ sym (in_flight-other message messages other to)
    by false is true to rest =
        in_flight-own message (left_out name messages) other to ∙ ap (λ ws. message.write ∷ ws) rest
        ∙ sym (in_flight-own message messages other to)
    by false is false to rest =
        in_flight-other message (left_out name messages) other to ∙ rest ∙ sym (in_flight-other message messages other to)

-- to the core by another's name that is the same
own_none : (name : CoreId) (messages : List Sent) (core : CoreId) → is_core name core ≡ true
    → in_flight (left_out name messages) core ≡ []
own_none name messages core is =
    subst (λ (other : CoreId). in_flight (left_out name messages) other ≡ []) ((is_core-Decides name core).0 is)
    (left_out-own name messages)

-- for another core the same is pending
pub pending-left_out_other : (name : CoreId) (messages : List Sent) (feeds : List FeedState) (core : Core) → is_core name core.core ≡ false
    → pending (left_out name messages) feeds core ≡ pending messages feeds core
pending-left_out_other name messages feeds core apart =
    ap (λ sent. sent ++ core.buffer ++ to_feed feeds core.core) (left_out-other name messages core.core apart)

-- for the core nothing that was not
all_pending_own : (P : Write → Type 0) (name : CoreId) (messages : List Sent) (feeds : List FeedState) (core : Core)
    → is_core name core.core ≡ true → All P (pending messages feeds core) → All P (pending (left_out name messages) feeds core)
all_pending_own P name messages feeds core own all =
    let (sent, kept, left) = All-pending_parts P messages feeds core all in
    All-pending P (left_out name messages) feeds core (subst (All P) (sym (own_none name messages core.core own)) (All-nil P)) kept left

-- so what is true of all that is pending stays true
pub All-pending_left_out : (P : Write → Type 0) (name : CoreId) (messages : List Sent) (feeds : List FeedState) (core : Core)
    → All P (pending messages feeds core) → All P (pending (left_out name messages) feeds core)
All-pending_left_out P name messages feeds core all = by (is_core name core.core) refl where
  by : (b : Bool) → is_core name core.core ≡ b → All P (pending (left_out name messages) feeds core)
  by true own = all_pending_own P name messages feeds core own all
  by false other = subst (All P) (sym (pending-left_out_other name messages feeds core other)) all

-- and the core has room for it
pub HasSpare-left_out : (name : CoreId) (messages : List Sent) (feeds : List FeedState) (core : Core) → HasSpare messages feeds core
    → HasSpare (left_out name messages) feeds core
HasSpare-left_out name messages feeds core spare = by (is_core name core.core) refl where
  before : length (pending messages feeds core)
      ≡ length (in_flight messages core.core) + length core.buffer + length (to_feed feeds core.core)
  before = length-pending messages feeds core

  after : length (pending (left_out name messages) feeds core)
      ≡ length (in_flight (left_out name messages) core.core) + length core.buffer + length (to_feed feeds core.core)
  after = length-pending (left_out name messages) feeds core

  by : (b : Bool) → is_core name core.core ≡ b → HasSpare (left_out name messages) feeds core
  by true own =
      let none = ap length (own_none name messages core.core own) in
      record {
        cells = omega (arith, before, after, none, spare.cells);
        buffer = omega (arith, none);
      }
  by false other =
      let same = ap length (left_out-other name messages core.core other) in
      record {
        cells = omega (arith, before, after, same, spare.cells);
        buffer = omega (arith, same, spare.buffer);
      }
