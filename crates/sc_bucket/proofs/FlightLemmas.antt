-- What is left of the messages in flight once one of them was taken out.
use Rattle.std.proofs.Common.{◌≡◌, ◌⊎◌, inl, inr, ℕ, zero, suc, ◌+◌, ◌<◌, true, false, List, [], ◌∷◌, ◌++◌, length, map, take, drop, slice_get, Some, None, Option, MatchOption, All, ◌≢◌, Contains, refl, sym, ap, ◌∙◌, subst, arith, length-append, length-take}
use Rattle.std.specs.List.{remove, take-map, drop-map, AllWithin, HoldsAt}
use Rattle.std.specs.Option.{option_map}
use Rattle.std.proofs.lemmas.List.{get_or-take, map-append}
use Rattle.std.proofs.lemmas.List.Elements.{All-map, Contains-append_left, Contains-append_right, Contains-append_cases}
use Rattle.std.proofs.lemmas.Option.{none-some, same_Some, slice_get-map, get_or_from_slice_get}
use Rattle.sc_record.specs.declared.slice.CoreId.{CoreId}
use Rattle.sc_record.specs.Writes.{Write}
use Rattle.sc_bucket.specs.Kept.{Sent}
use Rattle.sc_record.specs.Names.{is_core}
use Rattle.sc_bucket.specs.declared.message.Message.{Message}
use Rattle.sc_bucket.specs.Flight.{sent_of, in_flight, IsFirstOf}
use Rattle.sc_replicas.proofs.FindLemmas.{some_at}
use Rattle.sc_bucket.proofs.PendingLemmas.{in_flight-append}

-- an element at a place stands between those before it and those after it
pub split_get : {A : Type 0} (xs : List A) (k : ℕ) (x : A) → slice_get xs k ≡ Some x → xs ≡ take k xs ++ x ∷ drop (suc k) xs
split_get [] k x is = absurd (none-some x is)
split_get (y ∷ ys) zero x is = ap (λ z. z ∷ ys) (same_Some y x is)
split_get (y ∷ ys) (suc k) x is = ap (λ zs. y ∷ zs) (split_get ys k x is)

-- the messages to a core, of one message and others
pub in_flight-own : (message : Sent) (messages : List Sent) (core : CoreId) → is_core core message.core ≡ true
    → in_flight (message ∷ messages) core ≡ message.write ∷ in_flight messages core
in_flight-own message messages core is = rw is refl

pub in_flight-other : (message : Sent) (messages : List Sent) (core : CoreId) → is_core core message.core ≡ false
    → in_flight (message ∷ messages) core ≡ in_flight messages core
in_flight-other message messages core is = rw is refl

-- one list of writes has this write, and the other is what is left without it
pub record IsOneLess (more : List Write) (write : Write) (less : List Write) : Type 0 where
  pub there : Contains more write
  pub kept : (other : Write) → Contains more other → Contains less other ⊎ (write ≡ other)
  pub from : (other : Write) → Contains less other → Contains more other
  pub count : length more ≡ length less + 1

pub one_less : (xs ys : List Write) (write : Write) → IsOneLess (xs ++ write ∷ ys) write (xs ++ ys)
one_less xs ys write = record {
  there = Contains-append_right xs (write ∷ ys) write (0, omega arith, refl);
  kept = λ other there. by_kept other (Contains-append_cases xs (write ∷ ys) other there);
  from = λ other there. by_from other (Contains-append_cases xs ys other there);
  count = omega (arith, length-append xs (write ∷ ys), length-append xs ys);
} where
  by_kept : (other : Write) → Contains xs other ⊎ Contains (write ∷ ys) other → Contains (xs ++ ys) other ⊎ (write ≡ other)
  by_kept other (inl there) = inl (Contains-append_left xs ys other there)
  by_kept other (inr (zero, below, is)) = inr is
  by_kept other (inr (suc k, below, is)) = inl (Contains-append_right xs ys other (k, omega arith, is))

  by_from : (other : Write) → Contains xs other ⊎ Contains ys other → Contains (xs ++ write ∷ ys) other
  by_from other (inl there) = Contains-append_left xs (write ∷ ys) other there
  by_from other (inr (k, below, is)) = Contains-append_right xs (write ∷ ys) other (suc k, omega arith, is)

-- a message that is taken out leaves the writes to another core
pub taken-other : (messages : List Sent) (at : ℕ) (message : Sent) (core : CoreId) → slice_get messages at ≡ Some message
    → is_core core message.core ≡ false → in_flight (remove messages at) core ≡ in_flight messages core
taken-other messages at message core found is =
    let before = take at messages in
    let after = drop (suc at) messages in
    in_flight-append before after core
    ∙ ap (λ these. in_flight before core ++ these) (sym (in_flight-other message after core is))
    ∙ sym (in_flight-append before (message ∷ after) core)
    ∙ ap (λ these. in_flight these core) (sym (split_get messages at message found))

-- and one write less to its own
pub taken-own : (messages : List Sent) (at : ℕ) (message : Sent) (core : CoreId) → slice_get messages at ≡ Some message
    → is_core core message.core ≡ true → IsOneLess (in_flight messages core) message.write (in_flight (remove messages at) core)
taken-own messages at message core found is =
    let before = take at messages in
    let after = drop (suc at) messages in
    let more : in_flight messages core ≡ in_flight before core ++ message.write ∷ in_flight after core =
    ap (λ these. in_flight these core) (split_get messages at message found)
    ∙ in_flight-append before (message ∷ after) core
    ∙ ap (λ these. in_flight before core ++ these) (in_flight-own message after core is) in
    let less : in_flight (remove messages at) core ≡ in_flight before core ++ in_flight after core = in_flight-append before after core in
    rw (more, less) (one_less (in_flight before core) (in_flight after core) message.write)

-- so it is with other writes behind them
pub one_less-append : (more less others : List Write) (write : Write) → IsOneLess more write less
    → IsOneLess (more ++ others) write (less ++ others)
one_less-append more less others write one = record {
  there = Contains-append_left more others write one.there;
  kept = λ other there. by_kept other (Contains-append_cases more others other there);
  from = λ other there. by_from other (Contains-append_cases less others other there);
  count = omega (arith, length-append more others, length-append less others, one.count);
} where
  left : (other : Write) → Contains less other ⊎ (write ≡ other) → Contains (less ++ others) other ⊎ (write ≡ other)
  left other (inl there) = inl (Contains-append_left less others other there)
  left other (inr same) = inr same

  by_kept : (other : Write) → Contains more other ⊎ Contains others other → Contains (less ++ others) other ⊎ (write ≡ other)
  by_kept other (inl there) = left other (one.kept other there)
  by_kept other (inr there) = inl (Contains-append_right less others other there)

  by_from : (other : Write) → Contains less other ⊎ Contains others other → Contains (more ++ others) other
  by_from other (inl there) = Contains-append_left more others other (one.from other there)
  by_from other (inr there) = Contains-append_right more others other there

-- what is left of a mapped list
pub map-remove : {A B : Type 0} (f : A → B) (xs : List A) (at : ℕ) → map f (remove xs at) ≡ remove (map f xs) at
map-remove f xs at =
    map-append f (take at xs) (drop (suc at) xs)
    ∙ ap (λ end. map f (take at xs) ++ end) (sym (drop-map f (suc at) xs))
    ∙ ap (λ start. start ++ drop (suc at) (map f xs)) (sym (take-map f at xs))

-- what a search for the first message of a write finds
abbrev pub IsFirstFound : ℕ → List Sent → Option ℕ → Type 0
IsFirstFound place messages found =
    MatchOption found (All (λ (message : Sent). message.place ≢ place) messages) (λ at. (message : Sent) × IsFirstOf place messages at message)

pub first_of_items : (place : ℕ) (items : List Message) (messages : List Sent) (found : Option ℕ) → map sent_of items ≡ messages
    → MatchOption found (AllWithin (λ (message : Message). message.place ≢ place) items 0 (length items))
    (λ i. (i < length items) × HoldsAt (λ (message : Message). message.place ≡ place) items i × AllWithin (λ (message : Message). message.place ≢ place) items 0 i)
    → IsFirstFound place messages found
first_of_items place items messages None same none =
    subst (All (λ (message : Sent). message.place ≢ place)) same
    (All-map (λ (message : Sent). message.place ≢ place) sent_of items (λ k d below. none k d (omega arith) below))
first_of_items place items messages (Some i) same (within, here, before) =
    let (message, found) = some_at items i within in (
      sent_of message,
      subst (λ these. IsFirstOf place these i (sent_of message)) same (record {
        found = slice_get-map sent_of items i ∙ ap (option_map sent_of) found;
        of_write = subst (λ (m : Message). m.place ≡ place) (get_or_from_slice_get items i message message found) (here message);
        first = subst (All (λ (m : Sent). m.place ≢ place)) (sym (take-map sent_of i items))
            (All-map (λ (m : Sent). m.place ≢ place) sent_of (take i items)
            (λ k d below. let early : k < i = omega (arith, below, length-take i items) in
            subst (λ (m : Message). m.place ≢ place) (sym (get_or-take i items k d early)) (before k d (omega arith) early)));
      }),
    )
