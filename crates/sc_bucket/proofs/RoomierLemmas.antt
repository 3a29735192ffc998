-- Cores that have no less room than before.
use Rattle.std.proofs.Common.{◌≡◌, ℕ, zero, suc, ◌+◌, ◌<◌, true, List, [], ◌∷◌, ◌++◌, length, map, set, max, take, get_or, All, Contains, slice_get, Option, Some, None, Result, Ok, Err, refl, sym, ap, ◌∙◌, subst, arith}
use Rattle.std.specs.Prelude.{OnOk, OnErr}
use Rattle.std.specs.Option.{SomeIff, ok_or}
use Rattle.std.specs.List.{AllZip}
use Rattle.std.proofs.lemmas.List.{length-map, get_or-map, map_more}
use Rattle.std.proofs.lemmas.List.Elements.{All-nil, All-cons, All-head, All-tail, All-weaker, All-push}
use Rattle.std.proofs.lemmas.Option.{same_Some, slice_get_within}
use Rattle.sc_record.specs.declared.slice.CoreId.{CoreId}
use Rattle.sc_cluster.proofs.ListLemmas.{All-from_slice_get}
use Rattle.sc_replica.specs.Core.{Core}
use Rattle.sc_bucket.specs.Kept.{Sent, FeedState}
use Rattle.sc_bucket.specs.declared.message.Message.{Message}
use Rattle.sc_record.specs.Names.{is_core}
use Rattle.sc_replicas.specs.Cores.{with_room, without_room}
use Rattle.sc_bucket.specs.Flight.{in_flight}
use Rattle.sc_bucket.specs.Pending.{to_feed, pending}
use Rattle.sc_bucket.specs.Sound.{HasSpare}
use Rattle.sc_bucket.specs.Events.{AreSameCores}
use Rattle.sc_bucket.specs.Accepting.{IsRoomier, HasMore, HasMoreAt}
use Rattle.sc_replicas.proofs.FindLemmas.{some_at}
use Rattle.sc_bucket.proofs.PlaceLemmas.{slice_get-set, same_core_at, length-same_cores}
use Rattle.sc_replicas.proofs.CoreLemmas.{AreApart, is_core-Decides, core_alone, name_of}
use Rattle.sc_bucket.proofs.SoundLemmas.{names-same_cores}

-- a core is as roomy as itself, and roomier with more room
IsRoomier-itself : (core : Core) → IsRoomier core core
IsRoomier-itself core = record { same = refl; cells = omega arith; buffer = omega arith }

IsRoomier-with_room : (core : Core) (n : ℕ) → IsRoomier core (with_room n core)
IsRoomier-with_room core n = record { same = refl; cells = omega arith; buffer = omega arith }

IsRoomier-then : (one two three : Core) → IsRoomier one two → IsRoomier two three → IsRoomier one three
IsRoomier-then one two three first second = record {
  same = second.same ∙ first.same;
  cells = omega (arith, first.cells, second.cells);
  buffer = omega (arith, first.buffer, second.buffer);
}

-- and so it is with cores
pub roomier-itself : (cores : List Core) → AllZip IsRoomier cores cores
roomier-itself [] = tt
roomier-itself (core ∷ cores) = (IsRoomier-itself core, roomier-itself cores)

pub roomier-then : (one two three : List Core) → AllZip IsRoomier one two → AllZip IsRoomier two three → AllZip IsRoomier one three
roomier-then [] [] [] first second = tt
roomier-then [] [] (z ∷ zs) first second = absurd second
roomier-then [] (y ∷ ys) three first second = absurd first
roomier-then (x ∷ xs) [] three first second = absurd first
roomier-then (x ∷ xs) (y ∷ ys) [] first second = absurd second
roomier-then (x ∷ xs) (y ∷ ys) (z ∷ zs) first second =
    (IsRoomier-then x y z first.0 second.0, roomier-then xs ys zs first.1 second.1)

-- with more room in the core at a place
pub roomier-with_room : (cores : List Core) (at n : ℕ) (core : Core) → slice_get cores at ≡ Some core
    → AllZip IsRoomier cores (set cores at (with_room n core))
roomier-with_room [] at n core there = tt
roomier-with_room (first ∷ cores) zero n core there =
    let same : first ≡ core = same_Some first core there in
    (subst (λ (c : Core). IsRoomier first (with_room n c)) same (IsRoomier-with_room first n), roomier-itself cores)
roomier-with_room (first ∷ cores) (suc at) n core there = (IsRoomier-itself first, roomier-with_room cores at n core there)

-- roomier cores are the same but for room
pub same-roomier : (old new : List Core) → AllZip IsRoomier old new → AreSameCores old new
same-roomier [] [] roomier = refl
same-roomier [] (y ∷ ys) roomier = absurd roomier
same-roomier (x ∷ xs) [] roomier = absurd roomier
same-roomier (x ∷ xs) (y ∷ ys) roomier =
    let first : without_room y ≡ without_room x = roomier.0.same in
    let rest : map without_room ys ≡ map without_room xs = same-roomier xs ys roomier.1 in
    cc

-- what is true of each is true of each roomier one, where more room leaves it
pub All-roomier : (P : Core → Type 0) (old new : List Core) → ((x y : Core) → IsRoomier x y → P x → P y) → AllZip IsRoomier old new
    → All P old → All P new
All-roomier P [] [] keeps roomier all = All-nil P
All-roomier P [] (y ∷ ys) keeps roomier all = absurd roomier
All-roomier P (x ∷ xs) [] keeps roomier all = absurd roomier
All-roomier P (x ∷ xs) (y ∷ ys) keeps roomier all =
    All-cons P y ys (keeps x y roomier.0 (All-head P x xs all)) (All-roomier P xs ys keeps roomier.1 (All-tail P x xs all))

-- as having room for what is pending, and for one more
HasSpare-roomier : (messages : List Sent) (feeds : List FeedState) (x y : Core) → IsRoomier x y
    → HasSpare messages feeds x
    → HasSpare messages feeds y
HasSpare-roomier messages feeds x y roomier spare =
    let pending_same : length (pending messages feeds y) ≡ length (pending messages feeds x) =
    ap (λ (core : Core). length (pending messages feeds core)) roomier.same in
    let in_flight_same : length (in_flight messages y.core) ≡ length (in_flight messages x.core) =
    ap (λ (core : Core). length (in_flight messages core.core)) roomier.same in
    record {
      cells = omega (arith, spare.cells, roomier.cells, pending_same);
      buffer = omega (arith, spare.buffer, roomier.buffer, in_flight_same);
    }

pub spares-roomier : (messages : List Sent) (feeds : List FeedState) (old new : List Core) → AllZip IsRoomier old new
    → All (HasSpare messages feeds) old → All (HasSpare messages feeds) new
spares-roomier messages feeds old new roomier spares =
    All-roomier (HasSpare messages feeds) old new (HasSpare-roomier messages feeds) roomier spares

HasMore-roomier : (messages : List Sent) (feeds : List FeedState) (x y : Core) → IsRoomier x y
    → HasMore messages feeds x
    → HasMore messages feeds y
HasMore-roomier messages feeds x y roomier more =
    let same : length y.buffer ≡ length x.buffer = ap (λ (core : Core). length core.buffer) roomier.same in
    let left : length (to_feed feeds y.core) ≡ length (to_feed feeds x.core) =
    ap (λ (core : Core). length (to_feed feeds core.core)) roomier.same in
    record {
      cells = omega (arith, more.cells, roomier.cells, same, left);
      buffer = omega (arith, more.buffer, roomier.buffer);
    }

pub HasMoreAt-roomier : (messages : List Sent) (feeds : List FeedState) (old new : List Core) (name : CoreId)
    → AllZip IsRoomier old new → HasMoreAt messages feeds old name → HasMoreAt messages feeds new name
HasMoreAt-roomier messages feeds old new name roomier more =
    All-roomier (λ (core : Core). is_core name core.core ≡ true → HasMore messages feeds core) old new
    (λ x y one has same.
    HasMore-roomier messages feeds x y one (has (ap (λ (core : Core). is_core name core.core) (sym one.same) ∙ same)))
    roomier more

-- the room for one more write than all that could be pending for the core
abbrev pub one_more : List Sent → List FeedState → Core → ℕ
one_more messages feeds core = length messages + length core.buffer + length (to_feed feeds core.core) + 1

-- the core that was given it has it
pub has_more : (messages : List Sent) (feeds : List FeedState) (cores new : List Core) (at : ℕ) (core : Core)
    → slice_get cores at ≡ Some core → at < length cores
    → new ≡ set cores at (with_room (one_more messages feeds core) core)
    → (one : Core) → slice_get new at ≡ Some one → HasMore messages feeds one
has_more messages feeds cores new at core there within is one found =
    let n : ℕ = one_more messages feeds core in
    let roomy : Core = with_room n core in
    let same : roomy ≡ one =
    same_Some roomy one
    (sym (slice_get-set cores at roomy within) ∙ ap (λ (cs : List Core). slice_get cs at) (sym is) ∙ found) in
    let spare : max core.cell_spare n ≡ one.cell_spare = ap (λ (c : Core). c.cell_spare) same in
    let buffer_spare : max core.buffer_spare n ≡ one.buffer_spare = ap (λ (c : Core). c.buffer_spare) same in
    let buffer : length core.buffer ≡ length one.buffer = ap (λ (c : Core). length c.buffer) same in
    let left : length (to_feed feeds core.core) ≡ length (to_feed feeds one.core) =
    ap (λ (c : Core). length (to_feed feeds c.core)) same in
    record { cells = omega (arith, spare, buffer, left); buffer = omega (arith, buffer_spare) }

-- so it is with what a call that makes room leaves, whether it made it or not
pub roomier-reserved : {T F : Type 0} (result : Result T F) (cores new : List Core) (at n : ℕ) → at < length cores
    → OnOk result ((core : Core) → slice_get cores at ≡ Some core → new ≡ set cores at (with_room n core))
    → OnErr result (new ≡ cores) → AllZip IsRoomier cores new
roomier-reserved (Ok x) cores new at n within made same =
    let one = some_at cores at within in
    subst (AllZip IsRoomier cores) (sym (made one.0 one.1)) (roomier-with_room cores at n one.0 one.1)
roomier-reserved (Err x) cores new at n within made same = subst (AllZip IsRoomier cores) (sym same) (roomier-itself cores)

pub more-reserved : {T F : Type 0} (result : Result T F) (messages : List Sent) (feeds : List FeedState)
    (cores new : List Core) (at n : ℕ) (core : Core)
    → slice_get cores at ≡ Some core → at < length cores → n ≡ one_more messages feeds core
    → OnOk result ((core : Core) → slice_get cores at ≡ Some core → new ≡ set cores at (with_room n core))
    → OnOk result ((one : Core) → slice_get new at ≡ Some one → HasMore messages feeds one)
more-reserved (Ok x) messages feeds cores new at n core there within is made =
    has_more messages feeds cores new at core there within
    (made core there ∙ ap (λ k. set cores at (with_room k core)) is)
more-reserved (Err x) messages feeds cores new at n core there within is made = tt

-- roomier cores have the same names, and are as many
pub names-roomier : (old new : List Core) → AllZip IsRoomier old new → map name_of new ≡ map name_of old
names-roomier old new roomier = names-same_cores old new (same-roomier old new roomier)

pub length-roomier : (old new : List Core) → AllZip IsRoomier old new → length new ≡ length old
length-roomier old new roomier = length-same_cores old new (same-roomier old new roomier)

-- the core of a name has room for one more where the one at its place has
pub more_at : (messages : List Sent) (feeds : List FeedState) (old new : List Core) (at : ℕ) (name : CoreId)
    (there : Core)
    → AreApart old → AllZip IsRoomier old new → slice_get old at ≡ Some there → is_core name there.core ≡ true
    → ((one : Core) → slice_get new at ≡ Some one → HasMore messages feeds one) → HasMoreAt messages feeds new name
more_at messages feeds old new at name there apart roomier found named more =
    All-from_slice_get (λ (core : Core). is_core name core.core ≡ true → HasMore messages feeds core) new by where
      by : (k : ℕ) (core : Core) → slice_get new k ≡ Some core → is_core name core.core ≡ true
          → HasMore messages feeds core
      by k core at_k same =
          let inside = slice_get_within new k core at_k in
          let before = some_at old k (omega (arith, length-roomier old new roomier)) in
          let alike = same_core_at old new k before.0 core (same-roomier old new roomier) before.1 at_k in
          let named_alike : before.0.core ≡ there.core =
          sym (ap (λ (c : Core). c.core) alike) ∙ sym ((is_core-Decides name core.core).0 same)
          ∙ (is_core-Decides name there.core).0 named in
          let place : k ≡ at = core_alone old k at before.0 there apart before.1 found named_alike in
          more core (subst (λ j. slice_get new j ≡ Some core) place at_k)

-- the core that a message goes to is there
pub message_there : (messages : List Message) (k : ℕ) (message : Message) (names : List CoreId)
    → All (Contains names) (map (λ (m : Message). m.core) messages) → k < length messages → message ≡ get_or messages k message
    → Contains names message.core
message_there messages k message names all within is =
    let here = all k message.core (omega (arith, length-map messages (λ (m : Message). m.core))) in
    subst (Contains names) (get_or-map (λ (m : Message). m.core) messages k message message.core within ∙ ap (λ (m : Message). m.core) (sym is)) here

-- one more message whose core has room for one more
pub mores-push : (sent : List Sent) (feeds : List FeedState) (old new : List Core) (messages : List Message) (k : ℕ)
    (message : Message) → AllZip IsRoomier old new → k < length messages → message ≡ get_or messages k message
    → All (HasMoreAt sent feeds old) (map (λ (m : Message). m.core) (take k messages))
    → HasMoreAt sent feeds new message.core
    → All (HasMoreAt sent feeds new) (map (λ (m : Message). m.core) (take (k + 1) messages))
mores-push sent feeds old new messages k message roomier within is so_far here =
    let kept : All (HasMoreAt sent feeds new) (map (λ (m : Message). m.core) (take k messages)) =
    All-weaker (HasMoreAt sent feeds old) (HasMoreAt sent feeds new)
    (λ name. HasMoreAt-roomier sent feeds old new name roomier)
    (map (λ (m : Message). m.core) (take k messages)) so_far in
    let more : map (λ (m : Message). m.core) (take (k + 1) messages)
    ≡ map (λ (m : Message). m.core) (take k messages) ++ message.core ∷ [] =
    map_more (λ (m : Message). m.core) messages k message within
    ∙ ap (λ (m : Message). map (λ (n : Message). n.core) (take k messages) ++ m.core ∷ []) (sym is) in
    subst (All (HasMoreAt sent feeds new)) (sym more)
    (All-push (HasMoreAt sent feeds new) (map (λ (m : Message). m.core) (take k messages)) message.core kept here)

-- what is true whatever a call answered
pub whatever : {T F P : Type 0} (result : Result T F) → P → OnOk result P
whatever (Ok x) is = is
whatever (Err x) is = tt

-- the sum that a checked addition answered
pub sum_from_checked : {F : Type 0} (sum : Option ℕ) (fault : F) (P : Type 0) (exact answer : ℕ) → SomeIff sum P exact
    → ok_or sum fault ≡ Ok answer → answer ≡ exact
sum_from_checked None fault P exact answer is answered = absurd (cc)
sum_from_checked (Some x) fault P exact answer is answered = let same : x ≡ answer = cc in sym same ∙ is.1
