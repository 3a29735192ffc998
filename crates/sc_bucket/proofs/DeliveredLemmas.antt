-- What is true of a core stays true as what is pending for it comes to its cells, or from the flight into its buffer.
use Rattle.std.proofs.Common.{◌≡◌, ◌⊎◌, inl, inr, ℕ, zero, suc, ◌≤◌, ◌+◌, ℤ, ◌<ℤ◌, ◌≤ℤ◌, Bool, true, false, cond, IsTrue, List, [], ◌∷◌, ◌++◌, length, Option, Some, None, All, Contains, refl, sym, ap, ◌∙◌, subst, arith, length-append}
use Rattle.std.specs.Int.{int_max}
use Rattle.std.specs.Prelude.{int_lt}
use Rattle.std.proofs.lemmas.Int.{ints, clamps}
use Rattle.std.proofs.lemmas.Option.{none-some}
use Rattle.std.proofs.lemmas.List.Elements.{All-contains, All-contains_itself, All-weaker, Contains-append_left, Contains-append_right, Contains-append_cases, Contains-push, Contains-push_cases}
use Rattle.sc_hash.specs.Range.{IsWithin}
use Rattle.sc_router.specs.Route.{route_hash}
use Rattle.sc_record.specs.Writes.{is_of, write_of, Write}
use Rattle.sc_record.specs.declared.entry.Entry.{Entry}
use Rattle.sc_cluster.specs.declared.slice.Slice.{Slice}
use Rattle.sc_cluster.proofs.ListLemmas.{Contains-map, Contains-filter}
use Rattle.sc_ulog.specs.declared.mode.Mode.{Mode}
use Rattle.sc_ulog.specs.declared.mode.Mode.TheVariants.{Active}
use Rattle.sc_replica.specs.Cells.{applied}
use Rattle.sc_replica.specs.Core.{Core, fed, fed_all, buffered}
use Rattle.sc_replica.proofs.CoreLemmas.{All-applied, spare_after-≥}
use Rattle.sc_replica.proofs.GreatestLemmas.{greater, write_of-applied}
use Rattle.sc_journal.specs.Journal.{writes, writes_of, last_write}
use Rattle.sc_journal.specs.Legal.{IsLegal}
use Rattle.sc_journal.specs.Outcomes.{IsClock}
use Rattle.sc_journal.proofs.JournalLemmas.{is_of_from_id, last_write_is, last_write_none}
use Rattle.sc_journal.proofs.ListLemmas.{last_of_cases, split_at}
use Rattle.sc_journal.proofs.VersionLemmas.{ascends_in_versions, legal_newest}
use Rattle.sc_replicas.specs.Cores.{is_attached}
use Rattle.sc_bucket.specs.Sound.{Serves, IsInRange}
use Rattle.sc_bucket.proofs.FlightLemmas.{IsOneLess, one_less}

-- what is true of a core of a bucket with this map and this journal, to which `sent` is in flight and for which `pending` is
-- all that is still to come to its cells
pub record IsSoundCore (slices : List Slice) (journal : List Entry) (sent pending : List Write) (core : Core)
    : Type 0 where
  pub serves : (slice : Slice) → Contains slices slice → slice.id ≡ core.core.slice → Serves journal slice core
  pub written : All (Contains (writes journal)) core.cells × All (Contains (writes journal)) pending
  pub held : (slice : Slice) → Contains slices slice → slice.id ≡ core.core.slice → IsTrue (is_attached slice core)
      → (id : List ℕ) (write : Write) → IsWithin slice.range.min slice.range.max (route_hash id)
      → last_write journal id ≡ Some write → (write_of core.cells id ≡ Some write) ⊎ Contains pending write
  pub in_range : (slice : Slice) → Contains slices slice → slice.id ≡ core.core.slice
      → All (IsInRange slice) core.cells × All (IsInRange slice) pending
  pub clock : IsClock journal core.clock
  pub cell_room : length pending ≤ core.cell_spare
  pub buffer_room : length sent ≤ core.buffer_spare

-- a write of the id is of the id, and of a journal's writes one of the id's
of_id : (journal : List Entry) (id : List ℕ) (write : Write) → Contains (writes journal) write → is_of id write ≡ true
    → Contains (writes_of journal id) write
of_id journal id write there is = Contains-filter (is_of id) (writes journal) write there is

-- a write of the id is the last one, or its version is below that of the last one
last_or_older : (first : List Slice) (journal : List Entry) (id : List ℕ) (last write : Write) → IsLegal first journal
    → last_write journal id ≡ Some last → Contains (writes_of journal id) write → (write ≡ last) ⊎ (write.version <ℤ last.version)
last_or_older first journal id last write legal is there = by (last_of_cases (writes_of journal id)) where
  by : ((writes_of journal id ≡ []) × (last_write journal id ≡ None))
      ⊎ ((init : List Write) × (w : Write) × (writes_of journal id ≡ init ++ w ∷ []) × (last_write journal id ≡ Some w))
      → (write ≡ last) ⊎ (write.version <ℤ last.version)
  by (inl (none, no_last)) = let both : None ≡ Some last = sym no_last ∙ is in absurd (cc)
  by (inr (init, w, ends, found)) =
      let some : Some w ≡ Some last = sym found ∙ is in
      let same : w ≡ last = cc in
      let ended : writes_of journal id ≡ init ++ last ∷ [] = ends ∙ ap (λ (z : Write). init ++ z ∷ []) same in
      cases ended (Contains-append_cases init (last ∷ []) write (subst (λ (ws : List Write). Contains ws write) ended there))
    where
      cases : writes_of journal id ≡ init ++ last ∷ [] → Contains init write ⊎ Contains (last ∷ []) write
          → (write ≡ last) ⊎ (write.version <ℤ last.version)
      cases ended (inl inside) =
          let (before, after, at) = split_at init write inside in
          inr (ascends_in_versions first journal id before after [] write last legal (ended ∙ ap (λ ws. ws ++ last ∷ []) at))
      cases ended (inr (zero, below, here)) = inl (sym here)
      cases ended (inr (suc k, below, here)) = absurd (omega arith)

-- no write of a journal replaces the last one of its id
pub keeps_last : (first : List Slice) (journal : List Entry) (cells : List Write) (write : Write) (id : List ℕ) (last : Write)
    → IsLegal first journal → Contains (writes journal) write → last_write journal id ≡ Some last
    → write_of cells id ≡ Some last → write_of (applied cells write) id ≡ Some last
keeps_last first journal cells write id last legal there is cell =
    write_of-applied cells write id ∙ ap (λ found. cond (is_of id write) (greater found write) found) cell ∙ by (is_of id write) refl
  where
    older : is_of id write ≡ true → int_lt last.version write.version ≡ false
    older own =
        let most : write.version ≤ℤ last.version =
        All-contains (λ (w : Write). w.version ≤ℤ last.version) (writes_of journal id) write (legal_newest first journal id last legal is)
        (of_id journal id write there own) in
        grind (arith, ints)

    by : (b : Bool) → is_of id write ≡ b → cond b (greater (Some last) write) (Some last) ≡ Some last
    by true own = ap (λ b. cond b (Some write) (Some last)) (older own)
    by false other = refl

-- what is found in cells is one of them, and of the id
found_in : (cells : List Write) (id : List ℕ) (cell : Write) → write_of cells id ≡ Some cell
    → Contains cells cell × (is_of id cell ≡ true)
found_in [] id cell is = absurd (none-some cell is)
found_in (c ∷ cells) id cell is = by (is_of id c) refl (found_in cells id cell) is where
  by : (b : Bool) → is_of id c ≡ b → (write_of cells id ≡ Some cell → Contains cells cell × (is_of id cell ≡ true))
      → cond b (Some c) (write_of cells id) ≡ Some cell → Contains (c ∷ cells) cell × (is_of id cell ≡ true)
  by true own rest found = let same : c ≡ cell = cc in ((0, omega arith, same), ap (is_of id) (sym same) ∙ own)
  by false other rest found = let there = rest found in ((suc there.0.0, omega (arith, there.0.1), there.0.2), there.1)

-- the last write of an id, once it is applied, is its cell
pub takes_last : (first : List Slice) (journal : List Entry) (cells : List Write) (id : List ℕ) (last : Write) → IsLegal first journal
    → All (Contains (writes journal)) cells → last_write journal id ≡ Some last → write_of (applied cells last) id ≡ Some last
takes_last first journal cells id last legal written is =
    write_of-applied cells last id ∙ ap (λ b. cond b (greater (write_of cells id) last) (write_of cells id)) own ∙ by (write_of cells id) refl
  where
    own : is_of id last ≡ true
    own = is_of_from_id id last (last_write_is journal id last is).2

    by : (found : Option Write) → write_of cells id ≡ found → greater found last ≡ Some last
    by None none = refl
    by (Some cell) some =
        let there = found_in cells id cell some in
        cases (last_or_older first journal id last cell legal is
        (of_id journal id cell (All-contains (Contains (writes journal)) cells cell written there.0) there.1)) where
          cases : (cell ≡ last) ⊎ (cell.version <ℤ last.version) → greater (Some cell) last ≡ Some last
          cases (inl same) = elim (int_lt cell.version last.version) as (λ b. cond b (Some last) (Some cell) ≡ Some last) [
            | true ↦ refl
            | false ↦ ap (λ (w : Write). Some w) same
          ]
          cases (inr less) =
              let below : int_lt cell.version last.version ≡ true = grind (arith, ints) in
              ap (λ b. cond b (Some last) (Some cell)) below

-- a write of the journal is of no id that was never written
not_own : (journal : List Entry) (id : List ℕ) (write : Write) → Contains (writes journal) write → last_write journal id ≡ None
    → is_of id write ≡ false
not_own journal id write there none = by (is_of id write) refl where
  by : (b : Bool) → is_of id write ≡ b → is_of id write ≡ false
  by false other = other
  by true own =
      let (k, below, is) = subst (λ (ws : List Write). Contains ws write) (last_write_none journal id none) (of_id journal id write there own) in
      absurd (omega arith)

-- what is true of all of the longer list is true of all of the shorter one
all_from : (P : Write → Type 0) (more less : List Write) → ((write : Write) → Contains less write → Contains more write)
    → All P more → All P less
all_from P more less from all =
    All-weaker (Contains less) P (λ write there. All-contains P more write all (from write there)) less (All-contains_itself less)

-- the clock of a core that applied a write of the journal
clock-fed : (journal : List Entry) (clock : ℤ) (write : Write) → Contains (writes journal) write → IsClock journal clock
    → IsClock journal (int_max clock write.version)
clock-fed journal clock write there is = by (int_lt clock write.version) refl where
  by : (b : Bool) → int_lt clock write.version ≡ b → IsClock journal (int_max clock write.version)
  by true less =
      let greatest : int_max clock write.version ≡ write.version = grind (arith, ints, clamps) in
      subst (IsClock journal) (sym greatest) (inr (Contains-map (λ (w : Write). w.version) (writes journal) write there))
  by false more =
      let greatest : int_max clock write.version ≡ clock = grind (arith, ints, clamps) in
      subst (IsClock journal) (sym greatest) is

-- a core that applies a write that is pending for it: one that it is sent, one that it is fed, or one of its buffer
pub fed_is_sound : (first slices : List Slice) (journal : List Entry) (sent fewer pending left : List Write)
    (core : Core) (write : Write) → IsLegal first journal → IsOneLess pending write left → length fewer ≤ length sent
    → IsSoundCore slices journal sent pending core → IsSoundCore slices journal fewer left (fed core write)
fed_is_sound first slices journal sent fewer pending left core write legal one few sound = record {
  serves = λ slice there named active leader.
      let before = sound.serves slice there named active leader in
      (before.0, λ id within. same_last id (before.1 id within));
  written = (
    All-applied (Contains (writes journal)) core.cells write sound.written.0 here,
    all_from (Contains (writes journal)) pending left one.from sound.written.1,
  );
  held = λ slice there named attached id last within is. by id last is (sound.held slice there named attached id last within is);
  in_range = λ slice there named.
      let before = sound.in_range slice there named in (
        All-applied (IsInRange slice) core.cells write before.0
            (All-contains (IsInRange slice) pending write before.1 one.there),
        all_from (IsInRange slice) pending left one.from before.1,
      );
  clock = clock-fed journal core.clock write here sound.clock;
  cell_room = omega (arith, one.count, sound.cell_room, spare_after-≥ core.cells core.cell_spare write);
  buffer_room = omega (arith, few, sound.buffer_room);
} where
  here : Contains (writes journal) write
  here = All-contains (Contains (writes journal)) pending write sound.written.1 one.there

  same_last : (id : List ℕ) → write_of core.cells id ≡ last_write journal id
      → write_of (applied core.cells write) id ≡ last_write journal id
  same_last id cell = by (last_write journal id) refl where
    by : (last : Option Write) → last_write journal id ≡ last → write_of (applied core.cells write) id ≡ last_write journal id
    by (Some last) is = keeps_last first journal core.cells write id last legal here is (cell ∙ is) ∙ sym is
    by None none =
        write_of-applied core.cells write id ∙ ap (λ b. cond b (greater (write_of core.cells id) write) (write_of core.cells id)) other ∙ cell
      where
        other : is_of id write ≡ false
        other = not_own journal id write here none

  by : (id : List ℕ) (last : Write) → last_write journal id ≡ Some last
      → (write_of core.cells id ≡ Some last) ⊎ Contains pending last
      → (write_of (applied core.cells write) id ≡ Some last) ⊎ Contains left last
  by id last is (inl cell) = inl (keeps_last first journal core.cells write id last legal here is cell)
  by id last is (inr awaited) = cases (one.kept last awaited) where
    cases : Contains left last ⊎ (write ≡ last)
        → (write_of (applied core.cells write) id ≡ Some last) ⊎ Contains left last
    cases (inl still) = inr still
    cases (inr same) =
        inl (ap (λ (w : Write). write_of (applied core.cells w) id) same
        ∙ takes_last first journal core.cells id last legal sound.written.0 is)

-- a core that applies writes that are pending for it, one after another
pub fed_all_is_sound : (first slices : List Slice) (journal : List Entry) (sent before these after : List Write)
    (core : Core) → IsLegal first journal → IsSoundCore slices journal sent (before ++ (these ++ after)) core
    → IsSoundCore slices journal sent (before ++ after) (fed_all core these)
fed_all_is_sound first slices journal sent before [] after core legal sound = sound
fed_all_is_sound first slices journal sent before (write ∷ these) after core legal sound =
    fed_all_is_sound first slices journal sent before these after (fed core write) legal
    (fed_is_sound first slices journal sent sent (before ++ write ∷ (these ++ after)) (before ++ (these ++ after))
    core write legal (one_less before (these ++ after) write) (omega arith) sound)

-- one list of writes has the same writes as another, and is no longer
pub record AreSame (old new : List Write) : Type 0 where
  pub from : (write : Write) → Contains new write → Contains old write
  pub to : (write : Write) → Contains old write → Contains new write
  pub count : length new ≤ length old

-- a core whose cells and clock stay, for which the same is pending
pub same_pending_is_sound : (slices : List Slice) (journal : List Entry) (sent fewer old new : List Write) (core : Core)
    → AreSame old new → length fewer ≤ length sent → IsSoundCore slices journal sent old core
    → IsSoundCore slices journal fewer new core
same_pending_is_sound slices journal sent fewer old new core same few sound = record {
  serves = sound.serves;
  written = (sound.written.0, all_from (Contains (writes journal)) old new same.from sound.written.1);
  held = λ slice there named attached id last within is. by id last (sound.held slice there named attached id last within is);
  in_range = λ slice there named.
      let before = sound.in_range slice there named in
      (before.0, all_from (IsInRange slice) old new same.from before.1);
  clock = sound.clock;
  cell_room = omega (arith, same.count, sound.cell_room);
  buffer_room = omega (arith, few, sound.buffer_room);
} where
  by : (id : List ℕ) (last : Write) → (write_of core.cells id ≡ Some last) ⊎ Contains old last
      → (write_of core.cells id ≡ Some last) ⊎ Contains new last
  by id last (inl cell) = inl cell
  by id last (inr awaited) = inr (same.to last awaited)

-- a core with another log: its buffer is any, and it is still active where it was
pub other_log_is_sound : (slices : List Slice) (journal : List Entry) (sent pending : List Write) (core : Core)
    (mode : Mode) (buffer : List Write) → (core.mode ≡ Active → mode ≡ Active) → IsSoundCore slices journal sent pending core
    → IsSoundCore slices journal sent pending (record core { mode = mode; buffer = buffer })
other_log_is_sound slices journal sent pending core mode buffer still sound = record {
  serves = λ slice there named active leader.
      let before = sound.serves slice there named active leader in (still before.0, before.1);
  written = sound.written;
  held = sound.held;
  in_range = sound.in_range;
  clock = sound.clock;
  cell_room = sound.cell_room;
  buffer_room = sound.buffer_room;
}

-- a core that puts a write that it was sent into its buffer
pub buffered_is_sound : (slices : List Slice) (journal : List Entry) (sent left old new : List Write) (core : Core)
    (write : Write) → AreSame old new → length sent ≡ length left + 1 → IsSoundCore slices journal sent old core
    → IsSoundCore slices journal left new (buffered core write)
buffered_is_sound slices journal sent left old new core write same one sound =
    let before = same_pending_is_sound slices journal sent sent old new core same (omega arith) sound in
    record {
      serves = before.serves;
      written = before.written;
      held = before.held;
      in_range = before.in_range;
      clock = before.clock;
      cell_room = before.cell_room;
      buffer_room = omega (arith, one, sound.buffer_room);
    }

-- so it is with other writes behind them
pub AreSame-append : (old new more : List Write) → AreSame old new → AreSame (old ++ more) (new ++ more)
AreSame-append old new more same = record {
  from = λ write there. over new old write (same.from write) (Contains-append_cases new more write there);
  to = λ write there. over old new write (same.to write) (Contains-append_cases old more write there);
  count = omega (arith, length-append old more, length-append new more, same.count);
} where
  over : (some other : List Write) (write : Write) → (Contains some write → Contains other write)
      → Contains some write ⊎ Contains more write → Contains (other ++ more) write
  over some other write here (inl there) = Contains-append_left other more write (here there)
  over some other write here (inr there) = Contains-append_right other more write there

-- a write that goes from the one list to the end of the other
pub AreSame-moved : (sent left buffer : List Write) (write : Write) → IsOneLess sent write left
    → AreSame (sent ++ buffer) (left ++ (buffer ++ write ∷ []))
AreSame-moved sent left buffer write one = record {
  from = λ other there. by_from other (Contains-append_cases left later other there);
  to = λ other there. by_to other (Contains-append_cases sent buffer other there);
  count = omega (
    arith,
    one.count,
    length-append sent buffer,
    length-append left later,
    length-append buffer (write ∷ []),
  );
} where
  later : List Write
  later = buffer ++ write ∷ []

  last : (other : Write) → Contains buffer other ⊎ (write ≡ other) → Contains (sent ++ buffer) other
  last other (inl inside) = Contains-append_right sent buffer other inside
  last other (inr same) = Contains-append_left sent buffer other (subst (Contains sent) same one.there)

  by_from : (other : Write) → Contains left other ⊎ Contains later other → Contains (sent ++ buffer) other
  by_from other (inl inside) = Contains-append_left sent buffer other (one.from other inside)
  by_from other (inr inside) = last other (Contains-push_cases buffer write other inside)

  first : (other : Write) → Contains left other ⊎ (write ≡ other) → Contains (left ++ later) other
  first other (inl inside) = Contains-append_left left later other inside
  first other (inr same) =
      Contains-append_right left later other (subst (Contains later) same (Contains-push buffer write))

  by_to : (other : Write) → Contains sent other ⊎ Contains buffer other → Contains (left ++ later) other
  by_to other (inl inside) = first other (one.kept other inside)
  by_to other (inr inside) =
      Contains-append_right left later other (Contains-append_left buffer (write ∷ []) other inside)
