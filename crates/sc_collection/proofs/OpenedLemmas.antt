-- A desk for one thread over buckets and a board that were kept.
use Rattle.std.proofs.Common.{◌≡◌, ◌≤◌, ◌<◌, ℕ, zero, suc, cond, List, [], ◌∷◌, ◌++◌, length, drop, Option, Some, None, slice_get, get_or, refl, sym, ap, ◌∙◌, subst, arith}
use Rattle.std.specs.Prelude.{◌==◌, Bool, true, false, map, filter, not}
use Rattle.std.specs.List.{enumerate_from, range_with_len}
use Rattle.std.proofs.Math.Seq.{drop-length}
use Rattle.std.proofs.lemmas.List.{drop_all, length-map}
use Rattle.std.proofs.lemmas.List.Elements.{All-map}
use Rattle.std.proofs.lemmas.Option.{none-some, same_Some, slice_get-get_or}
use Rattle.sc_record.specs.declared.entry.Entry.{Entry}
use Rattle.sc_router.specs.Route.{IsBucketCount}
use Rattle.sc_cluster.specs.declared.slice.Slice.{Slice}
use Rattle.sc_ulog.specs.declared.mode.Mode.TheVariants.{Active}
use Rattle.sc_seen.specs.declared.board.BoardEntry.{BoardEntry}
use Rattle.sc_seen.specs.Board.{board_map}
use Rattle.sc_seen.specs.Rounds.{notes_rounds, is_of_rounds}
use Rattle.sc_seen.specs.Seen.{Opened}
use Rattle.sc_bucket.specs.declared.bucket.Bucket.{Bucket}
use Rattle.sc_keeper.specs.declared.part.CorePart.{CorePart}
use Rattle.sc_keeper.specs.Part.{part_of, part_of_core, part_of_feed, is_of_keeper, keeper_entries}
use Rattle.sc_board.specs.declared.board.Board.{Board}
use Rattle.sc_collection.specs.Desks.{IsAtRest}
use Rattle.sc_collection.specs.Opening.{entry_count, opened_with, opened_by}
use Rattle.sc_collection.specs.Alone.{AloneState, desk_of, layout_alone, out_alone, board_out_of, bucket_in, journal_in, part_of_slot, places, pass_places, seen_alone, IsKept, IsHome, IsDesk}
use Rattle.sc_collection.specs.Shapes.{SeesOpened}
use Rattle.sc_collection.specs.Opened.{layout_with, IsOpened, MayBeOpened, in_slots, desk_with}
use Rattle.sc_collection.specs.declared.shape.Shape.{Shape}

-- the slot of a number has the bucket of that number
slot_of : (buckets : List Bucket) (number : ℕ) (slot : Option Bucket) → slice_get (in_slots buckets) number ≡ Some slot
    → (bucket : Bucket) × (slot ≡ Some bucket) × (slice_get buckets number ≡ Some bucket)
slot_of [] number slot at = absurd (none-some slot at)
slot_of (bucket ∷ buckets) zero slot at = (bucket, sym (same_Some (Some bucket) slot at), refl)
slot_of (bucket ∷ buckets) (suc number) slot at = slot_of buckets number slot at

no_empty : (buckets : List Bucket) (number : ℕ) → slice_get (in_slots buckets) number ≡ Some None → ⊥
no_empty buckets number at = let slot = slot_of buckets number None at in absurd (none-some slot.0 slot.1)

bucket_there : (buckets : List Bucket) (number : ℕ) (bucket : Bucket) → slice_get (in_slots buckets) number ≡ Some (Some bucket)
    → slice_get buckets number ≡ Some bucket
bucket_there buckets number bucket at =
    let slot = slot_of buckets number (Some bucket) at in
    slot.2 ∙ ap (λ (one : Bucket). Some one) (sym (same_Some bucket slot.0 slot.1))

-- each journal has as many entries as were opened
counted : (buckets : List Bucket) (lock : ℕ)
    → length (journal_in (bucket_in None (slice_get (in_slots buckets) lock))) ≡ get_or (map entry_count buckets) lock 0
counted [] lock = refl
counted (bucket ∷ buckets) zero = refl
counted (bucket ∷ buckets) (suc lock) = counted buckets lock

-- and none after them
none_after : (buckets : List Bucket) (lock : ℕ)
    → drop (get_or (map entry_count buckets) lock 0) (journal_in (bucket_in None (slice_get (in_slots buckets) lock))) ≡ []
none_after buckets lock =
    let count = counted buckets lock in
    drop_all (get_or (map entry_count buckets) lock 0) (journal_in (bucket_in None (slice_get (in_slots buckets) lock))) (omega (arith, count))

-- what was opened, by a history that has the number of the board's entries and then those of the buckets
pub opened_is : (buckets : List Bucket) (entries : List BoardEntry)
    → opened_by ((tt, length entries) ∷ map (λ (bucket : Bucket). (tt, entry_count bucket)) buckets) ≡ opened_with buckets entries
opened_is buckets entries = ap (λ (journals : List ℕ). record { journals = journals; board = length entries }) (by buckets) where
  by : (some : List Bucket) → map (λ (one : Unit {0} × ℕ). one.1) (map (λ (bucket : Bucket). (tt, entry_count bucket)) some) ≡ map entry_count some
  by [] = refl
  by (bucket ∷ some) = ap (λ (counts : List ℕ). entry_count bucket ∷ counts) (by some)

module _ (shape : Shape) (buckets : List Bucket) (board : Board (Unit {0})) (may : MayBeOpened shape buckets board) where
  kept : (number : ℕ) (bucket : Bucket) → slice_get (in_slots buckets) number ≡ Some (Some bucket)
      → IsKept (layout_with shape buckets board) number bucket
  kept number bucket at =
      let is = may.each number bucket (bucket_there buckets number bucket at) in
      let count = counted buckets number in
      let there = ap (λ (slot : Option (Option Bucket)). length (journal_in (bucket_in None slot))) at in
      record { sound = is.sound; is_of = is.is_of; since = omega (arith, count, there) }

  -- each bucket is as the board says
  at_rest : (number : ℕ) → number < shape.buckets
      → IsAtRest (length board.journal.entries) board.journal.entries (board_map board.first board.journal.entries)
      (part_of_slot (bucket_in None (slice_get (in_slots buckets) number)))
      (keeper_entries (drop (get_or (map entry_count buckets) number 0) (journal_in (bucket_in None (slice_get (in_slots buckets) number)))))
  at_rest number inside = by (slice_get (in_slots buckets) number) refl (none_after buckets number) where
    by : (slot : Option (Option Bucket)) → slice_get (in_slots buckets) number ≡ slot
        → drop (get_or (map entry_count buckets) number 0) (journal_in (bucket_in None slot)) ≡ []
        → IsAtRest (length board.journal.entries) board.journal.entries (board_map board.first board.journal.entries)
        (part_of_slot (bucket_in None slot)) (keeper_entries (drop (get_or (map entry_count buckets) number 0) (journal_in (bucket_in None slot))))
    by None at none =
        let count = length-map buckets (λ (bucket : Bucket). Some bucket) in
        let all = may.count in
        let within : number < length (in_slots buckets) = omega (arith, inside, count, all) in
        absurd (none-some (get_or (in_slots buckets) number None) (sym at ∙ slice_get-get_or (in_slots buckets) number None within))
    by (Some None) at none = absurd (no_empty buckets number at)
    by (Some (Some bucket)) at none =
        let is = may.each number bucket (bucket_there buckets number bucket at) in
        record {
          map_is = is.map_is ∙ may.sound.map_is;
          idle = is.idle;
          active = All-map (λ (core : CorePart). core.mode ≡ Active) part_of_core bucket.replicas is.active;
          unfed = ap (map part_of_feed) is.unfed;
          since = omega arith;
          together = (
            [],
            ap (filter notes_rounds) (drop-length board.journal.entries),
            ap (λ (own : List Entry). filter is_of_rounds (keeper_entries own)) none,
          );
        }

  -- the desk over them is one
  pub opened_is_desk : IsBucketCount shape.buckets → 1 ≤ shape.nodes → IsDesk (desk_with shape buckets board)
  opened_is_desk power from = record {
    count = sym may.count ∙ sym (length-map buckets (λ (bucket : Bucket). Some bucket));
    buckets = power;
    nodes = from;
    kept = kept;
    empty = λ number at. absurd (no_empty buckets number at);
    is_out = λ held there. absurd (cc);
    home = λ one at. subst (IsHome (desk_with shape buckets board)) (same at) (record {
      sound = may.sound;
      is_of = record { first_is = refl; limit_is = may.limit };
      since = omega arith;
      rest = λ has number inside. at_rest number inside;
      none_out = refl;
    });
    away = λ none. absurd (cc);
  } where
    same : {one : Board (Unit {0})} → Some board ≡ Some one → board ≡ one
    same at = cc

  -- what is seen of it is what was opened
  pub opened_sees : SeesOpened (opened_with buckets board.journal.entries) (seen_alone (desk_with shape buckets board))
  opened_sees = record {
    journals = λ lock. counted buckets lock;
    board = refl;
    own = λ lock. own lock (lock == shape.buckets);
  } where
    from : ℕ → ℕ
    from lock = get_or (map entry_count buckets) lock 0

    own : (lock : ℕ) (b : Bool) → cond b (places (length board.journal.entries) board.journal.entries)
        (pass_places (get_or (map entry_count buckets) lock 0) (journal_in (bucket_in None (slice_get (in_slots buckets) lock)))) ≡ []
    own lock true =
        ap (λ (rest : List BoardEntry). range_with_len (length board.journal.entries) (length rest)) (drop-length board.journal.entries)
    own lock false =
        ap (λ (rest : List Entry). map (λ (one : ℕ × Entry). one.0) (filter (λ (one : ℕ × Entry). not (is_of_keeper one.1)) (enumerate_from (from lock) rest)))
        (none_after buckets lock)

-- a desk of these parts is the one over them
pub opened_by_fields : (shape : Shape) (buckets : List Bucket) (board : Board (Unit {0})) (slots : List (Option Bucket))
    (first : List Slice) (opened : Opened) (items : List ((ℕ × Bool) × Bucket)) (boards : List (Unit {0} × Board (Unit {0})))
    → MayBeOpened shape buckets board → slots ≡ in_slots buckets → first ≡ board.first
    → opened ≡ opened_with buckets board.journal.entries → items ≡ [] → boards ≡ []
    → desk_of (layout_alone slots shape.nodes first shape.log_limit opened) slots (out_alone items) (Some board) (board_out_of boards)
    ≡ desk_with shape buckets board
opened_by_fields shape buckets board slots first opened items boards may slots_are first_is opened_are none none_of =
    ap (λ s. by s first opened items boards) slots_are ∙ ap (λ f. by (in_slots buckets) f opened items boards) first_is
    ∙ ap (λ o. by (in_slots buckets) board.first o items boards) opened_are
    ∙ ap (λ i. by (in_slots buckets) board.first (opened_with buckets board.journal.entries) i boards) none
    ∙ ap (λ b. by (in_slots buckets) board.first (opened_with buckets board.journal.entries) [] b) none_of
    ∙ ap of (length-map buckets (λ (bucket : Bucket). Some bucket) ∙ may.count)
  where
    by : List (Option Bucket) → List Slice → Opened → List ((ℕ × Bool) × Bucket) → List (Unit {0} × Board (Unit {0})) → AloneState
    by s f o i b = desk_of (layout_alone s shape.nodes f shape.log_limit o) s (out_alone i) (Some board) (board_out_of b)

    of : ℕ → AloneState
    of count = desk_of (record (layout_with shape buckets board) { buckets = count }) (in_slots buckets) None (Some board) None
