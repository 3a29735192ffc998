-- A new desk for one thread.
use Rattle.std.proofs.Common.{◌≡◌, ◌≤◌, ◌<◌, ℕ, cond, List, [], length, drop, Option, Some, None, slice_get, get_or, refl, sym, ap, ◌∙◌, subst, arith}
use Rattle.std.specs.Prelude.{◌==◌, Bool, true, false, map, filter}
use Rattle.std.specs.List.{AllByRecursion}
use Rattle.std.proofs.lemmas.List.Elements.{All-map, All-weaker}
use Rattle.std.proofs.lemmas.Option.{slice_get-get_or}
use Rattle.sc_record.specs.declared.entry.Entry.{Entry}
use Rattle.sc_record.specs.Writes.{Write}
use Rattle.sc_router.specs.Route.{IsBucketCount, bucket_of}
use Rattle.sc_cluster.specs.declared.slice.Slice.{Slice}
use Rattle.sc_ulog.specs.declared.mode.Mode.TheVariants.{Active}
use Rattle.sc_replica.specs.Core.{Core}
use Rattle.sc_journal.specs.Journal.{writes}
use Rattle.sc_seen.specs.declared.board.BoardEntry.{BoardEntry}
use Rattle.sc_seen.specs.Board.{board_map}
use Rattle.sc_seen.specs.Rounds.{is_of_rounds}
use Rattle.sc_seen.specs.Seen.{Opened, nothing_opened}
use Rattle.sc_bucket.specs.declared.bucket.Bucket.{Bucket}
use Rattle.sc_replicas.specs.Cores.{IsNewCore}
use Rattle.sc_keeper.specs.declared.part.CorePart.{CorePart}
use Rattle.sc_keeper.specs.Part.{part_of, part_of_core, part_of_feed, keeper_entries}
use Rattle.sc_board.specs.declared.board.Board.{Board}
use Rattle.sc_board.specs.Boards.{IsSoundBoard}
use Rattle.sc_collection.specs.Desks.{IsAtRest}
use Rattle.sc_collection.specs.Alone.{AloneState, desk_of, layout_alone, out_alone, board_out_of, bucket_in, journal_in, part_of_slot, places, pass_places, seen_alone, IsKept, IsHome, IsDesk, IsNewSlot, AreNewSlots}
use Rattle.sc_collection.specs.Shapes.{SeesOpened}

-- a bucket on which nothing happened is at rest where the board has no entry
pub new_at_rest : (first : List Slice) (limit : ℕ) (bucket : Bucket) → IsNewSlot first limit (Some bucket)
    → IsAtRest 0 [] first (part_of bucket) (keeper_entries (drop 0 bucket.journal.entries))
new_at_rest first limit bucket slot = subst (λ (one : Bucket). IsAtRest 0 [] first (part_of one) (keeper_entries (drop 0 one.journal.entries))) same (record {
  map_is = slot.map_is;
  idle = slot.idle;
  active = All-map (λ (core : CorePart). core.mode ≡ Active) part_of_core slot.bucket.replicas
      (All-weaker IsNewCore (λ (core : Core). core.mode ≡ Active) (λ core new. new.active) slot.bucket.replicas slot.cores);
  unfed = ap (map part_of_feed) slot.unfed;
  since = omega arith;
  together = ([], refl, ap (λ (journal : List Entry). filter is_of_rounds (keeper_entries (drop 0 journal))) slot.empty);
}) where
  same : slot.bucket ≡ bucket
  same = let both : Some bucket ≡ Some slot.bucket = slot.there in cc

-- a board on which nothing happened
pub record IsNewBoard (first : List Slice) (limit : ℕ) (board : Board (Unit {0})) : Type 0 where
  pub sound : IsSoundBoard board
  pub first_is : board.first ≡ first
  pub limit_is : board.limit ≡ limit
  pub empty : board.journal.entries ≡ []

module _ (slots : List (Option Bucket)) (nodes : ℕ) (first : List Slice) (limit : ℕ) (board : Board (Unit {0}))
    (new : AreNewSlots first limit slots) where
  no_empty : (number : ℕ) → slice_get slots number ≡ Some None → ⊥
  no_empty number at =
      let slot = new number None at in
      let none : None ≡ Some slot.bucket = slot.there in
      absurd (cc)

  kept : (number : ℕ) (bucket : Bucket) → slice_get slots number ≡ Some (Some bucket) → IsKept (layout_alone slots nodes first limit nothing_opened) number bucket
  kept number bucket at =
      let slot = new number (Some bucket) at in
      let both : Some bucket ≡ Some slot.bucket = slot.there in
      let same : slot.bucket ≡ bucket = cc in
      subst (IsKept (layout_alone slots nodes first limit nothing_opened) number) same (record {
        sound = slot.sound;
        is_of = record { first = slot.begins; limit = slot.limited; ids = subst (AreOf number) (sym slot.empty) tt };
        since = omega arith;
      })
    where
      AreOf : ℕ → List Entry → Type 0
      AreOf n journal = AllByRecursion (λ (write : Write). bucket_of write.id (length slots) ≡ n) (writes journal)

  -- its buckets are at rest
  at_rest : (number : ℕ) → number < length slots
      → IsAtRest 0 [] first (part_of_slot (bucket_in None (slice_get slots number)))
      (keeper_entries (drop 0 (journal_in (bucket_in None (slice_get slots number)))))
  at_rest number inside = by (slice_get slots number) refl where
    by : (slot : Option (Option Bucket)) → slice_get slots number ≡ slot
        → IsAtRest 0 [] first (part_of_slot (bucket_in None slot)) (keeper_entries (drop 0 (journal_in (bucket_in None slot))))
    by None at = absurd (let both : None ≡ Some (get_or slots number None) = sym at ∙ slice_get-get_or slots number None inside in cc)
    by (Some None) at = absurd (no_empty number at)
    by (Some (Some bucket)) at = new_at_rest first limit bucket (new number (Some bucket) at)

  -- a desk where each slot has a new bucket, and the board is new: nothing is out
  pub new_is_desk : IsBucketCount (length slots) → 1 ≤ nodes → IsNewBoard first limit board
      → IsDesk (desk_of (layout_alone slots nodes first limit nothing_opened) slots None (Some board) None)
  new_is_desk buckets from is = record {
    count = refl;
    buckets = buckets;
    nodes = from;
    kept = kept;
    empty = λ number at. absurd (no_empty number at);
    is_out = λ held there. absurd (cc);
    home = λ one at. subst (IsHome (desk_of (layout_alone slots nodes first limit nothing_opened) slots None (Some board) None)) (same at) (record {
      sound = is.sound;
      is_of = record { first_is = is.first_is; limit_is = is.limit_is };
      since = omega arith;
      rest = λ has number inside. subst (λ (entries : List BoardEntry). IsAtRest 0 entries (board_map first entries)
          (part_of_slot (bucket_in None (slice_get slots number))) (keeper_entries (drop 0 (journal_in (bucket_in None (slice_get slots number))))))
          (sym is.empty) (at_rest number inside);
      none_out = refl;
    });
    away = λ none. absurd (cc);
  } where
    same : {one : Board (Unit {0})} → Some board ≡ Some one → board ≡ one
    same at = cc

  -- and nothing is seen of it
  pub new_sees : board.journal.entries ≡ []
      → SeesOpened nothing_opened (seen_alone (desk_of (layout_alone slots nodes first limit nothing_opened) slots None (Some board) None))
  new_sees none = record {
    journals = λ lock. ap length (empty lock);
    board = ap length none;
    own = λ lock. own lock (lock == length slots);
  } where
    empty : (lock : ℕ) → journal_in (bucket_in None (slice_get slots lock)) ≡ []
    empty lock = by (slice_get slots lock) refl where
      by : (one : Option (Option Bucket)) → slice_get slots lock ≡ one → journal_in (bucket_in None one) ≡ []
      by None at = refl
      by (Some slot) at =
          let is = new lock slot at in
          ap (λ (one : Option Bucket). journal_in (bucket_in None (Some one))) is.there ∙ is.empty

    own : (lock : ℕ) (b : Bool) → cond b (places 0 board.journal.entries) (pass_places 0 (journal_in (bucket_in None (slice_get slots lock)))) ≡ []
    own lock true = ap (places 0) none
    own lock false = ap (pass_places 0) (empty lock)

-- what a new desk is
pub record IsNewDesk (desk : AloneState) : Type 0 where
  pub is : IsDesk desk
  pub opened : desk.layout.opened ≡ nothing_opened
  pub sees : SeesOpened desk.layout.opened (seen_alone desk)

-- a new desk, by its fields
pub new_by_fields : (slots : List (Option Bucket)) (nodes : ℕ) (first : List Slice) (limit : ℕ) (opened : Opened) (board : Board (Unit {0}))
    (items : List ((ℕ × Bool) × Bucket)) (boards : List (Unit {0} × Board (Unit {0})))
    → AreNewSlots first limit slots → IsBucketCount (length slots) → 1 ≤ nodes → IsNewBoard first limit board
    → opened ≡ nothing_opened → items ≡ [] → boards ≡ []
    → IsNewDesk (desk_of (layout_alone slots nodes first limit opened) slots (out_alone items) (Some board) (board_out_of boards))
new_by_fields slots nodes first limit opened board items boards new buckets from is none history of_board =
    subst IsNewDesk (ap (λ one. by one [] []) (sym none) ∙ ap (λ one. by opened one []) (sym history) ∙ ap (by opened items) (sym of_board)) (record {
      is = new_is_desk slots nodes first limit board new buckets from is;
      opened = refl;
      sees = new_sees slots nodes first limit board new is.empty;
    })
  where
    by : Opened → List ((ℕ × Bool) × Bucket) → List (Unit {0} × Board (Unit {0})) → AloneState
    by found now of = desk_of (layout_alone slots nodes first limit found) slots (out_alone now) (Some board) (board_out_of of)
