-- What a hold of a bucket leaves of a desk for one thread.
use Rattle.std.proofs.Common.{◌≡◌, ◌≢◌, ◌⊎◌, inl, inr, ◌<◌, ℕ, Bool, List, [], ◌∷◌, length, drop, get_or, set, Option, Some, None, slice_get, refl, sym, ap, ◌∙◌, subst}
use Rattle.std.proofs.Math.Path.{fun_ext}
use Rattle.std.specs.Prelude.{◌==◌, if◌then◌else◌, IsSome}
use Rattle.std.proofs.lemmas.List.{length-set, append-nil}
use Rattle.std.proofs.lemmas.Option.{slice_get_read, slice_get_within}
use mathlib.Core.List.{IsPrefix}
use Rattle.sc_seen.specs.Seen.{opened_at, Layout, Seen, AreLegal}
use Rattle.sc_bucket.specs.declared.bucket.Bucket.{Bucket}
use Rattle.sc_keeper.specs.Part.{part_of, keeper_entries}
use Rattle.sc_board.specs.declared.board.Board.{Board}
use Rattle.sc_collection.specs.Desks.{Held, KeepsOn, StillFit}
use Rattle.sc_collection.specs.Alone.{AloneState, desk_of, layout_alone, out_alone, board_out_of, bucket_in, bucket_at, journal_in, journal_of, part_of_slot, entries_alone, places, pass_places, seen_alone, keeping_alone, KeepersAreOut, IsKept, IsOut, IsHome, IsDesk, handed_out}
use Rattle.sc_collection.specs.declared.alone.Alone.TheInside.{Inside}
use Rattle.sc_collection.proofs.SlotLemmas.{slice_get-set_same, slice_get-set_other}
use Rattle.sc_collection.proofs.DeskLemmas.{same_or_other, desk_is_legal, AreAtRest-kept}

-- a bucket is handed out of its slot, where none is out
module _ (desk : AloneState) (is : IsDesk desk) (held : Held)
    (none : desk.out ≡ None) (at : slice_get desk.slots held.number ≡ Some (Some held.bucket)) where
  slot : slice_get (set desk.slots held.number None) held.number ≡ Some None
  slot = slice_get-set_same desk.slots held.number None (slice_get_within desk.slots held.number (Some held.bucket) at)

  other_slot : (lock : ℕ) → lock ≢ held.number → slice_get (set desk.slots held.number None) lock ≡ slice_get desk.slots lock
  other_slot lock other = slice_get-set_other desk.slots held.number lock None other

  -- it is sound, and the one of this held.number
  pub held_is_kept : IsKept desk.layout held.number held.bucket
  held_is_kept = is.kept held.number held.bucket at

  -- it was there
  pub held_was_at : bucket_at desk held.number ≡ Some held.bucket
  held_was_at = ap (bucket_in desk.out) at

  -- all buckets are as they were
  handed_out_at : (lock : ℕ) → bucket_at (handed_out desk held) lock ≡ bucket_at desk lock
  handed_out_at lock = by (same_or_other lock held.number) where
    out : (one : Option (Option Bucket)) → slice_get desk.slots lock ≡ one → bucket_in (Some held) one ≡ bucket_in desk.out one
    out None there = refl
    out (Some (Some kept)) there = refl
    out (Some None) there =
        let both : None ≡ Some (is.empty lock there).0 = sym none ∙ (is.empty lock there).1 in absurd (cc)

    by : (lock ≡ held.number) ⊎ (lock ≢ held.number) → bucket_at (handed_out desk held) lock ≡ bucket_at desk lock
    by (inl same) =
        ap (bucket_at (handed_out desk held)) same ∙ ap (bucket_in (Some held)) slot ∙ sym held_was_at ∙ ap (bucket_at desk) (sym same)
    by (inr other) = ap (bucket_in (Some held)) (other_slot lock other) ∙ out (slice_get desk.slots lock) refl

  pub handed_out_keeps : KeepsOn (keeping_alone desk) (keeping_alone (handed_out desk held))
  handed_out_keeps = record {
    part = λ lock. ap part_of_slot (handed_out_at lock);
    own = λ lock. ap (λ (one : Option Bucket). keeper_entries (drop (opened_at desk.layout.opened lock) (journal_in one))) (handed_out_at lock);
  }

  pub handed_out_seen : seen_alone (handed_out desk held) ≡ seen_alone desk
  handed_out_seen = ap seen_by (fun_ext handed_out_at) where
    seen_by : (ℕ → Option Bucket) → Seen
    seen_by buckets = record {
      journals = λ lock. journal_in (buckets lock);
      board = entries_alone desk;
      own = λ lock. if lock == desk.layout.buckets then places desk.layout.opened.board (entries_alone desk)
          else pass_places (opened_at desk.layout.opened lock) (journal_in (buckets lock));
    }

  pub handed_out_is_desk : IsDesk (handed_out desk held)
  handed_out_is_desk = record {
    count = is.count ∙ sym (length-set desk.slots held.number None);
    buckets = is.buckets;
    nodes = is.nodes;
    kept = λ lock one there. kept lock one there (same_or_other lock held.number);
    empty = λ lock there. empty lock there (same_or_other lock held.number);
    is_out = λ one there. subst (IsOut (handed_out desk held)) (some_same there) out;
    home = λ board there. home board (is.home board there);
    away = is.away;
  } where
    some_same : {one : Held} → Some held ≡ Some one → held ≡ one
    some_same there = cc

    out : IsOut (handed_out desk held) held
    out = record { slot = slot; kept = held_is_kept }

    kept : (lock : ℕ) (one : Bucket) → slice_get (set desk.slots held.number None) lock ≡ Some (Some one)
        → (lock ≡ held.number) ⊎ (lock ≢ held.number) → IsKept desk.layout lock one
    kept lock one there (inl same) =
        let none_there : Some None ≡ Some (Some one) =
        sym slot ∙ ap (slice_get (set desk.slots held.number None)) (sym same) ∙ there in
        absurd (cc)
    kept lock one there (inr other) = is.kept lock one (sym (other_slot lock other) ∙ there)

    empty : (lock : ℕ) → slice_get (set desk.slots held.number None) lock ≡ Some None
        → (lock ≡ held.number) ⊎ (lock ≢ held.number) → (one : Held) × (Some held ≡ Some one) × (one.number ≡ lock)
    empty lock there (inl same) = (held, refl, sym same)
    empty lock there (inr other) =
        let was = is.empty lock (sym (other_slot lock other) ∙ there) in
        let both : None ≡ Some was.0 = sym none ∙ was.1 in
        absurd (cc)

    home : (board : Board (Unit {0})) → IsHome desk board → IsHome (handed_out desk held) board
    home board was = record {
      sound = was.sound;
      is_of = was.is_of;
      since = was.since;
      rest = λ there. AreAtRest-kept desk.layout board.journal.entries (keeping_alone desk) (keeping_alone (handed_out desk held))
          handed_out_keeps (was.rest there);
      none_out = was.none_out;
    }

-- the value of a desk's fields
abbrev pub value_of : Inside → AloneState
value_of fields = desk_of (layout_alone fields.slots.items fields.nodes fields.first fields.limit fields.opened) fields.slots.items
    (out_alone fields.out.items) fields.board (board_out_of fields.board_out.items)

-- where nothing is out, each slot has its bucket
pub slot_is_full : (fields : Inside) (desk : AloneState) (number : ℕ) (read : Option Bucket)
    → value_of fields ≡ desk → IsDesk (value_of fields) → desk.out ≡ None → number < desk.layout.buckets
    → read ≡ get_or fields.slots.items number read → IsSome read
slot_is_full fields desk number read view is none within at = by read refl where
  slots : List (Option Bucket)
  slots = fields.slots.items

  inside : number < length slots
  inside = subst (λ (n : ℕ). number < n) (sym (ap (λ (d : AloneState). d.layout.buckets) view)) within

  there : slice_get slots number ≡ Some read
  there = slice_get_read slots (length slots) number read refl inside at

  none_out : (value_of fields).out ≡ None
  none_out = ap (λ (d : AloneState). d.out) view ∙ none

  by : (one : Option Bucket) → read ≡ one → IsSome one
  by (Some bucket) same = refl
  by None same =
      let was = is.empty number (there ∙ ap (λ (one : Option Bucket). Some one) same) in
      let both : None ≡ Some was.0 = sym none_out ∙ was.1 in
      absurd (cc)

-- what taking a bucket out leaves
pub record IsTaken (desk new : AloneState) (held : Held) : Type 0 where
  pub is : IsDesk desk
  pub there : slice_get desk.slots held.number ≡ Some (Some held.bucket)
  pub after : new ≡ handed_out desk held
  pub is_new : IsDesk new

-- a bucket is taken out by the fields of the desk: what was read at the place is taken, and nothing is left there
pub taken_of_fields : (fields : Inside) (more : List ((ℕ × Bool) × Bucket)) (desk : AloneState) (held : Held)
    (read taken slot : Option Bucket)
    → value_of fields ≡ desk → IsDesk (value_of fields) → desk.out ≡ None → held.number < desk.layout.buckets
    → read ≡ get_or fields.slots.items held.number read → taken ≡ read → taken ≡ Some held.bucket → slot ≡ None
    → more ≡ ((held.number, held.by_keeper), held.bucket) ∷ []
    → IsTaken desk (desk_of (layout_alone (set fields.slots.items held.number slot) fields.nodes fields.first fields.limit fields.opened)
    (set fields.slots.items held.number slot) (out_alone more) fields.board (board_out_of fields.board_out.items)) held
taken_of_fields fields more desk held read taken slot view is none within at same some empty history = record {
  is = is_desk;
  there = there;
  after = by_fields;
  is_new = subst IsDesk (sym by_fields) (handed_out_is_desk desk is_desk held none there);
} where
  slots : List (Option Bucket)
  slots = fields.slots.items

  with_layout : Layout → List (Option Bucket) → List ((ℕ × Bool) × Bucket) → AloneState
  with_layout layout now items = desk_of layout now (out_alone items) fields.board (board_out_of fields.board_out.items)

  after : List (Option Bucket) → List ((ℕ × Bool) × Bucket) → AloneState
  after now items = with_layout (layout_alone now fields.nodes fields.first fields.limit fields.opened) now items

  is_desk : IsDesk desk
  is_desk = subst IsDesk view is

  inside : held.number < length slots
  inside = subst (λ (n : ℕ). held.number < n) (sym (ap (λ (d : AloneState). d.layout.buckets) view)) within

  there : slice_get desk.slots held.number ≡ Some (Some held.bucket)
  there =
      ap (λ (d : AloneState). slice_get d.slots held.number) (sym view)
      ∙ slice_get_read slots (length slots) held.number read refl inside at
      ∙ ap (λ (one : Option Bucket). Some one) (sym same ∙ some)

  by_fields : after (set slots held.number slot) more ≡ handed_out desk held
  by_fields =
      ap (λ (one : Option Bucket). after (set slots held.number one) more) empty ∙ ap (after (set slots held.number None)) history
      ∙ ap (λ (n : ℕ). with_layout
      (record { buckets = n; nodes = fields.nodes; first = fields.first; limit = fields.limit; opened = fields.opened })
      (set slots held.number None) (((held.number, held.by_keeper), held.bucket) ∷ [])) (length-set slots held.number None)
      ∙ ap (λ (old : AloneState). handed_out old held) view

-- what a hold leaves
pub record IsHold (desk new : AloneState) (held : Held) : Type 0 where
  pub kept : IsKept desk.layout held.number held.bucket
  pub extends : IsPrefix (journal_of desk held.number) held.bucket.journal.entries
  pub part : part_of held.bucket ≡ (keeping_alone desk).part held.number
  pub out : new.out ≡ Some held
  pub board_out : new.board_out ≡ desk.board_out
  pub seen : seen_alone new ≡ seen_alone desk
  pub legal : AreLegal new.layout (seen_alone new)
  pub layout : new.layout ≡ desk.layout
  pub keepers : KeepersAreOut desk → StillFit (KeepersAreOut new) (keeping_alone desk) (keeping_alone new)

-- a bucket that was taken out is held
pub taken_is_hold : (desk new : AloneState) (held : Held) → IsDesk desk → desk.out ≡ None
    → slice_get desk.slots held.number ≡ Some (Some held.bucket) → new ≡ handed_out desk held → IsHold desk new held
taken_is_hold desk new held is none there after = subst (λ (one : AloneState). IsHold desk one held) (sym after) (record {
  kept = held_is_kept desk is held none there;
  extends = ([], append-nil (journal_of desk held.number) ∙ ap journal_in (held_was_at desk is held none there));
  part = ap part_of_slot (sym (held_was_at desk is held none there));
  out = refl;
  board_out = refl;
  seen = handed_out_seen desk is held none there;
  legal = desk_is_legal (handed_out desk held) (handed_out_is_desk desk is held none there);
  layout = refl;
  keepers = λ out. (out, handed_out_keeps desk is held none there);
})
