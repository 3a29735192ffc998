-- What a give of a bucket leaves of a desk for one thread.
use Rattle.std.proofs.Common.{◌≡◌, ◌≢◌, ◌⊎◌, inl, inr, ◌≤◌, ◌<◌, ℕ, Bool, true, false, cond, List, [], ◌++◌, length, drop, get_or, set, Option, Some, None, slice_get, refl, sym, ap, ◌∙◌, subst}
use Rattle.std.specs.Prelude.{◌==◌}
use Rattle.std.proofs.lemmas.List.{length-set}
use Rattle.std.proofs.lemmas.Option.{slice_get_read, slice_get_within}
use Rattle.sc_record.specs.declared.entry.Entry.{Entry}
use Rattle.sc_seen.specs.Seen.{opened_at, Layout, AreLegal}
use Rattle.sc_bucket.specs.declared.bucket.Bucket.{Bucket}
use Rattle.sc_keeper.specs.Part.{keeper_entries}
use Rattle.sc_keeper.proofs.PassLemmas.{part-step, step_adds_no_keeper_entry, keeper_adds_no_pass_entry}
use Rattle.sc_board.specs.declared.board.Board.{Board}
use Rattle.sc_collection.specs.Desks.{Held, KeepsOn, StillFit, KeepsGiven, MayReplace, KeeperMayReplace, SeesGiven, SeesKeeperGiven, AreAtRest, place_added}
use Rattle.sc_collection.specs.Alone.{AloneState, desk_of, layout_alone, out_alone, board_out_of, bucket_in, bucket_at, journal_in, journal_of, part_of_slot, entries_alone, places, pass_places, seen_alone, keeping_alone, KeepersAreOut, IsKept, IsHome, IsDesk, KeepsPart, MayStand, taken_back}
use Rattle.sc_collection.specs.declared.alone.Alone.TheInside.{Inside}
use Rattle.sc_collection.proofs.PlaceLemmas.{step_places, keeper_places, keeper_adds_own, step_keeps_own, adds_longer}
use Rattle.sc_collection.proofs.SlotLemmas.{slice_get-set_same, slice_get-set_other}
use Rattle.sc_collection.proofs.DeskLemmas.{same_or_other, desk_is_legal, own_of_bucket, AreAtRest-kept, out_is_at, out_within}
use Rattle.sc_collection.proofs.HoldLemmas.{value_of}

-- a bucket is taken back in the place of the one that is out
module _ (desk : AloneState) (is : IsDesk desk) (held : Held) (bucket : Bucket) (there : desk.out ≡ Some held) where
  back_slot : slice_get (set desk.slots held.number (Some bucket)) held.number ≡ Some (Some bucket)
  back_slot =
      slice_get-set_same desk.slots held.number (Some bucket)
      (slice_get_within desk.slots held.number None (is.is_out held there).slot)

  back_other : (lock : ℕ) → lock ≢ held.number
      → slice_get (set desk.slots held.number (Some bucket)) lock ≡ slice_get desk.slots lock
  back_other lock other = slice_get-set_other desk.slots held.number lock (Some bucket) other

  -- no other slot is empty
  no_other : (lock : ℕ) → lock ≢ held.number → slice_get desk.slots lock ≡ Some None → ⊥
  no_other lock other empty =
      let was = is.empty lock empty in
      let both : Some was.0 ≡ Some held = sym was.1 ∙ there in
      let same : was.0 ≡ held = cc in
      other (sym was.2 ∙ ap (λ (h : Held). h.number) same)

  was_at : bucket_at desk held.number ≡ Some held.bucket
  was_at = out_is_at desk is held there

  back_at : bucket_at (taken_back desk held.number bucket) held.number ≡ Some bucket
  back_at = ap (bucket_in None) back_slot

  -- the others are as they were
  back_at_other : (lock : ℕ) → lock ≢ held.number → bucket_at (taken_back desk held.number bucket) lock ≡ bucket_at desk lock
  back_at_other lock other = ap (bucket_in None) (back_other lock other) ∙ by (slice_get desk.slots lock) refl where
    by : (one : Option (Option Bucket)) → slice_get desk.slots lock ≡ one → bucket_in None one ≡ bucket_in desk.out one
    by None at = refl
    by (Some (Some kept)) at = refl
    by (Some None) at = absurd (no_other lock other at)

  journal_back : journal_of (taken_back desk held.number bucket) held.number ≡ bucket.journal.entries
  journal_back = ap journal_in back_at

  journal_was : journal_of desk held.number ≡ held.bucket.journal.entries
  journal_was = ap journal_in was_at

  journal_other : (lock : ℕ) → lock ≢ held.number → journal_of (taken_back desk held.number bucket) lock ≡ journal_of desk lock
  journal_other lock other = ap journal_in (back_at_other lock other)

  abbrev from : ℕ
  from = opened_at desk.layout.opened held.number

  since : from ≤ length held.bucket.journal.entries
  since = (is.is_out held there).kept.since

  below : held.number < desk.layout.buckets
  below = out_within desk is held there

  own_other : (lock : ℕ) → lock ≢ held.number → (seen_alone (taken_back desk held.number bucket)).own lock ≡ (seen_alone desk).own lock
  own_other lock other =
      ap (λ (journal : List Entry). cond (lock == desk.layout.buckets) (places desk.layout.opened.board (entries_alone desk))
      (pass_places (opened_at desk.layout.opened lock) journal)) (journal_other lock other)

  own_back : (seen_alone (taken_back desk held.number bucket)).own held.number ≡ pass_places from bucket.journal.entries
  own_back = own_of_bucket (taken_back desk held.number bucket) held.number below ∙ ap (pass_places from) journal_back

  own_was : (seen_alone desk).own held.number ≡ pass_places from held.bucket.journal.entries
  own_was = own_of_bucket desk held.number below ∙ ap (pass_places from) journal_was

  pub taken_back_sees : MayReplace desk.layout held bucket
      → SeesGiven held bucket (seen_alone desk) (seen_alone (taken_back desk held.number bucket))
  taken_back_sees may = record {
    journal = journal_back;
    others = journal_other;
    board = refl;
    own =
        own_back
        ∙ step_places from held.bucket.journal.entries bucket.journal.entries since (step_adds_no_keeper_entry held.bucket bucket may.step)
        ∙ ap (λ (before : List ℕ). before ++ place_added held.bucket.journal.entries bucket.journal.entries) (sym own_was);
    others_own = own_other;
  }

  pub taken_back_sees_keeper : KeeperMayReplace desk.layout held bucket
      → SeesKeeperGiven held bucket (seen_alone desk) (seen_alone (taken_back desk held.number bucket))
  taken_back_sees_keeper may = record {
    journal = journal_back;
    others = journal_other;
    board = refl;
    own = λ lock. own lock (same_or_other lock held.number);
  } where
    own : (lock : ℕ) → (lock ≡ held.number) ⊎ (lock ≢ held.number)
        → (seen_alone (taken_back desk held.number bucket)).own lock ≡ (seen_alone desk).own lock
    own lock (inl same) =
        subst (λ (n : ℕ). (seen_alone (taken_back desk held.number bucket)).own n ≡ (seen_alone desk).own n) (sym same)
        (own_back
        ∙ keeper_places from held.bucket.journal.entries bucket.journal.entries since
        (keeper_adds_no_pass_entry held.bucket bucket may.event)
        ∙ sym own_was)
    own lock (inr other) = own_other lock other

  -- where what its keeper keeps is as it was, so is all that keepers keep
  pub taken_back_keeps : KeepsPart from held.bucket bucket → KeepsOn (keeping_alone desk) (keeping_alone (taken_back desk held.number bucket))
  taken_back_keeps same = record { part = λ lock. part lock (same_or_other lock held.number); own = λ lock. own lock (same_or_other lock held.number) } where
    part_at : part_of_slot (bucket_at (taken_back desk held.number bucket) held.number) ≡ part_of_slot (bucket_at desk held.number)
    part_at = ap part_of_slot back_at ∙ same.part ∙ ap part_of_slot (sym was_at)

    own_at : keeper_entries (drop from (journal_of (taken_back desk held.number bucket) held.number))
        ≡ keeper_entries (drop from (journal_of desk held.number))
    own_at = ap (λ (journal : List Entry). keeper_entries (drop from journal)) journal_back ∙ same.own
        ∙ ap (λ (journal : List Entry). keeper_entries (drop from journal)) (sym journal_was)

    part : (lock : ℕ) → (lock ≡ held.number) ⊎ (lock ≢ held.number)
        → part_of_slot (bucket_at (taken_back desk held.number bucket) lock) ≡ part_of_slot (bucket_at desk lock)
    part lock (inl is_it) =
        subst (λ (n : ℕ). part_of_slot (bucket_at (taken_back desk held.number bucket) n) ≡ part_of_slot (bucket_at desk n)) (sym is_it) part_at
    part lock (inr other) = ap part_of_slot (back_at_other lock other)

    own : (lock : ℕ) → (lock ≡ held.number) ⊎ (lock ≢ held.number)
        → (keeping_alone (taken_back desk held.number bucket)).own lock ≡ (keeping_alone desk).own lock
    own lock (inl is_it) =
        subst (λ (n : ℕ). (keeping_alone (taken_back desk held.number bucket)).own n ≡ (keeping_alone desk).own n) (sym is_it) own_at
    own lock (inr other) =
        ap (λ (journal : List Entry). keeper_entries (drop (opened_at desk.layout.opened lock) journal)) (journal_other lock other)

  -- what they keep once a keeper gave it back
  pub taken_back_keeps_given : KeeperMayReplace desk.layout held bucket
      → KeepsGiven held bucket (keeping_alone desk) (keeping_alone (taken_back desk held.number bucket))
  taken_back_keeps_given may =
      let adds =
      keeper_adds_own from held.bucket.journal.entries bucket.journal.entries since (keeper_adds_no_pass_entry held.bucket bucket may.event) in
      record {
        part = ap part_of_slot back_at;
        others = λ lock other. ap part_of_slot (back_at_other lock other);
        made = adds.0;
        added = adds.1;
        own = ap (λ (journal : List Entry). keeper_entries (drop from journal)) journal_back ∙ adds.2
            ∙ ap (λ (before : List Entry). keeper_entries (drop from before) ++ adds.0) (sym journal_was);
        others_own = λ lock other.
            ap (λ (journal : List Entry). keeper_entries (drop (opened_at desk.layout.opened lock) journal)) (journal_other lock other);
      }

  pub taken_back_is_desk : MayStand desk held bucket → IsDesk (taken_back desk held.number bucket)
  taken_back_is_desk may = record {
    count = is.count ∙ sym (length-set desk.slots held.number (Some bucket));
    buckets = is.buckets;
    nodes = is.nodes;
    kept = λ lock one at. kept lock one at (same_or_other lock held.number);
    empty = λ lock at. absurd (empty lock at (same_or_other lock held.number));
    is_out = λ other at. absurd (cc);
    home = λ board at. home board at (is.home board at);
    away = is.away;
  } where
    kept : (lock : ℕ) (one : Bucket) → slice_get (set desk.slots held.number (Some bucket)) lock ≡ Some (Some one)
        → (lock ≡ held.number) ⊎ (lock ≢ held.number) → IsKept desk.layout lock one
    kept lock one at (inl same) =
        let both : Some (Some bucket) ≡ Some (Some one) =
        sym back_slot ∙ ap (slice_get (set desk.slots held.number (Some bucket))) (sym same) ∙ at in
        let is_it : bucket ≡ one = cc in
        let number : held.number ≡ lock = sym same in
        subst (λ (n : ℕ). IsKept desk.layout n one) number (subst (IsKept desk.layout held.number) is_it may.kept)
    kept lock one at (inr other) = is.kept lock one (sym (back_other lock other) ∙ at)

    empty : (lock : ℕ) → slice_get (set desk.slots held.number (Some bucket)) lock ≡ Some None
        → (lock ≡ held.number) ⊎ (lock ≢ held.number) → ⊥
    empty lock at (inl same) =
        let both : Some (Some bucket) ≡ Some None =
        sym back_slot ∙ ap (slice_get (set desk.slots held.number (Some bucket))) (sym same) ∙ at in
        absurd (cc)
    empty lock at (inr other) = no_other lock other (sym (back_other lock other) ∙ at)

    home : (board : Board (Unit {0})) → desk.board ≡ Some board → IsHome desk board → IsHome (taken_back desk held.number bucket) board
    home board at was = record {
      sound = was.sound;
      is_of = was.is_of;
      since = was.since;
      rest = λ has. by has may.keeps;
      none_out = was.none_out;
    } where
      by : board.keepers ≡ Some tt → KeepersAreOut desk ⊎ KeepsPart from held.bucket bucket
          → AreAtRest desk.layout board.journal.entries (keeping_alone (taken_back desk held.number bucket))
      by has (inl out) = let none : None ≡ Some tt = sym (out board at) ∙ has in absurd (cc)
      by has (inr same) =
          AreAtRest-kept desk.layout board.journal.entries (keeping_alone desk) (keeping_alone (taken_back desk held.number bucket))
          (taken_back_keeps same) (was.rest has)

-- after an event of the bucket's own what its keeper keeps is as it was
step_keeps : (from : ℕ) (layout : Layout) (held : Held) (bucket : Bucket) → from ≤ length held.bucket.journal.entries
    → MayReplace layout held bucket → KeepsPart from held.bucket bucket
step_keeps from layout held bucket since may = record {
  part = part-step held.bucket bucket may.step;
  own = step_keeps_own from held.bucket.journal.entries bucket.journal.entries since (step_adds_no_keeper_entry held.bucket bucket may.step);
}

-- a bucket may stand where a holder may give it back
pub may_stand : (desk : AloneState) (held : Held) (bucket : Bucket) → IsDesk desk → desk.out ≡ Some held → MayReplace desk.layout held bucket
    → MayStand desk held bucket
may_stand desk held bucket is there may =
    let since = (is.is_out held there).kept.since in
    record {
      kept = record {
        sound = may.sound;
        is_of = may.is_of;
        since = adds_longer false (opened_at desk.layout.opened held.number) held.bucket.journal.entries bucket.journal.entries since
            (step_adds_no_keeper_entry held.bucket bucket may.step);
      };
      keeps = inr (step_keeps (opened_at desk.layout.opened held.number) desk.layout held bucket since may);
    }

-- and where its keeper may, of whom somebody else has the keepers than the desk
pub may_stand_kept : (desk : AloneState) (held : Held) (bucket : Bucket) → IsDesk desk → desk.out ≡ Some held → KeepersAreOut desk
    → KeeperMayReplace desk.layout held bucket → MayStand desk held bucket
may_stand_kept desk held bucket is there out may = record {
  kept = record {
    sound = may.sound;
    is_of = may.is_of;
    since = adds_longer true (opened_at desk.layout.opened held.number) held.bucket.journal.entries bucket.journal.entries
        (is.is_out held there).kept.since (keeper_adds_no_pass_entry held.bucket bucket may.event);
  };
  keeps = inl out;
}

-- what putting a bucket back leaves
pub record IsPutBack (desk new : AloneState) (number : ℕ) (bucket : Bucket) : Type 0 where
  pub is : IsDesk desk
  pub within : number < desk.layout.buckets
  pub after : new ≡ taken_back desk number bucket
  pub is_new : IsDesk new

-- the bucket that is out has its slot, by the fields of the desk
pub out_has_slot : (fields : Inside) (desk : AloneState) (number : ℕ) (held : Held)
    → value_of fields ≡ desk → IsDesk (value_of fields) → desk.out ≡ Some held → held.number ≡ number → number < length fields.slots.items
out_has_slot fields desk number held view is there same =
    subst (λ n. n < length fields.slots.items) same
    (out_within (value_of fields) is held (ap (λ (d : AloneState). d.out) view ∙ there))

-- and nothing is in it
pub out_has_no_bucket : (fields : Inside) (desk : AloneState) (number : ℕ) (held : Held) (read : Option Bucket)
    → value_of fields ≡ desk → IsDesk (value_of fields) → desk.out ≡ Some held → held.number ≡ number
    → read ≡ get_or fields.slots.items number read → read ≡ None
out_has_no_bucket fields desk number held read view is there same at =
    let out : (value_of fields).out ≡ Some held = ap (λ (d : AloneState). d.out) view ∙ there in
    let empty : slice_get fields.slots.items number ≡ Some None =
    subst (λ n. slice_get fields.slots.items n ≡ Some None) same (is.is_out held out).slot in
    let full : slice_get fields.slots.items number ≡ Some read =
    slice_get_read fields.slots.items (length fields.slots.items) number read refl (out_has_slot fields desk number held view is there same) at in
    let both : Some read ≡ Some None = sym full ∙ empty in
    cc

-- a bucket is put back by the fields of the desk
pub put_back_of_fields : (fields : Inside) (more : List ((ℕ × Bool) × Bucket)) (desk : AloneState) (number : ℕ) (bucket : Bucket) (held : Held)
    (slot : Option Bucket)
    → value_of fields ≡ desk → IsDesk (value_of fields) → desk.out ≡ Some held → held.number ≡ number → (IsDesk desk → MayStand desk held bucket)
    → slot ≡ Some bucket → more ≡ []
    → IsPutBack desk (desk_of (layout_alone (set fields.slots.items number slot) fields.nodes fields.first fields.limit fields.opened)
    (set fields.slots.items number slot) (out_alone more) fields.board (board_out_of fields.board_out.items)) number bucket
put_back_of_fields fields more desk number bucket held slot view is there same may full history = record {
  is = is_desk;
  within = subst (λ n. n < desk.layout.buckets) same (out_within desk is_desk held there);
  after = by_fields;
  is_new = subst IsDesk (sym (by_fields ∙ ap (λ n. taken_back desk n bucket) (sym same)))
      (taken_back_is_desk desk is_desk held bucket there (may is_desk));
} where
  slots : List (Option Bucket)
  slots = fields.slots.items

  with_layout : Layout → List (Option Bucket) → List ((ℕ × Bool) × Bucket) → AloneState
  with_layout layout now items = desk_of layout now (out_alone items) fields.board (board_out_of fields.board_out.items)

  after : List (Option Bucket) → AloneState
  after now = with_layout (layout_alone now fields.nodes fields.first fields.limit fields.opened) now more

  is_desk : IsDesk desk
  is_desk = subst IsDesk view is

  by_fields : after (set slots number slot) ≡ taken_back desk number bucket
  by_fields =
      ap (λ (one : Option Bucket). after (set slots number one)) full
      ∙ ap (with_layout (layout_alone (set slots number (Some bucket)) fields.nodes fields.first fields.limit fields.opened)
      (set slots number (Some bucket))) history
      ∙ ap (λ (n : ℕ). with_layout
      (record { buckets = n; nodes = fields.nodes; first = fields.first; limit = fields.limit; opened = fields.opened })
      (set slots number (Some bucket)) []) (length-set slots number (Some bucket))
      ∙ ap (λ (old : AloneState). taken_back old number bucket) view

-- what a give leaves
pub record IsGive (desk new : AloneState) (held : Held) (bucket : Bucket) : Type 0 where
  pub sees : SeesGiven held bucket (seen_alone desk) (seen_alone new)
  pub out : new.out ≡ None
  pub board_out : new.board_out ≡ desk.board_out
  pub legal : AreLegal new.layout (seen_alone new)
  pub layout : new.layout ≡ desk.layout
  pub keepers : KeepersAreOut desk → StillFit (KeepersAreOut new) (keeping_alone desk) (keeping_alone new)

-- a bucket that was put back is given
pub put_is_give : (desk new : AloneState) (held : Held) (number : ℕ) (bucket : Bucket) → IsDesk desk → desk.out ≡ Some held
    → held.number ≡ number → MayReplace desk.layout held bucket → new ≡ taken_back desk number bucket → IsGive desk new held bucket
put_is_give desk new held number bucket is there same may after =
    subst (λ (one : AloneState). IsGive desk one held bucket) (ap (λ n. taken_back desk n bucket) same ∙ sym after) (record {
      sees = taken_back_sees desk is held bucket there may;
      out = refl;
      board_out = refl;
      legal = desk_is_legal (taken_back desk held.number bucket) (taken_back_is_desk desk is held bucket there (may_stand desk held bucket is there may));
      layout = refl;
      keepers = λ out. (
        out,
        taken_back_keeps desk is held bucket there
            (step_keeps (opened_at desk.layout.opened held.number) desk.layout held bucket (is.is_out held there).kept.since may),
      );
    })

-- what a keeper's give leaves
pub record IsKeeperGive (desk new : AloneState) (held : Held) (bucket : Bucket) : Type 0 where
  pub sees : SeesKeeperGiven held bucket (seen_alone desk) (seen_alone new)
  pub keeping : KeepsGiven held bucket (keeping_alone desk) (keeping_alone new)
  pub fits : KeepersAreOut new
  pub out : new.out ≡ None
  pub board_out : new.board_out ≡ desk.board_out
  pub legal : AreLegal new.layout (seen_alone new)
  pub layout : new.layout ≡ desk.layout

-- so is one that its keeper put back
pub put_is_keeper_give : (desk new : AloneState) (held : Held) (number : ℕ) (bucket : Bucket) → IsDesk desk → desk.out ≡ Some held
    → held.number ≡ number → KeepersAreOut desk → KeeperMayReplace desk.layout held bucket → new ≡ taken_back desk number bucket
    → IsKeeperGive desk new held bucket
put_is_keeper_give desk new held number bucket is there same out may after =
    subst (λ (one : AloneState). IsKeeperGive desk one held bucket) (ap (λ n. taken_back desk n bucket) same ∙ sym after) (record {
      sees = taken_back_sees_keeper desk is held bucket there may;
      keeping = taken_back_keeps_given desk is held bucket there may;
      fits = out;
      out = refl;
      board_out = refl;
      legal = desk_is_legal (taken_back desk held.number bucket)
          (taken_back_is_desk desk is held bucket there (may_stand_kept desk held bucket is there out may));
      layout = refl;
    })

-- only one bucket is out
pub one_is_out : (desk : AloneState) (held other : Held) → desk.out ≡ Some held → desk.out ≡ Some other → held ≡ other
one_is_out desk held other there is_other = let both : Some held ≡ Some other = sym there ∙ is_other in cc
