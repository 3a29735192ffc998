-- What is true of a desk for one thread as it stands.
use Rattle.std.proofs.Common.{◌≡◌, ◌≢◌, ◌⊎◌, inl, inr, ◌≤◌, ◌<◌, ℕ, Bool, true, false, cond, eqb, List, [], ◌∷◌, Option, Some, None, slice_get, refl, sym, ap, ◌∙◌, subst, arith}
use Rattle.std.specs.Prelude.{◌==◌}
use Rattle.std.proofs.lemmas.Bool.{eqb-true, eqb-false}
use Rattle.std.proofs.lemmas.Bool.Decides.{nat_tests}
use Rattle.std.proofs.lemmas.Option.{slice_get_within, slice_get_past}
use Rattle.sc_record.specs.declared.entry.Entry.{Entry}
use Rattle.sc_cluster.specs.declared.slice.Slice.{Slice}
use Rattle.sc_journal.specs.Legal.{IsLegal}
use Rattle.sc_seen.specs.declared.board.BoardEntry.{BoardEntry}
use Rattle.sc_seen.specs.Board.{IsLegalBoard, board_map}
use Rattle.sc_seen.specs.Seen.{opened_at, Layout, AreLegal}
use Rattle.sc_bucket.specs.declared.bucket.Bucket.{Bucket}
use Rattle.sc_keeper.specs.declared.part.Part.{Part}
use Rattle.sc_board.specs.declared.board.Board.{Board}
use Rattle.sc_collection.specs.Desks.{Out, Held, Keeping, KeepsOn, IsAtRest, AreAtRest}
use Rattle.sc_collection.specs.Alone.{AloneState, bucket_in, bucket_at, journal_in, journal_of, entries_in, entries_alone, pass_places, places, seen_alone, IsKept, IsDesk}

-- two numbers are equal, or they are not
pub same_or_other : (a b : ℕ) → (a ≡ b) ⊎ (a ≢ b)
same_or_other a b = by (eqb a b) refl where
  by : (s : Bool) → eqb a b ≡ s → (a ≡ b) ⊎ (a ≢ b)
  by true is = inl (eqb-true a b is)
  by false is = inr (eqb-false a b is)

-- the journal of a bucket of the desk is legal
kept_legal : (layout : Layout) (number : ℕ) (bucket : Bucket) → IsKept layout number bucket
    → IsLegal layout.first bucket.journal.entries
kept_legal layout number bucket kept =
    subst (λ (first : List Slice). IsLegal first bucket.journal.entries) kept.is_of.first kept.sound.journal.legal

-- no entry follows another where there is none
none_legal : (first : List Slice) → IsLegal first []
none_legal first [] one after h = absurd (cc)
none_legal first (other ∷ before) one after h = absurd (cc)

-- each journal of a desk is legal
journals_legal : (desk : AloneState) → IsDesk desk → (lock : ℕ) → IsLegal desk.layout.first (journal_of desk lock)
journals_legal desk is lock = by (slice_get desk.slots lock) refl where
  first : List Slice
  first = desk.layout.first

  by : (slot : Option (Option Bucket)) → slice_get desk.slots lock ≡ slot → IsLegal first (journal_in (bucket_in desk.out slot))
  by None at = none_legal first
  by (Some (Some bucket)) at = kept_legal desk.layout lock bucket (is.kept lock bucket at)
  by (Some None) at =
      let empty = is.empty lock at in
      let held : Held = empty.0 in
      subst (λ (out : Option Held). IsLegal first (journal_in (bucket_in out (Some None)))) (sym empty.1)
      (kept_legal desk.layout held.number held.bucket (is.is_out held empty.1).kept)

-- and so is the board's
board_legal : (desk : AloneState) → IsDesk desk → IsLegalBoard desk.layout.first (entries_alone desk)
board_legal desk is = by desk.board refl where
  by : (board : Option (Board (Unit {0}))) → desk.board ≡ board → IsLegalBoard desk.layout.first (entries_in board desk.board_out)
  by (Some board) at =
      let home = is.home board at in
      subst (λ (first : List Slice). IsLegalBoard first board.journal.entries) home.is_of.first_is home.sound.legal
  by None at =
      let away = is.away at in
      subst (λ (out : Option (List BoardEntry)). IsLegalBoard desk.layout.first (entries_in None out)) (sym away.1) away.2

-- what was seen is legal
pub desk_is_legal : (desk : AloneState) → IsDesk desk → AreLegal desk.layout (seen_alone desk)
desk_is_legal desk is = record {
  buckets = λ lock inside. journals_legal desk is lock;
  board = board_legal desk is;
  others = λ lock past. ap (λ slot. journal_in (bucket_in desk.out slot)) (none lock past);
} where
  none : (lock : ℕ) → desk.layout.buckets ≤ lock → slice_get desk.slots lock ≡ None
  none lock past = slice_get_past desk.slots lock (omega (arith, is.count))

-- of a bucket the places of its passes' entries are one's own
pub own_of_bucket : (desk : AloneState) (lock : ℕ) → lock < desk.layout.buckets
    → (seen_alone desk).own lock ≡ pass_places (opened_at desk.layout.opened lock) (journal_of desk lock)
own_of_bucket desk lock below =
    let other : (lock == desk.layout.buckets) ≡ false = grind (arith, nat_tests) in
    ap (λ b. cond b (places desk.layout.opened.board (entries_alone desk)) (pass_places (opened_at desk.layout.opened lock) (journal_of desk lock))) other

-- and of the board all are
pub own_of_board : (desk : AloneState)
    → (seen_alone desk).own desk.layout.buckets ≡ places desk.layout.opened.board (entries_alone desk)
own_of_board desk =
    let same : (desk.layout.buckets == desk.layout.buckets) ≡ true = grind (arith, nat_tests) in
    ap (λ b. cond b (places desk.layout.opened.board (entries_alone desk))
    (pass_places (opened_at desk.layout.opened desk.layout.buckets) (journal_of desk desk.layout.buckets))) same

-- buckets are at rest as long as what is kept of them stays
pub AreAtRest-kept : (layout : Layout) (entries : List BoardEntry) (old new : Keeping) → KeepsOn old new
    → AreAtRest layout entries old → AreAtRest layout entries new
AreAtRest-kept layout entries old new keeps rest number inside =
    subst (λ (part : Part). IsAtRest layout.opened.board entries slices part (new.own number)) (sym (keeps.part number))
    (subst (λ (own : List Entry). IsAtRest layout.opened.board entries slices (old.part number) own) (sym (keeps.own number)) (rest number inside))
  where
    slices : List Slice
    slices = board_map layout.first entries

-- the slot of a bucket that is out
pub out_is_at : (desk : AloneState) → IsDesk desk → (held : Held) → desk.out ≡ Some held → bucket_at desk held.number ≡ Some held.bucket
out_is_at desk is held there =
    ap (bucket_in desk.out) (is.is_out held there).slot ∙ ap (λ (out : Option Held). bucket_in out (Some None)) there

-- it has its place
pub out_within : (desk : AloneState) → IsDesk desk → (held : Held) → desk.out ≡ Some held → held.number < desk.layout.buckets
out_within desk is held there =
    let below = slice_get_within desk.slots held.number None (is.is_out held there).slot in omega (arith, below, is.count)

-- what is out of a desk
abbrev pub out_of_desk : AloneState → Out
out_of_desk desk = record { bucket = desk.out; board = desk.board_out }

-- this bucket is out now, or none, and of the board what was
pub out_is : (desk new : AloneState) (held : Option Held) → new.out ≡ held → new.board_out ≡ desk.board_out
    → out_of_desk new ≡ record (out_of_desk desk) { bucket = held }
out_is desk new held bucket board =
    ap (λ (one : Option Held). let out : Out = record { bucket = one; board = new.board_out } in out) bucket
    ∙ ap (λ (one : Option (List BoardEntry)). let out : Out = record { bucket = held; board = one } in out) board
