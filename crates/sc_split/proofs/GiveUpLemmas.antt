-- Once a split is given up in each bucket where it had begun the board may have the keepers back, and it failed wherever it had begun.
use Rattle.std.proofs.Common.{◌≡◌, ◌<◌, inl, ℕ, Bool, true, false, List, [], ◌∷◌, ◌++◌, length, drop, refl, sym, ap, ◌∙◌, subst, arith, append_assoc, All, Contains}
use Rattle.std.proofs.lemmas.List.{append-nil}
use mathlib.Core.List.{IsPrefix}
use Rattle.sc_record.specs.declared.entry.Entry.{Entry}
use Rattle.sc_cluster.specs.declared.slice.Slice.{Slice}
use Rattle.sc_cluster.specs.declared.plan.SplitPlan.{SplitPlan}
use Rattle.sc_cluster.specs.Slices.{forming}
use Rattle.sc_cluster.specs.Map.{IsMap}
use Rattle.sc_journal.specs.Legal.{IsLegal}
use Rattle.sc_ulog.specs.declared.mode.Mode.TheVariants.{Active}
use Rattle.sc_seen.specs.declared.board.BoardEntry.{BoardEntry}
use Rattle.sc_seen.specs.declared.board.BoardEntry.TheVariants as board
use Rattle.sc_seen.specs.Board.{board_map, MayNote, IsLegalBoard}
use Rattle.sc_seen.specs.Rounds as rounds
use Rattle.sc_seen.specs.Rounds.{board_entries, GoTogether}
use Rattle.sc_seen.specs.Seen.{Layout, Seen, AreLegal}
use Rattle.sc_seen.proofs.BoardLemmas.{failed_leaves_the_map}
use Rattle.sc_seen.proofs.ExtendsLemmas.{IsPrefix-self, Extends-then}
use Rattle.sc_keeper.specs.declared.part.CorePart.{CorePart}
use Rattle.sc_keeper.specs.declared.part.Part.{Part}
use Rattle.sc_collection.specs.Desks.{OwnsSplit, IsAtRest, AreAtRest}
use Rattle.sc_collection.specs.Known.{Known, OfBuckets, IsSameIn}
use Rattle.sc_collection.proofs.RestLemmas.{GoTogether-since, since-more}
use Rattle.sc_split.specs.Buckets.{part_in}
use Rattle.sc_split.specs.Stages.{OpenSplit, IsUnbegun, IsFailedIn, KeepsKnownBoard}
use Rattle.sc_split.specs.Steps.{NotesOne}
use Rattle.sc_split.specs.Splits as course
use Rattle.sc_split.specs.Driving.{HasBegunOnBoard, IsHalted, GivesUp, recovering_entries}
use Rattle.sc_split.proofs.OpenLemmas.{same-self}
use Rattle.sc_split.proofs.LoopLemmas.{in-both}
use Rattle.sc_split.proofs.OwnLemmas.{owns-split, may-note-failed}
use Rattle.sc_split.proofs.CloseLemmas.{extends-buckets, extends-board, notes-after}
use Rattle.sc_split.proofs.FailedLemmas.{failed-here, failed-unbegun}

-- ---- the board is as it was left
-- once it was given up in its buckets the board is as it was, and the split that runs there is one's own
pub halted-owns : (layout layout' : Layout) (split : OpenSplit) (entries : List BoardEntry) (recovered : Bool) (begun : ℕ) (old new : Known)
    → layout' ≡ layout → KeepsKnownBoard old new → IsHalted layout split entries recovered begun old → OwnsSplit layout' new.seen
halted-owns layout layout' split entries recovered begun old new same-layout keeps halted =
    subst (λ (l : Layout). OwnsSplit l new.seen) (sym same-layout)
    (owns-split layout new.seen entries split.plan recovered (keeps.board ∙ halted.board)
    (subst (λ places. Contains places (length entries)) (sym (keeps.own layout.buckets)) halted.own))

-- and it may fail there
pub halted-may-fail : (layout layout' : Layout) (split : OpenSplit) (entries : List BoardEntry) (recovered : Bool) (begun : ℕ) (old new : Known)
    → layout' ≡ layout → AreLegal layout' new.seen → KeepsKnownBoard old new → IsHalted layout split entries recovered begun old
    → MayNote layout'.first new.seen.board (board.Failed split.plan.parent)
halted-may-fail layout layout' split entries recovered begun old new same-layout legal keeps halted =
    may-note-failed layout' new.seen entries split.plan recovered legal (keeps.board ∙ halted.board)

-- ---- each bucket is as the board says, once the split is noted there as failed
-- what is noted of it, whether it had begun in a bucket or not
noted-is : (entries now : List BoardEntry) (plan : SplitPlan) (recovered begun : Bool)
    → now ≡ entries ++ board.Begun plan ∷ recovering_entries plan.parent recovered
    → now ++ board.Failed plan.parent ∷ [] ≡ entries ++ board_entries (rounds.failed plan recovered begun)
noted-is entries now plan recovered begun is =
    ap (λ (es : List BoardEntry). es ++ board.Failed plan.parent ∷ []) is
    ∙ append_assoc entries (board.Begun plan ∷ recovering_entries plan.parent recovered) (board.Failed plan.parent ∷ [])
    ∙ ap (λ es. entries ++ es) (by recovered) where
      by : (recovered : Bool) → (board.Begun plan ∷ recovering_entries plan.parent recovered) ++ board.Failed plan.parent ∷ []
          ≡ board_entries (rounds.failed plan recovered begun)
      by true = refl
      by false = refl

-- the board's map is the one before it
map-failed : (first : List Slice) (entries : List BoardEntry) (plan : SplitPlan) (recovered begun : Bool) → MayNote first entries (board.Begun plan)
    → board_map first (entries ++ board_entries (rounds.failed plan recovered begun)) ≡ board_map first entries
map-failed first entries plan true begun may = (failed_leaves_the_map first entries plan may).1
map-failed first entries plan false begun may = (failed_leaves_the_map first entries plan may).0

-- where it was given up
rest-given-up : (opened : ℕ) (first : List Slice) (split : OpenSplit) (entries : List BoardEntry) (recovered : Bool) (known : Known) (b : ℕ)
    → MayNote first entries (board.Begun split.plan)
    → IsAtRest opened entries (board_map first entries) (part_in split.base b) (split.base.keeping.own b) → IsFailedIn split known b
    → IsAtRest opened (entries ++ board_entries (rounds.failed split.plan recovered true))
    (board_map first (entries ++ board_entries (rounds.failed split.plan recovered true))) (part_in known b) (known.keeping.own b)
rest-given-up opened first split entries recovered known b may base failed = record {
  map_is = failed.given_up.map_is ∙ base.map_is ∙ sym (map-failed first entries split.plan recovered true may);
  idle = failed.given_up.idle;
  active = failed.given_up.active;
  unfed = failed.given_up.unfed;
  since = since-more opened entries (board_entries (rounds.failed split.plan recovered true)) base.since;
  together = subst (GoTogether (drop opened (entries ++ board_entries (rounds.failed split.plan recovered true)))) (sym failed.ended.own)
      (GoTogether-since opened (rounds.failed split.plan recovered true) entries (split.base.keeping.own b) base.since base.together);
}

-- where it had not begun
rest-unbegun : (opened : ℕ) (first : List Slice) (split : OpenSplit) (entries : List BoardEntry) (recovered : Bool) (old new : Known) (b : ℕ)
    → MayNote first entries (board.Begun split.plan)
    → IsAtRest opened entries (board_map first entries) (part_in split.base b) (split.base.keeping.own b) → IsUnbegun split first old b
    → IsSameIn old new b → IsAtRest opened (entries ++ board_entries (rounds.failed split.plan recovered false))
    (board_map first (entries ++ board_entries (rounds.failed split.plan recovered false))) (part_in new b) (new.keeping.own b)
rest-unbegun opened first split entries recovered old new b may base unbegun same = record {
  map_is = ap (λ (part : Part). part.map) part_is ∙ base.map_is ∙ sym (map-failed first entries split.plan recovered false may);
  idle = ap (λ (part : Part). part.phase) part_is ∙ base.idle;
  active = subst (λ (part : Part). All (λ (core : CorePart). core.mode ≡ Active) part.cores) (sym part_is) base.active;
  unfed = ap (λ (part : Part). part.feeds) part_is ∙ base.unfed;
  since = since-more opened entries (board_entries (rounds.failed split.plan recovered false)) base.since;
  together = subst (GoTogether (drop opened (entries ++ board_entries (rounds.failed split.plan recovered false))))
      (append-nil (split.base.keeping.own b) ∙ sym (same.own ∙ unbegun.own))
      (GoTogether-since opened (rounds.failed split.plan recovered false) entries (split.base.keeping.own b) base.since base.together);
} where
  part_is : part_in new b ≡ part_in split.base b
  part_is = same.part_is ∙ unbegun.part_is

pub rest-failed : (layout layout' : Layout) (split : OpenSplit) (entries : List BoardEntry) (recovered : Bool) (begun : ℕ) (old new : Known)
    → layout' ≡ layout → AreLegal layout' new.seen → KeepsKnownBoard old new → IsHalted layout split entries recovered begun old
    → OfBuckets 0 begun (IsFailedIn split new) → OfBuckets begun layout.buckets (IsSameIn old new)
    → AreAtRest layout' (new.seen.board ++ board.Failed split.plan.parent ∷ []) new.keeping
rest-failed layout layout' split entries recovered begun old new same-layout legal keeps halted failed same =
    subst (λ (l : Layout). AreAtRest l (new.seen.board ++ board.Failed split.plan.parent ∷ []) new.keeping) (sym same-layout)
    (λ number below. in-both (λ (b : ℕ). b < layout.buckets → HereAtRest (new.seen.board ++ board.Failed split.plan.parent ∷ []) b) begun layout.buckets
    (λ b low within there. as-noted true b (rest-given-up layout.opened.board layout.first split entries recovered new b may (halted.rest b there) (failed b low within)))
    (λ b low within there. as-noted false b (rest-unbegun layout.opened.board layout.first split entries recovered old new b may (halted.rest b there)
    (halted.unbegun b low within) (same b low within)))
    number below below) where
      HereAtRest : List BoardEntry → ℕ → Type 0
      HereAtRest es b = IsAtRest layout.opened.board es (board_map layout.first es) (part_in new b) (new.keeping.own b)

      board_is : new.seen.board ≡ entries ++ board.Begun split.plan ∷ recovering_entries split.plan.parent recovered
      board_is = keeps.board ∙ halted.board

      legal_board : IsLegalBoard layout.first new.seen.board
      legal_board = subst (λ (l : Layout). IsLegalBoard l.first new.seen.board) same-layout legal.board

      may : MayNote layout.first entries (board.Begun split.plan)
      may = legal_board entries (board.Begun split.plan) (recovering_entries split.plan.parent recovered) board_is

      as-noted : (here : Bool) (b : ℕ) → HereAtRest (entries ++ board_entries (rounds.failed split.plan recovered here)) b
          → HereAtRest (new.seen.board ++ board.Failed split.plan.parent ∷ []) b
      as-noted here b = subst (λ (es : List BoardEntry). HereAtRest es b) (sym (noted-is entries new.seen.board split.plan recovered here board_is))

-- ---- the split is given up
pub gives-up-by : (layout : Layout) (split : OpenSplit) (entries : List BoardEntry) (recovered : Bool) (begun : ℕ) (old between : Known) (new : Seen)
    → IsMap layout.first → forming layout.first ≡ [] → AreLegal layout between.seen
    → ((lock : ℕ) → IsPrefix (old.seen.journals lock) (between.seen.journals lock)) → KeepsKnownBoard old between
    → IsHalted layout split entries recovered begun old → OfBuckets 0 begun (IsFailedIn split between)
    → OfBuckets begun layout.buckets (IsSameIn old between) → NotesOne layout (board.Failed split.plan.parent) between.seen new
    → GivesUp layout split.plan split.base.seen old.seen new
gives-up-by layout split entries recovered begun old between new is_map idle legal went_on keeps halted failed same notes = record {
  extends = Extends-then layout old.seen between.seen new [] [] (extends-buckets layout old between went_on keeps)
      (extends-board layout (board.Failed split.plan.parent) between.seen new refl notes);
  noted = notes-after layout (board.Failed split.plan.parent) old between new keeps notes;
  failed = λ lock below. subst (FailedIn lock) (sym (notes.journals lock))
      (in-both (λ (b : ℕ). b < layout.buckets → FailedIn b (between.seen.journals b)) begun layout.buckets
      (λ b low within there. failed-here layout.first split.plan (split.base.seen.journals b) (between.seen.journals b)
      (length (split.base.seen.journals b)) is_map idle (legal.buckets b there) (failed b low within).ended.journal)
      (λ b low within there. subst (FailedIn b) (sym (same b low within).journal)
      (failed-unbegun layout.first split old b is_map idle
      (subst (λ (journal : List Entry). IsLegal layout.first journal) (same b low within).journal (legal.buckets b there)) (halted.unbegun b low within)))
      lock below below);
} where
  FailedIn : ℕ → List Entry → Type 0
  FailedIn b journal = course.IsFailedIfBegun split.plan (length (split.base.seen.journals b)) journal

-- ---- a split that began in no bucket
-- it has just begun on the board
pub halted-at-once : (layout : Layout) (plan : SplitPlan) (entries : List BoardEntry) (known : Known) → HasBegunOnBoard layout plan entries known
    → IsHalted layout (record { plan = plan; base = known }) entries false 0 known
halted-at-once layout plan entries known begun = record {
  rest = begun.rest;
  board = begun.board;
  own = begun.own;
  opened = λ b low below. absurd (omega (arith, below));
  unbegun = λ b low below. record {
    part_is = refl;
    own = refl;
    went_on = IsPrefix-self (known.seen.journals b);
    journal = inl refl;
  };
}

-- nothing more is known
keeps-same : (known : Known) → KeepsKnownBoard known known
keeps-same known = record { board = refl; own = λ lock. refl }

-- it is in no bucket of the first none of them
in-none : (IsSo : ℕ → Type 0) → OfBuckets 0 0 IsSo
in-none IsSo b low below = absurd (omega (arith, below))

-- the split that runs on the board is one's own, may fail there, and then the board may have the keepers back
pub begun-owns : (layout : Layout) (plan : SplitPlan) (entries : List BoardEntry) (known : Known) → HasBegunOnBoard layout plan entries known
    → OwnsSplit layout known.seen
begun-owns layout plan entries known begun =
    halted-owns layout layout (record { plan = plan; base = known }) entries false 0 known known refl (keeps-same known)
    (halted-at-once layout plan entries known begun)

pub begun-may-fail : (layout : Layout) (plan : SplitPlan) (entries : List BoardEntry) (known : Known) → AreLegal layout known.seen
    → HasBegunOnBoard layout plan entries known → MayNote layout.first known.seen.board (board.Failed plan.parent)
    × AreAtRest layout (known.seen.board ++ board.Failed plan.parent ∷ []) known.keeping
begun-may-fail layout plan entries known legal begun =
    let split : OpenSplit = record { plan = plan; base = known } in
    let halted = halted-at-once layout plan entries known begun in (
      halted-may-fail layout layout split entries false 0 known known refl legal (keeps-same known) halted,
      rest-failed layout layout split entries false 0 known known refl legal (keeps-same known) halted
          (in-none (IsFailedIn split known)) (λ b low below. same-self b known),
    )

-- it is given up once it is noted as failed
pub gives-up-at-once : (layout : Layout) (plan : SplitPlan) (entries : List BoardEntry) (known : Known) (new : Seen) → IsMap layout.first
    → forming layout.first ≡ [] → AreLegal layout known.seen → HasBegunOnBoard layout plan entries known
    → NotesOne layout (board.Failed plan.parent) known.seen new → GivesUp layout plan known.seen known.seen new
gives-up-at-once layout plan entries known new is_map idle legal begun notes =
    let split : OpenSplit = record { plan = plan; base = known } in
    gives-up-by layout split entries false 0 known known new is_map idle legal (λ lock. IsPrefix-self (known.seen.journals lock))
    (keeps-same known) (halted-at-once layout plan entries known begun) (in-none (IsFailedIn split known)) (λ b low below. same-self b known) notes
