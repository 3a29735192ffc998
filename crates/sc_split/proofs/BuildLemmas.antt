-- What is so of the board and of the buckets while the cores of a split are made.
use Rattle.std.proofs.Common.{◌≡◌, ◌≢◌, ◌<◌, ◌≤◌, ℕ, Bool, true, false, cond, nat_lt, List, [], ◌∷◌, ◌++◌, length, refl, sym, ap, ◌∙◌, subst, append_assoc, arith}
use Rattle.std.specs.Prelude.{slice_get, Contains}
use Rattle.std.specs.Option.{option_map_or}
use Rattle.std.proofs.Math.Nat.{le_refl}
use Rattle.std.proofs.lemmas.Bool.Decides.{nat_tests}
use Rattle.std.proofs.lemmas.List.{append-nil, length_push}
use Rattle.std.proofs.lemmas.List.Elements.{Contains-append_left}
use mathlib.Core.List.{IsPrefix}
use Rattle.sc_record.specs.declared.entry.Entry.{Entry}
use Rattle.sc_record.specs.declared.entry.Entry.TheVariants as entry
use Rattle.sc_cluster.specs.declared.slice.Slice.{Slice}
use Rattle.sc_cluster.specs.declared.plan.SplitPlan.{SplitPlan}
use Rattle.sc_cluster.specs.Plans.{IsPlan}
use Rattle.sc_journal.proofs.ListLemmas.{slice_get-append_end}
use Rattle.sc_seen.specs.declared.board.BoardEntry.{BoardEntry}
use Rattle.sc_seen.specs.declared.board.BoardEntry.TheVariants as board
use Rattle.sc_seen.specs.Board.{IsLegalBoard, MayNote}
use Rattle.sc_seen.specs.Seen.{Layout, Seen, AreLegal, Extends, is_noted}
use Rattle.sc_seen.proofs.BoardLemmas.{MayNote_end}
use Rattle.sc_seen.proofs.ExtendsLemmas.{IsPrefix-self, IsPrefix-then, IsPrefix-length, NotesBoard-same}
use Rattle.sc_keeper.specs.Conditions.{MayBegin}
use Rattle.sc_collection.specs.Desks.{KeepsOn, OwnsSplit}
use Rattle.sc_collection.specs.Known.{Known, OfBuckets}
use Rattle.sc_split.specs.declared.end.Fault.{Fault}
use Rattle.sc_split.specs.declared.end.Fault.TheVariants as faults
use Rattle.sc_split.specs.Buckets.{part_in, HasNoRoomFor}
use Rattle.sc_split.specs.Stages.{OpenSplit, Stage, IsOpenIn, IsAtStage, IsUnbegun, KeepsKnownBoard, whole}
use Rattle.sc_split.specs.Steps.{NotesOne}
use Rattle.sc_split.specs.Splits.{SplitMoment, HadNoRoom}
use Rattle.sc_split.specs.Driving.{HasBegunOnBoard, IsWholeSplit, Builds, IsFault, NotesMore}
use Rattle.sc_split.proofs.OpenLemmas.{stage-same}
use Rattle.sc_split.proofs.OwnLemmas.{owns-split, may-note-recovering}

-- the split may begin in each bucket once it has on the board
pub may-begin-all : (layout : Layout) (plan : SplitPlan) (entries : List BoardEntry) (known : Known) → AreLegal layout known.seen
    → HasBegunOnBoard layout plan entries known
    → OfBuckets 0 layout.buckets (λ b. MayBegin (part_in known b) plan.parent plan.subs)
may-begin-all layout plan entries known legal begun b low below = record {
  idle = (begun.rest b below).idle;
  plan = subst (λ (slices : List Slice). IsPlan slices plan.parent plan.subs) (sym (begun.rest b below).map_is)
      (MayNote_end layout.first entries (board.Begun plan) (subst (IsLegalBoard layout.first) begun.board legal.board));
  active = (begun.rest b below).active;
  unfed = (begun.rest b below).unfed;
}

-- what was seen of each journal went on
journals-went-on : (layout : Layout) (split : OpenSplit) (begun : ℕ) (new : Known) → AreLegal layout split.base.seen
    → OfBuckets 0 begun (IsOpenIn split new) → OfBuckets begun layout.buckets (IsUnbegun split layout.first new)
    → (lock : ℕ) → IsPrefix (split.base.seen.journals lock) (new.seen.journals lock)
journals-went-on layout split begun new legal opened unbegun lock = by (nat_lt lock begun) refl (nat_lt lock layout.buckets) refl where
  by : (first : Bool) → nat_lt lock begun ≡ first → (second : Bool) → nat_lt lock layout.buckets ≡ second
      → IsPrefix (split.base.seen.journals lock) (new.seen.journals lock)
  by true one second two =
      let low : 0 ≤ lock = omega arith in
      let below : lock < begun = grind (arith, nat_tests) in
      let journal = (opened lock low below).journal in
      IsPrefix-then (split.base.seen.journals lock) journal.before (new.seen.journals lock) journal.went_on
      (entry.Begun split.plan.parent split.plan.subs ∷ journal.later, sym journal.journal_is)
  by false one true two =
      let from : begun ≤ lock = grind (arith, nat_tests) in
      let within : lock < layout.buckets = grind (arith, nat_tests) in
      (unbegun lock from within).went_on
  by false one false two =
      let past : layout.buckets ≤ lock = grind (arith, nat_tests) in
      (new.seen.journals lock, ap (λ (journal : List Entry). journal ++ new.seen.journals lock) (legal.others lock past))

-- what was seen went on, and the board stayed
extends-kept : (layout : Layout) (old new : Known) → KeepsKnownBoard old new
    → ((lock : ℕ) → IsPrefix (old.seen.journals lock) (new.seen.journals lock)) → Extends layout old.seen new.seen []
extends-kept layout old new keeps went_on = record {
  seen = went_on;
  board = subst (IsPrefix old.seen.board) (sym keeps.board) (IsPrefix-self old.seen.board);
  own = λ lock below. keeps.own lock ∙ sym (append-nil (old.seen.own lock));
  notes = NotesBoard-same layout old.seen new.seen [] (keeps.own layout.buckets) refl;
  ascend = λ lock. tt;
  within = tt;
}

-- what was seen went on, and of one's own an entry came to the board that no stop makes
extends-noted : (layout : Layout) (one : BoardEntry) (old new : Seen) → is_noted one ≡ false → NotesMore layout (one ∷ []) old new
    → ((lock : ℕ) → lock ≢ layout.buckets → new.own lock ≡ old.own lock)
    → ((lock : ℕ) → IsPrefix (old.journals lock) (new.journals lock)) → Extends layout old new []
extends-noted layout one old new unnoted notes others went_on = record {
  seen = went_on;
  board = (one ∷ [], sym notes.board);
  own = λ lock below. others lock (λ same. absurd (omega (arith, below, same))) ∙ sym (append-nil (old.own lock));
  notes = record {
    added = length old.board ∷ [];
    own = notes.own;
    after = (le_refl (length old.board), tt);
    within = (omega (arith, ap length notes.board, length_push old.board one), tt);
    made = ap (λ (noted : Bool). cond noted (length old.board ∷ []) [])
        (ap (λ (here : _). option_map_or is_noted here false)
        (ap (λ (entries : List BoardEntry). slice_get entries (length old.board)) notes.board ∙ slice_get-append_end old.board one [])
        ∙ unnoted);
  };
  ascend = λ lock. tt;
  within = tt;
}

-- an entry came to the board while buckets were held before and after it
noted-between : (layout : Layout) (one : BoardEntry) (base before noted new : Known) → KeepsKnownBoard base before
    → NotesOne layout one before.seen noted.seen → KeepsKnownBoard noted new → NotesMore layout (one ∷ []) base.seen new.seen
noted-between layout one base before noted new first notes last = record {
  board = last.board ∙ notes.board ∙ ap (λ (entries : List BoardEntry). entries ++ one ∷ []) first.board;
  own = last.own layout.buckets ∙ notes.own
      ∙ ap (λ (own : List ℕ). own ++ length before.seen.board ∷ []) (first.own layout.buckets)
      ∙ ap (λ (entries : List BoardEntry). base.seen.own layout.buckets ++ length entries ∷ []) first.board;
}

-- where buckets were held since the split began, it is one's own still
pub led-owns : (layout layout' : Layout) (plan : SplitPlan) (entries : List BoardEntry) (base now : Known) → layout' ≡ layout
    → KeepsKnownBoard base now → HasBegunOnBoard layout plan entries base → OwnsSplit layout' now.seen
led-owns layout layout' plan entries base now same keeps begun =
    subst (λ (l : Layout). OwnsSplit l now.seen) (sym same)
    (owns-split layout now.seen entries plan false (keeps.board ∙ begun.board)
    (subst (λ (own : List ℕ). Contains own (length entries)) (sym (keeps.own layout.buckets)) begun.own))

-- and its slices may be recovered
pub led-may-recover : (layout layout' : Layout) (plan : SplitPlan) (entries : List BoardEntry) (base now : Known)
    → AreLegal layout' now.seen → KeepsKnownBoard base now → HasBegunOnBoard layout plan entries base
    → MayNote layout'.first now.seen.board (board.Recovering plan.parent)
led-may-recover layout layout' plan entries base now legal keeps begun =
    may-note-recovering layout' now.seen entries plan legal (keeps.board ∙ begun.board)

-- what is so of all buckets
pub on-layout : (IsSo : ℕ → Type 0) (layout layout' : Layout) → layout' ≡ layout → OfBuckets 0 layout'.buckets IsSo
    → OfBuckets 0 layout.buckets IsSo
on-layout IsSo layout layout' same all = subst (λ (l : Layout). OfBuckets 0 l.buckets IsSo) same all

-- a step on the board leaves each bucket
pub stage-noted : (layout : Layout) (one : BoardEntry) (split : OpenSplit) (stage : Stage) (old new : Known) (n : ℕ)
    → NotesOne layout one old.seen new.seen → KeepsOn old.keeping new.keeping → OfBuckets 0 n (IsAtStage split stage old)
    → OfBuckets 0 n (IsAtStage split stage new)
stage-noted layout one split stage old new n notes keeps at b low below =
    stage-same split stage old new b (record { journal = notes.journals b; part_is = keeps.part b; own = keeps.own b }) (at b low below)

-- the leaders were made, as far as that went
pub builds-led : (layout : Layout) (plan : SplitPlan) (entries : List BoardEntry) (begun : ℕ) (base new : Known) → AreLegal layout base.seen
    → HasBegunOnBoard layout plan entries base → KeepsKnownBoard base new
    → OfBuckets 0 begun (IsOpenIn (record { plan = plan; base = base }) new)
    → OfBuckets begun layout.buckets (IsUnbegun (record { plan = plan; base = base }) layout.first new)
    → Builds layout (record { plan = plan; base = base }) entries begun base new
builds-led layout plan entries begun base new legal on_board keeps opened unbegun = record {
  recovered = false;
  halted = record {
    rest = on_board.rest;
    board = keeps.board ∙ on_board.board;
    own = subst (λ (own : List ℕ). Contains own (length entries)) (sym (keeps.own layout.buckets)) on_board.own;
    opened = opened;
    unbegun = unbegun;
  };
  extends = extends-kept layout base new keeps
      (journals-went-on layout (record { plan = plan; base = base }) begun new legal opened unbegun);
  noted = record {
    board = keeps.board ∙ sym (append-nil base.seen.board);
    own = keeps.own layout.buckets ∙ sym (append-nil (base.seen.own layout.buckets));
  };
}

-- a bucket in which the split has not begun had no room for it
had-no-room : (layout : Layout) (split : OpenSplit) (begun : ℕ) (new : Known)
    → OfBuckets begun layout.buckets (IsUnbegun split layout.first new)
    → (b : ℕ) × (begun ≤ b) × (b < layout.buckets) × HasNoRoomFor layout split.plan.subs (new.seen.journals b)
    → (lock : ℕ) × HadNoRoom layout split.plan split.base.seen new.seen lock
had-no-room layout split begun new unbegun (b, from, below, full) = (
  b,
  record {
    is_bucket = below;
    journal = new.seen.journals b;
    seen = IsPrefix-self (new.seen.journals b);
    later = IsPrefix-length (split.base.seen.journals b) (new.seen.journals b) (unbegun b from below).went_on;
    idle = full.none_open;
    full = full.full;
  },
)

-- why making the leaders ended
pub fault-led : (layout : Layout) (split : OpenSplit) (begun : ℕ) (new : Known) (was now : SplitMoment) (fault : Fault)
    → was.view.seen ≡ split.base.seen → now.view.seen ≡ new.seen → OfBuckets begun layout.buckets (IsUnbegun split layout.first new)
    → (fault ≡ faults.LogFull
    → (b : ℕ) × (begun ≤ b) × (b < layout.buckets) × HasNoRoomFor layout split.plan.subs (new.seen.journals b))
    → (fault ≡ faults.Host → was.outside.start_faults < now.outside.start_faults)
    → (fault ≡ faults.Stopped → was.outside.stops < now.outside.stops)
    → IsFault layout split.plan was now fault
fault-led layout split begun new was now faults.LogFull first last unbegun full failed stopped =
    subst (λ (seen : Seen). (lock : ℕ) × HadNoRoom layout split.plan seen now.view.seen lock) (sym first)
    (subst (λ (seen : Seen). (lock : ℕ) × HadNoRoom layout split.plan split.base.seen seen lock) (sym last)
    (had-no-room layout split begun new unbegun (full refl)))
fault-led layout split begun new was now faults.Host first last unbegun full failed stopped = failed refl
fault-led layout split begun new was now faults.Stopped first last unbegun full failed stopped = stopped refl
fault-led layout split begun new was now faults.Memory first last unbegun full failed stopped = tt

-- The slices of a split were recovered, and further replicas joined after that, as far as that went.
module _ (layout : Layout) (plan : SplitPlan) (entries : List BoardEntry) (base before noted new : Known)
    (legal : AreLegal layout base.seen) (on_board : HasBegunOnBoard layout plan entries base) (first : KeepsKnownBoard base before)
    (notes : NotesOne layout (board.Recovering plan.parent) before.seen noted.seen) (last : KeepsKnownBoard noted new) where
  abbrev split : OpenSplit
  split = record { plan = plan; base = base }

  more : NotesMore layout (board.Recovering plan.parent ∷ []) base.seen new.seen
  more = noted-between layout (board.Recovering plan.parent) base before noted new first notes last

  board_is : new.seen.board ≡ entries ++ board.Begun plan ∷ board.Recovering plan.parent ∷ []
  board_is = more.board ∙ ap (λ (these : List BoardEntry). these ++ board.Recovering plan.parent ∷ []) on_board.board
      ∙ append_assoc entries (board.Begun plan ∷ []) (board.Recovering plan.parent ∷ [])

  own_is : Contains (new.seen.own layout.buckets) (length entries)
  own_is = subst (λ (own : List ℕ). Contains own (length entries)) (sym more.own)
      (Contains-append_left (base.seen.own layout.buckets) (length base.seen.board ∷ []) (length entries) on_board.own)

  pub builds-followed : (begun : ℕ) → begun ≡ layout.buckets → OfBuckets 0 layout.buckets (IsOpenIn split new)
      → Builds layout split entries begun base new
  builds-followed begun everywhere opened = record {
    recovered = true;
    halted = record { rest = on_board.rest; board = board_is; own = own_is; opened = open_here; unbegun = none_left };
    extends = extends-noted layout (board.Recovering plan.parent) base.seen new.seen refl more
        (λ lock other. last.own lock ∙ notes.others_own lock other ∙ first.own lock)
        (journals-went-on layout split begun new legal open_here none_left);
    noted = more;
  } where
    open_here : OfBuckets 0 begun (IsOpenIn split new)
    open_here b low below = opened b low (omega (arith, below, everywhere))

    none_left : OfBuckets begun layout.buckets (IsUnbegun split layout.first new)
    none_left b low below = absurd (omega (arith, low, below, everywhere))

  pub whole-followed : OfBuckets 0 layout.buckets (IsAtStage split (whole plan) new) → IsWholeSplit layout split entries new
  whole-followed all = record { rest = on_board.rest; board = board_is; own = own_is; whole = all }
