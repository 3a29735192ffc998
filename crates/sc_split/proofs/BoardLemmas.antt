-- What the board hands out and takes back while one's own split runs.
use Rattle.std.proofs.Common.{◌≡◌, ℕ, true, List, [], ◌∷◌, ◌++◌, length, drop, ltb, Some, sym, ap, ◌∙◌, subst, inr, arith, cond}
use Rattle.std.specs.Prelude.{Contains, All}
use Rattle.std.proofs.lemmas.Bool.{lt-ltb}
use Rattle.std.proofs.lemmas.List.{length_push}
use Rattle.sc_cluster.specs.declared.slice.Slice.{Slice}
use Rattle.sc_ulog.specs.declared.mode.Mode.TheVariants.{Active}
use Rattle.sc_seen.specs.Board.{MayNote, running_split}
use Rattle.sc_seen.specs.Seen.{Layout, Seen}
use Rattle.sc_seen.specs.declared.board.BoardEntry.{BoardEntry}
use Rattle.sc_seen.specs.Rounds.{GoTogether}
use Rattle.sc_keeper.specs.declared.part.CorePart.{CorePart}
use Rattle.sc_keeper.specs.declared.part.Part.{Part}
use Rattle.sc_collection.specs.Desks.{Keeping, KeepsOn, MayReplaceBoard, SeesBoardGiven, OwnsSplit, AreAtRest, place_added}
use Rattle.sc_split.specs.Steps.{NotesOne}

-- the place of one entry that was added
added-one : {A : Type 0} (entries : List A) (one : A) → place_added entries (entries ++ one ∷ []) ≡ length entries ∷ []
added-one entries one =
    let more : ltb (length entries) (length (entries ++ one ∷ [])) ≡ true =
    lt-ltb (length entries) (length (entries ++ one ∷ [])) (omega (arith, length_push entries one)) in
    ap (λ b. cond b (length entries ∷ []) []) more

-- the entry may be noted on the board that is handed out, as it might on what was seen of it
pub may-note-here : (first first' : List Slice) (entries entries' : List BoardEntry) (one : BoardEntry) → first' ≡ first → entries' ≡ entries
    → MayNote first entries one → MayNote first' entries' one
may-note-here first first' entries entries' one same-first same may =
    subst (λ (f : List Slice). MayNote f entries' one) (sym same-first) (subst (λ (es : List BoardEntry). MayNote first es one) (sym same) may)

pub same-some : {A : Type 0} (p q : A) → Some p ≡ Some q → p ≡ q
same-some p q h = cc

-- the split that runs on what was seen is one's own
pub owned-place : (layout : Layout) (seen : Seen) (entries : List BoardEntry) → OwnsSplit layout seen → entries ≡ seen.board
    → (place : ℕ) → running_split entries ≡ Some place → Contains (seen.own layout.buckets) place
owned-place layout seen entries owns same place found =
    subst (λ (p : ℕ). Contains (seen.own layout.buckets) p)
    (same-some owns.0 place (sym owns.1 ∙ ap running_split (sym same) ∙ found)) owns.2

-- one entry was added to the board that was handed out
pub may-replace-one : (layout layout' : Layout) (seen seen' : Seen) (held given : List BoardEntry) (one : BoardEntry) → layout' ≡ layout → seen' ≡ seen
    → held ≡ seen.board → given ≡ held ++ one ∷ [] → OwnsSplit layout seen → MayReplaceBoard layout' seen' held given
may-replace-one layout layout' seen seen' held given one same-layout same-seen was added owns =
    subst (λ (l : Layout). MayReplaceBoard l seen' held given) (sym same-layout)
    (subst (λ (s : Seen). MayReplaceBoard layout s held given) (sym same-seen)
    (inr (one, added, owned-place layout seen held owns was)))

-- what is seen then: the entry, which is one's own, and nothing else
pub notes-one : (layout layout' : Layout) (seen seen' new : Seen) (held given : List BoardEntry) (one : BoardEntry) → layout' ≡ layout → seen' ≡ seen
    → held ≡ seen.board → given ≡ held ++ one ∷ [] → SeesBoardGiven layout' held given seen' new → NotesOne layout one seen new
notes-one layout layout' seen seen' new held given one same-layout same-seen was added sees' =
    let sees : SeesBoardGiven layout held given seen new =
    subst (λ (l : Layout). SeesBoardGiven l held given seen new) same-layout
    (subst (λ (s : Seen). SeesBoardGiven layout' held given s new) same-seen sees') in
    record {
      board = sees.board ∙ added ∙ ap (λ (es : List BoardEntry). es ++ one ∷ []) was;
      journals = sees.journals;
      own = sees.own ∙ ap (λ (places : List ℕ). seen.own layout.buckets ++ places)
          (ap (λ (es : List BoardEntry). place_added held es) added ∙ added-one held one ∙ ap (λ (es : List BoardEntry). length es ∷ []) was);
      others_own = sees.others_own;
    }

-- buckets at rest stay so as long as what the keepers keep does
pub at-rest-still : (layout layout' : Layout) (entries entries' : List BoardEntry) (old new : Keeping) → layout' ≡ layout → entries' ≡ entries
    → KeepsOn old new → AreAtRest layout entries old → AreAtRest layout' entries' new
at-rest-still layout layout' entries entries' old new same-layout same keeps rest =
    subst (λ (l : Layout). AreAtRest l entries' new) (sym same-layout)
    (subst (λ (es : List BoardEntry). AreAtRest layout es new) (sym same) later) where
      later : AreAtRest layout entries new
      later number below = record {
        map_is = ap (λ (part : Part). part.map) (keeps.part number) ∙ (rest number below).map_is;
        idle = ap (λ (part : Part). part.phase) (keeps.part number) ∙ (rest number below).idle;
        active = subst (λ (part : Part). All (λ (core : CorePart). core.mode ≡ Active) part.cores) (sym (keeps.part number)) (rest number below).active;
        unfed = ap (λ (part : Part). part.feeds) (keeps.part number) ∙ (rest number below).unfed;
        since = (rest number below).since;
        together = subst (GoTogether (drop layout.opened.board entries)) (sym (keeps.own number)) (rest number below).together;
      }
