-- What a gate shows is seen by no stop, and what it keeps it goes on to keep.
use Rattle.std.proofs.Common.{◌≡◌, true, List, [], refl, sym, ◌∙◌, subst}
use Rattle.std.proofs.ByRecursion.{All-weaker}
use Rattle.std.proofs.lemmas.List.{append-nil}
use mathlib.Core.List.{IsPrefix}
use Rattle.sc_seen.specs.Seen.{Layout, Seen, SeesMore, Extends}
use Rattle.sc_seen.specs.declared.stop.Stop.{Stop}
use Rattle.sc_seen.proofs.ExtendsLemmas.{IsPrefix-self, IsPrefix-then, NotesBoard-same}
use Rattle.sc_gate.specs.Gates.{Gated, IsOfBucket, IsCommit, KeepsStops, IsCommitKept, KeepsCommits, KeepsAll, StillKeeps, SeesOnly}

pub SeesOnly-self : (seen : Seen) → SeesOnly seen seen
SeesOnly-self seen = record { journals = λ lock. IsPrefix-self (seen.journals lock); board = refl; own = λ lock. refl }

pub SeesOnly-then : (old between new : Seen) → SeesOnly old between → SeesOnly between new → SeesOnly old new
SeesOnly-then old between new one two = record {
  journals = λ lock. IsPrefix-then (old.journals lock) (between.journals lock) (new.journals lock) (one.journals lock) (two.journals lock);
  board = two.board ∙ one.board;
  own = λ lock. two.own lock ∙ one.own lock;
}

-- the board is seen as before
board_grows : (old new : Seen) → SeesOnly old new → IsPrefix old.board new.board
board_grows old new only = subst (IsPrefix old.board) (sym only.board) (IsPrefix-self old.board)

pub SeesOnly-more : (old new : Seen) → SeesOnly old new → SeesMore old new
SeesOnly-more old new only = record { journals = only.journals; board = board_grows old new only }

-- what is seen goes on by no stop
pub SeesOnly-extends : (layout : Layout) (old new : Seen) → SeesOnly old new → Extends layout old new []
SeesOnly-extends layout old new only = record {
  seen = only.journals;
  board = board_grows old new only;
  own = λ lock below. only.own lock ∙ sym (append-nil (old.own lock));
  notes = NotesBoard-same layout old new [] (only.own layout.buckets) refl;
  ascend = λ lock. tt;
  within = tt;
}

pub StillKeeps-self : (gate : Gated) → StillKeeps gate gate
StillKeeps-self gate = record { entries = λ lock place kept. kept; commits = λ lock place kept. kept; meets = refl }

pub StillKeeps-then : (old between new : Gated) → StillKeeps old between → StillKeeps between new → StillKeeps old new
StillKeeps-then old between new one two = record {
  entries = λ lock place kept. two.entries lock place (one.entries lock place kept);
  commits = λ lock place kept. two.commits lock place (one.commits lock place kept);
  meets = two.meets ∙ one.meets;
}

pub KeepsStops-on : (layout : Layout) (seen : Seen) (old new : Gated) (stops : List Stop) → StillKeeps old new → KeepsStops layout seen old stops → KeepsStops layout seen new stops
KeepsStops-on layout seen old new stops still keeps =
    All-weaker (λ (stop : Stop). IsOfBucket layout stop → ¬ IsCommit seen stop → old.keeps stop.lock stop.place ≡ true)
    (λ (stop : Stop). IsOfBucket layout stop → ¬ IsCommit seen stop → new.keeps stop.lock stop.place ≡ true)
    (λ stop here made other. still.entries stop.lock stop.place (here made other)) stops keeps

pub KeepsCommits-on : (layout : Layout) (seen : Seen) (old new : Gated) (stops : List Stop) → StillKeeps old new → KeepsCommits layout seen old stops → KeepsCommits layout seen new stops
KeepsCommits-on layout seen old new stops still keeps =
    All-weaker (λ (stop : Stop). IsOfBucket layout stop → IsCommit seen stop → IsCommitKept seen old stop)
    (λ (stop : Stop). IsOfBucket layout stop → IsCommit seen stop → IsCommitKept seen new stop)
    (λ stop here made commit. record {
      writes = λ place below write. still.entries stop.lock place ((here made commit).writes place below write);
      commit = still.commits stop.lock stop.place (here made commit).commit;
    }) stops keeps

pub KeepsAll-on : (layout : Layout) (seen : Seen) (old new : Gated) → StillKeeps old new → KeepsAll layout seen old → KeepsAll layout seen new
KeepsAll-on layout seen old new still keeps lock place below within = still.entries lock place (keeps lock place below within)
