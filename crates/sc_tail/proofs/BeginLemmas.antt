-- What the sync leaves with which a reading begins, and what a reading that ended leaves once its mark is closed.
use Rattle.std.proofs.Common.{◌≡◌, ℕ, List, [], ◌∷◌, length, IfSome, sym, ◌∙◌, subst}
use Rattle.std.proofs.lemmas.Option.{IfSome_then}
use Rattle.std.specs.List.{AllByRecursion}
use Rattle.sc_files.specs.Images.{Holds, Torn}
use Rattle.sc_files.specs.States.{FileState, Changes, Stays, Syncs, FailsToSync, IsFresh, IsDurable, AreAmong, LeavesOnly}
use Rattle.sc_tail.specs.Frames.{frames, opened}
use Rattle.sc_tail.specs.Files.{Fits, Behind, IsShut, IsWhole}
use Rattle.sc_tail.proofs.CloseLemmas.{Ended, IsEnded, torn_ended, closed, is_shut}
use Rattle.sc_tail.proofs.MomentLemmas.{started, goes_on, sees_then, leaves_then}

module _ (old mid : FileState) (now : (c : List ℕ) → old.left_since old.moment c → old.may_leave c) where
  -- a sync that failed, as the first call
  pub lost_moments : FailsToSync old mid → LeavesOnly old mid old.may_leave
  lost_moments sync = goes_on old old mid old.may_leave (started old old.may_leave now) sync.time sync.crash

  pub synced_moments : Syncs old mid → LeavesOnly old mid old.may_leave
  synced_moments sync = goes_on old old mid old.may_leave (started old old.may_leave now) sync.stays.time sync.stays.crash

  -- and a call after it that changes nothing
  pub begun_moments : (new : FileState) → Syncs old mid → Stays mid new → LeavesOnly old new old.may_leave
  begun_moments new sync stays = goes_on old mid new old.may_leave (synced_moments sync) stays.time (λ c left. sync.stays.crash c (stays.crash c left))

pub begun_fresh : (old mid new : FileState) → Syncs old mid → Stays mid new → IsFresh old → IsFresh new
begun_fresh old mid new sync stays fresh c kept = stays.seen ∙ sync.stays.seen ∙ fresh c (sync.stays.kept c (stays.kept c kept))

pub begun_durable : (old mid new : FileState) → Syncs old mid → Stays mid new → IsFresh old → IsDurable new
begun_durable old mid new sync stays fresh c left = stays.seen ∙ sync.stays.seen ∙ fresh c (sync.durable c (stays.crash c left))

module _ (bodies : List (List ℕ)) (fits : AllByRecursion Fits bodies) (place size : ℕ) where
  -- where the mark is closed already
  pub shut_whole : (file : FileState) → IsEnded bodies fits place size IsShut file → place ≡ length (frames bodies) → IsWhole file place bodies
  shut_whole file e is = record {
    fits = fits;
    end = is;
    seen = IfSome_then file.seen e.seen (is_shut bodies fits place size);
    crash = λ c left. is_shut bodies fits place size c (e.crash c left);
    kept = λ c left. is_shut bodies fits place size c (e.kept c left);
  }

  -- a crash leaves the bodies while the mark is closed
  pub closing_leaves : (file new : FileState) (done : List ℕ → List ℕ → Type 0) → IsEnded bodies fits place size (λ m. m ≡ 1) file → Changes (Torn place 1) done file new → AreAmong new.may_leave (λ c. opened c ≡ bodies)
  closing_leaves file new done e change =
      leaves_then file.may_leave new.may_leave (Torn place 1) (Ended bodies fits place size (λ m. m ≡ 1)) (λ c. opened c ≡ bodies) change.crash e.crash (torn_ended bodies fits place size)

  -- and then it is
  pub closed_whole : (file new synced : FileState) → IsEnded bodies fits place size (λ m. m ≡ 1) file → Changes (Torn place 1) (Holds place (0 ∷ [])) file new → Syncs new synced → place ≡ length (frames bodies) → IsWhole synced place bodies
  closed_whole file new synced e change sync is =
      let E = Ended bodies fits place size (λ m. m ≡ 1) in
      let shuts = closed bodies fits place size (λ m. m ≡ 1) in
      let holds : AreAmong new.kept (Behind bodies IsShut []) = leaves_then file.kept new.kept (Holds place (0 ∷ [])) E (Behind bodies IsShut []) change.kept e.kept shuts in
      record {
        fits = fits;
        end = is;
        seen = subst (λ o. IfSome o (Behind bodies IsShut [])) (sym sync.stays.seen) (sees_then file.seen new.seen (Holds place (0 ∷ [])) E (Behind bodies IsShut []) change.seen e.seen shuts);
        crash = λ c left. holds c (sync.durable c left);
        kept = λ c left. holds c (sync.stays.kept c left);
      }
