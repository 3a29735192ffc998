-- The writes behind the mark, up to the sync that puts them on the disk.
use Rattle.std.proofs.Common.{◌≡◌, ⊎_elim, ℕ, ◌+◌, ◌≤◌, List, [], ◌∷◌, ◌++◌, length, IfSome, sym, ap, subst, arith}
use Rattle.std.proofs.lemmas.Option.{IfSome_then}
use Rattle.std.specs.Int.{w64, to_le_bytes}
use Rattle.std.specs.List.{AllByRecursion}
use Rattle.sc_files.specs.Images.{Holds, Torn}
use Rattle.sc_files.specs.States.{FileState, Changes, Syncs, FailsToSync, AreAmong, LeavesOnly}
use Rattle.sc_tail.specs.Frames.{frames, opened}
use Rattle.sc_tail.specs.Files.{Fits, Behind, IsShut, IsWhole, behind_mark}
use Rattle.sc_tail.proofs.ImageLemmas.{less_known, long, torn_behind, holds_behind, opens_to}
use Rattle.sc_tail.proofs.MomentLemmas.{started, goes_on, sees_then, leaves_then}

-- Since `start` the frames and their closed mark have stood there at each moment; behind the mark a read gives these bytes, and a sync that
-- succeeds keeps them.
pub record Staging (start file : FileState) (bodies : List (List ℕ)) (bytes : List ℕ) : Type 0 where
  pub fits : AllByRecursion Fits bodies
  pub seen : IfSome file.seen (Behind bodies IsShut bytes)
  pub crash : AreAmong file.may_leave (Behind bodies IsShut [])
  pub kept : AreAmong file.kept (Behind bodies IsShut bytes)
  pub moments : LeavesOnly start file (λ c. opened c ≡ bodies)

-- what was written is what an append writes behind the mark
pub staged_is : (spelt body : List ℕ) → spelt ≡ to_le_bytes w64 (length body) → (spelt ++ body) ++ 0 ∷ [] ≡ behind_mark body
staged_is spelt body is = ap (λ (l : List ℕ). (l ++ body) ++ 0 ∷ []) is

module _ (bodies : List (List ℕ)) where
  pub staging_begins : (file : FileState) (end : ℕ) → IsWhole file end bodies → ((c : List ℕ) → file.left_since file.moment c → file.may_leave c) → Staging file file bodies []
  staging_begins file end whole now = record {
    fits = whole.fits;
    seen = whole.seen;
    crash = whole.crash;
    kept = whole.kept;
    moments = started file (λ c. opened c ≡ bodies) (λ c left. opens_to bodies [] c whole.fits (whole.crash c (now c left)));
  }

  -- the file is whole as it was
  pub still_whole : (start file : FileState) (end : ℕ) (bytes : List ℕ) → Staging start file bodies bytes → end ≡ length (frames bodies) → IsWhole file end bodies
  still_whole start file end bytes s is = record {
    fits = s.fits;
    end = is;
    seen = IfSome_then file.seen s.seen (less_known bodies IsShut bytes);
    crash = s.crash;
    kept = λ c kept. less_known bodies IsShut bytes c (s.kept c kept);
  }

  -- the place behind what is known is in the file
  pub has_room : (start file : FileState) (at : ℕ) (bytes : List ℕ) → Staging start file bodies bytes → at ≡ length (frames bodies) + (1 + length bytes) → IfSome file.seen (λ old. at ≤ length old)
  has_room start file at bytes s is = IfSome_then file.seen s.seen (λ c b. omega (arith, is, long bodies IsShut bytes c b))

  -- a write behind what is known
  pub staging_goes_on : (start file new : FileState) (at : ℕ) (bytes more : List ℕ) → Staging start file bodies bytes → at ≡ length (frames bodies) + (1 + length bytes)
      → Changes (Torn at (length more)) (Holds at more) file new → Staging start new bodies (bytes ++ more)
  staging_goes_on start file new at bytes more s is change =
      let crash = leaves_then file.may_leave new.may_leave (Torn at (length more)) (Behind bodies IsShut []) (Behind bodies IsShut []) change.crash s.crash
      (λ d c b torn. torn_behind bodies IsShut at (length more) d c b (omega (arith, is)) torn) in
      record {
        fits = s.fits;
        seen = sees_then file.seen new.seen (Holds at more) (Behind bodies IsShut bytes) (Behind bodies IsShut (bytes ++ more)) change.seen s.seen (λ d c b holds. holds_behind bodies IsShut bytes more at d c b is holds);
        crash = crash;
        kept = leaves_then file.kept new.kept (Holds at more) (Behind bodies IsShut bytes) (Behind bodies IsShut (bytes ++ more)) change.kept s.kept (λ d c b holds. holds_behind bodies IsShut bytes more at d c b is holds);
        moments = goes_on start file new (λ c. opened c ≡ bodies) s.moments change.time (λ c left. opens_to bodies [] c s.fits (crash c left));
      }

  -- one that failed leaves the frames and the mark
  pub staging_fails : (start file new : FileState) (at n : ℕ) (bytes : List ℕ) → Staging start file bodies bytes → at ≡ length (frames bodies) + (1 + length bytes)
      → Changes (Torn at n) (Torn at n) file new → Staging start new bodies []
  staging_fails start file new at n bytes s is change =
      let torn : (d c : List ℕ) → Behind bodies IsShut [] d → Torn at n d c → Behind bodies IsShut [] c = λ d c b t. torn_behind bodies IsShut at n d c b (omega (arith, is)) t in
      let crash = leaves_then file.may_leave new.may_leave (Torn at n) (Behind bodies IsShut []) (Behind bodies IsShut []) change.crash s.crash torn in
      record {
        fits = s.fits;
        seen = sees_then file.seen new.seen (Torn at n) (Behind bodies IsShut bytes) (Behind bodies IsShut []) change.seen s.seen (λ d c b t. torn d c (less_known bodies IsShut bytes d b) t);
        crash = crash;
        kept = leaves_then file.kept new.kept (Torn at n) (Behind bodies IsShut bytes) (Behind bodies IsShut []) change.kept s.kept (λ d c b t. torn d c (less_known bodies IsShut bytes d b) t);
        moments = goes_on start file new (λ c. opened c ≡ bodies) s.moments change.time (λ c left. opens_to bodies [] c s.fits (crash c left));
      }

  -- a sync that failed may have lost them
  pub staging_lost : (start file new : FileState) (bytes : List ℕ) → Staging start file bodies bytes → FailsToSync file new → Staging start new bodies []
  staging_lost start file new bytes s sync = record {
    fits = s.fits;
    seen = subst (λ o. IfSome o (Behind bodies IsShut [])) (sym sync.seen) (IfSome_then file.seen s.seen (less_known bodies IsShut bytes));
    crash = λ c left. s.crash c (sync.crash c left);
    kept = λ c kept. ⊎_elim (s.crash c) (λ was. less_known bodies IsShut bytes c (s.kept c was)) (sync.kept c kept);
    moments = goes_on start file new (λ c. opened c ≡ bodies) s.moments sync.time (λ c left. opens_to bodies [] c s.fits (s.crash c (sync.crash c left)));
  }

  -- one that succeeded has them on the disk
  pub staging_ends : (start file new : FileState) (bytes : List ℕ) → Staging start file bodies bytes → Syncs file new → Staging start new bodies bytes
  staging_ends start file new bytes s sync = record {
    fits = s.fits;
    seen = subst (λ o. IfSome o (Behind bodies IsShut bytes)) (sym sync.stays.seen) s.seen;
    crash = λ c left. s.crash c (sync.stays.crash c left);
    kept = λ c kept. s.kept c (sync.stays.kept c kept);
    moments = goes_on start file new (λ c. opened c ≡ bodies) s.moments sync.stays.time (λ c left. opens_to bodies [] c s.fits (s.crash c (sync.stays.crash c left)));
  }

  pub staged_durable : (start file new : FileState) (bytes : List ℕ) → Staging start file bodies bytes → Syncs file new → AreAmong new.may_leave (Behind bodies IsShut bytes)
  staged_durable start file new bytes s sync c left = s.kept c (sync.durable c left)
