-- The writing of the mark of a frame that is staged, and the sync that puts it on the disk.
use Rattle.std.proofs.Common.{◌≡◌, ⊎_elim, ℕ, ◌≤◌, List, [], ◌∷◌, ◌++◌, length, IfSome, sym, subst, arith}
use Rattle.std.proofs.lemmas.Option.{IfSome_then}
use Rattle.std.specs.List.{AllByRecursion}
use Rattle.sc_files.specs.Images.{Holds, Torn}
use Rattle.sc_files.specs.States.{FileState, Changes, Syncs, FailsToSync, AreAmong, LeavesOnly}
use Rattle.sc_tail.specs.Frames.{frames}
use Rattle.sc_tail.specs.Files.{Fits, Behind, IsShut, IsAny, IsWhole, behind_mark, OpensToEither}
use Rattle.sc_tail.proofs.FrameLemmas.{fits-push}
use Rattle.sc_tail.proofs.ImageLemmas.{IsOpen, any_mark, long, torn_mark, holds_mark, frame_opens, opens_either}
use Rattle.sc_tail.proofs.MomentLemmas.{started, goes_on, sees_then, leaves_then}

-- Since `start` the body has stood whole behind the mark at each moment; of the mark P holds in what a read gives and in what a sync that
-- succeeds keeps.
pub record Opening (start file : FileState) (bodies : List (List ℕ)) (body : List ℕ) (P : ℕ → Type 0) : Type 0 where
  pub fits : AllByRecursion Fits bodies
  pub fits_too : Fits body
  pub seen : IfSome file.seen (Behind bodies P (behind_mark body))
  pub crash : AreAmong file.may_leave (Behind bodies IsAny (behind_mark body))
  pub kept : AreAmong file.kept (Behind bodies P (behind_mark body))
  pub moments : LeavesOnly start file (OpensToEither bodies (bodies ++ body ∷ []))

module _ (bodies : List (List ℕ)) (body : List ℕ) where
  Either : List ℕ → Type 0
  Either = OpensToEither bodies (bodies ++ body ∷ [])

  pub opening_begins : (file : FileState) → AllByRecursion Fits bodies → Fits body → IfSome file.seen (Behind bodies IsAny (behind_mark body)) → AreAmong file.may_leave (Behind bodies IsAny (behind_mark body))
      → AreAmong file.kept (Behind bodies IsAny (behind_mark body)) → ((c : List ℕ) → file.left_since file.moment c → file.may_leave c) → Opening file file bodies body IsAny
  opening_begins file fits one seen crash kept now = record {
    fits = fits;
    fits_too = one;
    seen = seen;
    crash = crash;
    kept = kept;
    moments = started file (OpensToEither bodies (bodies ++ body ∷ [])) (λ c left. opens_either bodies body c fits one (crash c (now c left)));
  }

  pub mark_has_room : (start file : FileState) (at : ℕ) → Opening start file bodies body IsAny → at ≡ length (frames bodies) → IfSome file.seen (λ old. at ≤ length old)
  mark_has_room start file at o is = IfSome_then file.seen o.seen (λ c b. omega (arith, is, long bodies IsAny (behind_mark body) c b))

  -- the mark is written
  pub mark_opens : (start file new : FileState) (at : ℕ) → Opening start file bodies body IsAny → at ≡ length (frames bodies)
      → Changes (Torn at 1) (Holds at (1 ∷ [])) file new → Opening start new bodies body IsOpen
  mark_opens start file new at o is change =
      let crash = leaves_then file.may_leave new.may_leave (Torn at 1) (Behind bodies IsAny (behind_mark body)) (Behind bodies IsAny (behind_mark body)) change.crash o.crash
      (λ d c b torn. torn_mark bodies IsAny (behind_mark body) at d c b is torn) in
      record {
        fits = o.fits;
        fits_too = o.fits_too;
        seen = sees_then file.seen new.seen (Holds at (1 ∷ [])) (Behind bodies IsAny (behind_mark body)) (Behind bodies IsOpen (behind_mark body)) change.seen o.seen (λ d c b holds. holds_mark bodies IsAny (behind_mark body) 1 at d c b is holds);
        crash = crash;
        kept = leaves_then file.kept new.kept (Holds at (1 ∷ [])) (Behind bodies IsAny (behind_mark body)) (Behind bodies IsOpen (behind_mark body)) change.kept o.kept (λ d c b holds. holds_mark bodies IsAny (behind_mark body) 1 at d c b is holds);
        moments = goes_on start file new (OpensToEither bodies (bodies ++ body ∷ [])) o.moments change.time (λ c left. opens_either bodies body c o.fits o.fits_too (crash c left));
      }

  -- or not as it should
  pub mark_fails : (start file new : FileState) (at : ℕ) → Opening start file bodies body IsAny → at ≡ length (frames bodies)
      → Changes (Torn at 1) (Torn at 1) file new → Opening start new bodies body IsAny
  mark_fails start file new at o is change =
      let torn : (d c : List ℕ) → Behind bodies IsAny (behind_mark body) d → Torn at 1 d c → Behind bodies IsAny (behind_mark body) c = λ d c b t. torn_mark bodies IsAny (behind_mark body) at d c b is t in
      let crash = leaves_then file.may_leave new.may_leave (Torn at 1) (Behind bodies IsAny (behind_mark body)) (Behind bodies IsAny (behind_mark body)) change.crash o.crash torn in
      record {
        fits = o.fits;
        fits_too = o.fits_too;
        seen = sees_then file.seen new.seen (Torn at 1) (Behind bodies IsAny (behind_mark body)) (Behind bodies IsAny (behind_mark body)) change.seen o.seen torn;
        crash = crash;
        kept = leaves_then file.kept new.kept (Torn at 1) (Behind bodies IsAny (behind_mark body)) (Behind bodies IsAny (behind_mark body)) change.kept o.kept torn;
        moments = goes_on start file new (OpensToEither bodies (bodies ++ body ∷ [])) o.moments change.time (λ c left. opens_either bodies body c o.fits o.fits_too (crash c left));
      }

  -- a sync that failed may have lost the mark
  pub mark_lost : (start file new : FileState) → Opening start file bodies body IsOpen → FailsToSync file new → Opening start new bodies body IsAny
  mark_lost start file new o sync = record {
    fits = o.fits;
    fits_too = o.fits_too;
    seen = subst (λ s. IfSome s (Behind bodies IsAny (behind_mark body))) (sym sync.seen) (IfSome_then file.seen o.seen (any_mark bodies IsOpen (behind_mark body)));
    crash = λ c left. o.crash c (sync.crash c left);
    kept = λ c kept. ⊎_elim (o.crash c) (λ was. any_mark bodies IsOpen (behind_mark body) c (o.kept c was)) (sync.kept c kept);
    moments = goes_on start file new (OpensToEither bodies (bodies ++ body ∷ [])) o.moments sync.time (λ c left. opens_either bodies body c o.fits o.fits_too (o.crash c (sync.crash c left)));
  }

  pub moments_end : (start file new : FileState) → Opening start file bodies body IsOpen → Syncs file new → LeavesOnly start new (OpensToEither bodies (bodies ++ body ∷ []))
  moments_end start file new o sync =
      goes_on start file new (OpensToEither bodies (bodies ++ body ∷ [])) o.moments sync.stays.time (λ c left. opens_either bodies body c o.fits o.fits_too (o.crash c (sync.stays.crash c left)))

  -- one that succeeded has the frame on the disk
  pub mark_ends : (start file new : FileState) (end : ℕ) → Opening start file bodies body IsOpen → Syncs file new → end ≡ length (frames (bodies ++ body ∷ [])) → IsWhole new end (bodies ++ body ∷ [])
  mark_ends start file new end o sync is = record {
    fits = fits-push bodies body o.fits o.fits_too;
    end = is;
    seen = subst (λ s. IfSome s (Behind (bodies ++ body ∷ []) IsShut [])) (sym sync.stays.seen) (IfSome_then file.seen o.seen (frame_opens bodies body));
    crash = λ c left. frame_opens bodies body c (o.kept c (sync.durable c left));
    kept = λ c kept. frame_opens bodies body c (o.kept c (sync.stays.kept c kept));
  }
