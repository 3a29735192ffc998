-- How what a crash may leave of a file in memory goes on by one of its calls.
use Rattle.std.specs.Prelude.{◌≡◌, ℕ, Bool, true, false, List, length}
use Rattle.sc_files.specs.Images.{Holds, Torn, IsCut, Cut}
use Rattle.sc_files.specs.Memory.{step_if}
use Rattle.sc_files.specs.declared.mem_file.Call.{Call}
use Rattle.sc_files.specs.declared.mem_file.Call.TheVariants as call

-- a call takes the one list of bytes to the other: it may leave that, and where a sync may keep the other it might have kept the one, and the
-- call did as it should
abbrev pub LeadsTo : Call → (old : List ℕ) → (was_kept : Bool) → (new : List ℕ) → (is_kept : Bool) → Type 0
LeadsTo (call.Write at bytes done) old was_kept new is_kept =
    Torn at (length bytes) old new × (is_kept ≡ true → (was_kept ≡ true) × step_if done (Holds at bytes) (Torn at (length bytes)) old new)
LeadsTo (call.Cut len done) old was_kept new is_kept = Cut len old new × (is_kept ≡ true → (was_kept ≡ true) × step_if done (IsCut len) (Cut len) old new)
LeadsTo (call.Sync true) old was_kept new is_kept = (was_kept ≡ true) × (new ≡ old)
LeadsTo (call.Sync false) old was_kept new is_kept = new ≡ old
