-- The closing of the mark at which a reading ended, from the call that looks at it on.
use Rattle.std.proofs.Common.{◌≡◌, ℕ, ◌≤◌, ◌<◌, List, [], ◌∷◌, length, get_or, take, drop, IfSome, subst, arith}
use Rattle.std.proofs.lemmas.Option.{IfSome_then}
use Rattle.sc_files.specs.Images.{Holds, Torn}
use Rattle.sc_files.specs.States.{FileState, Changes, Stays, Syncs, FailsToSync, IsFresh, IsDurable, AreAmong, LeavesOnly}
use Rattle.sc_tail.specs.Frames.{opened}
use Rattle.sc_tail.specs.Files.{IsShut, IsWhole}
use Rattle.sc_tail.specs.Tails.{read_bodies, IsReading}
use Rattle.sc_tail.specs.declared.reading.Reading.{Reading}
use Rattle.sc_tail.proofs.BeginLemmas.{shut_whole, closing_leaves, closed_whole}
use Rattle.sc_tail.proofs.CloseLemmas.{Ended, IsEnded, is_ended}
use Rattle.sc_tail.proofs.MomentLemmas.{started, goes_on, still_sees}

module _ (start : FileState) (reading : Reading) (r : IsReading start reading) (ended : IfSome start.seen (λ c. opened c ≡ read_bodies reading)) (some : reading.at < reading.len) (fresh : IsFresh start) (durable : IsDurable start)
    (now : (c : List ℕ) → start.left_since start.moment c → start.may_leave c) where
  has_bodies : List ℕ → Type 0
  has_bodies c = opened c ≡ read_bodies reading

  leaves_bodies : (c : List ℕ) → start.may_leave c → opened c ≡ read_bodies reading
  leaves_bodies c left = subst (λ o. IfSome o (λ x. opened x ≡ read_bodies reading)) (durable c left) ended

  module _ (file : FileState) (stays : Stays start file) where
    pub looked : LeavesOnly start file (λ c. opened c ≡ read_bodies reading)
    looked = goes_on start start file (λ c. opened c ≡ read_bodies reading) (started start (λ c. opened c ≡ read_bodies reading) (λ c left. leaves_bodies c (now c left))) stays.time (λ c left. leaves_bodies c (stays.crash c left))

    pub mark_stands : IfSome file.seen (λ old. reading.at ≤ length old)
    mark_stands = still_sees start file (λ old. reading.at ≤ length old) stays (IfSome_then start.seen r.seen (λ c h. omega (arith, some, h.len)))

    ended_there : (P : ℕ → Type 0) → IfSome start.seen (λ c. P (get_or (take 1 (drop reading.at c)) 0 0)) → IsEnded (read_bodies reading) r.fits reading.at reading.len P file
    ended_there P mark =
        let e = is_ended (read_bodies reading) r.fits reading.at reading.len P start r.seen some ended mark fresh durable in
        record {
          seen = still_sees start file (Ended (read_bodies reading) r.fits reading.at reading.len P) stays e.seen;
          crash = λ c left. e.crash c (stays.crash c left);
          kept = λ c left. e.kept c (stays.kept c left);
        }

    -- it was closed already
    pub was_shut : IfSome start.seen (λ c. IsShut (get_or (take 1 (drop reading.at c)) 0 0)) → IsWhole file reading.at (read_bodies reading)
    was_shut mark = shut_whole (read_bodies reading) r.fits reading.at reading.len file (ended_there IsShut mark) r.place

    module _ (mark : IfSome start.seen (λ c. get_or (take 1 (drop reading.at c)) 0 0 ≡ 1)) (new : FileState) where
      closing : (done : List ℕ → List ℕ → Type 0) → Changes (Torn reading.at 1) done file new → AreAmong new.may_leave (λ c. opened c ≡ read_bodies reading)
      closing done change = closing_leaves (read_bodies reading) r.fits reading.at reading.len file new done (ended_there (λ m. m ≡ 1) mark) change

      pub close_writes : (done : List ℕ → List ℕ → Type 0) → Changes (Torn reading.at 1) done file new → LeavesOnly start new (λ c. opened c ≡ read_bodies reading)
      close_writes done change = goes_on start file new (λ c. opened c ≡ read_bodies reading) looked change.time (closing done change)

      module _ (change : Changes (Torn reading.at 1) (Holds reading.at (0 ∷ [])) file new) (synced : FileState) where
        pub close_syncs : Syncs new synced → LeavesOnly start synced (λ c. opened c ≡ read_bodies reading)
        close_syncs sync =
            goes_on start new synced (λ c. opened c ≡ read_bodies reading) (close_writes (Holds reading.at (0 ∷ [])) change) sync.stays.time (λ c left. closing (Holds reading.at (0 ∷ [])) change c (sync.stays.crash c left))

        pub close_loses : FailsToSync new synced → LeavesOnly start synced (λ c. opened c ≡ read_bodies reading)
        close_loses sync =
            goes_on start new synced (λ c. opened c ≡ read_bodies reading) (close_writes (Holds reading.at (0 ∷ [])) change) sync.time (λ c left. closing (Holds reading.at (0 ∷ [])) change c (sync.crash c left))

        pub is_closed : Syncs new synced → IsWhole synced reading.at (read_bodies reading)
        is_closed sync = closed_whole (read_bodies reading) r.fits reading.at reading.len file new synced (ended_there (λ m. m ≡ 1) mark) change sync r.place
