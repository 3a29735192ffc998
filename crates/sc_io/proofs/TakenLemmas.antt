-- What a read that copied the next bytes into its buffer took.
use Rattle.std.proofs.Common.{◌≡◌, ℕ, ◌+◌, ◌≤◌, List, ◌++◌, length, take, drop, Some, refl, sym, ◌∙◌, ap}
use Rattle.std.proofs.lemmas.List.{take-append-drop, take_at, length-take-le, drop-drop}
use Rattle.sc_io.specs.Pieces.{TakesPrefix}

-- a buffer that begins with the next n bytes took them, and leaves what comes after
pub takes_next : (bytes prefix back : List ℕ) (at n : ℕ) → n ≤ length (drop at bytes) → prefix ≡ take n (drop at bytes)
    → TakesPrefix (take n (prefix ++ back)) (drop at bytes) (Some (drop (at + n) bytes))
takes_next bytes prefix back at n fits is =
    let long : length prefix ≡ n = ap length is ∙ length-take-le n (drop at bytes) fits in
    record {
      more = drop (at + n) bytes;
      whole = rw (take_at prefix back n long, is, ← drop-drop n at bytes) (sym (take-append-drop n (drop at bytes)));
      left = refl;
    }
