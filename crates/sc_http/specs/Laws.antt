-- What holds of requests and endings whatever reads them.
use Rattle.std.specs.Prelude.{◌≡◌, ◌⊎◌, ℕ, List, ◌∷◌, ◌++◌, length, nat_le, if◌then◌else◌, IsUtf8}
use Rattle.httparse.specs.Grammar.{LineEnd, print_blank, IsToken, AllPass, is_uri_byte}
use Rattle.httparse.specs.Ascii.{space}
use Rattle.sc_model.specs.Heads.{head_limit}
use Rattle.sc_model.specs.Messages.{ReadsMessage, window, Ending, cut, bad_head, too_large, EndsSo}
use Rattle.sc_model.specs.declared.message.Incoming.{Incoming}

-- Bytes begin with at most one request, with one rest, and the bytes that follow don't change it: no request is a
-- proper prefix of another.
abbrev pub OneReading : Type 0
OneReading =
    (bytes more : List ℕ) (request other : Incoming) (rest others : List ℕ)
    → ReadsMessage bytes request rest → ReadsMessage (bytes ++ more) other others → (request ≡ other) × (others ≡ rest ++ more)

-- bytes that end in some way begin with no request
abbrev pub NoEndingOfRequest : Type 0
NoEndingOfRequest = (bytes : List ℕ) (ending : Ending) (request : Incoming) (rest : List ℕ) → EndsSo bytes ending → ¬ (ReadsMessage bytes request rest)

-- the bytes end inside a request's target, which no more bytes make UTF-8
pub record EndsInInvalidTarget (bytes : List ℕ) : Type 0 where
  pub blank : List LineEnd
  pub method : List ℕ
  pub target : List ℕ
  pub is_method : IsToken method
  pub is_target : AllPass is_uri_byte target
  pub split : bytes ≡ print_blank blank ++ method ++ space ∷ target
  pub invalid : (more : List ℕ) → AllPass is_uri_byte more → ¬ (IsUtf8 (target ++ more))

-- the ending of bytes that end inside a head
abbrev pub open_ending : List ℕ → Ending
open_ending bytes = if nat_le (length bytes) head_limit then cut else too_large

-- The one place where two endings are right: where a target can't become UTF-8, the head may count as malformed or as open.
abbrev pub MayEndInTwoWays : List ℕ → Ending → Ending → Type 0
MayEndInTwoWays bytes ending other =
    EndsInInvalidTarget (window bytes)
    × (((ending ≡ bad_head) × (other ≡ open_ending bytes)) ⊎ ((ending ≡ open_ending bytes) × (other ≡ bad_head)))

-- Bytes end in at most one way, but for that place.
abbrev pub OneEnding : Type 0
OneEnding =
    (bytes : List ℕ) (ending other : Ending) → EndsSo bytes ending → EndsSo bytes other → (ending ≡ other) ⊎ MayEndInTwoWays bytes ending other
