-- What the parsed lines of a head say.
use Rattle.std.specs.Prelude.{◌≡◌, ◌≤◌, ℕ, Bool, List, codes, length, map, filter, drop, Result, Ok, Err, ⊤}
use Rattle.std.specs.Str.{str_eq_ignore_ascii_case}
use Rattle.httparse.specs.Grammar.{RequestHead, trim_ows}
use Rattle.sc_model.specs.Heads as heads
use Rattle.sc_model.specs.Heads.{LengthFault, malformed_length, too_large_length, body_limit, is_encoded, is_lengthless, body_framing, method_of, path_of, params_of, asks_close}
use Rattle.sc_model.specs.Messages.{HasHead}
use Rattle.sc_http.specs.declared.framing.Framing.{Framing}
use Rattle.sc_http.specs.declared.framing.Framing.TheVariants as framings
use Rattle.sc_http.specs.declared.framing.LengthError.{LengthError}
use Rattle.sc_http.specs.declared.framing.LengthError.TheVariants as errors
use Rattle.sc_http.specs.declared.head.Head.{Head}

-- the line has this name, in any case
abbrev pub is_named : List ℕ → List ℕ × List ℕ → Bool
is_named name line = str_eq_ignore_ascii_case line.0 name

-- the values of the lines of a name, in order
abbrev pub line_values : List ℕ → List (List ℕ × List ℕ) → List (List ℕ)
line_values name lines = map (λ line. line.1) (filter (is_named name) lines)

-- the token says to close, in any case
abbrev pub is_close : List ℕ → Bool
is_close token = str_eq_ignore_ascii_case (trim_ows token) (codes "close")

-- why a length can't be read, as the definitions say it
abbrev pub fault_of : LengthError → LengthFault
fault_of errors.Malformed = malformed_length
fault_of errors.TooLarge = too_large_length

-- the framing that was found, as the definitions say it
abbrev pub framing_said : Framing → heads.Framing
framing_said (framings.OfLength whole) = heads.of_length whole
framing_said framings.Chunked = heads.chunked

-- the framing that was found, or why there is none
abbrev pub framing_is : Result Framing LengthError → Result heads.Framing LengthFault
framing_is (Ok framing) = Ok (framing_said framing)
framing_is (Err error) = Err (fault_of error)

-- a stated length is no longer than a body may be
abbrev pub IsWithinBody : Framing → Type 0
IsWithinBody (framings.OfLength whole) = whole ≤ body_limit
IsWithinBody framings.Chunked = ⊤

-- what was kept of a head is what the head says
pub record Describes (kept : Head) (head : RequestHead) : Type 0 where
  pub method : kept.method ≡ method_of head.method
  pub path : kept.path ≡ path_of head.target
  pub params : kept.params ≡ params_of head.target
  pub encoded : kept.encoded ≡ is_encoded head
  pub lengthless : kept.lengthless ≡ is_lengthless head
  pub close : kept.close ≡ asks_close head
  pub framed : body_framing head ≡ Ok (framing_said kept.framing)

-- the bytes begin with a head, and this was kept of it
pub record IsHeadOf (bytes : List ℕ) (kept : Head) : Type 0 where
  pub head : RequestHead
  pub has : HasHead bytes head (drop kept.size bytes)
  pub fits : kept.size ≤ length bytes
  pub describes : Describes kept head
