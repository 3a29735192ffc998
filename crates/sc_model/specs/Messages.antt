-- The requests that a connection's bytes are, and how those bytes end.
use Rattle.std.specs.Prelude.{◌≡◌, ◌<◌, ◌≤◌, ◌⊎◌, ℕ, List, [], ◌∷◌, ◌++◌, length, take, Ok, Err}
use mathlib.Core.List.{IsPrefix}
use Rattle.httparse.specs.Grammar.{RequestHead, print_request, ReadsRequest, HasNoRequest, NeverHasRequest, MayBecomeRequest}
use Rattle.httparse.specs.Spans.{RequestExceeds}
use Rattle.sc_chunks.specs.Coding.{Coding, HasCoding, data_of}
use Rattle.sc_chunks.specs.Endings.{CodingEnd, partial as partial_coding, malformed as malformed_coding, too_large as too_large_coding, EndsCoding}
use Rattle.sc_model.specs.Heads.{head_limit, line_limit, Framing, of_length, chunked, malformed_length, too_large_length, body_framing, request_of}
use Rattle.sc_model.specs.declared.message.Incoming.{Incoming}

-- the bytes begin with this head, within its limits, and the rest follows
pub record HasHead (bytes : List ℕ) (head : RequestHead) (rest : List ℕ) : Type 0 where
  pub reads : ReadsRequest bytes head rest
  pub bytes_within : length (print_request head) ≤ head_limit
  pub lines_within : length head.fields ≤ line_limit

-- the part of the bytes in which a head has to be whole
abbrev pub window : List ℕ → List ℕ
window bytes = take head_limit bytes

-- the bytes begin with this body, by its framing, and the rest follows
abbrev pub ReadsBody : Framing → List ℕ → List ℕ → List ℕ → Type 0
ReadsBody (of_length whole) bytes body rest = (bytes ≡ body ++ rest) × (length body ≡ whole)
ReadsBody chunked bytes body rest = (coding : Coding) × HasCoding bytes coding rest × (body ≡ data_of coding.chunks)

-- the bytes begin with this request, and the rest follows
pub record ReadsMessage (bytes : List ℕ) (request : Incoming) (rest : List ℕ) : Type 0 where
  pub head : RequestHead
  pub framing : Framing
  pub after : List ℕ
  pub body : List ℕ
  pub has : HasHead bytes head after
  pub framed : body_framing head ≡ Ok framing
  pub reads : ReadsBody framing after body rest
  pub is : request ≡ request_of head body

-- the bytes begin with no whole request
abbrev pub HasNoMessage : List ℕ → Type 0
HasNoMessage bytes = (request : Incoming) (rest : List ℕ) → ReadsMessage bytes request rest → ⊥

-- how bytes that begin with no request end
pub data Ending : Type 0 where
  done cut bad_head too_large : Ending

-- so many header lines have ended that a head has more than it may, whatever follows
abbrev pub HasTooManyLines : List ℕ → Type 0
HasTooManyLines bytes = RequestExceeds line_limit bytes

-- the bytes end before a head is whole, which more bytes could make whole, and no limit of the head is passed
pub record EndsInHead (bytes : List ℕ) : Type 0 where
  pub some : 0 < length bytes
  pub within : length bytes ≤ head_limit
  pub few_lines : ¬ (HasTooManyLines bytes)
  pub partial : HasNoRequest bytes
  pub open_ : MayBecomeRequest bytes

-- the bytes end before a body of a stated length is whole
abbrev pub EndsInBody : List ℕ → Type 0
EndsInBody bytes =
    (head : RequestHead) × (part : List ℕ) × (whole : ℕ) × HasHead bytes head part × (body_framing head ≡ Ok (of_length whole)) × (length part < whole)

-- a head is whole, its body is chunked, and the bytes after it begin with no coding, which end so
abbrev pub EndsInCoding : List ℕ → CodingEnd → Type 0
EndsInCoding bytes end =
    (head : RequestHead) × (part : List ℕ) × HasHead bytes head part × (body_framing head ≡ Ok chunked) × EndsCoding part end

-- A prefix decides that no head comes, whatever follows, and passes no limit of a head. It may be taken as the shortest that
-- decides.
pub record HasMalformedHead (bytes : List ℕ) : Type 0 where
  pub prefix : List ℕ
  pub begins : IsPrefix prefix bytes
  pub never : NeverHasRequest prefix
  pub within : length prefix ≤ head_limit
  pub few_lines : ¬ (HasTooManyLines prefix)

-- a head is whole, and states a malformed framing of the body
abbrev pub HasMalformedLength : List ℕ → Type 0
HasMalformedLength bytes = (head : RequestHead) × (rest : List ℕ) × HasHead bytes head rest × (body_framing head ≡ Err malformed_length)

-- no head is whole in the bytes that it may have, more bytes follow, and so far it could have become one
pub record HasLongHead (bytes : List ℕ) : Type 0 where
  pub more : head_limit < length bytes
  pub partial : HasNoRequest (window bytes)
  pub open_ : MayBecomeRequest (window bytes)

-- a head is whole, and states too large a length
abbrev pub HasTooLargeLength : List ℕ → Type 0
HasTooLargeLength bytes = (head : RequestHead) × (rest : List ℕ) × HasHead bytes head rest × (body_framing head ≡ Err too_large_length)

-- The bytes begin with no request, and this is why. A limit of the head is decided at the first byte after the most that it may
-- have, or at the end of the first header line above the most; what a head says of its body, at the end of the head; and what is
-- wrong with a coding, inside it.
abbrev pub EndsSo : List ℕ → Ending → Type 0
EndsSo bytes done = bytes ≡ []
EndsSo bytes cut = EndsInHead bytes ⊎ (EndsInBody bytes ⊎ EndsInCoding bytes partial_coding)
EndsSo bytes bad_head = HasMalformedHead bytes ⊎ (HasMalformedLength bytes ⊎ EndsInCoding bytes malformed_coding)
EndsSo bytes too_large =
    HasLongHead bytes ⊎ (HasTooManyLines (window bytes) ⊎ (HasTooLargeLength bytes ⊎ EndsInCoding bytes too_large_coding))

-- the bytes begin with these requests, one after another, and the rest follows
abbrev pub ReadsMessages : List ℕ → List Incoming → List ℕ → Type 0
ReadsMessages bytes [] rest = bytes ≡ rest
ReadsMessages bytes (request ∷ requests) rest = (between : List ℕ) × ReadsMessage bytes request between × ReadsMessages between requests rest
