-- The value that a body is.
use Rattle.std.specs.Prelude.{ℕ, List, if◌then◌else◌, Option, None}
use Rattle.std.specs.Str.{is_utf8}
use Rattle.serde_json.specs.Data.{Data}
use Rattle.serde_json.specs.Read.{read}

-- the JSON value that a body is (RFC 8259), with arrays and objects in one another at most 127 deep
abbrev pub json_of : List ℕ → Option Data
json_of body = if is_utf8 body then read body else None
