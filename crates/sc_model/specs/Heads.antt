-- What the head of a request says (RFC 9112 and RFC 9110; the grammar of heads is that of `httparse`).
use Rattle.std.specs.Prelude.{ℕ, ◌==◌, Bool, not, ◌&&◌, ◌||◌, List, [], ◌∷◌, length, codes, filter, map, nat_lt, if◌then◌else◌, Result, Ok, Err}
use Rattle.std.specs.Char.{is_ascii_digit}
use Rattle.std.specs.List.{list_all, list_any, before_first, after_first}
use Rattle.std.specs.Str.{bytes_eq, str_eq_ignore_ascii_case}
use Rattle.std.specs.Str.Lossy.{utf8_lossy}
use Rattle.std.specs.Str.Parse.{digits_value}
use Rattle.httparse.specs.Grammar.{RequestHead, field_value, trim_ows}
use Rattle.httparse.specs.Spans.{name_and_value}
use Rattle.form_urlencoded.specs.Form.{raw_pairs, decode, split}
use Rattle.sc_chunks.specs.Coding.{data_limit}
use Rattle.sc_model.specs.declared.message.Incoming.{Incoming}
use Rattle.sc_model.specs.declared.message.Method.{Method}
use Rattle.sc_model.specs.declared.message.Method.TheVariants as methods
use Rattle.sc_model.specs.declared.message.Param.{Param}

-- the most bytes of a head
abbrev pub head_limit : ℕ
head_limit = 65536

-- the most header lines of a head
abbrev pub line_limit : ℕ
line_limit = 128

-- the most bytes of a body, which are those of the data of a chunked one
abbrev pub body_limit : ℕ
body_limit = data_limit

-- the values of the headers of a name, which is read in any case, in order and without the white space around them
abbrev pub header_values : List ℕ → RequestHead → List (List ℕ)
header_values name head = map field_value (filter (λ field. str_eq_ignore_ascii_case field.name name) head.fields)

-- the header lines: the name, which is read in any case, and the value without the white space around it
abbrev pub header_lines : RequestHead → List (List ℕ × List ℕ)
header_lines head = map name_and_value head.fields

-- how the end of a body is known (RFC 9112, section 6): by its length, or by the chunked coding
pub data Framing : Type 0 where
  of_length : ℕ → Framing
  chunked : Framing

-- why the end of a body can't be known
pub data LengthFault : Type 0 where
  malformed_length : LengthFault
  too_large_length : LengthFault

-- the line states the framing of the body
abbrev pub is_framing : List ℕ × List ℕ → Bool
is_framing line = str_eq_ignore_ascii_case line.0 (codes "content-length") || str_eq_ignore_ascii_case line.0 (codes "transfer-encoding")

-- one or more decimal digits
abbrev pub is_digits : List ℕ → Bool
is_digits text = nat_lt 0 (length text) && list_all is_ascii_digit text

-- the framing that a value of Content-Length states (RFC 9112, section 6.2)
abbrev pub length_of : List ℕ → Result Framing LengthFault
length_of value =
    if not (is_digits value) then Err malformed_length
    else (if nat_lt body_limit (digits_value 10 value) then Err too_large_length else Ok (of_length (digits_value 10 value)))

-- the framing that a value of Transfer-Encoding states (RFC 9112, section 6.1): no coding but `chunked` is read
abbrev pub coding_of : List ℕ → Result Framing LengthFault
coding_of value = if str_eq_ignore_ascii_case value (codes "chunked") then Ok chunked else Err malformed_length

-- the framing that one line states
abbrev pub framing_of : List ℕ × List ℕ → Result Framing LengthFault
framing_of line = if str_eq_ignore_ascii_case line.0 (codes "content-length") then length_of line.1 else coding_of line.1

-- a framing stands where no other line states one
abbrev pub alone : Result Framing LengthFault → Bool → Result Framing LengthFault
alone (Ok framing) others = if others then Err malformed_length else Ok framing
alone (Err fault) others = Err fault

-- the framing by the lines that state one, judged in order (RFC 9112, section 6.3): a second line is malformed, whatever its value
abbrev pub framing_by : List (List ℕ × List ℕ) → Result Framing LengthFault
framing_by [] = Ok (of_length 0)
framing_by (line ∷ more) = alone (framing_of line) (nat_lt 0 (length more))

-- the framing of the body that follows a head
abbrev pub body_framing : RequestHead → Result Framing LengthFault
body_framing head = framing_by (filter is_framing (header_lines head))

-- no line states the framing of the body
abbrev pub is_lengthless : RequestHead → Bool
is_lengthless head = not (list_any is_framing (header_lines head))

-- the value names a content coding: it is not `identity`
abbrev pub is_coding : List ℕ → Bool
is_coding value = not (bytes_eq value (codes "identity"))

-- the body has a content coding (RFC 9110, section 8.4)
abbrev pub is_encoded : RequestHead → Bool
is_encoded head = list_any is_coding (header_values (codes "content-encoding") head)

-- the method, as far as it is distinguished
abbrev pub method_of : List ℕ → Method
method_of name =
    if bytes_eq name (codes "GET") then methods.Get
    else (if bytes_eq name (codes "POST") then methods.Post else methods.Other)

-- the byte that ends the path, and the one between two tokens of a list
abbrev pub question_mark : ℕ
question_mark = 63

abbrev pub comma : ℕ
comma = 44

-- the target up to its first question mark
abbrev pub path_of : List ℕ → List ℕ
path_of target = before_first (λ b. b == question_mark) target

-- a parameter, decoded as a form's (URL Standard, section 5.1)
abbrev pub param_of : List ℕ × List ℕ → Param
param_of (name, value) = record { name = utf8_lossy (decode name); value = utf8_lossy (decode value) }

-- the pairs of a form as parameters, in order
abbrev pub form_params : List ℕ → List Param
form_params form = map param_of (raw_pairs form)

-- the parameters after the first question mark
abbrev pub params_of : List ℕ → List Param
params_of target = form_params (after_first (λ b. b == question_mark) target)

-- the value of a Connection header has the token close, in any case (RFC 9112, section 9.6)
abbrev pub says_close : List ℕ → Bool
says_close value = list_any (λ token. str_eq_ignore_ascii_case (trim_ows token) (codes "close")) (split comma value)

-- the method is HEAD, to which an answer is to have no content (RFC 9110, section 9.3.2)
abbrev pub is_head : List ℕ → Bool
is_head name = bytes_eq name (codes "HEAD")

-- the connection is to be closed: by HTTP/1.0, by the method HEAD or by a Connection header
abbrev pub asks_close : RequestHead → Bool
asks_close head = head.minor == 0 || (is_head head.method || list_any says_close (header_values (codes "connection") head))

-- the request that a head and the body after it are
abbrev pub request_of : RequestHead → List ℕ → Incoming
request_of head body = record {
  method = method_of head.method;
  path = path_of head.target;
  params = params_of head.target;
  body = body;
  encoded = is_encoded head;
  lengthless = is_lengthless head;
  close = asks_close head;
}
