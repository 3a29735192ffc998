-- The bytes of a reply before its body.
use Rattle.std.specs.Prelude.{ℕ, Bool, List, [], ◌++◌, codes, decimal}
use Rattle.std.specs.Option.{option_map_or}
use Rattle.sc_model.specs.Replies.{reason_of, line_end, close_line}

-- the status line, the headers and the empty line after them, for a body of this length (RFC 9112, section 4)
abbrev pub head_text : ℕ → ℕ → Bool → List ℕ
head_text status length close =
    codes "HTTP/1.1 " ++ decimal status ++ codes " " ++ option_map_or (λ reason. reason) (reason_of status) [] ++ line_end
    ++ codes "Content-Type: application/json;charset=utf-8" ++ line_end
    ++ codes "Content-Length: " ++ decimal length ++ line_end
    ++ close_line close ++ line_end
