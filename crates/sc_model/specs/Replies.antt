-- What is written for an answer (RFC 9112, section 4).
use Rattle.std.specs.Prelude.{ℕ, Bool, true, false, List, [], ◌∷◌, ◌++◌, length, codes, decimal, nat_eq, Option, find, option_map}
use Rattle.std.specs.Option.{option_map_or}

-- a status and a body
pub record Reply : Type 0 where
  pub status : ℕ
  pub body : List ℕ

-- the most bytes of a reply, its head and its body together, that takes one write
abbrev pub one_write_limit : ℕ
one_write_limit = 4096

-- the statuses that are answered, with their reasons (RFC 9110, section 15)
abbrev pub reasons : List (ℕ × List ℕ)
reasons =
    (200, codes "OK") ∷ (400, codes "Bad Request") ∷ (404, codes "Not Found") ∷ (405, codes "Method Not Allowed")
    ∷ (409, codes "Conflict") ∷ (411, codes "Length Required") ∷ (413, codes "Content Too Large")
    ∷ (415, codes "Unsupported Media Type") ∷ (500, codes "Internal Server Error")
    ∷ (503, codes "Service Unavailable") ∷ (507, codes "Insufficient Storage") ∷ []

-- the reason of a status
abbrev pub reason_of : ℕ → Option (List ℕ)
reason_of status = option_map (λ row. row.1) (find (λ row. nat_eq row.0 status) reasons)

-- a line's end
abbrev pub line_end : List ℕ
line_end = 13 ∷ 10 ∷ []

-- the line that says that the connection is closed after the reply
abbrev pub close_line : Bool → List ℕ
close_line true = codes "Connection: close" ++ line_end
close_line false = []

-- the bytes of a reply
abbrev pub text_of : Reply → Bool → List ℕ
text_of reply close =
    codes "HTTP/1.1 " ++ decimal reply.status ++ codes " " ++ option_map_or (λ reason. reason) (reason_of reply.status) [] ++ line_end
    ++ codes "Content-Type: application/json;charset=utf-8" ++ line_end
    ++ codes "Content-Length: " ++ decimal (length reply.body) ++ line_end
    ++ close_line close ++ line_end
    ++ reply.body
