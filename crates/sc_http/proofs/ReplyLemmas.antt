-- The bytes of a reply, piece by piece.
use Rattle.std.proofs.Common.{◌≡◌, ℕ, Bool, List, [], ◌++◌, Option, Some, None, codes, decimal, sym, ap, ◌∙◌, append_assoc}
use Rattle.std.specs.Prelude.{IfSome}
use Rattle.std.specs.Option.{option_map_or}
use Rattle.sc_io.specs.Pieces.{AddsPrefix}
use Rattle.sc_model.specs.Replies.{reason_of, line_end, close_line}
use Rattle.sc_http.specs.ReplyHead.{head_text}

-- the pieces of a head with these first bytes, reason and closing line
abbrev pieces : ℕ → ℕ → List ℕ → List ℕ → List ℕ → List ℕ
pieces status size a b c =
    ((((((((a ++ codes "HTTP/1.1 ") ++ decimal status) ++ codes " ") ++ b)
    ++ (line_end ++ (codes "Content-Type: application/json;charset=utf-8" ++ (line_end ++ codes "Content-Length: ")))) ++ decimal size) ++ line_end) ++ c) ++ line_end

-- the pieces of a head, as they are put one after the other
pub head_is_text : (status size : ℕ) (closes : Bool) (reason closing empty : List ℕ) → reason_of status ≡ Some reason → closing ≡ close_line closes → empty ≡ []
    → ((((((((empty ++ codes "HTTP/1.1 ") ++ decimal status) ++ codes " ") ++ reason)
    ++ (line_end ++ (codes "Content-Type: application/json;charset=utf-8" ++ (line_end ++ codes "Content-Length: ")))) ++ decimal size) ++ line_end) ++ closing) ++ line_end
    ≡ head_text status size closes
head_is_text status size closes reason closing empty known close none =
    ap (λ xs. pieces status size xs reason closing) none ∙ ap (λ xs. pieces status size [] xs closing) (ap (λ o. option_map_or (λ r. r) o []) (sym known))
    ∙ ap (λ xs. pieces status size [] (option_map_or (λ r. r) (reason_of status) []) xs) close
    ∙ ap (λ xs. ((xs ++ decimal size) ++ line_end) ++ close_line closes ++ line_end)
    (regroup (((codes "HTTP/1.1 " ++ decimal status) ++ codes " ") ++ option_map_or (λ r. r) (reason_of status) []) line_end
    (codes "Content-Type: application/json;charset=utf-8") line_end (codes "Content-Length: "))
  where
    regroup : (x a b c d : List ℕ) → x ++ (a ++ (b ++ (c ++ d))) ≡ x ++ a ++ b ++ c ++ d
    regroup x a b c d = simp append_assoc

-- a prefix of the head is one of the head and the body
pub first_failed : (head body : List ℕ) (old new : Option (List ℕ)) → IfSome old (λ bytes. AddsPrefix bytes head new) → IfSome old (λ bytes. AddsPrefix bytes (head ++ body) new)
first_failed head body None new added = tt
first_failed head body (Some bytes) new added = record {
  prefix = added.prefix;
  left = added.left ++ body;
  whole = ap (λ xs. xs ++ body) added.whole ∙ append_assoc added.prefix added.left body;
  added = added.added;
}
