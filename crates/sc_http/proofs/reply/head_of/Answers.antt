-- The pieces have room, and stand one after the other.
use Rattle.std.proofs.Common.{[], ◌∷◌, ◌++◌, ap, ◌∙◌, codes, decimal}
use Rattle.sc_model.specs.Replies.{line_end}
use Rattle.sc_http.proofs.ReplyLemmas.{head_is_text}
use Rattle.sc_http.proofs.reply.head_of.Goals as goal

pub returns : goal.returns
returns c =
    c.put-9.ensures.items ∙ ap (λ xs. xs ++ 13 ∷ 10 ∷ []) (c.put-8.ensures.items ∙ ap (λ xs. xs ++ c.close_line.result.now) (c.put-7.ensures.items
    ∙ ap (λ xs. xs ++ 13 ∷ 10 ∷ []) (c.put-6.ensures.items ∙ ap (λ xs. c.put-5.new.bytes.items ++ xs) c.format-2.ensures.text ∙ ap (λ xs. xs ++ decimal c.args.length) (c.put-5.ensures.items
    ∙ ap (λ xs. xs ++ (line_end ++ (codes "Content-Type: application/json;charset=utf-8" ++ (line_end ++ codes "Content-Length: ")))) (c.put-4.ensures.items
    ∙ ap (λ xs. xs ++ c.reason_of.result.now) (c.put-3.ensures.items ∙ ap (λ xs. xs ++ codes " ") (c.put-2.ensures.items
    ∙ ap (λ xs. c.put.new.bytes.items ++ xs) c.format.ensures.text ∙ ap (λ xs. xs ++ decimal c.args.status) c.put.ensures.items)))))))
    ∙ head_is_text c.args.status c.args.length c.args.close c.reason_of.result.now c.close_line.result.now c.new-head.result.items
    c.reason_of.ensures.reason c.close_line.ensures.line c.new-head.ensures
