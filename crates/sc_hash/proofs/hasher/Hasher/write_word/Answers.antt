-- Where no byte waits the four are a whole word, and else they are written one by one.
use Rattle.std.proofs.Common.{◌≡◌, ◌+◌, ◌%◌, ◌^◌, ◌∷◌, ◌++◌, [], length, get_or, ap, ◌∙◌, arith, append_assoc}
use Rattle.sc_hash.specs.Hash.{after_word}
use Rattle.sc_hash.specs.Hasher.{progress}
use Rattle.sc_hash.proofs.HasherLemmas.{progress_of, progress-word, each_of_four}
use Rattle.sc_hash.proofs.hasher.Hasher.write_word.Goals as goal

pub returns-then-self-eq0 : goal.returns-then-self-eq0
returns-then-self-eq0 c seed text is =
    let hasher = c.self.inside in
    let bytes = c.args.bytes in
    ap (λ hash. progress_of hash hasher.word ((hasher.count + 4) % 2 ^ 32)) (c.after_word-self-inside.ensures ∙ ap (after_word hasher.hash) c.from_le_bytes.ensures)
    ∙ progress-word hasher.hash hasher.word hasher.count seed text bytes (c.self.view_is ∙ is) c.if-self-eq0.true (omega arith)

pub returns-else-self-eq0 : goal.returns-else-self-eq0
returns-else-self-eq0 c seed text is =
    let bytes = c.args.bytes in
    let four : length bytes ≡ 4 = omega arith in
    let one = text ++ get_or bytes 0 0 ∷ [] in
    let two = one ++ get_or bytes 1 0 ∷ [] in
    let three = two ++ get_or bytes 2 0 ∷ [] in
    let all : three ++ get_or bytes 3 0 ∷ [] ≡ text ++ bytes = simp append_assoc (ap (λ end. text ++ end) (each_of_four bytes four)) in
    c.write-else-self-eq0-3.ensures seed three (c.write-else-self-eq0-2.ensures seed two (c.write-else-self-eq0.ensures seed one (c.write.ensures seed text is)))
    ∙ ap (progress seed) all
