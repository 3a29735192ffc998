-- The byte fills the last word, or waits after the others.
use Rattle.std.proofs.Common.{ap, ◌∙◌, ◌%◌, ◌+◌, ◌^◌}
use Rattle.sc_hash.specs.Hash.{after_word}
use Rattle.sc_hash.proofs.HasherLemmas.{progress_of, progress-fills, progress-waits}
use Rattle.sc_hash.proofs.hasher.Hasher.write.Goals as goal

pub returns-then-place-eq3 : goal.returns-then-place-eq3
returns-then-place-eq3 c seed text is =
    let hasher = c.self.inside in
    ap (λ hash. progress_of hash 0 ((hasher.count + 1) % 2 ^ 32)) (c.after_word-self-inside.ensures ∙ ap (after_word hasher.hash) c.with_byte-word.ensures.value)
    ∙ progress-fills hasher.hash hasher.word hasher.count c.args.byte seed text (c.self.view_is ∙ is) c.if-place-eq3.true

pub returns-else-place-eq3 : goal.returns-else-place-eq3
returns-else-place-eq3 c seed text is =
    let hasher = c.self.inside in
    ap (λ word. progress_of hasher.hash word ((hasher.count + 1) % 2 ^ 32)) c.with_byte-word.ensures.value
    ∙ progress-waits hasher.hash hasher.word hasher.count c.args.byte seed text (c.self.view_is ∙ is) c.if-place-eq3.false
