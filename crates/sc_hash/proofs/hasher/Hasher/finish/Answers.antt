-- The bytes that wait are mixed in last, and then the length.
use Rattle.std.proofs.Common.{ap, ◌∙◌, bit_xor}
use Rattle.sc_hash.specs.Hash.{final_mix}
use Rattle.sc_hash.proofs.HasherLemmas.{progress-finish}
use Rattle.sc_hash.proofs.hasher.Hasher.finish.Goals as goal

pub returns : goal.returns
returns c seed text is few =
    let hasher = c.self.inside in
    c.final_mix.ensures
    ∙ ap (λ mix. final_mix (bit_xor (bit_xor hasher.hash mix) hasher.count)) c.word_mix.ensures
    ∙ progress-finish hasher.hash hasher.word hasher.count seed text (c.self.view_is ∙ is) few
