-- Each word of the loop is the next word of the recursion, and what is left is its rest.
use Rattle.std.proofs.Common.{◌≡◌, ◌*◌, ◌/◌, ◌+◌, length, drop, ap, sym, ◌∙◌, arith, bit_xor}
use Rattle.std.proofs.lemmas.List.{take_rest}
use Rattle.sc_hash.specs.Hash.{after_word, after_text, final_mix, murmur3}
use Rattle.sc_hash.proofs.WordLemmas.{after_text-drop}
use Rattle.sc_hash.proofs.hash.murmur3.Goals as goal

pub loop-i-preserved : goal.loop-i-preserved
loop-i-preserved c =
    let bytes = c.args.bytes.now in
    let word = c.from_le_bytes-word.ensures in
    let next = c.after_word-hash.ensures ∙ ap (after_word c.loop-i.hash) word in
    ap (λ hash. after_text hash (drop (4 * (c.loop-i.i + 1)) bytes)) next
    ∙ sym (after_text-drop c.loop-i.hash bytes (4 * c.loop-i.i) (4 * (c.loop-i.i + 1)) (omega arith) (omega arith))
    ∙ c.loop-i.invariant

pub returns : goal.returns
unfolding murmur3
returns c =
    let bytes = c.args.bytes.now in
    let at_end : c.loop-i.i ≡ length bytes / 4 = omega arith in
    let rest =
    c.after_rest-hash.ensures
    ∙ ap (after_text c.loop-i.hash) (take_rest bytes (4 * (length bytes / 4)))
    ∙ ap (λ i. after_text c.loop-i.hash (drop (4 * i) bytes)) (sym at_end)
    ∙ c.loop-i.invariant in
    c.final_mix.ensures ∙ ap (λ hash. final_mix (bit_xor hash (length bytes))) rest
