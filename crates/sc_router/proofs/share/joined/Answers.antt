-- The mask has the lowest bits set, and no other.
use Rattle.std.proofs.Common.{◌≡◌, ◌-◌, ◌*◌, ◌/◌, ◌%◌, ◌^◌, bit_and, arith}
use Rattle.std.proofs.lemmas.Nat.{one_shl, and_mask, or_shifted, pow_pos, mod_below}
use Rattle.std.proofs.lemmas.Nat.Bits.{and_high_mask}
use Rattle.sc_router.proofs.share.joined.Goals as goal

pub returns : goal.returns
returns c =
    let high = c.args.high in
    let low = c.args.low in
    let count = c.args.count in
    let bit : 1 * 2 ^ count % 18446744073709551616 ≡ 2 ^ count = one_shl count 64 (omega arith) in
    let positive = pow_pos count in
    let mask : 4294967295 - (2 ^ count - 1) ≡ 2 ^ 32 - 2 ^ count = omega arith in
    let top : bit_and high (2 ^ 32 - 2 ^ count) ≡ high / 2 ^ count * 2 ^ count = and_high_mask 32 count c.requires high (omega arith) in
    let rest : bit_and low (2 ^ count - 1) ≡ low % 2 ^ count = and_mask low count in
    rw (bit, mask, top, rest) (or_shifted (high / 2 ^ count) count (low % 2 ^ count) (mod_below low (2 ^ count) positive))
