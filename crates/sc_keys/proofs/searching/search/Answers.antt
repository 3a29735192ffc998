-- The comparisons among the tops, and those among less than 32 keys.
use Rattle.std.proofs.Common.{◌+◌, ◌-◌, ◌*◌, ◌/◌, ◌<◌, ◌≤◌, length, arith}
use Rattle.sc_keys.proofs.SearchLemmas.{bound_both}
use Rattle.sc_keys.proofs.searching.search.Goals as goal

pub returns-in-Err-clause-bound : goal.returns-in-Err-clause-bound
returns-in-Err-clause-bound g c =
    let n = length c.args.keys.now.keys in
    let w = 32 * c.in-Err.block + c.min.result - c.max.result in
    let few : w < 32 = omega (arith, c.min.ensures, c.max.ensures) in
    let within : w ≤ n = omega (arith, c.min.ensures, c.max.ensures, c.len-count.ensures, c.in-Err.ensures.within) in
    bound_both c.args.steps.now c.block_of.new.steps c.search_between.new.steps (n / 32) w n
    c.block_of.ensures.counted c.search_between.ensures.counted c.block_of.ensures.bound c.search_between.ensures.bound (omega arith) few within
