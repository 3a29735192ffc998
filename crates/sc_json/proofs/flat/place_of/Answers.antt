-- The names before a name that comes before this one do so too, and those after one that comes after it come after it.
use Rattle.std.proofs.Common.{◌≡◌, suc, ◌-◌, ◌<◌, take, drop, length, subst, arith, rules}
use Rattle.std.specs.Cmp.Lexicographic.{slice_cmp}
use Rattle.std.specs.List.{AllByRecursion}
use Rattle.std.specs.Ordering.{nat_cmp}
use Rattle.std.specs.declared.cmp.Ordering.TheVariants.{Less, Greater}
use Rattle.sc_schema.specs.Raw.{raw_names}
use Rattle.sc_json.proofs.PlaceLemmas.{flipped, all_before, one_more_after}
use Rattle.sc_json.proofs.flat.place_of.Goals as goal

pub returns-in-Less-clause-place : goal.returns-in-Less-clause-place
returns-in-Less-clause-place c =
    let l = c.loop-at in
    let f = c.index-fields-at.result in
    let less : slice_cmp nat_cmp f.name c.args.name.now ≡ Less = search rules in
    let within : l.at - 1 < length c.args.fields.now = omega (arith, l.invariant.0) in
    let next : suc (l.at - 1) ≡ l.at = omega arith in
    let before = all_before c.args.fields.now (l.at - 1) f c.args.name.now c.requires within c.index-fields-at.is less in
    (subst (λ i. AllByRecursion (λ other. slice_cmp nat_cmp other c.args.name.now ≡ Less) (take i (raw_names c.args.fields.now))) next before, l.invariant.1)

pub loop-at-preserved : goal.loop-at-preserved
loop-at-preserved c =
    let l = c.loop-at in
    let f = c.index-fields-at.result in
    let more : slice_cmp nat_cmp f.name c.args.name.now ≡ Greater = search rules in
    let within : l.at - 1 < length c.args.fields.now = omega (arith, l.invariant.0) in
    let next : l.at ≡ suc (l.at - 1) = omega arith in
    let rest = subst (λ i. AllByRecursion (λ other. slice_cmp nat_cmp c.args.name.now other ≡ Less) (drop i (raw_names c.args.fields.now))) next l.invariant.1 in
    (omega arith, one_more_after c.args.fields.now (l.at - 1) f c.args.name.now within c.index-fields-at.is (flipped f.name c.args.name.now more) rest)
