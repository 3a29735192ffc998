-- The cores of one slice more are there, and at the end those of all.
use Rattle.std.proofs.Common.{◌≡◌, ◌∙◌, ◌<◌, ◌++◌, List, Some, None, length, slice_get, ap, sym, arith}
use Rattle.std.specs.Option.{option_copied}
use Rattle.std.proofs.lemmas.Option.{slice_get_within}
use Rattle.sc_io.specs.declared.hosts.Host.{Host}
use Rattle.sc_cores.specs.Cores.{cores_of_slice}
use Rattle.sc_cores.proofs.MapLemmas.{more_cores, all_of_map}
use Rattle.sc_cores.proofs.naming.cores_of_map.Goals as goal

-- src/naming.rt:43:5
pub loop-slice-preserved : goal.loop-slice-preserved
loop-slice-preserved c =
    let there : slice_get c.args.map.now c.loop-slice.at ≡ Some c.in-Some.slice.now = sym c.get.ensures.slice ∙ ap option_copied c.in-Some.is in
    let inside : c.loop-slice.at < length c.args.map.now = slice_get_within c.args.map.now c.loop-slice.at c.in-Some.slice.now there in
    record {
      within = omega (arith, inside);
      cores = c.in_ok-push_cores.ensures
          ∙ ap (λ (xs : List Host). xs ++ cores_of_slice c.args.nodes c.in-Some.slice.now) c.loop-slice.invariant.cores
          ∙ sym (more_cores c.args.nodes c.args.map.now c.loop-slice.at c.in-Some.slice.now there);
    }

-- src/naming.rt:37:1
pub returns : goal.returns
returns c =
    let none : slice_get c.args.map.now c.loop-slice.at ≡ None = sym c.get.ensures.slice ∙ ap option_copied c.in_default.is in
    c.from_vec.ensures ∙ c.loop-slice.invariant.cores ∙ all_of_map c.args.nodes c.args.map.now c.loop-slice.at none
