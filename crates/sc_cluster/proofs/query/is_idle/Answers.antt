-- A slice that is being made is one that the filter keeps.
use Rattle.std.proofs.Common.{◌≡◌, ◌∙◌, false, sym, Contains}
use Rattle.std.proofs.lemmas.Bool.{false≢true}
use Rattle.std.proofs.lemmas.List.Elements.{All-contains}
use Rattle.sc_cluster.specs.Slices.{is_forming}
use Rattle.sc_cluster.proofs.ListLemmas.{none_from_filter}
use Rattle.sc_cluster.proofs.query.is_idle.Goals as goal

pub returns-then-is_forming : goal.returns-then-is_forming
returns-then-is_forming c =
    let slices = c.args.slices.now in
    let slice = c.slice-item.result in
    let there : Contains slices slice = (c.loop-slice.slice-index, c.loop-slice-test.true, sym c.slice-item.is) in (
      λ passes. absurd (false≢true passes),
      λ none.
          let fails = All-contains (λ s. is_forming s ≡ false) slices slice (none_from_filter is_forming slices none) there in
          sym fails ∙ sym c.is_forming.ensures ∙ c.if-is_forming.true,
    )
