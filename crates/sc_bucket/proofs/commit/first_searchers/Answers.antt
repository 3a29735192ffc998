-- No cells may be rows, and each slice gets a searcher of none, as its leader has none.
use Rattle.std.proofs.Common.{◌≡◌, ◌∙◌, ◌+◌, List, [], Global, refl, sym, ap, subst, take, All, Contains, map, arith}
use Rattle.std.specs.Arc.{arc_value}
use Rattle.std.specs.declared.sync.Arc.{Arc}
use Rattle.std.specs.Option.{option_copied}
use Rattle.std.proofs.lemmas.List.{take_all}
use Rattle.std.proofs.lemmas.List.Elements.{All-push, All-contains}
use Rattle.sc_record.specs.Writes.{Write}
use Rattle.sc_snapshot.specs.Rows.{AreRows}
use Rattle.sc_cluster.specs.declared.slice.Slice.{Slice}
use Rattle.sc_cluster.specs.declared.slice.State.TheVariants as states
use Rattle.sc_replica.specs.Core.{Core}
use Rattle.sc_replicas.specs.Cores.{IsNewCore}
use Rattle.sc_bucket.specs.Searchers.{AreOfEachSlice, AreLed, AreTaken, IsTaken}
use Rattle.sc_replicas.specs.declared.standing.Standing.{Standing}
use Rattle.sc_bucket.proofs.SearcherLemmas.{no_rows}
use Rattle.sc_bucket.proofs.TakenLemmas.{Contains-slice_get, AreOfEachSlice-active}
use Rattle.sc_bucket.proofs.commit.first_searchers.Goals as goal

-- a searcher of no rows is that of an active slice, whose leader is new
taken_new : (slices : List Slice) (cores : List Core) (slice : Slice) (searcher : Standing) → Contains slices slice
    → slice.state ≡ states.Active → AreLed slices cores → All IsNewCore cores → searcher.slice ≡ slice.id → searcher.range ≡ slice.range
    → arc_value searcher.snapshot ≡ record { place = 0; rows = [] } → IsTaken slices cores 0 searcher
taken_new slices cores slice searcher there active led new slice_is range_is snapshot_is =
    let (core, core_there, leader) = led slice there active in
    record {
      slice = slice;
      there = there;
      active = active;
      slice_is = slice_is;
      range_is = range_is;
      core = core;
      core_there = core_there;
      leader = leader;
      snapshot_is = snapshot_is
          ∙ ap (λ (rows : List Write). record { place = 0; rows = rows }) (sym (All-contains IsNewCore cores core new core_there).cells);
    }

pub from_list-requires : goal.from_list-requires
from_list-requires c = subst AreRows (sym (ap (map arc_value) c.new.ensures)) no_rows

pub loop-at-preserved : goal.loop-at-preserved
loop-at-preserved c =
    let slice = c.unwrap-slice.result.now in
    let there = sym c.get.ensures.slice ∙ ap option_copied c.unwrap-slice.ensures in
    let slices = c.args.slices.now in
    let here = Contains-slice_get slices c.loop-at.at slice there in
    let active = All-contains (λ (one : Slice). one.state ≡ states.Active) slices slice c.requires.active here in
    let searcher : Standing = record { slice = slice.id; range = slice.range; snapshot = c.in_ok-new.field-0 } in
    let items = c.in_ok-push.ensures.items in
    record {
      each_slice = subst (AreOfEachSlice (take (c.loop-at.at + 1) slices)) (sym items)
          (AreOfEachSlice-active slices c.loop-at.at slice c.loop-at.searchers.items searcher there active refl c.loop-at.invariant.each_slice);
      taken = λ cores led new. subst (All (IsTaken slices cores 0)) (sym items)
          (All-push (IsTaken slices cores 0) c.loop-at.searchers.items searcher (c.loop-at.invariant.taken cores led new)
          (taken_new slices cores slice searcher here active led new refl refl (c.in_ok-new.ensures.ok ∙ c.in_ok-from_list.ensures
          ∙ ap (λ (cells : List (Arc Write Global)). record { place = 0; rows = map arc_value cells }) c.new.ensures)));
    }

pub returns : goal.returns
returns c cores led new =
    let slices = c.args.slices.now in
    let items = c.loop-at.searchers.items in
    subst (AreTaken slices cores 0) (sym (c.from_vec.ensures ∙ c.shrink_to_fit.ensures.items)) (record {
      each_slice = subst (λ (these : List Slice). AreOfEachSlice these items)
          (take_all c.loop-at.at slices (omega (arith, c.loop-at-test.false, c.len-at-end.ensures))) c.loop-at.invariant.each_slice;
      taken = c.loop-at.invariant.taken cores led new;
    })
