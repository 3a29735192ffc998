-- Each active slice gets its searcher.
use Rattle.std.proofs.Common.{◌∙◌, ◌+◌, Global, Vec, List, length, sym, ap, subst, take, All, arith}
use Rattle.std.specs.Option.{option_copied}
use Rattle.std.proofs.lemmas.List.{take_all}
use Rattle.std.proofs.lemmas.List.Elements.{All-push}
use Rattle.sc_cluster.specs.declared.slice.Slice.{Slice}
use Rattle.sc_bucket.specs.Searchers.{AreOfEachSlice, AreTaken, IsTaken}
use Rattle.sc_replicas.specs.declared.standing.Standing.{Standing}
use Rattle.sc_bucket.proofs.TakenLemmas.{Contains-slice_get, active_from_test, inactive_from_test, AreOfEachSlice-active, AreOfEachSlice-inactive, fewer-before_active}
use Rattle.sc_bucket.proofs.commit.searchers_at.Goals as goal
use Rattle.sc_bucket.proofs.commit.searchers_at.Goals.{then-eq+in_ok-searcher_of, else-eq}

pub searcher_of-requires-clause-there : goal.searcher_of-requires-clause-there
searcher_of-requires-clause-there c =
    Contains-slice_get c.args.bucket.now.map c.loop-at.at c.unwrap-slice.result.now (sym c.get.ensures.slice ∙ ap option_copied c.unwrap-slice.ensures)

pub searcher_of-requires-clause-active : goal.searcher_of-requires-clause-active
searcher_of-requires-clause-active c = active_from_test c.unwrap-slice.result.now.state (sym c.eq.ensures ∙ c.if-eq.true)

pub push_reserved-requires : goal.push_reserved-requires
push_reserved-requires c =
    let b = c.args.bucket.now in
    let slice = c.unwrap-slice.result.now in
    let there = sym c.get.ensures.slice ∙ ap option_copied c.unwrap-slice.ensures in
    let fewer = fewer-before_active b.map c.loop-at.at slice c.loop-at.searchers.items b.searchers there
    (active_from_test slice.state (sym c.eq.ensures ∙ c.if-eq.true)) c.loop-at.invariant.each_slice c.requires.sound.searchers.each_slice in
    omega (arith, fewer, c.loop-at.invariant.room, c.loop-at.searchers.ok)

pub loop-at-preserved : goal.loop-at-preserved
loop-at-preserved c =
    let b = c.args.bucket.now in
    let slice = c.unwrap-slice.result.now in
    let there = sym c.get.ensures.slice ∙ ap option_copied c.unwrap-slice.ensures in
    let slices = b.map in
    let IsOne = IsTaken slices b.replicas (length b.journal.entries) in
    elim c.if-eq.branch [
      | then-eq+in_ok-searcher_of w ↦
          let searcher = w.in_ok-searcher_of.field-0 in
          let active = active_from_test slice.state (sym c.eq.ensures ∙ w.if-eq.true) in
          let items = ap (λ (v : Vec Standing Global). v.items) w.searchers-is ∙ w.push_reserved.ensures.items in
          record {
            room = ap (λ (v : Vec Standing Global). v.cap) w.searchers-is ∙ w.push_reserved.ensures.capacity ∙ c.loop-at.invariant.room;
            each_slice = subst (AreOfEachSlice (take (c.loop-at.at + 1) slices)) (sym items)
                (AreOfEachSlice-active slices c.loop-at.at slice c.loop-at.searchers.items searcher there active
                w.in_ok-searcher_of.ensures.of_slice c.loop-at.invariant.each_slice);
            taken = subst (All IsOne) (sym items)
                (All-push IsOne c.loop-at.searchers.items searcher c.loop-at.invariant.taken w.in_ok-searcher_of.ensures.taken);
          }
      | else-eq w ↦
          let inactive = inactive_from_test slice.state (sym c.eq.ensures ∙ w.if-eq.false) in
          let items = ap (λ (v : Vec Standing Global). v.items) w.searchers-is in
          record {
            room = ap (λ (v : Vec Standing Global). v.cap) w.searchers-is ∙ c.loop-at.invariant.room;
            each_slice = subst (AreOfEachSlice (take (c.loop-at.at + 1) slices)) (sym items)
                (AreOfEachSlice-inactive slices c.loop-at.at slice c.loop-at.searchers.items there inactive c.loop-at.invariant.each_slice);
            taken = subst (All IsOne) (sym items) c.loop-at.invariant.taken;
          }
    ]

pub returns : goal.returns
returns c =
    let b = c.args.bucket.now in
    let items = c.loop-at.searchers.items in
    subst (AreTaken b.map b.replicas (length b.journal.entries)) (sym c.from_vec.ensures) (record {
      each_slice = subst (λ (slices : List Slice). AreOfEachSlice slices items)
          (take_all c.loop-at.at b.map (omega (arith, c.loop-at-test.false, c.len-at-end.ensures))) c.loop-at.invariant.each_slice;
      taken = c.loop-at.invariant.taken;
    })
