-- The searcher of the next active slice is put at the end, where the route asks for it.
use Rattle.std.proofs.Common.{◌≡◌, ◌∙◌, ◌+◌, [], ◌∷◌, Global, Vec, Iter, All, drop, refl, sym, ap, subst, arith}
use Rattle.std.specs.Option.{option_copied}
use Rattle.std.specs.Slice.Iter.{iter_rest, iter_steps}
use Rattle.std.proofs.lemmas.List.{append-nil}
use Rattle.std.proofs.lemmas.List.Elements.{All-head, All-tail}
use Rattle.sc_replicas.specs.declared.standing.Searcher.{Searcher}
use Rattle.sc_replicas.specs.declared.standing.Standing.{Standing}
use Rattle.sc_bucket.specs.Searchers.{AreOfEachSlice}
use Rattle.sc_bucket.proofs.AskedLemmas.{slice_is_there, next_searcher, searcher_left, no_searcher, IsOfSlice-share, asked_active, asked_inactive, AreAdded, added_one, added_none}
use Rattle.sc_bucket.proofs.SearcherLemmas.{Show}
use Rattle.sc_bucket.proofs.TakenLemmas.{Contains-slice_get, active_from_test, inactive_from_test}
use Rattle.sc_bucket.proofs.bucket.Bucket.searchers.Goals as goal
use Rattle.sc_bucket.proofs.bucket.Bucket.searchers.Goals.{then-eq+then-asks_for+in_ok-try_clone+in_ok-push, then-eq+else-asks_for, else-eq}

pub loop-at-init : goal.loop-at-init
loop-at-init c =
    let b = c.args.self.now in
    record {
      left = subst (AreOfEachSlice b.map) (sym c.iter-standings.ensures) c.requires.sound.searchers.each_slice;
      show = subst (All (Show b.map b.journal.entries)) (sym c.iter-standings.ensures) c.requires.sound.searchers.show;
      added = record { more = []; added = sym (append-nil c.args.into.now.items); are = tt };
    }

pub unwrap-slice-requires : goal.unwrap-slice-requires
unwrap-slice-requires c =
    slice_is_there c.args.self.now.map c.loop-at.at c.get.result c.get.ensures.slice (omega (arith, c.loop-at-test.true, c.len-at-end.ensures))

pub unwrap-standing-requires : goal.unwrap-standing-requires
unwrap-standing-requires c =
    let slice = c.unwrap-slice.result.now in
    searcher_left c.args.self.now.map c.loop-at.at slice c.loop-at.standings c.next.new.self c.next.result
    (sym c.get.ensures.slice ∙ ap option_copied c.unwrap-slice.ensures) (active_from_test slice.state (sym c.eq.ensures ∙ c.if-eq.true))
    c.loop-at.invariant.left c.next.ensures.steps

pub loop-at-preserved : goal.loop-at-preserved
loop-at-preserved c =
    let b = c.args.self.now in
    let entries = b.journal.entries in
    let route = c.args.route.now in
    let at = c.loop-at.at in
    let old = c.args.into.now.items in
    let slice = c.unwrap-slice.result.now in
    let there = sym c.get.ensures.slice ∙ ap option_copied c.unwrap-slice.ensures in
    let IsShown : Standing → Type 0 = Show b.map entries in
    elim c.if-eq.branch [
      | then-eq+then-asks_for+in_ok-try_clone+in_ok-push w ↦
          let active = active_from_test slice.state (sym c.eq.ensures ∙ w.if-eq.true) in
          let standing : Standing = w.unwrap-standing.result.now in
          let rest : iter_rest c.loop-at.standings ≡ standing ∷ iter_rest w.next.new.self =
          subst (λ found. iter_steps c.loop-at.standings found w.next.new.self) w.unwrap-standing.ensures w.next.ensures.steps in
          let (own, others) = next_searcher b.map at slice (iter_rest c.loop-at.standings) (iter_rest w.next.new.self) standing there active rest
          c.loop-at.invariant.left in
          let show : All IsShown (standing ∷ iter_rest w.next.new.self) = subst (All IsShown) rest c.loop-at.invariant.show in
          record {
            left = subst (λ (it : Iter Standing). AreOfEachSlice (drop (at + 1) b.map) (iter_rest it)) (sym w.standings-is) others;
            show = subst (λ (it : Iter Standing). All IsShown (iter_rest it)) (sym w.standings-is)
                (All-tail IsShown standing (iter_rest w.next.new.self) show);
            added = subst (λ (v : Vec Searcher Global). AreAdded entries route b.map (at + 1) old v.items) (sym w.into-is)
                (added_one entries route b.map at slice _ old c.loop-at.into.items _ there
                (asked_active route slice _ active (sym w.asks_for.ensures ∙ w.if-asks_for.true))
                (IsOfSlice-share b.map entries slice standing _ (Contains-slice_get b.map at slice there) own
                (All-head IsShown standing (iter_rest w.next.new.self) show) refl w.in_ok-try_clone.ensures)
                w.in_ok-push.ensures.items c.loop-at.invariant.added);
          }
      | then-eq+else-asks_for w ↦
          let active = active_from_test slice.state (sym c.eq.ensures ∙ w.if-eq.true) in
          let standing : Standing = w.unwrap-standing.result.now in
          let rest : iter_rest c.loop-at.standings ≡ standing ∷ iter_rest w.next.new.self =
          subst (λ found. iter_steps c.loop-at.standings found w.next.new.self) w.unwrap-standing.ensures w.next.ensures.steps in
          let (own, others) = next_searcher b.map at slice (iter_rest c.loop-at.standings) (iter_rest w.next.new.self) standing there active rest
          c.loop-at.invariant.left in
          let show : All IsShown (standing ∷ iter_rest w.next.new.self) = subst (All IsShown) rest c.loop-at.invariant.show in
          record {
            left = subst (λ (it : Iter Standing). AreOfEachSlice (drop (at + 1) b.map) (iter_rest it)) (sym w.standings-is) others;
            show = subst (λ (it : Iter Standing). All IsShown (iter_rest it)) (sym w.standings-is)
                (All-tail IsShown standing (iter_rest w.next.new.self) show);
            added = subst (λ (v : Vec Searcher Global). AreAdded entries route b.map (at + 1) old v.items) (sym w.into-is)
                (added_none entries route b.map at slice old c.loop-at.into.items there
                (asked_active route slice _ active (sym w.asks_for.ensures ∙ w.if-asks_for.false)) c.loop-at.invariant.added);
          }
      | else-eq w ↦
          let inactive = inactive_from_test slice.state (sym c.eq.ensures ∙ w.if-eq.false) in
          record {
            left = subst (λ (it : Iter Standing). AreOfEachSlice (drop (at + 1) b.map) (iter_rest it)) (sym w.standings-is)
                (no_searcher b.map at slice (iter_rest c.loop-at.standings) there inactive c.loop-at.invariant.left);
            show = subst (λ (it : Iter Standing). All IsShown (iter_rest it)) (sym w.standings-is) c.loop-at.invariant.show;
            added = subst (λ (v : Vec Searcher Global). AreAdded entries route b.map (at + 1) old v.items) (sym w.into-is)
                (added_none entries route b.map at slice old c.loop-at.into.items there (asked_inactive route slice inactive) c.loop-at.invariant.added);
          }
    ]
