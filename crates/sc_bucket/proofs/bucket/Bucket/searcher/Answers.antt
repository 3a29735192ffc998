-- The first active slice has a searcher, which shows what was committed there.
use Rattle.std.proofs.Common.{◌≡◌, ◌∙◌, Contains, refl, sym, ap, subst, arith}
use Rattle.std.specs.Option.{option_copied}
use Rattle.std.proofs.lemmas.List.Elements.{All-contains}
use Rattle.sc_cluster.specs.declared.slice.Slice.{Slice}
use Rattle.sc_snapshot.specs.Rows.{SnapshotState}
use Rattle.sc_replicas.specs.Searchers.{standing_rows}
use Rattle.sc_bucket.specs.Searchers.{ShowsCommitted}
use Rattle.sc_replicas.specs.declared.standing.Standing.{Standing}
use Rattle.sc_bucket.proofs.TakenLemmas.{Contains-slice_get, active_from_test, inactive_from_test, has_searcher, NoneIsActive-more, NoneIsActive-all}
use Rattle.sc_bucket.proofs.bucket.Bucket.searcher.Goals as goal

pub searcher_for-standing-requires : goal.searcher_for-standing-requires
searcher_for-standing-requires c =
    let b = c.args.self.now in
    let slice = c.unwrap-slice.result.now in
    let there = sym c.get.ensures.slice ∙ ap option_copied c.unwrap-slice.ensures in
    let active = active_from_test slice.state (sym c.eq.ensures ∙ c.if-eq.true) in
    has_searcher b.map b.searchers slice c.requires.searchers.each_slice (Contains-slice_get b.map c.loop-at.at slice there) active

pub returns-then-eq : goal.returns-then-eq
returns-then-eq c =
    let b = c.args.self.now in
    let slice = c.unwrap-slice.result.now in
    let searcher = c.searcher_for-standing.result.now in
    let there = sym c.get.ensures.slice ∙ ap option_copied c.unwrap-slice.ensures in
    let of_slice = c.searcher_for-standing.ensures.of_slice in
    let shown = All-contains (λ (s : Standing). (one : Slice) → Contains b.map one → one.id ≡ s.slice
    → (s.range ≡ one.range) × ShowsCommitted b.journal.entries one (standing_rows s))
    b.searchers searcher c.requires.searchers.show c.searcher_for-standing.ensures.there slice
    (Contains-slice_get b.map c.loop-at.at slice there) (sym of_slice) in
    record {
      at = c.loop-at.at;
      slice = slice;
      from_on = omega arith;
      there = there;
      active = active_from_test slice.state (sym c.eq.ensures ∙ c.if-eq.true);
      first = c.loop-at.invariant;
      next_is = refl;
      searcher = searcher;
      kept = c.searcher_for-standing.ensures.there;
      of_slice = of_slice;
      snapshot_is = c.in_ok-try_clone.ensures;
      range_is = shown.0;
      shows = subst (λ (snapshot : SnapshotState). ShowsCommitted b.journal.entries slice snapshot.rows) (sym c.in_ok-try_clone.ensures) shown.1;
    }

pub loop-at-preserved : goal.loop-at-preserved
loop-at-preserved c =
    let slice = c.unwrap-slice.result.now in
    let there = sym c.get.ensures.slice ∙ ap option_copied c.unwrap-slice.ensures in
    NoneIsActive-more c.args.self.now.map c.args.from c.loop-at.at slice (omega arith) there
    (inactive_from_test slice.state (sym c.eq.ensures ∙ c.if-eq.false)) c.loop-at.invariant

pub returns : goal.returns
returns c = NoneIsActive-all c.args.self.now.map c.args.from c.loop-at.at (omega arith) c.loop-at.invariant
