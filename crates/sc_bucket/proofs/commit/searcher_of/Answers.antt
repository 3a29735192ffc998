-- The slice has a last searcher, and gets one of its leader's cells as they are.
use Rattle.std.proofs.Common.{◌∙◌, refl}
use Rattle.sc_bucket.proofs.TakenLemmas.{has_searcher}
use Rattle.sc_bucket.proofs.commit.searcher_of.Goals as goal

pub searcher_for-last-requires : goal.searcher_for-last-requires
searcher_for-last-requires c =
    has_searcher c.args.bucket.now.map c.args.bucket.now.searchers c.args.slice.now c.requires.sound.searchers.each_slice c.requires.there c.requires.active

pub returns-clause-taken : goal.returns-clause-taken
returns-clause-taken c =
    let is = c.in_ok-snapshot.ensures in
    record {
      slice = c.args.slice.now;
      there = c.requires.there;
      active = c.requires.active;
      slice_is = refl;
      range_is = refl;
      core = is.core;
      core_there = is.there;
      leader = is.leader;
      snapshot_is = c.in_ok-new.ensures.ok ∙ is.snapshot_is;
    }
