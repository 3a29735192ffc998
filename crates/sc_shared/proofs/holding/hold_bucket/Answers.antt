-- What is handed out is the bucket of its lock.
use Rattle.std.proofs.Common.{ℕ, ◌<◌, refl, sym, ap, subst}
use Rattle.sc_shared.specs.Collections.{Locks, AreLocks}
use Rattle.sc_shared.proofs.BucketLemmas.{found_in, is_pass_at, is_handed_out}
use Rattle.sc_shared.proofs.holding.hold_bucket.Goals as goal

pub returns : goal.returns
returns g c =
    let lock_at =
    found_in c.collection.inside.locks.items c.args.collection.now.buckets c.args.b c.index-lock.result.now
    (ap (λ (locks : Locks). locks.buckets) c.collection.view_is) c.requires.within c.index-lock.ensures in
    let pass_at =
    found_in c.args.passes.now.buckets.items c.args.passes.now.buckets.items c.args.b c.index_mut.result.now refl
    (subst (λ (n : ℕ). c.args.b < n) (sym c.requires.passes.count) c.requires.within) c.index_mut.ensures.value in
    let are = subst (λ (locks : Locks). AreLocks locks c.collection.inside.first) c.collection.view_is c.collection.invariant in
    record {
      out = is_handed_out c.args.collection.now c.collection.inside.first c.args.b c.index-lock.result.now c.hold-kept.result.0
          c.hold-kept.result.1 are lock_at c.hold-kept.ensures.found.is_sound c.hold-kept.ensures.found.name_is c.hold-kept.ensures.handed;
      before = c.index_mut.result.now;
      after = c.hold-kept.new.pass;
      pass = record {
        bucket = record { was = pass_at; is = refl };
        board = refl;
        of_lock = is_pass_at c.args.collection.now c.args.b c.index-lock.result.now c.hold-kept.new.pass lock_at c.hold-kept.ensures.pass;
      };
      same = c.hold-kept.ensures.same;
      turn_is = c.hold-kept.ensures.turn;
      extends = c.hold-kept.ensures.found.seen_is_prefix;
    }
