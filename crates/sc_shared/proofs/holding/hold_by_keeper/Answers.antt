-- What is handed out is the bucket of its lock, with the part that its keeper left.
use Rattle.std.proofs.Common.{ℕ, List, ◌<◌, refl, sym, ap, ◌∙◌, subst}
use Rattle.std.proofs.lemmas.Option.{slice_get_within}
use mathlib.Core.List.{IsPrefix}
use Rattle.sc_record.specs.declared.entry.Entry.{Entry}
use Rattle.sc_seen.proofs.ExtendsLemmas.{IsPrefix-then}
use Rattle.sc_lock.specs.Tokens.{seen, keeper_seen}
use Rattle.sc_shared.specs.Collections.{Locks, AreLocks}
use Rattle.sc_shared.proofs.BucketLemmas.{found_in, is_pass_at, is_keeper_at, is_handed_out}
use Rattle.sc_shared.proofs.holding.hold_by_keeper.Goals as goal

pub returns : goal.returns
returns g c =
    let lock_at =
    found_in c.collection.inside.locks.items c.args.collection.now.buckets c.args.b c.index-lock.result.now
    (ap (λ (locks : Locks). locks.buckets) c.collection.view_is) c.requires.within c.index-lock.ensures in
    let pass_at =
    found_in c.args.passes.now.buckets.items c.args.passes.now.buckets.items c.args.b c.index_mut.result.now refl
    (subst (λ (n : ℕ). c.args.b < n) (sym c.requires.passes.count) c.requires.within) c.index_mut.ensures.value in
    let there = c.requires.keeper.there in
    let keeper_at =
    found_in c.args.keepers.now.keepers.items c.args.keepers.now.keepers.items c.args.b c.index_mut-keeper.result.now refl
    (slice_get_within c.args.keepers.now.keepers.items c.args.b there.0 there.1) c.index_mut-keeper.ensures.value in
    let are = subst (λ (locks : Locks). AreLocks locks c.collection.inside.first) c.collection.view_is c.collection.invariant in
    let entries : List Entry = c.hold_keeper-kept.result.0.bucket.journal.entries in
    record {
      out = is_handed_out c.args.collection.now c.collection.inside.first c.args.b c.index-lock.result.now c.hold_keeper-kept.result.0
          c.hold_keeper-kept.result.1 are lock_at c.hold_keeper-kept.ensures.found.is_sound c.hold_keeper-kept.ensures.found.name_is
          c.hold_keeper-kept.ensures.handed;
      before = c.index_mut.result.now;
      after = c.show.new.pass;
      pass = record {
        bucket = record { was = pass_at; is = refl };
        board = refl;
        of_lock = is_pass_at c.args.collection.now c.args.b c.index-lock.result.now c.show.new.pass lock_at c.show.ensures.pass.0;
      };
      same = c.show.ensures.pass_rest;
      free = c.show.ensures.pass.1;
      extends = IsPrefix-then (seen c.index_mut.result.now) (keeper_seen c.show.new.keeper) entries c.show.ensures.seen.second_is_prefix
          c.hold_keeper-kept.ensures.found.seen_is_prefix;
      keeper_before = c.index_mut-keeper.result.now;
      keeper_after = c.hold_keeper-kept.new.keeper;
      keeper = record {
        bucket = record { was = keeper_at; is = refl };
        of_lock = is_keeper_at c.args.collection.now c.args.b c.index-lock.result.now c.hold_keeper-kept.new.keeper lock_at
            c.hold_keeper-kept.ensures.keeper;
      };
      turn_is = c.hold_keeper-kept.ensures.turn;
      learns = subst (IsPrefix (keeper_seen c.index_mut-keeper.result.now)) (sym c.hold_keeper-kept.ensures.same.seen_is)
          c.show.ensures.seen.first_is_prefix;
      keeper_extends = subst (λ (begun : List Entry). IsPrefix begun entries) (sym c.hold_keeper-kept.ensures.same.seen_is)
          c.hold_keeper-kept.ensures.found.seen_is_prefix;
      places = c.hold_keeper-kept.ensures.same.places_are ∙ c.show.ensures.keeper_rest.0;
      part = c.hold_keeper-kept.ensures.same.part_is ∙ c.show.ensures.keeper_rest.1;
      left = sym c.show.ensures.keeper_rest.1 ∙ c.hold_keeper-kept.ensures.left;
    }
