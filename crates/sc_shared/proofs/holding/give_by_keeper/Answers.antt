-- The bucket of its lock may be given back by its keeper, and the pass has then seen its journal.
use Rattle.std.proofs.Common.{◌≡◌, ℕ, List, ◌<◌, inr, length, refl, sym, ap, ◌∙◌, subst, true}
use Rattle.std.proofs.lemmas.Option.{none-some, slice_get_within}
use Rattle.sc_record.specs.declared.entry.Entry.{Entry}
use Rattle.sc_handover.specs.AnyEvent.{IsEvent}
use Rattle.sc_keeper.proofs.PassLemmas.{keeper_adds_no_pass_entry}
use Rattle.sc_lock.specs.Journal.{IsLongest}
use Rattle.sc_lock.specs.Tokens.{seen, handed}
use Rattle.sc_shared.specs.Collections.{Locks, layout_of}
use Rattle.sc_shared.proofs.BucketLemmas.{found_in, is_pass_at, is_keeper_at, is_givable, adds_grows, longest_is_given}
use Rattle.sc_shared.proofs.holding.give_by_keeper.Goals as goal

pub give_keeper-requires-clause-keeper : goal.give_keeper-requires-clause-keeper
give_keeper-requires-clause-keeper c =
    let lock_at =
    found_in c.collection.inside.locks.items c.args.collection.now.buckets c.args.b c.index-lock.result.now
    (ap (λ (locks : Locks). locks.buckets) c.collection.view_is) c.requires.within c.index-lock.ensures in
    let there = c.requires.keeper.there in
    let keeper_at =
    found_in c.args.keepers.now.keepers.items c.args.keepers.now.keepers.items c.args.b c.index_mut-keeper.result.now refl
    (slice_get_within c.args.keepers.now.keepers.items c.args.b there.0 there.1) c.index_mut-keeper.ensures.value in
    c.requires.keeper.of_lock c.index_mut-keeper.result.now keeper_at c.index-lock.result.now lock_at

pub give_keeper-requires-clause-turn : goal.give_keeper-requires-clause-turn
give_keeper-requires-clause-turn c =
    let there = c.requires.keeper.there in
    let keeper_at =
    found_in c.args.keepers.now.keepers.items c.args.keepers.now.keepers.items c.args.b c.index_mut-keeper.result.now refl
    (slice_get_within c.args.keepers.now.keepers.items c.args.b there.0 there.1) c.index_mut-keeper.ensures.value in
    c.requires.turn c.index_mut-keeper.result.now keeper_at

pub give_keeper-requires-clause-value : goal.give_keeper-requires-clause-value
give_keeper-requires-clause-value c =
    let count : c.len.result ≡ length c.args.collection.now.buckets =
    c.len.ensures ∙ c.collection.inside.locks.ok.0 ∙ ap (λ (locks : Locks). length locks.buckets) c.collection.view_is in
    let given =
    is_givable (layout_of c.args.collection.now) c.args.b c.len.result (handed c.args.turn) c.args.bucket count c.requires.name
    c.requires.sound c.requires.is_of (IsEvent.of_keeper c.requires.event)
    (adds_grows true (handed c.args.turn).bucket.journal.entries c.args.bucket.journal.entries
    (keeper_adds_no_pass_entry (handed c.args.turn).bucket c.args.bucket c.requires.event)) in
    record {
      is_sound = given.sound;
      one_step = inr given.follows;
      grows = given.grows;
      owner = λ entry place is owned. absurd (none-some place owned);
    }

pub meet-requires-clause-pass : goal.meet-requires-clause-pass
meet-requires-clause-pass c =
    let lock_at =
    found_in c.collection.inside.locks.items c.args.collection.now.buckets c.args.b c.index-lock.result.now
    (ap (λ (locks : Locks). locks.buckets) c.collection.view_is) c.requires.within c.index-lock.ensures in
    let pass_at =
    found_in c.args.passes.now.buckets.items c.args.passes.now.buckets.items c.args.b c.index_mut.result.now refl
    (subst (λ (n : ℕ). c.args.b < n) (sym c.requires.passes.count) c.requires.within) c.index_mut.ensures.value in
    (c.requires.passes.each c.args.b c.index-lock.result.now c.index_mut.result.now lock_at pass_at, c.requires.free c.index_mut.result.now pass_at)

pub returns : goal.returns
returns c =
    let lock_at =
    found_in c.collection.inside.locks.items c.args.collection.now.buckets c.args.b c.index-lock.result.now
    (ap (λ (locks : Locks). locks.buckets) c.collection.view_is) c.requires.within c.index-lock.ensures in
    let pass_at =
    found_in c.args.passes.now.buckets.items c.args.passes.now.buckets.items c.args.b c.index_mut.result.now refl
    (subst (λ (n : ℕ). c.args.b < n) (sym c.requires.passes.count) c.requires.within) c.index_mut.ensures.value in
    let there = c.requires.keeper.there in
    let keeper_at =
    found_in c.args.keepers.now.keepers.items c.args.keepers.now.keepers.items c.args.b c.index_mut-keeper.result.now refl
    (slice_get_within c.args.keepers.now.keepers.items c.args.b there.0 there.1) c.index_mut-keeper.ensures.value in
    let seen_is =
    longest_is_given true (seen c.index_mut.result.now) (handed c.args.turn).bucket.journal.entries c.args.bucket.journal.entries
    (seen c.meet.new.pass) (c.requires.extends c.index_mut.result.now pass_at)
    (keeper_adds_no_pass_entry (handed c.args.turn).bucket c.args.bucket c.requires.event)
    (subst (λ (other : List Entry). IsLongest (seen c.index_mut.result.now) other (seen c.meet.new.pass)) c.give_keeper.ensures.seen
    c.meet.ensures.seen) in
    record {
      before = c.index_mut.result.now;
      after = c.meet.new.pass;
      pass = record {
        bucket = record { was = pass_at; is = refl };
        board = refl;
        of_lock = is_pass_at c.args.collection.now c.args.b c.index-lock.result.now c.meet.new.pass lock_at c.meet.ensures.pass.0;
      };
      free = c.meet.ensures.pass.1;
      seen_is = seen_is;
      places = c.meet.ensures.pass_rest.0;
      keeper_before = c.index_mut-keeper.result.now;
      keeper_after = c.meet.new.keeper;
      keeper = record {
        bucket = record { was = keeper_at; is = refl };
        of_lock = is_keeper_at c.args.collection.now c.args.b c.index-lock.result.now c.meet.new.keeper lock_at c.meet.ensures.keeper.0;
      };
      keeper_free = c.meet.ensures.keeper.1;
      keeper_seen_is = c.meet.ensures.same ∙ seen_is;
      keeper_places_are = c.meet.ensures.keeper_rest.0 ∙ c.give_keeper.ensures.places;
      part = c.meet.ensures.keeper_rest.1 ∙ c.give_keeper.ensures.part;
    }
