-- The bucket of its lock may be given back, and leaves the keeper's part as it was.
use Rattle.std.proofs.Common.{◌≡◌, ℕ, ◌<◌, inr, length, refl, sym, ap, ◌∙◌, subst, false}
use Rattle.std.proofs.lemmas.Option.{none-some}
use Rattle.sc_handover.specs.AnyEvent.{IsEvent}
use Rattle.sc_keeper.proofs.PassLemmas.{part-step, step_adds_no_keeper_entry}
use Rattle.sc_lock.specs.Tokens.{handed}
use Rattle.sc_shared.specs.Collections.{Locks, layout_of}
use Rattle.sc_shared.proofs.BucketLemmas.{found_in, is_pass_at, is_givable, adds_grows}
use Rattle.sc_shared.proofs.holding.give_bucket.Goals as goal

pub give-requires-clause-pass : goal.give-requires-clause-pass
give-requires-clause-pass c =
    let lock_at =
    found_in c.collection.inside.locks.items c.args.collection.now.buckets c.args.b c.index-lock.result.now
    (ap (λ (locks : Locks). locks.buckets) c.collection.view_is) c.requires.within c.index-lock.ensures in
    let pass_at =
    found_in c.args.passes.now.buckets.items c.args.passes.now.buckets.items c.args.b c.index_mut.result.now refl
    (subst (λ (n : ℕ). c.args.b < n) (sym c.requires.passes.count) c.requires.within) c.index_mut.ensures.value in
    c.requires.passes.each c.args.b c.index-lock.result.now c.index_mut.result.now lock_at pass_at

pub give-requires-clause-turn : goal.give-requires-clause-turn
give-requires-clause-turn c =
    let pass_at =
    found_in c.args.passes.now.buckets.items c.args.passes.now.buckets.items c.args.b c.index_mut.result.now refl
    (subst (λ (n : ℕ). c.args.b < n) (sym c.requires.passes.count) c.requires.within) c.index_mut.ensures.value in
    c.requires.turn c.index_mut.result.now pass_at

pub give-requires-clause-value : goal.give-requires-clause-value
give-requires-clause-value c =
    let count : c.len.result ≡ length c.args.collection.now.buckets =
    c.len.ensures ∙ c.collection.inside.locks.ok.0 ∙ ap (λ (locks : Locks). length locks.buckets) c.collection.view_is in
    let given =
    is_givable (layout_of c.args.collection.now) c.args.b c.len.result (handed c.args.turn) c.args.bucket count c.requires.name
    c.requires.sound c.requires.is_of (IsEvent.of_bucket c.requires.step)
    (adds_grows false (handed c.args.turn).bucket.journal.entries c.args.bucket.journal.entries
    (step_adds_no_keeper_entry (handed c.args.turn).bucket c.args.bucket c.requires.step)) in
    record {
      is_sound = given.sound;
      one_step = inr given.follows;
      grows = given.grows;
      owner = λ entry place is owned. absurd (none-some place owned);
    }

pub give-requires-clause-part : goal.give-requires-clause-part
give-requires-clause-part c = part-step (handed c.args.turn).bucket c.args.bucket c.requires.step

pub returns : goal.returns
returns c =
    let lock_at =
    found_in c.collection.inside.locks.items c.args.collection.now.buckets c.args.b c.index-lock.result.now
    (ap (λ (locks : Locks). locks.buckets) c.collection.view_is) c.requires.within c.index-lock.ensures in
    let pass_at =
    found_in c.args.passes.now.buckets.items c.args.passes.now.buckets.items c.args.b c.index_mut.result.now refl
    (subst (λ (n : ℕ). c.args.b < n) (sym c.requires.passes.count) c.requires.within) c.index_mut.ensures.value in
    record {
      before = c.index_mut.result.now;
      after = c.give.new.pass;
      pass = record {
        bucket = record { was = pass_at; is = refl };
        board = refl;
        of_lock = is_pass_at c.args.collection.now c.args.b c.index-lock.result.now c.give.new.pass lock_at c.give.ensures.pass.0;
      };
      free = c.give.ensures.pass.1;
      seen_is = c.give.ensures.seen;
      places = c.give.ensures.places;
    }
