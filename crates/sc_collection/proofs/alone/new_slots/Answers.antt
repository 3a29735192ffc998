-- One more slot has a new bucket.
use Rattle.std.proofs.Common.{◌+◌, ◌∙◌, ℕ, Option, Some, length, refl, sym, ap, subst}
use Rattle.std.proofs.lemmas.List.{length_push}
use Rattle.sc_bucket.specs.declared.bucket.Bucket.{Bucket}
use Rattle.sc_cluster.proofs.ItemLemmas.{each_push}
use Rattle.sc_collection.specs.Alone.{IsNewSlot}
use Rattle.sc_collection.proofs.alone.new_slots.Goals as goal

pub loop-b-preserved : goal.loop-b-preserved
loop-b-preserved c =
    let made = c.in_ok-new.ensures in
    let bucket : Bucket = c.in_ok-new.field-0 in
    let IsNext = λ (_ : ℕ) (slot : Option Bucket). IsNewSlot c.args.first.now c.args.limit slot in
    let new : IsNewSlot c.args.first.now c.args.limit (Some bucket) = record {
      bucket = bucket;
      there = refl;
      sound = made.sound;
      begins = made.first;
      map_is = made.map_is;
      limited = made.limit;
      empty = made.journal;
      idle = made.phase;
      unfed = made.feeds;
      cores = made.cores;
    } in
    record {
      count = ap length c.push_reserved.ensures.items ∙ length_push _ _ ∙ ap (λ n. n + 1) c.loop-b.invariant.count;
      room = c.push_reserved.ensures.capacity ∙ c.loop-b.invariant.room;
      each = rw c.push_reserved.ensures.items (each_push IsNext _ c.in_ok-full.field-0 c.loop-b.invariant.each
          (subst (IsNewSlot c.args.first.now c.args.limit) (sym c.in_ok-full.ensures) new));
    }
