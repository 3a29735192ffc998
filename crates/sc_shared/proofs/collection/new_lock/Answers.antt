-- A new bucket behind a lock: nobody has seen anything of it, and its keeper left it at rest.
use Rattle.std.proofs.Common.{[], refl, sym, ap, ◌∙◌, subst}
use Rattle.sc_bucket.specs.declared.bucket.Bucket.{Bucket}
use Rattle.sc_keeper.specs.Part.{part_of, keeper_entries}
use Rattle.sc_collection.specs.Desks.{IsAtRest}
use Rattle.sc_collection.proofs.NewLemmas.{new_at_rest}
use Rattle.sc_shared.proofs.NewLockLemmas.{new_lock_is}
use Rattle.sc_shared.proofs.collection.new_lock.Goals as goal

pub returns : goal.returns
returns c =
    let bucket = c.in_ok-bucket.bucket in
    let made = c.in_ok-bucket.ensures in
    let same = c.in_ok-slot.ensures in
    let rest =
    subst (λ (one : Bucket). IsAtRest 0 [] c.args.first.now (part_of one) (keeper_entries one.journal.entries)) (sym same)
    (new_at_rest c.args.first.now c.args.limit bucket (record {
      bucket = bucket;
      there = refl;
      sound = made.sound;
      begins = made.first;
      map_is = made.map_is;
      limited = made.limit;
      empty = made.journal;
      idle = made.phase;
      unfed = made.feeds;
      cores = made.cores;
    })) in
    new_lock_is c.args.number c.args.buckets c.args.first.now c.args.limit c.in_ok-slot.slot _
    (ap (λ (one : Bucket). one.first) same ∙ made.first) (ap (λ (one : Bucket). one.limit) same ∙ made.limit)
    (ap (λ (one : Bucket). one.journal.entries) same ∙ made.journal) rest c.in_ok-lock.ensures.name c.in_ok-lock.ensures.pass
    c.in_ok-lock.ensures.keeper c.in_ok-badge.ensures.lock
