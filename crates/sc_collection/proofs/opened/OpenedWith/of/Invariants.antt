-- The numbers so far, and those of the buckets that are left.
use Rattle.std.proofs.Common.{◌≡◌, ◌∷◌, ◌++◌, drop, length, map}
use Rattle.sc_bucket.specs.declared.bucket.Bucket.{Bucket}
use Rattle.sc_collection.specs.Opening.{entry_count}
use Rattle.sc_collection.proofs.opened.OpenedWith.of.Given as goal

abbrev pub invariant-loop-bucket : goal.invariant-loop-bucket
invariant-loop-bucket l =
    l.counts.items ++ map (λ (bucket : Bucket). (tt, entry_count bucket)) (drop l.bucket-index l.buckets)
    ≡ (tt, length l.board.journal.entries) ∷ map (λ (bucket : Bucket). (tt, entry_count bucket)) l.buckets
