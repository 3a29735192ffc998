-- All numbers are there.
use Rattle.std.proofs.Common.{◌∙◌, ◌++◌, List, map, sym, ap, arith}
use Rattle.std.proofs.lemmas.List.{append-nil, drop_all}
use Rattle.sc_bucket.specs.declared.bucket.Bucket.{Bucket}
use Rattle.sc_collection.specs.Opening.{entry_count, opened_by}
use Rattle.sc_collection.proofs.OpenedLemmas.{opened_is}
use Rattle.sc_collection.proofs.opened.OpenedWith.of.Goals as goal

pub returns : goal.returns
returns c =
    let buckets = c.args.buckets.now in
    let at = c.loop-bucket in
    let none = drop_all at.bucket-index buckets (omega (arith, c.loop-bucket-test.false)) in
    ap opened_by (sym (append-nil at.counts.items)
    ∙ ap (λ (rest : List Bucket). at.counts.items ++ map (λ (bucket : Bucket). (tt, entry_count bucket)) rest) (sym none) ∙ at.invariant)
    ∙ opened_is buckets c.args.board.now.journal.entries
