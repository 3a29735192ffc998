-- The places of the writes that are not settled are those that are kept.
use Rattle.std.proofs.Common.{◌↔◌, IsTrue, Contains, subst}
use Rattle.sc_bucket.proofs.SettleLemmas.{is_settled-from_kept}
use Rattle.sc_bucket.proofs.bucket.Bucket.is_settled.Goals as goal

pub returns : goal.returns
returns c =
    let b = c.args.self.now in
    is_settled-from_kept b.journal.entries c.args.place c.contains.result c.requires.written
    (subst (λ places. IsTrue c.contains.result ↔ Contains places c.args.place) c.requires.sound.journal.unsettled_are c.contains.ensures)
