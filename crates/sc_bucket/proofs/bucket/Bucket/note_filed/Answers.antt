-- Nothing changes but how many entries a file has, which a bucket's soundness doesn't look at.
use Rattle.std.proofs.Common.{sym, subst}
use Rattle.sc_bucket.specs.Sound.{IsSound}
use Rattle.sc_bucket.specs.Kept.{JournalState}
use Rattle.sc_bucket.proofs.RoomLemmas.{IsSound-filed}
use Rattle.sc_bucket.proofs.bucket.Bucket.note_filed.Goals as goal

pub returns-clause-sound : goal.returns-clause-sound
returns-clause-sound c =
    let b = c.args.self.now in
    subst (λ (journal : JournalState). IsSound (record b { journal = journal })) (sym c.note_filed.ensures) (IsSound-filed b _ c.requires.sound)
