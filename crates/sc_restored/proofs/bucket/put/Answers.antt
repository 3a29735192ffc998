-- The journal has room, and gets the entry.
use Rattle.std.proofs.Common.{◌∙◌, [], ◌∷◌, ◌++◌, ap, arith}
use Rattle.sc_bucket.specs.Kept.{JournalState}
use Rattle.sc_restored.proofs.bucket.put.Goals as goal

pub append-requires : goal.append-requires
append-requires c = let room = ap (λ (j : JournalState). j.room) c.in_ok-reserve.ensures.ok in omega (arith, room)

pub returns-clause-entries : goal.returns-clause-entries
returns-clause-entries c =
    ap (λ (j : JournalState). j.entries) c.append.ensures ∙ ap (λ (j : JournalState). j.entries ++ c.args.entry ∷ []) c.in_ok-reserve.ensures.ok

pub returns-clause-filed : goal.returns-clause-filed
returns-clause-filed c =
    ap (λ (j : JournalState). j.filed) c.append.ensures ∙ ap (λ (j : JournalState). j.filed) c.in_ok-reserve.ensures.ok
