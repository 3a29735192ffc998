-- The laws are the lemmas on what an entry more makes owed, at the end of a legal journal.
use Rattle.std.proofs.Common.{[], ◌∷◌}
use Rattle.sc_record.specs.declared.entry.Entry.TheVariants as entry
use Rattle.sc_journal.proofs.OwedLemmas.{owed-push_begun, owed-push_failed, owed-push_switched, owed-push_dropped, owed-push_down, owed-push_led, owed-push_up}
use Rattle.sc_journal.proofs.LegalLemmas.{IsLegal-prefix, MayFollow_end, owed-push_legal_write, owed-push_legal_settled}
use Rattle.sc_journal.proofs.MapLemmas.{legal_fits}
use Rattle.sc_journal.proofs.laws.journals_owe_entries.Goals as goal

pub returns-clause-write : goal.returns-clause-write
returns-clause-write c first journal cell legal =
    owed-push_legal_write first journal cell (IsLegal-prefix first journal (entry.Write cell ∷ []) legal)

pub returns-clause-settled : goal.returns-clause-settled
returns-clause-settled c first journal place legal =
    owed-push_legal_settled first journal place (MayFollow_end first journal (entry.Settled place) legal)

pub returns-clause-begun : goal.returns-clause-begun
returns-clause-begun c first journal parent subs is_map idle legal =
    let one : _ = entry.Begun parent subs in
    owed-push_begun first journal parent subs (IsLegal-prefix first journal (one ∷ []) legal)
    (MayFollow_end first journal one legal)

pub returns-clause-failed : goal.returns-clause-failed
returns-clause-failed c first journal parent is_map idle legal =
    let one : _ = entry.Failed parent in
    let before = IsLegal-prefix first journal (one ∷ []) legal in
    owed-push_failed first journal parent before (legal_fits first journal is_map idle before).is_map
    (MayFollow_end first journal one legal)

pub returns-clause-switched : goal.returns-clause-switched
returns-clause-switched c first journal parent is_map idle legal there =
    let one : _ = entry.Switched parent.id in
    let fits = legal_fits first journal is_map idle (IsLegal-prefix first journal (one ∷ []) legal) in
    let begun = MayFollow_end first journal one legal in
    owed-push_switched first journal parent fits.is_map (fits.splitting parent.id begun) begun there

pub returns-clause-dropped : goal.returns-clause-dropped
returns-clause-dropped c first journal slice is_map idle legal =
    let one : _ = entry.Dropped slice in
    let fits = legal_fits first journal is_map idle (IsLegal-prefix first journal (one ∷ []) legal) in
    owed-push_dropped first journal slice fits.is_map (MayFollow_end first journal one legal).inactive

pub returns-clause-down : goal.returns-clause-down
returns-clause-down c first journal core is_map idle =
    let down : _ = entry.Down core in
    let led : _ = entry.Led core in (
      λ legal. owed-push_down first journal core
          (legal_fits first journal is_map idle (IsLegal-prefix first journal (down ∷ []) legal)).is_map
          (MayFollow_end first journal down legal),
      λ legal. owed-push_led first journal core
          (legal_fits first journal is_map idle (IsLegal-prefix first journal (led ∷ []) legal)).is_map
          (MayFollow_end first journal led legal),
    )

pub returns-clause-up : goal.returns-clause-up
returns-clause-up c first journal core is_map idle legal =
    let one : _ = entry.Up core in
    owed-push_up first journal core
    (legal_fits first journal is_map idle (IsLegal-prefix first journal (one ∷ []) legal)).is_map
    (MayFollow_end first journal one legal)
