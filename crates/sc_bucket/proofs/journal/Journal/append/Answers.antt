-- With one more entry no fewer writes may go than went.
use Rattle.std.proofs.Common.{◌≡◌, ◌∙◌, ◌≤◌, ℕ, ◌++◌, ◌∷◌, [], sym, ap, subst}
use Rattle.sc_journal.specs.Committed.{last_commit}
use Rattle.sc_bucket.specs.Kept.{ListsState}
use Rattle.sc_bucket.specs.Gone.{may_go}
use Rattle.sc_bucket.proofs.GoneLemmas.{may_go-push}
use Rattle.sc_bucket.proofs.journal.Journal.append.Goals as goal

pub let_go-requires-clause-after : goal.let_go-requires-clause-after
let_go-requires-clause-after c =
    let old = c.self.inside in
    let before : c.append.new.self.gone ≡ may_go old.filed (last_commit old.lists.entries) = ap (λ (s : ListsState). s.gone) c.append.ensures ∙ c.self.invariant in
    let after : may_go old.filed (last_commit (old.lists.entries ++ c.args.entry ∷ [])) ≡ c.going-below.result =
    ap (λ (s : ListsState). may_go old.filed (last_commit s.entries)) (sym c.append.ensures)
    ∙ ap (may_go old.filed) (sym c.commit.ensures) ∙ sym c.going-below.ensures in
    subst (λ (n : ℕ). n ≤ c.going-below.result) (sym before)
    (subst (λ (n : ℕ). may_go old.filed (last_commit old.lists.entries) ≤ n) after (may_go-push old.filed old.lists.entries c.args.entry))
