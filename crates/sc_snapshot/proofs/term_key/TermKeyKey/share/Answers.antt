-- A key of the same term compares equal.
use Rattle.std.proofs.Common.{◌≡◌, refl, sym, subst}
use Rattle.std.specs.Ordering.{ordering_reverse}
use Rattle.std.specs.declared.cmp.Ordering.{Ordering}
use Rattle.std.specs.declared.cmp.Ordering.TheVariants.{Less, Equal, Greater}
use Rattle.sc_record.specs.declared.term.Term.{Term}
use Rattle.sc_snapshot.proofs.KeyLemmas.{key_cmp-total}
use Rattle.sc_snapshot.specs.Keys.{key_cmp}
use Rattle.sc_snapshot.proofs.term_key.TermKeyKey.share.Goals as goal

equal_to_itself : (o : Ordering) → o ≡ ordering_reverse o → o ≡ Equal
equal_to_itself Less h = cc
equal_to_itself Equal h = refl
equal_to_itself Greater h = cc

pub returns : goal.returns
returns c =
    let term = c.args.self.now.term in
    subst (λ (t : Term). key_cmp term t ≡ Equal) (sym c.in_ok-key.ensures)
    (equal_to_itself (key_cmp term term) (key_cmp-total.antisymm term term))
