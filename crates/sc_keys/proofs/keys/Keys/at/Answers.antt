-- The keys at the places compare equal to themselves.
use Rattle.std.proofs.Common.{ap, subst, sym, ◌++◌}
use Rattle.sc_keys.proofs.StoringLemmas.{alike-itself}
use Rattle.sc_keys.specs.Storing.{AreAlike, keys_at}
use Rattle.sc_keys.proofs.keys.Keys.at.Goals as goal

pub returns-else-is_worn-clause-alike : goal.returns-else-is_worn-clause-alike
returns-else-is_worn-clause-alike g c =
    let stored = c.args.old.now.stored ++ c.args.added.now.stored in
    subst (AreAlike g.K.Key.order (keys_at stored c.args.places.items)) (ap (λ ks. keys_at ks c.args.places.items) (sym c.in_ok-pieces.ensures))
    (alike-itself g.met.K.Key.total (keys_at stored c.args.places.items))
