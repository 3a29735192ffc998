-- The keys of the entries are the keys.
use Rattle.std.proofs.Common.{sym, ap, ◌∙◌}
use Rattle.std.specs.Map.{keys_of}
use Rattle.sc_segment.proofs.FlatLemmas.{keys_of-entries}
use Rattle.sc_segment.specs.Storing.{KeptState}
use Rattle.sc_segment.proofs.flat_index.KeptIndex.keys.Goals as goal

pub returns-clause-stored : goal.returns-clause-stored
returns-clause-stored g c = ap (λ (s : KeptState _). s.stored) c.self.view_is

pub returns-clause-keys : goal.returns-clause-keys
returns-clause-keys g c =
    sym (keys_of-entries 0 c.self.inside.keys.keys c.self.inside.ends.items c.self.inside.rows.items c.self.invariant.0)
    ∙ ap (λ (s : KeptState _). keys_of s.entries) c.self.view_is
