-- What is taken was at the key, and the other keys keep their values.
use Rattle.std.proofs.Common.{option_map, sym, ap, ◌∙◌, cond, None}
use Rattle.std.proofs.lemmas.Map.Text.{btree_map_updates_text}
use Rattle.std.specs.BTreeMap.{get_by_text}
use Rattle.serde_json.specs.View.{view}
use Rattle.serde_json.proofs.Views.{view-lookup}
use Rattle.sc_commands.proofs.keys.take_from.Goals as goal

pub returns-clause-taken : goal.returns-clause-taken
returns-clause-taken c = ap (option_map view) c.remove.ensures.value ∙ view-lookup c.args.key.now c.args.members.now.entries

pub returns-clause-others : goal.returns-clause-others
returns-clause-others c = λ other apart.
    let key = c.args.key.now in
    let old = c.args.members.now in
    let new = c.remove.new.self in
    let kept = btree_map_updates_text key old new None c.remove.ensures.updates other
    ∙ ap (λ same. cond same None (get_by_text old other)) apart in
    sym (view-lookup other new.entries) ∙ ap (option_map view) kept ∙ view-lookup other old.entries
