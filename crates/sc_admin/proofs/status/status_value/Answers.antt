-- The parts are those of the answer.
use Rattle.std.proofs.Common.{◌≡◌, [], ◌∷◌, codes, subst, ap, ◌∙◌, IfOk}
use Rattle.serde_json.specs.View.{view}
use Rattle.sc_json.specs.Documents.{object_of}
use Rattle.sc_reply.specs.Bodies.{header_member}
use Rattle.sc_admin.specs.Status.{collections_data, shards_data}
use Rattle.sc_admin.proofs.status.status_value.Goals as goal

pub returns : goal.returns
returns c =
    let nodes = c.args.nodes in
    let shards = shards_data nodes c.args.map.now in
    let collections = c.in_ok-collections.ensures ∙ ap collections_data c.in_ok-shards.ensures in
    let cluster =
    c.in_ok-cluster_value.ensures
    ∙ ap (λ d. object_of ((codes "collections", d) ∷ (codes "live_nodes", view c.in_ok-live_nodes.live_nodes) ∷ [])) collections
    ∙ ap (λ d. object_of ((codes "collections", collections_data shards) ∷ (codes "live_nodes", d) ∷ [])) c.in_ok-live_nodes.ensures in
    subst (λ d. IfOk c.answer_value.result (λ value. view value ≡ object_of ((codes "cluster", d) ∷ header_member 0 ∷ []))) cluster c.answer_value.ensures
