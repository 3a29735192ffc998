-- The members were sent in the order of an object's.
use Rattle.std.proofs.Common.{[], ◌∷◌, map, refl}
use Rattle.std.specs.Arc.{arc_value}
use Rattle.std.proofs.lemmas.Result.{on_ok_weaker}
use Rattle.sc_json.proofs.SentLemmas.{object_sent}
use Rattle.sc_reply.specs.Bodies.{response_member, header_member}
use Rattle.sc_reply.proofs.shown.ShownSearchSerialize.serialize.Goals as goal

pub returns : goal.returns
returns g c =
    let shown = c.args.self.now in
    on_ok_weaker c.end_map.result (λ ended. object_sent (response_member shown.found shown.start (map arc_value shown.docs.now) ∷ header_member 0 ∷ []) 2 _ _ _ _ refl
    c.in_ok-begin_map.ensures (_, c.in_ok-send_response.ensures, (_, c.in_ok-send_header.ensures, refl)) ended) c.end_map.ensures
