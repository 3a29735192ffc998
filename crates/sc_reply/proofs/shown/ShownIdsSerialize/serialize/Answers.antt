-- The members were sent in the order of an object's, with the number of the documents as that of those found.
use Rattle.std.proofs.Common.{ℕ, [], ◌∷◌, length, map, refl, sym, subst}
use Rattle.std.specs.Arc.{arc_value}
use Rattle.std.proofs.lemmas.List.{length-map}
use Rattle.std.proofs.lemmas.Result.{on_ok_weaker}
use Rattle.sc_json.specs.Sent.{SendsMember}
use Rattle.sc_json.proofs.SentLemmas.{object_sent}
use Rattle.sc_reply.specs.Bodies.{response_member}
use Rattle.sc_reply.proofs.shown.ShownIdsSerialize.serialize.Goals as goal

pub returns : goal.returns
returns g c =
    let docs = c.args.self.now.0.now in
    let writes = map arc_value docs in
    let first = g.S.Serializer.written c.begin_map.new.self in
    let last = g.S.Serializer.written c.send_response.new.out in
    let response = subst (λ (n : ℕ). SendsMember (response_member n 0 writes) first last) (sym (length-map docs arc_value)) c.in_ok-send_response.ensures in
    on_ok_weaker c.end_map.result (λ ended. object_sent (response_member (length writes) 0 writes ∷ []) 1 _ _ _ _ refl c.in_ok-begin_map.ensures (_, response, refl) ended) c.end_map.ensures
