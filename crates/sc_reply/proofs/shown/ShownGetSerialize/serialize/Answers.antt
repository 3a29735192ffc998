-- The members were sent in the order of an object's.
use Rattle.std.proofs.Common.{[], ◌∷◌, codes, refl}
use Rattle.std.proofs.lemmas.Result.{on_ok_weaker}
use Rattle.sc_json.specs.Documents.{write_data}
use Rattle.sc_json.proofs.SentLemmas.{object_sent}
use Rattle.sc_reply.proofs.shown.ShownGetSerialize.serialize.Goals as goal

pub returns : goal.returns
returns g c =
    on_ok_weaker c.end_map.result (λ ended. object_sent ((codes "doc", write_data c.args.self.now.0.now) ∷ []) 1 _ _ _ _ refl c.in_ok-begin_map.ensures
    (_, (_, c.in_ok-key.ensures, c.in_ok-serialize.ensures), refl) ended) c.end_map.ensures
