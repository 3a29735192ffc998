-- The members were sent in the order of an object's.
use Rattle.std.proofs.Common.{[], ◌∷◌, codes, pos, refl}
use Rattle.std.proofs.lemmas.Result.{on_ok_weaker}
use Rattle.sc_json.specs.Documents.{whole_number}
use Rattle.sc_json.proofs.SentLemmas.{object_sent}
use Rattle.sc_reply.proofs.shown.send_header.Goals as goal

pub returns : goal.returns
returns g c =
    on_ok_weaker c.end_map.result (λ ended. (
      _,
      c.in_ok-key.ensures,
      object_sent ((codes "QTime", whole_number (pos 0)) ∷ (codes "status", whole_number (pos 0)) ∷ []) 2 _ _ _ _ refl c.in_ok-begin_map.ensures
          (_, (_, c.in_ok-key-2.ensures, c.in_ok-u64.ensures), (_, (_, c.in_ok-key-3.ensures, c.in_ok-u64-2.ensures), refl)) ended,
    )) c.end_map.ensures
