-- The members were sent in the order of an object's.
use Rattle.std.proofs.Common.{◌≡◌, [], ◌∷◌, codes, map, pos, true, refl, subst, rules}
use Rattle.std.specs.Arc.{arc_value}
use Rattle.std.proofs.lemmas.Result.{on_ok_weaker}
use Rattle.serde.specs.Event.{Logs, unsigned}
use Rattle.serde_json.specs.Data.{boolean}
use Rattle.sc_json.specs.Documents.{array_of, whole_number, write_data}
use Rattle.sc_json.proofs.SentLemmas.{object_sent}
use Rattle.sc_reply.proofs.shown.send_response.Goals as goal

pub returns : goal.returns
returns g c =
    let docs = array_of (map write_data (map arc_value c.args.docs.now)) in
    let named = g.S.Serializer.written c.key-5.new.self in
    let last = g.S.Serializer.written c.u64-2.new.self in
    let widened : c.from.result ≡ c.args.start = search rules in
    let start = subst (λ n. Logs named last (unsigned n)) widened c.in_ok-u64-2.ensures in
    on_ok_weaker c.end_map.result (λ ended. (
      _,
      c.in_ok-key.ensures,
      object_sent
          ((codes "docs", docs) ∷ (codes "numFound", whole_number (pos c.args.found)) ∷ (codes "numFoundExact", boolean true) ∷ (codes "start", whole_number (pos c.args.start)) ∷ [])
          4 _ _ _ _ refl c.in_ok-begin_map.ensures (
            _,
            (_, c.in_ok-key-2.ensures, c.in_ok-send_docs.ensures),
            (_, (_, c.in_ok-key-3.ensures, c.in_ok-u64.ensures), (_, (_, c.in_ok-key-4.ensures, c.in_ok-bool.ensures), (_, (_, c.in_ok-key-5.ensures, start), refl))),
          ) ended,
    )) c.end_map.ensures
