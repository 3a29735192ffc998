-- The document that is sent is that of the write.
use Rattle.std.proofs.Common.{◌≡◌, Some, to_z, of_z, w64, subst, rules}
use Rattle.std.proofs.lemmas.Result.{on_ok_weaker}
use Rattle.serde_json.specs.Events.{SendsValue}
use Rattle.sc_json.specs.Documents.{document_data}
use Rattle.sc_json.proofs.document.ShownDocumentSerialize.serialize.Goals as goal

pub returns-in-Some : goal.returns-in-Some
returns-in-Some g c =
    let write = c.args.self.now.0.now in
    let old = g.S.Serializer.written c.args.out.now in
    let new = g.S.Serializer.written c.send_document.new.out in
    let doc : Some c.in-Some.fields ≡ write.doc = search rules in
    let id : c.id.result.now ≡ write.id = search rules in
    let kept = to_z w64 (of_z w64 c.version.result) in
    let version : kept ≡ write.version = search rules in
    on_ok_weaker c.send_document.result (λ sent. subst (λ d. SendsValue (document_data write.id write.version d) old new) doc
    (subst (λ z. SendsValue (document_data write.id z (Some c.in-Some.fields)) old new) version
    (subst (λ name. SendsValue (document_data name kept (Some c.in-Some.fields)) old new) id sent))) c.send_document.ensures
