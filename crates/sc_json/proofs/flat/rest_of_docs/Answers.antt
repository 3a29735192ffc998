-- Each turn reads one more document, up to the bracket that closes the array.
use Rattle.std.proofs.Common.{◌≡◌, ◌-◌, ◌<◌, ◌∷◌, [], List, None, length, map, sym, ap, ◌∙◌, arith}
use Rattle.std.proofs.lemmas.List.{map-append}
use Rattle.json.specs.Json.{after_end_array}
use Rattle.sc_schema.specs.declared.raw.RawDoc.{RawDoc}
use Rattle.sc_json.specs.Flat.{doc_fields, doc_depth, docs_in, items_by}
use Rattle.sc_json.proofs.FlatLemmas.{items_left, with_docs, no_docs, doc_more, docs_over}
use Rattle.sc_json.proofs.flat.rest_of_docs.Goals as goal

pub docs-init : goal.docs-init
docs-init c =
    let all = items_by docs_in doc_depth c.args.reader.now in
    (length c.args.reader.now, omega arith, no_docs all ∙ ap (λ (docs : List RawDoc). with_docs (map doc_fields docs) all) (sym c.new-docs.ensures), omega arith)

pub docs-preserved : goal.docs-preserved
docs-preserved c =
    let l = c.docs in
    let n = l.invariant.0 in
    let going : (after_end_array l.reader ≡ None) × (c.take_end_array.new.self ≡ l.reader) = grind arith in
    let done = c.in_ok-doc.ensures in
    let doc = c.in_ok-doc.doc in
    let r = c.next_doc.new.reader in
    let less : length r < length l.reader = rw (← going.1) done.shorter in
    let turn = doc_more doc_depth n l.reader r doc.fields (map doc_fields l.docs) (omega (arith, l.invariant.1)) going.0 (rw (← going.1) done.value) in
    let grown = ap (map doc_fields) c.in_ok-push.ensures.ok ∙ map-append doc_fields l.docs (doc ∷ []) in (
      n - 1,
      omega (arith, l.invariant.1),
      l.invariant.2 ∙ turn ∙ ap (λ docs. with_docs docs (items_left docs_in doc_depth (n - 1) r)) (sym grown),
      omega (arith, l.invariant.3),
    )

pub returns : goal.returns
returns c =
    let l = c.docs in
    let n = l.invariant.0 in
    l.invariant.2 ∙ docs_over doc_depth n l.reader c.take_end_array.new.self (map doc_fields l.docs) l.invariant.1 (grind arith)
