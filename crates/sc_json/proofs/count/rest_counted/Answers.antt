-- Each turn counts one more document, up to the bracket that closes the array.
use Rattle.std.proofs.Common.{◌≡◌, ◌-◌, ◌<◌, ◌∷◌, ◌++◌, [], None, length, ◌∙◌, refl, arith, length-append}
use Rattle.json.specs.Json.{after_end_array}
use Rattle.sc_json.specs.Flat.{doc_depth, docs_in, items_by}
use Rattle.sc_json.proofs.FlatLemmas.{no_docs, doc_more, docs_over}
use Rattle.sc_json.proofs.count.rest_counted.Goals as goal

pub docs-init : goal.docs-init
docs-init c = ([], length c.args.reader.now, omega arith, no_docs (items_by docs_in doc_depth c.args.reader.now), refl, omega arith)

pub docs-preserved : goal.docs-preserved
docs-preserved c =
    let l = c.docs in
    let found = l.invariant.0 in
    let n = l.invariant.1 in
    let going : (after_end_array l.reader ≡ None) × (c.take_end_array.new.self ≡ l.reader) = grind arith in
    let done = c.in_ok-doc.ensures in
    let fields = c.in_ok-doc.doc.fields in
    let r = c.next_doc.new.reader in
    let less : length r < length l.reader = rw (← going.1) done.shorter in
    let turn = doc_more doc_depth n l.reader r fields found (omega (arith, l.invariant.2)) going.0 (rw (← going.1) done.value) in
    let counted : length (found ++ fields ∷ []) ≡ c.in-Some.more = grind (arith, length-append found (fields ∷ []), l.invariant.4, c.in-Some.ensures) in (
      found ++ fields ∷ [],
      n - 1,
      omega (arith, l.invariant.2),
      l.invariant.3 ∙ turn,
      counted,
      omega (arith, l.invariant.5),
    )

pub returns : goal.returns
returns c =
    let l = c.docs in
    let n = l.invariant.1 in
    (l.invariant.0, l.invariant.3 ∙ docs_over doc_depth n l.reader c.take_end_array.new.self l.invariant.0 l.invariant.2 (grind arith), l.invariant.4)
