-- The run is the document's spelling, the number of the terms and their run.
use Rattle.std.proofs.Common.{refl, sym, subst}
use Rattle.std.specs.Prelude.{pos, ◌<ℤ◌}
use Rattle.std.specs.Int.{w32, w64}
use Rattle.std.proofs.lemmas.Int.{to_z-of_z}
use Rattle.sc_spelling.specs.Reading.{read_of}
use Rattle.sc_record.proofs.WriteLemmas.{made}
use Rattle.sc_record.proofs.write.Write.new.Goals as goal

pub invariant_of-result : goal.invariant_of-result
invariant_of-result c =
    let all = made c.args.id c.args.doc.now c.args.terms.now c.bytes-bytes.result.now _ c.in_ok-kept.kept.items c.bytes-bytes.ensures.value c.bytes-bytes.ensures.whole
    c.bytes-bytes.ensures.document refl c.in_ok-kept.ensures.fits c.in_ok-kept.ensures.items c.requires.terms in
    (subst (λ n. pos 0 <ℤ n) (sym (to_z-of_z w64 c.args.version c.ranges.version)) c.requires.positive, all.kept)

pub returns : goal.returns
returns c =
    let all = made c.args.id c.args.doc.now c.args.terms.now c.bytes-bytes.result.now _ c.in_ok-kept.kept.items c.bytes-bytes.ensures.value c.bytes-bytes.ensures.whole
    c.bytes-bytes.ensures.document refl c.in_ok-kept.ensures.fits c.in_ok-kept.ensures.items c.requires.terms in
    let hash = to_z-of_z w32 c.args.hash c.ranges.hash in
    let version = to_z-of_z w64 c.args.version c.ranges.version in
    λ i. record { id = c.args.id; hash = hash i; version = version i; doc = all.doc i; terms = read_of (all.terms_read i) }
