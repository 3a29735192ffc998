-- What one part more finds stands at the end, and all parts are all searchers.
use Rattle.std.proofs.Common.{◌≡◌, ◌+◌, ◌*◌, List, [], ◌∷◌, ◌++◌, length, take, sym, ap, subst, ◌∙◌, append_assoc, arith, refl}
use Rattle.std.specs.Prelude.{Result}
use Rattle.std.specs.Fork.{slice_chunk}
use Rattle.std.specs.declared.alloc.AllocError.{AllocError}
use Rattle.std.proofs.lemmas.List.{length-append}
use Rattle.sc_replicas.specs.declared.standing.Searcher.{Searcher}
use Rattle.sc_eval.specs.Criteria.{criterion_of}
use Rattle.sc_finding.specs.Hits.{HasFound}
use Rattle.sc_finding.specs.declared.hits.Found.{Found}
use Rattle.sc_finding.proofs.FoundLemmas.{HasFound-more, chunk-next, found-next, all-parts}
use Rattle.sc_finding.proofs.parts.find_in_parts.Goals as goal

pub loop-part-preserved : goal.loop-part-preserved
loop-part-preserved g c =
    let i = c.loop-part.invariant in
    let criterion = criterion_of c.args.query.now in
    let searchers = c.args.searchers.now in
    let size = c.div_ceil-size.result in
    let yielded = c.loop-part.yielded in
    let part = c.in-Some.part in
    let rest = c.next.new.self.rest.items in
    let found = c.in_ok-part.part in
    let both : Found = record { count = c.loop-part.all.count + found.count; hits = c.append.new.self } in
    let whole : yielded ++ part ∷ rest ≡ c.in_ok-each.each.items =
    ap (λ (end : List (Result Found AllocError)). yielded ++ end) (sym (c.in-Some.ensures.steps).0) ∙ i.left ∙ c.into_iter-part-iterator.ensures.into_iter_gives.0 in
    let next : HasFound criterion c.args.most (slice_chunk searchers size (length yielded)) found =
    found-next criterion c.args.most size c.args.parts searchers c.in_ok-each.each.items yielded rest part found
    c.in_ok-each.ensures.each c.in_ok-each.ensures.count whole c.in_ok-part.was in
    record {
      left = append_assoc yielded (part ∷ []) rest ∙ ap (λ (end : List (Result Found AllocError)). yielded ++ end) (sym (c.in-Some.ensures.steps).0) ∙ i.left;
      far = subst (λ (ss : List Searcher). HasFound criterion c.args.most ss both)
          (sym (chunk-next searchers size (length yielded) (length (yielded ++ part ∷ [])) (length-append yielded (part ∷ []))))
          (HasFound-more criterion c.args.most (take (length yielded * size) searchers) (slice_chunk searchers size (length yielded))
          c.loop-part.all found both i.far next refl c.in_ok-append.ensures.items);
    }

pub returns : goal.returns
returns g c =
    let i = c.loop-part.invariant in
    let searchers = c.args.searchers.now in
    let size = c.div_ceil-size.result in
    let yielded = c.loop-part.yielded in
    let rest = c.loop-part.part-iterator.rest.items in
    let whole : yielded ++ rest ≡ c.in_ok-each.each.items = i.left ∙ c.into_iter-part-iterator.ensures.into_iter_gives.0 in
    let none : length rest ≡ 0 = omega (arith, c.loop-part.part-iterator.rest.ok.0, (c.in-None.ensures.steps).0) in
    let many : length yielded ≡ c.args.parts =
    omega (arith, none, length-append yielded rest, ap (λ (rs : List (Result Found AllocError)). length rs) whole, c.in_ok-each.ensures.count) in
    subst (λ (ss : List Searcher). HasFound (criterion_of c.args.query.now) c.args.most ss c.loop-part.all)
    (all-parts searchers size c.args.parts (length yielded) c.requires.parts c.div_ceil-size.ensures many) i.far
