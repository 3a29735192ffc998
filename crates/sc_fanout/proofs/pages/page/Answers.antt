-- The start of all in order has the page's part of it.
use Rattle.std.proofs.Common.{◌+◌, map, take, drop, sym, ap, ◌∙◌}
use Rattle.std.proofs.lemmas.List.Sorted.{length_permutation}
use Rattle.sc_eval.specs.Criteria.{criterion_of}
use Rattle.sc_finding.specs.Lists.{IsStartOf, all_of}
use Rattle.sc_bucket.specs.Taking.{lent}
use Rattle.sc_finding.specs.Hits.{lent_in, lists_of}
use Rattle.sc_finding.proofs.HitLemmas.{hits-ascend, hits-begin}
use Rattle.sc_fanout.proofs.pages.page.Goals as goal

pub first_of_all-requires-clause-ascend : goal.first_of_all-requires-clause-ascend
first_of_all-requires-clause-ascend c =
    hits-ascend (criterion_of c.args.ask.now.query) (c.args.ask.now.start + c.args.ask.now.rows) c.args.all.now c.requires.may_be c.requires.kept

pub returns : goal.returns
returns c =
    let criterion = criterion_of c.args.ask.now.query in
    let start = c.args.ask.now.start in
    let most = c.reach-most.result in
    let wholes = lists_of criterion c.args.all.now in
    let kept = c.in_ok-kept.kept in
    let begins : IsStartOf (all_of wholes) most (lent_in kept) =
    c.in_ok-kept.ensures wholes c.requires.may_be
    (hits-begin criterion most (start + c.args.ask.now.rows) c.args.all.now c.reach-most.ensures.few c.requires.kept) in
    record {
      found = c.requires.counted;
      sorted = begins.sorted;
      order = begins.order;
      docs =
          c.in_ok-docs.ensures ∙ c.between.ensures
          ∙ ap (λ cells. drop start (take most (map lent cells))) c.as_slice.ensures.value
          ∙ ap (drop start) begins.start
          ∙ c.reach-most.ensures.enough begins.sorted
          (length_permutation (all_of wholes) begins.sorted begins.order.same ∙ sym c.requires.counted);
    }
