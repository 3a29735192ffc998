-- Nothing is filed in a new map.
use Rattle.std.proofs.Common.{◌≡◌, ◌≤◌, List, [], sym, subst}
use Rattle.std.proofs.lemmas.List.Elements.{All-nil}
use Rattle.std.specs.Map.{values_of}
use Rattle.sc_segment.specs.declared.tally.Posting.{Posting}
use Rattle.sc_segment.specs.Filing.{AreFiled, NoRowAbove}
use Rattle.sc_segment.proofs.TallyLemmas.{filed-none}
use Rattle.sc_segment.proofs.builder.Builder.new.Goals as goal

pub invariant_of-result : goal.invariant_of-result
invariant_of-result g c =
    let keys : c.new.result.entries ≡ [] = c.new.ensures.empty in
    let postings : c.new-2.result.items ≡ [] = c.new-2.ensures.items in (
      c.requires,
      subst (AreFiled (values_of c.new.result.entries)) (sym postings) (subst (λ (es : List _). AreFiled (values_of es) []) (sym keys) filed-none),
      subst (NoRowAbove 0) (sym postings) (All-nil (λ (p : Posting). p.row ≤ 0)),
    )
