-- A key that is told to stay has no rows among the lost, so that its own keep their numbers.
use Rattle.std.proofs.Common.{◌≡◌, Bool, List, ℕ, [], slice_get, sym, ap, subst, ◌∙◌}
use Rattle.sc_segment.specs.Carrying.{StayAt}
use Rattle.sc_segment.specs.Index.{rows_at}
use Rattle.sc_segment.proofs.segment.Segment.carried_in_place.Goals as goal

pub carried_by-requires-clause-stays : goal.carried_by-requires-clause-stays
carried_by-requires-clause-stays g c =
    subst (λ (ss : List Bool). StayAt c.args.moved.now c.args.self.now ss) (sym c.as_slice.ensures.value)
    (λ i e here stay. c.requires.others i e here
    (subst (λ (es : List (_ × List ℕ)). rows_at g.K.Key.order es e.0 ≡ []) c.lost.view_is (c.in_ok-stays.ensures i e (ap (λ (es : List (_ × List ℕ)). slice_get es i) c.self.view_is ∙ here) stay)))
