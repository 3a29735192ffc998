-- The keys are those that were written, each list without the room that is not used.
use Rattle.std.proofs.Common.{◌≡◌, ℕ, List, length, sym, ap, subst, ◌∙◌}
use Rattle.sc_segment.specs.Flat.{FlatState, AreEnds, entries_from}
use Rattle.sc_segment.proofs.flat_index.KeptIndex.of_written.Goals as goal

pub invariant_of-result : goal.invariant_of-result
invariant_of-result g c =
    let keys : c.in_ok-keys.keys.keys ≡ c.index.inside.keys.items = c.in_ok-keys.ensures.keys ∙ c.shrink_to_fit.ensures.items in (
      ap length keys ∙ c.index.invariant.0 ∙ sym (ap length c.shrink_to_fit-2.ensures.items),
      subst (λ (es : List ℕ). AreEnds 0 es (length c.shrink_to_fit-3.new.self.items)) (sym c.shrink_to_fit-2.ensures.items)
          (subst (λ (rs : List ℕ). AreEnds 0 c.index.inside.ends.items (length rs)) (sym c.shrink_to_fit-3.ensures.items) c.index.invariant.1),
    )

pub returns : goal.returns
returns g c =
    let keys : c.in_ok-keys.keys.keys ≡ c.index.inside.keys.items = c.in_ok-keys.ensures.keys ∙ c.shrink_to_fit.ensures.items in
    ap (λ (ks : List _). entries_from 0 ks c.shrink_to_fit-2.new.self.items c.shrink_to_fit-3.new.self.items) keys
    ∙ ap (λ (es : List ℕ). entries_from 0 c.index.inside.keys.items es c.shrink_to_fit-3.new.self.items) c.shrink_to_fit-2.ensures.items
    ∙ ap (λ (rs : List ℕ). entries_from 0 c.index.inside.keys.items c.index.inside.ends.items rs) c.shrink_to_fit-3.ensures.items
    ∙ ap (λ (s : FlatState _). s.entries) c.index.view_is
