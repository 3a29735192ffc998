-- The keys compare equal to those at the places of the index that was written.
use Rattle.std.proofs.Common.{◌≡◌, List, ℕ, ◌++◌, length, sym, ap, subst, ◌∙◌}
use Rattle.std.specs.Map.{keys_of}
use Rattle.sc_keys.specs.Storing.{ArePlaces}
use Rattle.sc_segment.proofs.FlatLemmas.{keys_of-entries}
use Rattle.sc_segment.proofs.StoringLemmas.{entries_of_places-alike, as_long-alike}
use Rattle.sc_segment.specs.Flat.{FlatState, AreEnds}
use Rattle.sc_segment.specs.Storing.{KeptState}
use Rattle.sc_segment.proofs.flat_index.KeptIndex.of_places.Goals as goal

-- the stored keys of both indexes are those of their keys
stored_both : {K : Type 0} (first second first' second' : List K) → first ≡ first' → second ≡ second' → first' ++ second' ≡ first ++ second
stored_both first second first' second' as_first as_second = ap (λ ks. ks ++ second') (sym as_first) ∙ ap (λ ks. first ++ ks) (sym as_second)

-- the places that were written, in a list without the room that is not used
as_places : {K : Type 0} (stored stored' : List K) (written places : List ℕ) → ArePlaces stored written → stored ≡ stored' → written ≡ places → ArePlaces stored' places
as_places stored stored' written places are as_stored as_written = subst (λ ks. ArePlaces ks places) as_stored (subst (ArePlaces stored) as_written are)

pub at-requires : goal.at-requires
at-requires g c =
    as_places (c.args.old.now.stored ++ c.args.added.now.stored) (c.old.inside.keys.stored ++ c.added.inside.keys.stored) (keys_of c.args.index.entries) c.shrink_to_fit.new.self.items c.requires
    (stored_both c.old.inside.keys.stored c.added.inside.keys.stored c.args.old.now.stored c.args.added.now.stored (ap (λ (s : KeptState _). s.stored) c.old.view_is) (ap (λ (s : KeptState _). s.stored) c.added.view_is))
    (sym (ap (λ (s : FlatState ℕ). keys_of s.entries) c.index.view_is)
    ∙ keys_of-entries 0 c.index.inside.keys.items c.index.inside.ends.items c.index.inside.rows.items c.index.invariant.0
    ∙ sym c.shrink_to_fit.ensures.items)

pub invariant_of-result : goal.invariant_of-result
invariant_of-result g c =
    let are =
    as_places (c.args.old.now.stored ++ c.args.added.now.stored) (c.old.inside.keys.stored ++ c.added.inside.keys.stored) (keys_of c.args.index.entries) c.shrink_to_fit.new.self.items c.requires
    (stored_both c.old.inside.keys.stored c.added.inside.keys.stored c.args.old.now.stored c.args.added.now.stored (ap (λ (s : KeptState _). s.stored) c.old.view_is) (ap (λ (s : KeptState _). s.stored) c.added.view_is))
    (sym (ap (λ (s : FlatState ℕ). keys_of s.entries) c.index.view_is)
    ∙ keys_of-entries 0 c.index.inside.keys.items c.index.inside.ends.items c.index.inside.rows.items c.index.invariant.0
    ∙ sym c.shrink_to_fit.ensures.items) in (
      as_long-alike g.K.Key.order (c.old.inside.keys.stored ++ c.added.inside.keys.stored) c.index.inside.keys.items c.shrink_to_fit.new.self.items c.index.inside.ends.items c.shrink_to_fit-2.new.self.items
          c.in_ok-keys.keys.keys c.index.invariant.0 c.shrink_to_fit.ensures.items c.shrink_to_fit-2.ensures.items are c.in_ok-keys.ensures.alike,
      subst (λ (es : List ℕ). AreEnds 0 es (length c.shrink_to_fit-3.new.self.items)) (sym c.shrink_to_fit-2.ensures.items)
          (subst (λ (rs : List ℕ). AreEnds 0 c.index.inside.ends.items (length rs)) (sym c.shrink_to_fit-3.ensures.items) c.index.invariant.1),
    )

pub returns : goal.returns
returns g c =
    let are =
    as_places (c.args.old.now.stored ++ c.args.added.now.stored) (c.old.inside.keys.stored ++ c.added.inside.keys.stored) (keys_of c.args.index.entries) c.shrink_to_fit.new.self.items c.requires
    (stored_both c.old.inside.keys.stored c.added.inside.keys.stored c.args.old.now.stored c.args.added.now.stored (ap (λ (s : KeptState _). s.stored) c.old.view_is) (ap (λ (s : KeptState _). s.stored) c.added.view_is))
    (sym (ap (λ (s : FlatState ℕ). keys_of s.entries) c.index.view_is)
    ∙ keys_of-entries 0 c.index.inside.keys.items c.index.inside.ends.items c.index.inside.rows.items c.index.invariant.0
    ∙ sym c.shrink_to_fit.ensures.items) in
    rw (stored_both c.old.inside.keys.stored c.added.inside.keys.stored c.args.old.now.stored c.args.added.now.stored (ap (λ (s : KeptState _). s.stored) c.old.view_is) (ap (λ (s : KeptState _). s.stored) c.added.view_is))
    (entries_of_places-alike g.K.Key.order (c.old.inside.keys.stored ++ c.added.inside.keys.stored) c.index.inside.keys.items c.shrink_to_fit.new.self.items c.index.inside.ends.items c.shrink_to_fit-2.new.self.items
    c.index.inside.rows.items c.shrink_to_fit-3.new.self.items c.args.index.entries c.in_ok-keys.keys.keys (ap (λ (s : FlatState ℕ). s.entries) c.index.view_is)
    c.shrink_to_fit.ensures.items c.shrink_to_fit-2.ensures.items c.shrink_to_fit-3.ensures.items are c.in_ok-keys.ensures.alike)
