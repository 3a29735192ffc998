-- The run's own places are the first of those that were given, so its heads are those of the keys there.
use Rattle.std.proofs.Common.{◌≡◌, ◌≤◌, List, ℕ, length, map, sym, ap, subst, ◌∙◌, arith}
use Rattle.sc_keys.proofs.HeadLemmas.{heads_as_long, run_ends, run_length, run_places, run_heads}
use Rattle.sc_keys.specs.Storing.{ArePlaces, KeysState, keys_at, stored_in}
use Rattle.sc_keys.proofs.keys.Keys.heads_of_run.Given.{Over}
use Rattle.sc_keys.proofs.keys.Keys.heads_of_run.Goals as goal

-- what is known of the run
module _ (g : Over) (c : goal.After-result-1 g) where
  abbrev seen : stored_in c.self.inside.pieces.items ≡ c.args.self.now.stored
  seen = ap (λ (s : KeysState _). s.stored) c.self.view_is

  are : ArePlaces c.args.self.now.stored c.deref.result.now
  are = subst (λ ks. ArePlaces ks c.deref.result.now) seen (subst (ArePlaces (stored_in c.self.inside.pieces.items)) (sym c.deref.ensures.value) c.self.invariant.1)

  headed : c.deref-2.result.now ≡ map g.K.Key.heading (keys_at c.args.self.now.stored c.deref.result.now)
  headed =
      c.deref-2.ensures.value ∙ c.self.invariant.2
      ∙ ap (λ (ps : List ℕ). map g.K.Key.heading (keys_at (stored_in c.self.inside.pieces.items) ps)) (sym c.deref.ensures.value)
      ∙ ap (λ ks. map g.K.Key.heading (keys_at ks c.deref.result.now)) seen

  within : c.min-first.result ≤ length c.deref.result.now
  within = omega (arith, c.min-first.ensures, c.len.ensures, c.deref.ensures.len)

pub slice_bounds-result-end : goal.slice_bounds-result-end
slice_bounds-result-end g c =
    let inside = c.self.inside in
    let as_long = heads_as_long g.K.Key.heading (stored_in inside.pieces.items) inside.places.items inside.heads.items c.self.invariant.1 c.self.invariant.2 in
    let own = ap (λ (ps : List ℕ). length ps) c.deref.ensures.value in
    let heads = ap (λ (hs : List ℕ). length hs) c.deref-2.ensures.value in
    let within : c.min-first.result ≤ length c.deref.result.now = omega (arith, c.min-first.ensures, c.len.ensures, c.deref.ensures.len) in
    omega (arith, as_long, own, heads, run_ends c.deref.result.now c.min-first.result c.same_count-run.result within c.same_count-run.ensures.one)

pub returns-clause-within : goal.returns-clause-within
returns-clause-within g c =
    let count = run_length g.K.Key.heading c.args.self.now.stored c.deref.result.now c.deref-2.result.now c.args.places.now c.min-first.result c.same_count-run.result (are g c) (headed g c) (within g c)
    c.same_count-run.ensures.one c.same_count-run.ensures.same in
    omega (arith, count, c.same_count-run.ensures.other)

pub returns-clause-are_places : goal.returns-clause-are_places
returns-clause-are_places g c =
    run_places g.K.Key.heading c.args.self.now.stored c.deref.result.now c.deref-2.result.now c.args.places.now c.min-first.result c.same_count-run.result (are g c) (headed g c) (within g c)
    c.same_count-run.ensures.one c.same_count-run.ensures.same

pub returns-clause-heads : goal.returns-clause-heads
returns-clause-heads g c =
    run_heads g.K.Key.heading c.args.self.now.stored c.deref.result.now c.deref-2.result.now c.args.places.now c.min-first.result c.same_count-run.result (are g c) (headed g c) (within g c)
    c.same_count-run.ensures.one c.same_count-run.ensures.same
