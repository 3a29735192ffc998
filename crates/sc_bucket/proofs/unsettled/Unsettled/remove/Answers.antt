-- What is left is the filter of the places other than this.
use Rattle.std.proofs.Common.{◌≡◌, ◌∙◌, ◌==◌, ℕ, List, filter, not, ap, rules}
use Rattle.std.proofs.lemmas.Fn.{filter_same}
use Rattle.sc_bucket.specs.Kept.{PlacesState}
use Rattle.sc_bucket.proofs.unsettled.Unsettled.remove.Goals as goal

-- the places other than this, where the state is seen as another
places_left : (place : ℕ) (state seen : PlacesState) (left : List ℕ) → state ≡ seen → left ≡ filter (λ p. not (p == place)) state.places
    → record state { places = left } ≡ record seen { places = filter (λ p. not (p == place)) seen.places }
places_left place state seen left same is_left =
    ap (λ (places : List ℕ). record state { places = places }) is_left
    ∙ ap (λ (s : PlacesState). record s { places = filter (λ p. not (p == place)) s.places }) same

pub returns : goal.returns
returns c =
    let kept = filter_same _ (λ p. not (p == c.args.place)) _ (λ x b f' k. search rules) _ _ c.retain.ensures.filtered in
    places_left c.args.place _ _ _ c.self.view_is kept
