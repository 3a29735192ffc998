-- The rows that waited are those of the key.
use Rattle.std.proofs.Common.{◌≡◌, ℕ, ◌+◌, List, ◌++◌, ◌∷◌, [], length, sym, ap, subst, ◌∙◌}
use Rattle.std.proofs.lemmas.List.{length_push}
use Rattle.sc_segment.proofs.FlatLemmas.{AreEnds-push, flat, flat-close}
use Rattle.sc_segment.specs.Flat.{AreEnds, FlatState}
use Rattle.sc_segment.proofs.flat_index.FlatIndex.close.Goals as goal

-- the three lists, after room was made and an end and a key were put to them
module _ {K : Type 0} (keys roomy keys' : List K) (ends ends' rows : List ℕ) (key : K) (end count : ℕ) (old : FlatState K) (same : length keys ≡ length ends)
    (are : AreEnds 0 ends (length rows)) (room : roomy ≡ keys) (more : keys' ≡ roomy ++ key ∷ []) (counted : end ≡ count) (all : count ≡ length rows) (longer : ends' ≡ ends ++ end ∷ []) where
  new_keys : keys' ≡ keys ++ key ∷ []
  new_keys = more ∙ ap (λ (ks : List K). ks ++ key ∷ []) room

  new_ends : ends' ≡ ends ++ length rows ∷ []
  new_ends = longer ∙ ap (λ (n : ℕ). ends ++ n ∷ []) (counted ∙ all)

  as_long : length keys' ≡ length ends'
  as_long = ap length new_keys ∙ length_push keys key ∙ ap (λ (n : ℕ). n + 1) same ∙ sym (length_push ends (length rows)) ∙ sym (ap length new_ends)

  still : AreEnds 0 ends' (length rows)
  still = subst (λ (es : List ℕ). AreEnds 0 es (length rows)) (sym new_ends) (AreEnds-push 0 ends (length rows) are)

  closed : flat keys ends rows ≡ old → flat keys' ends' rows ≡ record { entries = old.entries ++ (key, old.pending) ∷ []; pending = [] }
  closed was = ap (λ (ks : List K). flat ks ends' rows) new_keys ∙ ap (λ (es : List ℕ). flat (keys ++ key ∷ []) es rows) new_ends ∙ flat-close keys ends rows key old same are was

pub invariant_of-self-2 : goal.invariant_of-self-2
invariant_of-self-2 g c = (
  as_long c.self.inside.keys.items c.reserve.new.self.items c.push_reserved-2.new.self.items c.self.inside.ends.items c.push_reserved.new.self.items c.self.inside.rows.items c.args.key c.in_ok-end.end c.len.result
      c.args.self.now c.self.invariant.0 c.self.invariant.1 c.reserve.ensures.items c.push_reserved-2.ensures.items c.in_ok-end.ensures.end (c.len.ensures ∙ c.self.inside.rows.ok.0) (c.push_reserved.ensures.items ∙ ap (λ (es : List ℕ). es ++ c.in_ok-end.end ∷ []) c.reserve-2.ensures.items),
  still c.self.inside.keys.items c.reserve.new.self.items c.push_reserved-2.new.self.items c.self.inside.ends.items c.push_reserved.new.self.items c.self.inside.rows.items c.args.key c.in_ok-end.end c.len.result
      c.args.self.now c.self.invariant.0 c.self.invariant.1 c.reserve.ensures.items c.push_reserved-2.ensures.items c.in_ok-end.ensures.end (c.len.ensures ∙ c.self.inside.rows.ok.0) (c.push_reserved.ensures.items ∙ ap (λ (es : List ℕ). es ++ c.in_ok-end.end ∷ []) c.reserve-2.ensures.items),
)

pub returns : goal.returns
returns g c =
    closed c.self.inside.keys.items c.reserve.new.self.items c.push_reserved-2.new.self.items c.self.inside.ends.items c.push_reserved.new.self.items c.self.inside.rows.items c.args.key c.in_ok-end.end c.len.result
    c.args.self.now c.self.invariant.0 c.self.invariant.1 c.reserve.ensures.items c.push_reserved-2.ensures.items c.in_ok-end.ensures.end (c.len.ensures ∙ c.self.inside.rows.ok.0) (c.push_reserved.ensures.items ∙ ap (λ (es : List ℕ). es ++ c.in_ok-end.end ∷ []) c.reserve-2.ensures.items) c.self.view_is
