-- The rows that were put at the end are all that wait for the key.
use Rattle.std.proofs.Common.{◌≡◌, ◌≤◌, List, [], ℕ, ◌++◌, length, ap, subst, sym, ◌∙◌, arith}
use Rattle.std.specs.Prelude.{vec_len}
use Rattle.sc_rows.specs.declared.joining.Kept.TheVariants.{Either}
use Rattle.sc_rows.specs.Joining.{IsJoin}
use Rattle.sc_rows.specs.Moving.{new_numbers}
use Rattle.sc_segment.proofs.FlatLemmas.{AreEnds-more, flat, flat-rows}
use Rattle.sc_segment.specs.Flat.{AreEnds, FlatState}
use Rattle.sc_segment.proofs.flat_index.FlatIndex.add_merged.Goals as goal

-- the three lists, after rows were put to the last of them
module _ {K : Type 0} (keys : List K) (ends rows rows' more : List ℕ) (old : FlatState K) (are : AreEnds 0 ends (length rows)) (was : flat keys ends rows ≡ old) (longer : rows' ≡ rows ++ more) where
  put : flat keys ends rows' ≡ record { entries = old.entries; pending = old.pending ++ more }
  put = ap (flat keys ends) longer ∙ flat-rows keys ends rows more old are was

  put-entries : (flat keys ends rows').entries ≡ old.entries
  put-entries = ap (λ (s : FlatState K). s.entries) put

  put-pending : old.pending ≡ [] → (flat keys ends rows').pending ≡ more
  put-pending none = ap (λ (s : FlatState K). s.pending) put ∙ ap (λ (rs : List ℕ). rs ++ more) none

-- whether rows were refused or not, the last list is no shorter
still : (ends rows rows' : List ℕ) (before after : ℕ) → before ≡ length rows → after ≡ length rows' → before ≤ after → AreEnds 0 ends (length rows) → AreEnds 0 ends (length rows')
still ends rows rows' before after long long' grows are = AreEnds-more 0 ends (length rows) (length rows') (omega (arith, long, long', grows)) are

pub invariant_of-self : goal.invariant_of-self
invariant_of-self g c = (
  c.self.invariant.0,
  still c.self.inside.ends.items c.self.inside.rows.items c.merge_moved.new.list.items (vec_len c.self.inside.rows) (vec_len c.merge_moved.new.list) c.self.inside.rows.ok.0 c.merge_moved.new.list.ok.0
      c.merge_moved.ensures.grows c.self.invariant.1,
)

pub invariant_of-self-2 : goal.invariant_of-self-2
invariant_of-self-2 g c = (
  c.self.invariant.0,
  still c.self.inside.ends.items c.self.inside.rows.items c.merge_moved.new.list.items (vec_len c.self.inside.rows) (vec_len c.merge_moved.new.list) c.self.inside.rows.ok.0 c.merge_moved.new.list.ok.0
      c.merge_moved.ensures.grows c.self.invariant.1,
)

pub returns-clause-entries : goal.returns-clause-entries
returns-clause-entries g c =
    let merged = c.in_ok-merge_moved.ensures.merged in
    put-entries c.self.inside.keys.items c.self.inside.ends.items c.self.inside.rows.items c.merge_moved.new.list.items merged.0 c.args.self.now c.self.invariant.1 c.self.view_is merged.1

pub returns-clause-rows : goal.returns-clause-rows
returns-clause-rows g c =
    let merged = c.in_ok-merge_moved.ensures.merged in
    subst (IsJoin Either (new_numbers c.args.moved.now c.args.rows.now) c.args.added.now)
    (sym (put-pending c.self.inside.keys.items c.self.inside.ends.items c.self.inside.rows.items c.merge_moved.new.list.items merged.0 c.args.self.now c.self.invariant.1 c.self.view_is merged.1 c.requires.none)) merged.2
