-- The test decides which hashes are within the range.
use Rattle.std.proofs.Common.{◌≡◌, Bool, true, false, ◌↔◌, refl, sym, ap, subst, ◌∙◌, rules}
use Rattle.std.specs.Prelude.{ℤ, FitsSigned}
use Rattle.std.specs.Int.{w32}
use Rattle.std.specs.Bool.{IsTrue, Decides}
use Rattle.std.specs.Arc.{arc_value}
use Rattle.std.proofs.lemmas.Int.{to_z-of_z}
use Rattle.sc_record.specs.Writes.{Write}
use Rattle.sc_hash.specs.Range.{IsWithin}
use Rattle.sc_hash.specs.Bounds.{contains}
use Rattle.sc_hash.proofs.BoundsLemmas.{contains-Decides}
use Rattle.sc_eval.proofs.searcher.is_in.Goals as goal

-- two answers that say the same are one
one_answer : {P : Type 0} (a b : Bool) → (IsTrue a ↔ P) → Decides b P → a ≡ b
one_answer true b told decides = sym (decides.1 (told.0 refl))
one_answer false true told decides = told.1 (decides.0 refl)
one_answer false false told decides = refl

pub returns : goal.returns
returns c =
    let hash : c.hash.result ≡ (arc_value c.args.row.now).hash = c.hash.ensures ∙ ap (λ (row : Write). row.hash) c.deref.ensures in
    let fits : FitsSigned w32 c.hash.result = search rules in
    let said = simp (to_z-of_z w32 c.hash.result fits) at c.contains.ensures in
    let told : IsTrue c.contains.result ↔ IsWithin c.args.range.now.min c.args.range.now.max (arc_value c.args.row.now).hash =
    subst (λ (h : ℤ). IsTrue c.contains.result ↔ IsWithin c.args.range.now.min c.args.range.now.max h) hash said in
    one_answer c.contains.result (contains (arc_value c.args.row.now).hash (c.args.range.now.min, c.args.range.now.max)) told
    (contains-Decides (arc_value c.args.row.now).hash c.args.range.now.min c.args.range.now.max)
