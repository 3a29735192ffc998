use Rattle.std.proofs.Common.{◌≡◌, ◌∙◌, sym, nat_cmp}
use Rattle.std.specs.Cmp.Lexicographic.{slice_cmp}
use Rattle.std.specs.Ordering.{ordering_then}
use Rattle.std.specs.declared.cmp.Ordering.TheVariants.{Less, Equal, Greater}
use Rattle.sc_values.proofs.ShortLemmas.{short-order}
use Rattle.sc_values.proofs.short.Short.order.Goals as goal

pub returns-in-Less : goal.returns-in-Less
returns-in-Less c =
    let decided : Less ≡ slice_cmp nat_cmp c.self.inside.bytes c.other.inside.bytes = sym c.in-Less.is ∙ c.order_of_padded.ensures in
    (λ i. ordering_then (decided i) (nat_cmp c.self.inside.length c.other.inside.length))
    ∙ short-order _ _ _ _ _ _ c.self.invariant c.other.invariant c.self.told c.other.told c.self.view_is c.other.view_is

pub returns-in-Equal : goal.returns-in-Equal
returns-in-Equal c =
    let alike : Equal ≡ slice_cmp nat_cmp c.self.inside.bytes c.other.inside.bytes = sym c.in-Equal.is ∙ c.order_of_padded.ensures in
    c.cmp.ensures
    ∙ (λ i. ordering_then (alike i) (nat_cmp c.self.inside.length c.other.inside.length))
    ∙ short-order _ _ _ _ _ _ c.self.invariant c.other.invariant c.self.told c.other.told c.self.view_is c.other.view_is

pub returns-in-Greater : goal.returns-in-Greater
returns-in-Greater c =
    let decided : Greater ≡ slice_cmp nat_cmp c.self.inside.bytes c.other.inside.bytes = sym c.in-Greater.is ∙ c.order_of_padded.ensures in
    (λ i. ordering_then (decided i) (nat_cmp c.self.inside.length c.other.inside.length))
    ∙ short-order _ _ _ _ _ _ c.self.invariant c.other.invariant c.self.told c.other.told c.self.view_is c.other.view_is
