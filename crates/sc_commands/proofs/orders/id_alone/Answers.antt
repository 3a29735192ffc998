-- One field is in order.
use Rattle.std.proofs.Common.{List, ◌∷◌, [], ◌++◌, sym, ap, ◌∙◌, subst}
use Rattle.sc_schema.specs.Raw.{AscendByName}
use Rattle.sc_schema.specs.declared.raw.RawField.{RawField}
use Rattle.sc_schema.specs.declared.raw.RawFlat.TheVariants.{One}
use Rattle.sc_schema.specs.declared.raw.RawValue.TheVariants.{Plain}
use Rattle.sc_commands.proofs.OrderLemmas.{alone_ascends}
use Rattle.sc_commands.proofs.orders.id_alone.Goals as goal

pub invariant_of-result : goal.invariant_of-result
invariant_of-result c =
    let field : RawField = record { name = c.in_ok-name.name; value = Plain (One c.in_ok-one.one) } in
    let put = c.in_ok-push.ensures.ok ∙ ap (λ (fields : List RawField). fields ++ field ∷ []) c.new-fields.ensures in
    record { ascend = subst AscendByName (sym put) (alone_ascends field) }
