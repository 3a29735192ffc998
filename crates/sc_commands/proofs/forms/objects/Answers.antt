-- The reading ends at the first item that does not pass, and else each item is a command.
use Rattle.std.proofs.Common.{◌≡◌, true, false, get_or, sym, ap, ◌∙◌}
use Rattle.serde_json.specs.View.{view}
use Rattle.serde_json.specs.declared.value.Value.{Value}
use Rattle.sc_commands.specs.Commands.{is_json_object}
use Rattle.sc_commands.specs.Listed.{command_of}
use Rattle.sc_commands.specs.declared.forms.Action.TheVariants as actions
use Rattle.sc_commands.proofs.FormLemmas.{pass_more, ends_at, all_pass}
use Rattle.sc_commands.proofs.forms.objects.Goals as goal

pub returns-then-not-is_object-clause-err : goal.returns-then-not-is_object-clause-err
returns-then-not-is_object-clause-err c =
    let here : is_json_object (view (get_or c.args.items.now c.loop-at.at c.index-items-at.result)) ≡ false =
    ap (λ (v : Value). is_json_object (view v)) (sym c.index-items-at.is) ∙ sym c.is_object.ensures ∙ c.if-not-is_object.true in
    ends_at is_json_object (command_of actions.Add) c.args.items.now c.loop-at.at c.index-items-at.result c.loop-at-test.true c.loop-at.invariant here

pub loop-at-preserved : goal.loop-at-preserved
loop-at-preserved c =
    let here : is_json_object (view (get_or c.args.items.now c.loop-at.at c.index-items-at.result)) ≡ true =
    ap (λ (v : Value). is_json_object (view v)) (sym c.index-items-at.is) ∙ sym c.is_object.ensures ∙ c.if-not-is_object.false in
    pass_more is_json_object c.args.items.now c.loop-at.at c.index-items-at.result c.loop-at-test.true c.loop-at.invariant here

pub returns-clause-ok : goal.returns-clause-ok
returns-clause-ok c = all_pass is_json_object (command_of actions.Add) c.args.items.now c.loop-at.at c.loop-at-test.false c.loop-at.invariant
