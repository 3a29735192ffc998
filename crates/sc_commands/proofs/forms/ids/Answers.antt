-- The reading ends at the first item that does not pass, and else each item is a command.
use Rattle.std.proofs.Common.{◌≡◌, true, false, get_or, sym, ap, ◌∙◌}
use Rattle.serde_json.specs.View.{view}
use Rattle.serde_json.specs.declared.value.Value.{Value}
use Rattle.sc_commands.specs.Commands.{can_be_id}
use Rattle.sc_commands.specs.Listed.{command_of}
use Rattle.sc_commands.specs.declared.forms.Action.TheVariants as actions
use Rattle.sc_commands.proofs.FormLemmas.{pass_more, ends_at, all_pass}
use Rattle.sc_commands.proofs.forms.ids.Goals as goal

pub returns-then-not-is_id-clause-err : goal.returns-then-not-is_id-clause-err
returns-then-not-is_id-clause-err c =
    let here : can_be_id (view (get_or c.args.items.now c.loop-at.at c.index-items-at.result)) ≡ false =
    ap (λ (v : Value). can_be_id (view v)) (sym c.index-items-at.is) ∙ sym c.is_id.ensures ∙ c.if-not-is_id.true in
    ends_at can_be_id (command_of actions.Delete) c.args.items.now c.loop-at.at c.index-items-at.result c.loop-at-test.true c.loop-at.invariant here

pub loop-at-preserved : goal.loop-at-preserved
loop-at-preserved c =
    let here : can_be_id (view (get_or c.args.items.now c.loop-at.at c.index-items-at.result)) ≡ true =
    ap (λ (v : Value). can_be_id (view v)) (sym c.index-items-at.is) ∙ sym c.is_id.ensures ∙ c.if-not-is_id.false in
    pass_more can_be_id c.args.items.now c.loop-at.at c.index-items-at.result c.loop-at-test.true c.loop-at.invariant here

pub returns-clause-ok : goal.returns-clause-ok
returns-clause-ok c = all_pass can_be_id (command_of actions.Delete) c.args.items.now c.loop-at.at c.loop-at-test.false c.loop-at.invariant
