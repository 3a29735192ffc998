-- One option more.
use Rattle.std.proofs.Common.{◌≡◌, ◌∙◌, ◌<◌, [], map, length, get_or, rules, arith, ap, ap₂, Bor, Some}
use Rattle.std.proofs.Math.ListN.{get_or-map}
use Rattle.std.proofs.lemmas.List.{length-map}
use Rattle.clap.specs.Words.{Rule, rule_of, with_rule}
use Rattle.clap.specs.Walk.{Text}
use Rattle.sc_arguments.specs.Found.{option_rule}
use Rattle.sc_arguments.proofs.RuleLemmas.{rule_added}
use Rattle.sc_arguments.proofs.options.parser_of.Goals as goal

pub loop-name-preserved : goal.loop-name-preserved
loop-name-preserved c =
    let missing : Bor Text = record { ref_ptr = (0, 0); now = [] } in
    let name = (get_or c.args.names.now c.loop-name.name-index missing).now in
    let rule : rule_of c.long.result ≡ option_rule name = ap rule_of c.long.ensures ∙ ap (λ (r : Rule). record r { long = Some name }) c.new-in-loop-name.ensures.rule in
    let below : c.loop-name.name-index < length (map (λ (s : Bor Text). s.now) c.args.names.now) = rw length-map (omega arith) in
    c.in_ok-parser.ensures.shape (search rules)
    ∙ (ap₂ with_rule c.loop-name.invariant rule ∙ rule_added (map (λ (s : Bor Text). s.now) c.args.names.now) c.loop-name.name-index name below (get_or-map (λ (s : Bor Text). s.now) c.args.names.now c.loop-name.name-index missing))
