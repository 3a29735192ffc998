-- The core that comes next is the next replica.
use Rattle.std.proofs.Common.{◌≡◌, ◌∙◌, ◌+◌, List, [], ◌∷◌, ◌++◌, map, sym, ap, arith}
use Rattle.std.specs.List.{range_with_len}
use Rattle.std.proofs.lemmas.List.{append_assoc}
use Rattle.std.proofs.lemmas.List.FromFn.{map-range_with_len_more}
use Rattle.sc_io.specs.declared.hosts.Host.{Host}
use Rattle.sc_cores.specs.Cores.{core_at}
use Rattle.sc_cores.proofs.naming.push_cores.Goals as goal

-- src/naming.rt:55:5
pub loop-before-preserved : goal.loop-before-preserved
loop-before-preserved c =
    let replica = core_at c.args.nodes c.args.slice.now.name c.args.slice.now.node in
    let before : List Host = c.args.cores.now.items in
    let so_far : List Host = map replica (range_with_len 1 c.loop-before.before) in
    let next : 1 + c.loop-before.before ≡ c.loop-before.before + 1 = omega arith in
    c.in_ok-push.ensures.items
    ∙ ap (λ (xs : List Host). xs ++ c.in_ok-core_of.field-0 ∷ []) c.loop-before.invariant
    ∙ ap (λ x. (before ++ so_far) ++ x ∷ []) (c.in_ok-core_of.ensures ∙ ap (λ name. core_at c.args.nodes name c.args.slice.now.node (c.loop-before.before + 1)) c.as_str.ensures)
    ∙ append_assoc before so_far (replica (c.loop-before.before + 1) ∷ [])
    ∙ ap (λ (xs : List Host). before ++ xs) (sym (map-range_with_len_more replica 1 c.loop-before.before (c.loop-before.before + 1) next))
