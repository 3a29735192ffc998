use Rattle.std.proofs.Common.{rules, ◌≡◌, ◌<◌, ◌≤◌, List, length, get_or, ◌∙◌, ap, arith}
use Rattle.sc_files.specs.declared.mem_file.Call.{Call}
use Rattle.sc_files.proofs.StepLemmas.{begins, next, ends}
use Rattle.sc_files.proofs.mem_file.MemFile.image.Goals as goal

pub calls-init : goal.calls-init
calls-init c =
    let copied : c.from_vec.result ≡ c.args.self.now.first = search rules in
    begins c.args.self.now.first c.args.self.now.history c.from_vec.result copied

pub calls-preserved : goal.calls-preserved
calls-preserved c =
    let file = c.args.self.now in
    let same = c.as_slice-calls.ensures in
    let there : c.calls.at < length file.history = omega (arith, c.calls-test.true, ap length same) in
    next file.first file.history c.calls.at c.index-calls-at.result c.calls.image.bytes c.in-Some.next.bytes c.calls.image.is_kept c.in-Some.next.is_kept there
    (c.index-calls-at.is ∙ ap (λ (l : List Call). get_or l c.calls.at c.index-calls-at.result) same) c.calls.invariant (rw c.in-Some.is at c.in_ok-after_call.ensures)

pub returns : goal.returns
returns c =
    let file = c.args.self.now in
    let all : length file.history ≤ c.calls.at = omega (arith, c.calls-test.false, ap length c.as_slice-calls.ensures) in
    ends file.first file.history c.calls.at c.calls.image.bytes c.calls.image.is_kept all c.calls.invariant
