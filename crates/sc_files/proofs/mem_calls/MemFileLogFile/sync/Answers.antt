use Rattle.std.proofs.Common.{[], ◌∷◌, ◌++◌, not, ◌∙◌, ap}
use Rattle.sc_files.specs.declared.mem_file.Call.TheVariants as call
use Rattle.sc_files.specs.declared.mem_file.MemFile.{MemFile}
use Rattle.sc_files.proofs.MemFileLemmas as mem
use Rattle.sc_files.proofs.mem_calls.MemFileLogFile.sync.Goals as goal

pub returns-in-Ok-clause-durable : goal.returns-in-Ok-clause-durable
returns-in-Ok-clause-durable c =
    let old = c.args.self.now in
    let done = not c.is_to_fail-done.result in
    let counted = c.is_to_fail-done.ensures.counted in
    let noted : MemFile = record c.is_to_fail-done.new.self { history = c.push.new.self } in
    mem.syncs old noted (ap (λ (m : MemFile). m.first) counted) done (ap not c.if-done.true) (c.in-Ok.ensures.ok ∙ ap (λ (m : MemFile). m.history ++ call.Sync done ∷ []) counted) (ap (λ (m : MemFile). m.bytes) counted)

pub returns-in-Ok-2-clause-failed : goal.returns-in-Ok-2-clause-failed
returns-in-Ok-2-clause-failed c =
    let old = c.args.self.now in
    let done = not c.is_to_fail-done.result in
    let counted = c.is_to_fail-done.ensures.counted in
    let noted : MemFile = record c.is_to_fail-done.new.self { history = c.push.new.self } in
    let rose = c.failed.ensures.counted in
    mem.on_err c.failed.result _ (mem.sync_fails old c.failed.new.self (ap (λ (m : MemFile). m.first) rose ∙ ap (λ (m : MemFile). m.first) counted) done (ap not c.if-done.false) (ap (λ (m : MemFile). m.history) rose ∙ c.in-Ok-2.ensures.ok ∙ ap (λ (m : MemFile). m.history ++ call.Sync done ∷ []) counted) (ap (λ (m : MemFile). m.bytes) rose ∙ ap (λ (m : MemFile). m.bytes) counted))
