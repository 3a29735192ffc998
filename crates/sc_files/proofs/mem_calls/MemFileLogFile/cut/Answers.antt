use Rattle.std.proofs.Common.{[], ◌∷◌, ◌++◌, not, take, if◌then◌else◌, ◌∙◌, ap}
use Rattle.sc_files.specs.declared.mem_file.Call.TheVariants as call
use Rattle.sc_files.specs.declared.mem_file.MemFile.{MemFile}
use Rattle.sc_files.proofs.MemFileLemmas as mem
use Rattle.sc_files.proofs.mem_calls.MemFileLogFile.cut.Goals as goal

pub returns-in-Ok-clause-cut : goal.returns-in-Ok-clause-cut
returns-in-Ok-clause-cut c =
    let old = c.args.self.now in
    let done = not c.is_to_fail-done.result in
    let counted = c.is_to_fail-done.ensures.counted in
    let ok = c.in-Ok.ensures.ok in
    mem.cuts old c.note_cut.new.self (ap (λ (m : MemFile). m.first) ok ∙ ap (λ (m : MemFile). m.first) counted) c.args.len done (ap not c.if-done.true) (ap (λ (m : MemFile). m.history) ok ∙ ap (λ (m : MemFile). m.history ++ call.Cut c.args.len done ∷ []) counted) (ap (λ (m : MemFile). m.bytes) ok ∙ ap (λ (m : MemFile). if done then take c.args.len m.bytes else m.bytes) counted)

pub returns-in-Ok-2-clause-torn : goal.returns-in-Ok-2-clause-torn
returns-in-Ok-2-clause-torn c =
    let old = c.args.self.now in
    let done = not c.is_to_fail-done.result in
    let counted = c.is_to_fail-done.ensures.counted in
    let ok = c.in-Ok-2.ensures.ok in
    let rose = c.failed.ensures.counted in
    mem.on_err c.failed.result _ (mem.cut_fails old c.failed.new.self (ap (λ (m : MemFile). m.first) rose ∙ ap (λ (m : MemFile). m.first) ok ∙ ap (λ (m : MemFile). m.first) counted) c.args.len done (ap not c.if-done.false) (ap (λ (m : MemFile). m.history) rose ∙ ap (λ (m : MemFile). m.history) ok ∙ ap (λ (m : MemFile). m.history ++ call.Cut c.args.len done ∷ []) counted) (ap (λ (m : MemFile). m.bytes) rose ∙ ap (λ (m : MemFile). m.bytes) ok ∙ ap (λ (m : MemFile). if done then take c.args.len m.bytes else m.bytes) counted))
