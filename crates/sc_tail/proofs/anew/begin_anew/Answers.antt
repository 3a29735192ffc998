use Rattle.std.proofs.Common.{◌≡◌, [], ◌≤◌, length, IfSome, sym, subst, arith}
use Rattle.sc_files.specs.Images.{Torn, IsCut, Cut}
use Rattle.sc_files.specs.States.{AreAmong}
use Rattle.sc_tail.proofs.AnewLemmas.{IsBlank, cut_blank, byte_blank, some_any, anew_begins, anew_goes_on, anew_writes, anew_syncs, anew_loses, anew_whole}
use Rattle.sc_tail.proofs.MomentLemmas.{sees_then, leaves_then}
use Rattle.sc_tail.proofs.anew.begin_anew.Goals as goal

pub cut-requires : goal.cut-requires
cut-requires g c =
    some_any (g.F.LogFile.state c.args.file.now).seen (λ old. 0 ≤ length old) (λ old. omega arith)

pub returns-in_err-cut-clause-any_moment : goal.returns-in_err-cut-clause-any_moment
returns-in_err-cut-clause-any_moment g c =
    let start = g.F.LogFile.state c.args.file.now in
    let m0 = anew_begins start c.requires.crash (λ x left. g.met.F.LogFile.only_now c.args.file.now x left) in
    anew_goes_on start c.requires.crash start _ m0 _ c.in_err-cut.ensures.torn c.requires.crash

pub returns-in_err-sync-clause-any_moment : goal.returns-in_err-sync-clause-any_moment
returns-in_err-sync-clause-any_moment g c =
    let start = g.F.LogFile.state c.args.file.now in
    let m0 = anew_begins start c.requires.crash (λ x left. g.met.F.LogFile.only_now c.args.file.now x left) in
    let cut = c.in_ok-cut.ensures.cut in
    let m1 = anew_goes_on start c.requires.crash start _ m0 _ cut c.requires.crash in
    let blank = leaves_then _ _ (Cut 0) IsBlank IsBlank cut.crash c.requires.crash (cut_blank 0) in
    anew_loses start c.requires.crash _ _ m1 c.in_err-sync.ensures.failed blank

pub write-requires : goal.write-requires
write-requires g c =
    some_any (g.F.LogFile.state c.sync.new.self).seen (λ old. 0 ≤ length old) (λ old. omega arith)

pub returns-in_err-write-clause-any_moment : goal.returns-in_err-write-clause-any_moment
returns-in_err-write-clause-any_moment g c =
    let start = g.F.LogFile.state c.args.file.now in
    let m0 = anew_begins start c.requires.crash (λ x left. g.met.F.LogFile.only_now c.args.file.now x left) in
    let cut = c.in_ok-cut.ensures.cut in
    let m1 = anew_goes_on start c.requires.crash start _ m0 _ cut c.requires.crash in
    let blank = leaves_then _ _ (Cut 0) IsBlank IsBlank cut.crash c.requires.crash (cut_blank 0) in
    let sync = c.in_ok-sync.ensures.durable in
    let m2 = anew_syncs start c.requires.crash _ _ m1 sync blank in
    let none = leaves_then start.kept _ (IsCut 0) (λ x. Unit {0}) (λ x. x ≡ []) cut.kept (λ x now. tt) (λ d x was is. is) in
    let empty : AreAmong (g.F.LogFile.state c.sync.new.self).may_leave (λ x. x ≡ []) = λ x left. none x (sync.durable x left) in
    anew_writes start c.requires.crash _ _ m2 _ c.in_err-write.ensures.torn empty

pub returns-in_err-sync-2-clause-any_moment : goal.returns-in_err-sync-2-clause-any_moment
returns-in_err-sync-2-clause-any_moment g c =
    let start = g.F.LogFile.state c.args.file.now in
    let m0 = anew_begins start c.requires.crash (λ x left. g.met.F.LogFile.only_now c.args.file.now x left) in
    let cut = c.in_ok-cut.ensures.cut in
    let m1 = anew_goes_on start c.requires.crash start _ m0 _ cut c.requires.crash in
    let blank = leaves_then _ _ (Cut 0) IsBlank IsBlank cut.crash c.requires.crash (cut_blank 0) in
    let sync = c.in_ok-sync.ensures.durable in
    let m2 = anew_syncs start c.requires.crash _ _ m1 sync blank in
    let none = leaves_then start.kept _ (IsCut 0) (λ x. Unit {0}) (λ x. x ≡ []) cut.kept (λ x now. tt) (λ d x was is. is) in
    let empty : AreAmong (g.F.LogFile.state c.sync.new.self).may_leave (λ x. x ≡ []) = λ x left. none x (sync.durable x left) in
    let written = c.in_ok-write.ensures.written in
    let m3 = anew_writes start c.requires.crash _ _ m2 _ written empty in
    let still = leaves_then _ _ (Torn 0 1) (λ x. x ≡ []) IsBlank written.crash empty byte_blank in
    anew_loses start c.requires.crash _ _ m3 c.in_err-sync-2.ensures.failed still

pub returns-clause-any_moment : goal.returns-clause-any_moment
returns-clause-any_moment g c =
    let start = g.F.LogFile.state c.args.file.now in
    let m0 = anew_begins start c.requires.crash (λ x left. g.met.F.LogFile.only_now c.args.file.now x left) in
    let cut = c.in_ok-cut.ensures.cut in
    let m1 = anew_goes_on start c.requires.crash start _ m0 _ cut c.requires.crash in
    let blank = leaves_then _ _ (Cut 0) IsBlank IsBlank cut.crash c.requires.crash (cut_blank 0) in
    let sync = c.in_ok-sync.ensures.durable in
    let m2 = anew_syncs start c.requires.crash _ _ m1 sync blank in
    let none = leaves_then start.kept _ (IsCut 0) (λ x. Unit {0}) (λ x. x ≡ []) cut.kept (λ x now. tt) (λ d x was is. is) in
    let empty : AreAmong (g.F.LogFile.state c.sync.new.self).may_leave (λ x. x ≡ []) = λ x left. none x (sync.durable x left) in
    let written = c.in_ok-write.ensures.written in
    let m3 = anew_writes start c.requires.crash _ _ m2 _ written empty in
    let still = leaves_then _ _ (Torn 0 1) (λ x. x ≡ []) IsBlank written.crash empty byte_blank in
    anew_syncs start c.requires.crash _ _ m3 c.in_ok-sync-2.ensures.durable still

pub returns-clause-begun : goal.returns-clause-begun
returns-clause-begun g c =
    let start = g.F.LogFile.state c.args.file.now in
    let m0 = anew_begins start c.requires.crash (λ x left. g.met.F.LogFile.only_now c.args.file.now x left) in
    let cut = c.in_ok-cut.ensures.cut in
    let m1 = anew_goes_on start c.requires.crash start _ m0 _ cut c.requires.crash in
    let blank = leaves_then _ _ (Cut 0) IsBlank IsBlank cut.crash c.requires.crash (cut_blank 0) in
    let sync = c.in_ok-sync.ensures.durable in
    let m2 = anew_syncs start c.requires.crash _ _ m1 sync blank in
    let none = leaves_then start.kept _ (IsCut 0) (λ x. Unit {0}) (λ x. x ≡ []) cut.kept (λ x now. tt) (λ d x was is. is) in
    let empty : AreAmong (g.F.LogFile.state c.sync.new.self).may_leave (λ x. x ≡ []) = λ x left. none x (sync.durable x left) in
    let written = c.in_ok-write.ensures.written in
    let gone = sees_then start.seen _ (IsCut 0) (λ x. Unit {0}) (λ x. x ≡ []) cut.seen (some_any start.seen (λ x. Unit {0}) (λ x. tt)) (λ d x was is. is) in
    anew_whole _ _ _ written c.in_ok-sync-2.ensures.durable (subst (λ o. IfSome o (λ x. x ≡ [])) (sym sync.stays.seen) gone) (λ x now. none x (sync.stays.kept x now))
