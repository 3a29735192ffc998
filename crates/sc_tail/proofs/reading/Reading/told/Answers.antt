use Rattle.std.proofs.Common.{Ok, ◌∙◌, arith}
use Rattle.sc_tail.specs.Tails.{read_bodies}
use Rattle.sc_tail.proofs.NextLemmas.{at_short, at_shut, at_cut, at_open}
use Rattle.sc_tail.proofs.reading.Reading.told.Goals as goal

pub returns-then-self-lt10-clause-end : goal.returns-then-self-lt10-clause-end
returns-then-self-lt10-clause-end g c =
    let self = c.args.self.now in
    let r = c.requires.reading in
    let seen = (g.F.LogFile.state c.args.file.now).seen in
    λ none. at_short (read_bodies self) self.at self.len seen r.seen (omega arith)

pub returns-then-head-ne1-clause-end : goal.returns-then-head-ne1-clause-end
returns-then-head-ne1-clause-end g c =
    let self = c.args.self.now in
    let r = c.requires.reading in
    let seen = (g.F.LogFile.state c.args.file.now).seen in
    λ none. at_shut (read_bodies self) self.at self.len seen r.seen c.read_whole.new.into c.read_whole.ensures.room (omega arith) (c.read_whole.ensures.filled (c.in_ok-read_whole.was ∙ (λ i. Ok (c.if-not-branch.false i)))) (omega arith)

pub returns-then-self-told-clause-end : goal.returns-then-self-told-clause-end
returns-then-self-told-clause-end g c =
    let self = c.args.self.now in
    let r = c.requires.reading in
    let seen = (g.F.LogFile.state c.args.file.now).seen in
    λ none. at_cut (read_bodies self) self.at self.len seen r.seen c.read_whole.new.into c.read_whole.ensures.room (omega arith) (c.read_whole.ensures.filled (c.in_ok-read_whole.was ∙ (λ i. Ok (c.if-not-branch.false i)))) (omega (arith, c.told_in-told.ensures.told))

pub returns-clause-told : goal.returns-clause-told
returns-clause-told g c =
    let self = c.args.self.now in
    let r = c.requires.reading in
    let seen = (g.F.LogFile.state c.args.file.now).seen in
    at_open (read_bodies self) self.at self.len seen r.seen c.read_whole.new.into c.read_whole.ensures.room (omega arith) (c.read_whole.ensures.filled (c.in_ok-read_whole.was ∙ (λ i. Ok (c.if-not-branch.false i)))) c.told_in-told.result (omega arith) c.told_in-told.ensures.told (omega arith) c.told_in-told.ensures.spelt
