-- Each test tells of the entry whether it may come.
use Rattle.std.proofs.Common.{◌↔◌, ◌<ℤ◌, pos, IsTrue, length, ap, subst, arith}
use Rattle.sc_record.specs.Writes.{Write}
use Rattle.sc_record.specs.declared.entry.Entry.TheVariants as entry
use Rattle.sc_legal.specs.Passed.{Passed}
use Rattle.sc_journal.specs.Computed.{HasComputed}
use Rattle.sc_legal.specs.Kept.{entries_of}
use Rattle.sc_legal.proofs.KeptLemmas.{writes_within}
use Rattle.sc_legal.proofs.MayLemmas.{IsTimely, may_write, may_be_split, may_be_dropped, may_go_down, may_come_up, may_lead, told, seen_as, if_ok}
use Rattle.sc_legal.proofs.checker.Checker.allows.Goals as goal

pub may_write-requires : goal.may_write-requires
may_write-requires c =
    let is = c.self.invariant.kept_is in
    let within = writes_within c.self.inside.first (entries_of c.self.inside.passed.items) c.self.inside.kept is in
    let same = ap (λ (p : Passed). length p.journal) c.self.view_is in
    let few = c.requires.few in
    let count = is.entries_are in
    omega (arith, within, count, same, few)

pub returns-in-Write-clause-exactly : goal.returns-in-Write-clause-exactly
returns-in-Write-clause-exactly c =
    let kept = c.self.inside.kept in
    let computed = subst HasComputed c.in-Write.is c.requires.computed in
    seen_as c.self.inside.first (entries_of c.self.inside.passed.items) c.args.self.now (entry.Write c.in-Write.cell) c.args.entry.now c.may_write.result
    c.self.view_is c.in-Write.is
    (told c.may_write.result
    (subst (λ (w : Write). IsTrue c.may_write.result ↔ IsTimely kept w) c.deref.ensures c.may_write.ensures.exactly)
    (may_write c.self.inside.first (entries_of c.self.inside.passed.items) kept c.in-Write.cell.value c.self.invariant computed
    (subst (λ (w : Write). pos 0 <ℤ w.version) c.deref.ensures c.may_write.ensures.positive)))

pub returns-in-Begun-clause-exactly : goal.returns-in-Begun-clause-exactly
returns-in-Begun-clause-exactly c =
    if_ok _ _ c.may_be_split.result
    (λ yes says. seen_as c.self.inside.first (entries_of c.self.inside.passed.items) c.args.self.now (entry.Begun c.in-Begun.parent c.in-Begun.subs)
    c.args.entry.now yes c.self.view_is c.in-Begun.is
    (told yes says (may_be_split c.self.inside.first (entries_of c.self.inside.passed.items) c.self.inside.kept c.in-Begun.parent c.in-Begun.subs
    c.self.invariant.kept_is)))
    c.may_be_split.ensures

pub returns-in-Dropped-clause-exactly : goal.returns-in-Dropped-clause-exactly
returns-in-Dropped-clause-exactly c =
    seen_as c.self.inside.first (entries_of c.self.inside.passed.items) c.args.self.now (entry.Dropped c.in-Dropped.slice) c.args.entry.now
    c.may_be_dropped.result c.self.view_is c.in-Dropped.is
    (told c.may_be_dropped.result c.may_be_dropped.ensures
    (may_be_dropped c.self.inside.first (entries_of c.self.inside.passed.items) c.self.inside.kept c.in-Dropped.slice c.self.invariant.kept_is))

pub returns-in-Down-clause-exactly : goal.returns-in-Down-clause-exactly
returns-in-Down-clause-exactly c =
    seen_as c.self.inside.first (entries_of c.self.inside.passed.items) c.args.self.now (entry.Down c.in-Down.core) c.args.entry.now
    c.may_go_down.result c.self.view_is c.in-Down.is
    (told c.may_go_down.result c.may_go_down.ensures
    (may_go_down c.self.inside.first (entries_of c.self.inside.passed.items) c.self.inside.kept c.in-Down.core c.self.invariant.kept_is))

pub returns-in-Up-clause-exactly : goal.returns-in-Up-clause-exactly
returns-in-Up-clause-exactly c =
    seen_as c.self.inside.first (entries_of c.self.inside.passed.items) c.args.self.now (entry.Up c.in-Up.core) c.args.entry.now
    c.may_come_up.result c.self.view_is c.in-Up.is
    (told c.may_come_up.result c.may_come_up.ensures
    (may_come_up c.self.inside.first (entries_of c.self.inside.passed.items) c.self.inside.kept c.in-Up.core c.self.invariant.kept_is))

pub returns-in-Led-clause-exactly : goal.returns-in-Led-clause-exactly
returns-in-Led-clause-exactly c =
    seen_as c.self.inside.first (entries_of c.self.inside.passed.items) c.args.self.now (entry.Led c.in-Led.core) c.args.entry.now
    c.may_lead.result c.self.view_is c.in-Led.is
    (told c.may_lead.result c.may_lead.ensures
    (may_lead c.self.inside.first (entries_of c.self.inside.passed.items) c.self.inside.kept c.in-Led.core c.self.invariant.kept_is))
