-- The write of an order, or why there is none.
use Rattle.std.proofs.Common.{◌≡◌, ◌<ℤ◌, pos, to_z, of_z, w32, w64, sym, ap, ◌∙◌, subst, arith}
use Rattle.std.proofs.lemmas.Int.{ints}
use Rattle.std.proofs.lemmas.Result.{IfOk-weaker}
use Rattle.sc_record.specs.Versions.{version_after}
use Rattle.sc_record.specs.Writes.{write_of}
use Rattle.sc_record.proofs.VersionLemmas.{version_after-above_zero}
use Rattle.sc_router.specs.Route.{route_hash}
use Rattle.sc_replica.specs.Core.{Core}
use Rattle.sc_journal.specs.Journal.{last_write}
use Rattle.sc_journal.specs.Legal.{HasTerms}
use Rattle.sc_bucket.proofs.WriteLemmas.{write_may_follow, clock_can_rise, core_clock}
use Rattle.sc_bucket.proofs.SoundLemmas.{leader_reads}
use Rattle.sc_bucket.proofs.bucket.Bucket.write_for.Goals as goal

pub next_of-version-requires-clause-can_rise : goal.next_of-version-requires-clause-can_rise
next_of-version-requires-clause-can_rise c core there =
    clock_can_rise c.args.self.now core.clock c.requires.sound.journal (core_clock c.args.self.now c.args.leader core c.requires.sound there)

pub made_for-requires-clause-last : goal.made_for-requires-clause-last
made_for-requires-clause-last c =
    let core : Core = c.requires.leader.core in
    let there = c.requires.leader.found in
    c.next_of-version.ensures.last core there
    ∙ leader_reads c.args.self.now c.args.hash c.args.leader core c.args.order.now.id c.requires.sound c.requires.leader there c.requires.hash

pub made_for-requires-clause-positive : goal.made_for-requires-clause-positive
made_for-requires-clause-positive c =
    let core : Core = c.requires.leader.core in
    let there = c.requires.leader.found in
    let kept : to_z w64 (of_z w64 c.next_of-version.result.1) ≡ c.next_of-version.result.1 = omega (arith, ints) in
    let version : to_z w64 (of_z w64 c.next_of-version.result.1) ≡ version_after c.args.now core.clock = kept ∙ c.next_of-version.ensures.version core there in
    subst (λ v. pos 0 <ℤ v) (sym version)
    (version_after-above_zero c.args.now core.clock (c.next_of-version.ensures.core core there).from_zero)

pub returns-clause-made : goal.returns-clause-made
returns-clause-made c =
    let core : Core = c.requires.leader.core in
    let there = c.requires.leader.found in
    let kept : to_z w64 (of_z w64 c.next_of-version.result.1) ≡ c.next_of-version.result.1 = omega (arith, ints) in
    let version : to_z w64 (of_z w64 c.next_of-version.result.1) ≡ version_after c.args.now core.clock = kept ∙ c.next_of-version.ensures.version core there in
    IfOk-weaker c.made_for.result _ _
    (λ write made. record {
      id = made.1.id_is;
      document = made.0;
      version = (core.clock, core_clock c.args.self.now c.args.leader core c.requires.sound there, made.1.version_is ∙ version);
    })
    c.made_for.ensures.made

pub returns-clause-next : goal.returns-clause-next
returns-clause-next c =
    let core : Core = c.requires.leader.core in
    let there = c.requires.leader.found in
    let hash : to_z w32 (of_z w32 c.args.hash) ≡ c.args.hash = omega (arith, ints) in
    let kept : to_z w64 (of_z w64 c.next_of-version.result.1) ≡ c.next_of-version.result.1 = omega (arith, ints) in
    let version : to_z w64 (of_z w64 c.next_of-version.result.1) ≡ version_after c.args.now core.clock = kept ∙ c.next_of-version.ensures.version core there in
    let last : write_of core.cells c.args.order.now.id ≡ last_write c.args.self.now.journal.entries c.args.order.now.id =
    leader_reads c.args.self.now c.args.hash c.args.leader core c.args.order.now.id c.requires.sound c.requires.leader there c.requires.hash in
    IfOk-weaker c.made_for.result _ _
    (λ write made.
    write_may_follow c.args.self.now.first c.args.self.now.journal.entries core write c.args.now c.requires.sound.journal.legal
    (c.next_of-version.ensures.core core there) (core_clock c.args.self.now c.args.leader core c.requires.sound there)
    (subst (λ i. write_of core.cells i ≡ last_write c.args.self.now.journal.entries i) (sym made.1.id_is) last)
    (made.1.hash_is ∙ hash ∙ c.requires.hash ∙ ap route_hash (sym made.1.id_is))
    (subst (λ i. HasTerms i write.doc write.terms) (sym made.1.id_is) made.1.terms_are) (made.1.version_is ∙ version))
    c.made_for.ensures.made

pub returns-clause-hash : goal.returns-clause-hash
returns-clause-hash c =
    let hash : to_z w32 (of_z w32 c.args.hash) ≡ c.args.hash = omega (arith, ints) in
    IfOk-weaker c.made_for.result _ _ (λ write made. made.1.hash_is ∙ hash) c.made_for.ensures.made

pub returns-clause-version : goal.returns-clause-version
returns-clause-version c =
    let kept : to_z w64 (of_z w64 c.next_of-version.result.1) ≡ c.next_of-version.result.1 = omega (arith, ints) in
    IfOk-weaker c.made_for.result _ _
    (λ write made core there. made.1.version_is ∙ kept ∙ c.next_of-version.ensures.version core there)
    c.made_for.ensures.made
