-- A core of this number is found.
use Rattle.std.proofs.Common.{◌≡◌, true, false, Contains, sym, ap, subst, rules}
use Rattle.std.proofs.lemmas.Iterator.{first_from_find, YieldsList-from_slice}
use borrow.Author.Tests.{tests}
use Rattle.sc_record.specs.declared.slice.CoreId.{CoreId}
use Rattle.sc_replica.specs.Core.{Core}
use Rattle.sc_replicas.specs.Cores.{is_numbered}
use Rattle.sc_replicas.proofs.FindLemmas.{found_passes}
use Rattle.sc_replicas.proofs.replicas.Replicas.seat_of.Goals as goal

pub returns : goal.returns
returns c =
    let core : Core = c.in_ok-replica.replica.now in
    let (there, passes) = found_passes (λ replica. replica.now) (is_numbered c.args.slice c.args.number) c.self.inside.replicas.items
    c.find.result c.in_ok-replica.replica
    (first_from_find _ _ _ (λ (one : Core). is_numbered c.args.slice c.args.number one ≡ true)
    (λ (one : Core). is_numbered c.args.slice c.args.number one ≡ false)
    c.find.ensures.ran (YieldsList-from_slice c.self.inside.replicas.items cc) (λ x q k. search (rules, tests))
    (λ x q k. search (rules, tests))) c.in_ok-replica.was in (
      core,
      subst (λ cores. Contains cores core) c.self.view_is there,
      ap (λ (id : CoreId). id.replica) (sym c.core.ensures.value),
      passes,
    )
