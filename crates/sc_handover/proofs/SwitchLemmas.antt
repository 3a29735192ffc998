-- Once all is delivered to the cores of the subs a switch may come still, of the split that is open.
use Rattle.std.proofs.Common.{◌≡◌, Some, sym, ap, ◌∙◌, subst}
use Rattle.sc_record.specs.declared.slice.SliceId.{SliceId}
use Rattle.sc_bucket.specs.declared.bucket.Bucket.{Bucket}
use Rattle.sc_bucket.specs.declared.phase.Phase.TheVariants as phases
use Rattle.sc_handover.specs.Conditions.{CanSwitch, split_of}
use Rattle.sc_handover.specs.Parts.{DeliversToSubs}
use Rattle.sc_handover.proofs.SubLemmas.{CanSwitch-alike}
use Rattle.sc_handover.proofs.SettleSubsLemmas.{AreAlike-to_subs}

-- a switch may come of the split that is open, and of no other
same_parent : (b : Bucket) (one other : SliceId) → CanSwitch b one → b.phase ≡ phases.Recovering other → one ≡ other
same_parent b one other can is =
    let both : Some one ≡ Some other = ap split_of (sym can.recovering ∙ is) in
    cc

-- it may come still once all is delivered to the cores of the subs
pub CanSwitch-settled : (old new : Bucket) (one other : SliceId) → CanSwitch old one → old.phase ≡ phases.Recovering other
    → DeliversToSubs old new → CanSwitch new other
CanSwitch-settled old new one other can is all =
    CanSwitch-alike old new other all.split.phase all.map_is (AreAlike-to_subs old new all)
    (subst (CanSwitch old) (same_parent old one other can is) can)
