-- Where the cores and the nodes are the same, the targets are the same exactly where the marks are.
use Rattle.std.proofs.Common.{◌≡◌, ◌∙◌, Bool, true, false, IsTrue, refl, sym, subst}
use mathlib.Core.Bool.{beq}
use Rattle.std.proofs.lemmas.Bool.{eqb-true}
use Rattle.sc_replicas.proofs.CoreLemmas.{is_core-Decides}
use Rattle.sc_bucket.specs.declared.targets.Target.{Target}
use Rattle.sc_bucket.proofs.targets.Target.is_same.Goals as goal
use Rattle.sc_bucket.proofs.targets.Target.is_same.Goals.{then-eq, else-eq}

-- two marks
marks_same : (one other : Bool) → IsTrue (beq one other) → one ≡ other
marks_same true true is = refl
marks_same true false is = absurd (cc)
marks_same false true is = absurd (cc)
marks_same false false is = refl

mark_itself : (one : Bool) → IsTrue (beq one one)
mark_itself true = refl
mark_itself false = refl

targets_same : (one other : Target) → one.core ≡ other.core → one.node ≡ other.node
    → (IsTrue (beq one.follower other.follower) → one ≡ other) × (one ≡ other → IsTrue (beq one.follower other.follower))
targets_same one other core node = (
  λ is. let follower : one.follower ≡ other.follower = marks_same one.follower other.follower is in
      λ i. record { core = core i; node = node i; follower = follower i },
  λ same. subst (λ (these : Target). IsTrue (beq one.follower these.follower)) same (mark_itself one.follower),
)

pub returns-then-self-other : goal.returns-then-self-other
returns-then-self-other c =
    let one = c.args.self.now in
    let other = c.args.other.now in
    let parts : (one.core ≡ other.core) × (one.node ≡ other.node) =
    elim c.if-eq.branch [
      | then-eq w ↦ (
        (is_core-Decides one.core other.core).0 (sym c.eq.ensures ∙ w.if-eq.true),
        eqb-true one.node other.node (sym w.value-is ∙ c.if-self-other.true),
      )
      | else-eq w ↦ let no : false ≡ true = sym w.if-eq.false ∙ sym w.value-is ∙ c.if-self-other.true in absurd (cc)
    ] in
    targets_same one other parts.0 parts.1
