-- A bucket that its pass gave back is out of the desk no more.
use Rattle.std.proofs.Common.{refl, ap, subst}
use Rattle.sc_bucket.specs.declared.bucket.Bucket.{Bucket}
use Rattle.sc_collection.specs.Desks.{Held, SeesGiven}
use Rattle.sc_shared.specs.Passes.{seen_of}
use Rattle.sc_shared.specs.Collections.{layout_of}
use Rattle.sc_shared.specs.Holding.{IsGiven}
use Rattle.sc_shared.proofs.GiveLemmas.{given_is_give, one_is_out}
use Rattle.sc_shared.proofs.shared.SharedDesk.give.Goals as goal

pub invariant_of-self : goal.invariant_of-self
invariant_of-self g c =
    let out = c.requires.is_out in
    let given =
    subst (λ (bucket : Bucket). IsGiven c.self.inside.collection.now c.args.b c.self.inside.passes c.give_bucket.new.passes c.take-turn.result.turn bucket)
    c.put-full.ensures c.give_bucket.ensures in
    record {
      shared_is = (given_is_give c.self.inside.collection.now c.self.inside.passes _ c.self.inside.bucket _ c.self.inside.board c.args.self.now out.0
          c.take-turn.result c.args.b c.args.bucket c.self.view_is c.self.invariant.shared_is out.1 out.2 c.take-turn.ensures.was out.3 c.take-turn.ensures.empty
          given).is;
      locks_are = c.self.invariant.locks_are;
    }

pub returns : goal.returns
returns g c =
    let out = c.requires.is_out in
    let given =
    subst (λ (bucket : Bucket). IsGiven c.self.inside.collection.now c.args.b c.self.inside.passes c.give_bucket.new.passes c.take-turn.result.turn bucket)
    c.put-full.ensures c.give_bucket.ensures in
    let give =
    given_is_give c.self.inside.collection.now c.self.inside.passes _ c.self.inside.bucket _ c.self.inside.board c.args.self.now out.0
    c.take-turn.result c.args.b c.args.bucket c.self.view_is c.self.invariant.shared_is out.1 out.2 c.take-turn.ensures.was out.3 c.take-turn.ensures.empty
    given in
    record {
      seen = λ other is_other. subst (λ (held : Held). SeesGiven held c.args.bucket (seen_of c.args.self.now.passes) (seen_of c.give_bucket.new.passes))
          (one_is_out c.args.self.now out.0 other out.1 is_other) give.sees;
      out = give.out;
      legal = give.legal;
      layout = ap layout_of give.locks;
      keepers = λ keepers fits. (give.keepers keepers.keepers.items fits, record { part = λ number. refl; own = λ number. refl });
    }
