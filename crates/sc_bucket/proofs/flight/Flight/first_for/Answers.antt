-- The message of the write to the core is found.
use Rattle.std.proofs.Common.{◌≡◌, ap, subst, true, false, rules}
use Rattle.std.proofs.lemmas.Iterator.{IsFirst-from_position, YieldsList-from_slice}
use borrow.Author.Tests.{tests}
use Rattle.sc_bucket.specs.declared.message.Message.{Message}
use Rattle.sc_bucket.specs.Kept.{FlightState}
use Rattle.sc_bucket.specs.Flight.{sent_of, is_for}
use Rattle.sc_replicas.proofs.FindLemmas.{IsFirstThat, first_from_search, first-mapped}
use Rattle.sc_bucket.proofs.flight.Flight.first_for.Goals as goal

pub returns : goal.returns
returns c =
    let passes : Message → _ = λ (message : Message). is_for c.args.place c.args.core (sent_of message) in
    subst (λ messages. IsFirstThat (is_for c.args.place c.args.core) messages c.position.result) (ap (λ (s : FlightState). s.messages) c.self.view_is)
    (first-mapped (is_for c.args.place c.args.core) sent_of c.self.inside.messages.items c.position.result
    (first_from_search passes c.self.inside.messages.items c.position.result
    (IsFirst-from_position _ _ _ (λ (message : Message). passes message ≡ true)
    (λ (message : Message). passes message ≡ false)
    c.position.ensures.ran (YieldsList-from_slice c.self.inside.messages.items cc)
    (λ x q k. search (rules, tests)) (λ x q k. search (rules, tests)))))
