-- The first message to the core is found.
use Rattle.std.proofs.Common.{◌≡◌, ap, subst, true, false, rules}
use Rattle.std.proofs.lemmas.Iterator.{IsFirst-from_position, YieldsList-from_slice}
use borrow.Author.Tests.{tests}
use Rattle.sc_bucket.specs.declared.message.Message.{Message}
use Rattle.sc_bucket.specs.Kept.{FlightState}
use Rattle.sc_record.specs.Names.{is_core}
use Rattle.sc_bucket.specs.Flight.{sent_of, is_to}
use Rattle.sc_replicas.proofs.FindLemmas.{IsFirstThat, first_from_search, first-mapped}
use Rattle.sc_bucket.proofs.flight.Flight.first_to.Goals as goal

pub returns : goal.returns
returns c =
    subst (λ messages. IsFirstThat (is_to c.args.core) messages c.position.result) (ap (λ (s : FlightState). s.messages) c.self.view_is)
    (first-mapped (is_to c.args.core) sent_of c.self.inside.messages.items c.position.result
    (first_from_search (λ (message : Message). is_core c.args.core message.core) c.self.inside.messages.items c.position.result
    (IsFirst-from_position _ _ _ (λ (message : Message). is_core c.args.core message.core ≡ true)
    (λ (message : Message). is_core c.args.core message.core ≡ false)
    c.position.ensures.ran (YieldsList-from_slice c.self.inside.messages.items cc)
    (λ x q k. search (rules, tests)) (λ x q k. search (rules, tests)))))
