-- The first message whose place is this one is found.
use Rattle.std.proofs.Common.{◌≡◌, ◌≢◌, ap, rules}
use Rattle.std.proofs.lemmas.Iterator.{IsFirst-from_position, YieldsList-from_slice}
use borrow.Author.Tests.{tests}
use Rattle.sc_bucket.specs.declared.message.Message.{Message}
use Rattle.sc_bucket.specs.Kept.{FlightState}
use Rattle.sc_bucket.proofs.FlightLemmas.{first_of_items}
use Rattle.sc_bucket.proofs.flight.Flight.first_of.Goals as goal

pub returns : goal.returns
returns c =
    first_of_items c.args.place c.self.inside.messages.items c.args.self.now.messages c.position.result
    (ap (λ (s : FlightState). s.messages) c.self.view_is)
    (IsFirst-from_position _ _ _ (λ (message : Message). message.place ≡ c.args.place) (λ (message : Message). message.place ≢ c.args.place)
    c.position.ensures.ran (YieldsList-from_slice c.self.inside.messages.items cc)
    (λ x q k. search (rules, tests)) (λ x q k. search (rules, tests)))
